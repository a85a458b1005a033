-- `engine_restoring::close` meets its contract: each half keeps the table.
use Rattle.engine_reduced_table.specs.Reduced.{kept_trans}
use Rattle.engine_restoring.proofs.close.Goals as goal

pub returns : goal.returns
returns exit = kept_trans exit.eliminate_all.ensures exit.restore_all.ensures
