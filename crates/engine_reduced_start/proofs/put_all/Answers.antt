-- `engine_reduced_start::put_all` meets its contract.
use Rattle.engine_reduced_table.specs.Reduced.{kept_trans}
use Rattle.engine_reduced_start.proofs.put_all.Goals as goal

pub returns : goal.returns
returns c = kept_trans c.put_diagonal.ensures c.put_steps.ensures
