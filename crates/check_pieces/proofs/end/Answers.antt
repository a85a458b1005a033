-- `check_pieces::end` meets its contract: what was tested grants what the checker's verdict requires.
use Rattle.std.proofs.Common.{sym}
use Rattle.check_pieces.specs.Taken.{small_test}
use Rattle.check_pieces.proofs.end.Goals as goal

pub judge-requires : goal.judge-requires
judge-requires c = small_test _ (sym c.if-not-is_small.ensures)
