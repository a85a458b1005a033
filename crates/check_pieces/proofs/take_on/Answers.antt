-- `check_pieces::take_on` meets its contract: what was tested grants what the checker's own step requires.
use Rattle.std.proofs.Common.{sym}
use Rattle.check_pieces.specs.Taken.{names_ok, small_test}
use Rattle.check_pieces.proofs.take_on.Goals as goal

pub take-requires : goal.take-requires
take-requires c = (names_ok _ _ (sym c.if-names_valid.ensures), small_test _ (sym c.if-is_small.ensures), c.if-kept-ge-MAX_REFUTATION.false)
