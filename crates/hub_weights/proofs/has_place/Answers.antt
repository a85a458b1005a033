-- `hub_weights::has_place` meets its contract, test by test.
use mathlib.Core.Path.{◌∙◌}
use borrow.Author.Tests.{eqb-true}
use Rattle.integers.specs.Laws.{never}
use Rattle.hub_weights.specs.Put.{placed_from, placed_to, placed_own}
use Rattle.hub_weights.proofs.has_place.Goals as goal

pub returns-then-from-to : goal.returns-then-from-to
returns-then-from-to c = λ e. never (cc)

pub returns-then-from_hub : goal.returns-then-from_hub
returns-then-from_hub c = λ e. placed_from c.if-from-to.false c.if-from_hub.true

pub returns-then-to-lt-HUB_POINTS : goal.returns-then-to-lt-HUB_POINTS
returns-then-to-lt-HUB_POINTS c = λ e. placed_to c.if-from-to.false c.if-to-lt-HUB_POINTS.true

pub returns : goal.returns
returns c = λ e. placed_own c.if-from-to.false (eqb-true _ _ e ∙ c.opposite_of.ensures)
