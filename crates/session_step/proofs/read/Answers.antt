-- `session_step::read` meets its contract.
use mathlib.Core.Path.{◌≡◌, sym, ap, ◌∙◌}
use mir.Facts.{to_z-of_z}
use Rattle.integers.specs.Integer.{is_within_lem}
use Rattle.decide_rows.specs.Read.{max_distance}
use Rattle.session_step.specs.Read.{small_yes, small_no}
use Rattle.session_step.proofs.read.Goals.{After-between}
use Rattle.session_step.proofs.read.Goals as goal

test : (c : After-between) → c.between.result ≡ is_within_lem max_distance c.args.entry
test c = c.between.ensures ∙ ap (is_within_lem max_distance) (to_z-of_z c.ranges.entry)

pub returns-then-between : goal.returns-then-between
returns-then-between c =
    to_z-of_z c.ranges.entry ∙ small_yes c.args.entry (sym (test (goal.at.returns-then-between c).After-between) ∙ c.if-between.true)

pub returns-else-between : goal.returns-else-between
returns-else-between c = small_no c.args.entry (sym (test (goal.at.returns-else-between c).After-between) ∙ c.if-between.false)
