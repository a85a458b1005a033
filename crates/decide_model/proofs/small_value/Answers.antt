-- `decide_model::small_value` meets its contract.
use mathlib.Core.Path.{◌≡◌, sym, ap, ◌∙◌}
use mir.Facts.{to_z-of_z}
use Rattle.integers.specs.Integer.{is_within_lem}
use Rattle.decide_model.specs.Limit.{max_model}
use Rattle.decide_model.specs.Values.{value_yes, value_no}
use Rattle.decide_model.proofs.small_value.Goals.{After-between}
use Rattle.decide_model.proofs.small_value.Goals as goal

test : (c : After-between) → c.between.result ≡ is_within_lem max_model c.args.value
test c = c.between.ensures ∙ ap (is_within_lem max_model) (to_z-of_z c.ranges.value)

pub returns-then-between : goal.returns-then-between
returns-then-between c =
    to_z-of_z c.ranges.value ∙ value_yes c.args.value (sym (test (goal.at.returns-then-between c).After-between) ∙ c.if-between.true)

pub returns-else-between : goal.returns-else-between
returns-else-between c = value_no c.args.value (sym (test (goal.at.returns-else-between c).After-between) ∙ c.if-between.false)
