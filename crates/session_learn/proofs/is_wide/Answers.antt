-- `session_learn::is_wide` meets its contract: the way back is tested against the slack without the weight.
use Rattle.std.specs.Prelude.{Some}
use mathlib.Core.Path.{◌≡◌, sym, ap, ap₂, subst, ◌∙◌}
use Prim.Native.Nat.{◌*◌}
use lib.IntN.{◌-ℤ◌}
use lib.Signed.{lt_z}
use mir.Syntax.{w64}
use mir.Val.{to_z, of_z}
use mir.Facts.{to_z-of_z}
use Rattle.integers.proofs.Bits.{kept}
use Rattle.steps.specs.declared.Step.{Step}
use Rattle.theory_bounds.specs.Tight.{Table}
use Rattle.theory_inserting.specs.Two.{insert_named}
use Rattle.theory_kept.specs.Slack.{equal_slack, wide_step}
use Rattle.decide_rows.specs.Read.{weight_fits}
use Rattle.decide_rows.specs.Numbers.{StepOk}
use Rattle.session_step.specs.Read.{small_table}
use Rattle.session_learn.specs.With.{NamedStepOk, wide_stored, slack_fits}
use Rattle.session_learn.proofs.is_wide.Goals.{In-Some}
use Rattle.session_learn.proofs.is_wide.Goals as goal

-- the step that is there
module _ (c : In-Some) where
  abbrev found : Step
  found = c.in-Some.s

  is : c.args.step ≡ Some found
  is = c.in-Some.is

  ok : StepOk c.args.n found
  ok = subst (NamedStepOk c.args.n) is c.requires.1

  abbrev D : Table
  D = insert_named (insert_named (small_table (2 * c.args.n) c.args.table.now) c.args.x) c.args.y

  weight_is : to_z w64 (of_z w64 found.weight) ≡ found.weight
  weight_is = to_z-of_z (weight_fits found.weight ok.small)

  slack_is : to_z w64 (of_z w64 (equal_slack -ℤ to_z w64 (of_z w64 found.weight))) ≡ equal_slack -ℤ found.weight
  slack_is = rw weight_is (to_z-of_z (slack_fits found.weight ok.small))

pub entry_with_both-back-requires : goal.entry_with_both-back-requires
entry_with_both-back-requires c =
    let p = c.requires.0 in (
      record { table = p.table; step = p.first; u_lt = (ok c).to_lt; v_lt = (ok c).from_lt },
      record { table = p.table; step = p.second; u_lt = (ok c).to_lt; v_lt = (ok c).from_lt },
    )

pub overflow_sub-result : goal.overflow_sub-result
overflow_sub-result c = rw (weight_is (goal.at.overflow_sub-result c).In-Some) (slack_fits (found (goal.at.overflow_sub-result c).In-Some).weight (ok (goal.at.overflow_sub-result c).In-Some).small)

pub returns-in-Some : goal.returns-in-Some
returns-in-Some c =
    let z = c.entry_with_both-back.result in
    ap₂ lt_z (slack_is (goal.at.returns-in-Some c).In-Some) (kept w64 z c.entry_with_both-back.type_inv ∙ c.entry_with_both-back.ensures)
    ∙ wide_stored (D (goal.at.returns-in-Some c).In-Some (found (goal.at.returns-in-Some c).In-Some).to (found (goal.at.returns-in-Some c).In-Some).from) (found (goal.at.returns-in-Some c).In-Some).weight (ok (goal.at.returns-in-Some c).In-Some).small
    ∙ sym (ap (wide_step (D (goal.at.returns-in-Some c).In-Some)) (is (goal.at.returns-in-Some c).In-Some))
