-- `session_learn::entry_with_both` meets its contract, with the second step and without.
use Rattle.std.specs.Prelude.{Option, Some}
use mathlib.Core.Path.{◌≡◌, sym, ap, subst, ◌∙◌}
use Prim.Native.Nat.{ℕ, ◌*◌}
use lib.IntN.{ℤ}
use mir.Syntax.{w64}
use mir.Val.{to_z, of_z}
use mir.Facts.{to_z-of_z}
use Rattle.integers.proofs.Bits.{kept}
use Rattle.steps.specs.declared.Step.{Step}
use Rattle.theory_bounds.specs.Tight.{Table}
use Rattle.theory_inserting.specs.Two.{insert_named}
use Rattle.decide_rows.specs.Stored.{stored}
use Rattle.decide_rows.specs.Read.{Short, weight_fits}
use Rattle.decide_rows.specs.Numbers.{StepOk}
use Rattle.session_step.specs.Read.{small_table}
use Rattle.session_learn.specs.With.{max_way, NamedStepOk, once_short, way_ready, with_step}
use Rattle.session_learn.proofs.entry_with_both.Goals.{After-entry_with-after, In-Some}
use Rattle.session_learn.proofs.entry_with_both.Goals as goal

pub entry_with-own-requires : goal.entry_with-own-requires
entry_with-own-requires c = c.requires.0

-- the step that is there
module _ (c : In-Some) where
  abbrev D : Table
  D = insert_named (small_table (2 * c.args.n) c.args.table.now) c.args.x

  small : (u v : ℕ) → Short max_way (D u v)
  small = once_short c.args.n c.args.table.now c.args.x c.requires.0.step

  abbrev found : Step
  found = c.in-Some.s

  is : c.args.y ≡ Some found
  is = c.in-Some.is

  ok : StepOk c.args.n found
  ok = subst (NamedStepOk c.args.n) is c.requires.1.step

  weight_is : to_z w64 (of_z w64 found.weight) ≡ found.weight
  weight_is = to_z-of_z (weight_fits found.weight ok.small)

pub entry_with-before-requires : goal.entry_with-before-requires
entry_with-before-requires c = record { table = c.requires.0.table; step = c.requires.0.step; u_lt = c.requires.0.u_lt; v_lt = (ok c).from_lt }

pub entry_with-after-requires : goal.entry_with-after-requires
entry_with-after-requires c = record { table = c.requires.0.table; step = c.requires.0.step; u_lt = (ok (goal.at.entry_with-after-requires c).In-Some).to_lt; v_lt = c.requires.0.v_lt }

-- the three entries
module _ (c : After-entry_with-after) where
  abbrev own : ℤ
  own = to_z w64 (of_z w64 c.entry_with-own.result)

  abbrev first : ℤ
  first = to_z w64 (of_z w64 c.entry_with-before.result)

  abbrev last : ℤ
  last = to_z w64 (of_z w64 c.entry_with-after.result)

  own_is : own ≡ stored (D (goal.at.After-entry_with-after c).In-Some c.args.u c.args.v)
  own_is = kept w64 c.entry_with-own.result c.entry_with-own.type_inv ∙ c.entry_with-own.ensures

  first_is : first ≡ stored (D (goal.at.After-entry_with-after c).In-Some c.args.u (found (goal.at.After-entry_with-after c).In-Some).from)
  first_is = kept w64 c.entry_with-before.result c.entry_with-before.type_inv ∙ c.entry_with-before.ensures

  last_is : last ≡ stored (D (goal.at.After-entry_with-after c).In-Some (found (goal.at.After-entry_with-after c).In-Some).to c.args.v)
  last_is = kept w64 c.entry_with-after.result c.entry_with-after.type_inv ∙ c.entry_with-after.ensures

pub way_with-requires : goal.way_with-requires
way_with-requires c =
    rw (weight_is (goal.at.way_with-requires c).In-Some) (way_ready (D (goal.at.way_with-requires c).In-Some) (small (goal.at.way_with-requires c).In-Some) (found (goal.at.way_with-requires c).In-Some) c.args.u c.args.v (own (goal.at.way_with-requires c).After-entry_with-after) (first (goal.at.way_with-requires c).After-entry_with-after) (last (goal.at.way_with-requires c).After-entry_with-after) (own_is (goal.at.way_with-requires c).After-entry_with-after) (first_is (goal.at.way_with-requires c).After-entry_with-after) (last_is (goal.at.way_with-requires c).After-entry_with-after) (ok (goal.at.way_with-requires c).In-Some).small)

pub returns-in-Some : goal.returns-in-Some
returns-in-Some c =
    let a = c.args in
    kept w64 c.way_with.result c.way_with.type_inv
    ∙ with_step (D (goal.at.returns-in-Some c).In-Some) (small (goal.at.returns-in-Some c).In-Some) (found (goal.at.returns-in-Some c).In-Some) a.u a.v (own (goal.at.returns-in-Some c).After-entry_with-after) (first (goal.at.returns-in-Some c).After-entry_with-after) (last (goal.at.returns-in-Some c).After-entry_with-after) (own_is (goal.at.returns-in-Some c).After-entry_with-after) (first_is (goal.at.returns-in-Some c).After-entry_with-after) (last_is (goal.at.returns-in-Some c).After-entry_with-after) c.way_with.result (rw (weight_is (goal.at.returns-in-Some c).In-Some) at c.way_with.ensures)
    ∙ ap (λ (y : Option Step). stored (insert_named (D (goal.at.returns-in-Some c).In-Some) y a.u a.v)) (sym (is (goal.at.returns-in-Some c).In-Some))

pub returns : goal.returns
returns c =
    kept w64 c.entry_with-own.result c.entry_with-own.type_inv
    ∙ c.entry_with-own.ensures
    ∙ ap (λ (y : Option Step). stored (insert_named (insert_named (small_table (2 * c.args.n) c.args.table.now) c.args.x) y c.args.u c.args.v)) (sym c.in_default.is)
