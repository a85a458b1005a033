-- `session_learn::entry_with` meets its contract, with the step and without.
use Rattle.std.specs.Prelude.{Option, Some}
use mathlib.Core.Path.{◌≡◌, sym, ap, subst, ◌∙◌}
use Prim.Native.Nat.{ℕ, ◌+◌, ◌*◌}
use native.Mathlib.Omega.{arith}
use lib.IntN.{ℤ}
use mir.Syntax.{w64}
use mir.Val.{to_z, of_z}
use mir.Facts.{to_z-of_z}
use Rattle.integers.proofs.Bits.{kept}
use Rattle.lines.specs.Line.{number}
use Rattle.steps.specs.declared.Step.{Step}
use Rattle.theory_bounds.specs.Tight.{Table}
use Rattle.theory_inserting.specs.Two.{insert_named}
use Rattle.decide_rows.specs.Stored.{stored}
use Rattle.decide_rows.specs.Read.{Short, short_more, weight_fits}
use Rattle.decide_rows.specs.Numbers.{StepOk}
use Rattle.session_step.specs.Read.{small_table, small_short}
use Rattle.session_learn.specs.With.{max_way, NamedStepOk, way_ready, with_step}
use Rattle.session_learn.proofs.entry_with.Goals.{After-read_at-after, In-Some}
use Rattle.session_learn.proofs.entry_with.Goals as goal

pub read_at-own-requires : goal.read_at-own-requires
read_at-own-requires c = (c.requires.table, c.requires.u_lt, c.requires.v_lt)

-- the step that is there
module _ (c : In-Some) where
  abbrev D : Table
  D = small_table (2 * c.args.n) c.args.table.now

  small : (u v : ℕ) → Short max_way (D u v)
  small u v = short_more (omega arith) (small_short (number c.args.table.now (v * (2 * c.args.n) + u)))

  abbrev found : Step
  found = c.in-Some.s

  is : c.args.x ≡ Some found
  is = c.in-Some.is

  ok : StepOk c.args.n found
  ok = subst (NamedStepOk c.args.n) is c.requires.step

  weight_is : to_z w64 (of_z w64 found.weight) ≡ found.weight
  weight_is = to_z-of_z (weight_fits found.weight ok.small)

pub read_at-before-requires : goal.read_at-before-requires
read_at-before-requires c = (c.requires.table, c.requires.u_lt, (ok c).from_lt)

pub read_at-after-requires : goal.read_at-after-requires
read_at-after-requires c = (c.requires.table, (ok (goal.at.read_at-after-requires c).In-Some).to_lt, c.requires.v_lt)

-- the three entries
module _ (c : After-read_at-after) where
  abbrev own : ℤ
  own = to_z w64 (of_z w64 c.read_at-own.result)

  abbrev first : ℤ
  first = to_z w64 (of_z w64 c.read_at-before.result)

  abbrev last : ℤ
  last = to_z w64 (of_z w64 c.read_at-after.result)

  own_is : own ≡ stored (D (goal.at.After-read_at-after c).In-Some c.args.u c.args.v)
  own_is = kept w64 c.read_at-own.result c.read_at-own.type_inv ∙ c.read_at-own.ensures

  first_is : first ≡ stored (D (goal.at.After-read_at-after c).In-Some c.args.u (found (goal.at.After-read_at-after c).In-Some).from)
  first_is = kept w64 c.read_at-before.result c.read_at-before.type_inv ∙ c.read_at-before.ensures

  last_is : last ≡ stored (D (goal.at.After-read_at-after c).In-Some (found (goal.at.After-read_at-after c).In-Some).to c.args.v)
  last_is = kept w64 c.read_at-after.result c.read_at-after.type_inv ∙ c.read_at-after.ensures

pub way_with-requires : goal.way_with-requires
way_with-requires c =
    rw (weight_is (goal.at.way_with-requires c).In-Some) (way_ready (D (goal.at.way_with-requires c).In-Some) (small (goal.at.way_with-requires c).In-Some) (found (goal.at.way_with-requires c).In-Some) c.args.u c.args.v (own (goal.at.way_with-requires c).After-read_at-after) (first (goal.at.way_with-requires c).After-read_at-after) (last (goal.at.way_with-requires c).After-read_at-after) (own_is (goal.at.way_with-requires c).After-read_at-after) (first_is (goal.at.way_with-requires c).After-read_at-after) (last_is (goal.at.way_with-requires c).After-read_at-after) (ok (goal.at.way_with-requires c).In-Some).small)

pub returns-in-Some : goal.returns-in-Some
returns-in-Some c =
    let a = c.args in
    kept w64 c.way_with.result c.way_with.type_inv
    ∙ with_step (D (goal.at.returns-in-Some c).In-Some) (small (goal.at.returns-in-Some c).In-Some) (found (goal.at.returns-in-Some c).In-Some) a.u a.v (own (goal.at.returns-in-Some c).After-read_at-after) (first (goal.at.returns-in-Some c).After-read_at-after) (last (goal.at.returns-in-Some c).After-read_at-after) (own_is (goal.at.returns-in-Some c).After-read_at-after) (first_is (goal.at.returns-in-Some c).After-read_at-after) (last_is (goal.at.returns-in-Some c).After-read_at-after) c.way_with.result (rw (weight_is (goal.at.returns-in-Some c).In-Some) at c.way_with.ensures)
    ∙ ap (λ (y : Option Step). stored (insert_named (D (goal.at.returns-in-Some c).In-Some) y a.u a.v)) (sym (is (goal.at.returns-in-Some c).In-Some))

pub returns : goal.returns
returns c =
    kept w64 c.read_at-own.result c.read_at-own.type_inv
    ∙ c.read_at-own.ensures
    ∙ ap (λ (y : Option Step). stored (insert_named (small_table (2 * c.args.n) c.args.table.now) y c.args.u c.args.v)) (sym c.in_default.is)
