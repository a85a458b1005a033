-- `hub_weights::put_step` meets its contract: first the row of the steps to the hub, then that of the steps to the opposite.
use mathlib.Core.Path.{◌≡◌, sym, subst, ◌∙◌}
use mathlib.Core.List.{List, [], ◌∷◌}
use Prim.Native.Nat.{ℕ, ◌+◌, ◌*◌, ◌<◌, ◌≤◌}
use native.Mathlib.Omega.{arith}
use lib.IntN.{ℤ}
use lib.ListN.{length}
use mir.Syntax.{w64}
use mir.Val.{to_z, of_z}
use mir.Facts.{to_z-of_z}
use Rattle.integers.specs.Integer.{◌⩽◌}
use Rattle.lines.specs.Line.{number}
use Rattle.steps.specs.declared.Step.{Step}
use Rattle.steps.specs.Point.{opposite}
use Rattle.theory_hub.specs.Hub.{hub_points, own_row, weight_rows}
use Rattle.decide_rows.specs.Read.{weight_fits}
use Rattle.hub_weights.specs.Lowered.{Lowered}
use Rattle.hub_weights.specs.Put.{hub_target, Lowers, lowers_none, lowers_at, row_end, StepsPut, step_put}
use Rattle.hub_weights.proofs.put_step.Goals.{After-struct_told-1, After-work-then-to-opposite_of-1, Else-to-opposite_of, Joined-to-lt-HUB_POINTS, then-to-lt-HUB_POINTS, else-to-lt-HUB_POINTS}
use Rattle.hub_weights.proofs.put_step.Goals as goal

module _ (told : After-struct_told-1) where
  abbrev t : Step
  t = told.args.step

  abbrev size : ℕ
  size = told.args.size

  abbrev w : List ℤ
  w = told.args.work.now

  weight_is : to_z w64 (of_z w64 t.weight) ≡ t.weight
  weight_is = to_z-of_z (weight_fits _ told.requires.light)

  hub_row : t.to < hub_points → t.to * size + size ≤ weight_rows * size
  hub_row h = row_end size t.to (omega (arith, h))

-- after the first row
module _ (j : Joined-to-lt-HUB_POINTS) where
  -- what it leaves
  abbrev Left : List ℤ → Type 0
  Left x = Lowers (size (goal.at.Joined-to-lt-HUB_POINTS j).After-struct_told-1) (t (goal.at.Joined-to-lt-HUB_POINTS j).After-struct_told-1 ∷ []) (w (goal.at.Joined-to-lt-HUB_POINTS j).After-struct_told-1) x × ((t (goal.at.Joined-to-lt-HUB_POINTS j).After-struct_told-1).to < hub_points → number x ((t (goal.at.Joined-to-lt-HUB_POINTS j).After-struct_told-1).to * size (goal.at.Joined-to-lt-HUB_POINTS j).After-struct_told-1 + (t (goal.at.Joined-to-lt-HUB_POINTS j).After-struct_told-1).from) ⩽ (t (goal.at.Joined-to-lt-HUB_POINTS j).After-struct_told-1).weight)

  lowered : (t (goal.at.Joined-to-lt-HUB_POINTS j).After-struct_told-1).to < hub_points → (x : List ℤ) → Lowered ((t (goal.at.Joined-to-lt-HUB_POINTS j).After-struct_told-1).to * size (goal.at.Joined-to-lt-HUB_POINTS j).After-struct_told-1 + (t (goal.at.Joined-to-lt-HUB_POINTS j).After-struct_told-1).from) (t (goal.at.Joined-to-lt-HUB_POINTS j).After-struct_told-1).weight (w (goal.at.Joined-to-lt-HUB_POINTS j).After-struct_told-1) x → Left x
  lowered h x l = (lowers_at (t (goal.at.Joined-to-lt-HUB_POINTS j).After-struct_told-1).to (omega (arith, h)) j.requires.from_lt (hub_target (t (goal.at.Joined-to-lt-HUB_POINTS j).After-struct_told-1).to (t (goal.at.Joined-to-lt-HUB_POINTS j).After-struct_told-1).from h) l, λ _. l.under)

  first : Left j.if-to-lt-HUB_POINTS.work
  first =
      let told = (goal.at.Joined-to-lt-HUB_POINTS j).After-struct_told-1 in
      elim j.if-to-lt-HUB_POINTS.branch [
        | then-to-lt-HUB_POINTS came ↦ subst Left (sym came.work-is) (lowered came.if-to-lt-HUB_POINTS.true _ (rw (weight_is told) at came.lower.ensures))
        | else-to-lt-HUB_POINTS came ↦ subst Left (sym came.work-is) (lowers_none (size told) (t told ∷ []) (w told), λ h. absurd (omega (arith, h, came.if-to-lt-HUB_POINTS.false)))
      ]

  room : weight_rows * size (goal.at.Joined-to-lt-HUB_POINTS j).After-struct_told-1 ≤ length j.if-to-lt-HUB_POINTS.work
  room = omega (arith, j.requires.room, first.0.scratch.same_length)

pub overflow_mul-to : goal.overflow_mul-to
overflow_mul-to c = record { fits = omega (arith, hub_row (goal.at.overflow_mul-to c).After-struct_told-1 c.if-to-lt-HUB_POINTS.true, c.requires.few) }

pub overflow_add-to : goal.overflow_add-to
overflow_add-to c = record { fits = omega (arith, hub_row (goal.at.overflow_add-to c).After-struct_told-1 c.if-to-lt-HUB_POINTS.true, c.requires.few, c.requires.from_lt) }

pub lower-requires : goal.lower-requires
lower-requires c = omega (arith, hub_row (goal.at.lower-requires c).After-struct_told-1 c.if-to-lt-HUB_POINTS.true, c.requires.room, c.requires.from_lt)

pub lower-requires-then-to-opposite_of : goal.lower-requires-then-to-opposite_of
lower-requires-then-to-opposite_of c = omega (arith, room (goal.at.lower-requires-then-to-opposite_of c).Joined-to-lt-HUB_POINTS, c.requires.from_lt)

-- after both
module _ (c : After-work-then-to-opposite_of-1) where
  own : (t (goal.at.After-work-then-to-opposite_of-1 c).After-struct_told-1).to ≡ opposite (t (goal.at.After-work-then-to-opposite_of-1 c).After-struct_told-1).from
  own = c.if-to-opposite_of.true ∙ c.opposite_of.ensures

  last : Lowered (own_row * size (goal.at.After-work-then-to-opposite_of-1 c).After-struct_told-1 + (t (goal.at.After-work-then-to-opposite_of-1 c).After-struct_told-1).from) (t (goal.at.After-work-then-to-opposite_of-1 c).After-struct_told-1).weight c.if-to-lt-HUB_POINTS.work c.lower-then-to-opposite_of.new.work
  last = rw (weight_is (goal.at.After-work-then-to-opposite_of-1 c).After-struct_told-1) at c.lower-then-to-opposite_of.ensures

  both : StepsPut (size (goal.at.After-work-then-to-opposite_of-1 c).After-struct_told-1) (t (goal.at.After-work-then-to-opposite_of-1 c).After-struct_told-1 ∷ []) (w (goal.at.After-work-then-to-opposite_of-1 c).After-struct_told-1) c.lower-then-to-opposite_of.new.work
  both = step_put c.requires.placed (first (goal.at.After-work-then-to-opposite_of-1 c).Joined-to-lt-HUB_POINTS).0 (first (goal.at.After-work-then-to-opposite_of-1 c).Joined-to-lt-HUB_POINTS).1 (lowers_at own_row (omega arith) c.requires.from_lt own last) (λ _. last.under)

-- after the first alone
module _ (c : Else-to-opposite_of) where
  not_own : (t (goal.at.Else-to-opposite_of c).After-struct_told-1).to ≡ opposite (t (goal.at.Else-to-opposite_of c).After-struct_told-1).from → ⊥
  not_own e = c.if-to-opposite_of.false (e ∙ sym c.opposite_of.ensures)

  one : StepsPut (size (goal.at.Else-to-opposite_of c).After-struct_told-1) (t (goal.at.Else-to-opposite_of c).After-struct_told-1 ∷ []) (w (goal.at.Else-to-opposite_of c).After-struct_told-1) c.if-to-lt-HUB_POINTS.work
  one = step_put c.requires.placed (first (goal.at.Else-to-opposite_of c).Joined-to-lt-HUB_POINTS).0 (first (goal.at.Else-to-opposite_of c).Joined-to-lt-HUB_POINTS).1 (lowers_none (size (goal.at.Else-to-opposite_of c).After-struct_told-1) (t (goal.at.Else-to-opposite_of c).After-struct_told-1 ∷ []) c.if-to-lt-HUB_POINTS.work) (λ e. absurd (not_own e))

pub returns-then-to-opposite_of : goal.returns-then-to-opposite_of
returns-then-to-opposite_of c = both c

pub returns-else-to-opposite_of : goal.returns-else-to-opposite_of
returns-else-to-opposite_of c = one c
