-- `session_kept::bound_of` meets its contract: a half that is a number is small, so that it is negated without loss.
use mathlib.Core.Path.{◌≡◌, sym, ap, ◌∙◌}
use Prim.Native.Nat.{ℕ, ◌+◌, ◌*◌, ◌%◌}
use lib.IntN.{pos, ◌-ℤ◌}
use mir.Syntax.{w64}
use mir.Val.{SFits, to_z, of_z}
use mir.Facts.{to_z-of_z}
use Rattle.integers.proofs.Bits.{kept}
use Rattle.theory_bounds.specs.Tight.{halves}
use Rattle.decide_rows.specs.Stored.{stored}
use Rattle.decide_rows.specs.Read.{no_walk_lem}
use Rattle.session_step.specs.Read.{small_table}
use Rattle.session_kept.specs.Laws.{bound_none_at, bound_some_at, bound_fits}
use Rattle.session_kept.proofs.bound_of.Goals.{After-half_of-half, Else-half-eq-NO_WALK}
use Rattle.session_kept.proofs.bound_of.Goals as goal

-- the half of the minus point
module _ (c : After-half_of-half) where
  abbrev N : ℕ
  N = 2 * c.args.n

  even : c.args.i % 2 ≡ 1 → ⊥
  even = c.if-i-eq1.false

  read : to_z w64 (of_z w64 c.half_of-half.result) ≡ stored (halves (small_table N c.args.table.now) (c.args.i + 1))
  read = kept w64 c.half_of-half.result c.half_of-half.type_inv ∙ c.half_of-half.ensures

pub returns-then-half-eq-NO_WALK : goal.returns-then-half-eq-NO_WALK
returns-then-half-eq-NO_WALK c =
    bound_none_at (N (goal.at.returns-then-half-eq-NO_WALK c).After-half_of-half) c.args.table.now c.args.i (even (goal.at.returns-then-half-eq-NO_WALK c).After-half_of-half) _ (read (goal.at.returns-then-half-eq-NO_WALK c).After-half_of-half) (ap (to_z w64) c.if-half-eq-NO_WALK.true)

-- where it is a number
module _ (c : Else-half-eq-NO_WALK) where
  some : to_z w64 (of_z w64 c.half_of-half.result) ≡ no_walk_lem → ⊥
  some e = c.if-half-eq-NO_WALK.false (ap (of_z w64) (sym (kept w64 c.half_of-half.result c.half_of-half.type_inv) ∙ e))

  fits : SFits w64 (pos 0 -ℤ to_z w64 (of_z w64 c.half_of-half.result))
  fits = bound_fits (N (goal.at.Else-half-eq-NO_WALK c).After-half_of-half) c.args.table.now c.args.i (even (goal.at.Else-half-eq-NO_WALK c).After-half_of-half) _ (read (goal.at.Else-half-eq-NO_WALK c).After-half_of-half) some

pub overflow_sub-result : goal.overflow_sub-result
overflow_sub-result c = fits c

pub returns : goal.returns
returns c = to_z-of_z (fits c) ∙ bound_some_at (N (goal.at.returns c).After-half_of-half) c.args.table.now c.args.i (even (goal.at.returns c).After-half_of-half) _ (read (goal.at.returns c).After-half_of-half) (some c)
