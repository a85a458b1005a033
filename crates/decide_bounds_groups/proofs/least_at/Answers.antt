-- `decide_bounds_groups::least_at` meets its contract: a half that is a number is small, so that it is negated without loss.
use mathlib.Core.Path.{◌≡◌, sym, ap, ◌∙◌}
use Prim.Native.Nat.{◌*◌}
use native.Mathlib.Omega.{arith}
use lib.IntN.{pos, ◌-ℤ◌}
use mir.Syntax.{w64}
use mir.Val.{SFits, to_z, of_z}
use mir.Facts.{to_z-of_z}
use Rattle.integers.proofs.Bits.{kept}
use Rattle.steps.specs.Point.{point}
use Rattle.theory_walks.specs.Distance.{Distance}
use Rattle.theory_bounds.specs.Tight.{halves}
use Rattle.decide_rows.specs.Stored.{stored}
use Rattle.decide_rows.specs.Read.{no_walk_lem, Short, max_distance}
use Rattle.decide_stored_table.specs.Table.{table_of, halves_short}
use Rattle.decide_bounds_groups.specs.Reading.{within, least_none, least_some, minus_fits}
use Rattle.decide_bounds_groups.proofs.least_at.Goals.{After-half_at-half, Else-half-eq-NO_WALK}
use Rattle.decide_bounds_groups.proofs.least_at.Goals as goal

-- the half of the minus point
module _ (c : After-half_at-half) where
  abbrev half : Distance
  half = halves (table_of (2 * c.args.n) c.args.table.now) (point c.args.x 1)

  short : Short max_distance half
  short = halves_short c.args.n c.args.table.now c.requires.0 (point c.args.x 1) (omega arith)

  read : to_z w64 (of_z w64 c.half_at-half.result) ≡ stored half
  read = kept w64 c.half_at-half.result c.half_at-half.type_inv ∙ c.half_at-half.ensures

pub returns-then-half-eq-NO_WALK : goal.returns-then-half-eq-NO_WALK
returns-then-half-eq-NO_WALK c = least_none (half (goal.at.returns-then-half-eq-NO_WALK c).After-half_at-half) (short (goal.at.returns-then-half-eq-NO_WALK c).After-half_at-half) (sym (read (goal.at.returns-then-half-eq-NO_WALK c).After-half_at-half) ∙ ap (to_z w64) c.if-half-eq-NO_WALK.true)

-- where it is a number
module _ (c : Else-half-eq-NO_WALK) where
  walk : stored (half (goal.at.Else-half-eq-NO_WALK c).After-half_at-half) ≡ no_walk_lem → ⊥
  walk e = let q : c.half_at-half.result ≡ no_walk_lem = c.half_at-half.ensures ∙ e in c.if-half-eq-NO_WALK.false (ap (of_z w64) q)

  fits : SFits w64 (pos 0 -ℤ stored (half (goal.at.Else-half-eq-NO_WALK c).After-half_at-half))
  fits = minus_fits (stored (half (goal.at.Else-half-eq-NO_WALK c).After-half_at-half)) (within (half (goal.at.Else-half-eq-NO_WALK c).After-half_at-half) (short (goal.at.Else-half-eq-NO_WALK c).After-half_at-half) walk)

pub overflow_sub-result : goal.overflow_sub-result
overflow_sub-result c = rw (read (goal.at.overflow_sub-result c).After-half_at-half) (fits c)

pub returns : goal.returns
returns c = rw (read (goal.at.returns c).After-half_at-half) (to_z-of_z (fits c) ∙ least_some (half (goal.at.returns c).After-half_at-half) (walk c))
