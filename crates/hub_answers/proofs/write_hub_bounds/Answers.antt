-- `hub_answers::write_hub_bounds` meets its contract. The invariant: the first i bounds are written.
use mathlib.Core.Path.{◌≡◌, refl, ap, ◌∙◌}
use mathlib.Core.List.{List}
use Prim.Native.Nat.{ℕ, ◌*◌}
use native.Mathlib.Omega.{arith}
use lib.IntN.{ℤ}
use lib.ListN.{set, length-set}
use mir.Syntax.{w64}
use mir.Val.{to_z, of_z}
use mir.Facts.{to_z-of_z}
use Rattle.integers.proofs.Bits.{kept}
use Rattle.integers.specs.Fill.{filled, filled_none, filled_more}
use Rattle.theory_hub.specs.Hub.{hub_bound_lem}
use Rattle.hub_weights.specs.Weights.{weights_in}
use Rattle.hub_answers.proofs.write_hub_bounds.Goals.{Start}
use Rattle.hub_answers.proofs.write_hub_bounds.Goals as goal

abbrev bound : Start → ℕ → ℤ
bound s = hub_bound_lem s.args.n (weights_in s.args.n s.args.weights.now)

pub overflow_mul-count : goal.overflow_mul-count
overflow_mul-count c = record { fits = omega (arith, c.requires.0.weights.few) }

pub loop-i-init : goal.loop-i-init
loop-i-init c = (omega arith, refl, filled_none (bound c) c.args.bounds.now)

pub hub_bound-requires : goal.hub_bound-requires
hub_bound-requires c = rw (to_z-of_z c.ranges.a, to_z-of_z c.ranges.b) (c.requires.0, c.loop-i-test.true)

pub loop-i-preserved : goal.loop-i-preserved
loop-i-preserved c =
    let h = c.loop-i-test.true in
    let z = to_z w64 (of_z w64 c.hub_bound.result) in
    let e : z ≡ bound (goal.at.loop-i-preserved c).Start c.loop-i.i = kept w64 c.hub_bound.result c.hub_bound.type_inv ∙ c.hub_bound.ensures in (
      omega (arith, h),
      length-set c.loop-i.bounds c.loop-i.i z ∙ c.loop-i.invariant.1,
      ap (λ (b : List ℤ). set b c.loop-i.i z) c.loop-i.invariant.2 ∙ filled_more (bound (goal.at.loop-i-preserved c).Start) c.args.bounds.now c.loop-i.i z (omega (arith, h, c.requires.1)) e,
    )

pub returns : goal.returns
returns c =
    let e : c.loop-i.i ≡ 2 * c.args.n = omega (arith, c.loop-i.invariant.0, c.loop-i-test.false) in
    c.loop-i.invariant.2 ∙ ap (filled (bound (goal.at.returns c).Start) c.args.bounds.now) e
