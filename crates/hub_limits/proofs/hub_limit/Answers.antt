-- `hub_limits::hub_limit` meets its contract. The invariant: the limit by the points before p.
use mathlib.Core.Path.{◌≡◌, ap, ◌∙◌}
use Prim.Native.Nat.{ℕ}
use native.Mathlib.Omega.{arith}
use mir.Syntax.{w64}
use mir.Val.{to_z, of_z}
use Rattle.integers.proofs.Bits.{kept}
use Rattle.theory_hub.specs.Hub.{Weights, leaves, limit_by_lem, others}
use Rattle.decide_rows.specs.Stored.{stored}
use Rattle.hub_weights.specs.Weights.{weights_in}
use Rattle.hub_limits.specs.Ready.{max_hub}
use Rattle.hub_limits.specs.Stands.{Stands, stands_result, stands_min}
use Rattle.hub_limits.specs.Sizes.{leaves_short, by_short}
use Rattle.hub_limits.specs.Loops.{others_before, limit_none, limit_more}
use Rattle.hub_limits.proofs.hub_limit.Goals.{Start}
use Rattle.hub_limits.proofs.hub_limit.Goals as goal

abbrev W : Start → Weights
W s = weights_in s.args.n s.args.weights.now

pub overflow_mul-count : goal.overflow_mul-count
overflow_mul-count c = record { fits = omega (arith, c.requires.0.few) }

pub own_at-limit-requires : goal.own_at-limit-requires
own_at-limit-requires c = (c.requires.0, omega (arith, c.requires.1, c.requires.2))

pub loop-p-init : goal.loop-p-init
loop-p-init c =
    (omega arith, omega (arith, c.requires.1), kept w64 c.own_at-limit.result c.own_at-limit.type_inv ∙ c.own_at-limit.ensures ∙ ap stored (limit_none (W (goal.at.loop-p-init c).Start) c.args.g))

pub leaves_at-requires : goal.leaves_at-requires
leaves_at-requires c =
    (c.requires.0, c.requires.2, c.loop-p-test.true)

pub loop-p-preserved : goal.loop-p-preserved
loop-p-preserved c =
    let h = c.loop-p-test.true in
    let p = c.loop-p.p in
    let w = c.args.weights.now in
    let limit : Stands max_hub (limit_by_lem (W (goal.at.loop-p-preserved c).Start) c.args.g (others_before p)) (to_z w64 c.loop-p.limit-bits) =
    record { is = c.loop-p.invariant.2; short = by_short c.args.n w c.requires.0 c.args.g c.requires.2 c.requires.1 (others_before p) (omega (arith, h)) } in
    let left : Stands max_hub (leaves (W (goal.at.loop-p-preserved c).Start) c.args.g p) (to_z w64 (of_z w64 c.leaves_at.result)) =
    stands_result c.leaves_at.result c.leaves_at.type_inv c.leaves_at.ensures (leaves_short c.args.n w c.requires.0 c.args.g p c.requires.2 h) in (
      omega (arith, c.loop-p.invariant.0),
      omega (arith, h),
      (stands_min c.smaller-limit.result c.smaller-limit.type_inv (omega arith) limit left c.smaller-limit.ensures).is ∙ ap stored (limit_more (W (goal.at.loop-p-preserved c).Start) c.args.g p c.loop-p.invariant.0),
    )

pub returns : goal.returns
returns c =
    let e : others_before c.loop-p.p ≡ others c.args.n = omega (arith, c.loop-p.invariant.1, c.loop-p-test.false) in
    c.loop-p.invariant.2 ∙ ap (λ (k : ℕ). stored (limit_by_lem (W (goal.at.returns c).Start) c.args.g k)) e
