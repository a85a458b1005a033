-- `hub_limits::all_loose` meets its contract. The invariant: the points before p pass.
use mathlib.Core.Path.{◌≡◌, refl, sym, ap, ◌∙◌}
use mathlib.Core.Bool.{Bool}
use Prim.Native.Nat.{ℕ}
use native.Mathlib.Omega.{arith}
use borrow.Author.Tests.{not-true, not-false}
use lib.IntN.{ℤ}
use mir.Syntax.{w64}
use mir.Val.{to_z, of_z}
use mir.Facts.{to_z-of_z}
use Rattle.integers.specs.Table.{all_below}
use Rattle.theory_hub.specs.Hub.{Weights, others, loose, all_loose_lem}
use Rattle.hub_weights.specs.Weights.{weights_in}
use Rattle.hub_limits.specs.Loops.{others_before, from_hub, loose_is, passes_more, one_fails}
use mathlib.Core.Bool.{not}
use Rattle.hub_limits.proofs.all_loose.Goals.{Start}
use Rattle.hub_limits.proofs.all_loose.Goals as goal

module _ (s : Start) where
  abbrev W : Weights
  W = weights_in s.args.n s.args.weights.now

  -- the hub's value, as it is passed on
  abbrev v : ℤ
  v = to_z w64 (of_z w64 s.args.v)

  value_is : v ≡ s.args.v
  value_is = to_z-of_z s.ranges.v

  -- the test of a point
  abbrev passes : ℕ → Bool
  passes = loose W v

  all_is : all_below (others s.args.n) (from_hub passes) ≡ all_loose_lem s.args.n W s.args.v
  all_is = sym (loose_is s.args.n W v) ∙ ap (all_loose_lem s.args.n W) value_is

pub overflow_mul-count : goal.overflow_mul-count
overflow_mul-count c = record { fits = omega (arith, c.requires.0.few) }

pub loop-p-init : goal.loop-p-init
loop-p-init c = (omega arith, omega arith, refl)

pub loose_at-requires : goal.loose_at-requires
loose_at-requires c =
    rw (value_is (goal.at.loose_at-requires c).Start) (c.requires.0, c.requires.1, c.loop-p-test.true)

pub returns-then-not-loose_at : goal.returns-then-not-loose_at
returns-then-not-loose_at c =
    one_fails (passes (goal.at.returns-then-not-loose_at c).Start) c.loop-p.p c.loop-p.invariant.0 c.args.n c.loop-p-test.true (sym c.loose_at.ensures ∙ not-true _ (ap not c.if-not-loose_at.true)) ∙ all_is (goal.at.returns-then-not-loose_at c).Start

pub loop-p-preserved : goal.loop-p-preserved
loop-p-preserved c = (
  omega (arith, c.loop-p.invariant.0),
  omega (arith, c.loop-p-test.true),
  passes_more (passes (goal.at.loop-p-preserved c).Start) c.loop-p.p c.loop-p.invariant.0 c.loop-p.invariant.2 (sym c.loose_at.ensures ∙ not-false _ (ap not c.if-not-loose_at.false)),
)

pub returns : goal.returns
returns c =
    let e : others_before c.loop-p.p ≡ others c.args.n = omega (arith, c.loop-p.invariant.1, c.loop-p-test.false) in
    sym c.loop-p.invariant.2 ∙ ap (λ (k : ℕ). all_below k (from_hub (passes (goal.at.returns c).Start))) e ∙ all_is (goal.at.returns c).Start
