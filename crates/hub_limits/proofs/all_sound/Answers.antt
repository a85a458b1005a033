-- `hub_limits::all_sound` meets its contract. The invariant: the points before p pass.
use mathlib.Core.Path.{◌≡◌, refl, sym, ap, ◌∙◌}
use mathlib.Core.Bool.{Bool}
use Prim.Native.Nat.{ℕ}
use native.Mathlib.Omega.{arith}
use borrow.Author.Tests.{not-true, not-false}
use Rattle.integers.specs.Table.{all_below}
use Rattle.theory_hub.specs.Hub.{Weights, others, sound}
use Rattle.hub_weights.specs.Weights.{weights_in}
use Rattle.hub_limits.specs.Loops.{others_before, from_hub, sound_is, passes_more, one_fails}
use mathlib.Core.Bool.{not}
use Rattle.hub_limits.proofs.all_sound.Goals.{Start}
use Rattle.hub_limits.proofs.all_sound.Goals as goal

module _ (s : Start) where
  abbrev W : Weights
  W = weights_in s.args.n s.args.weights.now

  -- the test of a point
  abbrev passes : ℕ → Bool
  passes = sound W

pub overflow_mul-count : goal.overflow_mul-count
overflow_mul-count c = record { fits = omega (arith, c.requires.few) }

pub loop-p-init : goal.loop-p-init
loop-p-init c = (omega arith, omega arith, refl)

pub sound_at-requires : goal.sound_at-requires
sound_at-requires c = (c.requires, c.loop-p-test.true)

pub returns-then-not-sound_at : goal.returns-then-not-sound_at
returns-then-not-sound_at c =
    one_fails (passes (goal.at.returns-then-not-sound_at c).Start) c.loop-p.p c.loop-p.invariant.0 c.args.n c.loop-p-test.true (sym c.sound_at.ensures ∙ not-true _ (ap not c.if-not-sound_at.true)) ∙ sym (sound_is c.args.n (W (goal.at.returns-then-not-sound_at c).Start))

pub loop-p-preserved : goal.loop-p-preserved
loop-p-preserved c = (
  omega (arith, c.loop-p.invariant.0),
  omega (arith, c.loop-p-test.true),
  passes_more (passes (goal.at.loop-p-preserved c).Start) c.loop-p.p c.loop-p.invariant.0 c.loop-p.invariant.2 (sym c.sound_at.ensures ∙ not-false _ (ap not c.if-not-sound_at.false)),
)

pub returns : goal.returns
returns c =
    let e : others_before c.loop-p.p ≡ others c.args.n = omega (arith, c.loop-p.invariant.1, c.loop-p-test.false) in
    sym c.loop-p.invariant.2 ∙ ap (λ (k : ℕ). all_below k (from_hub (passes (goal.at.returns c).Start))) e ∙ sym (sound_is c.args.n (W (goal.at.returns c).Start))
