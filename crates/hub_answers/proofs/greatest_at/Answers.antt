-- `hub_answers::greatest_at` meets its contract.
use mathlib.Core.Path.{◌≡◌, sym, ap, ap₂, ◌∙◌}
use mathlib.Core.List.{List}
use Prim.Native.Nat.{ℕ}
use native.Mathlib.Omega.{arith}
use lib.IntN.{ℤ}
use mir.Syntax.{w64}
use mir.Val.{to_z, of_z}
use mir.Facts.{to_z-of_z}
use Rattle.integers.proofs.Bits.{kept}
use Rattle.theory_walks.specs.Distance.{Distance}
use Rattle.theory_hub.specs.Hub.{Weights, hub_limit_lem, reach}
use Rattle.decide_rows.specs.Stored.{stored}
use Rattle.decide_rows.specs.Read.{distance_of}
use Rattle.hub_weights.specs.Weights.{weights_in}
use Rattle.hub_limits.specs.Sizes.{limit_short, limit_back}
use Rattle.hub_answers.specs.Written.{greatest_hub, greatest_other}
use Rattle.hub_answers.proofs.greatest_at.Goals.{Start}
use Rattle.hub_answers.proofs.greatest_at.Goals as goal

module _ (s : Start) where
  abbrev n : ℕ
  n = s.args.n

  abbrev w : List ℤ
  w = s.args.weights.now

  abbrev W : Weights
  W = weights_in n w

  abbrev p : ℕ
  p = s.args.p

  -- the greatest values of the hub's points
  plus_is : to_z w64 (of_z w64 s.args.a) ≡ stored (hub_limit_lem n W 0)
  plus_is = to_z-of_z s.ranges.a ∙ s.requires.0.plus

  minus_is : to_z w64 (of_z w64 s.args.b) ≡ stored (hub_limit_lem n W 1)
  minus_is = to_z-of_z s.ranges.b ∙ s.requires.0.minus

  plus_back : distance_of (to_z w64 (of_z w64 s.args.a)) ≡ hub_limit_lem n W 0
  plus_back = limit_back n w s.requires.0.weights 0 (omega arith) s.requires.0.some_variable _ plus_is

  minus_back : distance_of (to_z w64 (of_z w64 s.args.b)) ≡ hub_limit_lem n W 1
  minus_back = limit_back n w s.requires.0.weights 1 (omega arith) s.requires.0.some_variable _ minus_is

pub returns-then-p-eq0 : goal.returns-then-p-eq0
returns-then-p-eq0 c =
    let e = c.if-p-eq0.true in
    plus_is (goal.at.returns-then-p-eq0 c).Start ∙ ap stored (ap (hub_limit_lem (n (goal.at.returns-then-p-eq0 c).Start) (W (goal.at.returns-then-p-eq0 c).Start)) (sym e) ∙ greatest_hub (n (goal.at.returns-then-p-eq0 c).Start) (W (goal.at.returns-then-p-eq0 c).Start) (p (goal.at.returns-then-p-eq0 c).Start) (omega (arith, e)))

pub returns-then-p-eq1 : goal.returns-then-p-eq1
returns-then-p-eq1 c =
    let e = c.if-p-eq1.true in
    minus_is (goal.at.returns-then-p-eq1 c).Start ∙ ap stored (ap (hub_limit_lem (n (goal.at.returns-then-p-eq1 c).Start) (W (goal.at.returns-then-p-eq1 c).Start)) (sym e) ∙ greatest_hub (n (goal.at.returns-then-p-eq1 c).Start) (W (goal.at.returns-then-p-eq1 c).Start) (p (goal.at.returns-then-p-eq1 c).Start) (omega (arith, e)))

pub reach_at-requires : goal.reach_at-requires
reach_at-requires c =
    let ok = c.requires.0.weights in
    rw (plus_back (goal.at.reach_at-requires c).Start, minus_back (goal.at.reach_at-requires c).Start)
    (ok, limit_short (n (goal.at.reach_at-requires c).Start) (w (goal.at.reach_at-requires c).Start) ok 0 (omega arith) c.requires.0.some_variable, limit_short (n (goal.at.reach_at-requires c).Start) (w (goal.at.reach_at-requires c).Start) ok 1 (omega arith) c.requires.0.some_variable, c.requires.1)

pub returns : goal.returns
returns c =
    kept w64 c.reach_at.result c.reach_at.type_inv
    ∙ c.reach_at.ensures
    ∙ ap stored (ap₂ (λ (a b : Distance). reach (W (goal.at.returns c).Start) a b (p (goal.at.returns c).Start)) (plus_back (goal.at.returns c).Start) (minus_back (goal.at.returns c).Start) ∙ greatest_other (n (goal.at.returns c).Start) (W (goal.at.returns c).Start) (p (goal.at.returns c).Start) (omega (arith, c.if-p-eq0.false, c.if-p-eq1.false)))
