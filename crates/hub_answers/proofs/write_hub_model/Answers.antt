-- `hub_answers::write_hub_model` meets its contract. The invariant: the first x values are written.
use mathlib.Core.Path.{◌≡◌, refl, ap, ◌∙◌}
use mathlib.Core.List.{List}
use Prim.Native.Nat.{ℕ, ◌<◌}
use native.Mathlib.Omega.{arith}
use borrow.Author.Rules.{rules}
use lib.IntN.{ℤ}
use lib.ListN.{length, set, length-set}
use mir.Syntax.{w32, w64}
use mir.Val.{SFits, to_z, of_z}
use mir.Facts.{to_z-of_z}
use Rattle.integers.proofs.Bits.{kept}
use Rattle.integers.specs.Fill.{filled, filled_none, filled_more}
use Rattle.theory_hub.specs.Hub.{hub_model}
use Rattle.hub_weights.specs.Weights.{weights_in}
use Rattle.hub_answers.proofs.write_hub_model.Goals.{After-value_at, Start}
use Rattle.hub_answers.proofs.write_hub_model.Goals as goal

abbrev values : Start → ℕ → ℤ
values s = hub_model s.args.n (weights_in s.args.n s.args.weights.now)

pub loop-x-init : goal.loop-x-init
loop-x-init c = (omega arith, refl, filled_none (values c) c.args.model.now)

pub value_at-requires : goal.value_at-requires
value_at-requires c = rw (to_z-of_z c.ranges.v) (c.requires.0, c.loop-x-test.true)

-- the next value, as it was given
module _ (c : After-value_at) where
  abbrev x : ℕ
  x = c.loop-x.x

  more : x < c.args.n
  more = c.loop-x-test.true

  abbrev given : ℤ
  given = to_z w64 (of_z w64 c.value_at.result)

  is : given ≡ values (goal.at.After-value_at c).Start x
  is = kept w64 c.value_at.result c.value_at.type_inv ∙ c.value_at.ensures

  fits : SFits w32 given
  fits = rw is (c.requires.0.fits x more)

  inside : x < length c.loop-x.model
  inside = omega (arith, more, c.loop-x.invariant.1, c.requires.1)

pub overflow_cast-model : goal.overflow_cast-model
overflow_cast-model c = fits c

pub offset_bounds-model-x : goal.offset_bounds-model-x
offset_bounds-model-x c = let h = inside c in search rules

pub bounds-model-x : goal.bounds-model-x
bounds-model-x c = inside c

pub loop-x-preserved : goal.loop-x-preserved
loop-x-preserved c = (
  omega (arith, more c),
  length-set c.loop-x.model (x c) _ ∙ c.loop-x.invariant.1,
  ap (λ (m : List ℤ). set m (x c) (to_z w32 (of_z w32 (given c)))) c.loop-x.invariant.2 ∙ filled_more (values (goal.at.loop-x-preserved c).Start) c.args.model.now (x c) _ (omega (arith, more c, c.requires.1)) (to_z-of_z (fits c) ∙ is c),
)

pub returns : goal.returns
returns c =
    let e : c.loop-x.x ≡ c.args.n = omega (arith, c.loop-x.invariant.0, c.loop-x-test.false) in
    c.loop-x.invariant.2 ∙ ap (filled (values (goal.at.returns c).Start) c.args.model.now) e
