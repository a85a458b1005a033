-- `decide_model::write_values` meets its contract. The invariant: the first k values are written, and what lies beyond is as it was.
use mathlib.Core.Path.{◌≡◌, refl, sym, ap, ◌∙◌}
use mathlib.Core.List.{List, ◌++◌}
use Prim.Native.Nat.{ℕ, ◌*◌, ◌-◌, ◌<◌}
use native.Mathlib.Omega.{arith}
use borrow.Author.Rules.{rules}
use lib.IntN.{ℤ}
use lib.ListN.{length, take, drop, length-set}
use mir.Syntax.{w32, w64}
use mir.Val.{SFits, to_z, of_z}
use mir.Facts.{to_z-of_z}
use Rattle.integers.proofs.Bits.{kept}
use Rattle.theory_bounds.specs.Tight.{Table}
use Rattle.decide_stored_table.specs.Table.{by_rows}
use Rattle.decide_model.specs.Limit.{value_fits}
use Rattle.decide_model.specs.Written.{pick_of}
use Rattle.decide_model.specs.Values.{small_value_lem, values_of, value_small, values_none, front_length, front_small, value_written}
use Rattle.decide_model.proofs.write_values.Goals.{After-small_value-value, At-loop-k, Start}
use Rattle.decide_model.proofs.write_values.Goals as goal

abbrev D : Start → Table
D s = by_rows (2 * s.args.n) s.args.table.now

pub loop-k-init : goal.loop-k-init
loop-k-init c = (omega arith, refl, sym (ap (λ (x : List ℤ). x ++ c.args.model.now) (values_none (D c))))

-- a part that begins at 0
from_zero : (k : ℕ) → k - 0 ≡ k
from_zero k = omega arith

-- one turn
module _ (l : At-loop-k) where
  abbrev k : ℕ
  k = l.loop-k.k

  abbrev m : List ℤ
  m = l.args.model.now

  inside : k < l.args.n → k < length l.loop-k.model
  inside h = omega (arith, h, l.loop-k.invariant.1, l.requires.1)

pub slice_bounds-next_value-end : goal.slice_bounds-next_value-end
slice_bounds-next_value-end c = let h = inside (goal.at.slice_bounds-next_value-end c).At-loop-k c.loop-k-test.true in search rules

pub next_value-requires : goal.next_value-requires
next_value-requires c =
    let h = c.loop-k-test.true in
    rw (from_zero (k (goal.at.next_value-requires c).At-loop-k))
    (record {
      table = c.requires.0;
      count = rw (front_length (D (goal.at.next_value-requires c).Start) (k (goal.at.next_value-requires c).At-loop-k) (m (goal.at.next_value-requires c).At-loop-k) c.loop-k.model c.loop-k.invariant.2) h;
      small = front_small (D (goal.at.next_value-requires c).Start) (k (goal.at.next_value-requires c).At-loop-k) (m (goal.at.next_value-requires c).At-loop-k) c.loop-k.model c.loop-k.invariant.2;
    })

-- the next value, as it was given and as it is kept
module _ (c : After-small_value-value) where
  more : k (goal.at.After-small_value-value c).At-loop-k < c.args.n
  more = c.loop-k-test.true

  abbrev given : ℤ
  given = to_z w64 (of_z w64 c.small_value-value.result)

  is : given ≡ small_value_lem (pick_of (D (goal.at.After-small_value-value c).Start) (take (k (goal.at.After-small_value-value c).At-loop-k) c.loop-k.model))
  is =
      kept w64 c.small_value-value.result c.small_value-value.type_inv ∙ c.small_value-value.ensures
      ∙ ap small_value_lem (kept w64 c.next_value.result c.next_value.type_inv ∙ (rw (from_zero (k (goal.at.After-small_value-value c).At-loop-k)) at c.next_value.ensures))

  fits : SFits w32 given
  fits = value_fits given (rw is (value_small (pick_of (D (goal.at.After-small_value-value c).Start) (take (k (goal.at.After-small_value-value c).At-loop-k) c.loop-k.model))))

pub overflow_cast-value : goal.overflow_cast-value
overflow_cast-value c = fits c

pub offset_bounds-model-k : goal.offset_bounds-model-k
offset_bounds-model-k c = let h = inside (goal.at.offset_bounds-model-k c).At-loop-k (more c) in search rules

pub bounds-model-k : goal.bounds-model-k
bounds-model-k c = inside (goal.at.bounds-model-k c).At-loop-k (more c)

pub loop-k-preserved : goal.loop-k-preserved
loop-k-preserved c = (
  omega (arith, more c),
  length-set c.loop-k.model (k (goal.at.loop-k-preserved c).At-loop-k) _ ∙ c.loop-k.invariant.1,
  value_written (D (goal.at.loop-k-preserved c).Start) (k (goal.at.loop-k-preserved c).At-loop-k) (m (goal.at.loop-k-preserved c).At-loop-k) c.loop-k.model c.loop-k.invariant.2 (omega (arith, more c, c.requires.1)) _ (to_z-of_z (fits c) ∙ is c),
)

pub returns : goal.returns
returns c =
    let e : k (goal.at.returns c).At-loop-k ≡ c.args.n = omega (arith, c.loop-k.invariant.0, c.loop-k-test.false) in
    c.loop-k.invariant.2 ∙ ap (λ (j : ℕ). values_of (D (goal.at.returns c).Start) j ++ drop j (m (goal.at.returns c).At-loop-k)) e
