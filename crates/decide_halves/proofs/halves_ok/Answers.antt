-- `decide_halves::halves_ok` meets its contract: no walk is stored as a number above 0, so that the stored sum alone is tested.
use mathlib.Core.Path.{◌≡◌, ap, ◌∙◌}
use mathlib.Core.List.{List}
use Prim.Native.Nat.{ℕ, ◌*◌}
use lib.IntN.{ℤ, pos}
use lib.Signed.{le_z}
use mir.Syntax.{w64}
use mir.Val.{to_z, of_z}
use Rattle.integers.proofs.Bits.{kept}
use Rattle.steps.specs.Point.{opposite}
use Rattle.theory_bounds.specs.Points.{opposite_below}
use Rattle.theory_bounds.specs.Tight.{halves}
use Rattle.decide_rows.specs.Stored.{stored}
use Rattle.decide_stored_table.specs.Table.{table_of, half_back_short}
use Rattle.decide_halves.specs.Halves.{ok_of_sum}
use Rattle.decide_halves.proofs.halves_ok.Goals.{After-half_at-2}
use Rattle.decide_halves.proofs.halves_ok.Goals as goal

pub half_at-requires-2 : goal.half_at-requires-2
half_at-requires-2 c =
    rw c.opposite_of.ensures (c.requires.0, opposite_below c.args.n c.args.p c.requires.1)

-- after both halves
module _ (c : After-half_at-2) where
  abbrev t : List ℤ
  t = c.args.table.now

  abbrev there : ℤ
  there = to_z w64 (of_z w64 c.half_at.result)

  abbrev back : ℤ
  back = to_z w64 (of_z w64 c.half_at-2.result)

  there_is : there ≡ stored (halves (table_of (2 * c.args.n) t) c.args.p)
  there_is = kept w64 c.half_at.result c.half_at.type_inv ∙ c.half_at.ensures

  back_is : back ≡ stored (halves (table_of (2 * c.args.n) t) (opposite c.args.p))
  back_is = kept w64 c.half_at-2.result c.half_at-2.type_inv ∙ c.half_at-2.ensures ∙ ap (λ (p : ℕ). stored (halves (table_of (2 * c.args.n) t) p)) c.opposite_of.ensures

pub sum-requires : goal.sum-requires
sum-requires c =
    let n = c.args.n in
    let p = c.args.p in
    let ok = c.requires.0 in
    (half_back_short n (t c) ok p c.requires.1 (there c) (there_is c), half_back_short n (t c) ok (opposite p) (opposite_below n p c.requires.1) (back c) (back_is c))

pub returns : goal.returns
returns c =
    ap (le_z (pos 0)) (kept w64 c.sum.result c.sum.type_inv)
    ∙ ok_of_sum c.args.n (t (goal.at.returns c).After-half_at-2) c.requires.0 c.args.p c.requires.1 (there (goal.at.returns c).After-half_at-2) (back (goal.at.returns c).After-half_at-2) c.sum.result (there_is (goal.at.returns c).After-half_at-2) (back_is (goal.at.returns c).After-half_at-2) c.sum.ensures
