-- `implied_pair::greatest_sum` meets its contract.
use mathlib.Core.Path.{◌≡◌, sym, ap, ◌∙◌}
use mathlib.Core.List.{List}
use Prim.Native.Nat.{ℕ, ◌+◌, ◌*◌}
use lib.IntN.{ℤ}
use mir.Syntax.{w64}
use mir.Val.{to_z, of_z}
use Rattle.integers.proofs.Bits.{kept}
use Rattle.lines.specs.Line.{number}
use Rattle.steps.specs.Point.{opposite}
use Rattle.theory_bounds.specs.Points.{opposite_below}
use Rattle.theory_bounds.specs.Tight.{Table, halves}
use Rattle.decide_rows.specs.Stored.{stored}
use Rattle.decide_rows.specs.Read.{stored_of}
use Rattle.decide_stored_table.specs.Table.{table_of}
use Rattle.implied_pair.specs.Reading.{half_ready, sum_read}
use Rattle.implied_pair.proofs.greatest_sum.Goals.{After-half_at-2}
use Rattle.implied_pair.proofs.greatest_sum.Goals as goal

pub entry_at-requires : goal.entry_at-requires
entry_at-requires c =
    rw c.opposite_of.ensures (c.requires.0, c.requires.1, opposite_below c.args.n c.args.q c.requires.2)

-- the distance and both halves that were read
module _ (c : After-half_at-2) where
  abbrev n : ℕ
  n = c.args.n

  abbrev table : List ℤ
  table = c.args.table.now

  abbrev D : Table
  D = table_of (2 * n) table

  abbrev distance : ℤ
  distance = to_z w64 (of_z w64 c.entry_at.result)

  abbrev first : ℤ
  first = to_z w64 (of_z w64 c.half_at.result)

  abbrev second : ℤ
  second = to_z w64 (of_z w64 c.half_at-2.result)

  distance_is : distance ≡ stored (D c.args.p (opposite c.args.q))
  distance_is =
      kept w64 c.entry_at.result c.entry_at.type_inv
      ∙ c.entry_at.ensures
      ∙ ap (λ (v : ℕ). number table (v * (2 * n) + c.args.p)) c.opposite_of.ensures
      ∙ sym (stored_of (number table (opposite c.args.q * (2 * n) + c.args.p)))

  first_is : first ≡ stored (halves D c.args.p)
  first_is = kept w64 c.half_at.result c.half_at.type_inv ∙ c.half_at.ensures

  second_is : second ≡ stored (halves D c.args.q)
  second_is = kept w64 c.half_at-2.result c.half_at-2.type_inv ∙ c.half_at-2.ensures

pub tightened-requires : goal.tightened-requires
tightened-requires c =
    let ok = c.requires.0 in
    (half_ready (n c) (table c) ok c.args.p c.requires.1 (first c) (first_is c), half_ready (n c) (table c) ok c.args.q c.requires.2 (second c) (second_is c))

pub returns : goal.returns
returns c =
    kept w64 c.tightened.result c.tightened.type_inv
    ∙ c.tightened.ensures
    ∙ sum_read (n (goal.at.returns c).After-half_at-2) (table (goal.at.returns c).After-half_at-2) c.requires.0 c.args.p c.args.q c.requires.1 c.requires.2 _ _ _ (distance_is (goal.at.returns c).After-half_at-2) (first_is (goal.at.returns c).After-half_at-2) (second_is (goal.at.returns c).After-half_at-2)
