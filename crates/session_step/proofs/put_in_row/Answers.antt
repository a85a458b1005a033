-- `session_step::put_in_row` meets its contract: the row stays, or is lowered.
use mathlib.Core.Path.{◌≡◌, sym, ap, ◌∙◌}
use native.Mathlib.Omega.{arith}
use lib.IntN.{ℤ}
use lib.Signed.{le_z}
use mir.Syntax.{w64}
use mir.Val.{to_z, of_z}
use mir.Facts.{to_z-of_z}
use Rattle.integers.proofs.Bits.{kept}
use Rattle.lines.specs.Line.{number}
use Rattle.decide_rows.specs.Stored.{stored}
use Rattle.decide_rows.specs.Read.{distance_of, Short, short_more, weight_fits}
use Rattle.decide_stored_table.specs.Sum.{max_tight}
use Rattle.session_step.specs.Read.{small_of, small_short, small_back}
use Rattle.session_step.specs.Done.{weight_short, along_of_sum, as_near_is}
use Rattle.session_step.specs.Lower.{stays_row, row_stays, row_lowered}
use Rattle.session_step.proofs.put_in_row.Goals.{After-read-rest, After-sum}
use Rattle.session_step.proofs.put_in_row.Goals as goal

-- the row's entry of the step's end
module _ (c : After-read-rest) where
  abbrev entry : ℤ
  entry = number c.args.row.now c.args.step.to

  abbrev rest : ℤ
  rest = to_z w64 (of_z w64 c.read-rest.result)

  rest_is : rest ≡ stored (small_of entry)
  rest_is = kept w64 c.read-rest.result c.read-rest.type_inv ∙ c.read-rest.ensures ∙ ap (λ (z : ℤ). stored (small_of z)) (kept w64 entry c.read-arg-1.given)

  rest_of : distance_of rest ≡ small_of entry
  rest_of = ap distance_of rest_is ∙ small_back entry

  rest_short : Short max_tight (distance_of rest)
  rest_short = rw rest_of (short_more (omega arith) (small_short entry))

  weight_is : to_z w64 (of_z w64 c.args.step.weight) ≡ c.args.step.weight
  weight_is = to_z-of_z (weight_fits c.args.step.weight c.requires.small)

pub sum-requires : goal.sum-requires
sum-requires c =
    (rest_short (goal.at.sum-requires c).After-read-rest, rw (weight_is (goal.at.sum-requires c).After-read-rest) (weight_short c.args.step.weight c.requires.small))

-- the test
module _ (c : After-sum) where
  abbrev own : ℤ
  own = to_z w64 (of_z w64 c.read.result)

  abbrev way : ℤ
  way = to_z w64 (of_z w64 c.sum.result)

  test_is : le_z own way ≡ stays_row c.args.row.now c.args.step
  test_is =
      let start = number c.args.row.now c.args.step.from in
      let weight = c.args.step.weight in
      as_near_is start (entry (goal.at.After-sum c).After-read-rest) weight own way c.requires.small
      (kept w64 c.read.result c.read.type_inv ∙ c.read.ensures ∙ ap (λ (z : ℤ). stored (small_of z)) (kept w64 start c.read-arg-2-1.given))
      (kept w64 c.sum.result c.sum.type_inv
      ∙ along_of_sum (small_of (entry (goal.at.After-sum c).After-read-rest)) (rest (goal.at.After-sum c).After-read-rest) weight c.sum.result (rest_of (goal.at.After-sum c).After-read-rest) c.requires.small (rw (weight_is (goal.at.After-sum c).After-read-rest) at c.sum.ensures))

pub returns-then-read-sum : goal.returns-then-read-sum
returns-then-read-sum c =
    let x = c.args in
    row_stays x.row.now x.columns.now x.sums.now x.step (sym (test_is (goal.at.returns-then-read-sum c).After-sum) ∙ c.if-read-sum.true)

pub lower_row-requires : goal.lower_row-requires
lower_row-requires c =
    (c.requires.columns_ok, rest_short (goal.at.lower_row-requires c).After-read-rest)

pub returns : goal.returns
returns c =
    let x = c.args in
    row_lowered x.row.now x.columns.now x.sums.now x.step (sym (test_is (goal.at.returns c).After-sum) ∙ c.if-read-sum.false) (rest (goal.at.returns c).After-read-rest) (rest_is (goal.at.returns c).After-read-rest)
    c.lower_row.new.row c.lower_row.ensures
