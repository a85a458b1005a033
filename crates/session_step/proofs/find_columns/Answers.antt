-- `session_step::find_columns` meets its contract. The invariant: the points below u are gone through.
use mathlib.Core.Path.{◌≡◌, refl, sym, subst, ◌∙◌}
use Prim.Native.Nat.{ℕ, ◌+◌, ◌*◌}
use native.Mathlib.Omega.{arith}
use lib.IntN.{ℤ}
use lib.ListN.{length-set}
use lib.Signed.{le_z}
use mir.Syntax.{w64}
use mir.Val.{to_z, of_z}
use Rattle.integers.proofs.Bits.{kept}
use Rattle.lines.specs.Line.{number}
use Rattle.theory_bounds.specs.Tight.{Table}
use Rattle.theory_inserting.specs.Where.{end_as_near}
use Rattle.session_step.specs.Read.{small_table}
use Rattle.session_step.specs.Done.{as_near_is}
use Rattle.session_step.specs.Columns.{Collected, sum_at, collected_none, collected_same, collected_more}
use Rattle.session_step.proofs.find_columns.Goals.{After-read_at, then-not-near, else-not-near}
use Rattle.session_step.proofs.find_columns.Goals as goal

pub loop-u-init : goal.loop-u-init
loop-u-init c = (omega arith, omega arith, refl, refl, collected_none)

-- the test of point u, and its sum
module _ (c : After-read_at) where
  abbrev D : Table
  D = small_table (2 * c.args.n) c.args.table.now

  abbrev u : ℕ
  u = c.loop-u.u

  -- the table's entry of u and v
  abbrev entry : ℕ → ℤ
  entry v = number c.args.table.now (v * (2 * c.args.n) + u)

  abbrev own : ℤ
  own = to_z w64 (of_z w64 c.read_at.result)

  abbrev way : ℤ
  way = to_z w64 (of_z w64 c.sum_along-way.result)

  way_is : way ≡ sum_at D c.args.step u
  way_is = kept w64 c.sum_along-way.result c.sum_along-way.type_inv ∙ c.sum_along-way.ensures

  test_is : le_z own way ≡ end_as_near D c.args.step u
  test_is =
      as_near_is (entry c.args.step.to) (entry c.args.step.from) c.args.step.weight own way c.requires.1.small
      (kept w64 c.read_at.result c.read_at.type_inv ∙ c.read_at.ensures) way_is

pub loop-u-preserved : goal.loop-u-preserved
loop-u-preserved c =
    let o = c.loop-u in
    let i = c.loop-u-test.true in
    let at = (goal.at.loop-u-preserved c).After-read_at in
    elim c.if-not-near.branch [
      | then-not-near w ↦
          let far = sym (test_is at) ∙ w.if-not-near.true in
          let more = collected_more o.invariant.4 far (omega (arith, o.invariant.1, i, c.requires.2)) (omega (arith, o.invariant.1, i, c.requires.3)) (way at) (way_is at) in
          let same-columns = length-set o.columns o.found (u at) ∙ o.invariant.2 in
          let same-sums = length-set o.sums o.found (way at) ∙ o.invariant.3 in
          rw (w.columns-is, w.sums-is, w.found-is) (omega arith, omega (arith, o.invariant.1), same-columns, same-sums, more)
      | else-not-near w ↦
          let near = sym (test_is at) ∙ w.if-not-near.false in
          rw (w.columns-is, w.sums-is, w.found-is) (omega arith, omega (arith, o.invariant.1), o.invariant.2, o.invariant.3, collected_same o.invariant.4 near)
    ]

pub returns : goal.returns
returns c =
    let a = c.args in
    let o = c.loop-u in
    subst (λ (k : ℕ). Collected (small_table (2 * a.n) a.table.now) a.step a.columns.now a.sums.now k o.columns o.sums o.found)
    (omega (arith, o.invariant.0, c.loop-u-test.false)) o.invariant.4
