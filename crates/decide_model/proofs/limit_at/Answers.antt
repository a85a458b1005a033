-- `decide_model::limit_at` meets its contract. The invariant: the limit, given the values of the variables below x.
use mathlib.Core.Path.{◌≡◌, sym, ap, ◌∙◌}
use Prim.Native.Nat.{ℕ, ◌*◌, ◌<◌}
use native.Mathlib.Omega.{arith}
use lib.IntN.{ℤ}
use lib.ListN.{length}
use mir.Syntax.{w32, w64}
use mir.Val.{SFits, to_z, of_z}
use Rattle.integers.proofs.Bits.{kept, widens, widened}
use Rattle.integers.specs.Integer.{Within}
use Rattle.lines.specs.Line.{number}
use Rattle.decide_rows.specs.Stored.{stored}
use Rattle.decide_stored_table.specs.Table.{by_rows, rows_short, rows_halves}
use Rattle.decide_model.specs.Limit.{max_model, limit_of, value_fits, limit_start, limit_more}
use Rattle.decide_model.proofs.limit_at.Goals.{At-loop-x}
use Rattle.decide_model.proofs.limit_at.Goals as goal

pub half_at-limit-requires : goal.half_at-limit-requires
half_at-limit-requires c = (c.requires.table, c.requires.within)

pub loop-x-init : goal.loop-x-init
loop-x-init c =
    (omega arith, kept w64 c.half_at-limit.result c.half_at-limit.type_inv ∙ c.half_at-limit.ensures ∙ ap stored (sym (limit_start (by_rows (2 * c.args.n) c.args.table.now) c.args.values.now c.args.p ∙ rows_halves (2 * c.args.n) c.args.table.now c.args.p)))

-- one turn, with the value of x
module _ (l : At-loop-x) where
  abbrev x : ℕ
  x = l.loop-x.x

  abbrev value : ℤ
  value = number l.args.values.now x

  module _ (h : x < length l.args.values.now) where
    small : Within max_model value
    small = l.requires.small x h

    fits : SFits w32 value
    fits = value_fits value small

    value_is : to_z w64 (of_z w64 (to_z w32 (of_z w32 value))) ≡ value
    value_is = widened {w = w32} {z = value} tt fits

pub overflow_cast-values : goal.overflow_cast-values
overflow_cast-values c = widens {w = w32} tt (fits (goal.at.overflow_cast-values c).At-loop-x c.loop-x-test.true)

pub limit_step-limit-requires : goal.limit_step-limit-requires
limit_step-limit-requires c =
    let h = c.loop-x-test.true in
    let p = c.requires in
    (p.table, p.within, omega (arith, h, p.before), rw (value_is (goal.at.limit_step-limit-requires c).At-loop-x h) (small (goal.at.limit_step-limit-requires c).At-loop-x h))

pub loop-x-preserved : goal.loop-x-preserved
loop-x-preserved c =
    let h = c.loop-x-test.true in
    let a = c.args in
    let p = c.requires in (
      omega (arith, h),
      limit_more a.n (by_rows (2 * a.n) a.table.now) (rows_short a.n a.table.now p.table) a.values.now (omega (arith, p.before, p.within)) p.small a.p p.within (x (goal.at.loop-x-preserved c).At-loop-x) h (to_z w64 c.loop-x.limit-bits) _ c.loop-x.invariant.1
          (kept w64 c.limit_step-limit.result c.limit_step-limit.type_inv ∙ (rw (value_is (goal.at.loop-x-preserved c).At-loop-x h) at c.limit_step-limit.ensures)),
    )

pub returns : goal.returns
returns c =
    let a = c.args in
    let e : x (goal.at.returns c).At-loop-x ≡ length a.values.now = omega (arith, c.loop-x.invariant.0, c.loop-x-test.false) in
    c.loop-x.invariant.1 ∙ ap (λ (k : ℕ). stored (limit_of (by_rows (2 * a.n) a.table.now) a.values.now k a.p)) e
