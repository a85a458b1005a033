-- `differences_walk::step_back` meets its contract: the part that is lent is the row before, and the search finds a line in it.
use mathlib.Core.Path.{◌≡◌, ap, ap₂, ◌∙◌}
use Prim.Native.Nat.{ℕ, ◌+◌, ◌*◌, ◌-◌, ◌<◌}
use native.Mathlib.Omega.{arith}
use borrow.Author.Rules.{rules}
use lib.IntN.{ℤ, pos}
use lib.ListN.{set}
use mir.Syntax.{w64}
use mir.Val.{to_z, of_z}
use mir.Facts.{to_z_pos}
use Rattle.integers.proofs.Bits.{kept}
use Rattle.lines.specs.Line.{number, line_at, line_count}
use Rattle.steps.specs.declared.Step.{Step}
use Rattle.theory_differences.specs.Plain.{plain_step_lem}
use Rattle.theory_differences.specs.Numbers.{plain_number_lem, plain_numbered}
use Rattle.decide_rows.specs.Next.{row_in}
use Rattle.differences_lines.specs.PlainList.{plain_at, ends_within, step_among}
use Rattle.differences_walk.specs.Makes.{IsMade}
use Rattle.differences_walk.proofs.step_back.Goals.{After-find_line-k, After-plain_step-step}
use Rattle.differences_walk.proofs.step_back.Goals as goal

-- the line
module _ (found : After-find_line-k) where
  abbrev k : ℕ
  k = found.find_line-k.result

  abbrev entry : ℤ
  entry = number found.args.work.now (found.args.before + found.args.n + found.args.p)

  is : IsMade found.args.list.now (row_in found.args.n found.args.work.now found.args.before) found.args.p entry k
  is =
      let size : found.args.before + found.args.n - found.args.before ≡ found.args.n = omega arith in
      let entry_is : to_z w64 (of_z w64 entry) ≡ entry = kept w64 entry found.z-1.given in
      rw (size, entry_is) at found.find_line-k.ensures

  number_low : plain_number_lem found.args.list.now k < 2 * line_count found.args.list.now
  number_low = (plain_numbered found.args.list.now found.requires.plain.all k is.inside).0

pub plain_number-requires : goal.plain_number-requires
plain_number-requires found = plain_at found.requires.plain (k found) (is found).inside

pub overflow_cast-work : goal.overflow_cast-work
overflow_cast-work c =
    let h = number_low (goal.at.overflow_cast-work c).After-find_line-k in
    let e = c.plain_number.ensures in
    let l = c.well_formed.0.1 in
    search rules

pub plain_step-step-requires : goal.plain_step-step-requires
plain_step-step-requires c =
    let found = (goal.at.plain_step-step-requires c).After-find_line-k in
    plain_at c.requires.plain (k found) (is found).inside

-- the line's step
module _ (stepped : After-plain_step-step) where
  abbrev from : ℕ
  from = stepped.plain_step-step.result.from

  from_is : from ≡ (plain_step_lem (line_at stepped.args.list.now stepped.find_line-k.result)).from
  from_is = ap (λ (t : Step). t.from) stepped.plain_step-step.ensures

  from_low : from < stepped.args.n
  from_low =
      let p = stepped.requires.plain in
      let found = (goal.at.After-plain_step-step stepped).After-find_line-k in
      omega (arith, from_is, (ends_within p _ (step_among p (k found) (is found).inside)).0)

pub overflow_cast-work-2 : goal.overflow_cast-work-2
overflow_cast-work-2 c =
    let h = from_low (goal.at.overflow_cast-work-2 c).After-plain_step-step in
    let m = c.requires.plain.works.variables in
    search rules

pub returns : goal.returns
returns c =
    let found = (goal.at.returns c).After-find_line-k in
    let stepped = (goal.at.returns c).After-plain_step-step in
    record {
      line = k found;
      is = is found;
      from = from_is stepped;
      area =
          ap₂ (λ (x y : ℤ). set (set c.args.work.now c.args.slot x) c.args.place y)
          (to_z_pos w64 (omega (arith, c.plain_number.ensures, number_low found, c.well_formed.0.1)) ∙ ap pos c.plain_number.ensures)
          (to_z_pos w64 (omega (arith, from_low stepped, c.requires.plain.works.variables)));
    }
