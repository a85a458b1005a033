-- `decide::refuted` meets its contract: a false line, or what the walks say.
use mathlib.Core.Path.{◌≡◌, refl}
use mathlib.Core.Bool.{Bool, true, false}
use native.Mathlib.Omega.{arith}
use Rattle.lines.specs.Line.{lines_of}
use Rattle.theory_bounds.specs.Verdict.{has_false}
use Rattle.decide_false_line.specs.False.{false_found}
use Rattle.decide.specs.Searched.{by_false}
use Rattle.decide.proofs.refuted.Goals.{Else-line-list}
use Rattle.decide.proofs.refuted.Goals as goal

pub write_false-requires : goal.write_false-requires
write_false-requires c =
    (omega (arith, c.requires.room), omega (arith, c.if-line-list.true, c.requires.valid.count))

pub returns-then-line-list : goal.returns-then-line-list
returns-then-line-list c =
    by_false _ _ _ _ c.requires _ c.first_false-line.ensures c.if-line-list.true _ c.write_false.ensures

-- no line is false
clear : (e : Else-line-list) → has_false (lines_of e.args.list.now) ≡ false
clear e = go (has_false (lines_of e.args.list.now)) refl
  where
    go : (b : Bool) → has_false (lines_of e.args.list.now) ≡ b → b ≡ false
    go true z = absurd (omega (arith, false_found e.args.list.now z, e.first_false-line.ensures, e.if-line-list.false))
    go false z = refl

pub refuted_by_walks-requires : goal.refuted_by_walks-requires
refuted_by_walks-requires c = (c.requires, clear (goal.at.refuted_by_walks-requires c).Else-line-list)

pub returns : goal.returns
returns c = c.refuted_by_walks.ensures
