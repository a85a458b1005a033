-- `decide_false_line::first_false` meets its contract.
use mathlib.Core.Path.{◌≡◌, sym, ap, ◌∙◌}
use Prim.Native.Nat.{ℕ, ◌+◌}
use native.Mathlib.Omega.{arith}
use lib.ListN.{drop}
use Rattle.lines.specs.Line.{lines_of, is_false_lem}
use Rattle.theory_bounds.specs.Verdict.{first_false_lem}
use Rattle.decide_false_line.specs.False.{found_by, false_from, false_past}
use Rattle.decide_false_line.proofs.first_false.Goals.{After-is_false}
use Rattle.decide_false_line.proofs.first_false.Goals as goal

-- what is found from line k on, by the test of line k
module _ (v : After-is_false) where
  abbrev k : ℕ
  k = v.loop-k.k

  abbrev later : ℕ
  later = first_false_lem (k + 1) (drop (k + 1) (lines_of v.args.list.now))

  found : first_false_lem 0 (lines_of v.args.list.now) ≡ found_by k later v.is_false.result
  found =
      v.loop-k.invariant
      ∙ false_from v.args.list.now k v.loop-k-test.true
      ∙ ap (found_by k later) (sym (v.is_false.ensures ∙ ap is_false_lem v.line_at.ensures))

pub returns-then-is_false : goal.returns-then-is_false
returns-then-is_false c = sym (rw c.if-is_false.true at (found (goal.at.returns-then-is_false c).After-is_false))

pub loop-k-preserved : goal.loop-k-preserved
loop-k-preserved c = rw c.if-is_false.false at (found (goal.at.loop-k-preserved c).After-is_false)

pub returns : goal.returns
returns c = grind (arith, false_past)
