-- What the loop of `session_kept::keep` keeps: the first i numbers are copied, and the rest is as it was.
use Rattle.std.proofs.Common.{◌≡◌, ◌<◌, ℕ, ℤ, List, drop, get_or}
use Rattle.lines.specs.Line.{number}
use Rattle.session_kept.proofs.keep.Given as goal

pub record Kept {T : Type 0} (converts : T → ℤ → Type 0) (numbers : List T) (before now : List ℤ) (i : ℕ) : Type 0 where
  pub copied : (k : ℕ) (x : T) → k < i → converts (get_or numbers k x) (number now k)
  pub rest : drop i now ≡ drop i before

abbrev pub invariant-loop-i : goal.invariant-loop-i
invariant-loop-i g l = Kept g.T.Into.converts l.numbers l.initial.kept l.kept l.i
