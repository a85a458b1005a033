-- What the loops of `lines::lines_validity` keep.
use mathlib.Core.Path.{◌≡◌}
use Prim.Native.Nat.{◌≤◌, ◌-◌}
use lib.ListN.{drop}
use Rattle.lines.specs.Line.{lines_of}
use Rattle.lines.specs.Refusal.{lines_validity_lem}
use Rattle.lines.proofs.lines_validity.Given as goal

-- `lines::lines_validity` meets its contract. The invariant: what is found from line k on is what is found from the first.
abbrev pub invariant-loop-k : goal.invariant-loop-k
invariant-loop-k l = (l.k ≤ l.count) × (lines_validity_lem l.n 0 (lines_of l.list) ≡ lines_validity_lem l.n l.k (drop l.k (lines_of l.list)))
