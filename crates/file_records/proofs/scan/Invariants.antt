-- What the loops of `file_records::scan` keep.
use Prim.Native.Nat.{◌-◌}
use lib.ListN.{length}
use Rattle.file_records.specs.Laws.{Running}
use Rattle.file_records.proofs.scan.Given as goal

-- `file_records::scan` meets its contract. The invariant: reading on from the cursor leads where all of the reading leads.
abbrev pub invariant-loop-c : goal.invariant-loop-c
invariant-loop-c l = Running l.bytes l.room l.cursor

abbrev pub decreases-loop-c : goal.decreases-loop-c
decreases-loop-c l = length l.bytes - l.cursor.at
