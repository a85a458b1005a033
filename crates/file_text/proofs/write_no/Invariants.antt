-- What the loop of `file_text::write_no` keeps.
use Prim.Native.Nat.{◌*◌}
use lib.ListN.{take}
use Rattle.file_text.specs.Rooms.{field_room}
use Rattle.file_text.specs.Text.{spaced}
use Rattle.file_text.specs.Put.{Put}
use Rattle.file_text.proofs.write_no.Given as goal

-- the first i numbers are put
abbrev pub invariant-loop-i : goal.invariant-loop-i
invariant-loop-i l = Put (l.i * field_room) l.initial.at (spaced (take l.i l.numbers)) l.initial.out l.out l.at
