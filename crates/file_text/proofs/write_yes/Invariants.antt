-- What the loop of `file_text::write_yes` keeps.
use Prim.Native.Nat.{◌*◌}
use Rattle.file_text.specs.Rooms.{line_room}
use Rattle.file_text.specs.Text.{lines_text}
use Rattle.file_text.specs.Put.{Put}
use Rattle.file_text.proofs.write_yes.Given as goal

-- the lines of the first x variables are put
abbrev pub invariant-loop-x : goal.invariant-loop-x
invariant-loop-x l = Put (l.x * line_room) l.initial.at (lines_text l.x l.model l.bounds l.groups) l.initial.out l.out l.at
