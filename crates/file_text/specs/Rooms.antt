-- The most bytes that the parts of a report take.
use Rattle.std.specs.Prelude.{ℕ, ◌*◌}

-- the digits of a 64-bit number
abbrev pub digits_room : ℕ
digits_room = 20

-- with a sign
abbrev pub signed_room : ℕ
signed_room = 21

-- with what stands between it and the next
abbrev pub field_room : ℕ
field_room = 22

-- a variable's line
abbrev pub line_room : ℕ
line_room = 6 * field_room
