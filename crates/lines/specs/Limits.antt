-- The specification's limits, each in this one place; src/limits.rt has the same for the code.
use Rattle.std.specs.Prelude.{ℕ, ◌+◌, ◌*◌, ◌-◌, ◌^◌, ℤ, pos, negsuc}

-- how many numbers a line has: `line_numbers_lem` gives them
abbrev pub line_size : ℕ
line_size = 6

-- how many of them come before the identifier, which is the last
abbrev pub bare_size : ℕ
bare_size = line_size - 1

-- the most variables
abbrev pub max_variables : ℕ
max_variables = 256

-- the most lines
abbrev pub max_lines : ℕ
max_lines = 4_096

-- a line's d lies within plus and minus this
abbrev pub max_constant : ℕ
max_constant = 1_000_000

-- a line that is shown says what follows from a list of n variables: its d lies within plus and minus this
abbrev pub shown_constant_lem : ℕ → ℕ
shown_constant_lem n = 2 * n * max_constant

-- deciding works within wider limits: on a list with the opposite of a line behind it, a·x + b·y ≤ d turned to -a·x - b·y ≤ -d - 1
abbrev pub work_lines : ℕ
work_lines = max_lines + 1

abbrev pub work_constant : ℕ
work_constant = shown_constant_lem max_variables + 1

-- where the model is written, that line is one of a list: each d lies within this
abbrev pub model_constant : ℕ
model_constant = max_constant + 1

-- the greatest identifier of a message: 29 bits
abbrev pub max_identifier : ℕ
max_identifier = 536_870_911

-- a proposed model's values lie within plus and minus this
abbrev pub max_value : ℕ
max_value = 1_000_000_000_000

-- the most numbers of a proposed refutation
abbrev pub max_refutation : ℕ
max_refutation = 65_536

-- the numbers that stand for an absent bound: the lowest 64-bit number for a least value, the highest for a greatest one
abbrev pub absent_least : ℤ
absent_least = negsuc (2 ^ 63 - 1)

abbrev pub absent_greatest : ℤ
absent_greatest = pos (2 ^ 63 - 1)
