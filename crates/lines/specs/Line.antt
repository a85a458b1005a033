-- A list of numbers read as lines, the numbers of lines, and what it means that whole numbers solve them.
use Rattle.std.specs.Prelude.{◌↔◌, List, [], ◌∷◌, ◌++◌, Bool, ◌&&◌, ℕ, ◌*◌, ◌/◌, ℤ, pos, nat_abs, ◌+ℤ◌, ◌*ℤ◌, length, get_or, drop}
use Rattle.std.specs.Int.Signed.{le_z, lt_z}
use Rattle.integers.specs.Integer.{◌⩽◌, eq_z}
use Rattle.integers.specs.Sequence.{tabulate}
use Rattle.lines.specs.declared.Line.{Line}
use Rattle.lines.specs.Limits.{line_size}

abbrev pub number : List ℤ → ℕ → ℤ
number L i = get_or L i (pos 0)

-- the numbers of a line, in their order: the one place that lists them
unfoldable pub line_numbers_lem : Line → List ℤ
line_numbers_lem l = l.a ∷ l.x ∷ l.b ∷ l.y ∷ l.d ∷ l.identifier ∷ []

-- the line with whose numbers a list begins: its inverse (specs/LineNumbers.antt)
abbrev pub line_of : List ℤ → Line
line_of ns = record { a = number ns 0; x = number ns 1; b = number ns 2; y = number ns 3; d = number ns 4; identifier = number ns 5 }

-- line number k: its numbers as they stand in the list
unfoldable pub line_at : List ℤ → ℕ → Line
line_at L k = line_of (drop (line_size * k) L)

abbrev pub line_count : List ℤ → ℕ
line_count L = length L / line_size

abbrev pub lines_of : List ℤ → List Line
lines_of L = tabulate (line_count L) (line_at L)

-- the numbers of lines, one line behind the other: its inverse
unfoldable pub numbers_of : List Line → List ℤ
numbers_of [] = []
numbers_of (l ∷ ls) = line_numbers_lem l ++ numbers_of ls

-- an assignment gives each variable a mathematical integer
abbrev pub Assignment : Type 0
Assignment = ℕ → ℤ

-- the assignment that a list of values gives: the value at an index is that of the variable with this number, and a variable beyond has 0
abbrev pub assignment_of : List ℤ → Assignment
assignment_of m k = get_or m k (pos 0)

-- a·x + b·y. A variable number of a valid line is not negative, so that nat_abs only makes it a ℕ
unfoldable pub left_side_lem : Assignment → Line → ℤ
left_side_lem s l = l.a *ℤ s (nat_abs l.x) +ℤ l.b *ℤ s (nat_abs l.y)

abbrev pub Meets : Assignment → Line → Type 0
Meets s l = left_side_lem s l ⩽ l.d

abbrev pub meets : Assignment → Line → Bool
meets s l = le_z (left_side_lem s l) l.d

-- every line is met
abbrev pub Solves : List Line → Assignment → Type 0
Solves [] s = Unit {0}
Solves (l ∷ ls) s = Meets s l × Solves ls s

pub record Solvable (ls : List Line) : Type 0 where
  pub assignment : Assignment
  pub solves : Solves ls assignment

-- every solution of ms solves ls
abbrev pub Entails : List Line → List Line → Type 0
Entails ms ls = (s : Assignment) → Solves ms s → Solves ls s

-- every solution meets the line
abbrev pub Implies : List Line → Line → Type 0
Implies ls l = (s : Assignment) → Solves ls s → Meets s l

-- a solution that does not meet the line
pub record Breaks (ls : List Line) (l : Line) : Type 0 where
  pub assignment : Assignment
  pub solves : Solves ls assignment
  pub breaks : Meets assignment l → ⊥

-- what solves the one solves the other
abbrev pub SameSolutions : List Line → List Line → Type 0
SameSolutions ls ms = (s : Assignment) → Solves ls s ↔ Solves ms s

-- a zero, zero line: both coefficients are 0
abbrev pub is_zero : Line → Bool
is_zero l = eq_z l.a (pos 0) && eq_z l.b (pos 0)

-- a false line: a zero, zero line with d below 0
unfoldable pub is_false_lem : Line → Bool
is_false_lem l = is_zero l && lt_z l.d (pos 0)
