-- The numbers that a no, a list without a solution and a refusal are returned as.
use Rattle.std.specs.Prelude.{ℕ, ◌+◌, ◌*◌, ℤ, pos, neg_ℤ}
use Rattle.lines.specs.declared.Refusal.{Refusal}
use Rattle.lines.specs.Refusal.{number_of, place_of}

-- a no is this and, of a model, the number of the line that fails, of a refutation the place where it breaks
abbrev pub no_code : ℕ
no_code = 1_000_000

-- returned where a question is asked of a list that has no solution
abbrev pub no_solution_code : ℕ
no_solution_code = 2_000_000

-- a refusal's number counts this much, and then its place
abbrev pub refusal_unit : ℕ
refusal_unit = 100_000

unfoldable pub refusal_code_lem : Refusal → ℤ
refusal_code_lem r = neg_ℤ (pos (number_of r * refusal_unit + place_of r))
