-- What the exported question of two variables returns, and what it leaves in the work area.
use Rattle.std.specs.Prelude.{Bool, true, false, List, [], ◌∷◌, ℕ, ℤ, pos, Err, None, Ok, Option, Result, Some}
use Rattle.lines.specs.declared.Refusal.{Refusal}
use Rattle.implied_pair.specs.declared.Pair.{Pair}
use Rattle.implied_pair.specs.Pair.{PairCall, pair_call}
use Rattle.c_codes.specs.Codes.{no_solution_code, refusal_code_lem}
use Rattle.c_implied.specs.declared.CPair.{CPair}

-- what came of the question, without the numbers of a pair: whether one is implied, or a refusal
abbrev pub outcome_of : Result (Option Pair) Refusal → Result Bool Refusal
outcome_of (Ok (Some pair)) = Ok true
outcome_of (Ok None) = Ok false
outcome_of (Err r) = Err r

-- the number that an answer is returned as
abbrev pub outcome_code_lem : Result (Option Pair) Refusal → ℤ
outcome_code_lem (Ok (Some pair)) = pos 0
outcome_code_lem (Ok None) = pos no_solution_code
outcome_code_lem (Err r) = refusal_code_lem r

-- and the rows beside it: four zeros where no pair is implied
abbrev pub no_pair : Pair
no_pair = record { plus = pos 0 ∷ pos 0 ∷ []; minus = pos 0 ∷ pos 0 ∷ [] }

abbrev pub given_pair : Result (Option Pair) Refusal → Pair
given_pair (Ok (Some pair)) = pair
given_pair (Ok None) = no_pair
given_pair (Err r) = no_pair

abbrev pub without_pair_lem : ℤ → CPair
without_pair_lem code = record { result = code; plus = no_pair.plus; minus = no_pair.minus }

abbrev pub pair_code_lem : Result (Option Pair) Refusal → CPair
pair_code_lem a = record { result = outcome_code_lem a; plus = (given_pair a).plus; minus = (given_pair a).minus }

-- what C gets, and what the work area holds after
pub record PairReturned : Type 0 where
  pub given : CPair
  pub work : List ℤ

abbrev pub returns : CPair → List ℤ → PairReturned
returns r w = record { given = r; work = w }

abbrev pub as_returned : PairCall → PairReturned
as_returned c = returns (pair_code_lem c.answer) c.work

abbrev pub pair_returned : ℕ → List ℤ → ℕ → ℕ → List ℤ → PairReturned
pair_returned n L x y w = as_returned (pair_call n L x y w)
