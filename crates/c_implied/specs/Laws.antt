-- What the call promises gives what is returned: its places are below a refusal's unit, and the number tells the outcomes apart.
use Rattle.std.specs.Prelude.{◌≡◌, refl, true, false, List, ℕ, ℤ, Err, None, Ok, Option, Result, Some}
use Rattle.std.proofs.Common.{sym, ap, subst, ◌∙◌, arith}
use Rattle.integers.specs.Laws.{never}
use Rattle.lines.specs.declared.Refusal.{Refusal}
use Rattle.implied_pair.specs.declared.Pair.{Pair}
use Rattle.implied_pair.specs.Pair.{PairCall, called, pair_call}
use Rattle.implied_pair.specs.Places.{Below}
use Rattle.implied_pair.specs.Places as implied
use Rattle.c_codes.specs.Codes.{no_solution_code, refusal_unit}
use Rattle.c_codes.specs.Apart.{refusals_apart, no_refusal, same_pos}
use Rattle.c_implied.specs.declared.CPair.{CPair}
use Rattle.c_implied.specs.Calls.{outcome_of, outcome_code_lem, pair_code_lem, returns, as_returned, pair_returned}

pub pair_below : (n : ℕ) (L : List ℤ) (x y : ℕ) (w : List ℤ) → Below refusal_unit (pair_call n L x y w).answer
pair_below = implied.pair_below refusal_unit (omega arith)

module _ (n : ℕ) (L : List ℤ) (x y : ℕ) (w w' : List ℤ) (answer : Result (Option Pair) Refusal) (e : called answer w' ≡ pair_call n L x y w) where
  pub answer_below : Below refusal_unit answer
  answer_below = subst (λ (c : PairCall). Below refusal_unit c.answer) (sym e) (pair_below n L x y w)

  pub pair_returned_law : (given : CPair) → given ≡ pair_code_lem answer → returns given w' ≡ pair_returned n L x y w
  pair_returned_law given i = ap (λ (g : CPair). returns g w') i ∙ ap as_returned e

-- no two outcomes have one number
pub outcomes_apart : (a b : Result (Option Pair) Refusal) → Below refusal_unit a → Below refusal_unit b → outcome_code_lem a ≡ outcome_code_lem b → outcome_of a ≡ outcome_of b
outcomes_apart (Ok (Some p)) (Ok (Some q)) h k e = refl
outcomes_apart (Ok (Some p)) (Ok None) h k e = let q : 0 ≡ no_solution_code = same_pos _ _ e in absurd (omega arith)
outcomes_apart (Ok (Some p)) (Err s) h k e = absurd (no_refusal 0 s e)
outcomes_apart (Ok None) (Ok (Some p)) h k e = let q : no_solution_code ≡ 0 = same_pos _ _ e in absurd (omega arith)
outcomes_apart (Ok None) (Ok None) h k e = refl
outcomes_apart (Ok None) (Err s) h k e = absurd (no_refusal no_solution_code s e)
outcomes_apart (Err r) (Ok (Some p)) h k e = absurd (no_refusal 0 r (sym e))
outcomes_apart (Err r) (Ok None) h k e = absurd (no_refusal no_solution_code r (sym e))
outcomes_apart (Err r) (Err s) h k e = ap Err (refusals_apart r s h k e)

-- an outcome is that of an answer
pub implied_outcome : (a : Result (Option Pair) Refusal) → outcome_of a ≡ Ok true → (pair : Pair) × (a ≡ Ok (Some pair))
implied_outcome (Ok (Some pair)) e = (pair, refl)
implied_outcome (Ok None) e = never (cc)
implied_outcome (Err r) e = never (cc)

pub unsolvable_outcome : (a : Result (Option Pair) Refusal) → outcome_of a ≡ Ok false → a ≡ Ok None
unsolvable_outcome (Ok (Some pair)) e = never (cc)
unsolvable_outcome (Ok None) e = refl
unsolvable_outcome (Err r) e = never (cc)

pub refused_outcome : (a : Result (Option Pair) Refusal) (r : Refusal) → outcome_of a ≡ Err r → a ≡ Err r
refused_outcome (Ok (Some pair)) r e = never (cc)
refused_outcome (Ok None) r e = never (cc)
refused_outcome (Err s) r e = cc
