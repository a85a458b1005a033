-- A call of the pair, as the statements about it speak of it: what it answered and left, and what C gets.
use Rattle.std.specs.Prelude.{◌≡◌, ◌↔◌, Bool, true, false, List, ℕ, ℤ, pos, negsuc, length, Err, Ok, Result, None, Option, Some}
use Rattle.std.proofs.Math.Path.{refl, ap}
use Rattle.std.proofs.Common.{sym, ◌∙◌, arith}
use Rattle.integers.specs.Integer.{◌⩽◌}
use Rattle.integers.proofs.Linear.{ints}
use Rattle.integers.specs.Laws.{never}
use Rattle.lines.specs.declared.Refusal.{Refusal}
use Rattle.lines.specs.Line.{lines_of}
use Rattle.theory_bounds.specs.Verdict.{distances, verdict_of}
use Rattle.decide.specs.Decided.{cleared}
use Rattle.implied_pair.specs.declared.Pair.{Pair}
use Rattle.implied_pair.specs.Pair.{pair_in_lem, pair_validity_lem, PairCall, called, judged, unless_refused, pair_call}
use Rattle.implied_pair.specs.Called.{PairOk, pair_ok, ok_pair}
use Rattle.c_codes.specs.Codes.{no_solution_code, refusal_unit, refusal_code_lem}
use Rattle.c_codes.specs.Apart.{no_refusal}
use Rattle.c_implied.specs.declared.CPair.{CPair}
use Rattle.c_implied.specs.Calls.{outcome_of, outcome_code_lem, no_pair, given_pair, PairReturned, returns, pair_returned}
use Rattle.c_implied.specs.Laws.{pair_below, outcomes_apart}
use Rattle.implied_pair.specs.Places.{Below}

-- A call of the pair that was not refused, whatever stood in the work area before.
pub record PairAsked (n : ℕ) (L : List ℤ) (x y : ℕ) : Type 0 where
  pub answer : Result (Option Pair) Refusal
  pub before : List ℤ
  pub after : List ℤ
  pub promised : called answer after ≡ pair_call n L x y before
  pub not_refused : (r : Refusal) → answer ≡ Err r → ⊥

-- ---- what follows from the call alone
module _ {n : ℕ} {L : List ℤ} {x y : ℕ} (c : PairAsked n L x y) where
  all_valid : pair_validity_lem n L x y (length c.before) ≡ Ok tt
  unfolding pair_call
  all_valid = go (pair_validity_lem n L x y (length c.before)) refl
    where
      go : (v : Result Unit Refusal) → pair_validity_lem n L x y (length c.before) ≡ v → v ≡ Ok tt
      go (Ok _) e = refl
      go (Err r) e =
          absurd (c.not_refused r (ap (λ (p : PairCall). p.answer) (c.promised ∙ ap (λ (v : Result Unit Refusal). unless_refused v (called (Ok (judged (verdict_of n (lines_of L)) (pair_in_lem (distances n (lines_of L)) x y))) (cleared n c.before)) c.before) e)))

  pub asked_ok : PairOk n L x y (length c.before)
  asked_ok = pair_ok n L x y (length c.before) all_valid

  -- by the verdict
  call_is : (t : Bool) → verdict_of n (lines_of L) ≡ t → called c.answer c.after ≡ called (Ok (judged t (pair_in_lem (distances n (lines_of L)) x y))) (cleared n c.before)
  unfolding pair_call
  call_is t e = c.promised ∙ rw (all_valid, e)

  pub asked_work : c.after ≡ cleared n c.before
  asked_work = ap (λ (p : PairCall). p.work) (call_is (verdict_of n (lines_of L)) refl)

  pub asked_answer : (t : Bool) → verdict_of n (lines_of L) ≡ t → c.answer ≡ Ok (judged t (pair_in_lem (distances n (lines_of L)) x y))
  asked_answer t e = ap (λ (p : PairCall). p.answer) (call_is t e)

  outcome_is : (t : Bool) → verdict_of n (lines_of L) ≡ t → outcome_of c.answer ≡ outcome_of (Ok (judged t (pair_in_lem (distances n (lines_of L)) x y)))
  outcome_is t e = ap outcome_of (asked_answer t e)

  pub verdict_implied : verdict_of n (lines_of L) ≡ true → outcome_of c.answer ≡ Ok true
  verdict_implied e = outcome_is true e

  pub verdict_unsolvable : verdict_of n (lines_of L) ≡ false → outcome_of c.answer ≡ Ok false
  verdict_unsolvable e = outcome_is false e

  pub implied_verdict : outcome_of c.answer ≡ Ok true → verdict_of n (lines_of L) ≡ true
  implied_verdict i = go (verdict_of n (lines_of L)) refl
    where
      go : (t : Bool) → verdict_of n (lines_of L) ≡ t → t ≡ true
      go true e = refl
      go false e = let z : ◌≡◌ {A = Result Bool Refusal} (Ok true) (Ok false) = sym i ∙ outcome_is false e in never (cc)

  pub unsolvable_verdict : outcome_of c.answer ≡ Ok false → verdict_of n (lines_of L) ≡ false
  unsolvable_verdict i = go (verdict_of n (lines_of L)) refl
    where
      go : (t : Bool) → verdict_of n (lines_of L) ≡ t → t ≡ false
      go true e = let z : ◌≡◌ {A = Result Bool Refusal} (Ok false) (Ok true) = sym i ∙ outcome_is true e in never (cc)
      go false e = refl

-- an answer is no refusal and a refusal at once
apart : {T : Type 0} {r : Refusal} {x : T} {a : Result T Refusal} → a ≡ Err r → a ≡ Ok x → ⊥
apart {T} {r} {x} {a} p q = let e : ◌≡◌ {A = Result T Refusal} (Err r) (Ok x) = sym p ∙ q in never (cc)

-- what a refused call left
pub refused_left : (n : ℕ) (L : List ℤ) (x y : ℕ) (answer : Result (Option Pair) Refusal) (before after : List ℤ) → called answer after ≡ pair_call n L x y before
    → (r : Refusal) → answer ≡ Err r → (after ≡ before) × (given_pair answer ≡ no_pair)
unfolding pair_call
refused_left n L x y answer before after e r i = go (pair_validity_lem n L x y (length before)) (verdict_of n (lines_of L)) e
  where
    go : (v : Result Unit Refusal) (t : Bool) → called answer after ≡ unless_refused v (called (Ok (judged t (pair_in_lem (distances n (lines_of L)) x y))) (cleared n before)) before → (after ≡ before) × (given_pair answer ≡ no_pair)
    go (Ok _) t z = absurd (apart i (ap (λ (p : PairCall). p.answer) z))
    go (Err q) t z = (ap (λ (p : PairCall). p.work) z, ap (λ (p : PairCall). given_pair p.answer) z)

-- ---- calls exist
never_refused : (n : ℕ) (L : List ℤ) (x y : ℕ) (before : List ℤ) → PairOk n L x y (length before) → (r : Refusal) → (pair_call n L x y before).answer ≡ Err r → ⊥
unfolding pair_call
never_refused n L x y before ok r e = go (verdict_of n (lines_of L)) (rw (ok_pair n L x y (length before) ok) at e)
  where
    go : (t : Bool) → Ok (judged t (pair_in_lem (distances n (lines_of L)) x y)) ≡ Err r → ⊥
    go t e = apart e refl

pub asked_from : (n : ℕ) (L : List ℤ) (x y : ℕ) (before : List ℤ) → PairOk n L x y (length before) → (c : PairAsked n L x y) × (c.before ≡ before)
asked_from n L x y before ok =
    (record { answer = (pair_call n L x y before).answer; before = before; after = (pair_call n L x y before).work; promised = refl; not_refused = never_refused n L x y before ok }, refl)

-- ---- the exported function: what it returned, as a call
-- The call that a result tells of: 0 where the pair is implied, 2,000,000 where the list has no solution, and the rows are its own.
pub record ReturnedPair (n : ℕ) (L : List ℤ) (x y : ℕ) (r : CPair) (b a : List ℤ) : Type 0 where
  pub call : PairAsked n L x y
  pub before : call.before ≡ b
  pub after : call.after ≡ a
  pub implied : (outcome_of call.answer ≡ Ok true) ↔ (r.result ≡ pos 0)
  pub unsolvable : (outcome_of call.answer ≡ Ok false) ↔ (r.result ≡ pos no_solution_code)
  pub plus : r.plus ≡ (given_pair call.answer).plus
  pub minus : r.minus ≡ (given_pair call.answer).minus

-- the number that is returned, by what came of the question alone
abbrev code_of : Result Bool Refusal → ℤ
code_of (Ok true) = pos 0
code_of (Ok false) = pos no_solution_code
code_of (Err r) = refusal_code_lem r

code_is : (a : Result (Option Pair) Refusal) → outcome_code_lem a ≡ code_of (outcome_of a)
code_is (Ok (Some pair)) = refl
code_is (Ok None) = refl
code_is (Err r) = refl

module _ (n : ℕ) (L : List ℤ) (x y : ℕ) (r : CPair) (b a : List ℤ) (e : returns r a ≡ pair_returned n L x y b) where
  abbrev given : Result (Option Pair) Refusal
  given = (pair_call n L x y b).answer

  result_is : r.result ≡ outcome_code_lem given
  result_is = ap (λ (p : PairReturned). p.given.result) e

  exactly : (o : Result (Option Pair) Refusal) → Below refusal_unit o → (outcome_of given ≡ outcome_of o) ↔ (r.result ≡ outcome_code_lem o)
  exactly o h = ((λ q. result_is ∙ code_is given ∙ ap code_of q ∙ sym (code_is o)), (λ q. outcomes_apart given o (pair_below n L x y b) h (sym result_is ∙ q)))

  pub returned_pair : pos 0 ⩽ r.result → ReturnedPair n L x y r b a
  returned_pair h =
      record {
        call = record { answer = given; before = b; after = a; promised = ap (called given) (ap (λ (p : PairReturned). p.work) e); not_refused = λ s q. go s r.result h (result_is ∙ ap outcome_code_lem q) };
        before = refl;
        after = refl;
        implied = exactly (Ok (Some no_pair)) tt;
        unsolvable = exactly (Ok None) tt;
        plus = ap (λ (p : PairReturned). p.given.plus) e;
        minus = ap (λ (p : PairReturned). p.given.minus) e;
      }
    where
      below : (k : ℕ) → pos 0 ⩽ negsuc k → ⊥
      below k = simp ints (omega arith)

      go : (s : Refusal) (z : ℤ) → pos 0 ⩽ z → z ≡ refusal_code_lem s → ⊥
      go s (pos k) h e = no_refusal k s e
      go s (negsuc k) h e = below k h
