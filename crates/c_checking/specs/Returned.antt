-- What is returned on a refutation says of the bytes: a yes is the checker's yes on the numbers, and a no says where they break.
use Rattle.lines.specs.declared.Refusal.{Refusal}
use Rattle.std.specs.Prelude.{◌≡◌, refl, ◌⊎◌, ◌↔◌, Bool, true, false, cond, List, ℕ, ◌+◌, ◌*◌, ◌/◌, ◌%◌, ◌≤◌, eqb, ltb, pos, length, Ok, Result}
use Rattle.std.proofs.Common.{sym, ap, inl, inr, arith}
use borrow.Author.Tests.{ltb-false, le-ltb, eqb-true, eqb-false, eq-eqb, ne_eqb}
use Rattle.integers.specs.Laws.{never}
use Rattle.lines.specs.declared.Refusal.TheVariants.{LongRefutation}
use Rattle.lines.specs.Limits.{max_refutation}
use Rattle.lines.specs.Refusal.{refuse_if}
use Rattle.lines.specs.Valid.{not_refused}
use Rattle.little_endian.specs.Bytes.{le32, int32s, nat32s, length_first_of}
use Rattle.check_answers.specs.declared.CheckAnswer.{CheckAnswer}
use Rattle.check_answers.specs.declared.CheckAnswer.TheVariants.{Yes, No}
use Rattle.check_answers.specs.Answer.{NotRefused, unrefused}
use Rattle.check_refutation.specs.Answer.{refutation_answer}
use Rattle.check_soundness.specs.BreaksAt.{BreaksAt}
use Rattle.check_soundness.specs.Breaks.{no_exactly_where}
use Rattle.c_codes.specs.Codes.{no_code}
use Rattle.c_codes.specs.CheckCode.{check_code_lem, code_yes, code_no}
use Rattle.c_codes.specs.ListBytes.{number_bytes, bytes_validity, valid_bytes}
use Rattle.c_checking.specs.Calls.{refutation_of_numbers_lem, refutation_of_bytes, check_refutation_lem}

-- the bytes of a refutation of the list in the bytes b break at 0 where they are no multiple of a number's, and else where their numbers do
abbrev pub BytesBreakAt : List ℕ → List ℕ → ℕ → Type 0
BytesBreakAt b r k = ((length r % number_bytes ≡ 0 → ⊥) × (k ≡ 0)) ⊎ ((length r % number_bytes ≡ 0) × BreaksAt (int32s b) (nat32s r) k)

module _ (n : ℕ) (b r : List ℕ) where
  returned : (a : Result CheckAnswer Refusal) → NotRefused a → (refutation_of_bytes n b r ≡ a)
      ↔ ((bytes_validity n b ≡ Ok tt) × (length r ≤ number_bytes * max_refutation) × (cond (eqb (length r % number_bytes) 0) (refutation_answer n (int32s b) (nat32s r)) (Ok (No 0)) ≡ a))
  unfolding refutation_of_bytes refutation_of_numbers_lem
  returned a h = (
    (λ e.
        let u = (unrefused (bytes_validity n b) (refutation_of_numbers_lem n (int32s b) r) a h).0 e in
        let v = (unrefused (refuse_if (ltb (number_bytes * max_refutation) (length r)) LongRefutation) _ a h).0 u.1 in
        (u.0, ltb-false _ _ (not_refused _ LongRefutation v.0), v.1)),
    (λ h. rw (h.0, le-ltb (number_bytes * max_refutation) (length r) h.1) h.2),
  )

  whole_yes : (t : Bool) (a : Result CheckAnswer Refusal) → cond t a (Ok (No 0)) ≡ Ok Yes → (t ≡ true) × (a ≡ Ok Yes)
  whole_yes true a e = (refl, e)
  whole_yes false a e = never (cc)

  pub returned_yes : (check_refutation_lem n b r ≡ pos 0)
      ↔ ((bytes_validity n b ≡ Ok tt) × (length r ≤ number_bytes * max_refutation) × (length r % number_bytes ≡ 0) × (refutation_answer n (int32s b) (nat32s r) ≡ Ok Yes))
  returned_yes = (
    (λ e.
        let u = (returned (Ok Yes) tt).0 (code_yes (refutation_of_bytes n b r) e) in
        let w = whole_yes (eqb (length r % number_bytes) 0) (refutation_answer n (int32s b) (nat32s r)) u.2 in
        (u.0, u.1, eqb-true _ _ w.0, w.1)),
    (λ h. ap check_code_lem ((returned (Ok Yes) tt).1 (h.0, h.1, rw (eq-eqb (length r % number_bytes) 0 h.2) h.3))),
  )

  few_numbers : length r ≤ number_bytes * max_refutation → length (nat32s r) ≤ max_refutation
  few_numbers h = omega (arith, length_first_of number_bytes le32 r (length r / number_bytes))

  pub returned_no : (k : ℕ) → (check_refutation_lem n b r ≡ pos (no_code + k)) ↔ ((bytes_validity n b ≡ Ok tt) × (length r ≤ number_bytes * max_refutation) × BytesBreakAt b r k)
  returned_no k = (
    (λ e. let u = (returned (Ok (No k)) tt).0 (code_no (refutation_of_bytes n b r) k e) in (u.0, u.1, fore (eqb (length r % number_bytes) 0) refl u.2)),
    (λ h. ap check_code_lem ((returned (Ok (No k)) tt).1 (h.0, h.1, back h.0 h.1 h.2))),
  )
    where
      fore : (t : Bool) → eqb (length r % number_bytes) 0 ≡ t → cond t (refutation_answer n (int32s b) (nat32s r)) (Ok (No 0)) ≡ Ok (No k) → BytesBreakAt b r k
      fore true x e = inr (eqb-true _ _ x, ((no_exactly_where n (int32s b) (nat32s r) k).0 e).2)
      fore false x e = inl (eqb-false _ _ x, cc)

      back : bytes_validity n b ≡ Ok tt → length r ≤ number_bytes * max_refutation → BytesBreakAt b r k → cond (eqb (length r % number_bytes) 0) (refutation_answer n (int32s b) (nat32s r)) (Ok (No 0)) ≡ Ok (No k)
      back v l (inl h) = rw (ne_eqb (length r % number_bytes) 0 h.0) (ap (λ (j : ℕ). Ok (No j)) (sym h.1))
      back v l (inr h) = rw (eq-eqb (length r % number_bytes) 0 h.0) ((no_exactly_where n (int32s b) (nat32s r) k).1 ((valid_bytes n b v).numbers, few_numbers l, h.1))
