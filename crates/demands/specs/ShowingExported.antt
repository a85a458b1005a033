-- What the exported functions return of showings: a result that is not below 0 is a call in the sense of Showing.antt, and a returned yes of the check says that
-- every solution meets the line; what the first hands over, the second accepts, as bytes.
use Rattle.std.specs.Prelude.{◌≡◌, refl, ◌↔◌, Bool, true, false, cond, List, ◌++◌, ℕ, ◌*◌, ◌%◌, ◌<◌, eqb, ltb, ℤ, pos, negsuc, length, drop, Err, Ok, Result}
use Rattle.std.proofs.Common.{sym, ap, subst, ◌∙◌, arith, SFits}
use Rattle.std.specs.Int.{w32}
use Rattle.integers.specs.Integer.{◌⩽◌, ◌⋖◌}
use Rattle.integers.proofs.Linear.{ints}
use Rattle.integers.specs.Laws.{never}
use Rattle.lines.specs.declared.Line.{Line}
use Rattle.lines.specs.declared.Refusal.{Refusal}
use Rattle.lines.specs.declared.Refusal.TheVariants.{LongRefutation}
use Rattle.lines.specs.Limits.{line_size, max_refutation}
use Rattle.lines.specs.Line.{number, line_numbers_lem, line_count, lines_of, Implies}
use Rattle.lines.specs.Refusal.{place_of, ◌or_else◌, refuse_if, shown_validity_lem, validity_of}
use Rattle.little_endian.specs.Bytes.{int32s, nat32s}
use Rattle.little_endian.specs.Writing.{int32_bytes, nat32_bytes}
use Rattle.check_answers.specs.declared.CheckAnswer.TheVariants.{Yes, No}
use Rattle.check_answers.specs.Answer.{unrefused}
use Rattle.check_pieces.specs.Cut.{Words}
use Rattle.theory_answers.specs.Decided.{Some}
use Rattle.check_shown.specs.Answer.{shown_answer}
use Rattle.check_shown.specs.Meaning.{accepted_met}
use Rattle.show_line.specs.declared.ShowAnswer.{ShowAnswer}
use Rattle.show_line.specs.declared.ShowAnswer.TheVariants.{Shown, NotShown}
use Rattle.show_line.specs.Answer.{ShowLent, answer_for, ShowsLine}
use Rattle.show_line.specs.Places.{Below, NotRefused}
use Rattle.c_codes.specs.Codes.{no_code, refusal_unit, refusal_code_lem}
use Rattle.c_codes.specs.Apart.{no_refusal}
use Rattle.c_codes.specs.CheckCode.{check_code_lem, code_yes}
use Rattle.c_codes.specs.ListBytes.{number_bytes, bytes_validity}
use Rattle.c_show_line.specs.Calls.{show_code_lem, ShowReturns}
use Rattle.c_check_shown.specs.Calls.{showing_of_numbers_lem, broken_line_lem, code_unless, line_in, check_shown_lem}
use Rattle.c_show_line.specs.Laws.{show_below, shown_apart}
use Rattle.c_check_shown.specs.Bytes.{shown_in_bytes}
use Rattle.demands.specs.Accepted.{accepted_showing}
use Rattle.demands.specs.Refusals.{FirstApplies}
use Rattle.demands.specs.Showing.{ShowCall, show_table, right_show, show_refused_exactly_if, refused_show_changes_nothing}

-- A result that is not below 0 is that of a call which was not refused, so that all of Showing.antt holds of it: 0 is its yes, 1,000,000 its no.
pub record ReturnedShow (n : ℕ) (L : List ℤ) (l : Line) (r : ℤ) (b a : ShowLent) : Type 0 where
  pub call : ShowCall n L l
  pub before : call.before ≡ b
  pub after : call.after ≡ a
  pub shown : (call.answer ≡ Ok Shown) ↔ (r ≡ pos 0)
  pub not_shown : (call.answer ≡ Ok NotShown) ↔ (r ≡ pos no_code)

-- Some numbers stand in front of what stood there, and the exported check returns 0 on their bytes and those of the list and of the line.
abbrev pub LeftAccepted : ℕ → List ℤ → Line → ShowLent → ShowLent → Type 0
LeftAccepted n L l b a = Some (λ R. (a.refutation ≡ R ++ drop (length R) b.refutation) × (check_shown_lem n (int32_bytes L) (int32_bytes (line_numbers_lem l)) (nat32_bytes R) ≡ pos 0))

module _ (n : ℕ) (L : List ℤ) (l : Line) (r : ℤ) (b a : ShowLent) (d : ShowReturns n L l r b a) where
  -- the number tells the answer, since no two answers have one
  returned_exactly : (x : Result ShowAnswer Refusal) → Below refusal_unit x → (answer_for n L l b ≡ x) ↔ (r ≡ show_code_lem x)
  returned_exactly x h = ((λ e. d.is ∙ ap show_code_lem e), (λ q. shown_apart _ _ (show_below n L l b) h (sym d.is ∙ q)))

  pub returned_show_is_a_call : pos 0 ⩽ r → ReturnedShow n L l r b a
  returned_show_is_a_call h =
      record {
        call = record { answer = answer_for n L l b; before = b; after = a; promised = d.shows; not_refused = passes (answer_for n L l b) d.is };
        before = refl;
        after = refl;
        shown = returned_exactly (Ok Shown) tt;
        not_shown = returned_exactly (Ok NotShown) tt;
      }
    where
      below : (k : ℕ) → pos 0 ⩽ negsuc k → ⊥
      below k = simp ints (omega arith)

      go : (s : Refusal) (z : ℤ) → pos 0 ⩽ z → z ≡ refusal_code_lem s → ⊥
      go s (pos k) h e = no_refusal k s e
      go s (negsuc k) h e = below k h

      passes : (x : Result ShowAnswer Refusal) → r ≡ show_code_lem x → NotRefused x
      passes (Ok Shown) e = tt
      passes (Ok NotShown) e = tt
      passes (Err s) e = go s r h e

  -- Else it is the number of the first refusal that applies, and the buffers are as they were.
  pub show_refusal_returned : (s : Refusal) → place_of s < refusal_unit → (r ≡ refusal_code_lem s) ↔ FirstApplies (show_table n L l b) s
  show_refusal_returned s h =
      let f = show_refused_exactly_if n L l (answer_for n L l b) b a d.shows s in
      let g = returned_exactly (Err s) h in
      ((λ e. f.0 (g.1 e)), (λ t. g.0 (f.1 t)))

  pub returned_show_changes_nothing : r ⋖ pos 0 → a ≡ b
  returned_show_changes_nothing h = go (answer_for n L l b) d.is d.shows
    where
      above : (z : ℤ) (k : ℕ) → z ⋖ pos 0 → z ≡ pos k → ⊥
      above z k = simp ints (omega arith)

      go : (x : Result ShowAnswer Refusal) → r ≡ show_code_lem x → ShowsLine n L l x b a → a ≡ b
      go (Ok Shown) e t = absurd (above r 0 h e)
      go (Ok NotShown) e t = absurd (above r no_code h e)
      go (Err s) e t = refused_show_changes_nothing n L l s b a t

  -- After a yes, the exported check of the list, of the line and of the showing that was left, each as its bytes, returns 0.
  pub returned_shown_is_accepted : r ≡ pos 0 → LeftAccepted n L l b a
  returned_shown_is_accepted e =
      let c = returned_show_is_a_call (at_least r e) in
      let h = (right_show n L l c.call).hands_over (c.shown.1 e) in
      subst (LeftAccepted n L l b) c.after
      (subst (λ (x : ShowLent). LeftAccepted n L l x c.call.after) c.before (h.numbers, (h.refutation, accepted_showing n L l h.numbers h.accepted)))
    where
      at_least : (z : ℤ) → z ≡ pos 0 → pos 0 ⩽ z
      at_least z = simp ints (omega arith)

-- Bytes change no answer: on the bytes of numbers of 32 bits the exported check answers as the checker does on the numbers.
pub shown_bytes_as_numbers : (n : ℕ) (L : List ℤ) (l : Line) (R : List ℕ) → ((i : ℕ) → SFits w32 (number L i)) → ((i : ℕ) → SFits w32 (number (line_numbers_lem l) i)) → Words R
    → check_shown_lem n (int32_bytes L) (int32_bytes (line_numbers_lem l)) (nat32_bytes R) ≡ check_code_lem (shown_answer n L l R)
shown_bytes_as_numbers n L l R f g w = shown_in_bytes n L l R w f g

-- A returned 0 of the check says that every solution of the list in the bytes meets the line in the bytes, whoever proposed the showing.
broken_below : (k : ℕ) → broken_line_lem k ≡ pos 0 → ⊥
unfolding broken_line_lem refusal_code_lem
broken_below k = simp ints (omega arith)

numbers_yes : (n : ℕ) (L : List ℤ) (l : Line) (r : List ℕ) → showing_of_numbers_lem n L l r ≡ Ok Yes → shown_answer n L l (nat32s r) ≡ Ok Yes
unfolding showing_of_numbers_lem
numbers_yes n L l r e =
    let refusals : Result Unit Refusal = validity_of n L or_else shown_validity_lem n (line_count L) l or_else refuse_if (ltb (number_bytes * max_refutation) (length r)) LongRefutation in
    go (eqb (length r % number_bytes) 0) ((unrefused refusals (cond (eqb (length r % number_bytes) 0) (shown_answer n L l (nat32s r)) (Ok (No 0))) (Ok Yes) tt).0 e).1
  where
    go : (t : Bool) → cond t (shown_answer n L l (nat32s r)) (Ok (No 0)) ≡ Ok Yes → shown_answer n L l (nat32s r) ≡ Ok Yes
    go true q = q
    go false q = never (cc)

pub returned_yes_says_so : (n : ℕ) (b l r : List ℕ) → check_shown_lem n b l r ≡ pos 0 → Implies (lines_of (int32s b)) (line_in l)
unfolding check_shown_lem
returned_yes_says_so n b l r e = go (bytes_validity n b) (eqb (length l) (number_bytes * line_size)) e
  where
    go : (v : Result Unit Refusal) (t : Bool) → code_unless v (cond t (check_code_lem (showing_of_numbers_lem n (int32s b) (line_in l) r)) (broken_line_lem (line_count (int32s b)))) ≡ pos 0 → Implies (lines_of (int32s b)) (line_in l)
    go (Ok _) true q = accepted_met n (int32s b) (line_in l) (nat32s r) (numbers_yes n (int32s b) (line_in l) r (code_yes (showing_of_numbers_lem n (int32s b) (line_in l) r) q))
    go (Ok _) false q = absurd (broken_below (line_count (int32s b)) q)
    go (Err s) t q = absurd (no_refusal 0 s (sym q))
