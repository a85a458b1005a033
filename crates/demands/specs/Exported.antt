-- What was demanded of the exported functions, in the words of docs/SPECIFICATION.md, each statement proved by citing the rest.
use Rattle.std.specs.Prelude.{◌≡◌, refl, ◌↔◌, List, ℕ, ◌+◌, ◌*◌, ◌%◌, ◌<◌, ◌≤◌, ℤ, pos, neg_ℤ, length, Ok}
use Rattle.std.proofs.Common.{ap, subst, ◌∙◌, arith, SFits}
use mathlib.Core.Logic.Iff
use Rattle.integers.specs.Integer.{◌⩽◌, ◌⋖◌}
use Rattle.lines.specs.declared.Refusal.{Refusal}
use Rattle.lines.specs.Limits.{max_refutation}
use Rattle.lines.specs.Line.{Solvable, lines_of, assignment_of, number}
use Rattle.lines.specs.Refusal.{validity_of, number_of, place_of}
use Rattle.little_endian.specs.Bytes.{int32s, nat32s, AreBytes}
use Rattle.std.specs.Int.{w32, w64}
use Rattle.lines.specs.Fits.{numbers_fit}
use Rattle.little_endian.specs.Writing.{int32_bytes, nat32_bytes, int64_bytes}
use Rattle.little_endian.specs.Back.{int32s_back, int32_bytes_small, nat32_bytes_small, int64_bytes_small}
use Rattle.check_answers.specs.declared.CheckAnswer.TheVariants.{Yes}
use Rattle.check_model.specs.Model.{model_answer}
use Rattle.check_refutation.specs.Answer.{refutation_answer}
use Rattle.check_pieces.specs.Cut.{Words}
use Rattle.decide_buffers.specs.Room.{Lent}
use Rattle.decide.specs.Parts.{model_in_lem, refutation_in}
use Rattle.demands.specs.Calls.{Engine, answer_by, ReturnsBy, Returned, engine_below, returned_call, returned_unchanged, call_accepted}
use Rattle.demands.specs.Refusals.{Asked, refusal_table, FirstApplies, returned}
use Rattle.demands.specs.Refused.{table_refuses, code_refused}
use Rattle.c_codes.specs.Codes.{refusal_unit, refusal_code_lem, no_code}
use Rattle.c_codes.specs.CheckCode.{check_code_lem, answers_apart}
use Rattle.c_codes.specs.ListBytes.{number_bytes, bytes_validity}
use Rattle.c_checking.specs.Calls.{model_of_bytes, refutation_of_bytes, check_model_lem, check_refutation_lem}
use Rattle.c_checking.specs.Laws.{model_bytes_below, refutation_bytes_below}
use Rattle.c_checking.specs.Returned.{BytesBreakAt, returned_yes, returned_no}
use Rattle.c_codes.specs.InBytes.{list_in_bytes}
use Rattle.c_checking.specs.Bytes.{refutation_in_bytes, model_in_bytes}
use Rattle.c_pieces.specs.Pieces.{refutation_begin, refutation_end, take_each, each_answered}
use Rattle.c_deciding.specs.Calls.{decide_code_lem}
use Rattle.c_deciding.specs.Laws.{decisions_apart}
use Rattle.demands.specs.Accepted.{accepted_words, accepted_refutation, accepted_model}
use Rattle.demands.specs.Pieces.{each_checked}
use Rattle.demands.specs.Demands.{ValidFor, Accepted, right_answer, nothing_against_a_solution}

-- Of both functions that decide a list: a returned 0 or 1,000,000 is a call that was not refused, so that demands 1 to 3 hold of it: 0 is its yes and 1,000,000 its no, and what the buffers
-- held before and after is what the call found and left.
pub returned_is_a_call : (e : Engine) (n : ℕ) (L : List ℤ) (r : ℤ) (b a : Lent) → ReturnsBy e n L r b a → pos 0 ⩽ r → Returned e n L r b a
returned_is_a_call e n L r b a d = returned_call e n L r b a d

-- A returned refusal leaves every lent buffer as it was.
pub returned_refusal_changes_nothing : (e : Engine) (n : ℕ) (L : List ℤ) (r : ℤ) (b a : Lent) → ReturnsBy e n L r b a → r ⋖ pos 0 → a ≡ b
returned_refusal_changes_nothing e n L r b a d = returned_unchanged e n L r b a d

-- After a no, the refutation that was left is accepted.
pub left_refutation_is_accepted : (e : Engine) (n : ℕ) (L : List ℤ) (b a : Lent) → ReturnsBy e n L (pos no_code) b a → Accepted n L (refutation_in a)
left_refutation_is_accepted e n L b a d =
    let c = returned_call e n L _ b a d (omega arith) in
    subst (λ (x : Lent). Accepted n L (refutation_in x)) c.after (call_accepted c.call (c.no.1 refl))

-- So the exported check of the list and of that refutation, each as its bytes, returns 0.
pub returned_no_is_shown : (e : Engine) (n : ℕ) (L : List ℤ) (b a : Lent) → ReturnsBy e n L (pos no_code) b a → check_refutation_lem n (int32_bytes L) (nat32_bytes (refutation_in a)) ≡ pos 0
returned_no_is_shown e n L b a d = accepted_refutation n L (refutation_in a) (left_refutation_is_accepted e n L b a d)

-- So do the exported calls that take its numbers one by one.
pub returned_no_is_shown_in_pieces : (e : Engine) (n : ℕ) (L : List ℤ) (b a : Lent) → ReturnsBy e n L (pos no_code) b a → refutation_end n L (take_each L refutation_begin (refutation_in a)) ≡ pos 0
returned_no_is_shown_in_pieces e n L b a d =
    let s = left_refutation_is_accepted e n L b a d in
    each_answered n L (refutation_in a) (accepted_words n L (refutation_in a) s) ∙ ap check_code_lem s

-- After a yes, the model checker says yes to the model that was left.
pub left_model_is_accepted : (e : Engine) (n : ℕ) (L : List ℤ) (b a : Lent) → ReturnsBy e n L (pos 0) b a → model_answer n L (model_in_lem n a) ≡ Ok Yes
left_model_is_accepted e n L b a d =
    let c = returned_call e n L _ b a d (omega arith) in
    subst (λ (x : Lent). model_answer n L (model_in_lem n x) ≡ Ok Yes) c.after ((right_answer n L c.call).yes_is_shown (c.yes.1 refl))

-- So the exported check of the list and of that model, each as its bytes, returns 0.
pub returned_yes_is_shown : (e : Engine) (n : ℕ) (L : List ℤ) (b a : Lent) → ReturnsBy e n L (pos 0) b a → check_model_lem n (int32_bytes L) (int64_bytes (model_in_lem n a)) ≡ pos 0
returned_yes_is_shown e n L b a d = accepted_model n L (model_in_lem n a) (left_model_is_accepted e n L b a d)

-- Bytes change no answer: on the bytes of numbers of 32 bits, of a model's values 64, the exported checks answer as the checkers do on the numbers.
pub list_bytes_as_numbers : (n : ℕ) (L : List ℤ) → ((i : ℕ) → SFits w32 (number L i)) → bytes_validity n (int32_bytes L) ≡ validity_of n L
list_bytes_as_numbers n L f = list_in_bytes n L f

pub refutation_bytes_as_numbers : (n : ℕ) (L : List ℤ) (R : List ℕ) → ((i : ℕ) → SFits w32 (number L i)) → Words R
    → refutation_of_bytes n (int32_bytes L) (nat32_bytes R) ≡ refutation_answer n L R
refutation_bytes_as_numbers n L R f = refutation_in_bytes n L f R

pub model_bytes_as_numbers : (n : ℕ) (L m : List ℤ) → ((i : ℕ) → SFits w32 (number L i)) → ((i : ℕ) → SFits w64 (assignment_of m i))
    → model_of_bytes n (int32_bytes L) (int64_bytes m) ≡ model_answer n L m
model_bytes_as_numbers n L m f = model_in_bytes n L f m

-- A valid list has such numbers: its bytes are those of a valid list, and it is read from them.
pub valid_list_in_bytes : (n : ℕ) (L : List ℤ) → ValidFor n L → (bytes_validity n (int32_bytes L) ≡ Ok tt) × (int32s (int32_bytes L) ≡ L)
valid_list_in_bytes n L v = let f = numbers_fit n L v in (list_in_bytes n L f ∙ v, int32s_back L f)

-- The bytes of numbers are bytes: each is below 256.
pub bytes_are_bytes : (L m : List ℤ) (R : List ℕ) → AreBytes (int32_bytes L) × AreBytes (nat32_bytes R) × AreBytes (int64_bytes m)
bytes_are_bytes L m R = (int32_bytes_small L, nat32_bytes_small R, int64_bytes_small m)

-- The number returned is 0 exactly if the bytes are those of a valid list and of a refutation that is accepted against it.
pub returned_yes_is_accepted : (n : ℕ) (b r : List ℕ) → (check_refutation_lem n b r ≡ pos 0)
    ↔ ((bytes_validity n b ≡ Ok tt) × (length r ≤ number_bytes * max_refutation) × (length r % number_bytes ≡ 0) × Accepted n (int32s b) (nat32s r))
returned_yes_is_accepted n b r = returned_yes n b r

-- So a returned yes is never against a list that has a solution.
pub returned_yes_not_against_a_solution : (n : ℕ) (b r : List ℕ) → check_refutation_lem n b r ≡ pos 0 → Solvable (lines_of (int32s b)) → ⊥
returned_yes_not_against_a_solution n b r e = nothing_against_a_solution n (int32s b) (nat32s r) ((returned_yes n b r).0 e).3

-- The number is 1,000,000 + k exactly if the list's bytes are those of a valid list, there are no more bytes than the longest refutation has, and they
-- break at k: they are no multiple of four and k is 0, or they are one and their numbers break at k.
pub returned_no_says_where : (n : ℕ) (b r : List ℕ) (k : ℕ) → (check_refutation_lem n b r ≡ pos (no_code + k))
    ↔ ((bytes_validity n b ≡ Ok tt) × (length r ≤ number_bytes * max_refutation) × BytesBreakAt b r k)
returned_no_says_where n b r k = returned_no n b r k

-- A refusal is returned as minus its number times 100,000, and its place: exactly where it is the first of the table that applies.
pub refusals_returned : (a : Asked) (r : Refusal) → place_of r < refusal_unit
    → (returned a ≡ neg_ℤ (pos (number_of r * refusal_unit + place_of r))) ↔ FirstApplies (refusal_table a) r
unfolding refusal_code_lem
refusals_returned a r h = Iff.trans (code_refused a r h) (table_refuses a r)

-- A refutation may be handed over number by number, with what C keeps between two calls: the end returns the answer on the whole of it.
pub pieces_return_the_answer : (n : ℕ) (L : List ℤ) (R : List ℕ) → Words R → refutation_end n L (take_each L refutation_begin R) ≡ check_code_lem (refutation_answer n L R)
pieces_return_the_answer n L R w = each_answered n L R w

-- That is the number which the check of its bytes returns, where these and the list's are whole numbers.
pub pieces_return_the_check : (n : ℕ) (b r : List ℕ) → AreBytes r → length b % number_bytes ≡ 0 → length r % number_bytes ≡ 0
    → refutation_end n (int32s b) (take_each (int32s b) refutation_begin (nat32s r)) ≡ check_refutation_lem n b r
pieces_return_the_check n b r h v w = each_checked n b r v w h

-- No two answers are returned as one number.
pub model_answers_apart : (n k : ℕ) (b c m l : List ℕ) → check_model_lem n b m ≡ check_model_lem k c l → model_of_bytes n b m ≡ model_of_bytes k c l
model_answers_apart n k b c m l = answers_apart _ _ (model_bytes_below n b m) (model_bytes_below k c l)

pub refutation_answers_apart : (n k : ℕ) (b c r s : List ℕ) → check_refutation_lem n b r ≡ check_refutation_lem k c s → refutation_of_bytes n b r ≡ refutation_of_bytes k c s
refutation_answers_apart n k b c r s = answers_apart _ _ (refutation_bytes_below n b r) (refutation_bytes_below k c s)

pub decisions_returned_apart : (e f : Engine) (n k : ℕ) (L M : List ℤ) (b c : Lent) → decide_code_lem (answer_by e n L b) ≡ decide_code_lem (answer_by f k M c) → answer_by e n L b ≡ answer_by f k M c
decisions_returned_apart e f n k L M b c = decisions_apart _ _ (engine_below e n L b) (engine_below f k M c)
