-- What the checkers accept has numbers that fit, so on its bytes the exported checks return 0.
use Rattle.std.specs.Prelude.{◌≡◌, List, [], ◌∷◌, ◌++◌, ℕ, ◌≤◌, ℤ, pos, length, Ok}
use Rattle.std.proofs.Common.{sym, ap, subst, ◌∙◌, arith, length-append}
use Rattle.lines.specs.declared.Line.{Line}
use Rattle.lines.specs.Limits.{work_lines, max_refutation}
use Rattle.lines.specs.Line.{line_numbers_lem, line_count}
use Rattle.lines.specs.Refusal.{validity_of}
use Rattle.lines.specs.Valid.{valid_list, or_valid}
use Rattle.lines.specs.Fits.{numbers_fit, shown_fits}
use Rattle.little_endian.specs.Writing.{int32_bytes, nat32_bytes, int64_bytes}
use Rattle.steps.specs.declared.Step.{Step}
use Rattle.steps.specs.Walk.{Names}
use Rattle.check_answers.specs.declared.CheckAnswer.TheVariants.{Yes}
use Rattle.steps.specs.Laws.{number_below}
use Rattle.check_model.specs.Model.{model_validity_lem, model_answer}
use Rattle.check_model.specs.Laws.{valid_model, value_fits}
use Rattle.check_model.specs.Meaning.{yes_exactly}
use Rattle.check_refutation.specs.Answer.{refutation_answer}
use Rattle.check_pieces.specs.Cut.{Words}
use Rattle.check_soundness.specs.Refutes.{Refutes, kind_1, kind_2, kind_3}
use Rattle.check_soundness.specs.Answered.{accepted_when}
use Rattle.shown_list.specs.Against.{against}
use Rattle.check_shown.specs.Answer.{shown_answer}
use Rattle.check_shown.specs.Asked.{list_ok, works}
use Rattle.check_shown.specs.Meaning.{shown_yes}
use Rattle.c_codes.specs.CheckCode.{check_code_lem}
use Rattle.c_checking.specs.Calls.{check_model_lem, check_refutation_lem}
use Rattle.c_checking.specs.Bytes.{refutation_in_bytes, model_in_bytes}
use Rattle.c_check_shown.specs.Calls.{check_shown_lem}
use Rattle.c_check_shown.specs.Bytes.{shown_in_bytes}

-- ---- what the checkers accept has numbers that fit: a step's number is below twice the lines, and the counts are no more than the numbers
words_append : (P Q : List ℕ) → Words P → Words Q → Words (P ++ Q)
words_append [] Q p q = q
words_append (r ∷ P) Q p q = (p.0, words_append P Q p.1 q)

names_words : (L : List ℤ) (ks : List ℕ) (ts : List Step) → line_count L ≤ work_lines → Names L ks ts → Words ks
names_words L [] ts h n = tt
names_words L (k ∷ ks) [] h n = absurd n
names_words L (k ∷ ks) (t ∷ ts) h n = (omega (arith, number_below L k t n.0), names_words L ks ts h n.1)

refutes_words : (L : List ℤ) (R : List ℕ) → line_count L ≤ work_lines → length R ≤ max_refutation → Refutes L R → Words R
refutes_words L R h l (kind_1 c) =
    let q = ap length c.is in
    subst Words (sym c.is) (omega arith, (omega arith, (omega arith, names_words L c.numbers c.walk.steps h c.walk.named)))
refutes_words L R h l (kind_2 c) =
    let q = ap length c.is in
    let s = length-append c.numbers c.more in
    subst Words (sym c.is)
    (omega arith, (omega arith, (omega arith, words_append c.numbers c.more (names_words L c.numbers c.there.steps h c.there.named) (names_words L c.more c.back.steps h c.back.named))))
refutes_words L R h l (kind_3 c) = let f = c.false_step in subst Words (sym c.is) (omega arith, (omega arith, (omega arith, (omega (arith, f.is, f.within), tt))))

pub accepted_words : (n : ℕ) (L : List ℤ) (R : List ℕ) → refutation_answer n L R ≡ Ok Yes → Words R
accepted_words n L R e = let a = (accepted_when n L R).0 e in refutes_words L R (omega (arith, (valid_list n L a.0).count)) a.1 a.2

-- ---- so on the bytes of what is accepted, 0 is returned
pub accepted_refutation : (n : ℕ) (L : List ℤ) (R : List ℕ) → refutation_answer n L R ≡ Ok Yes → check_refutation_lem n (int32_bytes L) (nat32_bytes R) ≡ pos 0
accepted_refutation n L R e = ap check_code_lem (refutation_in_bytes n L (numbers_fit n L ((accepted_when n L R).0 e).0) R (accepted_words n L R e) ∙ e)

pub accepted_model : (n : ℕ) (L m : List ℤ) → model_answer n L m ≡ Ok Yes → check_model_lem n (int32_bytes L) (int64_bytes m) ≡ pos 0
unfolding model_validity_lem
accepted_model n L m e =
    let v = ((yes_exactly n L m).0 e).0 in
    let values = (valid_model n L m v).values in
    ap check_code_lem (model_in_bytes n L (numbers_fit n L (or_valid (validity_of n L) _ v).0) m (λ i. value_fits _ (values i)) ∙ e)

pub accepted_showing : (n : ℕ) (L : List ℤ) (l : Line) (R : List ℕ) → shown_answer n L l R ≡ Ok Yes → check_shown_lem n (int32_bytes L) (int32_bytes (line_numbers_lem l)) (nat32_bytes R) ≡ pos 0
accepted_showing n L l R e =
    let a = (shown_yes n L l R).0 e in
    let o = list_ok n L l a.asked in
    let count = (works n L l a.asked).count in
    shown_in_bytes n L l R (refutes_words (against L l) R count a.short a.shows) (numbers_fit n L a.asked.list) (shown_fits n (line_count L) l o.variables a.asked.line)
    ∙ ap check_code_lem e
