-- A call of deciding, by either engine, as the demands speak of it: what it answered, what it wrote into the lent buffers, and which number the exported function returns.
use Rattle.std.specs.Prelude.{◌≡◌, refl, ◌↔◌, ◌⊎◌, Bool, true, false, cond, List, ℕ, ℤ, pos, negsuc, drop, Err, Ok, Result}
use Rattle.std.proofs.Common.{sym, subst, ◌∙◌, inl, inr, arith}
use Rattle.std.proofs.Math.Path.{ap}
use Rattle.std.proofs.Math.Seq.{drop_at}
use Rattle.integers.specs.Integer.{◌⩽◌, ◌⋖◌}
use Rattle.integers.proofs.Linear.{ints}
use Rattle.integers.specs.Sequence.{length_tabulate}
use Rattle.lines.specs.declared.Refusal.{Refusal}
use Rattle.lines.specs.Valid.{workable}
use Rattle.lines.specs.Line.{lines_of}
use Rattle.lines.specs.Refusal.{validity_of}
use Rattle.check_answers.specs.declared.CheckAnswer.TheVariants as check
use Rattle.check_refutation.specs.Answer.{refutation_answer}
use Rattle.theory_answers.specs.Semantics.{Written}
use Rattle.theory_answers.specs.Meaning.{computed_written}
use Rattle.theory_answers.specs.Decided.{lines_ok, due_accepted}
use Rattle.theory_bounds.specs.Verdict.{verdict_of}
use Rattle.theory_bounds.specs.Answers.{model_of, bounds_of, groups_of}
use Rattle.theory_answers.specs.Refuted.{Due}
use Rattle.decide_buffers.specs.Room.{Lent, lengths_of, model_room_lem, bounds_room_lem, groups_room_lem, work_room_lem, differences_work_room_lem}
use Rattle.decide.specs.declared.Answer.{Answer}
use Rattle.decide_identifiers.specs.Identifiers.{identifiers_of}
use Rattle.decide.specs.declared.Answer.TheVariants.{Yes, No}
use Rattle.decide.specs.Parts.{judged_valid, judged_true, judged_false, model_in_lem, bounds_in, groups_in, refutation_in, identifiers_in, model_in, bounds_in_law, groups_in_law, refutation_in_law, identifiers_in_law}
use Rattle.decide.specs.Decided.{NotRefused, judged, decide_answer, cleared_to, YesLeft, NoLeft, LeavesIn, answer_for, Decided, validity_for, decide_ok}
use Rattle.decide.specs.Places.{Below}
use Rattle.differences_lines.specs.Refused.{differences_ok}
use Rattle.differences.specs.Decided.{differences_answer_for, plain_validity_for, DifferencesDecided, differences_judged}
use Rattle.c_codes.specs.Codes.{no_code, refusal_unit, refusal_code_lem}
use Rattle.c_codes.specs.Apart.{no_refusal}
use Rattle.c_deciding.specs.Calls.{decide_code_lem, DecideReturns}
use Rattle.c_deciding.specs.Laws.{decision_below, decisions_apart}
use Rattle.c_differences.specs.Calls.{DifferencesReturn}
use Rattle.c_differences.specs.Laws.{plain_decision_below}

-- ---- the two engines: `decide` takes every valid list, `decide_differences` those of differences alone, in a smaller work area
pub data Engine : Type 0 where
  general : Engine
  plain : Engine

abbrev pub room_of : Engine → ℕ → ℕ
room_of general n = work_room_lem n
room_of plain n = differences_work_room_lem n

abbrev pub answer_by : Engine → ℕ → List ℤ → Lent → Result Answer Refusal
answer_by general n L b = answer_for n L b
answer_by plain n L b = differences_answer_for n L b

-- what each promises
abbrev pub Promised : Engine → ℕ → List ℤ → Result Answer Refusal → Lent → Lent → Type 0
Promised general n L x b a = Decided n L x b a
Promised plain n L x b a = DifferencesDecided n L x b a

promised_is : (e : Engine) (n : ℕ) (L : List ℤ) (x : Result Answer Refusal) (b a : Lent) → Promised e n L x b a → x ≡ answer_by e n L b
promised_is general n L x b a d = d.is
promised_is plain n L x b a d = d.is

promised_leaves : (e : Engine) (n : ℕ) (L : List ℤ) (x : Result Answer Refusal) (b a : Lent) → Promised e n L x b a → LeavesIn (room_of e n) n L x b a
promised_leaves general n L x b a d = d.leaves
promised_leaves plain n L x b a d = d.leaves

-- either answers by what it refuses, which is a list that is not valid or more, and by the verdict
record JudgedBy (e : Engine) (n : ℕ) (L : List ℤ) (b : Lent) : Type 0 where
  validity : Result Unit Refusal
  is : answer_by e n L b ≡ judged validity n L
  list : validity ≡ Ok tt → validity_of n L ≡ Ok tt

judged_by_law : (e : Engine) (n : ℕ) (L : List ℤ) (b : Lent) → JudgedBy e n L b
unfolding decide_answer
judged_by_law general n L b = record { validity = validity_for n L b; is = refl; list = λ v. (decide_ok n L b v).list }
judged_by_law plain n L b = record { validity = plain_validity_for n L b; is = differences_judged n L b; list = λ v. (differences_ok n L (lengths_of b) v).list }

-- A call of an engine that was not refused, whatever stood in the lent buffers before.
pub record CallOf (e : Engine) (n : ℕ) (L : List ℤ) : Type 0 where
  pub answer : Result Answer Refusal
  pub before : Lent
  pub after : Lent
  pub decided : Promised e n L answer before after
  pub not_refused : NotRefused answer

-- of `decide`
abbrev pub Call : ℕ → List ℤ → Type 0
Call n L = CallOf general n L

-- ---- what follows from the call alone
module _ {e : Engine} {n : ℕ} {L : List ℤ} (c : CallOf e n L) where
  abbrev by : JudgedBy e n L c.before
  by = judged_by_law e n L c.before

  answer_is : c.answer ≡ judged (judged_by_law e n L c.before).validity n L
  answer_is = promised_is e n L c.answer c.before c.after c.decided ∙ by.is

  all_valid : (judged_by_law e n L c.before).validity ≡ Ok tt
  all_valid = judged_valid n L by.validity (λ r q. c.not_refused r (answer_is ∙ q))

  pub call_valid : validity_of n L ≡ Ok tt
  call_valid = by.list all_valid

  pub call_answer : c.answer ≡ cond (verdict_of n (lines_of L)) (Ok Yes) (Ok No)
  call_answer = answer_is ∙ ap (λ (v : Result Unit Refusal). judged v n L) all_valid

  pub call_yes : c.answer ≡ Ok Yes → verdict_of n (lines_of L) ≡ true
  call_yes q = judged_true n L by.validity (sym answer_is ∙ q)

  pub call_no : c.answer ≡ Ok No → verdict_of n (lines_of L) ≡ false
  call_no q = judged_false n L by.validity (sym answer_is ∙ q)

  pub verdict_yes : verdict_of n (lines_of L) ≡ true → c.answer ≡ Ok Yes
  verdict_yes q = call_answer ∙ ap (λ (t : Bool). cond t (Ok Yes) (Ok No)) q

  pub verdict_no : verdict_of n (lines_of L) ≡ false → c.answer ≡ Ok No
  verdict_no q = call_answer ∙ ap (λ (t : Bool). cond t (Ok Yes) (Ok No)) q

  call_leaves : LeavesIn (room_of e n) n L c.answer c.before c.after
  call_leaves = promised_leaves e n L c.answer c.before c.after c.decided

  pub on_yes : c.answer ≡ Ok Yes → YesLeft (room_of e n) n L c.before c.after
  on_yes q = subst (λ (x : Result Answer Refusal). LeavesIn (room_of e n) n L x c.before c.after) q call_leaves

  pub on_no : c.answer ≡ Ok No → NoLeft (room_of e n) n L c.before c.after
  on_no q = subst (λ (x : Result Answer Refusal). LeavesIn (room_of e n) n L x c.before c.after) q call_leaves

  pub call_due : c.answer ≡ Ok No → Due n L (refutation_in c.after)
  call_due q = let w = on_no q in subst (Due n L) (sym (refutation_in_law w)) w.due

  pub call_accepted : c.answer ≡ Ok No → refutation_answer n L (refutation_in c.after) ≡ Ok check.Yes
  call_accepted q = due_accepted n L call_valid (refutation_in c.after) (call_due q)

  -- each step's identifier is that of its line
  pub call_identifiers : c.answer ≡ Ok No → identifiers_in c.after ≡ identifiers_of L (refutation_in c.after)
  call_identifiers q = let w = on_no q in identifiers_in_law w ∙ ap (identifiers_of L) (sym (refutation_in_law w))

  pub call_written : c.answer ≡ Ok Yes → Written n (lines_of L) (model_in_lem n c.after) (bounds_in n c.after) (groups_in n c.after)
  call_written q =
      let w = on_yes q in
      rw (model_in w, bounds_in_law w, groups_in_law w) (computed_written n (lines_of L) (lines_ok n L (workable n L call_valid)) (call_yes q))

  -- ---- what either answer leaves
  either : {P : Type 0} → (c.answer ≡ Ok Yes → P) → (c.answer ≡ Ok No → P) → P
  either {P} f g = go (verdict_of n (lines_of L)) refl
    where
      go : (t : Bool) → verdict_of n (lines_of L) ≡ t → P
      go true q = f (verdict_yes q)
      go false q = g (verdict_no q)

  pub call_work : c.after.work ≡ cleared_to (room_of e n) c.before.work
  call_work = either (λ q. (on_yes q).work) (λ q. (on_no q).work)

  pub beyond_model : drop (model_room_lem n) c.after.model ≡ drop (model_room_lem n) c.before.model
  unfolding model_of
  beyond_model = either (λ q. ap (drop (model_room_lem n)) (on_yes q).model ∙ drop_at (model_of n (lines_of L)) _ (model_room_lem n) (length_tabulate (model_room_lem n) _)) (λ q. ap (drop (model_room_lem n)) (on_no q).model)

  pub beyond_bounds : drop (bounds_room_lem n) c.after.bounds ≡ drop (bounds_room_lem n) c.before.bounds
  unfolding bounds_of
  beyond_bounds = either (λ q. ap (drop (bounds_room_lem n)) (on_yes q).bounds ∙ drop_at (bounds_of n (lines_of L)) _ (bounds_room_lem n) (length_tabulate (bounds_room_lem n) _)) (λ q. ap (drop (bounds_room_lem n)) (on_no q).bounds)

  pub beyond_groups : drop (groups_room_lem n) c.after.groups ≡ drop (groups_room_lem n) c.before.groups
  unfolding groups_of
  beyond_groups = either (λ q. ap (drop (groups_room_lem n)) (on_yes q).groups ∙ drop_at (groups_of n (lines_of L)) _ (groups_room_lem n) (length_tabulate (groups_room_lem n) _)) (λ q. ap (drop (groups_room_lem n)) (on_no q).groups)

-- ---- the exported functions: what they returned, as a call
abbrev pub ReturnsBy : Engine → ℕ → List ℤ → ℤ → Lent → Lent → Type 0
ReturnsBy general n L r b a = DecideReturns n L r b a
ReturnsBy plain n L r b a = DifferencesReturn n L r b a

pub engine_below : (e : Engine) (n : ℕ) (L : List ℤ) (b : Lent) → Below refusal_unit (answer_by e n L b)
engine_below general n L b = decision_below n L b
engine_below plain n L b = plain_decision_below n L b

-- The call that a returned number tells of: 0 is its yes, 1,000,000 its no, and no other number is returned for it.
pub record Returned (e : Engine) (n : ℕ) (L : List ℤ) (r : ℤ) (b a : Lent) : Type 0 where
  pub call : CallOf e n L
  pub before : call.before ≡ b
  pub after : call.after ≡ a
  pub yes : (call.answer ≡ Ok Yes) ↔ (r ≡ pos 0)
  pub no : (call.answer ≡ Ok No) ↔ (r ≡ pos no_code)
  pub yes_or_no : (r ≡ pos 0) ⊎ (r ≡ pos no_code)

module _ (e : Engine) (n : ℕ) (L : List ℤ) (r : ℤ) (b a : Lent) (d : ReturnsBy e n L r b a) where
  returned_is : r ≡ decide_code_lem (answer_by e n L b)
  returned_is = go e d
    where
      go : (e : Engine) → ReturnsBy e n L r b a → r ≡ decide_code_lem (answer_by e n L b)
      go general d = d.is
      go plain d = d.is

  returned_leaves : LeavesIn (room_of e n) n L (answer_by e n L b) b a
  returned_leaves = go e d
    where
      go : (e : Engine) → ReturnsBy e n L r b a → LeavesIn (room_of e n) n L (answer_by e n L b) b a
      go general d = d.leaves
      go plain d = d.leaves

  as_decided : Promised e n L (answer_by e n L b) b a
  as_decided = go e returned_leaves
    where
      go : (e : Engine) → LeavesIn (room_of e n) n L (answer_by e n L b) b a → Promised e n L (answer_by e n L b) b a
      go general l = record { is = refl; leaves = l }
      go plain l = record { is = refl; leaves = l }

  -- the number tells the answer, since no two answers have one
  returned_exactly : (x : Result Answer Refusal) → Below refusal_unit x → (answer_by e n L b ≡ x) ↔ (r ≡ decide_code_lem x)
  returned_exactly x h = ((λ q. returned_is ∙ ap decide_code_lem q), (λ q. decisions_apart _ _ (engine_below e n L b) h (sym returned_is ∙ q)))

  pub returned_call : pos 0 ⩽ r → Returned e n L r b a
  returned_call h =
      record {
        call = record { answer = answer_by e n L b; before = b; after = a; decided = as_decided; not_refused = λ s q. go s r h (returned_is ∙ ap decide_code_lem q) };
        before = refl;
        after = refl;
        yes = returned_exactly (Ok Yes) tt;
        no = returned_exactly (Ok No) tt;
        yes_or_no = one_of (answer_by e n L b) returned_is;
      }
    where
      negative : (k : ℕ) → pos 0 ⩽ negsuc k → ⊥
      negative k = simp ints (omega arith)

      go : (s : Refusal) (z : ℤ) → pos 0 ⩽ z → z ≡ refusal_code_lem s → ⊥
      go s (pos k) h q = no_refusal k s q
      go s (negsuc k) h q = negative k h

      one_of : (x : Result Answer Refusal) → r ≡ decide_code_lem x → (r ≡ pos 0) ⊎ (r ≡ pos no_code)
      one_of (Ok Yes) q = inl q
      one_of (Ok No) q = inr q
      one_of (Err s) q = absurd (go s r h q)

  -- a returned refusal leaves every buffer as it was
  pub returned_unchanged : r ⋖ pos 0 → a ≡ b
  returned_unchanged h = go (answer_by e n L b) returned_is returned_leaves
    where
      above : (z : ℤ) (k : ℕ) → z ⋖ pos 0 → z ≡ pos k → ⊥
      above z k = simp ints (omega arith)

      go : (x : Result Answer Refusal) → r ≡ decide_code_lem x → LeavesIn (room_of e n) n L x b a → a ≡ b
      go (Ok Yes) q l = absurd (above r 0 h q)
      go (Ok No) q l = absurd (above r no_code h q)
      go (Err s) q l = l
