-- How adding a line comes to its promise: by what is answered where the line is learnt.
use Rattle.std.specs.Prelude.{◌≡◌, refl, Bool, List, ℕ, ◌<◌, ℤ, length, Err, Ok, Result}
use Rattle.std.proofs.Common.{sym, ap, subst, ◌∙◌, arith}
use Rattle.std.proofs.Math.Bool.{true, false, cond}
use Rattle.integers.specs.Laws.{never}
use Rattle.lines.specs.declared.Line.{Line}
use Rattle.lines.specs.declared.Refusal.{Refusal}
use Rattle.lines.specs.Limits.{max_lines}
use Rattle.lines.specs.Line.{lines_of}
use Rattle.lines.specs.Valid.{workable}
use Rattle.theory_bounds.specs.Verdict.{verdict_of}
use Rattle.decide_buffers.specs.Room.{Lent}
use Rattle.decide.specs.declared.Answer.{Answer}
use Rattle.decide.specs.declared.Answer.TheVariants as decide
use Rattle.decide.specs.Decided.{unless_refused, decide_answer, validity_for, decide_ok}
use Rattle.session_known.specs.Known.{after_size}
use Rattle.session_state.specs.State.{known_room, variables_in, count_in, refused_in, numbers_with, known_in, head_ok_lem, is_state_lem, pushed}
use Rattle.session_state.specs.Laws.{state_head, state_head_ok, with_head, with_count, length_known_in}
use Rattle.session_promise.specs.Promise.{learns_in, learnt_known, learnt_answer, add_state, LearntLeft, AddLeft, Adds}
use Rattle.session_promise.specs.Standing.{length_with, line_room, went_on}
use Rattle.session_answer.specs.Answers.{AnswerReady, Answers}

-- ---- the line is part of the state
abbrev pub taken_in_lem : List ℤ → Line → Result Answer Refusal → List ℤ
taken_in_lem s l (Ok decide.Yes) = pushed s l false
taken_in_lem s l (Ok decide.No) = pushed s l true
taken_in_lem s l (Err r) = s

pub record TakenIn (s : List ℤ) (l : Line) (answer r : Result Answer Refusal) (t : List ℤ) : Type 0 where
  pub answer_is : r ≡ answer
  pub state : t ≡ taken_in_lem s l answer

pub taken_in : (s : List ℤ) (l : Line) (answer x : Result Answer Refusal) (t : List ℤ) → answer ≡ x → t ≡ taken_in_lem s l x → TakenIn s l answer x t
taken_in s l answer x t e p = record { answer_is = sym e; state = p ∙ ap (taken_in_lem s l) (sym e) }

-- ---- all lines so far
module _ (s : List ℤ) (l : Line) (b : Lent) (e : is_state_lem s ≡ true) (q : refused_in s ≡ false) where
  abbrev n : ℕ
  n = variables_in s

  abbrev L : List ℤ
  L = numbers_with s l

  module _ (v : validity_for (variables_in s) (numbers_with s l) b ≡ Ok tt) where
    pub answer_ready : AnswerReady (variables_in s) (numbers_with s l) (count_in s) s b
    answer_ready =
        record {
          valid = v;
          last = omega (arith, length_with s l e);
          room = (state_head s e).room;
        }

    pub room_left : count_in s < max_lines
    room_left = line_room s l e (decide_ok n L b v).list

    -- what is known keeps its size
    sized : length (learnt_known s l) ≡ known_room (variables_in s)
    sized =
        after_size n L (count_in s) (known_in n s)
        (record { few = (workable n L (decide_ok n L b v).list).variables; size = length_known_in n s (state_head s e).room })

    module _ (x : Result Answer Refusal) (m : List ℤ) (a : Lent) (d : Answers (variables_in s) (numbers_with s l) (count_in s) s x b m a) where
      pub head_kept : head_ok_lem m ≡ true
      head_kept = ap head_ok_lem d.state ∙ with_head n s (learnt_known s l) (state_head s e).room sized ∙ state_head_ok s e

      pub room_kept : count_in m < max_lines
      room_kept = omega (arith, room_left, ap count_in d.state ∙ with_count n s (learnt_known s l) (state_head s e).room sized)

      -- it is answered
      not_refused : (r : Refusal) → x ≡ Err r → ⊥
      unfolding decide_answer
      not_refused r z = go (learns_in s l) (sym d.is ∙ z)
        where
          decided : (c : Bool) → cond c (Ok decide.Yes) (Ok decide.No) ≡ Err r → ⊥
          decided true f = never (cc)
          decided false f = never (cc)

          go : (c : Bool) → learnt_answer c (variables_in s) (numbers_with s l) b ≡ Err r → ⊥
          go true f = never (cc)
          go false f = decided (verdict_of n (lines_of L)) (sym (rw v) ∙ f)

      state_is : (y : Result Answer Refusal) → x ≡ y → taken_in_lem m l y ≡ add_state s l (learnt_known s l) y
      state_is (Ok decide.Yes) z = ap (λ (t : List ℤ). pushed t l false) d.state
      state_is (Ok decide.No) z = ap (λ (t : List ℤ). pushed t l true) d.state
      state_is (Err r) z = absurd (not_refused r z)

      left_is : (y : Result Answer Refusal) → x ≡ y → LearntLeft (learns_in s l) (variables_in s) (numbers_with s l) (learnt_known s l) y b a → AddLeft y s l b a
      left_is (Ok decide.Yes) z o = o
      left_is (Ok decide.No) z o = o
      left_is (Err r) z o = absurd (not_refused r z)

      pub adds : (r : Result Answer Refusal) (t : List ℤ) → TakenIn m l x r t → Adds s l r b t a
      adds r t p =
          subst (λ (y : Result Answer Refusal). Adds s l y b t a) (sym p.answer_is)
          (record {
            is = d.is ∙ sym (went_on s l b e q ∙ ap (λ (u : Result Unit Refusal). unless_refused u (learnt_answer (learns_in s l) (variables_in s) (numbers_with s l) b)) v);
            state = p.state ∙ state_is x refl;
            left = left_is x refl d.left;
          })

-- ---- the same by other names
pub ready_same : {n m : ℕ} {L M : List ℤ} {k j : ℕ} {s : List ℤ} {b : Lent} → n ≡ m → L ≡ M → k ≡ j → AnswerReady m M j s b → AnswerReady n L k s b
ready_same {n} {m} {L} {M} {k} {j} {s} {b} p q r d =
    subst (λ (i : ℕ). AnswerReady i L k s b) (sym p) (subst (λ (N : List ℤ). AnswerReady m N k s b) (sym q) (subst (λ (i : ℕ). AnswerReady m M i s b) (sym r) d))

pub answers_same : {n m : ℕ} {L M : List ℤ} {k j : ℕ} {s : List ℤ} {x : Result Answer Refusal} {b : Lent} {t : List ℤ} {a : Lent} → n ≡ m → L ≡ M → k ≡ j → Answers n L k s x b t a → Answers m M j s x b t a
answers_same {n} {m} {L} {M} {k} {j} {s} {x} {b} {t} {a} p q r d =
    subst (λ (i : ℕ). Answers m M i s x b t a) r (subst (λ (N : List ℤ). Answers m N k s x b t a) q (subst (λ (i : ℕ). Answers i L k s x b t a) p d))
