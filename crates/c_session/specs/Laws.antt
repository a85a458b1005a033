-- What the calls of a session promise gives what is returned: their places are below a refusal's unit, and the number tells the answers apart.
use Rattle.lines.specs.declared.Refusal.{Refusal}
use Rattle.std.specs.Prelude.{◌≡◌, refl, Bool, true, false, not, List, ℕ, ltb, eqb, ℤ, Err, Ok, Result}
use Rattle.std.proofs.Common.{sym, ap, subst, ◌∙◌, arith}
use Rattle.lines.specs.declared.Line.{Line}
use Rattle.lines.specs.declared.Refusal.TheVariants.{TooManyVariables, AfterNo, NoLines}
use Rattle.lines.specs.Limits.{max_variables}
use Rattle.lines.specs.Places.{Placed, placed_or, placed_if, place_at}
use Rattle.decide_buffers.specs.Room.{Lent}
use Rattle.decide.specs.declared.Answer.{Answer}
use Rattle.decide.specs.Decided.{unless_refused, validity_for, refused}
use Rattle.decide.specs.Places.{Below}
use Rattle.session_state.specs.State.{session_room_lem, variables_in, count_in, refused_in, numbers_with, is_state_lem}
use Rattle.session_promise.specs.Promise.{no_state, start_answer, start_state, add_validity, learns_in, learnt_known, learnt_answer, add_answer, add_state, AddLeft, withdraw_answer, withdraw_state, Starts, Adds, Withdraws}
use Rattle.c_codes.specs.Codes.{refusal_unit}
use Rattle.c_codes.specs.Apart.{refusals_apart, no_refusal}
use Rattle.c_deciding.specs.Calls.{decide_code_lem}
use Rattle.c_deciding.specs.Laws.{decision_below}
use Rattle.c_session.specs.Calls.{done_code_lem, StartReturns, AddReturns, WithdrawReturns}

-- ---- places
pub start_placed : (n size : ℕ) → Placed refusal_unit (start_answer n size)
unfolding start_answer
start_placed n size = placed_or refusal_unit _ _ (placed_if refusal_unit (ltb max_variables n) TooManyVariables (omega arith)) (placed_if refusal_unit (ltb size (session_room_lem n)) no_state (omega arith))

pub withdraw_placed : (s : List ℤ) → Placed refusal_unit (withdraw_answer s)
unfolding withdraw_answer
withdraw_placed s = placed_or refusal_unit _ _ (placed_if refusal_unit (not (is_state_lem s)) no_state (omega arith)) (placed_if refusal_unit (eqb (count_in s) 0) NoLines (omega arith))

below_unless : (v : Result Unit Refusal) (x : Result Answer Refusal) → Placed refusal_unit v → Below refusal_unit x → Below refusal_unit (unless_refused v x)
below_unless (Ok _) x p h = h
below_unless (Err r) x p h = place_at p

answered_below : (c : Bool) (n : ℕ) (L : List ℤ) (b : Lent) (v : Result Unit Refusal) → validity_for n L b ≡ v → Below refusal_unit (unless_refused v (learnt_answer c n L b))
answered_below true n L b (Ok _) e = tt
answered_below false n L b (Ok _) e = decision_below n L b
answered_below c n L b (Err r) e = subst (Below refusal_unit) (sym (refused n L b r e).is) (decision_below n L b)

pub add_below : (s : List ℤ) (l : Line) (b : Lent) → Below refusal_unit (add_answer s l b)
unfolding add_answer
add_below s l b =
    below_unless (add_validity s) _
    (placed_or refusal_unit _ _ (placed_if refusal_unit (not (is_state_lem s)) no_state (omega arith)) (placed_if refusal_unit (refused_in s) AfterNo (omega arith)))
    (answered_below (learns_in s l) (variables_in s) (numbers_with s l) b _ refl)

-- ---- what was promised is what is returned
pub start_returns : {n : ℕ} {s t : List ℤ} {v : Result Unit Refusal} → Starts n s v t → (returned : ℤ) → returned ≡ done_code_lem v → StartReturns n s returned t
start_returns {n} {s} d returned e = record { is = e ∙ ap done_code_lem d.is; state = d.state ∙ ap (start_state n s) d.is }

pub withdraw_returns : {s t : List ℤ} {v : Result Unit Refusal} → Withdraws s v t → (returned : ℤ) → returned ≡ done_code_lem v → WithdrawReturns s returned t
withdraw_returns {s} d returned e = record { is = e ∙ ap done_code_lem d.is; state = d.state ∙ ap (withdraw_state s) d.is }

pub add_returns : {s t : List ℤ} {l : Line} {x : Result Answer Refusal} {b a : Lent} → Adds s l x b t a → (returned : ℤ) → returned ≡ decide_code_lem x → AddReturns s l returned b t a
add_returns {s} {t} {l} {x} {b} {a} d returned e =
    record {
      is = e ∙ ap decide_code_lem d.is;
      state = d.state ∙ ap (add_state s l (learnt_known s l)) d.is;
      left = subst (λ (y : Result Answer Refusal). AddLeft y s l b a) d.is d.left;
    }

-- ---- no two have one number
pub done_apart : (u v : Result Unit Refusal) → Placed refusal_unit u → Placed refusal_unit v → done_code_lem u ≡ done_code_lem v → u ≡ v
done_apart (Ok _) (Ok _) p q e = refl
done_apart (Ok _) (Err s) p q e = absurd (no_refusal 0 s e)
done_apart (Err r) (Ok _) p q e = absurd (no_refusal 0 r (sym e))
done_apart (Err r) (Err s) p q e = ap Err (refusals_apart r s (place_at p) (place_at q) e)
