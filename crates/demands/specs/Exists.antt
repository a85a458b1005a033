-- Calls exist: every valid list, with buffers that have room, is answered by yes or no, whatever stood in the buffers.
use Rattle.std.specs.Prelude.{◌≡◌, refl, Bool, true, false, cond, List, ℕ, ℤ, Err, Ok, Result}
use Rattle.std.proofs.Common.{sym, ap, ◌∙◌}
use Rattle.integers.specs.Laws.{never}
use Rattle.lines.specs.declared.Refusal.{Refusal}
use Rattle.lines.specs.Line.{lines_of}
use Rattle.theory_bounds.specs.Verdict.{verdict_of}
use Rattle.decide_buffers.specs.Room.{Lent}
use Rattle.decide.specs.declared.Answer.TheVariants.{Yes, No}
use Rattle.decide.specs.Decided.{unless_refused, decide_answer, DecideOk, ok_decide}
use Rattle.demands.specs.Calls.{Call}
use Rattle.demands.specs.RightVersion.{right, right_keeps}

-- the call of the version that keeps the promise
pub call_from : (n : ℕ) (L : List ℤ) (b : Lent) → DecideOk n L b → Call n L
unfolding decide_answer
call_from n L b ok =
    record {
      answer = (right n L b).answer;
      before = b;
      after = (right n L b).after;
      decided = right_keeps n L b;
      not_refused = λ r e. go (verdict_of n (lines_of L)) r (sym (ap (λ (v : Result Unit Refusal). unless_refused v (cond (verdict_of n (lines_of L)) (Ok Yes) (Ok No))) (ok_decide n L b ok)) ∙ sym (right_keeps n L b).is ∙ e);
    }
  where
    go : (t : Bool) (r : Refusal) → cond t (Ok Yes) (Ok No) ≡ Err r → ⊥
    go true r e = never (cc)
    go false r e = never (cc)

pub a_call : (n : ℕ) (L : List ℤ) (b : Lent) → DecideOk n L b → (c : Call n L) × (c.before ≡ b)
unfolding call_from
a_call n L b ok = (call_from n L b ok, refl)
