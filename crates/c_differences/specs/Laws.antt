-- What deciding a list of differences promises gives what is returned: its places are below a refusal's unit.
use Rattle.lines.specs.declared.Refusal.{Refusal}
use Rattle.std.specs.Prelude.{◌≡◌, List, ℕ, ℤ, Result}
use Rattle.std.proofs.Common.{sym, ap, subst, ◌∙◌, arith}
use Rattle.decide_buffers.specs.Room.{Lent}
use Rattle.decide.specs.declared.Answer.{Answer}
use Rattle.decide.specs.Places.{Below}
use Rattle.differences.specs.Decided.{differences_answer_for, DifferencesLeave, DifferencesDecided, differences_below}
use Rattle.c_codes.specs.Codes.{refusal_unit}
use Rattle.c_deciding.specs.Calls.{decide_code_lem}
use Rattle.c_differences.specs.Calls.{DifferencesReturn}

pub plain_decision_below : (n : ℕ) (L : List ℤ) (b : Lent) → Below refusal_unit (differences_answer_for n L b)
plain_decision_below = differences_below refusal_unit (omega arith) (omega arith)

module _ {n : ℕ} {L : List ℤ} {answer : Result Answer Refusal} {b a : Lent} (d : DifferencesDecided n L answer b a) where
  pub plain_below : Below refusal_unit answer
  plain_below = subst (Below refusal_unit) (sym d.is) (plain_decision_below n L b)

  pub differences_return : (returned : ℤ) → returned ≡ decide_code_lem answer → DifferencesReturn n L returned b a
  differences_return returned e = record { is = e ∙ ap decide_code_lem d.is; leaves = subst (λ (x : Result Answer Refusal). DifferencesLeave n L x b a) d.is d.leaves }
