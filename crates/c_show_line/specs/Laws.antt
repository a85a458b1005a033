-- What showing promises gives what is returned: its places are below a refusal's unit, and the number tells the answers apart.
use Rattle.lines.specs.declared.Refusal.{Refusal}
use Rattle.std.specs.Prelude.{◌≡◌, refl, List, ℕ, ℤ, Err, Ok, Result}
use Rattle.std.proofs.Common.{sym, ap, subst, ◌∙◌, arith}
use Rattle.lines.specs.declared.Line.{Line}
use Rattle.show_line.specs.declared.ShowAnswer.{ShowAnswer}
use Rattle.show_line.specs.declared.ShowAnswer.TheVariants.{Shown, NotShown}
use Rattle.show_line.specs.Answer.{ShowLent, answer_for, ShowsLine}
use Rattle.show_line.specs.Places.{Below, answer_below}
use Rattle.c_codes.specs.Codes.{no_code, refusal_unit}
use Rattle.c_codes.specs.Apart.{refusals_apart, no_refusal, same_pos}
use Rattle.c_show_line.specs.Calls.{show_code_lem, ShowReturns}

pub show_below : (n : ℕ) (L : List ℤ) (l : Line) (b : ShowLent) → Below refusal_unit (answer_for n L l b)
show_below = answer_below refusal_unit (omega arith) (omega arith)

module _ {n : ℕ} {L : List ℤ} {l : Line} {answer : Result ShowAnswer Refusal} {b a : ShowLent} (d : ShowsLine n L l answer b a) where
  pub promised_below : Below refusal_unit answer
  promised_below = subst (Below refusal_unit) (sym d.is) (show_below n L l b)

  pub show_returns : (returned : ℤ) → returned ≡ show_code_lem answer → ShowReturns n L l returned b a
  show_returns returned e = record { is = e ∙ ap show_code_lem d.is; shows = subst (λ (x : Result ShowAnswer Refusal). ShowsLine n L l x b a) d.is d }

-- no two answers have one number
pub shown_apart : (a b : Result ShowAnswer Refusal) → Below refusal_unit a → Below refusal_unit b → show_code_lem a ≡ show_code_lem b → a ≡ b
shown_apart (Ok Shown) (Ok Shown) h k e = refl
shown_apart (Ok Shown) (Ok NotShown) h k e = let q : 0 ≡ no_code = same_pos _ _ e in absurd (omega arith)
shown_apart (Ok Shown) (Err s) h k e = absurd (no_refusal 0 s e)
shown_apart (Ok NotShown) (Ok Shown) h k e = let q : no_code ≡ 0 = same_pos _ _ e in absurd (omega arith)
shown_apart (Ok NotShown) (Ok NotShown) h k e = refl
shown_apart (Ok NotShown) (Err s) h k e = absurd (no_refusal no_code s e)
shown_apart (Err r) (Ok Shown) h k e = absurd (no_refusal 0 r (sym e))
shown_apart (Err r) (Ok NotShown) h k e = absurd (no_refusal no_code r (sym e))
shown_apart (Err r) (Err s) h k e = ap Err (refusals_apart r s h k e)
