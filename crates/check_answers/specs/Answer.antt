-- What both checkers answer: a refusal goes first, when nothing is refused, and that the place or line number of an answer is small.
use Rattle.std.specs.Prelude.{◌≡◌, refl, ◌↔◌, ℕ, ◌<◌, Err, Ok, Result}
use Rattle.std.proofs.Common.{sym, ap, subst, ◌∙◌}
use Rattle.lines.specs.declared.Refusal.{Refusal}
use Rattle.lines.specs.Refusal.{place_of, ◌or_else◌}
use Rattle.lines.specs.Places.{Placed, place_at}
use Rattle.check_answers.specs.declared.CheckAnswer.{CheckAnswer}
use Rattle.check_answers.specs.declared.CheckAnswer.TheVariants.{Yes, No}

-- a refusal goes first
abbrev pub unless_refused : Result Unit Refusal → Result CheckAnswer Refusal → Result CheckAnswer Refusal
unless_refused (Ok _) a = a
unless_refused (Err r) a = Err r

-- refusals that are looked for again are found again
pub unless_again : (u v : Result Unit Refusal) (a : Result CheckAnswer Refusal) → unless_refused u (unless_refused v (unless_refused (u or_else v) a)) ≡ unless_refused (u or_else v) a
unless_again (Ok _) (Ok _) a = refl
unless_again (Ok _) (Err r) a = refl
unless_again (Err r) v a = refl

-- an answer that is no refusal is given exactly if nothing is refused
abbrev pub NotRefused : Result CheckAnswer Refusal → Type 0
NotRefused (Ok _) = Unit {0}
NotRefused (Err r) = ⊥

pub unrefused : (v : Result Unit Refusal) (a b : Result CheckAnswer Refusal) → NotRefused b → (unless_refused v a ≡ b) ↔ ((v ≡ Ok tt) × (a ≡ b))
unrefused v a b h = (fore v, λ e. ap (λ (t : Result Unit Refusal). unless_refused t a) e.0 ∙ e.1)
  where
    fore : (v : Result Unit Refusal) → unless_refused v a ≡ b → (v ≡ Ok tt) × (a ≡ b)
    fore (Ok _) e = (refl, e)
    fore (Err r) e = absurd (subst NotRefused (sym e) h)

-- and a refusal exactly if it applies
pub refused_when : (v : Result Unit Refusal) (a : Result CheckAnswer Refusal) → NotRefused a → (r : Refusal) → (unless_refused v a ≡ Err r) ↔ (v ≡ Err r)
refused_when v a h r = (fore v, λ e. ap (λ (t : Result Unit Refusal). unless_refused t a) e)
  where
    fore : (v : Result Unit Refusal) → unless_refused v a ≡ Err r → v ≡ Err r
    fore (Ok _) e = absurd (subst NotRefused e h)
    fore (Err q) e = cc

-- the place or line number of an answer is below m
abbrev pub Below : ℕ → Result CheckAnswer Refusal → Type 0
Below m (Ok Yes) = Unit {0}
Below m (Ok (No k)) = k < m
Below m (Err r) = place_of r < m

pub below_unless : (m : ℕ) (v : Result Unit Refusal) (a : Result CheckAnswer Refusal) → Placed m v → (v ≡ Ok tt → Below m a) → Below m (unless_refused v a)
below_unless m (Ok _) a p h = h refl
below_unless m (Err r) a p h = place_at p
