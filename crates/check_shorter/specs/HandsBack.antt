-- What is handed back of two lent refutations, in the words of docs/SPECIFICATION.md: to be read beside it. Nothing here speaks of how it is found.
use Rattle.std.specs.Prelude.{◌≡◌, List, ℕ, ◌<◌, ◌≤◌, ℤ, length, Ok}
use Rattle.check_answers.specs.declared.CheckAnswer.TheVariants.{Yes}
use Rattle.check_refutation.specs.Answer.{refutation_answer}
use Rattle.check_soundness.specs.Head.{stated_length, stated}
use Rattle.check_shorter.specs.declared.Part.{Part}
use Rattle.check_shorter.specs.declared.Part.TheVariants.{OfFirst, OfSecond, Empty}

-- the first 3 + p + q numbers of a lent slice are the refutation and the part: it is accepted if it has so many, and the checker accepts them. The checker's
-- limit on a refutation is one on the part, not on the slice.
pub record FrontAccepted (n : ℕ) (L : List ℤ) (S : List ℕ) : Type 0 where
  pub whole : stated_length S ≤ length S
  pub is_accepted : refutation_answer n L (stated S) ≡ Ok Yes

-- the shorter accepted one, the first when they tie; an empty part when neither is accepted
pub data HandsBack (n : ℕ) (L : List ℤ) (S T : List ℕ) : Part → Type 0 where
  the_first : FrontAccepted n L S → (FrontAccepted n L T → stated_length S ≤ stated_length T) → HandsBack n L S T (OfFirst (stated_length S))
  the_second : FrontAccepted n L T → (FrontAccepted n L S → stated_length T < stated_length S) → HandsBack n L S T (OfSecond (stated_length T))
  neither : (FrontAccepted n L S → ⊥) → (FrontAccepted n L T → ⊥) → HandsBack n L S T Empty
