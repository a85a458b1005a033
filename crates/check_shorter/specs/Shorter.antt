-- Which of two lent refutations is handed back, and the part of its slice that it is.
use Rattle.lines.specs.declared.Refusal.{Refusal}
use Rattle.std.specs.Prelude.{cond, ◌&&◌, ◌||◌, List, ℕ, eqb, ltb, ℤ, take, Err, Ok, Result}
use Rattle.check_answers.specs.declared.CheckAnswer.{CheckAnswer}
use Rattle.check_answers.specs.declared.CheckAnswer.TheVariants.{Yes, No}
use Rattle.check_refutation.specs.Answer.{refutation_answer}
use Rattle.check_soundness.specs.Head.{stated_length, stated}
use Rattle.check_shorter.specs.declared.Part.{Part}
use Rattle.check_shorter.specs.declared.Part.TheVariants.{OfFirst, OfSecond, Empty}

-- a length where the answer is yes, else 0
abbrev pub if_accepted : Result CheckAnswer Refusal → ℕ → ℕ
if_accepted (Ok Yes) k = k
if_accepted (Ok (No i)) k = 0
if_accepted (Err r) k = 0

-- how many numbers of a lent slice can be handed back: the 3 + p + q of the refutation at its front, where that is accepted. Of a slice with fewer numbers
-- `stated` is all of it, which is never accepted (`accepted_whole`).
unfoldable pub accepted_length_lem : ℕ → List ℤ → List ℕ → ℕ
accepted_length_lem n L S = if_accepted (refutation_answer n L (stated S)) (stated_length S)

-- by the two lengths: the second where it is accepted, and the first is not or is longer; else the first where it is accepted
unfoldable pub part_by_lengths_lem : ℕ → ℕ → Part
part_by_lengths_lem a b = cond (ltb 0 b && (eqb a 0 || ltb b a)) (OfSecond b) (cond (ltb 0 a) (OfFirst a) Empty)

unfoldable pub shorter_part_lem : ℕ → List ℤ → List ℕ → List ℕ → Part
shorter_part_lem n L S T = part_by_lengths_lem (accepted_length_lem n L S) (accepted_length_lem n L T)

-- a lent slice: where in memory it begins, a block and an offset, and its numbers
pub record Slice : Type 0 where
  pub at : ℕ × ℕ
  pub numbers : List ℕ

abbrev pub slice : ℕ × ℕ → List ℕ → Slice
slice p S = record { at = p; numbers = S }

-- the part of a slice that is its first numbers
abbrev pub front_of : ℕ → Slice → Slice
front_of k s = record { at = s.at; numbers = take k s.numbers }

abbrev pub part_in : Part → Slice → Slice → Slice
part_in (OfFirst k) s t = front_of k s
part_in (OfSecond k) s t = front_of k t
part_in Empty s t = front_of 0 s

-- what is handed back of two lent slices
abbrev pub shorter_slice : ℕ → List ℤ → Slice → Slice → Slice
shorter_slice n L s t = part_in (shorter_part_lem n L s.numbers t.numbers) s t
