-- Versions of `shorter` that go wrong in one thing, each a definition, and at named slices what breaks the promise. Beside them the version that keeps it, so
-- that those break it only by what they do otherwise.
use Rattle.std.proofs.Math.Path.{◌≡◌, refl, ap, ap₂}
use Rattle.std.proofs.Common.{sym, ◌∙◌, arith, lt-ltb}
use Rattle.std.specs.Prelude.{Bool, not, ◌&&◌, ◌||◌, eqb, ltb, ℤ, pos, neg_ℤ, take, get_or, replicate, Ok}
use Rattle.std.proofs.Math.Bool.{cond}
use mathlib.Core.List.{List, [], ◌∷◌, ◌++◌}
use Prim.Native.Nat.{ℕ, ◌+◌, ◌-◌, ◌%◌, ◌^◌, ◌<◌}
use Rattle.std.proofs.Math.ListN.{length, length-append}
use Rattle.std.proofs.lemmas.List.{length-replicate}
use Rattle.lines.specs.Limits.{max_refutation}
use Rattle.lines.specs.Line.{line_at, is_false_lem}
use Rattle.lines.specs.Refusal.{line_tests, lines_validity_lem, validity_of}
use Rattle.steps.specs.Step.{step_of, step_numbered_lem}
use Rattle.steps.specs.Table.{digit, entry}
use Rattle.check_answers.specs.declared.CheckAnswer.TheVariants.{Yes, No}
use Rattle.check_answers.specs.Answer.{unless_refused}
use Rattle.check_refutation.specs.declared.Progress.{Progress}
use Rattle.check_refutation.specs.Progress.{head_size, start, counts_ok_lem, is_false_step_lem, head_on, joins, turns, along, advance, run, closes, accepted, broken_at_lem}
use Rattle.check_refutation.specs.Answer.{refutation_validity, verdict, refutation_answer}
use Rattle.check_soundness.specs.Head.{steps_in, stated_length}
use Rattle.check_shorter.specs.declared.Part.{Part}
use Rattle.check_shorter.specs.declared.Part.TheVariants.{OfFirst, OfSecond, Empty}
use Rattle.check_shorter.specs.Shorter.{if_accepted, accepted_length_lem, part_by_lengths_lem, shorter_part_lem, Slice, slice, front_of, part_in, shorter_slice}
use Rattle.check_shorter.specs.Laws.{front_accepted, length_accepted, too_short}
use Rattle.demands.specs.Versions.{false_list}

-- the promise, of any version
abbrev Version : Type 0
Version = ℕ → List ℤ → Slice → Slice → Slice

abbrev pub Keeps : Version → Type 0
Keeps f = (n : ℕ) (L : List ℤ) (first second : Slice) → f n L first second ≡ shorter_slice n L first second

-- ---- the version that keeps it
-- one that measures each slice, 0 where it is not accepted, and chooses by the measures
abbrev by_measures : (ℕ → List ℤ → List ℕ → ℕ) → (ℕ → ℕ → Part) → Version
by_measures measure choose n L first second = part_in (choose (measure n L first.numbers) (measure n L second.numbers)) first second

pub right_keeps : Keeps (by_measures accepted_length_lem part_by_lengths_lem)
unfolding shorter_part_lem
right_keeps n L first second = refl

-- ---- the lists and slices: two false lines, and a refutation by each; x - x ≤ -1
two_false : List ℤ
two_false = false_list ++ false_list

one_false : Slice
one_false = slice (0, 0) (3 ∷ 1 ∷ 0 ∷ 0 ∷ [])

other_false : Slice
other_false = slice (1, 0) (3 ∷ 1 ∷ 0 ∷ 2 ∷ [])

empty : Slice
empty = slice (2, 0) []

below_itself : List ℤ
below_itself = pos 1 ∷ pos 0 ∷ neg_ℤ (pos 1) ∷ pos 0 ∷ neg_ℤ (pos 1) ∷ pos 0 ∷ []

-- ---- the second when they tie
tie_to_second : ℕ → ℕ → Part
tie_to_second a b = cond (ltb 0 b && (eqb a 0 || not (ltb a b))) (OfSecond b) (cond (ltb 0 a) (OfFirst a) Empty)

pub prefers_second : Version
prefers_second = by_measures accepted_length_lem tie_to_second

pub prefers_second_breaks : Keeps prefers_second → ⊥
unfolding prefers_second tie_to_second two_false one_false other_false shorter_part_lem part_by_lengths_lem accepted_length_lem refutation_answer refutation_validity validity_of lines_validity_lem line_tests line_at is_false_lem counts_ok_lem is_false_step_lem head_on advance run closes accepted verdict
prefers_second_breaks k =
    let e : ◌≡◌ {A = ℕ} 2 0 = ap (λ (s : Slice). get_or s.numbers 3 0) (k 0 two_false one_false other_false) in
    omega (arith, e)

-- ---- the shorter one, whether it is accepted or not
measured_alone : ℕ → List ℤ → List ℕ → ℕ
measured_alone n L S = cond (ltb (length S) (stated_length S)) 0 (stated_length S)

pub takes_unaccepted : Version
takes_unaccepted = by_measures measured_alone part_by_lengths_lem

-- kind 1 without steps
no_steps_lem : Slice
no_steps_lem = slice (3, 0) (1 ∷ 0 ∷ 0 ∷ [])

pub takes_unaccepted_breaks : Keeps takes_unaccepted → ⊥
unfolding takes_unaccepted measured_alone no_steps_lem two_false one_false shorter_part_lem part_by_lengths_lem accepted_length_lem refutation_answer refutation_validity validity_of lines_validity_lem line_tests line_at is_false_lem counts_ok_lem is_false_step_lem head_on advance run closes accepted broken_at_lem verdict
takes_unaccepted_breaks k = let e : ◌≡◌ {A = ℕ} 3 4 = ap (λ (s : Slice). length s.numbers) (k 0 two_false one_false no_steps_lem) in omega (arith, e)

-- ---- p + q is cut to 32 bits, and the checker compares the length with what is left of it
cut : ℕ → ℕ
cut k = k % 2 ^ 32

accepted_cut : Progress → Bool
accepted_cut s = s.good && (eqb s.read (head_size + cut (s.p + s.q)) && closes s)

measured_cut : ℕ → List ℤ → List ℕ → ℕ
measured_cut n L S =
    let k = head_size + cut (steps_in S) in
    let R = take k S in
    if_accepted (unless_refused (refutation_validity n L R) (cond (accepted_cut (run L start R)) (Ok Yes) (Ok (No 0)))) k

pub cuts_counts : Version
cuts_counts = by_measures measured_cut part_by_lengths_lem

-- two steps of x - x ≤ -1, by counts whose sum is 2 when it is cut
two_by_cut : Slice
two_by_cut = slice (4, 0) (2 ∷ (2 ^ 32 - 1) ∷ 3 ∷ 0 ∷ 0 ∷ [])

pub cuts_counts_breaks : Keeps cuts_counts → ⊥
unfolding cuts_counts measured_cut accepted_cut cut two_by_cut empty below_itself shorter_part_lem part_by_lengths_lem accepted_length_lem refutation_answer refutation_validity validity_of lines_validity_lem line_tests line_at entry digit step_numbered_lem step_of counts_ok_lem head_on joins turns along advance run closes accepted broken_at_lem verdict
cuts_counts_breaks k = let e : ◌≡◌ {A = ℕ} 5 0 = ap (λ (s : Slice). length s.numbers) (k 1 below_itself two_by_cut empty) in omega (arith, e)

-- ---- all of the slice is taken for the refutation
measured_whole : ℕ → List ℤ → List ℕ → ℕ
measured_whole n L S = if_accepted (refutation_answer n L S) (length S)

pub takes_whole_slice : Version
takes_whole_slice = by_measures measured_whole part_by_lengths_lem

one_more : Slice
one_more = slice (5, 0) (3 ∷ 1 ∷ 0 ∷ 0 ∷ 7 ∷ [])

pub takes_whole_slice_breaks : Keeps takes_whole_slice → ⊥
unfolding takes_whole_slice measured_whole one_more empty two_false shorter_part_lem part_by_lengths_lem accepted_length_lem refutation_answer refutation_validity validity_of lines_validity_lem line_tests line_at is_false_lem counts_ok_lem is_false_step_lem head_on advance run closes accepted broken_at_lem verdict
takes_whole_slice_breaks k = let e : ◌≡◌ {A = ℕ} 0 4 = ap (λ (s : Slice). length s.numbers) (k 0 two_false one_more empty) in omega (arith, e)

-- ---- the limit on a refutation is held against the slice
measured_limited : ℕ → List ℤ → List ℕ → ℕ
measured_limited n L S = cond (ltb max_refutation (length S)) 0 (accepted_length_lem n L S)

pub limits_slice : Version
limits_slice = by_measures measured_limited part_by_lengths_lem

-- a refutation with more behind it than the limit lets a refutation have
module _ (rest : List ℕ) (long : max_refutation < length rest) where
  long_slice : Slice
  long_slice = slice (6, 0) (one_false.numbers ++ rest)

  accepted_at : refutation_answer 0 two_false one_false.numbers ≡ Ok Yes
  unfolding one_false two_false refutation_answer refutation_validity validity_of lines_validity_lem line_tests line_at is_false_lem counts_ok_lem is_false_step_lem head_on advance run closes accepted verdict
  accepted_at = refl

  none : measured_limited 0 two_false long_slice.numbers ≡ 0
  unfolding measured_limited long_slice
  none =
      let h : max_refutation < length (one_false.numbers ++ rest) = omega (arith, long, length-append one_false.numbers rest) in
      ap (λ (t : Bool). cond t 0 (accepted_length_lem 0 two_false (one_false.numbers ++ rest))) (lt-ltb max_refutation _ h)

  none_of_none : measured_limited 0 two_false [] ≡ 0
  unfolding measured_limited
  none_of_none = too_short 0 two_false [] (omega arith)

  four : accepted_length_lem 0 two_false long_slice.numbers ≡ 4
  unfolding long_slice one_false
  four = length_accepted 0 two_false _ (front_accepted 0 two_false one_false.numbers rest accepted_at)

  limits_at : Keeps limits_slice → ⊥
  unfolding limits_slice shorter_part_lem part_by_lengths_lem long_slice one_false empty
  limits_at k =
      let l : part_by_lengths_lem (measured_limited 0 two_false long_slice.numbers) (measured_limited 0 two_false []) ≡ Empty = ap₂ part_by_lengths_lem none none_of_none in
      let r : shorter_part_lem 0 two_false long_slice.numbers [] ≡ OfFirst 4 = ap₂ part_by_lengths_lem four (too_short 0 two_false [] (omega arith)) in
      let size : Part → ℕ = λ p. length (part_in p long_slice empty).numbers in
      let e : ◌≡◌ {A = ℕ} 0 4 = ap size (sym l) ∙ ap (λ (s : Slice). length s.numbers) (k 0 two_false long_slice empty) ∙ ap size r in
      omega (arith, e)

pub limits_slice_breaks : Keeps limits_slice → ⊥
limits_slice_breaks = limits_at (replicate (max_refutation + 1) 0) (omega (arith, length-replicate {A = ℕ} (max_refutation + 1) 0))

-- ---- the right numbers, but not those of the slice that was lent
pub hands_back_copy : Version
hands_back_copy n L first second = slice (7, 0) (shorter_slice n L first second).numbers

pub hands_back_copy_breaks : Keeps hands_back_copy → ⊥
unfolding hands_back_copy one_false empty two_false shorter_part_lem part_by_lengths_lem accepted_length_lem refutation_answer refutation_validity validity_of lines_validity_lem line_tests line_at is_false_lem counts_ok_lem is_false_step_lem head_on advance run closes accepted verdict
hands_back_copy_breaks k = let e : ◌≡◌ {A = ℕ} 7 0 = ap (λ (s : Slice). s.at.0) (k 0 two_false one_false empty) in omega (arith, e)

-- ---- nothing, always
pub hands_back_nothing : Version
hands_back_nothing n L first second = front_of 0 first

pub hands_back_nothing_breaks : Keeps hands_back_nothing → ⊥
unfolding hands_back_nothing one_false empty two_false shorter_part_lem part_by_lengths_lem accepted_length_lem refutation_answer refutation_validity validity_of lines_validity_lem line_tests line_at is_false_lem counts_ok_lem is_false_step_lem head_on advance run closes accepted verdict
hands_back_nothing_breaks k = let e : ◌≡◌ {A = ℕ} 0 4 = ap (λ (s : Slice). length s.numbers) (k 0 two_false one_false empty) in omega (arith, e)
