-- What was demanded of `shorter`, in the words of docs/SPECIFICATION.md, each statement proved by citing the rest.
--
-- A reader has to believe what is to be handed back (`FrontAccepted` and `HandsBack` in check_shorter/specs/HandsBack.antt) and which part of the caller's own
-- slice that is (`part_in` in check_shorter/specs/Shorter.antt). `shorter` promises the slice `shorter_slice`, where it begins and its numbers, an equation for
-- every input; the exported function returns `shorter_returned`. src/lib.rt calls both on buffers that could be written, and proves that every buffer is left as
-- it was.
use Rattle.std.specs.Prelude.{◌≡◌, refl, ◌⊎◌, ◌↔◌, List, [], ◌++◌, ℕ, ◌<◌, ◌≤◌, ℤ, length, Ok}
use Rattle.std.proofs.Common.{ap, inl, inr, arith, length-take-le}
use Rattle.lines.specs.Line.{Solvable, lines_of}
use Rattle.check_soundness.specs.Head.{stated_length, stated}
use Rattle.check_soundness.specs.Answered.{accepted_when}
use Rattle.check_shorter.specs.declared.Part.{Part}
use Rattle.check_shorter.specs.HandsBack.{FrontAccepted, HandsBack, the_first, the_second, neither}
use Rattle.check_shorter.specs.Shorter.{shorter_part_lem, Slice, part_in, shorter_slice}
use Rattle.check_shorter.specs.Laws.{accepted_whole, stated_front, front_accepted, hands_back, one_part}
use Rattle.decide.specs.declared.Answer.TheVariants as decide
use Rattle.decide.specs.Parts.{refutation_in}
use Rattle.c_shorter.specs.declared.CPart.{CPart}
use Rattle.c_shorter.specs.Calls.{part_returned, shorter_returned, part_read}
use Rattle.c_shorter.specs.Laws.{read_back, parts_apart}
use Rattle.demands.specs.Calls.{Engine, CallOf, call_accepted}
use Rattle.demands.specs.Demands.{ValidFor, Accepted, nothing_against_a_solution}

-- The shorter accepted one is handed back as a part of the caller's own slice, the first when they tie; an empty part when neither is accepted.
pub right_part : (n : ℕ) (L : List ℤ) (first second r : Slice) → r ≡ shorter_slice n L first second
    → (p : Part) × HandsBack n L first.numbers second.numbers p × (r ≡ part_in p first second)
right_part n L first second r e = (shorter_part_lem n L first.numbers second.numbers, hands_back n L first.numbers second.numbers, e)

-- So it is with what C gets: the struct of that part.
pub returned_part : (n : ℕ) (L : List ℤ) (S T : List ℕ) (r : CPart) → r ≡ shorter_returned n L S T → (p : Part) × HandsBack n L S T p × (r ≡ part_returned p)
returned_part n L S T r e = (shorter_part_lem n L S T, hands_back n L S T, e)

-- No other part is to be handed back.
pub one_part_is_right : (n : ℕ) (L : List ℤ) (S T : List ℕ) (p : Part) → HandsBack n L S T p → p ≡ shorter_part_lem n L S T
one_part_is_right n L S T p h = one_part n L S T p (shorter_part_lem n L S T) h (hands_back n L S T)

-- A slice with fewer numbers than 3 + p + q is not accepted, whatever it holds.
pub fewer_is_not_accepted : (n : ℕ) (L : List ℤ) (S : List ℕ) → length S < stated_length S → FrontAccepted n L S → ⊥
fewer_is_not_accepted n L S h f = omega (arith, f.whole)

-- A refutation that is accepted is accepted in every slice that begins with it, and is the part then: what lies behind it does not count, not even for
-- refusal 11.
pub behind_does_not_count : (n : ℕ) (L : List ℤ) (R rest : List ℕ) → Accepted n L R → FrontAccepted n L (R ++ rest) × (stated (R ++ rest) ≡ R)
behind_does_not_count n L R rest a = (front_accepted n L R rest a, stated_front n L R rest a)

-- ---- what is handed back

module _ (n : ℕ) (L : List ℤ) (first second : Slice) where
  abbrev S : List ℕ
  S = first.numbers

  abbrev T : List ℕ
  T = second.numbers

  abbrev handed : List ℕ
  handed = (shorter_slice n L first second).numbers

  -- by what is to be handed back
  by_part : (P : List ℕ → Type 0) → (FrontAccepted n L S → (FrontAccepted n L T → stated_length S ≤ stated_length T) → P (stated S))
      → (FrontAccepted n L T → (FrontAccepted n L S → stated_length T < stated_length S) → P (stated T))
      → ((FrontAccepted n L S → ⊥) → (FrontAccepted n L T → ⊥) → P []) → P handed
  by_part P one two none = go (shorter_part_lem n L S T) (hands_back n L S T)
    where
      go : (p : Part) → HandsBack n L S T p → P (part_in p first second).numbers
      go p (the_first f less) = one f less
      go p (the_second g less) = two g less
      go p (neither f g) = none f g

  -- It is empty, or the checker accepts it.
  pub handed_is_accepted : (handed ≡ []) ⊎ Accepted n L handed
  handed_is_accepted = by_part (λ R. (R ≡ []) ⊎ Accepted n L R) (λ f less. inr f.is_accepted) (λ g less. inr g.is_accepted) (λ f g. inl refl)

  some : (R : List ℕ) → FrontAccepted n L R → stated R ≡ [] → ⊥
  some R f e = let k : length (stated R) ≡ 0 = ap length e in omega (arith, length-take-le (stated_length R) R f.whole)

  -- It is empty exactly if neither is accepted,
  pub empty_exactly_if : (handed ≡ []) ↔ ((FrontAccepted n L S → ⊥) × (FrontAccepted n L T → ⊥))
  empty_exactly_if =
      by_part (λ R. (R ≡ []) ↔ ((FrontAccepted n L S → ⊥) × (FrontAccepted n L T → ⊥))) (λ f less. ((λ e. absurd (some S f e)), (λ h. absurd (h.0 f))))
      (λ g less. ((λ e. absurd (some T g e)), (λ h. absurd (h.1 g))))
      (λ f g. ((λ e. (f, g)), (λ h. refl)))

  -- so where the list is refused, and where it has a solution.
  pub refused_list_empty : (ValidFor n L → ⊥) → handed ≡ []
  refused_list_empty h =
      let no : (R : List ℕ) → FrontAccepted n L R → ⊥ = λ R f. h ((accepted_when n L (stated R)).0 f.is_accepted).0 in
      empty_exactly_if.1 (no S, no T)

  pub solvable_list_empty : Solvable (lines_of L) → handed ≡ []
  solvable_list_empty s =
      let no : (R : List ℕ) → FrontAccepted n L R → ⊥ = λ R f. nothing_against_a_solution n L (stated R) f.is_accepted s in
      empty_exactly_if.1 (no S, no T)

  -- No accepted one is shorter.
  pub none_is_shorter : (FrontAccepted n L S → length handed ≤ stated_length S) × (FrontAccepted n L T → length handed ≤ stated_length T)
  none_is_shorter =
      let size : (R : List ℕ) → FrontAccepted n L R → length (stated R) ≡ stated_length R = λ R f. length-take-le (stated_length R) R f.whole in
      by_part (λ R. (FrontAccepted n L S → length R ≤ stated_length S) × (FrontAccepted n L T → length R ≤ stated_length T))
      (λ f less. ((λ a. omega (arith, size S f)), (λ b. omega (arith, size S f, less b))))
      (λ g less. ((λ a. omega (arith, size T g, less a)), (λ b. omega (arith, size T g))))
      (λ f g. ((λ a. absurd (f a)), (λ b. absurd (g b))))

  -- When they tie it is the first: at that slice's own place, too.
  pub tie_is_the_first : FrontAccepted n L S → FrontAccepted n L T → stated_length S ≡ stated_length T → shorter_slice n L first second ≡ record { at = first.at; numbers = stated S }
  tie_is_the_first a b e = go (shorter_part_lem n L S T) (hands_back n L S T)
    where
      go : (p : Part) → HandsBack n L S T p → part_in p first second ≡ record { at = first.at; numbers = stated S }
      go p (the_first f less) = refl
      go p (the_second g less) = absurd (omega (arith, less a, e))
      go p (neither f g) = absurd (f a)

  -- C reads the same numbers by the struct, from the front of the slice that it names.
  pub returned_is_handed : part_read (shorter_returned n L S T) S T ≡ handed
  returned_is_handed = read_back (shorter_part_lem n L S T) first second

-- Where both are accepted, one of the two is handed back, and neither is shorter:
pub record OfTwo (n : ℕ) (L : List ℤ) (one two handed : List ℕ) : Type 0 where
  pub either : (handed ≡ one) ⊎ (handed ≡ two)
  pub is_accepted : Accepted n L handed
  pub no_longer_than_one : length handed ≤ length one
  pub no_longer_than_two : length handed ≤ length two

pub of_two_accepted : (n : ℕ) (L : List ℤ) (first second : Slice) → FrontAccepted n L first.numbers → FrontAccepted n L second.numbers
    → OfTwo n L (stated first.numbers) (stated second.numbers) (shorter_slice n L first second).numbers
of_two_accepted n L first second f g =
    let one = length-take-le (stated_length first.numbers) first.numbers f.whole in
    let two = length-take-le (stated_length second.numbers) second.numbers g.whole in
    by_part n L first second (OfTwo n L (stated first.numbers) (stated second.numbers))
    (λ a less. record { either = inl refl; is_accepted = a.is_accepted; no_longer_than_one = omega arith; no_longer_than_two = omega (arith, less g, one, two) })
    (λ b less. record { either = inr refl; is_accepted = b.is_accepted; no_longer_than_one = omega (arith, less f, one, two); no_longer_than_two = omega arith })
    (λ a b. absurd (a f))

-- so it is with what two calls of deciding on one list left that say no, each of either engine, lent the buffers as they are.
pub of_two_noes : {e f : Engine} (n : ℕ) (L : List ℤ) (c : CallOf e n L) (d : CallOf f n L) → c.answer ≡ Ok decide.No → d.answer ≡ Ok decide.No
    → (first second : Slice) → first.numbers ≡ c.after.refutation → second.numbers ≡ d.after.refutation
    → OfTwo n L (refutation_in c.after) (refutation_in d.after) (shorter_slice n L first second).numbers
of_two_noes n L c d c_no d_no first second e i =
    rw (← e, ← i)
    (of_two_accepted n L first second (accepted_whole n L first.numbers (rw e (call_accepted c c_no))) (accepted_whole n L second.numbers (rw i (call_accepted d d_no))))

-- No two parts are returned to C alike.
pub parts_returned_apart : (p q : Part) → part_returned p ≡ part_returned q → p ≡ q
parts_returned_apart p q = parts_apart p q
