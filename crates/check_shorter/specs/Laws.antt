-- What is handed back: an accepted refutation, the front of the slice that it came from, no longer than the other accepted one, and the first when they tie.
use Rattle.lines.specs.declared.Refusal.{Refusal}
use Rattle.std.specs.Prelude.{◌≡◌, refl, Bool, true, false, cond, ◌&&◌, ◌||◌, List, ◌++◌, ℕ, ◌<◌, ◌≤◌, eqb, ltb, ℤ, length, drop, Err, Ok, Result}
use Rattle.std.proofs.Common.{sym, ◌∙◌, arith, ltb-true, ltb-false, eqb-true, take-append-drop, length-take, length-append, take_at}
use Rattle.std.proofs.Math.Path.{ap}
use Rattle.std.proofs.lemmas.Bool.{eqb-false}
use Rattle.check_answers.specs.declared.CheckAnswer.{CheckAnswer}
use Rattle.check_answers.specs.declared.CheckAnswer.TheVariants.{Yes, No}
use Rattle.check_refutation.specs.Answer.{refutation_answer}
use Rattle.check_soundness.specs.Head.{stated_length, stated}
use Rattle.check_soundness.specs.Refutes.{stated_length_law}
use Rattle.check_soundness.specs.Answered.{accepted_when}
use Rattle.check_shorter.specs.declared.Part.{Part}
use Rattle.check_shorter.specs.declared.Part.TheVariants.{OfFirst, OfSecond, Empty}
use Rattle.check_shorter.specs.HandsBack.{FrontAccepted, HandsBack, the_first, the_second, neither}
use Rattle.check_shorter.specs.Shorter.{if_accepted, accepted_length_lem, part_by_lengths_lem, shorter_part_lem}

-- ---- one slice
module _ (n : ℕ) (L : List ℤ) (S : List ℕ) where
  -- where the checker accepts the front, it has the numbers that its counts say
  pub accepted_whole : refutation_answer n L (stated S) ≡ Ok Yes → FrontAccepted n L S
  accepted_whole e =
      let k = stated_length S in
      let size = stated_length_law L (stated S) ((accepted_when n L (stated S)).0 e).2 (drop k S) ∙ ap stated_length (take-append-drop k S) in
      record { whole = omega (arith, size, length-take k S); is_accepted = e }

  -- the length says whether it is accepted
  pub length_if : (a : Result CheckAnswer Refusal) → refutation_answer n L (stated S) ≡ a → accepted_length_lem n L S ≡ if_accepted a (stated_length S)
  unfolding accepted_length_lem
  length_if a e = ap (λ (x : Result CheckAnswer Refusal). if_accepted x (stated_length S)) e

  pub length_accepted : FrontAccepted n L S → accepted_length_lem n L S ≡ stated_length S
  length_accepted f = length_if (Ok Yes) f.is_accepted

  some_accepted : 0 < accepted_length_lem n L S → FrontAccepted n L S
  some_accepted h = accepted_whole (go (refutation_answer n L (stated S)) refl)
    where
      go : (a : Result CheckAnswer Refusal) → refutation_answer n L (stated S) ≡ a → a ≡ Ok Yes
      go (Ok Yes) e = refl
      go (Ok (No i)) e = absurd (omega (arith, h, length_if (Ok (No i)) e))
      go (Err r) e = absurd (omega (arith, h, length_if (Err r) e))

  not_accepted : (FrontAccepted n L S → ⊥) → accepted_length_lem n L S ≡ 0
  not_accepted f = go (refutation_answer n L (stated S)) refl
    where
      go : (a : Result CheckAnswer Refusal) → refutation_answer n L (stated S) ≡ a → accepted_length_lem n L S ≡ 0
      go (Ok Yes) e = absurd (f (accepted_whole e))
      go (Ok (No i)) e = length_if (Ok (No i)) e
      go (Err r) e = length_if (Err r) e

  pub too_short : length S < stated_length S → accepted_length_lem n L S ≡ 0
  too_short h = not_accepted (λ f. absurd (omega (arith, h, f.whole)))

-- whatever stands behind an accepted refutation, and however much, changes nothing
module _ (n : ℕ) (L : List ℤ) (R rest : List ℕ) (e : refutation_answer n L R ≡ Ok Yes) where
  front_is : stated_length (R ++ rest) ≡ length R
  front_is = sym (stated_length_law L R ((accepted_when n L R).0 e).2 rest)

  pub stated_front : stated (R ++ rest) ≡ R
  stated_front = take_at R rest (stated_length (R ++ rest)) (sym front_is)

  pub front_accepted : FrontAccepted n L (R ++ rest)
  front_accepted =
      record { whole = omega (arith, front_is, length-append R rest); is_accepted = ap (refutation_answer n L) stated_front ∙ e }

-- ---- the choice, by the lengths
data Chosen (a b : ℕ) : Part → Type 0 where
  by_first : 0 < a → (0 < b → a ≤ b) → Chosen a b (OfFirst a)
  by_second : 0 < b → (0 < a → b < a) → Chosen a b (OfSecond b)
  by_neither : a ≡ 0 → b ≡ 0 → Chosen a b Empty

chosen : (a b : ℕ) → Chosen a b (part_by_lengths_lem a b)
unfolding part_by_lengths_lem
chosen a b = go (ltb 0 b) (eqb a 0) (ltb b a) (ltb 0 a) refl refl refl refl
  where
    go : (p q r s : Bool) → ltb 0 b ≡ p → eqb a 0 ≡ q → ltb b a ≡ r → ltb 0 a ≡ s → Chosen a b (cond (p && (q || r)) (OfSecond b) (cond s (OfFirst a) Empty))
    go true true r s e f g h = by_second (ltb-true _ _ e) (λ k. absurd (omega (arith, eqb-true a 0 f)))
    go true false true s e f g h = by_second (ltb-true _ _ e) (λ k. ltb-true _ _ g)
    go true false false true e f g h = by_first (ltb-true _ _ h) (λ k. ltb-false _ _ g)
    go true false false false e f g h = absurd (eqb-false a 0 f (omega (arith, ltb-false 0 a h)))
    go false q r true e f g h = by_first (ltb-true _ _ h) (λ k. absurd (omega (arith, ltb-false 0 b e)))
    go false q r false e f g h = by_neither (omega (arith, ltb-false 0 a h)) (omega (arith, ltb-false 0 b e))

-- ---- of two slices
pub hands_back : (n : ℕ) (L : List ℤ) (S T : List ℕ) → HandsBack n L S T (shorter_part_lem n L S T)
unfolding shorter_part_lem
hands_back n L S T = go (part_by_lengths_lem (accepted_length_lem n L S) (accepted_length_lem n L T)) (chosen _ _)
  where
    some : (R : List ℕ) → FrontAccepted n L R → 0 < accepted_length_lem n L R
    some R f = omega (arith, length_accepted n L R f)

    go : (p : Part) → Chosen (accepted_length_lem n L S) (accepted_length_lem n L T) p → HandsBack n L S T p
    go p (by_first h less) =
        let f = some_accepted n L S h in
        rw (length_accepted n L S f) (the_first f (λ g. omega (arith, less (some T g), length_accepted n L S f, length_accepted n L T g)))
    go p (by_second h less) =
        let g = some_accepted n L T h in
        rw (length_accepted n L T g) (the_second g (λ f. omega (arith, less (some S f), length_accepted n L S f, length_accepted n L T g)))
    go p (by_neither h k) = neither (λ f. absurd (omega (arith, some S f, h))) (λ g. absurd (omega (arith, some T g, k)))

-- a part lies within its slice
abbrev pub Inside : List ℕ → List ℕ → Part → Type 0
Inside S T (OfFirst k) = k ≤ length S
Inside S T (OfSecond k) = k ≤ length T
Inside S T Empty = Unit {0}

pub part_inside : (n : ℕ) (L : List ℤ) (S T : List ℕ) → Inside S T (shorter_part_lem n L S T)
part_inside n L S T = go (shorter_part_lem n L S T) (hands_back n L S T)
  where
    go : (p : Part) → HandsBack n L S T p → Inside S T p
    go p (the_first f less) = f.whole
    go p (the_second g less) = g.whole
    go p (neither f g) = tt

-- no other part is to be handed back
pub one_part : (n : ℕ) (L : List ℤ) (S T : List ℕ) (p q : Part) → HandsBack n L S T p → HandsBack n L S T q → p ≡ q
one_part n L S T p q (the_first f less) (the_first g more) = refl
one_part n L S T p q (the_first f less) (the_second g more) = absurd (omega (arith, less g, more f))
one_part n L S T p q (the_first f less) (neither g h) = absurd (g f)
one_part n L S T p q (the_second f less) (the_first g more) = absurd (omega (arith, less g, more f))
one_part n L S T p q (the_second f less) (the_second g more) = refl
one_part n L S T p q (the_second f less) (neither g h) = absurd (h f)
one_part n L S T p q (neither f g) (the_first h more) = absurd (f h)
one_part n L S T p q (neither f g) (the_second h more) = absurd (g h)
one_part n L S T p q (neither f g) (neither h k) = refl
