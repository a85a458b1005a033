-- Step numbers that stand in the work area and name a walk between two points, and the refutation that a closed one of negative sum makes.
use Rattle.std.specs.Prelude.{◌≡◌, refl, List, [], ◌∷◌, ◌++◌, map, ℕ, zero, suc, ◌+◌, ◌*◌, ◌-◌, ◌<◌, ◌≤◌, ℤ, pos, nat_abs, length, get_or, set, take, drop}
use Rattle.std.proofs.Common.{sym, ap, ap₂, subst, ◌∙◌, arith, length-append, get_or-set_same, get_or-set_other, get_or-append-add, drop-cons}
use Rattle.std.proofs.Math.Decide.{dec_lt}
use Rattle.std.proofs.Math.ListN.{get_or-append}
use Rattle.integers.specs.Integer.{◌⋖◌}
use Rattle.lines.specs.Limits.{work_lines}
use Rattle.lines.specs.Line.{number}
use Rattle.steps.specs.declared.Step.{Step}
use Rattle.steps.specs.Walk.{Path, total, Names}
use Rattle.check_refutation.specs.Progress.{head_size}
use Rattle.check_soundness.specs.Head.{kind_of, steps_in}
use Rattle.check_soundness.specs.Refutes.{Refutes, kind_1}
use Rattle.decide_written_walks.specs.Copy.{StepNumbers, copied_to}
use Rattle.decide_written_walks.specs.Refutation.{behind_place}

-- these numbers stand from a place on, and could be steps
abbrev pub Stand : List ℤ → ℕ → List ℕ → Type 0
Stand w from ks = (i : ℕ) → i < length ks → (number w (from + i) ≡ pos (get_or ks i 0)) × (get_or ks i 0 < 2 * work_lines)

-- the numbers from the start to the end name a walk from u to v of this sum
pub record Stretch (L : List ℤ) (u v : ℕ) (w : List ℤ) (start end : ℕ) (sum : ℤ) : Type 0 where
  pub numbers : List ℕ
  pub count : start + length numbers ≡ end
  pub stand : Stand w start numbers
  pub steps : List Step
  pub named : Names L numbers steps
  pub path : Path u steps v
  pub sum_is : total steps ≡ sum

-- ---- they stand as long as nothing is stored over them
stand_kept : (w w' : List ℤ) (from : ℕ) (ks : List ℕ) → ((i : ℕ) → from ≤ i → i < from + length ks → number w' i ≡ number w i) → Stand w from ks → Stand w' from ks
stand_kept w w' from ks f s i h = (f (from + i) (omega arith) (omega (arith, h)) ∙ (s i h).0, (s i h).1)

pub stretch_kept : {L : List ℤ} {u v : ℕ} {w w' : List ℤ} {start end : ℕ} {sum : ℤ} → ((i : ℕ) → start ≤ i → i < end → number w' i ≡ number w i) → Stretch L u v w start end sum → Stretch L u v w' start end sum
stretch_kept {w} {w'} {start} f s = record {
  numbers = s.numbers;
  count = s.count;
  stand = stand_kept w w' start s.numbers (λ i h l. f i h (omega (arith, l, s.count))) s.stand;
  steps = s.steps;
  named = s.named;
  path = s.path;
  sum_is = s.sum_is;
}

-- ---- one more before them
pub stand_before : (w : List ℤ) (slot k : ℕ) (ks : List ℕ) → 0 < slot → slot ≤ length w → k < 2 * work_lines → Stand w slot ks → Stand (set w (slot - 1) (pos k)) (slot - 1) (k ∷ ks)
stand_before w slot k ks low high below s zero h =
    let e : slot - 1 + 0 ≡ slot - 1 = omega arith in
    (ap (number (set w (slot - 1) (pos k))) e ∙ get_or-set_same w (slot - 1) (pos k) (pos 0) (omega (arith, low, high)), below)
stand_before w slot k ks low high below s (suc i) h =
    let e : slot - 1 + suc i ≡ slot + i = omega (arith, low) in
    (ap (number (set w (slot - 1) (pos k))) e ∙ get_or-set_other w (slot - 1) (slot + i) (pos k) (pos 0) (λ x. omega (arith, x, low)) ∙ (s i (omega arith)).0, (s i (omega arith)).1)

-- ---- two behind each other
pub stand_append : (w : List ℤ) (from : ℕ) (ks ls : List ℕ) → Stand w from ks → Stand w (from + length ks) ls → Stand w from (ks ++ ls)
stand_append w from ks ls a b i h = go (dec_lt i (length ks))
  where
    go : Dec (i < length ks) → (number w (from + i) ≡ pos (get_or (ks ++ ls) i 0)) × (get_or (ks ++ ls) i 0 < 2 * work_lines)
    go (yes l) = rw (get_or-append ks ls 0 i l) (a i l)
    go (no l) =
        let j : i - length ks < length ls = omega (arith, h, l, length-append ks ls) in
        let e : i ≡ length ks + (i - length ks) = omega (arith, l) in
        let x : from + i ≡ from + length ks + (i - length ks) = omega (arith, l) in
        let y : get_or (ks ++ ls) i 0 ≡ get_or ls (i - length ks) 0 = ap (λ (m : ℕ). get_or (ks ++ ls) m 0) e ∙ get_or-append-add ks ls (i - length ks) 0 in
        rw y (ap (number w) x ∙ (b (i - length ks) j).0, (b (i - length ks) j).1)

-- ---- what is copied of them
pub stand_numbers : (w : List ℤ) (from : ℕ) (ks : List ℕ) → Stand w from ks → (size : ℕ) → length ks ≡ size → StepNumbers w from size
stand_numbers w from ks s size e i h = let l : i < length ks = omega (arith, h, e) in (get_or ks i 0, (s i l).0, (s i l).1)

stand_copied : (w : List ℤ) (from : ℕ) (ks : List ℕ) → from + length ks ≤ length w → Stand w from ks → take (length ks) (map nat_abs (drop from w)) ≡ ks
stand_copied w from [] room s = refl
stand_copied w from (k ∷ ks) room s =
    ap (λ (l : List ℤ). take (suc (length ks)) (map nat_abs l)) (drop-cons w from (pos 0) (omega (arith, room)))
    ∙ ap₂ (λ (z : ℤ) (l : List ℕ). nat_abs z ∷ l) first (stand_copied w (suc from) ks (omega (arith, room)) rest)
  where
    first : number w from ≡ pos k
    first = let e : from ≡ from + 0 = omega arith in ap (number w) e ∙ (s 0 (omega arith)).0

    rest : Stand w (suc from) ks
    rest i h = let e : suc from + i ≡ from + suc i = omega arith in (ap (number w) e ∙ (s (suc i) (omega (arith, h))).0, (s (suc i) (omega (arith, h))).1)

-- and stands behind a refutation's head then
pub stand_behind : (w : List ℤ) (from : ℕ) (ks : List ℕ) → from + length ks ≤ length w → Stand w from ks → (size : ℕ) → length ks ≡ size → (R R₁ : List ℕ) → head_size ≤ length R → R₁ ≡ copied_to R head_size w from size
    → drop head_size R₁ ≡ ks ++ drop (head_size + size) R
stand_behind w from ks room s size e R R₁ head c =
    ap (drop head_size) (c ∙ ap (λ (l : List ℕ). (take head_size R ++ l) ++ drop (head_size + size) R) copied)
    ∙ behind_place R head_size size ks head
  where
    copied : take size (map nat_abs (drop from w)) ≡ ks
    copied = subst (λ (j : ℕ). take j (map nat_abs (drop from w)) ≡ ks) e (stand_copied w from ks room s)

-- ---- a closed walk of negative sum, copied behind a head: a refutation of kind 1 in front of what stood there
pub record ClosedShown (L : List ℤ) (size : ℕ) (R R' : List ℕ) : Type 0 where
  pub numbers : List ℕ
  pub refutes : Refutes L numbers
  pub kind_is : kind_of numbers ≡ 1
  pub steps : steps_in numbers ≡ size
  pub length_is : length numbers ≡ head_size + size
  pub is : R' ≡ numbers ++ drop (length numbers) R

module _ {L : List ℤ} {p : ℕ} {w : List ℤ} {start end : ℕ} {sum : ℤ} (s : Stretch L p p w start end sum) (room : end ≤ length w) where
  abbrev size : ℕ
  size = end - start

  size_is : length s.numbers ≡ size
  size_is = omega (arith, s.count)

  pub closed_numbers : StepNumbers w start size
  closed_numbers = stand_numbers w start s.numbers s.stand size size_is

  pub closed_shown : start < end → sum ⋖ pos 0 → (R : List ℕ) → head_size ≤ length R → (R₁ : List ℕ) → R₁ ≡ copied_to R head_size w start size → (R' : List ℕ) → R' ≡ 1 ∷ size ∷ 0 ∷ drop head_size R₁ → ClosedShown L size R R'
  closed_shown some low R head R₁ c R' e =
      record {
        numbers = 1 ∷ length s.numbers ∷ 0 ∷ s.numbers;
        refutes = kind_1 (record { numbers = s.numbers; point = p; is = refl; walk = record { steps = s.steps; some = omega (arith, s.count, some); named = s.named; path = s.path }; low = rw s.sum_is low });
        kind_is = refl;
        steps = omega (arith, size_is);
        length_is = omega (arith, size_is);
        is =
            e ∙ ap₂ (λ (i : ℕ) (l : List ℕ). 1 ∷ i ∷ 0 ∷ l) (sym size_is) (stand_behind w start s.numbers (omega (arith, s.count, room)) s.stand size size_is R R₁ head c)
            ∙ ap (λ (i : ℕ). 1 ∷ length s.numbers ∷ 0 ∷ (s.numbers ++ drop i R)) last;
      }
    where
      last : head_size + size ≡ length (1 ∷ length s.numbers ∷ 0 ∷ s.numbers)
      last = omega (arith, size_is)
