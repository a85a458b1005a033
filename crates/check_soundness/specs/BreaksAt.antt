-- Where a refutation breaks, by the section of docs/SPECIFICATION.md of that name: to be read beside it. Nothing here speaks of how the checker works.
use Rattle.std.specs.Prelude.{◌≡◌, List, ℕ, ◌+◌, ◌-◌, ◌<◌, ◌≤◌, ℤ, pos, ◌+ℤ◌, length, get_or, take, drop, None, Option, Some}
use Rattle.integers.specs.Integer.{◌⋖◌, half}
use Rattle.steps.specs.declared.Step.{Step}
use Rattle.steps.specs.Point.{opposite}
use Rattle.steps.specs.Step.{step_numbered_lem}
use Rattle.steps.specs.Walk.{total, Names}
use Rattle.check_refutation.specs.Progress.{head_size}
use Rattle.check_soundness.specs.Head.{kind_of, first_count, second_count, steps_in, IsKind, Suits}
use Rattle.check_soundness.specs.Refutes.{FalseStep}

-- the counts suit the kind; there are as many numbers as they say
abbrev pub CountsRight : List ℕ → Type 0
CountsRight R = Suits (kind_of R) (first_count R) (second_count R)

abbrev pub LengthRight : List ℕ → Type 0
LengthRight R = length R ≡ head_size + steps_in R

-- the index of the last number of the first walk, and of the last of all; that of the first step number is the head's size
abbrev pub first_walk_end : List ℕ → ℕ
first_walk_end R = head_size + first_count R - 1

abbrev pub last_index : List ℕ → ℕ
last_index R = length R - 1

-- the step that the number at an index names, if it names one
abbrev pub step_at : List ℤ → List ℕ → ℕ → Option Step
step_at L R i = step_numbered_lem L (get_or R i 0)

-- the step number at an index is wrong
pub data StepWrong (L : List ℤ) (R : List ℕ) (i : ℕ) : Type 0 where
  -- it names no step
  no_step : step_at L R i ≡ None → StepWrong L R i
  -- its step does not start where the one before it ends; the first may start anywhere, and the second walk goes on where the first ended
  not_joined : head_size < i → (s t : Step) → step_at L R (i - 1) ≡ Some s → step_at L R i ≡ Some t → (s.to ≡ t.from → ⊥) → StepWrong L R i
  -- the last step of kind 2's first walk does not end at the opposite of the point where the first step starts
  not_opposite : kind_of R ≡ 2 → i ≡ first_walk_end R → (s t : Step) → step_at L R head_size ≡ Some s → step_at L R i ≡ Some t → (t.to ≡ opposite s.from → ⊥) → StepWrong L R i
  -- the last step of all does not end where the first starts
  not_closed : i ≡ last_index R → (s t : Step) → step_at L R head_size ≡ Some s → step_at L R i ≡ Some t → (t.to ≡ s.from → ⊥) → StepWrong L R i

-- the sums of the two walks, S and T, are low enough: kind 1 has one walk, and S is below 0; kind 2, S halved plus T halved is, each halving rounded
-- toward minus infinity
pub data Low (k : ℕ) (S T : ℤ) : Type 0 where
  low_sum : k ≡ 1 → S ⋖ pos 0 → Low k S T
  low_halves : k ≡ 2 → half S +ℤ half T ⋖ pos 0 → Low k S T

-- of the steps that the numbers behind the head name, the first walk's and the others
abbrev pub SumsLow : List ℤ → List ℕ → Type 0
SumsLow L R = (ts : List Step) × Names L (drop head_size R) ts × Low (kind_of R) (total (take (first_count R) ts)) (total (drop (first_count R) ts))

-- whatever can be wrong, each at its index
pub data Fault (L : List ℤ) (R : List ℕ) : ℕ → Type 0 where
  -- fewer than three numbers, or a bad kind
  no_head : length R < head_size → Fault L R 0
  bad_kind : (IsKind (kind_of R) → ⊥) → Fault L R 0
  bad_counts : (CountsRight R → ⊥) → Fault L R 1
  bad_length : (LengthRight R → ⊥) → Fault L R 2
  -- kinds 1 and 2: a step number that is wrong; sums that are not low enough, at the last number
  wrong_step : {i : ℕ} → (kind_of R ≡ 3 → ⊥) → head_size ≤ i → i < length R → StepWrong L R i → Fault L R i
  high_sums : (kind_of R ≡ 3 → ⊥) → (SumsLow L R → ⊥) → Fault L R (last_index R)
  -- kind 3: the one step number, if it is wrong
  wrong_line : kind_of R ≡ 3 → (FalseStep L (get_or R head_size 0) → ⊥) → Fault L R head_size

-- it breaks at the first fault, since the specification lists them in the order of their indices
pub record BreaksAt (L : List ℤ) (R : List ℕ) (i : ℕ) : Type 0 where
  pub fault : Fault L R i
  pub first : (j : ℕ) → j < i → Fault L R j → ⊥
