-- The specification's three kinds of refutation, as it states them: what the checker's rule has to say yes to, and nothing else.
use Rattle.std.specs.Prelude.{◌≡◌, refl, true, List, [], ◌∷◌, ◌++◌, ℕ, ◌+◌, ◌*◌, ◌<◌, ℤ, pos, ◌+ℤ◌, length}
use Rattle.std.proofs.Common.{arith, length-append}
use Rattle.integers.specs.Integer.{◌⋖◌, half}
use Rattle.lines.specs.Line.{line_at, line_count, is_false_lem}
use Rattle.steps.specs.declared.Step.{Step}
use Rattle.steps.specs.Point.{opposite}
use Rattle.steps.specs.Walk.{Path, total, Names}
use Rattle.check_refutation.specs.Progress.{head_size}
use Rattle.check_soundness.specs.Head.{steps_in}

-- the step numbers of a walk from a point to a point, and its steps
pub record Walk (L : List ℤ) (from : ℕ) (numbers : List ℕ) (to : ℕ) : Type 0 where
  pub steps : List Step
  pub some : 0 < length numbers
  pub named : Names L numbers steps
  pub path : Path from steps to

-- kind 1: a closed walk whose weights sum below 0
pub record Closed (L : List ℤ) (R : List ℕ) : Type 0 where
  pub numbers : List ℕ
  pub point : ℕ
  pub is : R ≡ 1 ∷ length numbers ∷ 0 ∷ numbers
  pub walk : Walk L point numbers point
  pub low : total walk.steps ⋖ pos 0

-- kind 2: a walk from a point to its opposite and one back; the halves of the sums, rounded toward minus infinity, sum below 0
pub record There-and-back (L : List ℤ) (R : List ℕ) : Type 0 where
  pub numbers : List ℕ
  pub more : List ℕ
  pub point : ℕ
  pub is : R ≡ 2 ∷ length numbers ∷ length more ∷ (numbers ++ more)
  pub there : Walk L point numbers (opposite point)
  pub back : Walk L (opposite point) more point
  pub low : half (total there.steps) +ℤ half (total back.steps) ⋖ pos 0

-- a step number that is twice the number of a false line
pub record FalseStep (L : List ℤ) (number : ℕ) : Type 0 where
  pub line : ℕ
  pub is : number ≡ 2 * line
  pub within : line < line_count L
  pub false_line : is_false_lem (line_at L line) ≡ true

-- kind 3: such a number alone
pub record Falsehood (L : List ℤ) (R : List ℕ) : Type 0 where
  pub number : ℕ
  pub is : R ≡ 3 ∷ 1 ∷ 0 ∷ number ∷ []
  pub false_step : FalseStep L number

pub data Refutes (L : List ℤ) (R : List ℕ) : Type 0 where
  kind_1 : Closed L R → Refutes L R
  kind_2 : There-and-back L R → Refutes L R
  kind_3 : Falsehood L R → Refutes L R

-- it has as many numbers as its head and its counts say, also where other numbers stand behind it
pub stated_length_law : (L : List ℤ) (R : List ℕ) → Refutes L R → (rest : List ℕ) → length R ≡ head_size + steps_in (R ++ rest)
stated_length_law L R (kind_1 c) rest = rw c.is (omega arith)
stated_length_law L R (kind_2 c) rest = rw c.is (omega (arith, length-append c.numbers c.more))
stated_length_law L R (kind_3 c) rest = rw c.is refl
