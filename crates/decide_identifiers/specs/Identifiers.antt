-- The identifiers of a refutation's steps, in walk order, and what they are read by.
use Rattle.std.specs.Prelude.{◌≡◌, List, [], ◌∷◌, ◌++◌, ℕ, ◌+◌, ◌/◌, ◌<◌, ◌≤◌, ℤ, pos, nat_abs, length, get_or}
use Rattle.std.proofs.Math.Path.{ap}
use Rattle.std.proofs.Common.{◌∙◌, append-nil, arith, length-append, get_or-append-add}
use Rattle.std.proofs.Math.ListN.{get_or-append}
use Rattle.std.specs.Int.Signed.{yes_non_neg, pos-nat_abs}
use Rattle.integers.specs.Sequence.{tabulate, tabulate_cong, length_tabulate, get_d_tabulate}
use Rattle.lines.specs.Line.{line_at, line_count}
use Rattle.lines.specs.Valid.{IdentifierOk, LinesOk}
use Rattle.steps.specs.declared.Step.{Step}
use Rattle.steps.specs.Laws.{names_below}
use Rattle.steps.specs.Walk.{Names, names_append}
use Rattle.check_refutation.specs.Progress.{head_size}
use Rattle.check_soundness.specs.Head.{steps_in}
use Rattle.check_soundness.specs.Refutes.{Refutes, kind_1, kind_2, kind_3, stated_length_law}

-- the identifier of the line that the step with this number is of; an identifier of a valid line is not negative, so that nat_abs only makes it a ℕ
abbrev pub identifier_of_lem : List ℤ → ℕ → ℕ
identifier_of_lem L step = nat_abs (line_at L (step / 2)).identifier

-- the number of a refutation's step i
abbrev pub step_at : List ℕ → ℕ → ℕ
step_at R i = get_or R (head_size + i) 0

-- of each step, in walk order
unfoldable pub identifiers_of : List ℤ → List ℕ → List ℕ
identifiers_of L R = tabulate (steps_in R) (λ i. identifier_of_lem L (step_at R i))

pub length_identifiers : (L : List ℤ) (R : List ℕ) → length (identifiers_of L R) ≡ steps_in R
unfolding identifiers_of
length_identifiers L R = length_tabulate (steps_in R) _

-- as many step numbers as the counts say, each of a line of the list
pub record StepsNamed (L : List ℤ) (R : List ℕ) : Type 0 where
  pub whole : head_size + steps_in R ≤ length R
  pub named : (i : ℕ) → i < steps_in R → step_at R i / 2 < line_count L
  pub identifiers : (k : ℕ) → k < line_count L → IdentifierOk (line_at L k).identifier

-- ---- the steps of a refutation are named, also where other numbers stand behind it
-- each step number names a line
names_lines : (L : List ℤ) (ks : List ℕ) (ts : List Step) → Names L ks ts → (i : ℕ) → i < length ks → get_or ks i 0 / 2 < line_count L
names_lines L ks ts a i h = omega (arith, names_below L ks ts a i h)

step_number : (k p q : ℕ) (S : List ℕ) (i : ℕ) → step_at (k ∷ p ∷ q ∷ S) i ≡ get_or S i 0
step_number k p q S i = get_or-append-add (k ∷ p ∷ q ∷ []) S i 0

step_line : (L : List ℤ) (R : List ℕ) → Refutes L R → (i : ℕ) → i < steps_in R → step_at R i / 2 < line_count L
step_line L R (kind_1 c) i h = rw (c.is, step_number 1 (length c.numbers) 0 c.numbers i) (names_lines L c.numbers c.walk.steps c.walk.named i (omega (arith, rw c.is at h)))
step_line L R (kind_2 c) i h =
    let ks = c.numbers ++ c.more in
    let a = names_append L c.numbers c.more c.there.steps c.back.steps c.there.named c.back.named in
    rw (c.is, step_number 2 (length c.numbers) (length c.more) ks i) (names_lines L ks (c.there.steps ++ c.back.steps) a i (omega (arith, length-append c.numbers c.more, rw c.is at h)))
step_line L R (kind_3 c) i h =
    let z : i ≡ 0 = omega (arith, rw c.is at h) in
    let n : c.number / 2 < line_count L = omega (arith, c.false_step.is, c.false_step.within) in
    rw (c.is, z) n

module _ (n : ℕ) (L : List ℤ) (R rest : List ℕ) (r : Refutes L R) where
  pub counts_front : steps_in (R ++ rest) ≡ steps_in R
  counts_front = omega (arith, stated_length_law L R r rest, stated_length_law L R r [], ap steps_in (append-nil R))

  same_step : (i : ℕ) → i < steps_in R → step_at (R ++ rest) i ≡ step_at R i
  same_step i h = get_or-append R rest 0 (head_size + i) (omega (arith, stated_length_law L R r rest, counts_front))

  pub steps_named : LinesOk n L → StepsNamed L (R ++ rest)
  steps_named ok =
      record {
        whole = omega (arith, stated_length_law L R r rest, length-append R rest);
        named = λ i h. let k : i < steps_in R = omega (arith, h, counts_front) in rw (same_step i k) (step_line L R r i k);
        identifiers = λ k h. (ok k h).identifier;
      }

  -- what stands behind a refutation changes nothing
  pub identifiers_front : identifiers_of L (R ++ rest) ≡ identifiers_of L R
  unfolding identifiers_of
  identifiers_front =
      ap (λ (c : ℕ). tabulate c (λ i. identifier_of_lem L (step_at (R ++ rest) i))) counts_front
      ∙ tabulate_cong (steps_in R) _ _ (λ i h. ap (identifier_of_lem L) (same_step i h))

-- ---- an identifier comes back whole
pub identifier_whole : (n : ℕ) (L : List ℤ) (R : List ℕ) → LinesOk n L → Refutes L R → (i : ℕ) → i < steps_in R
    → pos (get_or (identifiers_of L R) i 0) ≡ (line_at L (step_at R i / 2)).identifier
unfolding identifiers_of
identifier_whole n L R ok r i h =
    ap pos (get_d_tabulate (steps_in R) i _ 0 h) ∙ pos-nat_abs _ (yes_non_neg (ok (step_at R i / 2) (step_line L R r i h)).identifier.low)
