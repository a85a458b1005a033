-- The steps of a list's line put into a table, by their numbers: what is left, whatever the table holds; and that the table of the lines before becomes that
-- of one line more, where no closed walk of negative sum comes of it.
use Rattle.std.specs.Prelude.{◌≡◌, refl, Bool, true, false, List, ◌++◌, ℕ, ◌+◌, ◌*◌, ℤ, None, Option, Some}
use Rattle.std.proofs.Common.{sym, ap, subst, ◌∙◌, append-nil, arith}
use Rattle.integers.specs.Laws.{never}
use Rattle.lines.specs.Valid.{LinesOk}
use Rattle.steps.specs.declared.Step.{Step}
use Rattle.steps.specs.Step.{step_numbered_lem, named}
use Rattle.theory_walks.specs.Row.{WithinPoints}
use Rattle.theory_walks.specs.Negative.{no_negative}
use Rattle.decide_rows.specs.Numbers.{StepOk, steps_before, before_more, numbered_ok}
use Rattle.theory_walks.specs.Graph.{in_left}
use Rattle.theory_inserting.specs.Two.{EndsBelow, named_within, negative_among}
use Rattle.session_step.specs.Read.{SizedTable}
use Rattle.session_step.specs.Done.{step_after, after_size}
use Rattle.session_step.specs.Meaning.{TableFor, step_table}

-- a step that may be there
abbrev pub named_after : ℕ → Option Step → List ℤ → List ℤ
named_after N (Some s) t = step_after N s t
named_after N None t = t

-- the two steps of line k
abbrev pub line_after : ℕ → List ℤ → ℕ → List ℤ → List ℤ
line_after N L k t = named_after N (step_numbered_lem L (2 * k + 1)) (named_after N (step_numbered_lem L (2 * k)) t)

-- ---- for the code
pub named_found : (N : ℕ) (x : Option Step) (s : Step) → x ≡ Some s → (t t' : List ℤ) → t' ≡ step_after N s t → t' ≡ named_after N x t
named_found N x s e t t' q = q ∙ ap (λ (y : Option Step). named_after N y t) (sym e)

pub named_nothing : (N : ℕ) (x : Option Step) → x ≡ None → (t : List ℤ) → t ≡ named_after N x t
named_nothing N x e t = ap (λ (y : Option Step). named_after N y t) (sym e)

pub named_sized : (n : ℕ) (x : Option Step) (t : List ℤ) → SizedTable n t → SizedTable n (named_after (2 * n) x t)
named_sized n (Some s) t a = record { variables = a.variables; size = after_size (2 * n) s t }
named_sized n None t a = a

pub line_sized : (n : ℕ) (L : List ℤ) (k : ℕ) (t : List ℤ) → SizedTable n t → SizedTable n (line_after (2 * n) L k t)
line_sized n L k t a = named_sized n (step_numbered_lem L (2 * k + 1)) _ (named_sized n (step_numbered_lem L (2 * k)) t a)

-- ---- what it means: the table of the steps with numbers below k becomes that of one more
module _ (n : ℕ) (L : List ℤ) (ok : LinesOk n L) where
  abbrev N : ℕ
  N = 2 * n

  pub ends : (k : ℕ) → EndsBelow N (step_numbered_lem L k)
  ends k = go (step_numbered_lem L k) refl
    where
      go : (x : Option Step) → step_numbered_lem L k ≡ x → EndsBelow N x
      go (Some s) e = let a = numbered_ok n L ok k s e in (a.from_lt, a.to_lt)
      go None e = tt

  named_table : (E : List Step) (t : List ℤ) → TableFor n E t → (x : Option Step) → ((s : Step) → x ≡ Some s → StepOk n s) → no_negative (E ++ named x) N ≡ true
      → TableFor n (E ++ named x) (named_after N x t)
  named_table E t a (Some s) ready e = step_table n E t a s (ready s refl) e
  named_table E t a None ready e = rw (append-nil E) a

  number_table : (k : ℕ) (t : List ℤ) → TableFor n (steps_before L k) t → no_negative (steps_before L (k + 1)) N ≡ true → TableFor n (steps_before L (k + 1)) (named_after N (step_numbered_lem L k) t)
  number_table k t a e =
      subst (λ (F : List Step). TableFor n F (named_after N (step_numbered_lem L k) t)) (sym (before_more L k))
      (named_table (steps_before L k) t a (step_numbered_lem L k) (numbered_ok n L ok k) (ap (λ (F : List Step). no_negative F N) (sym (before_more L k)) ∙ e))

  -- a closed walk of negative sum stays
  pub negative_next : (k : ℕ) → WithinPoints N (steps_before L k) → no_negative (steps_before L k) N ≡ false → no_negative (steps_before L (k + 1)) N ≡ false
  negative_next k within e =
      let F = steps_before L k ++ named (step_numbered_lem L k) in
      ap (λ (x : List Step). no_negative x N) (before_more L k)
      ∙ negative_among (steps_before L k) F N (named_within (steps_before L k) N within (step_numbered_lem L k) (ends k)) (λ t. in_left t (steps_before L k) (named (step_numbered_lem L k))) e

  pub within_next : (k : ℕ) → WithinPoints N (steps_before L k) → WithinPoints N (steps_before L (k + 1))
  within_next k within = rw (before_more L k) (named_within (steps_before L k) N within (step_numbered_lem L k) (ends k))

  -- where the lines 0 to k have no closed walk of negative sum, the table is theirs
  pub line_table : (k : ℕ) (t : List ℤ) → TableFor n (steps_before L (2 * k)) t → no_negative (steps_before L (2 * (k + 1))) N ≡ true → TableFor n (steps_before L (2 * (k + 1))) (line_after N L k t)
  line_table k t a e =
      subst (λ (j : ℕ). TableFor n (steps_before L j) (line_after N L k t)) twice
      (number_table (2 * k + 1) (named_after N (step_numbered_lem L (2 * k)) t) (number_table (2 * k) t a (first (no_negative (steps_before L (2 * k + 1)) N) refl)) both)
    where
      twice : 2 * k + 1 + 1 ≡ 2 * (k + 1)
      twice = omega arith

      both : no_negative (steps_before L (2 * k + 1 + 1)) N ≡ true
      both = ap (λ (j : ℕ). no_negative (steps_before L j) N) twice ∙ e

      first : (b : Bool) → no_negative (steps_before L (2 * k + 1)) N ≡ b → b ≡ true
      first true q = refl
      first false q = let clash : true ≡ false = sym both ∙ negative_next (2 * k + 1) (within_next (2 * k) a.within) q in never (cc)
