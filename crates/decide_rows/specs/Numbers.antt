-- The steps of a list in the order of their numbers, one number at a time, as a loop goes through them.
use Rattle.std.specs.Prelude.{◌≡◌, ◌⊎◌, Bool, ℤ, None, Option, Some}
use Rattle.std.proofs.Math.Path.{refl, sym, ap, ap₂}
use Rattle.std.proofs.Common.{◌∙◌, inl, inr, add-one}
use Rattle.std.proofs.Math.Logic.{⊎_elim}
use Rattle.std.proofs.Math.Bool.{true, false, cond}
use mathlib.Core.List.{List, [], ◌∷◌, ◌++◌, append_assoc, append-nil}
use Prim.Native.Nat.{ℕ, zero, suc, ◌+◌, ◌*◌, ◌/◌, ◌%◌, ◌<◌, ◌≤◌}
use native.Mathlib.Omega.{arith}
use borrow.Author.Tests.{lt-ltb, ltb-true}
use Rattle.std.proofs.Math.Dec.{ltb}
use Rattle.integers.specs.Integer.{Within}
use Rattle.integers.specs.Laws.{never}
use Rattle.integers.specs.Sequence.{tabulate, tabulate_add}
use Rattle.lines.specs.declared.Line.{Line}
use Rattle.lines.specs.Line.{line_at, line_count, lines_of}
use Rattle.lines.specs.Valid.{LinesOk}
use Rattle.steps.specs.declared.Step.{Step}
use Rattle.steps.specs.Step.{max_weight, step_of, step_numbered_lem, steps_of, named}
use Rattle.steps.specs.Laws.{numbered_weight}
use Rattle.steps.proofs.Mirror.{line_step_known}
use Rattle.theory_walks.specs.Row.{In}
use Rattle.theory_walks.specs.Size.{WithinWeights}

-- the steps with the numbers 0 to k - 1
unfoldable pub steps_before : List ℤ → ℕ → List Step
steps_before L zero = []
steps_before L (suc k) = steps_before L k ++ named (step_numbered_lem L k)

pub before_zero : (L : List ℤ) → steps_before L 0 ≡ []
unfolding steps_before
before_zero L = refl

pub before_more : (L : List ℤ) (k : ℕ) → steps_before L (k + 1) ≡ steps_before L k ++ named (step_numbered_lem L k)
unfolding steps_before
before_more L k = ap (steps_before L) (add-one k)

-- ---- all of them
module _ (L : List ℤ) where
  numbered_at : (k side : ℕ) → k < line_count L → side < 2 → step_numbered_lem L (2 * k + side) ≡ step_of (line_at L k) side
  unfolding step_numbered_lem
  numbered_at k side h l =
      let a : (2 * k + side) / 2 ≡ k = omega arith in
      let b : (2 * k + side) % 2 ≡ side = omega arith in
      rw (a, b, lt-ltb k (line_count L) h)

  steps_append : (ls ms : List Line) → steps_of (ls ++ ms) ≡ steps_of ls ++ steps_of ms
  unfolding steps_of
  steps_append [] ms = refl
  steps_append (l ∷ ls) ms =
      let a = named (step_of l 0) in
      let b = named (step_of l 1) in
      ap (λ (x : List Step). a ++ (b ++ x)) (steps_append ls ms)
      ∙ ap (λ (x : List Step). a ++ x) (sym (append_assoc b (steps_of ls) (steps_of ms)))
      ∙ sym (append_assoc a (b ++ steps_of ls) (steps_of ms))

  steps_one : (l : Line) → steps_of (l ∷ []) ≡ named (step_of l 0) ++ named (step_of l 1)
  unfolding steps_of
  steps_one l = ap (λ (x : List Step). named (step_of l 0) ++ x) (append-nil (named (step_of l 1)))

  one_more : (c : ℕ) (f : ℕ → Line) → tabulate (c + 1) f ≡ tabulate c f ++ f c ∷ []
  one_more c f = tabulate_add c 1 f ∙ ap (λ (k : ℕ). tabulate c f ++ f k ∷ []) z
    where
      z : c + 0 ≡ c
      z = omega arith

  before_lines : (c : ℕ) → c ≤ line_count L → steps_before L (2 * c) ≡ steps_of (tabulate c (line_at L))
  unfolding steps_before steps_of
  before_lines zero h = refl
  before_lines (suc c) h =
      let a = named (step_of (line_at L c) 0) in
      let b = named (step_of (line_at L c) 1) in
      ap (steps_before L) twice
      ∙ before_more L (2 * c + 1)
      ∙ ap₂ (λ (x y : List Step). x ++ y) (before_more L (2 * c)) (ap named (numbered_at c 1 h (omega arith)))
      ∙ ap (λ (x : List Step). (x ++ named (step_numbered_lem L (2 * c))) ++ b) (before_lines c (omega arith))
      ∙ ap (λ (x : Option Step). (steps_of (tabulate c (line_at L)) ++ named x) ++ b) (ap (step_numbered_lem L) even ∙ numbered_at c 0 h (omega arith))
      ∙ append_assoc (steps_of (tabulate c (line_at L))) a b
      ∙ ap (λ (x : List Step). steps_of (tabulate c (line_at L)) ++ x) (sym (steps_one (line_at L c)))
      ∙ sym (steps_append (tabulate c (line_at L)) (line_at L c ∷ []))
      ∙ ap steps_of (sym (one_more c (line_at L)))
      ∙ ap (λ (k : ℕ). steps_of (tabulate k (line_at L))) (add-one c)
    where
      twice : 2 * suc c ≡ 2 * c + 1 + 1
      twice = omega arith

      even : 2 * c ≡ 2 * c + 0
      even = omega arith

  pub before_all : steps_before L (2 * line_count L) ≡ steps_of (lines_of L)
  before_all = before_lines (line_count L) (omega arith)

-- ---- of lines that obey the rules
pub record StepOk (n : ℕ) (t : Step) : Type 0 where
  pub from_lt : t.from < 2 * n
  pub to_lt : t.to < 2 * n
  pub small : Within max_weight t.weight

module _ (n : ℕ) (L : List ℤ) (ok : LinesOk n L) where
  pub numbered_ok : (k : ℕ) (t : Step) → step_numbered_lem L k ≡ Some t → StepOk n t
  unfolding step_numbered_lem
  numbered_ok k t e = go (ltb (k / 2) (line_count L)) refl e
    where
      go : (b : Bool) → ltb (k / 2) (line_count L) ≡ b → cond b (step_of (line_at L (k / 2)) (k % 2)) None ≡ Some t → StepOk n t
      go true i q =
          let s = line_step_known n (line_at L (k / 2)) (k % 2) t (ok (k / 2) (ltb-true _ _ i)) (omega arith) q in
          record { from_lt = s.from_lt; to_lt = s.to_lt; small = numbered_weight n L k t (ok (k / 2)) e }
      go false i q = never (cc)

  in_either : (t : Step) (xs : List Step) (s : Option Step) → In t (xs ++ named s) → In t xs ⊎ (s ≡ Some t)
  in_either t [] (Some u) (inl e) = inr (ap Some (sym e))
  in_either t [] (Some u) (inr i) = absurd i
  in_either t [] None i = absurd i
  in_either t (x ∷ xs) s (inl e) = inl (inl e)
  in_either t (x ∷ xs) s (inr i) = ⊎_elim (λ j. inl (inr j)) (λ e. inr e) (in_either t xs s i)

  pub before_small : (k : ℕ) → WithinWeights max_weight (steps_before L k)
  unfolding steps_before
  before_small zero t i = absurd i
  before_small (suc k) t i = ⊎_elim (λ j. before_small k t j) (λ e. (numbered_ok k t e).small) (in_either t (steps_before L k) (step_numbered_lem L k) i)
