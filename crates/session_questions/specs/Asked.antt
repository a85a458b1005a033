-- A line asked of a table, as a computed definition, and what the code reads off a table that may hold any numbers: halves and tightened distances.
use Rattle.steps.specs.declared.Step.{Step}
use Rattle.std.specs.Prelude.{◌≡◌, refl, Bool, true, false, not, ◌&&◌, List, [], ℕ, ◌+◌, ◌*◌, ◌/◌, ◌%◌, ◌<◌, ℤ, None, Option, Some}
use Rattle.std.proofs.Math.Path.{ap}
use Rattle.std.proofs.Common.{ap₂, subst, ◌∙◌}
use native.Mathlib.Omega.{arith}
use borrow.Author.Tests.{lt-ltb}
use Rattle.integers.specs.Integer.{half}
use Rattle.lines.specs.declared.Line.{Line}
use Rattle.lines.specs.Line.{line_count, line_at, line_numbers_lem, number, is_false_lem}
use Rattle.lines.specs.LineNumbers.{length_numbers, line_last}
use Rattle.lines.specs.Valid.{LineWorks, LinesOk}
use Rattle.steps.specs.Point.{opposite}
use Rattle.steps.specs.Step.{step_of, step_numbered_lem}
use Rattle.theory_walks.specs.Distance.{Distance, min_d, ◌⊞◌, half_d}
use Rattle.theory_bounds.specs.Tight.{Table, halves, tight}
use Rattle.decide_rows.specs.Stored.{stored}
use Rattle.decide_rows.specs.Read.{no_walk_lem, distance_of, Short, max_distance, short_more}
use Rattle.decide_stored_table.specs.Sum.{read_back, half_none, half_some, half_short}
use Rattle.session_step.specs.Read.{small_table, small_short, small_back}
use Rattle.session_step.specs.Done.{at_most}

-- ---- definitions
-- whether a step that may be there is no shorter than the tightened distance of its ends
abbrev pub named_implied : Table → Option Step → Bool
named_implied D (Some s) = at_most (tight D s.from s.to) s.weight
named_implied D None = true

-- no false line, and both steps are implied
abbrev pub line_implied : Table → Line → Bool
line_implied D l = not (is_false_lem l) && (named_implied D (step_of l 0) && named_implied D (step_of l 1))

-- ---- halves and tightened distances of what is read
module _ (N : ℕ) (t : List ℤ) where
  abbrev D : Table
  D = small_table N t

  pub halves_short : (p : ℕ) → Short max_distance (halves (small_table N t) p)
  unfolding halves
  halves_short p = half_short _ max_distance (small_short (number t (opposite p * N + p)))

  pub half_back : (p : ℕ) (z : ℤ) → z ≡ stored (halves (small_table N t) p) → distance_of z ≡ halves (small_table N t) p
  half_back p z e = ap distance_of e ∙ read_back _ (short_more (omega arith) (halves_short p))

  pub half_ready : (p : ℕ) (z : ℤ) → z ≡ stored (halves (small_table N t) p) → Short max_distance (distance_of z)
  half_ready p z e = rw (half_back p z e) (halves_short p)

  entry_back : (p q : ℕ) (z : ℤ) → z ≡ stored (small_table N t p q) → distance_of z ≡ small_table N t p q
  entry_back p q z e = ap distance_of e ∙ small_back (number t (q * N + p))

  -- the code's two ways to a half
  pub half_none_at : (p : ℕ) (z : ℤ) → z ≡ stored (small_table N t p (opposite p)) → z ≡ no_walk_lem → no_walk_lem ≡ stored (halves (small_table N t) p)
  unfolding halves
  half_none_at p z e f = half_none z f ∙ ap (λ (d : Distance). stored (half_d d)) (entry_back p (opposite p) z e)

  pub half_some_at : (p : ℕ) (z : ℤ) → z ≡ stored (small_table N t p (opposite p)) → (z ≡ no_walk_lem → ⊥) → half z ≡ stored (halves (small_table N t) p)
  unfolding halves
  half_some_at p z e f = half_some z f ∙ ap (λ (d : Distance). stored (half_d d)) (entry_back p (opposite p) z e)

  -- a distance and two halves
  pub tight_read : (p q : ℕ) (d x y : ℤ) → d ≡ stored (small_table N t p q) → x ≡ stored (halves (small_table N t) p) → y ≡ stored (halves (small_table N t) (opposite q))
      → stored (min_d (distance_of d) (distance_of x ⊞ distance_of y)) ≡ stored (tight (small_table N t) p q)
  unfolding tight
  tight_read p q d x y ed ex ey =
      ap stored (ap₂ min_d (entry_back p q d ed) (ap₂ (λ (a b : Distance). a ⊞ b) (half_back p x ex) (half_back (opposite q) y ey)))

-- ---- a line alone as a list
module _ (l : Line) where
  one : line_count (line_numbers_lem l) ≡ 1
  one = omega (arith, length_numbers l)

  only : line_at (line_numbers_lem l) 0 ≡ l
  only = line_last [] l refl

  pub line_alone : (n : ℕ) → LineWorks n l → LinesOk n (line_numbers_lem l)
  line_alone n ok k h =
      let z : 0 ≡ k = omega (arith, one) in
      subst (λ (j : ℕ). LineWorks n (line_at (line_numbers_lem l) j)) z (rw only ok)

  pub step_alone : (side : ℕ) → side < 2 → step_numbered_lem (line_numbers_lem l) side ≡ step_of l side
  unfolding step_numbered_lem
  step_alone side h =
      let a : side / 2 ≡ 0 = omega arith in
      let b : side % 2 ≡ side = omega arith in
      let c : 0 < line_count (line_numbers_lem l) = omega (arith, one) in
      rw (a, b, lt-ltb 0 (line_count (line_numbers_lem l)) c, only)

-- ---- the code's ways
module _ (T : Table) (l : Line) where
  pub by_first : is_false_lem l ≡ false → named_implied T (step_of l 0) ≡ false → false ≡ line_implied T l
  by_first e f = rw (e, f) refl

  pub by_second : is_false_lem l ≡ false → named_implied T (step_of l 0) ≡ true → (r : Bool) → r ≡ named_implied T (step_of l 1) → r ≡ line_implied T l
  by_second e f r g = rw (e, f) g
