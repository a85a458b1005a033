-- The verdict as a computed definition: no false line, no closed walk of negative sum, and no point whose halves sum below 0.
use Rattle.std.specs.Prelude.{◌≡◌, refl, Bool, true, false, not, cond, ◌&&◌, ◌||◌, List, [], ◌∷◌, ℕ, zero, suc, ◌+◌, ◌*◌, ◌<◌, ℤ, pos, ◌+ℤ◌}
use Rattle.std.proofs.Common.{sym, ap, subst, ◌∙◌, arith}
use Rattle.integers.specs.Integer.{◌⋖◌, half}
use Rattle.integers.specs.Laws.{never}
use Rattle.integers.specs.Table.{all_below}
use Rattle.lines.specs.declared.Line.{Line}
use Rattle.lines.specs.Line.{is_false_lem}
use Rattle.steps.specs.Point.{opposite}
use Rattle.steps.specs.Step.{steps_of}
use Rattle.theory_walks.specs.Distance.{Distance, some, ◌⊞◌, half_d}
use Rattle.theory_walks.specs.Row.{best}
use Rattle.theory_walks.specs.Negative.{not_below0, no_negative}
use Rattle.theory_walks.specs.Graph.{At}

-- ---- false lines
unfoldable pub has_false : List Line → Bool
has_false [] = false
has_false (l ∷ ls) = is_false_lem l || has_false ls

-- the number of the lowest false line, if the first line has number k
unfoldable pub first_false_lem : ℕ → List Line → ℕ
first_false_lem k [] = k
first_false_lem k (l ∷ ls) = elim (is_false_lem l) [ true ↦ k | false ↦ first_false_lem (suc k) ls ]

pub no_false : (ls : List Line) → has_false ls ≡ false → (k : ℕ) (l : Line) → At ls k l → is_false_lem l ≡ true → ⊥
unfolding has_false
no_false [] e k l a f = absurd a
no_false (x ∷ ls) e k l a f = go (is_false_lem x) refl e k a (λ r j b. no_false ls r j l b f)
  where
    go : (b : Bool) → is_false_lem x ≡ b → (b || has_false ls) ≡ false → (k : ℕ) → At (x ∷ ls) k l → (has_false ls ≡ false → (j : ℕ) → At ls j l → ⊥) → ⊥
    go true q r k a later = never (cc)
    go false q r zero a later = let z : true ≡ false = sym f ∙ ap is_false_lem (sym a) ∙ q in never (cc)
    go false q r (suc k) a later = later r k a

pub record LowestFalse (ls : List Line) (k : ℕ) : Type 0 where
  pub line : Line
  pub at : At ls k line
  pub false_line : is_false_lem line ≡ true
  pub before : (j : ℕ) (l : Line) → j < k → At ls j l → is_false_lem l ≡ false

lowest_from : (ls : List Line) (i : ℕ) → has_false ls ≡ true → (k : ℕ) × (first_false_lem i ls ≡ i + k) × LowestFalse ls k
unfolding has_false first_false_lem
lowest_from [] i e = never (cc)
lowest_from (x ∷ ls) i e = go (is_false_lem x) refl e (lowest_from ls (suc i))
  where
    go : (b : Bool) → is_false_lem x ≡ b → (b || has_false ls) ≡ true → (has_false ls ≡ true → (k : ℕ) × (first_false_lem (suc i) ls ≡ suc i + k) × LowestFalse ls k)
        → (k : ℕ) × ((elim b [ true ↦ i | false ↦ first_false_lem (suc i) ls ]) ≡ i + k) × LowestFalse (x ∷ ls) k
    go true q r later = (0, omega arith, record { line = x; at = refl; false_line = q; before = λ j l h a. absurd (omega arith) })
    go false q r later =
        let s = later r in
        let b = s.2 in
        (suc s.0, omega (arith, s.1), record { line = b.line; at = b.at; false_line = b.false_line; before = earlier q s.0 b.before })
      where
        earlier : is_false_lem x ≡ false → (k : ℕ) → ((j : ℕ) (l : Line) → j < k → At ls j l → is_false_lem l ≡ false) → (j : ℕ) (l : Line) → j < suc k → At (x ∷ ls) j l → is_false_lem l ≡ false
        earlier q k f zero l h a = ap is_false_lem (sym a) ∙ q
        earlier q k f (suc j) l h a = f j l (omega arith) a

pub lowest_false : (ls : List Line) → has_false ls ≡ true → LowestFalse ls (first_false_lem 0 ls)
lowest_false ls e = let r = lowest_from ls 0 e in let q : r.0 ≡ first_false_lem 0 ls = omega (arith, r.1) in subst (LowestFalse ls) q r.2

-- ---- the table of distances, and its halves
abbrev pub distances : ℕ → List Line → ℕ → ℕ → Distance
distances n ls = best (steps_of ls) (2 * n)

-- a point's greatest value is not below its least
abbrev pub halves_ok_lem : (ℕ → ℕ → Distance) → ℕ → Bool
halves_ok_lem D u = not_below0 (half_d (D u (opposite u)) ⊞ half_d (D (opposite u) u))

unfoldable pub consistent_halves : ℕ → List Line → Bool
consistent_halves n ls = all_below (2 * n) (halves_ok_lem (distances n ls))

-- two walks between a point and its opposite whose halves sum below 0
pub record BadHalves (D : ℕ → ℕ → Distance) (N : ℕ) : Type 0 where
  pub point : ℕ
  pub low : point < N
  pub there : ℤ
  pub back : ℤ
  pub there_is : D point (opposite point) ≡ some there
  pub back_is : D (opposite point) point ≡ some back
  pub negative : half there +ℤ half back ⋖ pos 0

-- ---- the verdict
unfoldable pub verdict_of : ℕ → List Line → Bool
verdict_of n ls = not (has_false ls) && (no_negative (steps_of ls) (2 * n) && consistent_halves n ls)

-- kind 3 if there is a false line, else 1 if a closed walk of negative sum exists, else 2
unfoldable pub due_kind : ℕ → List Line → ℕ
due_kind n ls = cond (has_false ls) 3 (cond (no_negative (steps_of ls) (2 * n)) 2 1)
