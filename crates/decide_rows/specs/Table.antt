-- The table of distances behind the rows in the work area: row v of it holds the distances to the point v.
use Rattle.std.specs.Prelude.{◌≡◌, List, [], ◌++◌, ℤ, pos}
use Rattle.std.proofs.Common.{sym, ◌∙◌, length-append}
use Rattle.std.proofs.Math.Path.{ap}
use Prim.Native.Nat.{ℕ, zero, suc, ◌+◌, ◌*◌, ◌<◌, ◌≤◌}
use Rattle.std.proofs.Math.Decide.{dec_lt}
use Rattle.std.proofs.Math.Nat.{mul-le-mul_right}
use native.Mathlib.Omega.{arith}
use Rattle.std.proofs.Math.ListN.{length, get_or-append}
use Rattle.std.proofs.Math.Seq.{get_or-append-add}
use Rattle.integers.specs.Sequence.{tabulate, length_tabulate, get_d_tabulate}
use Rattle.lines.specs.Limits.{max_variables}
use Rattle.lines.specs.Line.{number, lines_of}
use Rattle.lines.specs.Valid.{LinesOk}
use Rattle.steps.specs.declared.Step.{Step}
use Rattle.steps.specs.Step.{steps_of}
use Rattle.theory_walks.specs.Row.{best}
use Rattle.decide_rows.specs.Stored.{stored}
use Rattle.decide_rows.specs.Read.{Short, max_distance}
use Rattle.decide_rows.specs.Rows.{rows_short}

-- the stored distances to the point v
abbrev pub best_row : List Step → ℕ → ℕ → List ℤ
best_row E m v = tabulate m (λ u. stored (best E m u v))

-- those to the points 0 to k - 1, one behind the other
unfoldable pub stored_table : List Step → ℕ → ℕ → List ℤ
stored_table E m zero = []
stored_table E m (suc k) = stored_table E m k ++ best_row E m k

-- where the table begins: behind the rows 0 to m of a source
abbrev pub table_start : ℕ → ℕ
table_start m = (m + 1) * m

pub record TableReady (n : ℕ) (L w : List ℤ) : Type 0 where
  pub few : n ≤ max_variables
  pub valid : LinesOk n L
  pub room : table_start (2 * n) + (2 * n) * (2 * n) ≤ length w

pub table_length : (E : List Step) (m k : ℕ) → length (stored_table E m k) ≡ k * m
unfolding stored_table
table_length E m zero = omega arith
table_length E m (suc k) = length-append (stored_table E m k) (best_row E m k) ∙ omega (arith, table_length E m k, length_tabulate m (λ u. stored (best E m u k)))

-- ---- what a reader of the table uses: the entry of a source and a point, and that it is small
module _ (E : List Step) (m : ℕ) where
  before : (k u v : ℕ) → u < m → v < k → number (stored_table E m k) (v * m + u) ≡ stored (best E m u v)
  unfolding stored_table
  before zero u v hu hv = absurd (omega arith)
  before (suc k) u v hu hv = go (dec_lt v k) (λ h. before k u v hu h)
    where
      go : Dec (v < k) → (v < k → number (stored_table E m k) (v * m + u) ≡ stored (best E m u v)) → number (stored_table E m k ++ best_row E m k) (v * m + u) ≡ stored (best E m u v)
      go (yes h) earlier =
          let i : v * m + u < length (stored_table E m k) = omega (arith, table_length E m k, mul-le-mul_right m h) in
          get_or-append (stored_table E m k) (best_row E m k) (pos 0) (v * m + u) i ∙ earlier h
      go (no h) earlier =
          let e : v ≡ k = omega arith in
          let i : v * m + u ≡ length (stored_table E m k) + u = ap (λ (j : ℕ). j * m + u) e ∙ ap (λ (j : ℕ). j + u) (sym (table_length E m k)) in
          ap (number (stored_table E m k ++ best_row E m k)) i
          ∙ get_or-append-add (stored_table E m k) (best_row E m k) u (pos 0)
          ∙ get_d_tabulate m u (λ j. stored (best E m j k)) (pos 0) hu
          ∙ ap (λ (j : ℕ). stored (best E m u j)) (sym e)

  pub stored_at : (u v : ℕ) → u < m → v < m → number (stored_table E m m) (v * m + u) ≡ stored (best E m u v)
  stored_at u v hu hv = before m u v hu hv

pub best_short : (n : ℕ) (L : List ℤ) → n ≤ max_variables → LinesOk n L → (u v : ℕ) → Short max_distance (best (steps_of (lines_of L)) (2 * n) u v)
unfolding best
best_short n L few ok u v = rows_short n L few ok u (2 * n) (omega arith) v
