-- The rows of all sources side by side: a table of N * N places, whose place v * N + u holds the entry of v in the row of the source u.
-- Its rounds are those of each row, and the last table holds all distances.
use Rattle.std.specs.Prelude.{◌≡◌, refl, ◌≢◌, false, List, [], ◌++◌, ℕ, zero, suc, ◌+◌, ◌-◌, ◌*◌, ◌/◌, ◌%◌, ◌≤◌, ◌<◌, length, replicate}
use Rattle.std.proofs.Math.Path.{sym}
use Rattle.std.proofs.Common.{◌∙◌, ap, ap₂, subst, mod-lt, div-add-mod', div-lt_iff_lt-mul, mul-le-mul_right, length-append, get_or-set_other, get_or-append-add}
use native.Mathlib.Omega.{arith}
use Rattle.std.proofs.Math.Decide.{dec_lt, ℕ_discrete}
use Rattle.std.proofs.lemmas.List.{get_or-replicate}
use Rattle.std.proofs.Math.ListN.{get_or-append, get_or-eq_default}
use Rattle.steps.specs.declared.Step.{Step}
use Rattle.theory_walks.specs.Distance.{Distance, none}
use Rattle.theory_walks.specs.Row.{WithinPoints, at, relax_row, start_row_lem, rounds, row_at, best, rounds_length, rounds_suc, rounds_add, start_length, row_zero, row_suc}
use Rattle.theory_walks.specs.Reach.{rounds_fixed}
use Rattle.theory_walks.specs.Negative.{not_below0, negative_stays}
use Rattle.theory_walks.specs.Wide.{wide, Column, column_relax}

-- the start rows of 0 to k - 1, one after the other
unfoldable pub start_table_lem : ℕ → ℕ → List Distance
start_table_lem N zero = []
start_table_lem N (suc k) = start_table_lem N k ++ start_row_lem N k

-- the table after k rounds
unfoldable pub table_at : List Step → ℕ → ℕ → List Distance
table_at E N k = rounds (wide N E) k (start_table_lem N N)

-- ---- lengths and single rounds
pub start_table_suc : (N k : ℕ) → start_table_lem N (suc k) ≡ start_table_lem N k ++ start_row_lem N k
unfolding start_table_lem
start_table_suc N k = refl

pub start_table_length : (N k : ℕ) → length (start_table_lem N k) ≡ k * N
unfolding start_table_lem
start_table_length N zero = omega arith
start_table_length N (suc k) =
    let e : k * N + N ≡ suc k * N = omega arith in
    length-append (start_table_lem N k) (start_row_lem N k) ∙ ap₂ (λ (x y : ℕ). x + y) (start_table_length N k) (start_length N k) ∙ e

pub table_zero : (E : List Step) (N : ℕ) → table_at E N 0 ≡ start_table_lem N N
unfolding table_at rounds
table_zero E N = refl

pub table_suc : (E : List Step) (N k : ℕ) → table_at E N (suc k) ≡ relax_row (wide N E) (table_at E N k)
unfolding table_at
table_suc E N k = rounds_suc (wide N E) k (start_table_lem N N)

pub table_length : (E : List Step) (N k : ℕ) → length (table_at E N k) ≡ N * N
unfolding table_at
table_length E N k = rounds_length (wide N E) k (start_table_lem N N) ∙ start_table_length N N

-- ---- the start table
-- place v * N + u is entry u of the start row of v
start_table_at : (N k u v : ℕ) → u < N → v < k → at (start_table_lem N k) (v * N + u) ≡ at (start_row_lem N v) u
unfolding start_table_lem
start_table_at N zero u v h l = absurd (omega arith)
start_table_at N (suc k) u v h l = go (dec_lt v k) (start_table_at N k u v h)
  where
    front : List Distance
    front = start_table_lem N k

    go : Dec (v < k) → (v < k → at front (v * N + u) ≡ at (start_row_lem N v) u) → at (front ++ start_row_lem N k) (v * N + u) ≡ at (start_row_lem N v) u
    go (yes m) f =
        let inside : v * N + u < length front = omega (arith, start_table_length N k, h, mul-le-mul_right N m) in
        get_or-append front (start_row_lem N k) none (v * N + u) inside ∙ f m
    go (no m) f =
        let e : v ≡ k = omega (arith, l, m) in
        rw (e, sym (start_table_length N k)) (get_or-append-add front (start_row_lem N k) u none)

-- a start row is none away from its source, so entry u of row v is entry v of row u
start_mirror : (N u v : ℕ) → u < N → v < N → at (start_row_lem N v) u ≡ at (start_row_lem N u) v
unfolding start_row_lem
start_mirror N u v h l = go (ℕ_discrete u v)
  where
    away : (u v : ℕ) → u < N → u ≢ v → at (start_row_lem N v) u ≡ none
    away u v h ne = get_or-set_other (replicate N none) v u _ none ne ∙ get_or-replicate N u none none h

    go : Dec (u ≡ v) → at (start_row_lem N v) u ≡ at (start_row_lem N u) v
    go (yes e) = rw e refl
    go (no ne) = away u v h ne ∙ sym (away v u l (λ e. ne (sym e)))

module _ (E : List Step) (N : ℕ) (within : WithinPoints N E) where
  -- ---- column u of the table is the row of the source u
  pub table_column : (u k : ℕ) → u < N → Column N u N (table_at E N k) (row_at E N u k)
  table_column u zero h = rw (table_zero E N, row_zero E N u) (record {
    wide_length = start_table_length N N;
    length_is = start_length N u;
    same = λ v l. start_table_at N N u v h l ∙ start_mirror N u v h l;
  })
  table_column u (suc k) h = rw (table_suc E N k, row_suc E N u k) (column_relax N u N E within h (table_column u k h))

  pub table_at_law : (k u v : ℕ) → u < N → v < N → at (table_at E N k) (v * N + u) ≡ at (row_at E N u k) v
  table_at_law k u v h l = (table_column u k h).same v l

  -- what holds of every entry of every row, and of none, holds of every entry of the table
  pub table_all : (P : Distance → Type 0) → P none → (k : ℕ) → ((u v : ℕ) → P (at (row_at E N u k) v)) → (q : ℕ) → P (at (table_at E N k) q)
  table_all P z k f q = go (dec_lt q (N * N))
    where
      positive : q < N * N → Dec (0 < N) → 0 < N
      positive h (yes p) = p
      positive h (no p) =
          let e : N ≤ 0 = omega (arith, p) in
          absurd (omega (arith, h, mul-le-mul_right N e))

      inside : q < N * N → P (at (table_at E N k) q)
      inside h =
          let p = positive h (dec_lt 0 N) in
          let u = q % N in
          let v = q / N in
          let e = table_at_law k u v (mod-lt q p) ((div-lt_iff_lt-mul p).1 h) in
          subst (λ (x : ℕ). P (at (table_at E N k) x)) (div-add-mod' q N) (rw e (f u v))

      go : Dec (q < N * N) → P (at (table_at E N k) q)
      go (yes h) = inside h
      go (no h) = rw (get_or-eq_default (table_at E N k) none {n = q} (omega (arith, h, table_length E N k))) z

  -- a table that a round doesn't change is the last one
  pub table_fixed : (k : ℕ) → k ≤ N → table_at E N (suc k) ≡ table_at E N k → table_at E N k ≡ table_at E N N
  unfolding table_at
  table_fixed k h e =
      let d : k + (N - k) ≡ N = omega arith in
      sym (ap (table_at E N) (sym d)
      ∙ rounds_add (wide N E) k (N - k) (start_table_lem N N)
      ∙ rounds_fixed (wide N E) (table_at E N k) (sym (table_suc E N k) ∙ e) (N - k))

  -- a negative entry on the diagonal stays negative
  pub table_negative : (k u : ℕ) → k ≤ N → u < N → not_below0 (at (table_at E N k) (u * N + u)) ≡ false → not_below0 (best E N u u) ≡ false
  table_negative k u h l t = negative_stays E N within u k l h (ap not_below0 (sym (table_at_law k u u l l)) ∙ t)

  -- the last table holds the distances
  pub table_best : (u v : ℕ) → u < N → v < N → at (table_at E N N) (v * N + u) ≡ best E N u v
  unfolding best
  table_best u v h l = table_at_law N u v h l
