-- Before any line: the start table, 0 from each point to itself and no walk elsewhere, is the table of no steps.
use Rattle.std.specs.Prelude.{◌≡◌, refl, List, [], ◌∷◌, ℕ, zero, suc, ◌+◌, ◌*◌, ◌/◌, ◌%◌, ◌<◌, ◌≤◌, ℤ, pos, length}
use Rattle.std.proofs.Common.{sym, ap, ◌∙◌, mod-lt, div-add-mod', div-lt_iff_lt-mul, mul-le-mul_right, not-suc-le-zero, le_of_suc-le-suc, arith, ext_get_or}
use Rattle.std.proofs.Math.Decide.{dec_lt}
use Rattle.std.proofs.lemmas.List.{length-map}
use Rattle.lines.specs.Limits.{max_variables}
use Rattle.lines.specs.Line.{number}
use Rattle.steps.specs.declared.Step.{Step}
use Rattle.steps.specs.Walk.{total}
use Rattle.theory_walks.specs.Distance.{Distance, none, some, ◌⊑◌, le_none, ⊑_of_eq}
use Rattle.theory_walks.specs.Row.{at, relax_row, best}
use Rattle.theory_walks.specs.Reach.{Steps, rounds_fixed}
use Rattle.theory_walks.specs.Least.{NoneNegative, best_attained}
use Rattle.theory_walks.specs.Wide.{wide}
use Rattle.theory_walks.specs.AllPairs.{start_table_lem, table_at, start_table_length, table_best}
use Rattle.theory_bounds.specs.Tight.{Table}
use Rattle.decide_rows.specs.Stored.{stored, stored_row}
use Rattle.session_step.specs.Written.{written, written_length, written_at, stored_written}
use Rattle.session_step.specs.Meaning.{TableFor}

-- ---- a list with the entries of a table is that table, written
pub positive : (N i : ℕ) → i < N * N → 0 < N
positive N i h = go (dec_lt 0 N)
  where
    go : Dec (0 < N) → 0 < N
    go (yes p) = p
    go (no p) =
        let e : N ≤ 0 = omega (arith, p) in
        absurd (omega (arith, h, mul-le-mul_right N e))

pub written_unique : (D : Table) (N : ℕ) (t : List ℤ) → length t ≡ N * N → ((u v : ℕ) → u < N → v < N → number t (v * N + u) ≡ stored (D u v)) → t ≡ written D N N
written_unique D N t l f = ext_get_or (pos 0) t (written D N N) (l ∙ sym (written_length D N N)) (λ i h. each i (omega (arith, l, h)))
  where
    each : (i : ℕ) → i < N * N → number t i ≡ number (written D N N) i
    each i h =
        let p = positive N i h in
        let hu : i % N < N = mod-lt i p in
        let hv : i / N < N = (div-lt_iff_lt-mul p).1 h in
        let e : i / N * N + i % N ≡ i = div-add-mod' i N in
        ap (number t) (sym e) ∙ f (i % N) (i / N) hu hv ∙ sym (written_at D N N (i % N) (i / N) hu hv) ∙ ap (number (written D N N)) e

number_stored : (row : List Distance) (i : ℕ) → i < length row → number (stored_row row) i ≡ stored (at row i)
number_stored [] i h = absurd (not-suc-le-zero h)
number_stored (d ∷ row) zero h = refl
number_stored (d ∷ row) (suc i) h = number_stored row i (le_of_suc-le-suc h)

-- ---- no steps
same_table : (N : ℕ) → table_at [] N N ≡ start_table_lem N N
unfolding table_at wide relax_row
same_table N = rounds_fixed (wide N []) (start_table_lem N N) refl N

start_at : (N u v : ℕ) → u < N → v < N → number (stored_row (start_table_lem N N)) (v * N + u) ≡ stored (best [] N u v)
start_at N u v hu hv =
    let i : v * N + u < length (start_table_lem N N) = omega (arith, start_table_length N N, hu, mul-le-mul_right N hv) in
    number_stored (start_table_lem N N) (v * N + u) i
    ∙ ap (λ (x : List Distance). stored (at x (v * N + u))) (sym (same_table N))
    ∙ ap stored (table_best [] N (λ t m. absurd m) u v hu hv)

none_negative : (N : ℕ) → NoneNegative [] N
none_negative N u h = go (best [] N u u) refl
  where
    none_in : (ss : List Step) → Steps [] ss → pos 0 ≡ total ss
    none_in [] a = refl
    none_in (s ∷ ss) a = absurd a.0

    go : (d : Distance) → best [] N u u ≡ d → some (pos 0) ⊑ d
    go none e = le_none _
    go (some z) e = let r = best_attained [] N u u z e in ⊑_of_eq (ap some (none_in r.steps r.walk.steps ∙ r.sum))

pub start_table : (n : ℕ) → n ≤ max_variables → TableFor n [] (stored_row (start_table_lem (2 * n) (2 * n)))
start_table n few =
    let N = 2 * n in
    record {
      few = few;
      within = λ t i. absurd i;
      small = λ t i. absurd i;
      nonneg = none_negative N;
      is =
          written_unique (best [] N) N (stored_row (start_table_lem N N)) (length-map (start_table_lem N N) stored ∙ start_table_length N N) (start_at N)
          ∙ sym (stored_written [] N N);
    }
