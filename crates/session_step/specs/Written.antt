-- A table as it stands in N-as-N stored numbers, row by row: row v has the distances to v.
use Rattle.std.specs.Prelude.{◌≡◌, refl, List, [], ◌++◌, ℕ, zero, suc, ◌+◌, ◌*◌, ◌<◌, ◌≤◌, ℤ, pos, length}
use Rattle.std.proofs.Common.{sym, ap, ap₂, ◌∙◌, mul-le-mul_right, add-one, arith, length-append, get_or-append-add}
use Rattle.std.proofs.Math.Decide.{dec_lt}
use Rattle.std.proofs.Math.ListN.{get_or-append}
use Rattle.integers.specs.Sequence.{tabulate, length_tabulate, get_d_tabulate, tabulate_cong}
use Rattle.lines.specs.Line.{number}
use Rattle.steps.specs.declared.Step.{Step}
use Rattle.theory_walks.specs.Row.{best}
use Rattle.theory_bounds.specs.Tight.{Table}
use Rattle.decide_rows.specs.Stored.{stored}
use Rattle.decide_rows.specs.Table.{stored_table}
use Rattle.theory_bounds.specs.Agree.{Agree}

abbrev pub written_row : Table → ℕ → ℕ → List ℤ
written_row D N v = tabulate N (λ u. stored (D u v))

-- the rows 0 to k - 1
unfoldable pub written : Table → ℕ → ℕ → List ℤ
written D N zero = []
written D N (suc k) = written D N k ++ written_row D N k

pub written_more : (D : Table) (N k : ℕ) → written D N (k + 1) ≡ written D N k ++ written_row D N k
unfolding written
written_more D N k = ap (written D N) (add-one k)

pub written_length : (D : Table) (N k : ℕ) → length (written D N k) ≡ k * N
unfolding written
written_length D N zero = omega arith
written_length D N (suc k) = length-append (written D N k) (written_row D N k) ∙ omega (arith, written_length D N k, length_tabulate N (λ u. stored (D u k)))

-- the entry of u and v
pub written_at : (D : Table) (N k u v : ℕ) → u < N → v < k → number (written D N k) (v * N + u) ≡ stored (D u v)
unfolding written
written_at D N zero u v h l = absurd (omega arith)
written_at D N (suc k) u v h l = go (dec_lt v k) (λ m. written_at D N k u v h m)
  where
    front : List ℤ
    front = written D N k

    go : Dec (v < k) → (v < k → number front (v * N + u) ≡ stored (D u v)) → number (front ++ written_row D N k) (v * N + u) ≡ stored (D u v)
    go (yes m) earlier =
        let i : v * N + u < length front = omega (arith, written_length D N k, mul-le-mul_right N m) in
        get_or-append front (written_row D N k) (pos 0) (v * N + u) i ∙ earlier m
    go (no m) earlier =
        let e : v ≡ k = omega (arith, l, m) in
        let i : v * N + u ≡ length front + u = ap (λ (j : ℕ). j * N + u) e ∙ ap (λ (j : ℕ). j + u) (sym (written_length D N k)) in
        ap (number (front ++ written_row D N k)) i
        ∙ get_or-append-add front (written_row D N k) u (pos 0)
        ∙ get_d_tabulate N u (λ j. stored (D j k)) (pos 0) h
        ∙ ap (λ (j : ℕ). stored (D u j)) (sym e)

-- tables that agree below N are written alike
pub written_same : (N : ℕ) (D D' : Table) → Agree N D D' → (k : ℕ) → k ≤ N → written D N k ≡ written D' N k
unfolding written
written_same N D D' same zero h = refl
written_same N D D' same (suc k) h =
    ap₂ (λ (x y : List ℤ). x ++ y) (written_same N D D' same k (omega arith)) (tabulate_cong N _ _ (λ u l. ap stored (same u k l (omega arith))))

-- the distances of E as the table's maker leaves them
pub stored_written : (E : List Step) (N k : ℕ) → stored_table E N k ≡ written (best E N) N k
unfolding written stored_table
stored_written E N zero = refl
stored_written E N (suc k) = ap (λ (x : List ℤ). x ++ written_row (best E N) N k) (stored_written E N k)
