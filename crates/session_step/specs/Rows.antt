-- The code's loop over the rows: each row, lowered in the columns that were collected, is that of the table with the step.
use Rattle.std.specs.Prelude.{◌≡◌, refl, Bool, true, false, cond, ◌||◌, ℕ, ◌+◌, ◌*◌, ◌<◌, ◌≤◌, ℤ, pos, get_or, take, drop}
use Rattle.std.proofs.Common.{sym, ◌∙◌, mul-le-mul_right, arith, length-take, length-drop, drop_of_length-le, get_or-take, get_or-drop, take_all, take_at, drop_at, drop-drop}
use Rattle.std.proofs.Math.Path.{ap, ap₂}
use mathlib.Core.List.{List, ◌++◌, append_assoc, append-nil}
use Rattle.std.proofs.Math.ListN.{length}
use Rattle.std.proofs.lemmas.List.{length-map}
use Rattle.integers.specs.Sequence.{tabulate, tabulate_get_d, tabulate_cong}
use Rattle.lines.specs.Line.{number}
use Rattle.steps.specs.declared.Step.{Step}
use Rattle.theory_walks.specs.Distance.{Distance, min_d, ◌⊕◌, ◌⊞◌}
use Rattle.theory_bounds.specs.Tight.{Table}
use Rattle.decide_rows.specs.Stored.{stored}
use Rattle.decide_rows.specs.Read.{distance_of, Short, short_more, stored_of}
use Rattle.decide_rows.specs.Numbers.{StepOk}
use Rattle.decide_stored_table.specs.Sum.{max_tight}
use Rattle.decide_stored_table.specs.Table.{table_of}
use Rattle.theory_inserting.specs.Insert.{through}
use Rattle.theory_inserting.specs.Where.{is_at_most, start_as_near, end_as_near}
use Rattle.session_step.specs.Read.{small_of, small_table, SizedTable, small_back}
use Rattle.session_step.specs.Written.{written, written_row, written_more, written_length}
use Rattle.session_step.specs.Done.{inserted_in, step_after, along_small, along_back}
use Rattle.session_step.specs.Columns.{columns_of, sum_at, sums_of, failing_below, number_map}
use Rattle.session_step.specs.Lower.{lower_to, lower_all, ColumnsIn, StepRowReady, row_after, lower_all_law}

pub record RowsReady (n : ℕ) (s : Step) (t : List ℤ) (columns : List ℕ) (sums : List ℤ) : Type 0 where
  pub table : SizedTable n t
  pub step : StepOk n s
  pub columns_are : columns ≡ columns_of (small_table (2 * n) t) s (2 * n)
  pub sums_are : sums ≡ sums_of (small_table (2 * n) t) s (2 * n)

-- the loop, after the rows 0 to v - 1
pub record Rows (N : ℕ) (s : Step) (t₀ t : List ℤ) (v : ℕ) : Type 0 where
  pub count : v ≤ N
  pub is : t ≡ written (inserted_in N t₀ s) N v ++ drop (v * N) t₀

pub rows_none : (N : ℕ) (s : Step) (t₀ : List ℤ) → Rows N s t₀ t₀ 0
unfolding written
rows_none N s t₀ = let e : 0 ≡ 0 * N = omega arith in record { count = omega arith; is = ap (λ (j : ℕ). drop j t₀) e }

module _ {n : ℕ} {s : Step} {t₀ : List ℤ} {columns : List ℕ} {sums : List ℤ} (ready : RowsReady n s t₀ columns sums) {t : List ℤ} {v : ℕ}
    (r : Rows (2 * n) s t₀ t v) where
  abbrev N : ℕ
  N = 2 * n

  abbrev D : Table
  D = small_table N t₀

  abbrev G : Table
  G = inserted_in N t₀ s

  -- where row v begins
  abbrev at : ℕ
  at = v * N

  front_length : length (written G N v) ≡ at
  front_length = written_length G N v

  row_fits : v < N → at + N ≤ length t₀
  row_fits h = omega (arith, ready.table.size, mul-le-mul_right N h)

  before : take at t ≡ written G N v
  before = ap (take at) r.is ∙ take_at (written G N v) (drop at t₀) at front_length

  rest : drop at t ≡ drop at t₀
  rest = ap (drop at) r.is ∙ drop_at (written G N v) (drop at t₀) at front_length

  -- row v, as it was
  module _ (h : v < N) (k : ℕ) (ek : k ≡ N) where
    abbrev row : List ℤ
    row = take k (drop at t)

    row_length : length (take k (drop at t)) ≡ N
    row_length = simp (length-take, rest, length-drop) (omega (arith, row_fits h))

    row_at_law : (u : ℕ) → u < N → number (take k (drop at t)) u ≡ number t₀ (v * N + u)
    row_at_law u b =
        get_or-take k (drop at t) u (pos 0) (omega arith)
        ∙ ap (λ (l : List ℤ). number l u) rest
        ∙ get_or-drop at t₀ u (pos 0)

    found_in_row : ColumnsIn (take k (drop at t)) (columns_of D s N) (sums_of D s N)
    found_in_row =
        record {
          long = omega (arith, length-map (columns_of D s N) (sum_at D s));
          inside = λ i b. omega (arith, row_length, failing_below (end_as_near D s) N i b);
          short = each;
        }
      where
        each : (i : ℕ) → i < length (columns_of D s N) → Short max_tight (distance_of (number (sums_of D s N) i))
        each i b =
            let u = get_or (columns_of D s N) i 0 in
            rw (number_map (sum_at D s) (columns_of D s N) i b, along_back n s t₀ ready.step u) (short_more (omega arith) (along_small n s t₀ ready.step u))

    pub row_ready : StepRowReady (take k (drop at t)) columns sums s
    row_ready =
        record {
          from_lt = omega (arith, row_length, ready.step.from_lt);
          to_lt = omega (arith, row_length, ready.step.to_lt);
          small = ready.step.small;
          columns_ok = rw (ready.columns_are, ready.sums_are) found_in_row;
        }

    -- from the step's end on to v, as it is read
    abbrev onward : Distance
    onward = small_of (number row s.to)

    -- the row is tested on its own entries, which are those of the table as it was; where it is lowered, the columns that were collected are those in
    -- which G has the lowered entry (`lower_all_law`)
    row_is : row_after (take k (drop at t)) columns sums s ≡ written_row G N v
    row_is =
        ap₂ (λ (us : List ℕ) (xs : List ℤ). row_after row us xs s) ready.columns_are ready.sums_are
        ∙ ap₂ (λ (a b : Distance). cond (is_at_most a (b ⊕ s.weight)) row (lower_all (stored onward) (columns_of D s N) (sums_of D s N) row))
        (ap small_of (row_at_law s.from ready.step.from_lt)) (ap small_of (row_at_law s.to ready.step.to_lt))
        ∙ go (start_as_near D s v) refl
      where
        -- the entry of u, as it stands and lowered
        own : ℕ → Distance
        own u = table_of N t₀ u v

        lower : ℕ → Distance
        lower u = min_d (table_of N t₀ u v) (through D s u v)

        own_is : (u : ℕ) → u < N → stored (own u) ≡ number row u
        own_is u b = stored_of (number t₀ (v * N + u)) ∙ sym (row_at_law u b)

        lower_at : (u : ℕ) → u < N → stored (lower u) ≡ lower_to (number row u) (sum_at D s u) (stored onward)
        lower_at u b =
            let e : distance_of (stored onward) ≡ D s.to v = small_back (number row s.to) ∙ ap small_of (row_at_law s.to ready.step.to_lt) in
            ap (λ (d : Distance). stored (min_d (own u) (d ⊞ D s.to v))) (sym (along_back n s t₀ ready.step u))
            ∙ ap₂ (λ (a : ℤ) (d : Distance). stored (min_d (distance_of a) (distance_of (sum_at D s u) ⊞ d))) (sym (row_at_law u b)) (sym e)

        go : (b : Bool) → start_as_near D s v ≡ b → cond b row (lower_all (stored onward) (columns_of D s N) (sums_of D s N) row) ≡ written_row G N v
        go true e =
            sym (tabulate_get_d N row (pos 0) (omega (arith, row_length)) ∙ take_all N row (omega (arith, row_length)))
            ∙ tabulate_cong N _ _ (λ u b. sym (own_is u b) ∙ sym (ap (λ (c : Bool). stored (cond (c || end_as_near D s u) (own u) (lower u))) e))
        go false e =
            ap (λ (m : ℕ). lower_all (stored onward) (columns_of D s m) (sums_of D s m) row) (sym row_length)
            ∙ lower_all_law (stored onward) (sum_at D s) (end_as_near D s) row (λ u. stored (G u v))
            (λ u b c. ap₂ (λ (x y : Bool). stored (cond (x || y) (own u) (lower u))) e c ∙ own_is u (omega (arith, row_length, b)))
            (λ u b c. ap₂ (λ (x y : Bool). stored (cond (x || y) (own u) (lower u))) e c ∙ lower_at u (omega (arith, row_length, b)))
            ∙ ap (λ (m : ℕ). tabulate m (λ u. stored (G u v))) row_length

    pub rows_more : (part : List ℤ) → part ≡ row_after (take k (drop at t)) columns sums s
        → Rows N s t₀ (take at t ++ (part ++ drop k (drop at t))) (v + 1)
    rows_more part e =
        let behind : drop k (drop at t) ≡ drop (at + N) t₀ = ap (drop k) rest ∙ ap (λ (m : ℕ). drop m (drop at t₀)) ek ∙ drop-drop N at t₀ in
        let next : at + N ≡ (v + 1) * N = omega arith in
        record {
          count = omega arith;
          is =
              ap₂ (λ (x y : List ℤ). x ++ y) before (ap₂ (λ (x y : List ℤ). x ++ y) (e ∙ row_is) behind)
              ∙ sym (append_assoc (written G N v) (written_row G N v) (drop (at + N) t₀))
              ∙ ap (λ (x : List ℤ). x ++ drop (at + N) t₀) (sym (written_more G N v))
              ∙ ap (λ (j : ℕ). written G N (v + 1) ++ drop j t₀) next;
        }

  pub rows_all : v ≡ N → t ≡ step_after (2 * n) s t₀
  unfolding step_after
  rows_all e =
      let d : length t₀ ≤ at = omega (arith, ready.table.size, ap (λ (k : ℕ). k * N) e) in
      r.is
      ∙ ap₂ (λ (k : ℕ) (x : List ℤ). written G N k ++ x) e (drop_of_length-le t₀ d)
      ∙ append-nil (written G N N)
