-- Two rows one behind the other, the old and the new, and what one round does to them. A row may have several columns.
use Rattle.std.specs.Prelude.{◌≡◌, ℕ, ◌+◌, ◌*◌, ◌<◌, ◌≤◌, ℤ, pos, ◌+ℤ◌, length, set, take, drop, None, Option, Some}
use Rattle.std.proofs.Common.{sym, ap, ◌∙◌, mul-le-mul_right, arith, length-append, length-drop, take-append-drop, drop_of_length-le, get_or-take, get_or-drop, length-take-le, take_at}
use Rattle.std.proofs.Math.Path.{ap₂}
use mathlib.Core.List.{List, [], ◌∷◌, ◌++◌, append-nil, foldl-append}
use Rattle.std.proofs.lemmas.List.{length-map, take-set-le, drop-set-add, set-get_or}
use Rattle.std.proofs.Math.Seq.{drop_at}
use Rattle.integers.specs.Integer.{◌⩽◌, ◌⋖◌, Within}
use Rattle.lines.specs.Limits.{max_variables}
use Rattle.lines.specs.Line.{number, line_count, lines_of}
use Rattle.lines.specs.Valid.{LinesOk}
use Rattle.steps.specs.declared.Step.{Step}
use Rattle.steps.specs.Step.{max_weight, step_numbered_lem, steps_of, named}
use Rattle.theory_walks.specs.Distance.{Distance, min_d, ◌⊕◌}
use Rattle.theory_walks.specs.Row.{at, relax_step, relax_from, relax_row, from_length}
use Rattle.theory_walks.specs.Size.{WithinWeights}
use Rattle.theory_walks.specs.Wide.{in_column, columns, wide, columns_more, columns_small, wide_none, wide_step, wide_append, wide_small}
use Rattle.decide_rows.specs.Stored.{stored, stored_row}
use Rattle.decide_rows.specs.Copy.{copied}
use Rattle.decide_rows.specs.Read.{no_walk_lem, distance_of, row_of, Short, AllShort, max_distance, of_none, of_some, stored_row_of, back_from, at_row_of, stored_set, store_less, store_more, store_none}
use Rattle.decide_rows.specs.Numbers.{steps_before, before_zero, before_more, before_all, before_small, numbered_ok}

-- ---- one step, where the new row starts at size
abbrev pub relax_in : List ℤ → ℕ → ℕ → ℕ → ℤ → List ℤ
relax_in rows size from to w = set rows (size + to) (stored (min_d (distance_of (number rows (size + to))) (distance_of (number rows from) ⊕ w)))

-- the three ways through `relax_at`
module _ (rows : List ℤ) (size from to : ℕ) (w : ℤ) where
  abbrev d : ℤ
  d = number rows from

  abbrev e : ℤ
  e = number rows (size + to)

  abbrev put : ℤ → List ℤ
  put z = set rows (size + to) z

  kept : (z : ℤ) → z ≡ e → rows ≡ put z
  kept z q = sym (ap put q ∙ set-get_or rows (size + to) (pos 0))

  pub none_way : d ≡ no_walk_lem → rows ≡ relax_in rows size from to w
  none_way q = kept _ (ap (λ (x : Distance). stored (min_d (distance_of e) (x ⊕ w))) (of_none d q) ∙ store_none e)

  pub less_way : (d ≡ no_walk_lem → ⊥) → d +ℤ w ⋖ e → put (d +ℤ w) ≡ relax_in rows size from to w
  less_way n h = ap put (sym (ap (λ (x : Distance). stored (min_d (distance_of e) (x ⊕ w))) (of_some d n) ∙ store_less e (d +ℤ w) h))

  pub more_way : (d ≡ no_walk_lem → ⊥) → Within max_distance d → Within max_weight w → e ⩽ d +ℤ w → rows ≡ relax_in rows size from to w
  more_way n hd hw h = kept _ (ap (λ (x : Distance). stored (min_d (distance_of e) (x ⊕ w))) (of_some d n) ∙ store_more e d w hd hw h)

pub entry_small : (rows : List ℤ) (from : ℕ) → Short max_distance (distance_of (number rows from)) → (number rows from ≡ no_walk_lem → ⊥) → Within max_distance (number rows from)
entry_small rows from s n = s (number rows from) (of_some (number rows from) n)

-- ---- the same by rows
set_in : (l : List ℤ) (size i : ℕ) (a : ℤ) → set l (size + i) a ≡ take size l ++ set (drop size l) i a
set_in l size i a =
    sym (take-append-drop size (set l (size + i) a))
    ∙ ap₂ (λ (x y : List ℤ). x ++ y) (take-set-le size l (size + i) a (omega arith)) (drop-set-add size l i a)

-- two rows of m numbers; the second after the steps E, read from the first
abbrev pub relaxed_by : ℕ → List ℤ → List Step → List ℤ
relaxed_by m rows E = take m rows ++ stored_row (relax_from (row_of (take m rows)) (row_of (drop m rows)) E)

module _ (m : ℕ) (rows : List ℤ) (long : length rows ≡ 2 * m) where
  old_at : (p : ℕ) → p < m → at (row_of (take m rows)) p ≡ distance_of (number rows p)
  old_at p h = at_row_of (take m rows) p (rw (length-take-le m rows (omega arith)) h) ∙ ap distance_of (get_or-take m rows p (pos 0) h)

  new_at : (p : ℕ) → p < m → at (row_of (drop m rows)) p ≡ distance_of (number rows (m + p))
  new_at p h =
      let l : p < length (drop m rows) = omega (arith, length-drop m rows) in
      at_row_of (drop m rows) p l ∙ ap distance_of (get_or-drop m rows p (pos 0))

  -- an entry of the old row is small where the row's are
  pub entry_short : (b p : ℕ) → p < m → AllShort b (row_of (take m rows)) → Short b (distance_of (number rows p))
  entry_short b p h s = rw (old_at p h) at (s p)

  -- one step, and none
  pub one_step : (t : Step) → t.from < m → t.to < m → relax_in rows m t.from t.to t.weight ≡ relaxed_by m rows (t ∷ [])
  one_step t hf ht =
      let v = min_d (at (row_of (drop m rows)) t.to) (at (row_of (take m rows)) t.from ⊕ t.weight) in
      ap₂ (λ (x y : Distance). set rows (m + t.to) (stored (min_d x (y ⊕ t.weight)))) (sym (new_at t.to ht)) (sym (old_at t.from hf))
      ∙ set_in rows m t.to (stored v)
      ∙ ap (λ (x : List ℤ). take m rows ++ set x t.to (stored v)) (sym (stored_row_of (drop m rows)))
      ∙ ap (λ (x : List ℤ). take m rows ++ x) (sym (stored_set (row_of (drop m rows)) t.to v))

  pub no_step : rows ≡ relaxed_by m rows []
  no_step = sym (take-append-drop m rows) ∙ ap (λ (x : List ℤ). take m rows ++ x) (sym (stored_row_of (drop m rows)))

  -- steps behind steps
  module _ (F : List Step) where
    abbrev after : List Distance
    after = relax_from (row_of (take m rows)) (row_of (drop m rows)) F

    front_length : length (take m rows) ≡ m
    front_length = length-take-le m rows (omega arith)

    pub relaxed_first : take m (relaxed_by m rows F) ≡ take m rows
    relaxed_first = take_at (take m rows) (stored_row after) m front_length

    pub relaxed_length : length (relaxed_by m rows F) ≡ 2 * m
    relaxed_length =
        length-append (take m rows) (stored_row after)
        ∙ omega (arith, front_length, length-map after stored, from_length (row_of (take m rows)) (row_of (drop m rows)) F, length-map (drop m rows) distance_of, length-drop m rows)

    pub relaxed_more : AllShort max_distance (row_of (take m rows)) → WithinWeights max_weight F → (G : List Step) → relaxed_by m (relaxed_by m rows F) G ≡ relaxed_by m rows (F ++ G)
    relaxed_more s w G =
        let b : row_of (drop m (relaxed_by m rows F)) ≡ after =
        ap row_of (drop_at (take m rows) (stored_row after) m front_length) ∙ back_from (row_of (take m rows)) (row_of (drop m rows)) F s w (ap row_of (stored_row_of (drop m rows))) in
        ap₂ (λ (x : List ℤ) (y : List Distance). x ++ stored_row (relax_from (row_of x) y G)) relaxed_first b
        ∙ ap (λ (x : List Distance). take m rows ++ stored_row x) (sym (foldl-append (relax_step (row_of (take m rows))) (row_of (drop m rows)) F G))

-- ---- one step in all columns
pub record ColumnsReady (m c : ℕ) (t : Step) (rows : List ℤ) : Type 0 where
  pub long : length rows ≡ 2 * m
  pub short : AllShort max_distance (row_of (take m rows))
  pub from_fits : t.from * c + c ≤ m
  pub to_fits : t.to * c + c ≤ m
  pub small : Within max_weight t.weight

-- the loop, after the columns 0 to j - 1
pub record Across (m c : ℕ) (t : Step) (rows₀ rows : List ℤ) (j : ℕ) : Type 0 where
  pub count : j ≤ c
  pub is : rows ≡ relaxed_by m rows₀ (columns c j t)

module _ (m c : ℕ) (t : Step) (rows₀ : List ℤ) (r : ColumnsReady m c t rows₀) where
  pub across_start : Across m c t rows₀ rows₀ 0
  across_start = record { count = omega arith; is = no_step m rows₀ r.long }

  module _ (rows : List ℤ) (j : ℕ) (a : Across m c t rows₀ rows j) where
    pub across_length : length rows ≡ 2 * m
    across_length = ap length a.is ∙ relaxed_length m rows₀ r.long (columns c j t)

    -- the step's start in column j
    pub across_short : j < c → Short max_distance (distance_of (number rows (t.from * c + j)))
    across_short h =
        entry_short m rows across_length max_distance (t.from * c + j) (omega (arith, r.from_fits))
        (rw (ap (take m) a.is ∙ relaxed_first m rows₀ r.long (columns c j t)) r.short)

    pub across_more : j < c → (rows' : List ℤ) → rows' ≡ relax_in rows m (t.from * c + j) (t.to * c + j) t.weight → Across m c t rows₀ rows' (j + 1)
    across_more h rows' e =
        record {
          count = omega arith;
          is =
              e ∙ one_step m rows across_length (in_column c j t) (omega (arith, r.from_fits)) (omega (arith, r.to_fits))
              ∙ ap (λ (x : List ℤ). relaxed_by m x (in_column c j t ∷ [])) a.is
              ∙ relaxed_more m rows₀ r.long (columns c j t) r.short (columns_small c j max_weight t r.small) (in_column c j t ∷ [])
              ∙ ap (relaxed_by m rows₀) (sym (columns_more c j t));
        }

    pub across_end : j ≡ c → rows ≡ relaxed_by m rows₀ (columns c c t)
    across_end e = a.is ∙ ap (λ (i : ℕ). relaxed_by m rows₀ (columns c i t)) e

-- ---- what a round asks: valid lines, room for two rows of c columns, and an old row whose sums fit
pub record Ready (n c : ℕ) (L rows : List ℤ) : Type 0 where
  pub few : n ≤ max_variables
  pub valid : LinesOk n L
  pub long : length rows ≡ 2 * (2 * n * c)
  pub short : AllShort max_distance (row_of (take (2 * n * c) rows))

-- the step with a number, where it names one
module _ (n c : ℕ) (L rows : List ℤ) (r : Ready n c L rows) (k : ℕ) where
  point_fits : (p : ℕ) → p < 2 * n → p * c + c ≤ 2 * n * c
  point_fits p h = omega (arith, mul-le-mul_right c h)

  pub found_ready : (t : Step) → step_numbered_lem L k ≡ Some t → ColumnsReady (2 * n * c) c t rows
  found_ready t e =
      let o = numbered_ok n L r.valid k t e in
      record { long = r.long; short = r.short; from_fits = point_fits t.from o.from_lt; to_fits = point_fits t.to o.to_lt; small = o.small }

  pub step_way : (t : Step) (s : Option Step) → s ≡ Some t → relaxed_by (2 * n * c) rows (columns c c t) ≡ relaxed_by (2 * n * c) rows (wide c (named s))
  step_way t s q = ap (relaxed_by (2 * n * c) rows) (sym (wide_step c t) ∙ ap (λ (x : Option Step). wide c (named x)) (sym q))

  pub nothing_way : (s : Option Step) → s ≡ None → rows ≡ relaxed_by (2 * n * c) rows (wide c (named s))
  nothing_way s q = no_step (2 * n * c) rows r.long ∙ ap (relaxed_by (2 * n * c) rows) (sym (wide_none c) ∙ ap (λ (x : Option Step). wide c (named x)) (sym q))

-- ---- the loop over the steps, after those with the numbers 0 to k - 1; it began with rows₀
pub record Round (n c : ℕ) (L rows₀ rows : List ℤ) (k : ℕ) : Type 0 where
  pub count : k ≤ 2 * line_count L
  pub is : rows ≡ relaxed_by (2 * n * c) rows₀ (wide c (steps_before L k))

module _ (n c : ℕ) (L rows₀ : List ℤ) (r : Ready n c L rows₀) where
  abbrev m : ℕ
  m = 2 * n * c

  pub round_start : Round n c L rows₀ rows₀ 0
  round_start = record { count = omega arith; is = no_step m rows₀ r.long ∙ ap (relaxed_by m rows₀) (sym (wide_none c) ∙ ap (wide c) (sym (before_zero L))) }

  module _ (rows : List ℤ) (k : ℕ) (t : Round n c L rows₀ rows k) where
    abbrev before : List Step
    before = wide c (steps_before L k)

    pub round_ready : Ready n c L rows
    round_ready =
        record {
          few = r.few;
          valid = r.valid;
          long = ap length t.is ∙ relaxed_length m rows₀ r.long before;
          short = rw (ap (take m) t.is ∙ relaxed_first m rows₀ r.long before) r.short;
        }

    pub round_more : k < 2 * line_count L → (rows' : List ℤ) → rows' ≡ relaxed_by m rows (wide c (named (step_numbered_lem L k))) → Round n c L rows₀ rows' (k + 1)
    round_more h rows' e =
        record {
          count = omega arith;
          is =
              e ∙ ap (λ (x : List ℤ). relaxed_by m x (wide c (named (step_numbered_lem L k)))) t.is
              ∙ relaxed_more m rows₀ r.long before r.short (wide_small c max_weight (steps_before L k) (before_small n L r.valid k)) (wide c (named (step_numbered_lem L k)))
              ∙ ap (relaxed_by m rows₀) (sym (wide_append c (steps_before L k) (named (step_numbered_lem L k))) ∙ ap (wide c) (sym (before_more L k)));
        }

    pub round_end : k ≡ 2 * line_count L → rows ≡ relaxed_by m rows₀ (wide c (steps_of (lines_of L)))
    round_end q = t.is ∙ ap (λ (E : List Step). relaxed_by m rows₀ (wide c E)) (ap (steps_before L) q ∙ before_all L)

-- ---- the old row, of m numbers, copied behind itself
module _ (m : ℕ) (rows rows₀ : List ℤ) (long : length rows ≡ 2 * m) (e : rows₀ ≡ copied rows 0 m m) where
  abbrev row : List ℤ
  row = take m rows

  row_length : length row ≡ m
  row_length = length-take-le m rows (omega arith)

  twice : rows₀ ≡ row ++ row
  twice =
      let h : length rows ≤ m + m = omega arith in
      e ∙ ap (λ (x : List ℤ). row ++ row ++ x) (drop_of_length-le rows h) ∙ append-nil (row ++ row)

  pub copy_long : length rows₀ ≡ 2 * m
  copy_long = ap length twice ∙ length-append row row ∙ omega (arith, row_length)

  pub copy_first : take m rows₀ ≡ take m rows
  copy_first = ap (take m) twice ∙ take_at row row m row_length

  -- relaxed from the copy, it is the row that a round makes
  pub copy_end : (E : List Step) → relaxed_by m rows₀ E ≡ row ++ stored_row (relax_row E (row_of row))
  unfolding relax_row
  copy_end E = ap₂ (λ (x y : List ℤ). x ++ stored_row (relax_from (row_of x) (row_of y) E)) copy_first (ap (drop m) twice ∙ drop_at row row m row_length)

pub copy_ready : (n c : ℕ) (L rows rows₀ : List ℤ) → Ready n c L rows → rows₀ ≡ copied rows 0 (2 * n * c) (2 * n * c) → Ready n c L rows₀
copy_ready n c L rows rows₀ r e = record { few = r.few; valid = r.valid; long = copy_long (2 * n * c) rows rows₀ r.long e; short = rw (copy_first (2 * n * c) rows rows₀ r.long e) r.short }
