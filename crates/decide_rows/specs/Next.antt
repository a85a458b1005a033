-- One more row behind a row, and whether the two are the same.
use Rattle.std.specs.Prelude.{◌≡◌, refl, Bool, true, false, List, ◌++◌, ℕ, ◌+◌, ◌*◌, ◌<◌, ◌≤◌, ℤ, pos, length, take, drop}
use Rattle.std.proofs.Common.{sym, ap, ap₂, subst, ◌∙◌, arith, length-append, length-take, length-drop, get_or-take, get_or-drop, length-take-le, take_at, drop_at, ext_get_or, take-take, drop-drop}
use Rattle.std.proofs.lemmas.List.{length-map}
use Rattle.integers.specs.Integer.{eq_z}
use Rattle.std.specs.Bool.{Decides}
use Rattle.integers.specs.Laws.{never, eq_z_true, eq_eq_z}
use Rattle.integers.specs.Table.{all_below, below_at, below_all}
use Rattle.lines.specs.Limits.{max_variables}
use Rattle.lines.specs.Line.{number}
use Rattle.lines.specs.Valid.{LinesOk}
use Rattle.steps.specs.declared.Step.{Step}
use Rattle.theory_walks.specs.Row.{relax_row, relax_length}
use Rattle.theory_walks.specs.Wide.{wide, wide_one}
use Rattle.decide_rows.specs.Stored.{stored, stored_row}
use Rattle.decide_rows.specs.Read.{distance_of, row_of, AllShort, max_distance}
use Rattle.decide_rows.specs.Relax.{Ready}

-- ---- whether two rows one behind the other are the same
unfoldable pub same_rows : ℕ → List ℤ → Bool
same_rows m rows = all_below m (λ k. eq_z (number rows k) (number rows (m + k)))

abbrev pub same_at : ℕ → List ℤ → ℕ → Bool
same_at m rows k = eq_z (number rows k) (number rows (m + k))

pub same_rows_law : (m : ℕ) (rows : List ℤ) → length rows ≡ 2 * m → same_rows m rows ≡ true → drop m rows ≡ take m rows
unfolding same_rows
same_rows_law m rows l e =
    let d : length (drop m rows) ≡ m = length-drop m rows ∙ omega arith in
    ext_get_or (pos 0) (drop m rows) (take m rows) (d ∙ sym (length-take-le m rows (omega arith)))
    (λ i h.
    let k : i < m = omega arith in
    get_or-drop m rows i (pos 0) ∙ sym (eq_z_true _ _ (below_at m (same_at m rows) e i k)) ∙ sym (get_or-take m rows i (pos 0) k))

same_of : (m : ℕ) (rows : List ℤ) → take m rows ≡ drop m rows → same_rows m rows ≡ true
unfolding same_rows
same_of m rows e = below_all m (same_at m rows) (λ i h. eq_eq_z _ _ (sym (get_or-take m rows i (pos 0) h) ∙ ap (λ (x : List ℤ). number x i) e ∙ get_or-drop m rows i (pos 0)))

-- what a test of the two rows, as lists, finds
pub same_found : (m : ℕ) (rows : List ℤ) (r : Bool) → length rows ≡ 2 * m → Decides r (take m rows ≡ drop m rows) → r ≡ same_rows m rows
same_found m rows r l d = go (same_rows m rows) refl r d
  where
    go : (s : Bool) → same_rows m rows ≡ s → (r : Bool) → Decides r (take m rows ≡ drop m rows) → r ≡ s
    go true q r d = d.1 (sym (same_rows_law m rows l q))
    go false q true d = let clash : true ≡ false = sym (same_of m rows (d.0 refl)) ∙ q in never (cc)
    go false q false d = refl

-- ---- one more row
-- the row at a place
abbrev pub row_in : ℕ → List ℤ → ℕ → List ℤ
row_in m w from = take m (drop from w)

-- a row and the one that a round makes of it
abbrev pub with_next : List Step → List ℤ → List ℤ
with_next E row = row ++ stored_row (relax_row E (row_of row))

pub record RowReady (n c : ℕ) (L w : List ℤ) (from : ℕ) : Type 0 where
  pub few : n ≤ max_variables
  pub valid : LinesOk n L
  pub room : from + 2 * (2 * n * c) ≤ length w
  pub short : AllShort max_distance (row_of (row_in (2 * n * c) w from))

-- the row at `from` stays, the next row stands behind it, and all else is as it was
pub record RowDone (m : ℕ) (E : List Step) (w : List ℤ) (from : ℕ) (w' : List ℤ) (same : Bool) : Type 0 where
  pub is : w' ≡ take from w ++ (with_next E (row_in m w from) ++ drop (from + 2 * m) w)
  pub settled : same ≡ same_rows m (with_next E (row_in m w from))

pub next_length : (E : List Step) (row : List ℤ) → length (stored_row (relax_row E (row_of row))) ≡ length row
next_length E row = length-map (relax_row E (row_of row)) stored ∙ relax_length E (row_of row) ∙ length-map row distance_of

pub in_length : (m : ℕ) (w : List ℤ) (from : ℕ) → from + m ≤ length w → length (row_in m w from) ≡ m
in_length m w from h = simp (length-take, length-drop) (omega arith)

pub with_length : (E : List Step) (m : ℕ) (row : List ℤ) → length row ≡ m → length (with_next E row) ≡ 2 * m
with_length E m row e = length-append row (stored_row (relax_row E (row_of row))) ∙ omega (arith, e, next_length E row)

pub row_ready : (n c : ℕ) (L w : List ℤ) (from k : ℕ) → k ≡ 2 * (2 * n * c) → RowReady n c L w from → Ready n c L (take k (drop from w))
row_ready n c L w from k e a =
    record {
      few = a.few;
      valid = a.valid;
      long = simp (length-take, length-drop) (omega (arith, a.room));
      short = rw (take-take (2 * n * c) k (drop from w) (omega arith)) a.short;
    }

-- a part of k numbers that was lent, came back as `part`, and was then looked at
module _ (m from k : ℕ) (E : List Step) (w part : List ℤ) (ek : k ≡ 2 * m) (room : from + 2 * m ≤ length w) (el : part ≡ with_next E (take m (take k (drop from w)))) where
  abbrev after : List ℤ
  after = take from w ++ (part ++ drop k (drop from w))

  part_is : part ≡ with_next E (row_in m w from)
  part_is = el ∙ ap (with_next E) (take-take m k (drop from w) (omega arith))

  part_length : length part ≡ k
  part_length = ap length part_is ∙ with_length E m (row_in m w from) (in_length m w from (omega arith)) ∙ sym ek

  part_again : take k (drop from after) ≡ part
  part_again =
      ap (take k) (drop_at (take from w) (part ++ drop k (drop from w)) from (length-take-le from w (omega arith)))
      ∙ take_at part (drop k (drop from w)) k part_length

  pub part_next : take k (drop from after) ≡ with_next E (row_in m w from)
  part_next = part_again ∙ part_is

  pub after_is : after ≡ take from w ++ (with_next E (row_in m w from) ++ drop (from + 2 * m) w)
  after_is = ap₂ (λ (x y : List ℤ). take from w ++ (x ++ y)) part_is (drop-drop k from w ∙ ap (λ (j : ℕ). drop (from + j) w) ek)

  pub row_done : (same : Bool) → same ≡ same_rows m (take k (drop from after)) → RowDone m E w from after same
  row_done same es =
      record {
        is = after_is;
        settled = es ∙ ap (same_rows m) part_next;
      }

-- ---- a single column
single : (m : ℕ) → m * 1 ≡ m
single m = omega arith

pub single_ready : (n : ℕ) (L w : List ℤ) (from : ℕ) → n ≤ max_variables → LinesOk n L → from + 2 * (2 * n) ≤ length w → AllShort max_distance (row_of (row_in (2 * n) w from)) → RowReady n 1 L w from
single_ready n L w from few ok room short = record {
  few = few;
  valid = ok;
  room = omega arith;
  short = rw (single (2 * n)) short;
}

pub single_done : (m : ℕ) (E : List Step) (w : List ℤ) (from : ℕ) (w' : List ℤ) (same : Bool) → RowDone (m * 1) (wide 1 E) w from w' same → RowDone m E w from w' same
single_done m E w from w' same d = subst (λ (k : ℕ). RowDone k E w from w' same) (single m) (subst (λ (F : List Step). RowDone (m * 1) F w from w' same) (wide_one E) d)
