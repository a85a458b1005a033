-- What the rows of distances are written from, the settled table on reduced weights and the places of variables, is kept
-- while they are written: it lies before and behind them.
use Rattle.std.specs.Prelude.{◌≡◌, true, List, ℕ, ◌+◌, ◌*◌, ◌≤◌, ◌<◌, ℤ, neg_ℤ, length}
use Rattle.std.proofs.Common.{sym, ap, subst, ◌∙◌, arith}
use Rattle.lines.specs.Limits.{max_variables}
use Rattle.lines.specs.Line.{number}
use Rattle.steps.specs.Point.{opposite}
use Rattle.theory_walks.specs.Mirror.{Mirrored, opposite_lt}
use Rattle.theory_walks.specs.Row.{best}
use Rattle.theory_walks.specs.Negative.{no_negative}
use Rattle.decide_rows.specs.Stored.{stored}
use Rattle.decide_rows.specs.Table.{table_start}
use Rattle.engine_packed_steps.specs.Steps.{step_in_lem, steps_in, steps_same}
use Rattle.engine_packed_steps.specs.Scratch.{Scratch, scratch_at}
use Rattle.engine_renaming.specs.Inverse.{Inverse, Same, same_behind, inverse_kept, renamed_point_lem, renamed_same}
use Rattle.engine_reduced_table.specs.Reduced.{cell, table_end, cell_lt, Reduced}
use Rattle.engine_settled_table.specs.Settled.{StepSettled, AllSettled}

-- the table is settled, and the rows fit between the steps and what else is read
pub record RowsReady (count n at pot : ℕ) (w : List ℤ) : Type 0 where
  pub few : n ≤ max_variables
  pub reduced : Reduced count pot (2 * n) w
  pub clear : no_negative (steps_in count w) (2 * n) ≡ true
  pub settled : AllSettled count pot (2 * n) w
  pub inverse : Inverse n at w
  pub before : count ≤ table_start (2 * n)
  pub after : table_start (2 * n) + 2 * n * (2 * n) ≤ at
  pub behind : at + 3 * n ≤ pot

-- what is to stand at u in the row of v: the distance between the renamed opposite points
abbrev pub distance_at : ℕ → ℕ → ℕ → List ℤ → ℕ → ℕ → ℤ
distance_at count n at w v u = stored (best (steps_in count w) (2 * n) (renamed_point_lem at w (opposite v)) (renamed_point_lem at w (opposite u)))

pub opposite_low : (n p : ℕ) → p < 2 * n → opposite p < 2 * n
opposite_low n p h = opposite_lt (2 * n) p (omega arith) h

-- ---- the same steps, and the same numbers from `pot` on
module _ {count pot size : ℕ} {w w' : List ℤ} (r : Reduced count pot size w) (long : length w' ≡ length w) (steps : (i : ℕ) → i < count → number w' i ≡ number w i) (same : Same pot (table_end pot size) w w') where
  same_steps : steps_in count w' ≡ steps_in count w
  same_steps = steps_same count w w' steps

  same_point : (i : ℕ) → i < size → number w' (pot + i) ≡ number w (pot + i)
  same_point i h = same.same (pot + i) (omega arith) (omega arith)

  same_cell : (i j : ℕ) → i < size → j < size → number w' (cell pot size i j) ≡ number w (cell pot size i j)
  same_cell i j hi hj = same.same (cell pot size i j) (omega arith) (omega (arith, cell_lt size i j hi hj))

  reduced_kept : Reduced count pot size w'
  reduced_kept = record {
    steps = record {
      few = r.steps.few;
      before = r.steps.before;
      room = omega (arith, r.steps.room, long);
      ok = λ i h. rw (steps i h) (r.steps.ok i h);
    };
    mirrored = subst Mirrored (sym same_steps) r.mirrored;
    even = r.even;
    points = r.points;
    room = omega (arith, r.room, long);
    opposed = λ i h. same_point (opposite i) (opposite_lt size i r.even h) ∙ r.opposed i h ∙ ap neg_ℤ (sym (same_point i h));
    small = λ i h. rw (same_point i h) (r.small i h);
    entry = λ i j hi hj. rw (same_steps, same_point i hi, same_point j hj, same_cell i j hi hj) (r.entry i j hi hj);
  }

  step_kept : (i : ℕ) → i < count → StepSettled count pot size w i → StepSettled count pot size w' i
  step_kept i h a =
      let s = step_in_lem w i in
      let o = r.steps.ok i h in
      record { all = λ t l. rw (steps i h, same_cell s.from t o.from_lt l, same_cell s.to t o.to_lt l, same_point s.from o.from_lt, same_point s.to o.to_lt) (a.all t l) }

  settled_kept : AllSettled count pot size w → AllSettled count pot size w'
  settled_kept a = record { diagonal = λ t h. rw (same_cell t t h h) (a.diagonal t h); steps = λ i h. step_kept i h (a.steps i h) }

-- ---- whatever is written between: the steps lie before it; places, numbers of points and table behind it
module _ {count n at pot : ℕ} {w w' : List ℤ} (r : RowsReady count n at pot w) (s : Scratch (table_start (2 * n)) (table_start (2 * n) + 2 * n * (2 * n)) w w') where
  steps_kept : (i : ℕ) → i < count → number w' i ≡ number w i
  steps_kept i h = scratch_at s i (omega (arith, h, r.before))

  places_kept : Same at (at + 2 * n) w w'
  places_kept = same_behind s at (at + 2 * n) r.after

  table_kept : Same pot (table_end pot (2 * n)) w w'
  table_kept = same_behind s pot (table_end pot (2 * n)) (omega (arith, r.after, r.behind))

  pub rows_kept : RowsReady count n at pot w'
  rows_kept = record {
    few = r.few;
    reduced = reduced_kept r.reduced s.same_length steps_kept table_kept;
    clear = rw (steps_same count w w' steps_kept) r.clear;
    settled = settled_kept r.reduced s.same_length steps_kept table_kept r.settled;
    inverse = inverse_kept r.inverse places_kept;
    before = r.before;
    after = r.after;
    behind = r.behind;
  }

  pub point_kept : (p : ℕ) → p < 2 * n → renamed_point_lem at w' p ≡ renamed_point_lem at w p
  point_kept p h = renamed_same r.inverse places_kept p h

  pub own_kept : (i : ℕ) → i < 2 * n → number w' (pot + i) ≡ number w (pot + i)
  own_kept i h = same_point r.reduced s.same_length steps_kept table_kept i h

  pub distance_kept : (v u : ℕ) → v < 2 * n → u < 2 * n → distance_at count n at w' v u ≡ distance_at count n at w v u
  distance_kept v u hv hu = rw (steps_same count w w' steps_kept, point_kept (opposite v) (opposite_low n v hv), point_kept (opposite u) (opposite_low n u hu))
