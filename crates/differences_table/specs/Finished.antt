-- The entries turned back to distances, number by number and row by row.
use Rattle.std.specs.Prelude.{◌≡◌, refl, List, ℕ, ◌+◌, ◌*◌, ◌≤◌, ◌<◌, ℤ, pos, length, set}
use Rattle.std.proofs.Common.{sym, ap, ap₂, subst, ◌∙◌, mul-le-mul_right, arith, get_or-set_same, get_or-set_other}
use Rattle.std.proofs.Math.Decide.{ℕ_discrete}
use Rattle.integers.specs.Integer.{◌⩽◌, Within}
use Rattle.lines.specs.Limits.{max_variables}
use Rattle.decide_rows.specs.Stored.{stored}
use Rattle.engine_packed_steps.specs.Scratch.{Scratch, scratch_none, scratch_trans, scratch_set, scratch_at, scratch_behind, scratch_wider}
use Rattle.engine_reduced_table.specs.Reduced.{far, max_potential}
use Rattle.engine_settled_table.specs.Out.{out_of, OutReady}
use Rattle.differences_rows.specs.Layout.{plain_end}
use Rattle.differences_closing.specs.Entries.{cell, entry_in, row_end}
use Rattle.differences_start.specs.Start.{point_of, point_kept}

-- the rows from v on are entries still
pub record FinishReady (n : ℕ) (w : List ℤ) (v : ℕ) : Type 0 where
  pub few : n ≤ max_variables
  pub room : plain_end n ≤ length w
  pub small : (p : ℕ) → p < n → Within max_potential (point_of n w p)
  pub low : (i j : ℕ) → i < n → j < n → v ≤ j → pos 0 ⩽ entry_in n w i j
  pub high : (i j : ℕ) → i < n → j < n → v ≤ j → entry_in n w i j ⩽ pos far

-- an entry turned back
abbrev pub turned : ℕ → List ℤ → ℕ → ℕ → ℤ
turned n w i j = stored (out_of (point_of n w i) (point_of n w j) (entry_in n w i j))

-- ---- the row of v, after the first u of its entries
pub record RowFinished (n v : ℕ) (w w' : List ℤ) (u : ℕ) : Type 0 where
  pub count : u ≤ n
  pub scratch : Scratch (v * n) (v * n + n) w w'
  pub done : (i : ℕ) → i < u → entry_in n w' i v ≡ turned n w i v
  pub left : (i : ℕ) → u ≤ i → entry_in n w' i v ≡ entry_in n w i v

pub row_start : (n v : ℕ) (w : List ℤ) → RowFinished n v w w 0
row_start n v w = record { count = omega arith; scratch = scratch_none (v * n) (v * n + n) w; done = λ i h. absurd (omega arith); left = λ i h. refl }

module _ {n v : ℕ} {w : List ℤ} (r : FinishReady n w v) (hv : v < n) where
  pub row_inside : v * n + n ≤ length w
  row_inside = omega (arith, row_end n v hv, r.room)

  module _ {w' : List ℤ} {u : ℕ} (f : RowFinished n v w w' u) (h : u < n) where
    -- the numbers of variables are as they were
    pub point_same : (p : ℕ) → point_of n w' p ≡ point_of n w p
    point_same = point_kept n (scratch_wider (omega arith) (row_end n v hv) f.scratch)

    pub entry_same : entry_in n w' u v ≡ entry_in n w u v
    entry_same = f.left u (omega arith)

    pub turn_ready : OutReady (entry_in n w u v) (point_of n w u) (point_of n w v)
    turn_ready = record { low = r.low u v h hv (omega arith); high = r.high u v h hv (omega arith); own_small = r.small u h; other_small = r.small v hv }

    pub row_more : (z : ℤ) → z ≡ turned n w u v → RowFinished n v w (set w' (v * n + u) z) (u + 1)
    row_more z e = record {
      count = omega arith;
      scratch = scratch_trans f.scratch (scratch_set (v * n) (v * n + n) w' (v * n + u) z (omega arith) (omega arith));
      done = λ i l. each i l (ℕ_discrete i u);
      left = λ i l. get_or-set_other w' (v * n + u) (cell n i v) z (pos 0) (λ x. omega (arith, x, l)) ∙ f.left i (omega arith);
    }
      where
        each : (i : ℕ) → i < u + 1 → Dec (i ≡ u) → entry_in n (set w' (v * n + u) z) i v ≡ turned n w i v
        each i l (yes q) =
            subst (λ (x : ℕ). entry_in n (set w' (v * n + u) z) x v ≡ turned n w x v) (sym q)
            (get_or-set_same w' (v * n + u) z (pos 0) (omega (arith, row_inside, f.scratch.same_length)) ∙ e)
        each i l (no q) = get_or-set_other w' (v * n + u) (cell n i v) z (pos 0) (λ x. q (omega (arith, x))) ∙ f.done i (omega (arith, l, q))

-- ---- all rows, after the first v
pub record Finished (n : ℕ) (w w' : List ℤ) (v : ℕ) : Type 0 where
  pub count : v ≤ n
  pub scratch : Scratch 0 (n * n) w w'
  pub done : (i j : ℕ) → i < n → j < v → entry_in n w' i j ≡ turned n w i j
  pub left : (i j : ℕ) → i < n → v ≤ j → j < n → entry_in n w' i j ≡ entry_in n w i j

pub finish_start : (n : ℕ) (w : List ℤ) → Finished n w w 0
finish_start n w = record { count = omega arith; scratch = scratch_none 0 (n * n) w; done = λ i j hi hj. absurd (omega arith); left = λ i j hi hj hk. refl }

module _ {n : ℕ} {w w' : List ℤ} {v : ℕ} (r : FinishReady n w 0) (f : Finished n w w' v) (h : v < n) where
  pub finish_ready : FinishReady n w' v
  finish_ready = record {
    few = r.few;
    room = omega (arith, r.room, f.scratch.same_length);
    small = λ p l. rw (point_kept n f.scratch p) (r.small p l);
    low = λ i j hi hj l. rw (f.left i j hi l hj) (r.low i j hi hj (omega arith));
    high = λ i j hi hj l. rw (f.left i j hi l hj) (r.high i j hi hj (omega arith));
  }

  pub finish_more : {w'' : List ℤ} → RowFinished n v w' w'' n → Finished n w w'' (v + 1)
  finish_more {w''} g = record {
    count = omega arith;
    scratch = scratch_trans f.scratch (scratch_wider (omega arith) (row_end n v h) g.scratch);
    done = λ i j hi hj. each i j hi hj (ℕ_discrete j v);
    left = λ i j hi l hj. scratch_behind g.scratch (cell n i j) (omega (arith, mul-le-mul_right n l)) ∙ f.left i j hi (omega arith) hj;
  }
    where
      now : (i : ℕ) → i < n → turned n w' i v ≡ turned n w i v
      now i hi =
          ap₂ (λ (a b : ℤ). stored (out_of a b (entry_in n w' i v))) (point_kept n f.scratch i) (point_kept n f.scratch v)
          ∙ ap (λ (z : ℤ). stored (out_of (point_of n w i) (point_of n w v) z)) (f.left i v hi (omega arith) h)

      each : (i j : ℕ) → i < n → j < v + 1 → Dec (j ≡ v) → entry_in n w'' i j ≡ turned n w i j
      each i j hi hj (yes q) = subst (λ (x : ℕ). entry_in n w'' i x ≡ turned n w i x) (sym q) (g.done i hi ∙ now i hi)
      each i j hi hj (no q) =
          let l : j < v = omega (arith, hj, q) in
          scratch_at g.scratch (cell n i j) (omega (arith, hi, mul-le-mul_right n l)) ∙ f.done i j hi l
