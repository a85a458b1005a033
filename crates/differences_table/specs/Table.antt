-- The whole table: what is asked, and that closed and turned back it holds the distances between the variables.
use Rattle.std.specs.Prelude.{◌≡◌, refl, List, ◌++◌, ℕ, ◌+◌, ◌*◌, ◌≤◌, ◌<◌, ℤ, pos, ◌+ℤ◌, ◌-ℤ◌, length, take, drop}
use Rattle.std.proofs.Common.{ap, ap₂, ◌∙◌, arith, length-append, length-drop, length-take-le, drop_at, get_or-take}
use Rattle.std.proofs.Math.ListN.{get_or-append}
use Rattle.integers.specs.Integer.{◌⩽◌, Within}
use Rattle.integers.proofs.Linear.{ints, zs}
use Rattle.lines.specs.Line.{number}
use Rattle.steps.specs.declared.Step.{Step}
use Rattle.theory_walks.specs.Row.{In, best}
use Rattle.theory_walks.specs.Least.{NoneNegative}
use Rattle.theory_walks.specs.Negative.{no_negative_yes}
use Rattle.theory_walks.specs.Distance.{le_trans}
use Rattle.theory_covering.specs.Potential.{potential_clear}
use Rattle.theory_differences.specs.Through.{Through, through_all}
use Rattle.decide_rows.specs.Stored.{stored}
use Rattle.decide_rows.specs.Read.{max_distance}
use Rattle.engine_packed_steps.specs.Scratch.{Scratch, scratch_trans, scratch_wider}
use Rattle.engine_reduced_table.specs.Reduced.{max_potential}
use Rattle.engine_settled_table.specs.Out.{out_of}
use Rattle.engine_settled_table.specs.Least.{least_exact}
use Rattle.differences_lines.specs.PlainList.{PlainList, plain_of, ends_within, weights_within}
use Rattle.differences_rows.specs.Layout.{plain_end}
use Rattle.differences_search.specs.Searched.{Points}
use Rattle.differences_closing.specs.Entries.{cell, entry_in, cell_lt, Entries, Ranged}
use Rattle.differences_closing.specs.Closed.{Closed}
use Rattle.differences_start.specs.Start.{point_of, point_kept, reduced, StartReady, Started}
use Rattle.differences_table.specs.Finished.{FinishReady, Finished}

pub record TableReady (n : ℕ) (L w : List ℤ) : Type 0 where
  pub plain : PlainList n L
  pub room : plain_end n ≤ length w
  pub points : Points n L w

-- the table holds the distances; what lies behind the room of the engine is kept
pub record PlainTable (n : ℕ) (L w w' : List ℤ) : Type 0 where
  pub scratch : Scratch 0 (plain_end n) w w'
  pub entry : (u v : ℕ) → u < n → v < n → number w' (v * n + u) ≡ stored (best (plain_of L) n u v)

module _ {n : ℕ} {L w : List ℤ} (a : TableReady n L w) where
  abbrev π : ℕ → ℤ
  π = a.points.potential

  points_small : (p : ℕ) → p < n → Within max_potential (point_of n w p)
  points_small p h = rw (a.points.twice p h) (double (π p) (a.points.small p h))
    where
      double : (x : ℤ) → Within max_distance x → Within max_potential (x +ℤ x)
      double x b = record { low = simp ints (omega zs); high = simp ints (omega zs) }

  positive : (t : Step) → In t (plain_of L) → pos 0 ⩽ reduced n w t
  positive t i =
      let e = ends_within a.plain t i in
      rw (a.points.twice t.from e.0, a.points.twice t.to e.1) (turn (π t.from) (π t.to) t.weight (a.points.is_potential t i))
    where
      turn : (x y w : ℤ) → y ⩽ x +ℤ w → pos 0 ⩽ ((w +ℤ w) +ℤ (x +ℤ x)) -ℤ (y +ℤ y)
      turn x y w = simp ints (omega arith)

  pub start_ready : StartReady n L w
  start_ready = record { plain = a.plain; room = a.room; small = points_small; positive = positive }

  -- ---- closed, in the part that is lent, and turned back
  module _ {w₁ : List ℤ} (s : Started n L w w₁) where
    inside : n * n ≤ length w₁
    inside = omega (arith, a.room, s.scratch.same_length)

    part_length : length (take (n * n) w₁) ≡ n * n
    part_length = length-take-le (n * n) w₁ inside

    part_at : (i j : ℕ) → i < n → j < n → entry_in n (take (n * n) w₁) i j ≡ entry_in n w₁ i j
    part_at i j hi hj = get_or-take (n * n) w₁ (cell n i j) (pos 0) (cell_lt n i j hi hj)

    part_entries : Entries (plain_of L) (point_of n w) n (take (n * n) w₁)
    part_entries i j hi hj = rw (part_at i j hi hj) (s.entries i j hi hj)

    pub part_ranged : Ranged n (take (n * n) w₁)
    part_ranged = record {
      few = a.plain.works.variables;
      room = omega (arith, part_length);
      low = λ i j hi hj. (part_entries i j hi hj).low;
      high = λ i j hi hj. (part_entries i j hi hj).high;
    }

    -- the part comes back closed
    module _ {t : List ℤ} (c : Closed n (take (n * n) w₁) t n) (w₂ : List ℤ) (e : w₂ ≡ t ++ drop (n * n) w₁) where
      closed_length : length t ≡ n * n
      closed_length = c.lowered.same_length ∙ part_length

      closed_scratch : Scratch 0 (n * n) w w₂
      closed_scratch = scratch_trans s.scratch (record {
        same_length = ap length e ∙ length-append t (drop (n * n) w₁) ∙ omega (arith, closed_length, length-drop (n * n) w₁, inside);
        front = refl;
        behind = ap (drop (n * n)) e ∙ drop_at t (drop (n * n) w₁) (n * n) closed_length;
      })

      closed_at : (i j : ℕ) → i < n → j < n → entry_in n w₂ i j ≡ entry_in n t i j
      closed_at i j hi hj =
          ap (λ (l : List ℤ). number l (cell n i j)) e ∙ get_or-append t (drop (n * n) w₁) (pos 0) (cell n i j) (omega (arith, closed_length, cell_lt n i j hi hj))

      pub finish_asked : FinishReady n w₂ 0
      finish_asked = record {
        few = a.plain.works.variables;
        room = omega (arith, a.room, closed_scratch.same_length);
        small = λ p h. rw (point_kept n closed_scratch p) (points_small p h);
        low = λ i j hi hj _. rw (closed_at i j hi hj) (c.lowered.ranged.low i j hi hj);
        high = λ i j hi hj _. rw (closed_at i j hi hj) (c.lowered.ranged.high i j hi hj);
      }

      -- every walk is no less than its entry
      nonneg : NoneNegative (plain_of L) n
      nonneg = no_negative_yes (plain_of L) n (potential_clear (plain_of L) a.points.potential a.points.is_potential n)

      exact : (i j : ℕ) → i < n → j < n → out_of (point_of n w i) (point_of n w j) (entry_in n t i j) ≡ best (plain_of L) n i j
      exact i j hi hj =
          least_exact (plain_of L) n (ends_within a.plain) (weights_within a.plain) (omega (arith, a.plain.works.variables)) nonneg i j hi (point_of n w i) (point_of n w j) (points_small i hi) (points_small j hj)
          (entry_in n t i j) (c.lowered.sound (plain_of L) (point_of n w) part_entries i j hi hj)
          (through_all (plain_of L) n (point_of n w) (ends_within a.plain) (entry_in n t) (c.through (plain_of L) (point_of n w) begins)
          (λ k h. le_trans (c.lowered.no_more k k h h) (rw (part_at k k h h) (s.diagonal k h))) i j hi hj)
        where
          begins : Through (plain_of L) n (point_of n w) 0 (entry_in n (take (n * n) w₁))
          begins x y hx hy u us v m = rw (part_at x y hx hy) (s.through x y hx hy u us v m)

      pub plain_table : {w₃ : List ℤ} → Finished n w₂ w₃ n → PlainTable n L w w₃
      plain_table {w₃} f = record {
        scratch = scratch_wider (omega arith) (omega arith) (scratch_trans closed_scratch f.scratch);
        entry = λ u v hu hv.
            f.done u v hu hv
            ∙ ap₂ (λ (x y : ℤ). stored (out_of x y (entry_in n w₂ u v))) (point_kept n closed_scratch u) (point_kept n closed_scratch v)
            ∙ ap (λ (z : ℤ). stored (out_of (point_of n w u) (point_of n w v) z)) (closed_at u v hu hv)
            ∙ ap stored (exact u v hu hv);
      }
