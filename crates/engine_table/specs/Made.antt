-- The table of distances made: the renamed table is settled, so that its rows, read by the places, are the distances.
use Rattle.std.specs.Prelude.{◌≡◌, Bool, true, false, List, map, ℕ, ◌+◌, ◌*◌, ◌≤◌, ◌<◌, ℤ, length, take, drop}
use Rattle.std.proofs.Common.{sym, ap, subst, ◌∙◌, arith}
use Rattle.integers.specs.Laws.{never}
use Rattle.lines.specs.Limits.{max_variables}
use Rattle.steps.specs.declared.Step.{Step}
use Rattle.steps.specs.Point.{opposite}
use Rattle.theory_walks.specs.Row.{WithinPoints, best}
use Rattle.theory_walks.specs.Negative.{no_negative}
use Rattle.theory_walks.specs.Mirror.{Mirrored, opposite_lt}
use Rattle.theory_covering.specs.Covers.{renamed_step, renamed_mirrored, renamed_steps_best, renamed_steps_clear_back}
use Rattle.decide_rows.specs.Table.{stored_table, table_start}
use Rattle.engine_packed_steps.specs.Steps.{steps_in, StepsReady, within_all}
use Rattle.engine_packed_steps.specs.Scratch.{Scratch, scratch_none, scratch_trans, scratch_wider, scratch_steps}
use Rattle.engine_packed_steps.specs.Layout.{walks_at, row_at, places_at, points_at_lem, engine_end}
use Rattle.engine_closed_walk.specs.Passes.{SmallRow}
use Rattle.engine_closed_walk.specs.Potential.{PotentialReady}
use Rattle.engine_renaming.specs.Inverse.{Inverse, Same, renamed_point_lem, original_point, same_behind, same_before, inverse_kept, inverse_renaming, renamed_opposite, renamed_same}
use Rattle.engine_finished_rows.specs.Kept.{RowsReady}
use Rattle.engine_finished_rows.specs.Rows.{RowsWritten}
use Rattle.engine_table.specs.Placed.{PlaceReady, Placed, Renamed}
use Rattle.engine_table.specs.Settling.{StartReady, Started, SettleReady, Settling}

pub record MadeReady (count n : ℕ) (w : List ℤ) : Type 0 where
  pub few : n ≤ max_variables
  pub steps : StepsReady count (walks_at n) (2 * n) w
  pub before : count ≤ table_start (2 * n)
  pub mirrored : Mirrored (steps_in count w)
  pub small : SmallRow (row_at n) (2 * n) w
  pub room : engine_end n ≤ length w

-- no closed walk over the steps is negative, and the table holds the distances of any steps that have those of the mirror
-- images
pub record Rows (count n : ℕ) (w w' : List ℤ) : Type 0 where
  pub clear : no_negative (steps_in count w) (2 * n) ≡ true
  pub are : (E : List Step) → ((u v : ℕ) → u < 2 * n → v < 2 * n → best (steps_in count w) (2 * n) (opposite v) (opposite u) ≡ best E (2 * n) u v)
      → take (2 * n * (2 * n)) (drop (table_start (2 * n)) w') ≡ stored_table E (2 * n) (2 * n)

pub record Made (count n : ℕ) (w w' : List ℤ) (r : Bool) : Type 0 where
  pub scratch : Scratch 0 (engine_end n) w w'
  pub on_yes : r ≡ true → Rows count n w w'

module _ {count n : ℕ} {w : List ℤ} (a : MadeReady count n w) where
  pub potential_ready : PotentialReady count (row_at n) (2 * n) w
  potential_ready = record { steps = record { few = a.steps.few; before = omega (arith, a.steps.before); room = omega (arith, a.room); ok = a.steps.ok }; small = a.small }

  pub place_ready : PlaceReady count n (places_at n) w
  place_ready = record { few = a.few; steps = record { few = a.steps.few; before = omega (arith, a.steps.before); room = omega (arith, a.room); ok = a.steps.ok }; room = omega (arith, a.room) }

  pub made_none : Made count n w w false
  made_none = record { scratch = scratch_none 0 (engine_end n) w; on_yes = λ z. never (cc) }

  -- the variables may have places
  module _ {b : Bool} (w₂ : List ℤ) (p : Placed count n (places_at n) w w₂ b) where
    front : Scratch 0 (engine_end n) w w₂
    front = scratch_wider (omega arith) (omega arith) p.scratch

    pub made_not_placed : Made count n w w₂ false
    made_not_placed = record { scratch = front; on_yes = λ z. never (cc) }

    -- they have
    module _ (e : b ≡ true) where
      abbrev named : Renamed count n (places_at n) w w₂
      named = p.on_yes e

      abbrev w₁ : List ℤ
      w₁ = named.between

      abbrev ρ : ℕ → ℕ
      ρ = renamed_point_lem (places_at n) w₁

      within : WithinPoints (2 * n) (steps_in count w)
      within = within_all count (2 * n) w a.steps.ok

      are : steps_in count w₂ ≡ map (renamed_step ρ) (steps_in count w)
      are = named.renamed.are ∙ ap (map (renamed_step ρ)) named.same

      pub start_ready : StartReady count n w₂
      start_ready = record {
        few = a.few;
        steps = named.renamed.ready;
        mirrored = subst Mirrored (sym are) (renamed_mirrored (2 * n) ρ (steps_in count w) within (λ q h. renamed_opposite (places_at n) w₁ q) a.mirrored);
        room = omega (arith, a.room, p.scratch.same_length);
      }

      -- the table is begun
      module _ (w₃ : List ℤ) (s : Started count n w₂ w₃) where
        pub settle_ready : SettleReady count (points_at_lem n) (2 * n) w₃
        settle_ready = record { reduced = s.reduced; room = omega (arith, a.room, p.scratch.same_length, s.scratch.same_length) }

        -- and worked on
        module _ {r : Bool} (w₄ : List ℤ) (t : Settling count (points_at_lem n) (2 * n) w₃ w₄ r) where
          all : Scratch 0 (engine_end n) w w₄
          all = scratch_trans front (scratch_trans (scratch_wider (omega arith) (omega arith) s.scratch) (scratch_wider (omega arith) (omega arith) t.scratch))

          pub made_not_settled : Made count n w w₄ false
          made_not_settled = record { scratch = all; on_yes = λ z. never (cc) }

          -- the places stand where they stood
          later : Scratch (points_at_lem n) (engine_end n) w₂ w₄
          later = scratch_trans (scratch_wider (omega arith) (omega arith) s.scratch) (scratch_wider (omega arith) (omega arith) t.scratch)

          same_places : Same (places_at n) (places_at n + 2 * n) w₁ w₂
          same_places = same_behind named.renamed.scratch (places_at n) (places_at n + 2 * n) (omega (arith, named.renamed.ready.before))

          later_places : Same (places_at n) (places_at n + 2 * n) w₂ w₄
          later_places = same_before later (places_at n) (places_at n + 2 * n) (omega arith)

          inverse₂ : Inverse n (places_at n) w₂
          inverse₂ = inverse_kept named.inverse same_places

          inverse₄ : Inverse n (places_at n) w₄
          inverse₄ = inverse_kept inverse₂ later_places

          same_point : (q : ℕ) → q < 2 * n → renamed_point_lem (places_at n) w₄ q ≡ ρ q
          same_point q h = renamed_same inverse₂ later_places q h ∙ renamed_same named.inverse same_places q h

          steps₄ : steps_in count w₄ ≡ map (renamed_step ρ) (steps_in count w)
          steps₄ = scratch_steps wider later ∙ are
            where
              wider : StepsReady count (points_at_lem n) (2 * n) w₂
              wider = record { few = named.renamed.ready.few; before = omega (arith, named.renamed.ready.before); room = omega (arith, a.room, p.scratch.same_length); ok = named.renamed.ready.ok }

          -- settled
          module _ (clear : no_negative (steps_in count w) (2 * n) ≡ true) (f : r ≡ true) where
            pub rows_ready : RowsReady count n (places_at n) (points_at_lem n) w₄
            rows_ready = record {
              few = a.few;
              reduced = t.reduced;
              clear = ap (λ (F : List Step). no_negative F (2 * n)) steps₄ ∙ renamed_steps_clear_back (2 * n) ρ (original_point n (places_at n) w₁) (inverse_renaming named.inverse) (steps_in count w) within clear;
              settled = t.settled f;
              inverse = inverse₄;
              before = a.before;
              after = omega arith;
              behind = omega arith;
            }

            -- the entry of two points' mirror images, by the places
            entry : (i j : ℕ) → i < 2 * n → j < 2 * n → best (steps_in count w₄) (2 * n) (renamed_point_lem (places_at n) w₄ i) (renamed_point_lem (places_at n) w₄ j) ≡ best (steps_in count w) (2 * n) i j
            entry i j hi hj =
                rw (steps₄, same_point i hi, same_point j hj)
                (renamed_steps_best (2 * n) ρ (original_point n (places_at n) w₁) (inverse_renaming named.inverse) (steps_in count w) within i j hi hj)

            pub made_yes : (w₅ : List ℤ) → RowsWritten count n (places_at n) w₄ w₅ → Made count n w w₅ true
            made_yes w₅ k = record {
              scratch = scratch_trans all (scratch_wider (omega arith) (omega arith) k.scratch);
              on_yes = λ _. record {
                clear = clear;
                are = λ E g. k.are E (λ u v hu hv. entry (opposite v) (opposite u) (opposite_lt (2 * n) v (omega arith) hv) (opposite_lt (2 * n) u (omega arith) hu) ∙ g u v hu hv);
              };
            }
