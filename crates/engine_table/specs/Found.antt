-- What making the table leaves, over the steps laid at the front: the whole table where no closed walk has a negative sum,
-- else a point that is on such a walk.
use Rattle.std.specs.Prelude.{◌≡◌, refl, true, false, List, ℕ, ◌+◌, ◌*◌, ◌-◌, ◌≤◌, ◌<◌, ℤ, length, take, drop}
use Rattle.std.proofs.Common.{sym, ap, subst, ◌∙◌, mul-le-mul_right, arith, drop-drop}
use Rattle.lines.specs.Limits.{max_variables, work_lines}
use Rattle.lines.specs.Line.{number, line_count, lines_of}
use Rattle.lines.specs.Valid.{LinesOk, all_ok}
use Rattle.steps.specs.declared.Step.{Step}
use Rattle.steps.specs.Point.{opposite}
use Rattle.steps.specs.Step.{steps_of}
use Rattle.theory_walks.specs.Row.{WithinPoints, best}
use Rattle.theory_walks.specs.Negative.{not_below0, no_negative}
use Rattle.theory_walks.specs.Mirror.{Mirrored, opposite_lt, best_mirror}
use Rattle.theory_walks.specs.Graph.{ends_points, steps_mirrored}
use Rattle.theory_covering.specs.Covers.{Merged, merged_best, merged_clear}
use Rattle.decide_rows.specs.Table.{stored_table, table_start, TableReady}
use Rattle.decide_table_by_rounds.specs.Made.{TableMade}
use Rattle.engine_packed_steps.specs.Steps.{StepOk, steps_in, steps_same, max_steps}
use Rattle.engine_packed_steps.specs.Scratch.{Scratch, scratch_at, scratch_wider, scratch_trans}
use Rattle.engine_packed_steps.specs.Layout.{walks_at, row_at, engine_end}
use Rattle.engine_packed_steps.specs.Laid.{Laid}
use Rattle.engine_renaming.specs.Inverse.{same_behind}
use Rattle.engine_closed_walk.specs.Passes.{SmallRow}
use Rattle.engine_table.specs.Made.{MadeReady, Made}

-- the steps at the front stand for those of the list
pub record Standing (n : ℕ) (L : List ℤ) (count : ℕ) (w : List ℤ) : Type 0 where
  pub no_more : count ≤ 2 * n * (2 * n)
  pub ok : (i : ℕ) → i < count → StepOk (2 * n) (number w i)
  pub merged : Merged (steps_of (lines_of L)) (steps_in count w)
  pub mirrored : Mirrored (steps_in count w)

pub laid_standing : {n : ℕ} {L w w' : List ℤ} {count : ℕ} → Laid n L w w' count → Standing n L count w'
laid_standing d = record { no_more = d.no_more; ok = d.ok; merged = d.merged; mirrored = d.mirrored }

-- whatever is stored behind the table
pub standing_kept : {n count end : ℕ} {L w w' : List ℤ} → Standing n L count w → Scratch (walks_at n) end w w' → Standing n L count w'
standing_kept {n} {count} {end} {L} {w} {w'} d s =
    record {
      no_more = d.no_more;
      ok = λ i h. rw (same i h) (d.ok i h);
      merged = subst (Merged (steps_of (lines_of L))) (sym steps) d.merged;
      mirrored = subst Mirrored (sym steps) d.mirrored;
    }
  where
    same : (i : ℕ) → i < count → number w' i ≡ number w i
    same i h = scratch_at s i (omega (arith, h, d.no_more))

    steps : steps_in count w' ≡ steps_in count w
    steps = steps_same count w w' same

pub record TableAsked (n : ℕ) (L : List ℤ) (count : ℕ) (w : List ℤ) : Type 0 where
  pub few : n ≤ max_variables
  pub valid : LinesOk n L
  pub few_lines : line_count L ≤ work_lines
  pub standing : Standing n L count w
  pub small : SmallRow (row_at n) (2 * n) w
  pub room : engine_end n ≤ length w

-- steps stand there again, and nothing behind the table is changed
pub record StandingAgain (n : ℕ) (L w w' : List ℤ) (count : ℕ) : Type 0 where
  pub standing : Standing n L count w'
  pub scratch : Scratch 0 (walks_at n) w w'

-- r is the point, or 2n. With a point, all up to the engine's end may hold anything
pub record TableFound (n : ℕ) (L w w' : List ℤ) (r : ℕ) : Type 0 where
  pub within : r ≤ 2 * n
  pub negative : r < 2 * n → not_below0 (best (steps_of (lines_of L)) (2 * n) r r) ≡ false
  pub clear : r ≡ 2 * n → no_negative (steps_of (lines_of L)) (2 * n) ≡ true
  pub table : r ≡ 2 * n → take (2 * n * (2 * n)) (drop (table_start (2 * n)) w') ≡ stored_table (steps_of (lines_of L)) (2 * n) (2 * n)
  pub scratch : Scratch 0 (engine_end n) w w'

module _ {n count : ℕ} {L w : List ℤ} (a : TableAsked n L count w) where
  abbrev E : List Step
  E = steps_of (lines_of L)

  module _ (w₁ : List ℤ) (kept : ℕ) (s : StandingAgain n L w w₁ kept) where
    most : kept ≤ max_steps
    most =
        let b : 2 * n * (2 * n) ≤ 2 * max_variables * (2 * n) = mul-le-mul_right (2 * n) (omega (arith, a.few)) in
        omega (arith, s.standing.no_more, b, a.few)

    pub made_ready : MadeReady kept n w₁
    made_ready = record {
      few = a.few;
      steps = record { few = most; before = omega (arith, s.standing.no_more); room = omega (arith, a.room, s.scratch.same_length); ok = s.standing.ok };
      before = omega (arith, s.standing.no_more);
      mirrored = s.standing.mirrored;
      small = λ p h. rw ((same_behind s.scratch (row_at n) (row_at n + 2 * n) (omega arith)).same (row_at n + p) (omega arith) (omega (arith, h))) (a.small p h);
      room = omega (arith, a.room, s.scratch.same_length);
    }

    within : WithinPoints (2 * n) E
    within = ends_points n (lines_of L) (all_ok n L a.valid)

    mirrored : Mirrored E
    mirrored = steps_mirrored n (lines_of L) (all_ok n L a.valid)

    pub found_made : (w₂ : List ℤ) → Made kept n w₁ w₂ true → TableFound n L w w₂ (2 * n)
    found_made w₂ m =
        let rows = m.on_yes refl in
        record {
          within = omega arith;
          negative = λ h. absurd (omega (arith, h));
          clear = λ _. merged_clear E (steps_in kept w₁) s.standing.merged (2 * n) within rows.clear;
          table = λ _. rows.are E (λ u v hu hv.
              merged_best E (steps_in kept w₁) s.standing.merged (2 * n) within (opposite v) (opposite u) (opposite_lt (2 * n) v (omega arith) hv) (opposite_lt (2 * n) u (omega arith) hu)
              ∙ sym (best_mirror E (2 * n) within mirrored (omega arith) u v));
          scratch = scratch_trans (scratch_wider (omega arith) (omega arith) s.scratch) m.scratch;
        }

    -- the rounds
    module _ (w₂ : List ℤ) (m : Made kept n w₁ w₂ false) where
      front : Scratch 0 (engine_end n) w w₂
      front = scratch_trans (scratch_wider (omega arith) (omega arith) s.scratch) m.scratch

      pub table_ready : TableReady n L w₂
      table_ready = record { few = a.few; valid = a.valid; room = omega (arith, a.room, front.same_length) }

      pub found_rounds : (w₃ : List ℤ) (r : ℕ) → TableMade E (2 * n) w₂ w₃ r → TableFound n L w w₃ r
      found_rounds w₃ r t = record {
        within = t.within;
        negative = t.negative;
        clear = t.clear;
        table = t.table;
        scratch = scratch_trans front (record { same_length = t.same_length; front = refl; behind = behind });
      }
        where
          behind : drop (engine_end n) w₃ ≡ drop (engine_end n) w₂
          behind =
              let j : ℕ = engine_end n - walks_at n in
              let e : walks_at n + j ≡ engine_end n = omega arith in
              ap (λ (i : ℕ). drop i w₃) (sym e) ∙ sym (drop-drop j (walks_at n) w₃) ∙ ap (drop j) t.behind ∙ drop-drop j (walks_at n) w₂ ∙ ap (λ (i : ℕ). drop i w₂) e
