-- The search for a refutation: what it asks, what it leaves, and why that is right in each of its ways out.
use Rattle.std.specs.Prelude.{◌≡◌, refl, Bool, true, false, not, List, [], ◌∷◌, ◌++◌, ℕ, ◌+◌, ◌*◌, ◌-◌, ◌<◌, ◌≤◌, ℤ, pos, ◌+ℤ◌, length, take, drop}
use Rattle.std.proofs.Common.{sym, ap, subst, ◌∙◌, inl, mul-le-mul_right, arith}
use Rattle.integers.specs.Integer.{◌⋖◌, half}
use Rattle.integers.specs.Laws.{never}
use Rattle.integers.specs.Table.{all_below}
use Rattle.lines.specs.declared.Line.{Line}
use Rattle.lines.specs.Limits.{max_variables}
use Rattle.lines.specs.Line.{line_count, lines_of}
use Rattle.lines.specs.Valid.{Workable}
use Rattle.steps.specs.declared.Step.{Step}
use Rattle.steps.specs.Point.{opposite}
use Rattle.steps.specs.Step.{steps_of}
use Rattle.theory_walks.specs.Distance.{Distance, none, some, ◌⊞◌, half_d}
use Rattle.theory_walks.specs.Row.{best, some_is}
use Rattle.theory_walks.specs.Negative.{not_below0, no_negative, is_below, no_negative_false}
use Rattle.theory_bounds.specs.Verdict.{has_false, first_false_lem, distances, halves_ok_lem, consistent_halves, verdict_of, due_kind}
use Rattle.theory_answers.specs.Refuted.{Due, due_false, kind_negative, kind_halves}
use Rattle.decide_rows.specs.Table.{table_start, stored_table}
use Rattle.decide_stored_table.specs.Table.{table_of, ShortTable}
use Rattle.theory_bounds.specs.Agree.{Agree}
use Rattle.theory_bounds.proofs.AgreeHalves.{ok_same, all_ok_same}
use Rattle.integers.specs.Lowest.{first_failing_lem, none_fails, first_failing}
use Rattle.decide_buffers.specs.Room.{refutation_room_lem}
use Rattle.decide_false_line.specs.False.{false_none}
use Rattle.decide_yes.specs.Table.{agree, short_table}
use Rattle.check_refutation.specs.Progress.{head_size}
use Rattle.decide_written_walks.specs.Refutation.{ClosedReady, HalvesReady, RefutationWritten}
use Rattle.engine_packed_steps.specs.Steps.{max_steps}
use Rattle.engine_packed_steps.specs.Scratch.{Scratch, scratch_trans, scratch_wider}
use Rattle.engine_packed_steps.specs.Layout.{row_at, places_at, engine_end}
use Rattle.engine_packed_steps.specs.Laid.{LayReady, Laid}
use Rattle.engine_closed_walk.specs.AtOnce.{AtOnceReady, AtOnce}
use Rattle.engine_halves_walks.specs.Halves.{HalvesAtOnce}
use Rattle.engine_table.specs.Found.{TableAsked, TableFound, laid_standing, standing_kept}

-- behind all that the engine works in
abbrev pub used_room : ℕ → ℕ
used_room n = engine_end n

-- any list that deciding works on, also one line longer than the rules let in
pub record SearchReady (n : ℕ) (L : List ℤ) (R : List ℕ) (w : List ℤ) : Type 0 where
  pub valid : Workable n L
  pub room : refutation_room_lem n ≤ length R
  pub work_room : used_room n ≤ length w

-- what stands in the work area where there is no refutation
abbrev pub table_in : ℕ → List ℤ → List ℤ
table_in n w = take (2 * n * (2 * n)) (drop (table_start (2 * n)) w)

pub record Searched (n : ℕ) (L : List ℤ) (R : List ℕ) (w : List ℤ) (R' : List ℕ) (w' : List ℤ) (refuted : Bool) : Type 0 where
  pub verdict : verdict_of n (lines_of L) ≡ not refuted
  pub on_no : refuted ≡ true → (N : List ℕ) × Due n L N × (R' ≡ N ++ drop (length N) R)
  pub on_yes : refuted ≡ false → (R' ≡ R) × (table_in n w' ≡ stored_table (steps_of (lines_of L)) (2 * n) (2 * n))
  pub same_length : length w' ≡ length w
  pub behind : drop (used_room n) w' ≡ drop (used_room n) w

-- a refutation written from walks keeps what lies behind them
written_scratch : (n kind : ℕ) (L : List ℤ) (R R' : List ℕ) (w w' : List ℤ) → RefutationWritten n L kind R w R' w' → Scratch 0 (used_room n) w w'
written_scratch n kind L R R' w w' k =
    let s : Scratch 0 (row_at n) w w' = record { same_length = k.same_length; front = refl; behind = k.behind } in
    scratch_wider (omega arith) (omega arith) s

-- ---- the verdict, by its parts
module _ (n : ℕ) (ls : List Line) where
  pub no_by_false : has_false ls ≡ true → verdict_of n ls ≡ false
  unfolding verdict_of
  no_by_false e = rw e

  pub no_by_walk : has_false ls ≡ false → no_negative (steps_of ls) (2 * n) ≡ false → verdict_of n ls ≡ false
  unfolding verdict_of
  no_by_walk e f = rw (e, f)

  pub no_by_halves : has_false ls ≡ false → no_negative (steps_of ls) (2 * n) ≡ true → consistent_halves n ls ≡ false → verdict_of n ls ≡ false
  unfolding verdict_of
  no_by_halves e f g = rw (e, f, g)

  pub yes_by_all : has_false ls ≡ false → no_negative (steps_of ls) (2 * n) ≡ true → consistent_halves n ls ≡ true → verdict_of n ls ≡ true
  unfolding verdict_of
  yes_by_all e f g = rw (e, f, g)

-- ---- no variable
empty_clear : (n : ℕ) (E : List Step) → n ≡ 0 → no_negative E (2 * n) ≡ true
unfolding no_negative
empty_clear n E e = rw e

empty_consistent : (n : ℕ) (ls : List Line) → n ≡ 0 → consistent_halves n ls ≡ true
unfolding consistent_halves
empty_consistent n ls e = rw e

empty_table : (n : ℕ) (E : List Step) (w : List ℤ) → n ≡ 0 → table_in n w ≡ stored_table E (2 * n) (2 * n)
unfolding stored_table
empty_table n E w e = rw e

-- ---- a written refutation of the due kind
module _ (n : ℕ) (L : List ℤ) (R : List ℕ) (w : List ℤ) (R' : List ℕ) (w' : List ℤ) where
  pub due_written : (kind : ℕ) → (kind ≡ 3 → ⊥) → due_kind n (lines_of L) ≡ kind → RefutationWritten n L kind R w R' w' → (N : List ℕ) × Due n L N × (R' ≡ N ++ drop (length N) R)
  due_written kind other due k = (
    k.numbers,
    record {
      refutes = k.refutes;
      kind = k.kind_is ∙ sym due;
      lowest = λ e. absurd (other (sym due ∙ e));
      few = λ _. k.few;
      size = omega (arith, k.size);
    },
    k.is,
  )

-- ---- with the table
module _ (n : ℕ) (L : List ℤ) (R : List ℕ) (w : List ℤ) (a : SearchReady n L R w) where
  abbrev E : List Step
  E = steps_of (lines_of L)

  abbrev m : ℕ
  m = 2 * n

  abbrev ok : Workable n L
  ok = a.valid

  -- a false line
  pub by_false : (k : ℕ) → k ≡ first_false_lem 0 (lines_of L) → k < line_count L → (R' : List ℕ) → R' ≡ 3 ∷ 1 ∷ 0 ∷ 2 * k ∷ drop (head_size + 1) R → Searched n L R w R' w true
  by_false k e h R' i =
      record {
        verdict = no_by_false n (lines_of L) f;
        on_no = λ _. (3 ∷ 1 ∷ 0 ∷ 2 * first_false_lem 0 (lines_of L) ∷ [], due_false n L f, i ∙ ap (λ (j : ℕ). 3 ∷ 1 ∷ 0 ∷ 2 * j ∷ drop (head_size + 1) R) e);
        on_yes = λ z. never (cc);
        same_length = refl;
        behind = refl;
      }
    where
      f : has_false (lines_of L) ≡ true
      f = go (has_false (lines_of L)) refl
        where
          go : (b : Bool) → has_false (lines_of L) ≡ b → b ≡ true
          go true z = refl
          go false z = absurd (omega (arith, false_none L z, e))

  -- what stands in the work area is kept behind its used room
  scratched : {place end : ℕ} {w₁ w₂ : List ℤ} → end ≤ used_room n → Scratch place end w₁ w₂ → Scratch 0 (used_room n) w₁ w₂
  scratched h k = scratch_wider (omega arith) h k

  pub refuted_by : (kind : ℕ) → (kind ≡ 3 → ⊥) → due_kind n (lines_of L) ≡ kind → verdict_of n (lines_of L) ≡ false → (R' : List ℕ) (w₁ w₂ : List ℤ) → RefutationWritten n L kind R w₁ R' w₂ → Scratch 0 (used_room n) w w₂ → Searched n L R w R' w₂ true
  refuted_by kind other due verdict R' w₁ w₂ k s =
      record {
        verdict = verdict;
        on_no = λ _. due_written n L R w₁ R' w₂ kind other due k;
        on_yes = λ z. never (cc);
        same_length = s.same_length;
        behind = s.behind;
      }

  -- no variable, no point, no walk
  pub by_empty : n ≡ 0 → has_false (lines_of L) ≡ false → Searched n L R w R w false
  by_empty e clear =
      record {
        verdict = yes_by_all n (lines_of L) clear (empty_clear n E e) (empty_consistent n (lines_of L) e);
        on_no = λ z. never (cc);
        on_yes = λ _. (refl, empty_table n E w e);
        same_length = refl;
        behind = refl;
      }

  pub lay_ready : LayReady n L w
  lay_ready = record { few = ok.variables; valid = ok.lines; few_lines = ok.count; room = omega (arith, a.work_room) }

  -- the steps are laid
  module _ (w₁ : List ℤ) (count : ℕ) (d : Laid n L w w₁ count) where
    most : count ≤ max_steps
    most =
        let b : 2 * n * (2 * n) ≤ 2 * max_variables * (2 * n) = mul-le-mul_right (2 * n) (omega (arith, ok.variables)) in
        omega (arith, d.no_more, b, ok.variables)

    pub at_once_ready : AtOnceReady n L count R w₁
    at_once_ready =
        record {
          few = ok.variables;
          valid = ok.lines;
          lines = ok.count;
          room = omega (arith, a.room);
          work_room = omega (arith, a.work_room, d.scratch.same_length);
          steps = record { few = most; before = omega (arith, d.no_more); room = omega (arith, a.work_room, d.scratch.same_length); ok = d.ok };
        }

    module _ (R₁ : List ℕ) (w₂ : List ℤ) (r : Bool) (f : AtOnce n L R w₁ R₁ w₂ r) where
      since : Scratch 0 (used_room n) w w₂
      since = scratch_trans (scratched (omega arith) d.scratch) (scratched (omega arith) f.scratch)

      -- refuted at once
      pub by_at_once : has_false (lines_of L) ≡ false → r ≡ true → Searched n L R w R₁ w₂ true
      by_at_once clear e =
          let g = f.on_yes e in
          refuted_by 1 (λ z. omega arith) (kind_negative n (lines_of L) clear g.negative) (no_by_walk n (lines_of L) clear g.negative) R₁ g.between w₂ g.written since

      -- not at once: what the search leaves from there on
      module _ (e : r ≡ false) where
        pub search_after : SearchReady n L R₁ w₂
        search_after = record { valid = a.valid; room = rw (f.on_no e).0 a.room; work_room = omega (arith, a.work_room, since.same_length) }

        pub asked_after : TableAsked n L count w₂
        asked_after =
            record {
              few = ok.variables;
              valid = ok.lines;
              few_lines = ok.count;
              standing = standing_kept (laid_standing d) f.scratch;
              small = (f.on_no e).1;
              room = search_after.work_room;
            }

        pub searched_after : (R' : List ℕ) (w' : List ℤ) (q : Bool) → Searched n L R₁ w₂ R' w' q → Searched n L R w R' w' q
        searched_after R' w' q k =
            let g : Searched n L R w₂ R' w' q = subst (λ (x : List ℕ). Searched n L x w₂ R' w' q) (f.on_no e).0 k in
            record { verdict = g.verdict; on_no = g.on_no; on_yes = g.on_yes; same_length = g.same_length ∙ since.same_length; behind = g.behind ∙ since.behind }

  module _ (clear : has_false (lines_of L) ≡ false) (w₁ : List ℤ) (u : ℕ) (d : TableFound n L w w₁ u) where
    -- what a refutation from there leaves
    written_since : (kind : ℕ) (R' : List ℕ) (w₂ : List ℤ) → RefutationWritten n L kind R w₁ R' w₂ → Scratch 0 (used_room n) w w₂
    written_since kind R' w₂ k = scratch_trans d.scratch (written_scratch n kind L R R' w₁ w₂ k)

    -- a closed walk of negative sum
    module _ (h : u < m) where
      low : (z : ℤ) × (best E m u u ≡ some z) × (z ⋖ pos 0)
      low = is_below (best E m u u) (d.negative h)

      negative : no_negative E m ≡ false
      negative = no_negative_false E m (record { point = u; low = h; sum = low.0; is = low.1; negative = low.2 })

      pub closed_ready : ClosedReady n L u R w₁
      closed_ready =
          record {
            ready =
                record {
                  ready = record { few = ok.variables; valid = ok.lines; within = h; room = omega (arith, a.work_room, d.scratch.same_length); value = low.0; reached = low.1; wanted = inl refl };
                  lines = ok.count;
                  room = omega (arith, a.room);
                };
            negative = low.2;
          }

      pub by_walk : (R' : List ℕ) (w₂ : List ℤ) → RefutationWritten n L 1 R w₁ R' w₂ → Searched n L R w R' w₂ true
      by_walk R' w₂ k = refuted_by 1 (λ z. omega arith) (kind_negative n (lines_of L) clear negative) (no_by_walk n (lines_of L) clear negative) R' w₁ w₂ k (written_since 1 R' w₂ k)

    -- no such walk: the table is whole
    module _ (h : m ≤ u) where
      whole : u ≡ m
      whole = omega (arith, d.within)

      same : Agree m (table_of m (table_in n w₁)) (distances n (lines_of L))
      same = subst (λ (t : List ℤ). Agree m (table_of m t) (distances n (lines_of L))) (sym (d.table whole)) (agree n L ok.variables ok.lines)

      pub short : ShortTable n (table_in n w₁)
      short = subst (ShortTable n) (sym (d.table whole)) (short_table n L ok.variables ok.lines)

      consistent : all_below m (halves_ok_lem (table_of m (table_in n w₁))) ≡ consistent_halves n (lines_of L)
      unfolding consistent_halves
      consistent = all_ok_same n _ _ same

      module _ (p : ℕ) (q : p ≡ first_failing_lem m (halves_ok_lem (table_of m (table_in n w₁)))) where
        -- two walks whose halves sum below 0
        module _ (l : p < m) where
          bad : consistent_halves n (lines_of L) ≡ false
          bad = go (consistent_halves n (lines_of L)) refl
            where
              go : (b : Bool) → consistent_halves n (lines_of L) ≡ b → b ≡ false
              go true z = absurd (omega (arith, (none_fails m (halves_ok_lem (table_of m (table_in n w₁)))).1 (consistent ∙ z), q))
              go false z = refl

          low_halves : halves_ok_lem (distances n (lines_of L)) p ≡ false
          low_halves =
              let f = first_failing m (halves_ok_lem (table_of m (table_in n w₁))) (consistent ∙ bad) in
              subst (λ (x : ℕ). halves_ok_lem (distances n (lines_of L)) x ≡ false) (sym q) (sym (ok_same n _ _ same _ f.below) ∙ f.fails)

          halves_ready : HalvesReady n L p R w₁
          halves_ready = go (best E m p (opposite p)) refl (best E m (opposite p) p) refl low_halves
            where
              go : (x : Distance) → best E m p (opposite p) ≡ x → (y : Distance) → best E m (opposite p) p ≡ y → not_below0 (half_d x ⊞ half_d y) ≡ false → HalvesReady n L p R w₁
              go none i y j z = never (cc)
              go (some x) i none j z = never (cc)
              go (some x) i (some y) j z =
                  let r = is_below (some (half x +ℤ half y)) z in
                  record {
                    few = ok.variables;
                    valid = ok.lines;
                    lines = ok.count;
                    within = l;
                    work_room = omega (arith, a.work_room, d.scratch.same_length);
                    room = omega (arith, a.room);
                    there = x;
                    back = y;
                    there_is = i;
                    back_is = j;
                    negative = subst (λ (v : ℤ). v ⋖ pos 0) (some_is (sym r.1)) r.2;
                    clear = d.clear whole;
                  }

          verdict_no : verdict_of n (lines_of L) ≡ false
          verdict_no = no_by_halves n (lines_of L) clear (d.clear whole) bad

          due : due_kind n (lines_of L) ≡ 2
          due = kind_halves n (lines_of L) clear (d.clear whole)

          pub halves_search : HalvesReady n L p R w₁ × (places_at n ≤ length w₁)
          halves_search = (halves_ready, omega (arith, a.work_room, d.scratch.same_length))

          pub by_halves : (R' : List ℕ) (w₂ : List ℤ) → HalvesAtOnce n L R w₁ R' w₂ true → Searched n L R w R' w₂ true
          by_halves R' w₂ k = refuted_by 2 (λ z. omega arith) due verdict_no R' w₂ w₂ (k.on_yes refl) (scratch_trans d.scratch (scratched (omega arith) k.scratch))

        pub by_none : m ≤ p → Searched n L R w R w₁ false
        by_none l =
            record {
              verdict = yes_by_all n (lines_of L) clear (d.clear whole) good;
              on_no = λ z. never (cc);
              on_yes = λ _. (refl, d.table whole);
              same_length = d.scratch.same_length;
              behind = d.scratch.behind;
            }
          where
            good : consistent_halves n (lines_of L) ≡ true
            good = go (consistent_halves n (lines_of L)) refl
              where
                go : (b : Bool) → consistent_halves n (lines_of L) ≡ b → b ≡ true
                go true z = refl
                go false z = absurd (omega (arith, (first_failing m (halves_ok_lem (table_of m (table_in n w₁))) (consistent ∙ z)).below, q))

-- the part from the table's start to its end is the table
pub part_is : (n : ℕ) (w : List ℤ) → take (table_start (2 * n) + 2 * n * (2 * n) - table_start (2 * n)) (drop (table_start (2 * n)) w) ≡ table_in n w
part_is n w = let e : table_start (2 * n) + 2 * n * (2 * n) - table_start (2 * n) ≡ 2 * n * (2 * n) = omega arith in ap (λ (k : ℕ). take k (drop (table_start (2 * n)) w)) e
