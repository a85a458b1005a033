-- The walk that makes a changed entry, read back from its last row: what is left of the way, and the walk that is written so far. Each entry on the way was
-- changed by its round, so that each row has its step.
use Rattle.std.specs.Prelude.{◌≡◌, refl, List, [], ◌∷◌, ℕ, zero, suc, ◌+◌, ◌*◌, ◌-◌, ◌<◌, ◌≤◌, ℤ, pos, ◌+ℤ◌, length, set, drop, Some}
use Rattle.std.proofs.Common.{sym, ap, subst, ◌∙◌, arith, length-set, get_or-set_same, get_or-set_other, get_or-take, get_or-drop}
use Rattle.lines.specs.Line.{number, line_at, line_count}
use Rattle.steps.specs.declared.Step.{Step}
use Rattle.steps.specs.Step.{step_numbered_lem}
use Rattle.steps.specs.Walk.{Names, total}
use Rattle.theory_walks.specs.Distance.{Distance, some, ◌⊕◌, ⊕_zero, ⊕_assoc}
use Rattle.theory_walks.specs.Row.{at}
use Rattle.theory_walks.specs.Reach.{Walk, walk_none}
use Rattle.theory_walks.specs.Pigeon.{point_after}
use Rattle.theory_differences.specs.Plain.{plain_step_lem, plus}
use Rattle.theory_differences.specs.Walks.{copy_steps}
use Rattle.theory_differences.specs.Numbers.{plain_number_lem, plain_line, plain_numbered}
use Rattle.theory_differences.specs.Anywhere.{zero_at, Changed, zero_some, changed_along, changed_before}
use Rattle.decide_rows.specs.Stored.{stored}
use Rattle.decide_rows.specs.Next.{row_in, in_length}
use Rattle.engine_packed_steps.specs.Scratch.{Scratch, scratch_trans, scratch_set}
use Rattle.decide_walkback.specs.Makes.{StepMade, step_made, step_makes}
use Rattle.decide_walkback.specs.Move.{not_absent}
use Rattle.decide_written_walks.specs.Stretch.{Stand, stand_before}
use Rattle.differences_lines.specs.PlainList.{PlainList, plain_of, ends_within, step_among}
use Rattle.differences_rows.specs.Layout.{walk_at_lem, points_at_lem, plain_end, row_before}
use Rattle.differences_rows.specs.Standing.{Standing, standing_kept, zero_short}
use Rattle.differences_walk.specs.Makes.{OldRow, FindReady}
use Rattle.differences_walk.specs.Back.{BackReady, SteppedBack}

-- rows 0 to top stand, and round top changed the entry of v
pub record WalkReady (n : ℕ) (L w : List ℤ) (top v : ℕ) : Type 0 where
  pub plain : PlainList n L
  pub room : plain_end n ≤ length w
  pub few : top ≤ n
  pub rows : Standing (plain_of L) n w top
  pub within : v < n
  pub last : ℕ
  pub top_is : top ≡ suc last
  pub changed : Changed (plain_of L) n last v

-- the points of a walk from p, from a place on
abbrev pub PointsAt : List ℤ → ℕ → ℕ → List Step → Type 0
PointsAt w from p ss = (i : ℕ) → i ≤ length ss → number w (from + i) ≡ pos (point_after p ss i)

-- k rows are still to be gone back, from the variable p
pub record Reading (n : ℕ) (L : List ℤ) (top v : ℕ) (w : List ℤ) (k p : ℕ) : Type 0 where
  pub within : p < n
  pub steps : List Step
  pub numbers : List ℕ
  pub count : k + length steps ≡ top
  pub counted : length numbers ≡ length steps
  pub named : Names L numbers (copy_steps steps)
  pub walk : Walk (plain_of L) p steps v
  pub sum : at (zero_at (plain_of L) n top) v ≡ at (zero_at (plain_of L) n k) p ⊕ total steps
  pub changed : (j : ℕ) → k ≡ suc j → Changed (plain_of L) n j p
  pub stand : Stand w (walk_at_lem n + k) numbers
  pub points : PointsAt w (points_at_lem n + k) p steps

-- all rows are gone back
pub record Walked (n : ℕ) (L w : List ℤ) (top v : ℕ) (w' : List ℤ) : Type 0 where
  pub start : ℕ
  pub read : Reading n L top v w' 0 start
  pub scratch : Scratch (walk_at_lem n) (plain_end n) w w'

module _ {n : ℕ} {L w₀ : List ℤ} {top v : ℕ} (a : WalkReady n L w₀ top v) where
  abbrev E : List Step
  E = plain_of L

  -- nothing is read back yet
  pub reading_start : Reading n L top v (set w₀ (points_at_lem n + top) (pos v)) top v
  reading_start = record {
    within = a.within;
    steps = [];
    numbers = [];
    count = omega arith;
    counted = refl;
    named = tt;
    walk = walk_none v;
    sum = sym (⊕_zero (at (zero_at E n top) v));
    changed = λ j e.
        let z : a.last ≡ j = omega (arith, a.top_is, e) in
        subst (λ (x : ℕ). Changed E n x v) z a.changed;
    stand = λ i h. absurd (omega arith);
    points = λ i h.
        let z : points_at_lem n + top + i ≡ points_at_lem n + top = omega arith in
        let y : i ≡ 0 = omega arith in
        ap (number (set w₀ (points_at_lem n + top) (pos v))) z ∙ get_or-set_same w₀ (points_at_lem n + top) (pos v) (pos 0) (omega (arith, a.room, a.few)) ∙ sym (ap (λ (x : ℕ). pos (point_after v [] x)) y);
  }

  pub start_scratch : Scratch (walk_at_lem n) (plain_end n) w₀ (set w₀ (points_at_lem n + top) (pos v))
  start_scratch = scratch_set (walk_at_lem n) (plain_end n) w₀ (points_at_lem n + top) (pos v) (omega arith) (omega (arith, a.few))

  module _ (w : List ℤ) (j p : ℕ) (c : Scratch (walk_at_lem n) (plain_end n) w₀ w) (b : Reading n L top v w (suc j) p) where
    rows : Standing (plain_of L) n w top
    rows = standing_kept (row_before n top a.few) c a.rows

    few : suc j ≤ top
    few = omega (arith, b.count)

    still : length w ≡ length w₀
    still = c.same_length

    next_before : j * n + n + n ≤ walk_at_lem n
    next_before = omega (arith, row_before n (suc j) (omega (arith, few, a.few)))

    abbrev old : List ℤ
    old = row_in n w (j * n)

    old_length : length old ≡ n
    old_length = in_length n w (j * n) (omega (arith, next_before, a.room, still))

    -- entries where they stand
    old_at : (q : ℕ) → q < n → number (row_in n w (j * n)) q ≡ stored (at (zero_at (plain_of L) n j) q)
    old_at q h = get_or-take n (drop (j * n) w) q (pos 0) h ∙ get_or-drop (j * n) w q (pos 0) ∙ rows.rows j (omega (arith, few)) q h

    here_is : number w (j * n + n + p) ≡ stored (at (zero_at (plain_of L) n (suc j)) p)
    here_is =
        let i : j * n + n + p ≡ suc j * n + p = omega arith in
        ap (number w) i ∙ rows.rows (suc j) few p b.within

    old_row : OldRow L (row_in n w (j * n))
    old_row = record {
      plain = rw old_length a.plain;
      small = λ q h.
          let l : q < n = omega (arith, h, old_length) in
          let s = zero_some E n j q l in
          let e : number (row_in n w (j * n)) q ≡ s.0 = old_at q l ∙ ap stored s.1 in
          rw e (zero_short a.plain j (omega (arith, few, a.few)) q s.0 s.1);
    }

    -- the step along which the entry came is of some line
    pub find_ready : FindReady L (row_in n w (j * n)) p (number w (j * n + n + p))
    find_ready =
        let g = changed_along E n j p (b.changed j refl) in
        let t = g.step in
        let k = plain_line L t g.member in
        let l = ends_within a.plain t g.member in
        let x = zero_some E n j t.from l.0 in
        let there : number (row_in n w (j * n)) t.from ≡ x.0 = old_at t.from l.0 ∙ ap stored x.1 in
        let here : number w (j * n + n + p) ≡ x.0 +ℤ t.weight = here_is ∙ ap stored (g.value ∙ ap (λ (d : Distance). d ⊕ t.weight) x.1) in
        record {
          row = old_row;
          line = k.0;
          is = record {
            inside = k.1;
            makes = step_makes (row_in n w (j * n)) p (number w (j * n + n + p)) _
                (subst (λ (y : Step). StepMade (row_in n w (j * n)) p (number w (j * n + n + p)) y) (sym k.2)
                (record {
                  ends = sym g.ends;
                  known = λ q. not_absent x.0 (zero_short a.plain j (omega (arith, few, a.few)) t.from x.0 x.1) (sym there ∙ q);
                  sum = ap (λ (z : ℤ). z +ℤ t.weight) there ∙ sym here;
                }));
          };
        }

    pub back_ready : BackReady n L w (j * n) p (walk_at_lem n + j) (points_at_lem n + j)
    back_ready = record {
      plain = a.plain;
      within = b.within;
      find = find_ready;
      rows = omega (arith, next_before);
      slot_in = omega (arith, few, a.few, a.room, still);
      place_in = omega (arith, few, a.few, a.room, still);
    }

    -- one row back
    module _ (w' : List ℤ) (r : ℕ) (s : SteppedBack n L w (j * n) p (walk_at_lem n + j) (points_at_lem n + j) w' r) where
      abbrev t : Step
      t = plain_step_lem (line_at L s.line)

      m : StepMade (row_in n w (j * n)) p (number w (j * n + n + p)) (plain_step_lem (line_at L s.line))
      m = step_made (row_in n w (j * n)) p (number w (j * n + n + p)) t s.is.makes

      ends : ((plain_step_lem (line_at L s.line)).from < n) × ((plain_step_lem (line_at L s.line)).to < n)
      ends = ends_within a.plain t (step_among a.plain s.line s.is.inside)

      -- the entry that it makes
      along : at (zero_at (plain_of L) n (suc j)) p ≡ at (zero_at (plain_of L) n j) (plain_step_lem (line_at L s.line)).from ⊕ (plain_step_lem (line_at L s.line)).weight
      along =
          let x = zero_some E n j t.from ends.0 in
          let y = zero_some E n (suc j) p b.within in
          let e : x.0 +ℤ t.weight ≡ y.0 = ap (λ (z : ℤ). z +ℤ t.weight) (sym (old_at t.from ends.0 ∙ ap stored x.1)) ∙ m.sum ∙ here_is ∙ ap stored y.1 in
          y.1 ∙ ap some (sym e) ∙ ap (λ (d : Distance). d ⊕ t.weight) (sym x.1)

      number_ok : (plain_number_lem L s.line < 2 * line_count L) × (step_numbered_lem L (plain_number_lem L s.line) ≡ Some (plus (plain_step_lem (line_at L s.line))))
      number_ok = plain_numbered L a.plain.all s.line s.is.inside

      abbrev w₁ : List ℤ
      w₁ = set w (walk_at_lem n + j) (pos (plain_number_lem L s.line))

      long : length w₁ ≡ length w
      long = length-set w (walk_at_lem n + j) _

      -- what stands at another place than the two is kept
      kept : (i : ℕ) → (i ≡ walk_at_lem n + j → ⊥) → (i ≡ points_at_lem n + j → ⊥) → number w' i ≡ number w i
      kept i d e = ap (λ (x : List ℤ). number x i) s.area ∙ get_or-set_other w₁ (points_at_lem n + j) i (pos r) (pos 0) e ∙ get_or-set_other w (walk_at_lem n + j) i _ (pos 0) d

      stand_more : Stand w' (walk_at_lem n + j) (plain_number_lem L s.line ∷ b.numbers)
      stand_more i h =
          let before = stand_before w (walk_at_lem n + suc j) (plain_number_lem L s.line) b.numbers (omega arith) (omega (arith, few, a.few, a.room, still)) (omega (arith, number_ok.0, a.plain.works.count)) b.stand in
          let q : walk_at_lem n + suc j - 1 ≡ walk_at_lem n + j = omega arith in
          let f = subst (λ (x : ℕ). Stand (set w x (pos (plain_number_lem L s.line))) x (plain_number_lem L s.line ∷ b.numbers)) q before i h in
          (ap (λ (x : List ℤ). number x (walk_at_lem n + j + i)) s.area ∙ get_or-set_other w₁ (points_at_lem n + j) (walk_at_lem n + j + i) (pos r) (pos 0) (λ e. omega (arith, e, h, b.counted, b.count, a.few)) ∙ f.0, f.1)

      points_more : PointsAt w' (points_at_lem n + j) r (plain_step_lem (line_at L s.line) ∷ b.steps)
      points_more zero h =
          let z : points_at_lem n + j + 0 ≡ points_at_lem n + j = omega arith in
          ap (number w') z ∙ ap (λ (x : List ℤ). number x (points_at_lem n + j)) s.area ∙ get_or-set_same w₁ (points_at_lem n + j) (pos r) (pos 0) (omega (arith, long, few, a.few, a.room, still))
      points_more (suc i) h =
          let z : points_at_lem n + j + suc i ≡ points_at_lem n + suc j + i = omega arith in
          ap (number w') z ∙ kept (points_at_lem n + suc j + i) (λ e. omega (arith, e, few, a.few)) (λ e. omega (arith, e)) ∙ b.points i (omega arith) ∙ ap (λ (x : ℕ). pos (point_after x b.steps i)) (sym m.ends)

      pub more_scratch : Scratch (walk_at_lem n) (plain_end n) w w'
      more_scratch =
          rw s.area
          (scratch_trans (scratch_set (walk_at_lem n) (plain_end n) w (walk_at_lem n + j) _ (omega arith) (omega (arith, few, a.few)))
          (scratch_set (walk_at_lem n) (plain_end n) w₁ (points_at_lem n + j) (pos r) (omega arith) (omega (arith, few, a.few))))

      pub reading_more : Reading n L top v w' j r
      reading_more = record {
        within = rw s.from ends.0;
        steps = t ∷ b.steps;
        numbers = plain_number_lem L s.line ∷ b.numbers;
        count = omega (arith, b.count);
        counted = ap suc b.counted;
        named = (number_ok.1, b.named);
        walk = record { path = (s.from, rw m.ends b.walk.path); steps = (step_among a.plain s.line s.is.inside, b.walk.steps) };
        sum = b.sum ∙ ap (λ (d : Distance). d ⊕ total b.steps) along ∙ ⊕_assoc (at (zero_at E n j) t.from) t.weight (total b.steps) ∙ ap (λ (x : ℕ). at (zero_at E n j) x ⊕ (t.weight +ℤ total b.steps)) (sym s.from);
        changed = λ i e. rw s.from (earlier i e);
        stand = stand_more;
        points = points_more;
      }
        where
          earlier : (i : ℕ) → j ≡ suc i → Changed (plain_of L) n i (plain_step_lem (line_at L s.line)).from
          earlier i e =
              changed_before E n (ends_within a.plain) i t (step_among a.plain s.line s.is.inside)
              (subst (λ (x : ℕ). at (zero_at E n (suc x)) t.to ≡ at (zero_at E n x) t.from ⊕ t.weight) e (ap (at (zero_at E n (suc j))) m.ends ∙ along))
              (subst (λ (x : ℕ). Changed E n x t.to) e (rw m.ends (b.changed j refl)))
