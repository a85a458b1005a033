-- The steps laid at the front are those that stand for the list's, whether all are written or the cells are kept.
use Rattle.std.specs.Prelude.{◌≡◌, List, ℕ, ◌+◌, ◌*◌, ◌≤◌, ◌<◌, ℤ, pos}
use Rattle.std.proofs.Common.{sym, ap, subst, ◌∙◌, inl, inr, arith}
use Rattle.integers.specs.Integer.{◌⩽◌, ◌⋖◌}
use Rattle.integers.proofs.Linear.{ints}
use Rattle.lines.specs.Line.{number, line_count, lines_of}
use Rattle.lines.specs.Valid.{all_ok}
use Rattle.steps.specs.declared.Step.{Step}
use Rattle.steps.specs.Step.{steps_of}
use Rattle.theory_walks.specs.Row.{In}
use Rattle.theory_walks.specs.Mirror.{Mirrored}
use Rattle.theory_covering.specs.Covers.{Merged, Lighter, merged_same, least_mirrored}
use Rattle.theory_walks.specs.Graph.{steps_mirrored}
use Rattle.decide_rows.specs.Numbers.{steps_before, before_all}
use Rattle.engine_packed_steps.specs.Steps.{StepOk, step_in_lem, steps_in, step_in, tabulate_all}
use Rattle.engine_packed_steps.specs.Scratch.{scratch_trans, scratch_wider}
use Rattle.engine_packed_steps.specs.Layout.{walks_at}
use Rattle.engine_packed_steps.specs.Written.{Written}
use Rattle.engine_packed_steps.specs.Laid.{LayReady, Laid}
use Rattle.engine_merged_steps.specs.Cells.{no_step_lem, step_of_number, cell_of, cell_lt, cell_ends, Cleared, StepsPut, Stands, CellIs}
use Rattle.engine_merged_steps.specs.Keep.{Keeping, FromCell}

-- ---- all steps
pub written_laid : {n : ℕ} {L w w' : List ℤ} {r : ℕ} → LayReady n L w → 2 * line_count L ≤ 2 * n * (2 * n) → Written n L w w' r → Laid n L w w' r
written_laid {n} {L} {w} {w'} {r} a h f = record {
  no_more = omega (arith, f.no_more);
  scratch = scratch_wider (omega arith) (omega arith) f.scratch;
  ok = f.ok;
  merged = subst (Merged (steps_of (lines_of L))) (sym f.are) (merged_same (steps_of (lines_of L)));
  mirrored = subst Mirrored (sym f.are) (steps_mirrored n (lines_of L) (all_ok n L a.valid));
}

-- ---- the lightest between each two points
-- Each kept number stands in its cell, and in a step's cell stands one that is no heavier: these are the lightest.
module _ {n start : ℕ} {L w w₁ w₂ w₃ : List ℤ} {r : ℕ} (a : LayReady n L w) (f : Cleared start (2 * n * (2 * n)) w w₁ (2 * n * (2 * n))) (p : StepsPut n start L w₁ w₂ (2 * line_count L)) (k : Keeping start (2 * n * (2 * n)) w₂ w₃ (2 * n * (2 * n)) r) where
  abbrev m : ℕ
  m = 2 * n

  abbrev E : List Step
  E = steps_of (lines_of L)

  -- what stands in a cell
  stands_at : (c : ℕ) → c < m * m → number w₂ (start + c) ⋖ pos no_step_lem → Stands m E c (number w₂ (start + c))
  stands_at c l h = go (p.stands c l) h
    where
      clash : (z : ℤ) → z ≡ pos no_step_lem → z ⋖ pos no_step_lem → ⊥
      clash z = simp ints (omega arith)

      go : {z : ℤ} → CellIs m (steps_before L (2 * line_count L)) c z → z ⋖ pos no_step_lem → Stands m E c z
      go {z} (inl e) g = absurd (clash z e g)
      go {z} (inr s) g = rw (before_all L) at s

  -- a kept number stands in the cell of its step
  record InCell (z : ℤ) : Type 0 where
    ok : StepOk m z
    member : In (step_of_number z) E
    is : number w₂ (start + cell_of m (step_of_number z)) ≡ z

  kept_in : (i : ℕ) → i < r → InCell (number w₃ i)
  kept_in i l = go (k.from i l)
    where
      go : {z : ℤ} → FromCell start (m * m) w₂ z → InCell z
      go {z} b =
          let s = subst (Stands m E b.cell) (sym b.is) (stands_at b.cell b.before (rw b.is at b.some)) in
          record { ok = s.ok; member = s.member; is = ap (λ (c : ℕ). number w₂ (start + c)) s.cell ∙ sym b.is }

  abbrev F : List Step
  F = steps_in r w₃

  -- what holds of each kept number holds of each step at the front
  each_kept : (P : Step → Type 0) → ((z : ℤ) → InCell z → P (step_of_number z)) → (s : Step) → In s F → P s
  unfolding steps_in
  each_kept P g = tabulate_all P r (step_in_lem w₃) (λ i l. g (number w₃ i) (kept_in i l))

  covers : (s : Step) → In s E → Lighter (λ x. x) F s
  covers s i =
      let b = p.least s (subst (In s) (sym (before_all L)) i) in
      let c = cell_of m s in
      let l = cell_lt m s.from s.to b.from_lt b.to_lt in
      let t = stands_at c l b.there in
      let e = cell_ends m _ _ s.from s.to t.ok.to_lt b.to_lt t.cell in
      let q = k.all c l b.there in
      record {
        step = step_of_number (number w₂ (start + c));
        member = subst (λ (z : ℤ). In (step_of_number z) F) q.is (step_in r w₃ q.place q.before);
        from_same = e.0;
        to_same = e.1;
        light = b.light;
      }

  merged : Merged E F
  merged = record { kept = each_kept (λ s. In s E) (λ z b. b.member); covers = covers }

  least : (s t : Step) → In s F → In t E → s.from ≡ t.from → s.to ≡ t.to → s.weight ⩽ t.weight
  least s t i j e g = each_kept (λ x. x.from ≡ t.from → x.to ≡ t.to → x.weight ⩽ t.weight) one s i e g
    where
      one : (z : ℤ) → InCell z → (step_of_number z).from ≡ t.from → (step_of_number z).to ≡ t.to → (step_of_number z).weight ⩽ t.weight
      one z b x y =
          let l = p.least t (subst (In t) (sym (before_all L)) j) in
          let same : number w₂ (start + cell_of m t) ≡ z = rw (sym x, sym y) b.is in
          subst (λ (v : ℤ). (step_of_number v).weight ⩽ t.weight) same l.light

  pub merged_laid : m * m ≤ start → start + m * m ≡ walks_at n → Laid n L w w₃ r
  merged_laid before ends = record {
    no_more = omega (arith, k.no_more);
    scratch = scratch_trans (scratch_wider (omega arith) (omega (arith, ends)) f.scratch) (scratch_trans (scratch_wider (omega arith) (omega (arith, ends)) p.scratch) (scratch_wider (omega arith) (omega (arith, ends)) k.scratch));
    ok = λ i l. (kept_in i l).ok;
    merged = merged;
    mirrored = least_mirrored E F merged (steps_mirrored n (lines_of L) (all_ok n L a.valid)) least;
  }
