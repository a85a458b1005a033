-- What stands in the cells is kept: one cell after another, each number below that of no step is written behind the others at the front.
use Rattle.std.specs.Prelude.{◌≡◌, List, ℕ, ◌+◌, ◌≤◌, ◌<◌, ℤ, pos, length, set}
use Rattle.std.proofs.Common.{◌∙◌, arith}
use Rattle.std.proofs.Math.Decide.{ℕ_discrete, dec_lt}
use Rattle.integers.specs.Integer.{◌⩽◌, ◌⋖◌}
use Rattle.integers.proofs.Linear.{ints}
use Rattle.lines.specs.Line.{number}
use Rattle.engine_packed_steps.specs.Steps.{stored_same, stored_last}
use Rattle.engine_packed_steps.specs.Scratch.{Scratch, scratch_none, scratch_trans, scratch_set, scratch_behind}
use Rattle.engine_merged_steps.specs.Cells.{no_step_lem}

-- the cells stand behind the front
pub record KeepReady (start cells : ℕ) (w : List ℤ) : Type 0 where
  pub before : cells ≤ start
  pub room : start + cells ≤ length w

-- z is what stands in a cell before c, and a step
pub record FromCell (start c : ℕ) (w : List ℤ) (z : ℤ) : Type 0 where
  pub cell : ℕ
  pub before : cell < c
  pub is : z ≡ number w (start + cell)
  pub some : z ⋖ pos no_step_lem

-- z is one of the first numbers
pub record AtFront (kept : ℕ) (w : List ℤ) (z : ℤ) : Type 0 where
  pub place : ℕ
  pub before : place < kept
  pub is : number w place ≡ z

-- the front after the cells before c: the steps that stand in these, and no others
pub record Keeping (start cells : ℕ) (w₀ w : List ℤ) (c kept : ℕ) : Type 0 where
  pub at_most : c ≤ cells
  pub no_more : kept ≤ c
  pub scratch : Scratch 0 cells w₀ w
  pub from : (i : ℕ) → i < kept → FromCell start c w₀ (number w i)
  pub all : (d : ℕ) → d < c → number w₀ (start + d) ⋖ pos no_step_lem → AtFront kept w (number w₀ (start + d))

pub keeping_start : (start cells : ℕ) (w : List ℤ) → Keeping start cells w w 0 0
keeping_start start cells w = record {
  at_most = omega arith;
  no_more = omega arith;
  scratch = scratch_none 0 cells w;
  from = λ i h. absurd (omega arith);
  all = λ d h. absurd (omega arith);
}

module _ {start cells c kept : ℕ} {w₀ w : List ℤ} (r : KeepReady start cells w₀) (p : Keeping start cells w₀ w c kept) (h : c < cells) where
  abbrev z : ℤ
  z = number w (start + c)

  abbrev w' : List ℤ
  w' = set w kept z

  z_is : z ≡ number w₀ (start + c)
  z_is = scratch_behind p.scratch (start + c) (omega (arith, r.before))

  room : kept < length w
  room = omega (arith, p.no_more, p.scratch.same_length, r.room)

  scratch_more : Scratch 0 cells w₀ w'
  scratch_more = scratch_trans p.scratch (scratch_set 0 cells w kept z (omega arith) (omega (arith, p.no_more)))

  from_old : (i : ℕ) → i < kept → FromCell start (c + 1) w₀ (number w' i)
  from_old i l =
      let f = p.from i l in
      let e = stored_same kept w z room i l in
      record { cell = f.cell; before = omega (arith, f.before); is = e ∙ f.is; some = rw e f.some }

  front_old : {y : ℤ} (more : ℕ) → kept ≤ more → AtFront kept w y → AtFront more w' y
  front_old more l a = record { place = a.place; before = omega (arith, a.before); is = stored_same kept w z room a.place a.before ∙ a.is }

  pub keeping_none : pos no_step_lem ⩽ z → Keeping start cells w₀ w' (c + 1) kept
  keeping_none g = record {
    at_most = omega arith;
    no_more = omega (arith, p.no_more);
    scratch = scratch_more;
    from = from_old;
    all = λ d l. each d l (ℕ_discrete d c);
  }
    where
      clash : (x y : ℤ) → pos no_step_lem ⩽ x → x ≡ y → y ⋖ pos no_step_lem → ⊥
      clash x y = simp ints (omega arith)

      each : (d : ℕ) → d < c + 1 → Dec (d ≡ c) → number w₀ (start + d) ⋖ pos no_step_lem → AtFront kept w' (number w₀ (start + d))
      each d l (yes e) b = absurd (clash z _ g z_is (rw e at b))
      each d l (no e) b = front_old kept (omega arith) (p.all d (omega arith) b)

  pub keeping_more : z ⋖ pos no_step_lem → Keeping start cells w₀ w' (c + 1) (kept + 1)
  keeping_more g = record {
    at_most = omega arith;
    no_more = omega (arith, p.no_more);
    scratch = scratch_more;
    from = λ i l. kept_from i l (dec_lt i kept);
    all = λ d l. each d l (ℕ_discrete d c);
  }
    where
      last : number w' kept ≡ z
      last = stored_last kept w z room

      kept_from : (i : ℕ) → i < kept + 1 → Dec (i < kept) → FromCell start (c + 1) w₀ (number w' i)
      kept_from i l (yes a) = from_old i a
      kept_from i l (no a) =
          let e : i ≡ kept = omega arith in
          rw (e, last) (record { cell = c; before = omega arith; is = z_is; some = g })

      each : (d : ℕ) → d < c + 1 → Dec (d ≡ c) → number w₀ (start + d) ⋖ pos no_step_lem → AtFront (kept + 1) w' (number w₀ (start + d))
      each d l (yes e) b = rw e (record { place = kept; before = omega arith; is = last ∙ z_is })
      each d l (no e) b = front_old (kept + 1) (omega arith) (p.all d (omega arith) b)
