-- The steps at the front of the work area, one after another replaced by the step between the renamed points.
use Rattle.std.specs.Prelude.{◌≡◌, refl, List, ◌∷◌, map, ℕ, zero, suc, ◌+◌, ◌*◌, ◌≤◌, ◌<◌, ℤ, pos, nat_abs, length, set}
use Rattle.std.proofs.Math.Path.{sym}
use Rattle.std.proofs.Common.{ap, subst, ◌∙◌, arith, get_or-set_same, get_or-set_other}
use Rattle.std.proofs.Math.Decide.{ℕ_discrete}
use Rattle.integers.specs.Sequence.{tabulate, tabulate_cong}
use Rattle.lines.specs.Limits.{max_variables}
use Rattle.lines.specs.Line.{number}
use Rattle.steps.specs.declared.Step.{Step}
use Rattle.theory_covering.specs.Covers.{renamed_step}
use Rattle.engine_packed_steps.specs.Packed.{unpacked, Packs}
use Rattle.engine_packed_steps.specs.Steps.{step_in_lem, steps_in, StepOk, StepsReady}
use Rattle.engine_packed_steps.specs.Scratch.{Scratch, scratch_none, scratch_trans, scratch_set}
use Rattle.engine_renaming.specs.Inverse.{Inverse, Same, same_behind, renamed_point_lem, renamed_low, renamed_same, inverse_kept}

pub record RenameReady (count n at : ℕ) (w : List ℤ) : Type 0 where
  pub few : n ≤ max_variables
  pub steps : StepsReady count at (2 * n) w
  pub inverse : Inverse n at w
  pub room : at + 3 * n ≤ length w

-- every step is the one between the renamed points, and nothing else is changed
pub record StepsRenamed (count n at : ℕ) (w w' : List ℤ) : Type 0 where
  pub are : steps_in count w' ≡ map (renamed_step (renamed_point_lem at w)) (steps_in count w)
  pub ready : StepsReady count at (2 * n) w'
  pub scratch : Scratch 0 count w w'

-- ---- one step
pub record StepPut (n at i : ℕ) (w w' : List ℤ) : Type 0 where
  pub packed : ℤ
  pub is : w' ≡ set w i packed
  pub ok : StepOk (2 * n) packed
  pub step : unpacked (nat_abs packed) ≡ renamed_step (renamed_point_lem at w) (step_in_lem w i)

-- the step z that the code packs, as it is to be stored
module _ {count n at : ℕ} {w : List ℤ} (r : RenameReady count n at w) (i : ℕ) (h : i < count) where
  pub from_low : (step_in_lem w i).from < 2 * n
  from_low = (r.steps.ok i h).from_lt

  pub to_low : (step_in_lem w i).to < 2 * n
  to_low = (r.steps.ok i h).to_lt

  put : (z : ℤ) → Packs (renamed_point_lem at w (step_in_lem w i).from) (renamed_point_lem at w (step_in_lem w i).to) (step_in_lem w i).weight 0 z → StepPut n at i w (set w i z)
  put z p = record {
    packed = z;
    is = refl;
    ok = record {
      low = p.low;
      from_lt = rw (ap (λ (s : Step). s.from) p.step) (renamed_low r.inverse (step_in_lem w i).from from_low);
      to_lt = rw (ap (λ (s : Step). s.to) p.step) (renamed_low r.inverse (step_in_lem w i).to to_low);
      light = rw (ap (λ (s : Step). s.weight) p.step) (r.steps.ok i h).light;
    };
    step = p.step;
  }

  pub step_put : (from to : ℕ) (t : Step) → t ≡ step_in_lem w i → from ≡ renamed_point_lem at w t.from → to ≡ renamed_point_lem at w t.to → (z : ℤ) → Packs from to t.weight 0 z → StepPut n at i w (set w i z)
  step_put from to t e f g z p = put z (subst (λ (s : Step). Packs (renamed_point_lem at w s.from) (renamed_point_lem at w s.to) s.weight 0 z) e (rw (f, g) at p))

-- ---- the first i steps are renamed, the others are as they were
pub record RenamedTo (count n at : ℕ) (w₀ w : List ℤ) (i : ℕ) : Type 0 where
  pub at_most : i ≤ count
  pub scratch : Scratch 0 count w₀ w
  pub ok : (k : ℕ) → k < count → StepOk (2 * n) (number w k)
  pub done : (k : ℕ) → k < i → step_in_lem w k ≡ renamed_step (renamed_point_lem at w₀) (step_in_lem w₀ k)
  pub left : (k : ℕ) → i ≤ k → number w k ≡ number w₀ k

map_tabulate : (f : Step → Step) (n : ℕ) (g : ℕ → Step) → map f (tabulate n g) ≡ tabulate n (λ k. f (g k))
map_tabulate f zero g = refl
map_tabulate f (suc n) g = ap (λ (l : List Step). f (g zero) ∷ l) (map_tabulate f n (λ k. g (suc k)))

module _ (count n at : ℕ) (w₀ : List ℤ) (r : RenameReady count n at w₀) where
  pub renamed_start : RenamedTo count n at w₀ w₀ 0
  renamed_start = record { at_most = omega arith; scratch = scratch_none 0 count w₀; ok = r.steps.ok; done = λ k h. absurd (omega arith); left = λ k h. refl }

  module _ (w : List ℤ) (i : ℕ) (p : RenamedTo count n at w₀ w i) where
    places_same : Same at (at + 2 * n) w₀ w
    places_same = same_behind p.scratch at (at + 2 * n) r.steps.before

    steps_ready : StepsReady count at (2 * n) w
    steps_ready = record { few = r.steps.few; before = r.steps.before; room = omega (arith, r.steps.room, p.scratch.same_length); ok = p.ok }

    -- what renaming asks holds on the way
    pub rename_ready : RenameReady count n at w
    rename_ready = record { few = r.few; steps = steps_ready; inverse = inverse_kept r.inverse places_same; room = omega (arith, r.room, p.scratch.same_length) }

    -- the step at i is as at first, and so are the places
    put_first : i < count → renamed_step (renamed_point_lem at w) (step_in_lem w i) ≡ renamed_step (renamed_point_lem at w₀) (step_in_lem w₀ i)
    put_first h =
        let s = step_in_lem w₀ i in
        let o = r.steps.ok i h in
        ap (λ (z : ℤ). renamed_step (renamed_point_lem at w) (unpacked (nat_abs z))) (p.left i (omega arith))
        ∙ rw (renamed_same r.inverse places_same s.from o.from_lt, renamed_same r.inverse places_same s.to o.to_lt)

    -- A number stored at i changes no other: the steps before i stay renamed, and those behind stay as they were. What is
    -- stored was made of the step that stood there at first, by the places as they were at first: the steps stand before these.
    pub renamed_more : i < count → (w' : List ℤ) → StepPut n at i w w' → RenamedTo count n at w₀ w' (i + 1)
    renamed_more h w' q = rw q.is (record {
      at_most = omega arith;
      scratch = scratch_trans p.scratch (scratch_set 0 count w i z (omega arith) h);
      ok = λ k l. each_ok k l (ℕ_discrete k i);
      done = λ k l. each_done k l (ℕ_discrete k i);
      left = λ k l. get_or-set_other w i k z (pos 0) (λ e. omega (arith, e, l)) ∙ p.left k (omega arith);
    })
      where
        z : ℤ
        z = q.packed

        here : number (set w i z) i ≡ z
        here = get_or-set_same w i z (pos 0) (omega (arith, h, r.steps.before, r.steps.room, p.scratch.same_length))

        other : (k : ℕ) → ¬ (k ≡ i) → number (set w i z) k ≡ number w k
        other k d = get_or-set_other w i k z (pos 0) d

        each_ok : (k : ℕ) → k < count → Dec (k ≡ i) → StepOk (2 * n) (number (set w i z) k)
        each_ok k l (yes e) = rw (e, here) q.ok
        each_ok k l (no d) = rw (other k d) (p.ok k l)

        each_done : (k : ℕ) → k < i + 1 → Dec (k ≡ i) → step_in_lem (set w i z) k ≡ renamed_step (renamed_point_lem at w₀) (step_in_lem w₀ k)
        each_done k l (yes e) = rw (e, here) (q.step ∙ put_first h)
        each_done k l (no d) = rw (other k d) (p.done k (omega arith))

    pub renamed_end : i ≡ count → StepsRenamed count n at w₀ w
    unfolding steps_in
    renamed_end e = record {
      are = tabulate_cong count (step_in_lem w) _ (λ k l. p.done k (omega arith)) ∙ sym (map_tabulate (renamed_step (renamed_point_lem at w₀)) count (step_in_lem w₀));
      ready = steps_ready;
      scratch = p.scratch;
    }
