-- A part of the work area filled with one value.
use Rattle.std.specs.Prelude.{◌≡◌, List, ℕ, ◌+◌, ◌≤◌, ◌<◌, ℤ, pos, length, set}
use Rattle.std.proofs.Math.Decide.{ℕ_discrete}
use Rattle.std.proofs.Common.{arith, get_or-set_same, get_or-set_other}
use Rattle.lines.specs.Line.{number}
use Rattle.engine_packed_steps.specs.Scratch.{Scratch, scratch_none, scratch_trans, scratch_set}

-- the numbers from `from` on, before i, are the value; only what lies before `end` is changed
pub record Filled (from end : ℕ) (value : ℤ) (i : ℕ) (w w' : List ℤ) : Type 0 where
  pub low : from ≤ i
  pub high : i ≤ end
  pub scratch : Scratch from end w w'
  pub are : (p : ℕ) → from ≤ p → p < i → number w' p ≡ value

pub filled_none : (from end : ℕ) (value : ℤ) (w : List ℤ) → from ≤ end → Filled from end value from w w
filled_none from end value w h = record { low = omega arith; high = h; scratch = scratch_none from end w; are = λ p a b. absurd (omega (arith, a, b)) }

pub filled_more : {from end : ℕ} {value : ℤ} {i : ℕ} {w w' : List ℤ} → end ≤ length w → Filled from end value i w w' → i < end → Filled from end value (i + 1) w (set w' i value)
filled_more {from} {end} {value} {i} {w} {w'} room f h = record {
  low = omega (arith, f.low);
  high = omega (arith, h);
  scratch = scratch_trans f.scratch (scratch_set from end w' i value f.low h);
  are = λ p a b. each p a b (ℕ_discrete p i);
}
  where
    each : (p : ℕ) → from ≤ p → p < i + 1 → Dec (p ≡ i) → number (set w' i value) p ≡ value
    each p a b (yes e) = rw (e, get_or-set_same w' i value (pos 0) (omega (arith, room, h, f.scratch.same_length)))
    each p a b (no n) = rw (get_or-set_other w' i p value (pos 0) (λ x. n (omega (arith, x)))) (f.are p a (omega (arith, b, n)))
