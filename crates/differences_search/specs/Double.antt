-- A row written twice as large at another place, number by number.
use Rattle.std.specs.Prelude.{◌≡◌, List, ℕ, ◌+◌, ◌≤◌, ◌<◌, ℤ, pos, ◌+ℤ◌, length, set}
use Rattle.std.proofs.Common.{sym, subst, ◌∙◌, arith, get_or-set_same, get_or-set_other, SFits}
use Rattle.std.proofs.Math.Decide.{ℕ_discrete}
use Rattle.std.specs.Int.{w64}
use Rattle.integers.specs.Integer.{Within}
use Rattle.integers.proofs.Linear.{ints, zs}
use Rattle.lines.specs.Line.{number}
use Rattle.decide_rows.specs.Read.{max_distance}
use Rattle.engine_packed_steps.specs.Scratch.{Scratch, scratch_none, scratch_trans, scratch_set, scratch_at}

-- the row stands before the other place, and its numbers are small
pub record DoubleReady (from to n : ℕ) (w : List ℤ) : Type 0 where
  pub before : from + n ≤ to
  pub room : to + n ≤ length w
  pub small : (i : ℕ) → i < n → Within max_distance (number w (from + i))

-- the first k of them
pub record Doubled (from to n : ℕ) (w w' : List ℤ) (k : ℕ) : Type 0 where
  pub count : k ≤ n
  pub scratch : Scratch to (to + n) w w'
  pub twice : (i : ℕ) → i < k → number w' (to + i) ≡ number w (from + i) +ℤ number w (from + i)

pub double_fits : (z : ℤ) → Within max_distance z → SFits w64 (z +ℤ z)
double_fits z h = simp ints (omega zs)

pub single_fits : (z : ℤ) → Within max_distance z → SFits w64 z
single_fits z h = simp ints (omega zs)

pub doubled_start : (from to n : ℕ) (w : List ℤ) → Doubled from to n w w 0
doubled_start from to n w = record { count = omega arith; scratch = scratch_none to (to + n) w; twice = λ i h. absurd (omega arith) }

module _ {from to n : ℕ} {w w' : List ℤ} {k : ℕ} (r : DoubleReady from to n w) (d : Doubled from to n w w' k) (h : k < n) where
  -- the number that is next is as it was
  pub still : number w' (from + k) ≡ number w (from + k)
  still = scratch_at d.scratch (from + k) (omega (arith, r.before))

  pub doubled_more : (z : ℤ) → z ≡ number w (from + k) +ℤ number w (from + k) → Doubled from to n w (set w' (to + k) z) (k + 1)
  doubled_more z e = record {
    count = omega arith;
    scratch = scratch_trans d.scratch (scratch_set to (to + n) w' (to + k) z (omega arith) (omega arith));
    twice = λ i l. each i l (ℕ_discrete i k);
  }
    where
      each : (i : ℕ) → i < k + 1 → Dec (i ≡ k) → number (set w' (to + k) z) (to + i) ≡ number w (from + i) +ℤ number w (from + i)
      each i l (yes q) =
          subst (λ (j : ℕ). number (set w' (to + k) z) (to + j) ≡ number w (from + j) +ℤ number w (from + j)) (sym q)
          (get_or-set_same w' (to + k) z (pos 0) (omega (arith, r.room, d.scratch.same_length)) ∙ e)
      each i l (no q) = get_or-set_other w' (to + k) (to + i) z (pos 0) (λ x. q (omega (arith, x))) ∙ d.twice i (omega arith)
