-- One number of the work area lowered to a value, where it is above it.
use Rattle.std.specs.Prelude.{◌≡◌, refl, ◌⊎◌, List, ℕ, ◌+◌, ◌<◌, ℤ, pos, length, set}
use Rattle.std.proofs.Common.{sym, subst, inl, inr, arith, get_or-set_same}
use Rattle.std.proofs.Math.Decide.{ℕ_discrete, dec_lt}
use Rattle.integers.specs.Integer.{◌⩽◌, ◌⋖◌}
use Rattle.integers.proofs.Linear.{ints}
use Rattle.lines.specs.Line.{number}
use Rattle.theory_walks.specs.Distance.{le_refl}
use Rattle.engine_packed_steps.specs.Scratch.{Scratch, scratch_none, scratch_set, scratch_at, scratch_behind}

pub record Lowered (at : ℕ) (z : ℤ) (w w' : List ℤ) : Type 0 where
  pub scratch : Scratch at (at + 1) w w'
  pub no_more : number w' at ⩽ number w at
  pub under : number w' at ⩽ z
  pub one : (number w' at ≡ number w at) ⊎ (number w' at ≡ z)

-- it is not above the value
pub lowered_stays : (at : ℕ) (z : ℤ) (w : List ℤ) → number w at ⩽ z → Lowered at z w w
lowered_stays at z w h = record { scratch = scratch_none at (at + 1) w; no_more = le_refl _; under = h; one = inl refl }

-- the value is stored
pub lowered_set : (at : ℕ) (z : ℤ) (w : List ℤ) → at < length w → z ⋖ number w at → Lowered at z w (set w at z)
lowered_set at z w room h = record {
  scratch = scratch_set at (at + 1) w at z (omega arith) (omega arith);
  no_more = rw is (below _ _ h);
  under = rw is (le_refl z);
  one = inr is;
}
  where
    is : number (set w at z) at ≡ z
    is = get_or-set_same w at z (pos 0) room

    below : (x y : ℤ) → x ⋖ y → x ⩽ y
    below x y = simp ints (omega arith)

module _ {at : ℕ} {z : ℤ} {w w' : List ℤ} (l : Lowered at z w w') where
  -- the other numbers are kept
  pub lowered_other : (i : ℕ) → (i ≡ at → ⊥) → number w' i ≡ number w i
  lowered_other i d = go (dec_lt i at)
    where
      go : Dec (i < at) → number w' i ≡ number w i
      go (yes h) = scratch_at l.scratch i h
      go (no h) = scratch_behind l.scratch i (omega (arith, h, d))

  pub lowered_no_more : (i : ℕ) → number w' i ⩽ number w i
  lowered_no_more i = go (ℕ_discrete i at)
    where
      go : Dec (i ≡ at) → number w' i ⩽ number w i
      go (yes e) = subst (λ (x : ℕ). number w' x ⩽ number w x) (sym e) l.no_more
      go (no d) = rw (lowered_other i d) (le_refl _)
