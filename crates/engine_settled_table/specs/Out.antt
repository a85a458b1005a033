-- An entry of the table as a distance: turned back by the numbers of its two points.
use Rattle.std.specs.Prelude.{◌≡◌, Bool, true, false, cond, ℤ, pos, ◌+ℤ◌, ◌-ℤ◌}
use Rattle.std.proofs.Common.{ap, SFits}
use Rattle.std.specs.Int.Signed.{lt_z}
use Rattle.std.specs.Int.{w64}
use Rattle.integers.specs.Integer.{◌⩽◌, half, Within}
use Rattle.integers.proofs.Linear.{ints, zs}
use Rattle.theory_walks.specs.Distance.{Distance, none, some}
use Rattle.engine_reduced_table.specs.Reduced.{far, max_potential}

-- z less the difference of the two points' numbers, halved
unfoldable pub out_of : ℤ → ℤ → ℤ → Distance
out_of a b z = cond (lt_z z (pos far)) (some (half ((z +ℤ b) -ℤ a))) none

pub out_near : (a b z : ℤ) → lt_z z (pos far) ≡ true → out_of a b z ≡ some (half ((z +ℤ b) -ℤ a))
unfolding out_of
out_near a b z e = ap (λ (t : Bool). cond t (some (half ((z +ℤ b) -ℤ a))) none) e

pub out_far : (a b z : ℤ) → lt_z z (pos far) ≡ false → out_of a b z ≡ none
unfolding out_of
out_far a b z e = ap (λ (t : Bool). cond t (some (half ((z +ℤ b) -ℤ a))) none) e

pub record OutReady (z own other : ℤ) : Type 0 where
  pub low : pos 0 ⩽ z
  pub high : z ⩽ pos far
  pub own_small : Within max_potential own
  pub other_small : Within max_potential other

pub plus_fits : (z b : ℤ) → pos 0 ⩽ z → z ⩽ pos far → Within max_potential b → SFits w64 (z +ℤ b)
plus_fits z b l h k = simp ints (omega zs)

pub less_fits : (z a b : ℤ) → pos 0 ⩽ z → z ⩽ pos far → Within max_potential a → Within max_potential b → SFits w64 ((z +ℤ b) -ℤ a)
less_fits z a b l h k m = simp ints (omega zs)
