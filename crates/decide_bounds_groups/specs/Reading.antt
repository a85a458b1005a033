-- What is read off stored distances: a least value, and whether a distance is above 0.
use Rattle.std.specs.Prelude.{◌≡◌, refl, Bool, true, false, ◌&&◌, ℤ, pos, ◌-ℤ◌}
use Rattle.std.proofs.Common.{sym, ap, ◌∙◌, arith, SFits}
use Rattle.std.specs.Int.Signed.{le_z, lt_z}
use Rattle.std.specs.Int.{w64}
use Rattle.integers.specs.Integer.{Within}
use Rattle.integers.proofs.Linear.{ints, zs}
use Rattle.theory_walks.specs.Distance.{Distance, none, some}
use Rattle.lines.specs.Limits.{absent_least}
use Rattle.theory_bounds.specs.Answers.{least_of, not_above0}
use Rattle.decide_rows.specs.Stored.{stored}
use Rattle.decide_rows.specs.Read.{no_walk_lem, Short, max_distance, of_none, short_more}
use Rattle.decide_stored_table.specs.Sum.{read_back, minus_is}

-- ---- whether there is a walk
is_none : (d : Distance) → Short max_distance d → stored d ≡ no_walk_lem → d ≡ none
is_none d s e = sym (read_back d (short_more (omega arith) s)) ∙ of_none (stored d) e

pub within : (d : Distance) → Short max_distance d → (stored d ≡ no_walk_lem → ⊥) → Within max_distance (stored d)
within none s n = absurd (n refl)
within (some z) s n = s z refl

-- ---- the least value
pub least_none : (d : Distance) → Short max_distance d → stored d ≡ no_walk_lem → absent_least ≡ least_of d
least_none d s e = sym (ap least_of (is_none d s e))

pub least_some : (d : Distance) → (stored d ≡ no_walk_lem → ⊥) → pos 0 -ℤ stored d ≡ least_of d
least_some none n = absurd (n refl)
least_some (some z) n = minus_is z

pub minus_fits : (z : ℤ) → Within max_distance z → SFits w64 (pos 0 -ℤ z)
minus_fits z h = simp ints (omega zs)

-- ---- above 0: no walk is stored as a number above 0
not_above_is : (d : Distance) → le_z (stored d) (pos 0) ≡ not_above0 d
not_above_is none = refl
not_above_is (some z) = refl

-- of two distances: the first is above 0, or the second decides
module _ (a b : Distance) where
  pub apart_first : lt_z (pos 0) (stored a) ≡ true → false ≡ (not_above0 a && not_above0 b)
  apart_first h = sym (ap (λ (t : Bool). t && not_above0 b) (sym (not_above_is a) ∙ no (stored a) h))
    where
      no : (z : ℤ) → lt_z (pos 0) z ≡ true → le_z z (pos 0) ≡ false
      no z = simp ints (omega arith)

  pub second_decides : lt_z (pos 0) (stored a) ≡ false → le_z (stored b) (pos 0) ≡ (not_above0 a && not_above0 b)
  second_decides h = not_above_is b ∙ sym (ap (λ (t : Bool). t && not_above0 b) (sym (not_above_is a) ∙ yes_le (stored a) h))
    where
      yes_le : (z : ℤ) → lt_z (pos 0) z ≡ false → le_z z (pos 0) ≡ true
      yes_le z = simp ints (omega arith)
