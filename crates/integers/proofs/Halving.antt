-- Laws of halving, of the number nearest zero, and of the tests for the order and a range.
use Rattle.std.specs.Prelude.{◌≡◌, ◌↔◌, true, false, ℕ, ◌≤◌, ℤ, pos, neg_ℤ, nat_abs, ◌+ℤ◌}
use Rattle.std.proofs.Common.{arith}
use Rattle.std.specs.Int.Signed.{le_z, lt_z}
use Rattle.integers.specs.Integer.{◌⩽◌, ◌⋖◌, half, nearest_zero, is_within_lem, Within}
use Rattle.integers.specs.Laws.{and_true, both_true}
use Rattle.integers.proofs.Linear.{ints, zs, given}

-- halving is the greatest number whose double is not above
pub half_greatest : (z k : ℤ) → (k ⩽ half z) ↔ (k +ℤ k ⩽ z)
half_greatest z k = (fore z k, back z k)
  where
    fore : (z k : ℤ) → k ⩽ half z → k +ℤ k ⩽ z
    fore z k = simp ints (omega arith)

    back : (z k : ℤ) → k +ℤ k ⩽ z → k ⩽ half z
    back z k = simp ints (omega arith)

-- no number from lo to hi is nearer zero
pub nearest_least : (lo hi z : ℤ) → lo ⩽ z → z ⩽ hi → nat_abs (nearest_zero lo hi) ≤ nat_abs z
nearest_least lo hi z = simp ints (omega arith)

-- what the test of the order says
pub test_yes : (a b : ℤ) → lt_z a b ≡ true → a ⋖ b
test_yes a b = simp ints (omega arith)

pub test_no : (a b : ℤ) → lt_z a b ≡ false → b ⩽ a
test_no a b = simp ints (omega arith)

-- the test and the fact
pub is_within : (m : ℕ) (z : ℤ) → is_within_lem m z ≡ true → Within m z
is_within m z e =
    let h = and_true (le_z (neg_ℤ (pos m)) z) (le_z z (pos m)) e in
    record { low = given h.0 (simp ints (omega zs)); high = given h.1 (simp ints (omega zs)) }

pub within_is : (m : ℕ) (z : ℤ) → Within m z → is_within_lem m z ≡ true
within_is m z h = both_true (le_z (neg_ℤ (pos m)) z) (le_z z (pos m)) (given h.low (simp ints (omega zs))) (given h.high (simp ints (omega zs)))

-- a number that is no larger than m without its sign
pub abs_within : (m : ℕ) (z : ℤ) → nat_abs z ≤ m → Within m z
abs_within m z h = record { low = low m z h; high = high m z h }
  where
    low : (m : ℕ) (z : ℤ) → nat_abs z ≤ m → neg_ℤ (pos m) ⩽ z
    low m z = simp ints (omega arith)

    high : (m : ℕ) (z : ℤ) → nat_abs z ≤ m → z ⩽ pos m
    high m z = simp ints (omega arith)
