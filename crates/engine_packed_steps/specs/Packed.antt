-- A step in one number: from the highest digits on its weight, its number in the list, its start and its end.
use Rattle.std.specs.Prelude.{◌≡◌, ℕ, ◌+◌, ◌*◌, ◌/◌, ◌%◌, ◌^◌, ◌≤◌, ◌<◌, ℤ, pos, nat_abs, ◌+ℤ◌, ◌-ℤ◌}
use Rattle.std.proofs.Common.{◌∙◌, arith}
use Rattle.std.specs.Int.{w64}
use mir.Val.{Fits, SFits, bits, hbits}
use Rattle.integers.specs.Integer.{◌⩽◌, Within}
use Rattle.integers.proofs.Linear.{ints, zs}
use Rattle.lines.specs.Limits.{max_variables, max_lines}
use Rattle.steps.specs.declared.Step.{Step}
use Rattle.steps.specs.Step.{max_weight}

-- a point, and a step's number in a list, are below these; the latter is twice the steps of a list of the most lines, which leaves room for one line more
abbrev pub point_radix : ℕ
point_radix = 2 * max_variables

abbrev pub number_radix : ℕ
number_radix = 2 * (2 * max_lines)

-- ---- the parts of a number
abbrev pub from_in_lem : ℕ → ℕ
from_in_lem z = z / point_radix % point_radix

abbrev pub to_in : ℕ → ℕ
to_in z = z % point_radix

abbrev pub number_in : ℕ → ℕ
number_in z = z / (point_radix * point_radix) % number_radix

-- the weight, moved to be not below 0
abbrev pub shifted_in : ℕ → ℕ
shifted_in z = z / (point_radix * point_radix * number_radix)

abbrev pub unpacked : ℕ → Step
unpacked z = record { from = from_in_lem z; to = to_in z; weight = pos (shifted_in z) -ℤ pos max_weight }

-- ---- a step packed
abbrev pub whole : ℕ → ℕ → ℕ → ℕ → ℕ
whole from to shifted number = ((shifted * number_radix + number) * point_radix + from) * point_radix + to

pub record Shifts (weight : ℤ) (shifted : ℕ) : Type 0 where
  pub is : pos shifted ≡ weight +ℤ pos max_weight
  pub high : shifted ≤ 2 * max_weight

pub record Packs (from to : ℕ) (weight : ℤ) (number : ℕ) (z : ℤ) : Type 0 where
  pub low : pos 0 ⩽ z
  pub step : unpacked (nat_abs z) ≡ record { from = from; to = to; weight = weight }
  pub numbered : number_in (nat_abs z) ≡ number

module _ (from to shifted number : ℕ) (a : from < point_radix) (b : to < point_radix) (c : number < number_radix) where
  pub from_is : from_in_lem (whole from to shifted number) ≡ from
  from_is = omega arith

  pub to_is : to_in (whole from to shifted number) ≡ to
  to_is = omega arith

  pub number_is : number_in (whole from to shifted number) ≡ number
  number_is = omega arith

  pub shifted_is : shifted_in (whole from to shifted number) ≡ shifted
  shifted_is = omega arith

pub packs : (from to shifted number : ℕ) (weight : ℤ) → from < point_radix → to < point_radix → number < number_radix → Shifts weight shifted → Packs from to weight number (pos (whole from to shifted number))
packs from to shifted number weight a b c s =
    let w : pos shifted -ℤ pos max_weight ≡ weight = back (pos shifted) weight s.is in
    record {
      low = simp ints (omega arith);
      step = rw (from_is from to shifted number a b c, to_is from to shifted number a b c, shifted_is from to shifted number a b c, w);
      numbered = number_is from to shifted number a b c;
    }
  where
    back : (x y : ℤ) → x ≡ y +ℤ pos max_weight → x -ℤ pos max_weight ≡ y
    back x y = simp ints (omega arith)

pub shift_fits : (w : ℤ) → Within max_weight w → SFits w64 (w +ℤ pos max_weight)
shift_fits w h = simp ints (omega zs)

pub shift_low : (w : ℤ) → Within max_weight w → pos 0 ⩽ w +ℤ pos max_weight
shift_low w h = simp ints (omega zs)

pub shift_high : (w : ℤ) → Within max_weight w → w +ℤ pos max_weight ⩽ pos (2 * max_weight)
shift_high w h = simp ints (omega zs)

pub shifts : (w z : ℤ) → z ≡ w +ℤ pos max_weight → pos 0 ⩽ z → z ⩽ pos (2 * max_weight) → Shifts w (nat_abs z)
shifts w z e l h = record { is = abs_is z l ∙ e; high = abs_high z l h }
  where
    abs_is : (z : ℤ) → pos 0 ⩽ z → pos (nat_abs z) ≡ z
    abs_is z = simp ints (omega arith)

    abs_high : (z : ℤ) → pos 0 ⩽ z → z ⩽ pos (2 * max_weight) → nat_abs z ≤ 2 * max_weight
    abs_high z = simp ints (omega arith)

pub sum_abs_fits : (w : ℤ) → Within max_weight w → Fits w64 (nat_abs (w +ℤ pos max_weight))
sum_abs_fits w h = record { fits = small (w +ℤ pos max_weight) (shift_low w h) (shift_high w h) }
  where
    small : (z : ℤ) → pos 0 ⩽ z → z ⩽ pos (2 * max_weight) → nat_abs z < 2 ^ bits w64
    small z = simp ints (omega arith)

-- ---- a weight read back
pub light_small : (n : ℕ) → Within max_weight (pos n -ℤ pos max_weight) → n < 2 ^ hbits w64
light_small n h = go n h.high
  where
    go : (n : ℕ) → pos n -ℤ pos max_weight ⩽ pos max_weight → n < 2 ^ hbits w64
    go n = simp ints (omega arith)

pub light_fits : (n : ℕ) → Within max_weight (pos n -ℤ pos max_weight) → SFits w64 (pos n -ℤ pos max_weight)
light_fits n h = go (pos n -ℤ pos max_weight) h
  where
    go : (z : ℤ) → Within max_weight z → SFits w64 z
    go z h = simp ints (omega zs)
