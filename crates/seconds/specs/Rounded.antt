-- The seconds of a count at a usable clock are its exact seconds, a fraction, rounded once: one law for both forms of a clock.
--
-- A tick lasts `over c` / `under c` seconds, exactly. The count as a float is the count, so that the one operation rounds that fraction times the count, and
-- equal fractions round alike (the toolchain's `round_same`).
use Rattle.std.specs.Prelude.{◌≡◌, Bool, true, false, cond, ℕ, zero, suc, ◌*◌, ◌≤◌, ◌<◌, ℤ, pos, negsuc, neg_ℤ, nat_abs, T, eqb, Float}
use Rattle.std.proofs.Common.{sym, ap, ◌∙◌, subst, mul-one, mul_comm, mul_assoc, mul_left_comm, mul-pos, zero-lt-suc, arith}
use Rattle.std.proofs.Math.Dec.{eqb-suc-zero}
use Rattle.std.specs.Float.{nan, inf, fin, binary64}
use Rattle.std.specs.Float.Ieee.{up, down, round, mul, div, of_int, unlike}
use Rattle.std.specs.Float.Ieee.Fits.{up_pos, down_pos}
use Rattle.std.specs.Float.Ieee.Exact.{HasValue}
use Rattle.std.specs.Float.Ieee.Scale.{round_same}
use Rattle.std.specs.Float.Ieee.Back.{round_whole}
use Rattle.integers.specs.Integer.{◌⩽◌}
use Rattle.integers.proofs.Halving.{is_within}
use Rattle.integers.proofs.Linear.{ints}
use Rattle.seconds.specs.declared.Clock.{Clock}
use Rattle.seconds.specs.declared.Clock.TheVariants.{SecondsPerTick, TicksPerSecond}
use Rattle.seconds.specs.Clock.{max_count, is_count, seconds_of_lem, usable, usable_clock_lem}

-- a float without its sign is `above x` / `below x`
abbrev pub above : Float → ℕ
above nan = 0
above (inf s) = 0
above (fin s m e) = m * up e

abbrev pub below : Float → ℕ
below nan = 1
below (inf s) = 1
below (fin s m e) = down e

-- what a tick lasts, as a fraction
abbrev pub over : Clock → ℕ
over (SecondsPerTick s) = above s
over (TicksPerSecond t) = below t

abbrev pub under : Clock → ℕ
under (SecondsPerTick s) = below s
under (TicksPerSecond t) = above t

abbrev pub negative : ℤ → Bool
negative (pos n) = false
negative (negsuc n) = true

-- a usable number's parts are above zero
pub above_pos : (x : Float) → T (usable x) → 0 < above x
above_pos nan h = absurd h
above_pos (inf s) h = absurd h
above_pos (fin true m e) h = absurd h
above_pos (fin false zero e) h = absurd h
above_pos (fin false (suc m) e) h = mul-pos (zero-lt-suc m) (up_pos e)

pub below_pos : (x : Float) → 0 < below x
below_pos nan = zero-lt-suc 0
below_pos (inf s) = zero-lt-suc 0
below_pos (fin s m e) = down_pos e

pub under_pos : (c : Clock) → T (usable_clock_lem c) → 0 < under c
under_pos (SecondsPerTick s) h = below_pos s
under_pos (TicksPerSecond t) h = above_pos t h

-- a whole number that is not too great is a float exactly
whole : (z : ℤ) → nat_abs z ≤ max_count → HasValue (of_int binary64 z) (negative z) (nat_abs z) 1
unfolding of_int
whole (pos n) h = round_whole binary64 false n h
whole (negsuc n) h = round_whole binary64 true (suc n) h

-- a count without its sign
pub count_size : (z : ℤ) → is_count z ≡ true → nat_abs z ≤ max_count
count_size z e = let w = is_within max_count z e in size max_count z w.low w.high
  where
    size : (m : ℕ) (z : ℤ) → neg_ℤ (pos m) ⩽ z → z ⩽ pos m → nat_abs z ≤ m
    size m z = simp ints (omega arith)

-- the count as a float is the count
pub count_exact : (z : ℤ) → is_count z ≡ true → HasValue (of_int binary64 z) (negative z) (nat_abs z) 1
count_exact z e = whole z (count_size z e)

like : (s t : Bool) → s ≡ t → unlike s false ≡ t
like true t e = e
like false t e = e

mul_value : (x : Float) (s : Bool) (n : ℕ) (y : Float) → HasValue x s n 1 → T (usable y) → mul binary64 x y ≡ round binary64 s (n * above y) (below y)
unfolding mul
mul_value nan s n y v h = absurd v
mul_value (inf t) s n y v h = absurd v
mul_value (fin t k d) s n nan v h = absurd h
mul_value (fin t k d) s n (inf u) v h = absurd h
mul_value (fin t k d) s n (fin true m e) v h = absurd h
mul_value (fin t k d) s n (fin false zero e) v h = absurd h
mul_value (fin t k d) s n (fin false (suc m) e) v h =
    let a = suc m * up e in
    ap (λ (b : Bool). round binary64 b (k * up d * a) (down d * down e)) (like t s v.0)
    ∙ round_same binary64 s (k * up d * a) (down d * down e) (n * a) (down e) (mul-pos (down_pos d) (down_pos e)) (down_pos e)
    (mul_assoc (k * up d) a (down e)
    ∙ ap (λ (q : ℕ). q * (a * down e)) (sym (mul-one (k * up d)) ∙ v.1)
    ∙ swap n (down d) a (down e))
  where
    swap : (n d a e : ℕ) → n * d * (a * e) ≡ n * a * (d * e)
    swap n d a e = simp (mul_assoc, mul_left_comm)

nonzero : (m : ℕ) (x y : Float) → cond (eqb (suc m) 0) x y ≡ y
nonzero m x y = ap (λ (b : Bool). cond b x y) (eqb-suc-zero m)

div_value : (x : Float) (s : Bool) (n : ℕ) (y : Float) → HasValue x s n 1 → T (usable y) → div binary64 x y ≡ round binary64 s (n * below y) (above y)
unfolding div
div_value nan s n y v h = absurd v
div_value (inf t) s n y v h = absurd v
div_value (fin t k d) s n nan v h = absurd h
div_value (fin t k d) s n (inf u) v h = absurd h
div_value (fin t k d) s n (fin true m e) v h = absurd h
div_value (fin t k d) s n (fin false zero e) v h = absurd h
div_value (fin t k d) s n (fin false (suc m) e) v h =
    let a = suc m * up e in
    nonzero m (cond (eqb k 0) nan (inf (unlike t false))) (round binary64 (unlike t false) (k * up d * down e) (a * down d))
    ∙ ap (λ (b : Bool). round binary64 b (k * up d * down e) (a * down d)) (like t s v.0)
    ∙ round_same binary64 s (k * up d * down e) (a * down d) (n * down e) a (mul-pos (mul-pos (zero-lt-suc m) (up_pos e)) (down_pos d)) (mul-pos (zero-lt-suc m) (up_pos e))
    (ap (λ (q : ℕ). q * down e * a) (sym (mul-one (k * up d)) ∙ v.1)
    ∙ swap n (down d) (down e) a)
  where
    swap : (n d e a : ℕ) → n * d * e * a ≡ n * e * (a * d)
    swap n d e a = simp (mul_assoc, mul_comm, mul_left_comm)

pub usable_true : (c : Clock) → usable_clock_lem c ≡ true → T (usable_clock_lem c)
usable_true c e = subst T (sym e) tt

-- the law of both forms: the seconds of a count are its exact seconds, |z| * over / under, rounded once
pub seconds_rounded : (c : Clock) (z : ℤ) → usable_clock_lem c ≡ true → is_count z ≡ true → seconds_of_lem c z ≡ round binary64 (negative z) (nat_abs z * over c) (under c)
seconds_rounded (SecondsPerTick s) z u e = mul_value (of_int binary64 z) (negative z) (nat_abs z) s (count_exact z e) (usable_true (SecondsPerTick s) u)
seconds_rounded (TicksPerSecond t) z u e = div_value (of_int binary64 z) (negative z) (nat_abs z) t (count_exact z e) (usable_true (TicksPerSecond t) u)
