-- Order is kept: of two counts of one usable clock, the smaller one's seconds are no larger, as floats.
--
-- Rounding keeps the order of what is not negative (the toolchain's `round_mono`), and a negative one's rounding is the mirror image: the sign goes through
-- `round` untouched, and comparison turns round with it.
use Rattle.std.specs.Prelude.{◌≡◌, Bool, true, false, cond, ◌&&◌, ◌||◌, ℤ, pos, negsuc, nat_abs, T, eqb, ltb, Float}
use Rattle.std.proofs.Math.Path.{refl}
use Rattle.std.proofs.Common.{sym, subst, ap₂, ◌∙◌, true≢false, mul-le-mul_right, arith, leb→le, lt→ltb, eqb→eq}
use Rattle.std.proofs.lemmas.Bool.{false≢true}
use Prim.Native.Nat.{ℕ, zero, suc, ◌+◌, ◌-◌, ◌*◌, ◌/◌, ◌%◌, ◌^◌, ◌≤◌, ◌<◌, compare}
use Rattle.std.specs.Int.Signed.{le_z, ≤ℤ_refl}
use Rattle.std.proofs.Math.Dec.{eqb_refl}
use Rattle.std.specs.Float.{nan, inf, fin, Format, binary64}
use Rattle.std.specs.Float.Ieee.{prec, emax, low, up, down, size, nearest, odd, units, round, neg, le, is_nan}
use Rattle.std.specs.Float.Ieee.Order.{round_mono}
use Rattle.integers.specs.Integer.{◌⩽◌}
use Rattle.seconds.specs.declared.Clock.{Clock}
use Rattle.seconds.specs.Clock.{is_count, seconds_of_lem, usable_clock_lem}
use Rattle.seconds.specs.Rounded.{over, under, under_pos, negative, usable_true, seconds_rounded}

-- ---- the sign of what `round` gives
abbrev signed : Bool → Float → Type 0
signed s nan = ⊥
signed s (inf t) = t ≡ s
signed s (fin t m e) = t ≡ s

odd_signed : (d : ℕ) (s : Bool) (q k l : ℕ) → signed s (odd d s q k l)
unfolding odd
odd_signed d s zero k l = refl
odd_signed d s (suc q) k l = refl

odd_neg : (d : ℕ) (q k l : ℕ) → odd d true q k l ≡ neg (odd d false q k l)
unfolding odd neg
odd_neg d zero k l = refl
odd_neg d (suc q) k l = refl

units_signed : (f : Format) (s : Bool) (q k : ℕ) → signed s (units f s q k)
unfolding units
units_signed f s q k = go (ltb (q * 2 ^ k) (2 ^ (low f + suc (emax f))))
  where
    go : (b : Bool) → signed s (cond b (odd (suc (prec f)) s q k (low f)) (inf s))
    go true = odd_signed (suc (prec f)) s q k (low f)
    go false = refl

units_neg : (f : Format) (q k : ℕ) → units f true q k ≡ neg (units f false q k)
unfolding units
units_neg f q k = go (ltb (q * 2 ^ k) (2 ^ (low f + suc (emax f))))
  where
    go : (b : Bool) → cond b (odd (suc (prec f)) true q k (low f)) (inf true) ≡ neg (cond b (odd (suc (prec f)) false q k (low f)) (inf false))
    go true = odd_neg (suc (prec f)) q k (low f)
    go false = unfold neg in refl

round_signed : (f : Format) (s : Bool) (a b : ℕ) → signed s (round f s a b)
unfolding round
round_signed f s a b =
    let n = a * 2 ^ low f in
    let k = size (n / b) - prec f in
    let u = b * 2 ^ k in
    units_signed f s (nearest (n / u) (compare (n % u * 2) u)) k

round_neg : (f : Format) (a b : ℕ) → round f true a b ≡ neg (round f false a b)
unfolding round
round_neg f a b =
    let n = a * 2 ^ low f in
    let k = size (n / b) - prec f in
    let u = b * 2 ^ k in
    units_neg f (nearest (n / u) (compare (n % u * 2) u)) k

-- ---- comparison
or_l : (a b : Bool) → T a → T (a || b)
or_l true b t = tt
or_l false b t = absurd t

turn : (a b : ℕ) → T (ltb a b || (eqb a b && true)) → T (ltb a b || (eqb b a && true))
turn a b = go (ltb a b) (eqb a b) (eqb→eq a b)
  where
    go : (x y : Bool) → (T y → a ≡ b) → T (x || (y && true)) → T (x || (eqb b a && true))
    go true y e t = tt
    go false true e t = subst (λ (k : ℕ). T (eqb b k && true)) (sym (e tt)) (both (eqb b b) (eqb_refl b))
      where
        both : (x : Bool) → T x → T (x && true)
        both true t = tt
        both false t = t
    go false false e t = absurd t

-- the mirror image, of two values that are not negative
le_neg : (x y : Float) → signed false x → signed false y → T (le x y) → T (le (neg y) (neg x))
unfolding le neg
le_neg nan y s t h = absurd s
le_neg (inf true) y s t h = absurd (true≢false s)
le_neg (inf false) nan s t h = absurd t
le_neg (inf false) (inf true) s t h = absurd (true≢false t)
le_neg (inf false) (inf false) s t h = tt
le_neg (inf false) (fin true n d) s t h = absurd h
le_neg (inf false) (fin false n d) s t h = absurd h
le_neg (fin true m e) y s t h = absurd (true≢false s)
le_neg (fin false m e) nan s t h = absurd t
le_neg (fin false m e) (inf true) s t h = absurd h
le_neg (fin false m e) (inf false) s t h = tt
le_neg (fin false m e) (fin true n d) s t h = absurd (true≢false t)
le_neg (fin false m e) (fin false n d) s t h = turn (m * up e * down d) (n * up d * down e) h

some : (a b : ℕ) → T (ltb 0 (a + b) || (eqb a b && (false || eqb a 0)))
some zero zero = tt
some (suc a) b = or_l (ltb 0 (suc a + b)) (eqb (suc a) b && (false || eqb (suc a) 0)) (lt→ltb 0 (suc a + b) (omega arith))
some zero (suc b) = or_l (ltb 0 (0 + suc b)) (eqb 0 (suc b) && (false || eqb 0 0)) (lt→ltb 0 (0 + suc b) (omega arith))

-- what is not positive, and what is not negative
le_mixed : (x y : Float) → signed true x → signed false y → T (le x y)
unfolding le
le_mixed nan y s t = absurd s
le_mixed (inf false) y s t = absurd (false≢true s)
le_mixed (inf true) nan s t = absurd t
le_mixed (inf true) (inf true) s t = absurd (true≢false t)
le_mixed (inf true) (inf false) s t = tt
le_mixed (inf true) (fin u n d) s t = tt
le_mixed (fin false m e) y s t = absurd (false≢true s)
le_mixed (fin true m e) nan s t = absurd t
le_mixed (fin true m e) (inf true) s t = absurd (true≢false t)
le_mixed (fin true m e) (inf false) s t = tt
le_mixed (fin true m e) (fin true n d) s t = absurd (true≢false t)
le_mixed (fin true m e) (fin false n d) s t = some (m * up e * down d) (n * up d * down e)

round_mirror : (f : Format) (a b c d : ℕ) → 0 < b → 0 < d → a * d ≤ c * b → T (le (round f true c d) (round f true a b))
round_mirror f a b c d B D h =
    subst (λ (z : Float). T (le z (round f true a b))) (sym (round_neg f c d))
    (subst (λ (z : Float). T (le (neg (round f false c d)) z)) (sym (round_neg f a b))
    (le_neg (round f false a b) (round f false c d) (round_signed f false a b) (round_signed f false c d) (round_mono f a b c d B D h)))

-- ---- of fractions with a common factor and a common divisor
scaled : (n k p q : ℕ) → n ≤ k → n * p * q ≤ k * p * q
scaled n k p q h = mul-le-mul_right q (mul-le-mul_right p h)

rounds : (a b : ℤ) (p q : ℕ) → 0 < q → T (le_z a b) → T (le (round binary64 (negative a) (nat_abs a * p) q) (round binary64 (negative b) (nat_abs b * p) q))
rounds (pos n) (pos k) p q Q h = round_mono binary64 (n * p) q (k * p) q Q Q (scaled n k p q (leb→le n k h))
rounds (pos n) (negsuc k) p q Q h = absurd h
rounds (negsuc n) (pos k) p q Q h = le_mixed (round binary64 true (suc n * p) q) (round binary64 false (k * p) q) (round_signed binary64 true (suc n * p) q) (round_signed binary64 false (k * p) q)
rounds (negsuc n) (negsuc k) p q Q h = round_mirror binary64 (suc k * p) q (suc n * p) q Q Q (scaled (suc k) (suc n) p q (more n k (leb→le k n h)))
  where
    more : (n k : ℕ) → k ≤ n → suc k ≤ suc n
    more n k h = omega arith

test_true : (t : Bool) → T t → t ≡ true
test_true true h = refl
test_true false h = absurd h

-- of two counts of one usable clock, the smaller has no larger seconds
pub order_kept : (c : Clock) (y z : ℤ) → usable_clock_lem c ≡ true → is_count y ≡ true → is_count z ≡ true → y ⩽ z → le (seconds_of_lem c y) (seconds_of_lem c z) ≡ true
order_kept c y z u f g h =
    ap₂ le (seconds_rounded c y u f) (seconds_rounded c z u g)
    ∙ test_true (le (round binary64 (negative y) (nat_abs y * over c) (under c)) (round binary64 (negative z) (nat_abs z * over c) (under c)))
    (rounds y z (over c) (under c) (under_pos c (usable_true c u)) h.le)

-- nothing is below or equal to a NaN
not_nan : (x : Float) → le x x ≡ true → is_nan x ≡ false
unfolding le is_nan
not_nan nan h = absurd (false≢true h)
not_nan (inf s) h = refl
not_nan (fin s m e) h = refl

pub never_nan : (c : Clock) (z : ℤ) → usable_clock_lem c ≡ true → is_count z ≡ true → is_nan (seconds_of_lem c z) ≡ false
never_nan c z u e = not_nan (seconds_of_lem c z) (order_kept c z z u e e (≤ℤ_refl z))
