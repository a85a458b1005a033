-- A recorder's clock and the seconds of a count, with the limits of both.
use Rattle.std.specs.Prelude.{Bool, true, false, ◌&&◌, ℕ, zero, suc, ◌^◌, leb, ℤ, Float}
use Rattle.std.specs.Float.{nan, inf, fin, binary64}
use Rattle.std.specs.Float.Ieee.{mul, div, of_int}
use Rattle.integers.specs.Integer.{is_within_lem}
use Rattle.seconds.specs.declared.Clock.{Clock}
use Rattle.seconds.specs.declared.Clock.TheVariants.{SecondsPerTick, TicksPerSecond}

-- a count lies within plus and minus this: each that does is a float exactly (`count_exact`)
abbrev pub max_count : ℕ
max_count = 2 ^ 53

-- the most recorders of a table
abbrev pub max_recorders : ℕ
max_recorders = 16

abbrev pub is_count : ℤ → Bool
is_count z = is_within_lem max_count z

-- the count made a float, and one multiplication or one division by the rule of IEEE 754
abbrev pub seconds_of_lem : Clock → ℤ → Float
seconds_of_lem (SecondsPerTick s) z = mul binary64 (of_int binary64 z) s
seconds_of_lem (TicksPerSecond t) z = div binary64 (of_int binary64 z) t

-- finite and above zero: not NaN, no infinity, neither zero, nothing negative
abbrev pub usable : Float → Bool
usable nan = false
usable (inf s) = false
usable (fin true m e) = false
usable (fin false zero e) = false
usable (fin false (suc m) e) = true

abbrev pub rate_of : Clock → Float
rate_of (SecondsPerTick s) = s
rate_of (TicksPerSecond t) = t

abbrev pub usable_clock_lem : Clock → Bool
usable_clock_lem c = usable (rate_of c)

-- ---- a clock as a form and its number: form 0 is seconds per tick, 1 ticks per second, and any other is none
abbrev pub ticks_form : ℕ
ticks_form = 1

abbrev pub clock_of_lem : ℕ → Float → Clock
clock_of_lem zero rate = SecondsPerTick rate
clock_of_lem (suc form) rate = TicksPerSecond rate

abbrev pub usable_form_lem : ℕ → Float → Bool
usable_form_lem form rate = leb form ticks_form && usable rate
