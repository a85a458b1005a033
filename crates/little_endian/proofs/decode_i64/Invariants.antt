-- What the loop of `little_endian::decode_i64` keeps.
use mathlib.Core.Path.{◌≡◌}
use mathlib.Core.List.{◌++◌}
use lib.ListN.{drop}
use Rattle.little_endian.specs.Bytes.{int64, first_of}
use Rattle.little_endian.proofs.decode_i64.Given as goal

-- the first i numbers stand before what out held from i on
abbrev pub invariant-loop-i : goal.invariant-loop-i
invariant-loop-i l = l.out ≡ first_of 8 int64 l.b l.i ++ drop l.i l.initial.out
