-- What the loop of `c_checking::take_bytes` keeps.
use mathlib.Core.Path.{◌≡◌}
use Rattle.little_endian.specs.Bytes.{le32, first_of}
use Rattle.check_refutation.specs.Progress.{start}
use Rattle.check_pieces.specs.Taken.{take_all}
use Rattle.check_pieces.specs.Cut.{Words}
use Rattle.c_codes.specs.ListBytes.{number_bytes}
use Rattle.c_checking.proofs.take_bytes.Given as goal

-- the first i numbers are taken, and each has 32 bits
abbrev pub invariant-loop-i : goal.invariant-loop-i
invariant-loop-i l = let taken = first_of number_bytes le32 l.refutation l.i in (l.kept ≡ take_all l.list start taken) × Words taken
