-- What the loops of `c_check_shown::read_bytes` keep.
use mathlib.Core.Path.{◌≡◌}
use Prim.Native.Nat.{◌≤◌}
use Rattle.little_endian.specs.Bytes.{le32, first_of}
use Rattle.steps.specs.Step.{max_weight}
use Rattle.check_refutation.specs.Progress.{start, run}
use Rattle.check_refutation.specs.Small.{Small}
use Rattle.c_codes.specs.ListBytes.{number_bytes}
use Rattle.c_check_shown.proofs.read_bytes.Given as goal

-- `c_check_shown::read_bytes` meets its contract. The invariant: s is the progress after the first i numbers, is small, and has counted i.
abbrev pub invariant-loop-i : goal.invariant-loop-i
invariant-loop-i l = (l.i ≤ l.count) × (l.progress ≡ run l.list start (first_of number_bytes le32 l.showing l.i)) × Small max_weight l.progress × (l.progress.read ≡ l.i)
