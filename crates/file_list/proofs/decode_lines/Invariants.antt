-- What the loop of `file_list::decode_lines` keeps.
use mathlib.Core.Path.{◌≡◌}
use Rattle.file_records.specs.Table.{record_place}
use Rattle.file_list.specs.Decoding.{Decoded}
use Rattle.file_list.proofs.decode_lines.Given as goal

-- the first k lines are decoded, and the next one begins at `at`
abbrev pub invariant-loop-k : goal.invariant-loop-k
invariant-loop-k l = (l.at ≡ record_place l.bytes l.k) × Decoded l.bytes l.initial.numbers l.k l.numbers
