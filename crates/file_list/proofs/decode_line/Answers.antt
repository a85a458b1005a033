-- `file_list::decode_line` meets its contract: the record's bytes behind its header are the line's numbers.
use Prim.Native.Nat.{◌+◌, ◌-◌}
use native.Mathlib.Omega.{arith}
use lib.IntN.{pos}
use lib.ListN.{drop, length-take, length-set}
use Rattle.lines.specs.Limits.{bare_size}
use Rattle.file_records.specs.Table.{header_size}
use Rattle.file_records.specs.Places.{longest_at}
use Rattle.file_list.specs.Decoding.{line_decoded}
use Rattle.file_list.proofs.decode_line.Goals as goal

-- the bytes of the body are counted as in the code
pub decode_i32-requires : goal.decode_i32-requires
decode_i32-requires c =
    let b = c.args.bytes.now in
    let at = c.args.at in
    let size = at + c.record_size_at.result - (at + header_size) in
    omega (arith, c.record_size_at.ensures, longest_at b at, c.requires.1, length-set c.args.line.now bare_size (pos 0), length-take size (drop (at + header_size) b))

pub returns : goal.returns
returns c =
    let at = c.args.at in
    let size = at + c.record_size_at.result - (at + header_size) in
    (omega (arith, c.record_size_at.ensures), line_decoded c.args.bytes.now at size c.args.line.now c.requires.0 c.requires.1 (omega (arith, c.record_size_at.ensures)) c.decode_i32.ensures)
