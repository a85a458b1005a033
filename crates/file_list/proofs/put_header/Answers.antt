-- `file_list::put_header` meets its contract.
use mathlib.Core.Path.{refl}
use Prim.Native.Nat.{◌+◌}
use Rattle.little_endian.specs.Writing.{bytes16, put_then}
use Rattle.file_list.proofs.put_header.Goals as goal

pub returns : goal.returns
returns c =
    rw (← c.body_size.ensures, ← c.number.ensures) (put_then c.args.out.now c.args.at (bytes16 c.body_size.result) (c.args.at + 2) (bytes16 c.number.result) refl c.put_u16.ensures c.put_u16-2.ensures)
