-- `little_endian::put_u16` meets its contract.
use mathlib.Core.Path.{◌∙◌}
use native.Mathlib.Omega.{arith}
use Prim.Native.Nat.{◌+◌}
use Rattle.little_endian.specs.Writing.{bytes16}
use Rattle.little_endian.proofs.Stores.{put_part}
use Rattle.little_endian.proofs.put_u16.Goals as goal

pub returns : goal.returns
returns c = let a = c.args in put_part a.out.now a.at (a.at + 2) _ (bytes16 a.v) (c.copy_from_slice.ensures.after ∙ c.to_le_bytes.ensures) (omega arith) c.requires.0
