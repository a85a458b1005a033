-- `little_endian::put_u32` meets its contract.
use mathlib.Core.Path.{◌∙◌}
use native.Mathlib.Omega.{arith}
use Prim.Native.Nat.{◌+◌}
use Rattle.little_endian.specs.Writing.{bytes32}
use Rattle.little_endian.proofs.Stores.{put_part}
use Rattle.little_endian.proofs.put_u32.Goals as goal

pub returns : goal.returns
returns c = let a = c.args in put_part a.out.now a.at (a.at + 4) _ (bytes32 a.v) (c.copy_from_slice.ensures.after ∙ c.to_le_bytes.ensures) (omega arith) c.requires
