-- `file_text::put_byte` meets its contract.
use mathlib.Core.Path.{refl}
use mathlib.Core.List.{[], ◌∷◌}
use native.Mathlib.Omega.{arith}
use Rattle.file_text.specs.Put.{is_put}
use Rattle.file_text.specs.Steps.{byte_put}
use Rattle.file_text.proofs.put_byte.Goals as goal

pub returns : goal.returns
returns c =
    let a = c.args in
    is_put 1 a.at (a.byte ∷ []) a.out.now _ _ (byte_put a.out.now a.at a.byte (omega arith)) refl (omega arith) c.requires
