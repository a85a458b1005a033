-- `tree_lists::mask` meets its contract: what is stored is a number of 32 bits, so that storing keeps it.
use Rattle.std.proofs.Common.{arith}
use Rattle.std.proofs.lemmas.Int.{to_z-of_z}
use Rattle.tree_lists.specs.Masked.{mask_more}
use Rattle.tree_lists.proofs.mask.Goals as goal

pub loop-i-preserved : goal.loop-i-preserved
loop-i-preserved c = grind (arith, to_z-of_z, mask_more)
