-- `tree_lists::write_choice` meets its contract: flags for the most lines, all 0 at first, are those of the choice.
use mathlib.Core.Path.{ap, ◌∙◌}
use mathlib.Core.List.{List}
use Prim.Native.Nat.{ℕ}
use Rattle.tree_lists.specs.Masked.{masked_into}
use Rattle.tree_lists.specs.Numbered.{written}
use Rattle.tree_lists.proofs.write_choice.Goals as goal

pub returns : goal.returns
returns c =
    c.mask.ensures
    ∙ ap (λ (flags : List ℕ). masked_into flags c.args.list.now c.args.out.now) c.choose.ensures
    ∙ written _ _ _ _ _ c.requires
