-- The flags of a choice of the sample tree, whose second choice picks each of the three lines.
use Rattle.std.specs.Prelude.{◌≡◌, refl, [], ◌∷◌}
use Rattle.tree_reading.specs.declared.Kind.TheVariants.{AllOf}
use Rattle.tree_reading.specs.Tree.{tree_numbers, max_depth}
use Rattle.tree_reading.specs.Reading.{line_head_lem, children_head_lem, head_of, children_of, node_of}
use Rattle.tree_reading.specs.Examples.{sample}
use Rattle.tree_choices.specs.Choosing.{all_chosen, any_chosen, chosen, marked}

pub its_flags : marked (0 ∷ 0 ∷ 0 ∷ []) (chosen (tree_numbers sample) 3 max_depth AllOf 0 4 1) ≡ 1 ∷ 1 ∷ 1 ∷ []
unfolding marked chosen all_chosen any_chosen node_of head_of line_head_lem children_head_lem children_of
its_flags = refl
