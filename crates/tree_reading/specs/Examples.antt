-- The request's rules on short numbers, in a list of three lines.
use Rattle.tree_reading.specs.declared.TreeRefusal.{TreeRefusal}
use Rattle.tree_reading.specs.declared.Node.{Node}
use Rattle.std.specs.Prelude.{◌≡◌, refl, List, [], ◌∷◌, ◌++◌, ℕ, Err, Result}
use Rattle.tree_reading.specs.declared.Kind.TheVariants.{AllOf, AnyOf}
use Rattle.tree_reading.specs.Tree.{Row, none, line, node, tree_numbers}
use Rattle.tree_reading.specs.Choices.{choices, count, overs_of}
use Rattle.tree_reading.specs.declared.TreeRefusal.TheVariants.{TooManyChoices, Malformed, TooDeep}
use Rattle.tree_reading.specs.Reading.{line_head_lem, children_head_lem, head_of, children_of, node_of, root_is_line_lem, tree_of, valid_tree_lem}

-- line 0, and line 1 or both line 1 and line 2, and line 0 or line 2
abbrev pub sample : Row
sample = line 0 (node AnyOf (line 1 (node AllOf (line 1 (line 2 none)) none)) (node AnyOf (line 0 (line 2 none)) none))

pub its_numbers : tree_numbers sample ≡ 1 ∷ 3 ∷ 3 ∷ 0 ∷ 2 ∷ 2 ∷ 3 ∷ 1 ∷ 1 ∷ 2 ∷ 3 ∷ 1 ∷ 3 ∷ 2 ∷ 2 ∷ 2 ∷ 3 ∷ 0 ∷ 3 ∷ 2 ∷ []
its_numbers = refl

-- earlier branch first, the last child changes fastest
pub its_choices : choices AllOf sample ≡ (0 ∷ 1 ∷ 0 ∷ []) ∷ (0 ∷ 1 ∷ 2 ∷ []) ∷ (0 ∷ 1 ∷ 2 ∷ 0 ∷ []) ∷ (0 ∷ 1 ∷ 2 ∷ 2 ∷ []) ∷ []
its_choices = refl

-- nothing asked for has one choice; any of nothing has none, and so has a product with it
pub empty_counts : (count AllOf none ≡ 1) × (count AnyOf none ≡ 0) × (count AllOf (node AnyOf none (line 0 none)) ≡ 0)
empty_counts = (refl, refl, refl)

abbrev Says : List ℕ → Result Node TreeRefusal → Type 0
Says s r = valid_tree_lem s 3 ≡ r

-- 41: no root; a root that is cut; a child that is cut; a line that is cut
pub cuts : Says [] (Err (Malformed 0)) × Says (1 ∷ []) (Err (Malformed 1)) × Says (1 ∷ 1 ∷ []) (Err (Malformed 2)) × Says (1 ∷ 1 ∷ 3 ∷ []) (Err (Malformed 3))
unfolding valid_tree_lem tree_of root_is_line_lem node_of head_of line_head_lem children_head_lem children_of
cuts = (refl, refl, refl, refl)

-- 41: a root that is a line, an any-of, no kind; an all-of in an all-of; no kind in an all-of; any-of in any-of
pub places : Says (3 ∷ 0 ∷ []) (Err (Malformed 0)) × Says (2 ∷ 0 ∷ []) (Err (Malformed 0)) × Says (0 ∷ 0 ∷ []) (Err (Malformed 0))
    × Says (1 ∷ 1 ∷ 1 ∷ 0 ∷ []) (Err (Malformed 2)) × Says (1 ∷ 1 ∷ 4 ∷ 0 ∷ []) (Err (Malformed 2)) × Says (1 ∷ 1 ∷ 2 ∷ 1 ∷ 2 ∷ 0 ∷ []) (Err (Malformed 4))
unfolding valid_tree_lem tree_of root_is_line_lem node_of head_of line_head_lem children_head_lem children_of
places = (refl, refl, refl, refl, refl, refl)

-- 41: a line that is not in the list, at its second number; numbers left over; a huge child count
pub rest : Says (1 ∷ 1 ∷ 3 ∷ 3 ∷ []) (Err (Malformed 3)) × Says (1 ∷ 0 ∷ 3 ∷ 0 ∷ []) (Err (Malformed 2)) × Says (1 ∷ 4294967295 ∷ 3 ∷ 0 ∷ []) (Err (Malformed 4))
unfolding valid_tree_lem tree_of root_is_line_lem node_of head_of line_head_lem children_head_lem children_of
rest = (refl, refl, refl)

-- eight levels, and a ninth: 42 at its first number, even if that is no kind or the second is missing; 41 at a cut
abbrev eight : List ℕ
eight = 1 ∷ 1 ∷ 2 ∷ 1 ∷ 1 ∷ 1 ∷ 2 ∷ 1 ∷ 1 ∷ 1 ∷ 2 ∷ 1 ∷ 1 ∷ 1 ∷ []

pub depths : (tree_of (eight ++ 2 ∷ 1 ∷ 3 ∷ 0 ∷ []) 3 ≡ Err (TooDeep 16)) × (tree_of (eight ++ 2 ∷ 1 ∷ 9 ∷ 0 ∷ []) 3 ≡ Err (TooDeep 16))
    × (tree_of (eight ++ 2 ∷ 1 ∷ 3 ∷ []) 3 ≡ Err (TooDeep 16)) × (tree_of (eight ++ 2 ∷ 1 ∷ []) 3 ≡ Err (Malformed 16))
    × (tree_of (eight ++ 3 ∷ 7 ∷ []) 3 ≡ Err (Malformed 15))
unfolding tree_of root_is_line_lem node_of head_of line_head_lem children_head_lem children_of
depths = (refl, refl, refl, refl, refl)

-- 256 choices are taken; 257 are 40 at the first node that has them, also below a product of none
abbrev pair : Row → Row
pair r = node AnyOf (line 0 (line 1 none)) r

abbrev full : Row
full = pair (pair (pair (pair (pair (pair (pair (pair none)))))))

abbrev above : Row
above = node AnyOf (node AllOf full (line 2 none)) none

pub limits : (count AllOf full ≡ 256) × (overs_of full ≡ []) × (count AllOf above ≡ 257) × Says (tree_numbers above) (Err (TooManyChoices 0))
    × (count AllOf (node AnyOf (node AllOf full (line 2 none)) (node AnyOf none none)) ≡ 0)
    × Says (tree_numbers (node AnyOf (node AllOf full (line 2 none)) (node AnyOf none none))) (Err (TooManyChoices 2))
unfolding valid_tree_lem tree_of root_is_line_lem node_of head_of line_head_lem children_head_lem children_of
limits = (refl, refl, refl, refl, refl, refl)
