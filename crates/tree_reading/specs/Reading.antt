-- What reading the numbers of a tree finds: the first refusal, or where the tree ends, its number of choices up to one
-- above the most, and the first node with more than the most.
use Rattle.tree_reading.specs.declared.TreeRefusal.{TreeRefusal}
use Rattle.std.specs.Prelude.{Bool, cond, List, ℕ, zero, suc, ◌+◌, min, eqb, ltb, length, get_or, Err, Ok, Result}
use Rattle.tree_reading.specs.declared.Kind.{Kind}
use Rattle.tree_reading.specs.declared.Kind.TheVariants.{AllOf}
use Rattle.tree_reading.specs.Tree.{other, code_of, line_code_lem, max_depth}
use Rattle.tree_reading.specs.Choices.{max_choices, unit_of, with}
use Rattle.tree_reading.specs.declared.TreeRefusal.TheVariants.{TooManyChoices, Malformed, TooDeep}
use Rattle.tree_reading.specs.declared.Head.{Head}
use Rattle.tree_reading.specs.declared.Head.TheVariants.{Line, Children}
use Rattle.tree_reading.specs.declared.Node.{Node}

-- a number of choices, or one above the most for any higher one
abbrev pub cap : ℕ → ℕ
cap n = min n (max_choices + 1)

-- a line's number, which is in the list, or 41 at it; 41 at a cut
unfoldable pub line_head_lem : List ℕ → ℕ → ℕ → Result Head TreeRefusal
line_head_lem s m at =
    cond (ltb (at + 1) (length s))
    (cond (ltb (get_or s (at + 1) 0) m) (Ok Line) (Err (Malformed (at + 1))))
    (Err (Malformed (length s)))

-- a number of children, any at all; 41 at a cut
unfoldable pub children_head_lem : List ℕ → ℕ → Result Head TreeRefusal
children_head_lem s at = cond (ltb (at + 1) (length s)) (Ok (Children (get_or s (at + 1) 0))) (Err (Malformed (length s)))

-- What stands at `at`, where a line or a node of the kind with this code may stand, with `depth` levels left: 41 at a
-- cut, 42, 41 for a kind that may not stand there, then the second number.
unfoldable pub head_of : List ℕ → ℕ → ℕ → ℕ → ℕ → Result Head TreeRefusal
head_of s m depth kind at =
    cond (ltb at (length s))
    (cond (eqb depth 0) (Err (TooDeep at))
    (cond (eqb (get_or s at 0) line_code_lem) (line_head_lem s m at)
    (cond (eqb (get_or s at 0) kind) (children_head_lem s at) (Err (Malformed at)))))
    (Err (Malformed (length s)))

-- a line, and a node before its first child; no node has too many choices
abbrev pub begun : List ℕ → ℕ → ℕ → Node
begun s at n = record { end = at + 2; choices = n; over = length s }

-- one more child
abbrev pub with_child : Kind → Node → Node → Node
with_child k a b = record { end = b.end; choices = cap (with k (cap a.choices) (cap b.choices)); over = min a.over b.over }

-- after its last child: the node itself may have too many
abbrev pub finished : ℕ → Node → Node
finished at a = record { end = a.end; choices = a.choices; over = cond (ltb max_choices a.choices) (min at a.over) a.over }

abbrev pub onward : (Node → Result Node TreeRefusal) → Result Node TreeRefusal → Result Node TreeRefusal
onward go (Ok a) = go a
onward go (Err r) = Err r

-- n children, one behind the other
unfoldable pub children_of : (ℕ → Result Node TreeRefusal) → Kind → ℕ → Node → Result Node TreeRefusal
children_of f k zero a = Ok a
children_of f k (suc n) a = onward (λ b. children_of f k n (with_child k a b)) (f a.end)

-- what stands behind its first two numbers
abbrev pub opened : List ℕ → (ℕ → Result Node TreeRefusal) → Kind → ℕ → Result Head TreeRefusal → Result Node TreeRefusal
opened s f k at (Ok Line) = Ok (begun s at 1)
opened s f k at (Ok (Children n)) = onward (λ a. Ok (finished at a)) (children_of f k n (begun s at (unit_of k)))
opened s f k at (Err r) = Err r

-- a line or a node of kind k, with `depth` levels left
unfoldable pub node_of : List ℕ → ℕ → ℕ → Kind → ℕ → Result Node TreeRefusal
node_of s m zero k at = opened s (λ p. Err (TooDeep p)) k at (head_of s m zero (code_of k) at)
node_of s m (suc d) k at = opened s (node_of s m d (other k)) k at (head_of s m (suc d) (code_of k) at)

-- numbers left over
abbrev pub whole_tree_lem : List ℕ → Result Node TreeRefusal → Result Node TreeRefusal
whole_tree_lem s (Ok a) = cond (ltb a.end (length s)) (Err (Malformed a.end)) (Ok a)
whole_tree_lem s (Err r) = Err r

-- the root is an all-of, and no line
unfoldable pub root_is_line_lem : List ℕ → Bool
root_is_line_lem s = eqb (get_or s 0 0) line_code_lem

unfoldable pub tree_of : List ℕ → ℕ → Result Node TreeRefusal
tree_of s m = cond (root_is_line_lem s) (Err (Malformed 0)) (whole_tree_lem s (node_of s m max_depth AllOf 0))

-- 40 at the first node with more than the most choices
abbrev pub few_choices_lem : List ℕ → Result Node TreeRefusal → Result Node TreeRefusal
few_choices_lem s (Ok a) = cond (ltb a.over (length s)) (Err (TooManyChoices a.over)) (Ok a)
few_choices_lem s (Err r) = Err r

-- all refusals of a tree, in their order
unfoldable pub valid_tree_lem : List ℕ → ℕ → Result Node TreeRefusal
valid_tree_lem s m = few_choices_lem s (tree_of s m)
