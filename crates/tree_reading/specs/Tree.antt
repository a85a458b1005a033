-- Trees over the lines of a list: their numbers in reading order, and which of them fit.
use Rattle.std.specs.Prelude.{List, [], ◌∷◌, ◌++◌, ◌≡◌, ℕ, zero, suc, ◌-◌, ◌<◌}
use Rattle.tree_reading.specs.declared.Kind.{Kind}
use Rattle.tree_reading.specs.declared.Kind.TheVariants.{AllOf, AnyOf}

-- The children of a node, in their order: none; a line and the children after it; a node of this kind with these
-- children, and the children after it. The root is all-of, so that a tree is the row of its root's children.
pub data Row : Type 0 where
  none : Row
  line : ℕ → Row → Row
  node : Kind → Row → Row → Row

-- the other kind: all-of nodes hold any-of nodes, any-of nodes hold all-of nodes
abbrev pub other : Kind → Kind
other AllOf = AnyOf
other AnyOf = AllOf

-- the first number of an all-of, of an any-of, and of a line
abbrev pub code_of : Kind → ℕ
code_of AllOf = 1
code_of AnyOf = 2

abbrev pub line_code_lem : ℕ
line_code_lem = 3

-- the greatest depth
abbrev pub max_depth : ℕ
max_depth = 8

-- the levels below the root
abbrev pub levels : ℕ
levels = max_depth - 1

-- the number of children
abbrev pub size : Row → ℕ
size none = zero
size (line i r) = suc (size r)
size (node k c r) = suc (size r)

-- the numbers of the children, and of the tree that has them
abbrev pub numbers : Row → List ℕ
numbers none = []
numbers (line i r) = line_code_lem ∷ i ∷ numbers r
numbers (node k c r) = code_of k ∷ size c ∷ (numbers c ++ numbers r)

abbrev pub tree_numbers : Row → List ℕ
tree_numbers t = code_of AllOf ∷ size t ∷ numbers t

-- These may be the children of a node of kind k that has d levels below it, in a list of m lines: the kinds alternate,
-- nothing is too deep, and each line is in the list.
abbrev pub Fits : ℕ → Kind → ℕ → Row → Type 0
Fits m k d none = Unit {0}
Fits m k zero (line i r) = ⊥
Fits m k zero (node l c r) = ⊥
Fits m k (suc d) (line i r) = (i < m) × Fits m k (suc d) r
Fits m k (suc d) (node l c r) = (l ≡ other k) × Fits m l d c × Fits m k (suc d) r
