-- The choices of a tree: lists of line numbers, in order, and how many there are.
use Rattle.std.specs.Prelude.{cond, List, [], ◌∷◌, ◌++◌, map, ℕ, ◌+◌, ◌*◌, min, ltb, length}
use Rattle.tree_reading.specs.declared.Kind.{Kind}
use Rattle.tree_reading.specs.declared.Kind.TheVariants.{AllOf, AnyOf}
use Rattle.tree_reading.specs.Tree.{Row, none, line, node, numbers}

-- each of the first with each of the second; the second changes faster
abbrev pub pairs : List (List ℕ) → List (List ℕ) → List (List ℕ)
pairs [] ys = []
pairs (x ∷ xs) ys = map (λ (y : List ℕ). x ++ y) ys ++ pairs xs ys

-- what a node with no children has: one choice, which picks nothing, or none
abbrev pub no_children : Kind → List (List ℕ)
no_children AllOf = [] ∷ []
no_children AnyOf = []

-- a child's choices and those of the children after it
abbrev pub joined : Kind → List (List ℕ) → List (List ℕ) → List (List ℕ)
joined AllOf xs ys = pairs xs ys
joined AnyOf xs ys = xs ++ ys

-- the choices of a node of this kind with these children
abbrev pub choices : Kind → Row → List (List ℕ)
choices k none = no_children k
choices k (line i r) = joined k ((i ∷ []) ∷ []) (choices k r)
choices k (node l c r) = joined k (choices l c) (choices k r)

-- the most choices of a node
abbrev pub max_choices : ℕ
max_choices = 256

-- their number
abbrev pub unit_of : Kind → ℕ
unit_of AllOf = 1
unit_of AnyOf = 0

abbrev pub with : Kind → ℕ → ℕ → ℕ
with AllOf a b = a * b
with AnyOf a b = a + b

abbrev pub count : Kind → Row → ℕ
count k none = unit_of k
count k (line i r) = with k 1 (count k r)
count k (node l c r) = with k (count l c) (count k r)

-- the nodes with more than the most choices, by their indices, in a row whose numbers begin at `at`, and in a whole tree
abbrev pub here : ℕ → ℕ → List ℕ
here n at = cond (ltb max_choices n) (at ∷ []) []

abbrev pub overs : ℕ → Row → List ℕ
overs at none = []
overs at (line i r) = overs (at + 2) r
overs at (node l c r) = here (count l c) at ++ overs (at + 2) c ++ overs (at + 2 + length (numbers c)) r

abbrev pub overs_of : Row → List ℕ
overs_of t = here (count AllOf t) 0 ++ overs 2 t

-- the lowest of these, or d if there is none
abbrev pub lowest : ℕ → List ℕ → ℕ
lowest d [] = d
lowest d (x ∷ xs) = min x (lowest d xs)
