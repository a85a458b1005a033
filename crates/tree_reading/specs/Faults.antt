-- What is at fault in the numbers of a tree, apart from how they are read, and which fault is the first.
--
-- Each node has two numbers, so that node number k of the reading order begins at index 2k. What is still to come there follows from the numbers before it:
-- a node that is too deep, of the wrong kind for its place or not in the list leaves that known, and only a first number that is no kind does not.
use Rattle.std.specs.Prelude.{◌≡◌, ◌⊎◌, Bool, true, false, cond, ◌&&◌, ◌||◌, List, [], ◌∷◌, ◌++◌, ℕ, zero, suc, ◌+◌, ◌*◌, ◌<◌, ◌≤◌, eqb, ltb, length, get_or, replicate}
use Rattle.tree_reading.specs.declared.Kind.{Kind}
use Rattle.tree_reading.specs.declared.Kind.TheVariants.{AllOf, AnyOf}
use Rattle.tree_reading.specs.Tree.{other, code_of, line_code_lem, max_depth}
use Rattle.tree_reading.specs.declared.TreeRefusal.{TreeRefusal}
use Rattle.tree_reading.specs.declared.TreeRefusal.TheVariants.{Malformed, TooDeep}
use Rattle.tree_reading.specs.Refusal.{tree_number, tree_place}

-- ---- the nodes that are to come
-- a node that is to come: its depth, the kind that it may have, and whether it may be a line instead
pub record Due : Type 0 where
  pub depth : ℕ
  pub kind : Kind
  pub or_line : Bool

abbrev pub root : Due
root = record { depth = 1; kind = AllOf; or_line = false }

-- a child of a node of kind k at this depth
abbrev pub child_of : ℕ → Kind → Due
child_of depth k = record { depth = depth + 1; kind = other k; or_line = true }

-- all of them, in their order; or they are not known
pub data Ahead : Type 0 where
  unknown : Ahead
  nodes : List Due → Ahead

-- behind the two numbers of a node that is due, where xs are due after it
abbrev pub behind : Due → List Due → ℕ → ℕ → Ahead
behind x xs first second =
    cond (eqb first line_code_lem) (nodes xs)
    (cond (eqb first (code_of AllOf)) (nodes (replicate second (child_of x.depth AllOf) ++ xs))
    (cond (eqb first (code_of AnyOf)) (nodes (replicate second (child_of x.depth AnyOf) ++ xs)) unknown))

abbrev pub behind_node : List ℕ → ℕ → Ahead → Ahead
behind_node s k unknown = unknown
behind_node s k (nodes []) = unknown
behind_node s k (nodes (x ∷ xs)) = cond (ltb (2 * k + 1) (length s)) (behind x xs (get_or s (2 * k) 0) (get_or s (2 * k + 1) 0)) unknown

-- what is to come at node number k, it included
unfoldable pub ahead : List ℕ → ℕ → Ahead
ahead s zero = nodes (root ∷ [])
ahead s (suc k) = behind_node s k (ahead s k)

-- ---- the faults
-- whether a node that is due may begin with this number
abbrev pub admits : Due → ℕ → Bool
admits x first = eqb first (code_of x.kind) || (x.or_line && eqb first line_code_lem)

-- The faults of a node that is due at index p, in a list of m lines: it is cut, at the length; it is too deep, or of no kind that may stand there, at its
-- first number; its line is not in the list, at its second. Where no number stands at p the node is cut, and that alone.
pub data NodeFault (s : List ℕ) (m : ℕ) (x : Due) (p : ℕ) : TreeRefusal → Type 0 where
  cut : length s ≤ p + 1 → NodeFault s m x p (Malformed (length s))
  deep : p < length s → max_depth < x.depth → NodeFault s m x p (TooDeep p)
  misplaced : p < length s → admits x (get_or s p 0) ≡ false → NodeFault s m x p (Malformed p)
  unlisted : p + 1 < length s → get_or s p 0 ≡ line_code_lem → m ≤ get_or s (p + 1) 0 → NodeFault s m x p (Malformed (p + 1))

-- with no node to come, numbers are left over
abbrev pub FaultAt : List ℕ → ℕ → ℕ → Ahead → TreeRefusal → Type 0
FaultAt s m k unknown r = ⊥
FaultAt s m k (nodes []) r = (2 * k < length s) × (r ≡ Malformed (2 * k))
FaultAt s m k (nodes (x ∷ xs)) r = NodeFault s m x (2 * k) r

pub record Fault (s : List ℕ) (m : ℕ) (r : TreeRefusal) : Type 0 where
  pub node : ℕ
  pub at : FaultAt s m node (ahead s node) r

-- ---- the first fault
-- a lower index goes first, and at the same index the higher number: 42 before 41
abbrev pub Before : TreeRefusal → TreeRefusal → Type 0
Before r q = (tree_place r < tree_place q) ⊎ ((tree_place r ≡ tree_place q) × (tree_number q ≤ tree_number r))

pub record FirstFault (s : List ℕ) (m : ℕ) (r : TreeRefusal) : Type 0 where
  pub fault : Fault s m r
  pub first : (q : TreeRefusal) → Fault s m q → Before r q
