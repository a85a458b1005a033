-- Choice number n of a tree, found in its numbers: the lines that it picks.
use Rattle.tree_reading.specs.declared.TreeRefusal.{TreeRefusal}
use Rattle.std.specs.Prelude.{cond, List, [], ◌∷◌, ◌++◌, ℕ, zero, suc, ◌+◌, ◌-◌, ◌/◌, ◌%◌, ltb, get_or, set, Err, Ok, Result}
use Rattle.tree_reading.specs.declared.Kind.{Kind}
use Rattle.tree_reading.specs.declared.Kind.TheVariants.{AllOf, AnyOf}
use Rattle.tree_reading.specs.Tree.{other, code_of}
use Rattle.tree_reading.specs.declared.TreeRefusal.TheVariants.{TooDeep, NoSuchChoice}
use Rattle.tree_reading.specs.declared.Head.{Head}
use Rattle.tree_reading.specs.declared.Head.TheVariants.{Line, Children}
use Rattle.tree_reading.specs.declared.Node.{Node}
use Rattle.tree_reading.specs.Reading.{head_of, node_of, valid_tree_lem}

-- flags with a 1 at each of these lines; a line that is picked twice is marked once
unfoldable pub marked : List ℕ → List ℕ → List ℕ
marked p [] = p
marked p (i ∷ is) = marked (set p i 1) is

abbrev pub from_child : (Node → List ℕ) → Result Node TreeRefusal → List ℕ
from_child go (Ok b) = go b
from_child go (Err r) = []

module _ (f : ℕ → Result Node TreeRefusal) (g : ℕ → ℕ → ℕ → List ℕ) where
  -- the next j children, which together have `total` choices: f reads one, g chooses in it. The last changes fastest.
  unfoldable pub all_chosen : ℕ → ℕ → ℕ → ℕ → List ℕ
  all_chosen zero at total n = []
  all_chosen (suc j) at total n =
      from_child (λ b. g at b.choices (n / (total / b.choices)) ++ all_chosen j b.end (total / b.choices) (n % (total / b.choices))) (f at)

  -- the next j children, of which one is taken
  unfoldable pub any_chosen : ℕ → ℕ → ℕ → List ℕ
  any_chosen zero at n = []
  any_chosen (suc j) at n = from_child (λ b. cond (ltb n b.choices) (g at b.choices n) (any_chosen j b.end (n - b.choices))) (f at)

  abbrev pub row_chosen : Kind → ℕ → ℕ → ℕ → ℕ → List ℕ
  row_chosen AllOf j at total n = all_chosen j at total n
  row_chosen AnyOf j at total n = any_chosen j at n

  abbrev pub chosen_at : List ℕ → Kind → ℕ → ℕ → ℕ → Result Head TreeRefusal → List ℕ
  chosen_at s k at total n (Ok Line) = get_or s (at + 1) 0 ∷ []
  chosen_at s k at total n (Ok (Children j)) = row_chosen k j (at + 2) total n
  chosen_at s k at total n (Err r) = []

-- choice number n of the line or node of kind k at `at`, which has `total` choices, with `depth` levels left
unfoldable pub chosen : List ℕ → ℕ → ℕ → Kind → ℕ → ℕ → ℕ → List ℕ
chosen s m zero k at total n = chosen_at (λ p. Err (TooDeep p)) (λ p c i. []) s k at total n (head_of s m zero (code_of k) at)
chosen s m (suc d) k at total n = chosen_at (node_of s m d (other k)) (chosen s m d (other k)) s k at total n (head_of s m (suc d) (code_of k) at)

-- 43 where there is no choice with this number
abbrev pub with_choice : ℕ → Result Node TreeRefusal → Result Node TreeRefusal
with_choice n (Ok b) = cond (ltb n b.choices) (Ok b) (Err NoSuchChoice)
with_choice n (Err r) = Err r

unfoldable pub choice_of : List ℕ → ℕ → ℕ → Result Node TreeRefusal
choice_of s m n = with_choice n (valid_tree_lem s m)
