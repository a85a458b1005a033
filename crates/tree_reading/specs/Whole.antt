-- The whole tree, by the tests.
use Rattle.tree_reading.specs.declared.TreeRefusal.{TreeRefusal}
use Rattle.tree_reading.specs.declared.Node.{Node}
use Rattle.std.specs.Prelude.{◌≡◌, refl, true, false, List, [], ◌∷◌, ℕ, length, Err, Result}
use Rattle.std.proofs.Common.{arith}
use Rattle.std.proofs.Math.Path.{ap}
use Rattle.tree_reading.specs.declared.Kind.TheVariants.{AllOf}
use Rattle.tree_reading.specs.Tree.{max_depth}
use Rattle.tree_reading.specs.declared.TreeRefusal.TheVariants.{Malformed}
use Rattle.tree_reading.specs.Reading.{node_of, root_is_line_lem, whole_tree_lem, tree_of, few_choices_lem, valid_tree_lem}

pub root_none : (s : List ℕ) → length s ≡ 0 → root_is_line_lem s ≡ false
unfolding root_is_line_lem
root_none [] e = refl
root_none (x ∷ s) e = absurd (omega arith)

module _ (s : List ℕ) (m : ℕ) where
  pub tree_line : root_is_line_lem s ≡ true → tree_of s m ≡ Err (Malformed 0)
  unfolding tree_of
  tree_line e = rw e

  pub tree_read : (r : Result Node TreeRefusal) → root_is_line_lem s ≡ false → node_of s m max_depth AllOf 0 ≡ r → tree_of s m ≡ whole_tree_lem s r
  unfolding tree_of
  tree_read r e q = rw e (ap (whole_tree_lem s) q)

  pub tree_valid : (r : Result Node TreeRefusal) → tree_of s m ≡ r → valid_tree_lem s m ≡ few_choices_lem s r
  unfolding valid_tree_lem
  tree_valid r e = ap (few_choices_lem s) e
