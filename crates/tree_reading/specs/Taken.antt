-- The tree of a row of numbers, as a function of them: the one that reading takes.
use Rattle.tree_reading.specs.declared.TreeRefusal.{TreeRefusal}
use Rattle.std.specs.Prelude.{◌≡◌, List, [], ℕ, Err, Ok, Result}
use Rattle.std.proofs.Math.Path.{refl, ap}
use Rattle.std.proofs.Common.{sym, ◌∙◌}
use Rattle.integers.specs.Laws.{never}
use Rattle.tree_reading.specs.declared.Kind.TheVariants.{AllOf}
use Rattle.tree_reading.specs.Tree.{Row, none}
use Rattle.tree_reading.specs.Choices.{count, overs_of}
use Rattle.tree_reading.specs.declared.Node.{Node}
use Rattle.tree_reading.specs.Reading.{valid_tree_lem}
use Rattle.tree_reading.specs.Accepted.{root_of}
use Rattle.tree_reading.specs.Numbers.{one_tree}
use Rattle.tree_reading.specs.Over.{valid, valid_back}
use Rattle.tree_reading.specs.Refused.{NumbersOf}

module _ (s : List ℕ) (m : ℕ) where
  tree_by : (r : Result Node TreeRefusal) → valid_tree_lem s m ≡ r → Row
  tree_by (Ok b) e = (valid s m b e).read.tree
  tree_by (Err r) e = none

  -- the tree that s are the numbers of; where they are refused, one without children
  unfoldable pub tree_in : Row
  unfolding tree_by
  tree_in = tree_by (valid_tree_lem s m) refl

  -- where they are not refused, they are its numbers, and as many choices were counted as it has
  pub record Taken (b : Node) : Type 0 where
    pub numbers : NumbersOf s m tree_in
    pub few : overs_of tree_in ≡ []
    pub counted : b.choices ≡ count AllOf tree_in

  pub taken : (b : Node) → valid_tree_lem s m ≡ Ok b → Taken b
  unfolding tree_by tree_in
  taken b e = let k = go (valid_tree_lem s m) refl e in record { numbers = k.0; few = k.1; counted = k.2 }
    where
      go : (r : Result Node TreeRefusal) (p : valid_tree_lem s m ≡ r) → r ≡ Ok b
          → NumbersOf s m (tree_by r p) × (overs_of (tree_by r p) ≡ []) × (b.choices ≡ count AllOf (tree_by r p))
      go (Ok x) p q =
          let v = valid s m x p in
          let same : x ≡ b = cc in
          (record { fits = v.read.fits; numbered = v.read.numbered }, v.few, ap (λ (y : Node). y.choices) (sym same) ∙ v.counted)
      go (Err r) p q = never (cc)

  -- no other tree has these numbers
  pub tree_in_law : (t : Row) → NumbersOf s m t → overs_of t ≡ [] → tree_in ≡ t
  tree_in_law t d o =
      let read : valid_tree_lem s m ≡ Ok (root_of s t)
      = ap (λ (x : List ℕ). valid_tree_lem x m) d.numbered ∙ valid_back t m d.fits o ∙ ap (λ (x : List ℕ). Ok (root_of x t)) (sym d.numbered) in
      one_tree tree_in t (sym (taken (root_of s t) read).numbers.numbered ∙ d.numbered)
