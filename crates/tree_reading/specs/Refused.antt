-- The refusals of a tree's numbers, exactly: 41 or 42 at the first fault; else they are those of a tree, and 40 is at its first node with too many choices.
use Rattle.std.specs.Prelude.{◌≡◌, refl, ◌↔◌, List, [], ◌∷◌, ℕ, Err, Ok, Result}
use Rattle.std.proofs.Common.{sym, ap, subst, ◌∙◌}
use Rattle.integers.specs.Laws.{never}
use Rattle.tree_reading.specs.declared.Kind.TheVariants.{AllOf}
use Rattle.tree_reading.specs.Tree.{Row, tree_numbers, levels, Fits}
use Rattle.tree_reading.specs.Choices.{overs_of}
use Rattle.tree_reading.specs.declared.TreeRefusal.{TreeRefusal}
use Rattle.tree_reading.specs.declared.TreeRefusal.TheVariants.{TooManyChoices}
use Rattle.tree_reading.specs.declared.Node.{Node}
use Rattle.tree_reading.specs.Reading.{tree_of, valid_tree_lem}
use Rattle.tree_reading.specs.Whole.{tree_valid}
use Rattle.tree_reading.specs.Accepted.{IsTree, accepted}
use Rattle.tree_reading.specs.Over.{valid, valid_back, too_many}
use Rattle.tree_reading.specs.Faults.{FirstFault}
use Rattle.tree_reading.specs.FirstFault.{refused_first, refused_exactly}

-- s are the numbers of this tree, which fits in a list of m lines
pub record NumbersOf (s : List ℕ) (m : ℕ) (t : Row) : Type 0 where
  pub fits : Fits m AllOf levels t
  pub numbered : s ≡ tree_numbers t

-- the nodes with too many choices are listed in the order of their indices, so that the first is the lowest
pub data TreeRefused (s : List ℕ) (m : ℕ) : TreeRefusal → Type 0 where
  at_fault : (r : TreeRefusal) → FirstFault s m r → TreeRefused s m r
  over : (t : Row) (x : ℕ) (xs : List ℕ) → NumbersOf s m t → overs_of t ≡ x ∷ xs → TreeRefused s m (TooManyChoices x)

module _ (s : List ℕ) (m : ℕ) where
  over_refused : (t : Row) (x : ℕ) (xs : List ℕ) → NumbersOf s m t → overs_of t ≡ x ∷ xs → valid_tree_lem s m ≡ Err (TooManyChoices x)
  over_refused t x xs n e = ap (λ (l : List ℕ). valid_tree_lem l m) n.numbered ∙ too_many t m n.fits x xs e

  pub tree_refused : (r : TreeRefusal) → (valid_tree_lem s m ≡ Err r) ↔ TreeRefused s m r
  tree_refused r = ((λ e. go (tree_of s m) refl e), back r)
    where
      the_same : {q : TreeRefusal} → valid_tree_lem s m ≡ Err q → valid_tree_lem s m ≡ Err r → q ≡ r
      the_same e f = cc

      counted : (b : Node) (t : IsTree s m b) (xs : List ℕ) → overs_of t.tree ≡ xs → valid_tree_lem s m ≡ Err r → TreeRefused s m r
      counted b t [] o e =
          let read = ap (λ (l : List ℕ). valid_tree_lem l m) t.numbered ∙ valid_back t.tree m t.fits o in
          never (cc (sym read ∙ e))
      counted b t (x ∷ xs) o e =
          let n : NumbersOf s m t.tree = record { fits = t.fits; numbered = t.numbered } in
          subst (TreeRefused s m) (the_same (over_refused t.tree x xs n o) e) (over t.tree x xs n o)

      go : (x : Result Node TreeRefusal) → tree_of s m ≡ x → valid_tree_lem s m ≡ Err r → TreeRefused s m r
      go (Ok b) p e = let t = accepted s m b p in counted b t (overs_of t.tree) refl e
      go (Err q) p e = subst (TreeRefused s m) (the_same (tree_valid s m (Err q) p) e) (at_fault q (refused_first s m q p))

      back : (q : TreeRefusal) → TreeRefused s m q → valid_tree_lem s m ≡ Err q
      back _ (at_fault q f) = tree_valid s m (Err q) ((refused_exactly s m q).1 f)
      back _ (over t x xs n e) = over_refused t x xs n e

  -- else they are the numbers of a tree without such a node
  pub tree_taken : (b : Node) → valid_tree_lem s m ≡ Ok b → (t : Row) × NumbersOf s m t × (overs_of t ≡ [])
  tree_taken b e = let v = valid s m b e in (v.read.tree, record { fits = v.read.fits; numbered = v.read.numbered }, v.few)
