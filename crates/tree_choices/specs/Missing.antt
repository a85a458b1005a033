-- The refusals of a choice, exactly: those of the tree, then 43 where it has no choice with this number.
use Rattle.std.specs.Prelude.{◌≡◌, ◌↔◌, Bool, List, [], ℕ, ◌≤◌, Err, Ok, Result}
use Rattle.std.proofs.Math.Path.{refl, subst}
use Rattle.std.proofs.Common.{sym, ap, ◌∙◌, arith}
use Rattle.std.proofs.Math.Bool.{true, false, cond}
use borrow.Author.Tests.{ltb-false}
use Rattle.std.proofs.Math.Dec.{ltb}
use Rattle.integers.specs.Laws.{never}
use Rattle.tree_reading.specs.declared.Kind.TheVariants.{AllOf}
use Rattle.tree_reading.specs.Tree.{Row}
use Rattle.tree_reading.specs.Choices.{count, overs_of}
use Rattle.tree_reading.specs.declared.TreeRefusal.{TreeRefusal}
use Rattle.tree_reading.specs.declared.TreeRefusal.TheVariants.{NoSuchChoice}
use Rattle.tree_reading.specs.declared.Node.{Node}
use Rattle.tree_reading.specs.Reading.{valid_tree_lem}
use Rattle.tree_reading.specs.Accepted.{root_of}
use Rattle.tree_reading.specs.Numbers.{one_tree}
use Rattle.tree_reading.specs.Over.{valid, valid_back}
use Rattle.tree_reading.specs.Refused.{NumbersOf, TreeRefused, tree_refused}
use Rattle.tree_choices.specs.Choosing.{with_choice, choice_of}
use Rattle.tree_choices.specs.Marking.{choice_refused, choice_missing}

pub data ChoiceRefused (s : List ℕ) (m n : ℕ) : TreeRefusal → Type 0 where
  no_tree : (r : TreeRefusal) → TreeRefused s m r → ChoiceRefused s m n r
  missing : (t : Row) → NumbersOf s m t → overs_of t ≡ [] → count AllOf t ≤ n → ChoiceRefused s m n NoSuchChoice

module _ (s : List ℕ) (m n : ℕ) where
  -- the tree of these numbers is the one that was read
  missing_refused : (t : Row) → NumbersOf s m t → overs_of t ≡ [] → count AllOf t ≤ n → choice_of s m n ≡ Err NoSuchChoice
  missing_refused t d o l =
      let b : Node = root_of s t in
      let read : valid_tree_lem s m ≡ Ok b
      = ap (λ (x : List ℕ). valid_tree_lem x m) d.numbered ∙ valid_back t m d.fits o ∙ ap (λ (x : List ℕ). Ok (root_of x t)) (sym d.numbered) in
      let v = valid s m b read in
      let same : v.read.tree ≡ t = one_tree v.read.tree t (sym v.read.numbered ∙ d.numbered) in
      choice_missing s m n b read (omega (arith, v.counted ∙ ap (count AllOf) same))

  pub choice_refused_exactly : (r : TreeRefusal) → (choice_of s m n ≡ Err r) ↔ ChoiceRefused s m n r
  unfolding choice_of
  choice_refused_exactly r = ((λ e. go (valid_tree_lem s m) refl e), back r)
    where
      last : (b : Node) → valid_tree_lem s m ≡ Ok b → (u : Bool) → ltb n b.choices ≡ u → cond u (Ok b) (Err NoSuchChoice) ≡ Err r → ChoiceRefused s m n r
      last b p true q e = never (cc)
      last b p false q e =
          let v = valid s m b p in
          let same : NoSuchChoice ≡ r = cc in
          let few : count AllOf v.read.tree ≤ n = omega (arith, v.counted, ltb-false n b.choices q) in
          subst (ChoiceRefused s m n) same (missing v.read.tree (record { fits = v.read.fits; numbered = v.read.numbered }) v.few few)

      go : (x : Result Node TreeRefusal) → valid_tree_lem s m ≡ x → with_choice n x ≡ Err r → ChoiceRefused s m n r
      go (Ok b) p e = last b p (ltb n b.choices) refl e
      go (Err q) p e = let same : q ≡ r = cc in no_tree r ((tree_refused s m r).0 (p ∙ ap Err same))

      back : (q : TreeRefusal) → ChoiceRefused s m n q → choice_of s m n ≡ Err q
      back _ (no_tree q f) = choice_refused s m n q ((tree_refused s m q).1 f)
      back _ (missing t d o l) = missing_refused t d o l
