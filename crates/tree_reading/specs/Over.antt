-- The node that reading finds is the lowest with more than the most choices, and a tree is refused exactly if it has one.
use Rattle.tree_reading.specs.declared.TreeRefusal.{TreeRefusal}
use Rattle.std.specs.Prelude.{◌≡◌, refl, Bool, true, false, cond, List, [], ◌∷◌, ◌++◌, ℕ, ◌+◌, ◌<◌, ◌≤◌, min, ltb, length, Err, Ok, Result}
use Rattle.std.proofs.Common.{sym, ap, subst, ◌∙◌, arith, ltb-true, ltb-false, lt-ltb, le-ltb, length-append}
use Rattle.integers.specs.Laws.{never}
use Rattle.tree_reading.specs.declared.Kind.{Kind}
use Rattle.tree_reading.specs.declared.Kind.TheVariants.{AllOf}
use Rattle.tree_reading.specs.Tree.{Row, none, line, node, numbers, tree_numbers, Fits, levels}
use Rattle.tree_reading.specs.Choices.{max_choices, unit_of, count, here, overs, overs_of, lowest}
use Rattle.tree_reading.specs.declared.TreeRefusal.TheVariants.{TooManyChoices}
use Rattle.tree_reading.specs.declared.Node.{Node}
use Rattle.tree_reading.specs.Reading.{cap, begun, with_child, finished, tree_of, few_choices_lem, valid_tree_lem}
use Rattle.tree_reading.specs.Whole.{tree_valid}
use Rattle.tree_reading.specs.Accepted.{after, root_of, after_end, IsTree, accepted, read_back}
use Rattle.tree_reading.specs.Counted.{node_choices, root_choices}

-- ---- the lowest of some indices
lowest_le : (d : ℕ) (xs : List ℕ) → lowest d xs ≤ d
lowest_le d [] = omega arith
lowest_le d (x ∷ xs) = omega (arith, lowest_le d xs)

lowest_append : (d : ℕ) (xs ys : List ℕ) → lowest d (xs ++ ys) ≡ min (lowest d xs) (lowest d ys)
lowest_append d [] ys = omega (arith, lowest_le d ys)
lowest_append d (x ∷ xs) ys = omega (arith, lowest_append d xs ys)

abbrev Below : ℕ → List ℕ → Type 0
Below d [] = Unit {0}
Below d (x ∷ xs) = (x < d) × Below d xs

below_append : (d : ℕ) (xs ys : List ℕ) → Below d xs → Below d ys → Below d (xs ++ ys)
below_append d [] ys h k = k
below_append d (x ∷ xs) ys h k = (h.0, below_append d xs ys h.1 k)

below_more : (d e : ℕ) (xs : List ℕ) → d ≤ e → Below d xs → Below e xs
below_more d e [] l h = tt
below_more d e (x ∷ xs) l h = (omega (arith, h.0), below_more d e xs l h.1)

below_here : (n at d : ℕ) → at < d → Below d (here n at)
below_here n at d h = go (ltb max_choices n)
  where
    go : (t : Bool) → Below d (cond t (at ∷ []) [])
    go true = (h, tt)
    go false = tt

below_overs : (at : ℕ) (t : Row) → Below (at + length (numbers t)) (overs at t)
below_overs at none = tt
below_overs at (line i r) = below_more _ _ (overs (at + 2) r) (omega arith) (below_overs (at + 2) r)
below_overs at (node l c r) =
    let d : ℕ = at + length (numbers (node l c r)) in
    let n = length-append (numbers c) (numbers r) in
    let p : Below d (here (count l c) at) = below_here (count l c) at d (omega arith) in
    let q : Below d (overs (at + 2) c) = below_more _ _ (overs (at + 2) c) (omega arith) (below_overs (at + 2) c) in
    let u : Below d (overs (at + 2 + length (numbers c)) r) = below_more _ _ (overs (at + 2 + length (numbers c)) r) (omega arith) (below_overs (at + 2 + length (numbers c)) r) in
    below_append d (here (count l c) at ++ overs (at + 2) c) _ (below_append d (here (count l c) at) (overs (at + 2) c) p q) u

pub below_overs_of : (t : Row) → Below (length (tree_numbers t)) (overs_of t)
below_overs_of t = below_append _ (here (count AllOf t) 0) (overs 2 t) (below_here (count AllOf t) 0 _ (omega arith)) (below_more _ _ (overs 2 t) (omega arith) (below_overs 2 t))

lowest_below : (d x : ℕ) (xs : List ℕ) → Below d (x ∷ xs) → lowest d (x ∷ xs) < d
lowest_below d x xs h = omega (arith, h.0)

-- ---- what reading finds
module _ (s : List ℕ) where
  -- the test on the number that was cut is the test on the number
  node_over : (n at : ℕ) (a : Node) (xs : List ℕ) → a.choices ≡ cap n → a.over ≡ lowest (length s) xs → (finished at a).over ≡ lowest (length s) (here n at ++ xs)
  node_over n at a xs p q = go (ltb max_choices n) refl
    where
      go : (t : Bool) → ltb max_choices n ≡ t → cond (ltb max_choices a.choices) (min at a.over) a.over ≡ lowest (length s) (cond t (at ∷ []) [] ++ xs)
      go true e = let h = ltb-true max_choices n e in rw (lt-ltb max_choices a.choices (omega arith)) (ap (min at) q)
      go false e = let h = ltb-false max_choices n e in rw (le-ltb max_choices a.choices (omega arith)) q

  after_over : (k : Kind) (a : Node) (t : Row) → a.over ≤ length s → (after s k a t).over ≡ min a.over (lowest (length s) (overs a.end t))
  after_over k a none h = omega arith
  after_over k a (line i r) h = omega (arith, after_over k (with_child k a (begun s a.end 1)) r (omega arith))
  after_over k a (node l c r) h =
      let e : ℕ = a.end in
      let x : Node = after s l (begun s e (unit_of l)) c in
      let b : Node = finished e x in
      let n : x.choices ≡ cap (count l c) = node_choices s l e c in
      let o : x.over ≡ lowest (length s) (overs (e + 2) c) = omega (arith, after_over l (begun s e (unit_of l)) c (omega arith), lowest_le (length s) (overs (e + 2) c)) in
      let p : b.over ≡ lowest (length s) (here (count l c) e ++ overs (e + 2) c) = node_over (count l c) e x (overs (e + 2) c) n o in
      let q : lowest (length s) (overs b.end r) ≡ lowest (length s) (overs (e + 2 + length (numbers c)) r) = ap (λ (j : ℕ). lowest (length s) (overs j r)) (after_end s l (begun s e (unit_of l)) c) in
      let u = after_over k (with_child k a b) r (omega arith) in
      omega (arith, lowest_append (length s) (here (count l c) e ++ overs (e + 2) c) (overs (e + 2 + length (numbers c)) r))

  pub root_over : (t : Row) → (root_of s t).over ≡ lowest (length s) (overs_of t)
  root_over t = node_over (count AllOf t) 0 (after s AllOf (begun s 0 (unit_of AllOf)) t) (overs 2 t) (root_choices s t) (omega (arith, after_over AllOf (begun s 0 (unit_of AllOf)) t (omega arith), lowest_le (length s) (overs 2 t)))

-- ---- they rise, so that the first in reading order is the lowest
abbrev Rising : ℕ → List ℕ → Type 0
Rising lo [] = Unit {0}
Rising lo (x ∷ xs) = (lo ≤ x) × Rising x xs

rising_from : (lo hi : ℕ) (xs : List ℕ) → hi ≤ lo → Rising lo xs → Rising hi xs
rising_from lo hi [] l h = tt
rising_from lo hi (x ∷ xs) l h = (omega (arith, h.0), h.1)

rising_append : (lo d : ℕ) (xs ys : List ℕ) → lo ≤ d → Rising lo xs → Below d xs → Rising d ys → Rising lo (xs ++ ys)
rising_append lo d [] ys l h b k = rising_from d lo ys l k
rising_append lo d (x ∷ xs) ys l h b k = (h.0, rising_append x d xs ys (omega (arith, b.0)) h.1 b.1 k)

rising_here : (n at : ℕ) → Rising at (here n at)
rising_here n at = go (ltb max_choices n)
  where
    go : (t : Bool) → Rising at (cond t (at ∷ []) [])
    go true = (omega arith, tt)
    go false = tt

rising_overs : (at : ℕ) (t : Row) → Rising at (overs at t)
rising_overs at none = tt
rising_overs at (line i r) = rising_from (at + 2) at (overs (at + 2) r) (omega arith) (rising_overs (at + 2) r)
rising_overs at (node l c r) =
    let h : List ℕ = here (count l c) at in
    let e : ℕ = at + 2 + length (numbers c) in
    let p : Rising at (h ++ overs (at + 2) c) = rising_append at (at + 2) h (overs (at + 2) c) (omega arith) (rising_here (count l c) at) (below_here (count l c) at (at + 2) (omega arith)) (rising_overs (at + 2) c) in
    let b : Below e (h ++ overs (at + 2) c) = below_append e h (overs (at + 2) c) (below_here (count l c) at e (omega arith)) (below_overs (at + 2) c) in
    rising_append at e (h ++ overs (at + 2) c) (overs e r) (omega arith) p b (rising_overs e r)

rising_overs_of : (t : Row) → Rising 0 (overs_of t)
rising_overs_of t = rising_append 0 2 (here (count AllOf t) 0) (overs 2 t) (omega arith) (rising_here (count AllOf t) 0) (below_here (count AllOf t) 0 2 (omega arith)) (rising_overs 2 t)

lowest_rising : (d x : ℕ) (xs : List ℕ) → x ≤ d → Rising x xs → x ≤ lowest d xs
lowest_rising d x [] l h = l
lowest_rising d x (y ∷ ys) l h = omega (arith, h.0, lowest_rising d x ys l (rising_from y x ys h.0 h.1))

first_lowest : (d x : ℕ) (xs : List ℕ) → x ≤ d → Rising x xs → lowest d (x ∷ xs) ≡ x
first_lowest d x xs l h = omega (arith, lowest_rising d x xs l h)

-- ---- the refusal of a tree, or its number of choices
few_choices : (t : Row) → overs_of t ≡ [] → count AllOf t ≤ max_choices
few_choices t e = go (ltb max_choices (count AllOf t)) refl e
  where
    go : (u : Bool) → ltb max_choices (count AllOf t) ≡ u → cond u (0 ∷ []) [] ++ overs 2 t ≡ [] → count AllOf t ≤ max_choices
    go true p q = never (cc)
    go false p q = ltb-false max_choices (count AllOf t) p

-- s are the numbers of a tree with at most the most choices at each node, and b has where it ends and its number of choices
pub record IsValid (s : List ℕ) (m : ℕ) (b : Node) : Type 0 where
  pub read : IsTree s m b
  pub few : overs_of read.tree ≡ []
  pub counted : b.choices ≡ count AllOf read.tree

pub valid : (s : List ℕ) (m : ℕ) (b : Node) → valid_tree_lem s m ≡ Ok b → IsValid s m b
unfolding valid_tree_lem
valid s m b = go (tree_of s m) refl
  where
    none_over : (t : IsTree s m b) → length s ≤ b.over → (xs : List ℕ) → overs_of t.tree ≡ xs → xs ≡ []
    none_over t h [] e = refl
    none_over t h (x ∷ xs) e =
        let l : b.over ≡ lowest (length s) (x ∷ xs) = ap (λ (n : Node). n.over) t.same ∙ root_over s t.tree ∙ ap (lowest (length s)) e in
        let p : Below (length s) (x ∷ xs) = subst (Below (length s)) e (subst (λ (l : List ℕ). Below (length l) (overs_of t.tree)) (sym t.numbered) (below_overs_of t.tree)) in
        absurd (omega (arith, lowest_below (length s) x xs p))

    whole : (t : IsTree s m b) → length s ≤ b.over → IsValid s m b
    whole t h =
        let e : overs_of t.tree ≡ [] = none_over t h (overs_of t.tree) refl in
        record { read = t; few = e; counted = ap (λ (n : Node). n.choices) t.same ∙ root_choices s t.tree ∙ omega (arith, few_choices t.tree e) }

    last : (x : Node) → tree_of s m ≡ Ok x → (u : Bool) → ltb x.over (length s) ≡ u → cond u (Err (TooManyChoices x.over)) (Ok x) ≡ Ok b → IsValid s m b
    last x p true q e = never (cc)
    last x p false q e =
        let j : x ≡ b = cc in
        let i : length s ≤ x.over = ltb-false _ _ q in
        whole (accepted s m b (p ∙ ap Ok j)) (subst (λ (n : Node). length s ≤ n.over) j i)

    go : (r : Result Node TreeRefusal) → tree_of s m ≡ r → few_choices_lem s r ≡ Ok b → IsValid s m b
    go (Ok x) p e = last x p (ltb x.over (length s)) refl e
    go (Err r) p e = never (cc)

module _ (t : Row) (m : ℕ) (f : Fits m AllOf levels t) where
  pub valid_back : overs_of t ≡ [] → valid_tree_lem (tree_numbers t) m ≡ Ok (root_of (tree_numbers t) t)
  valid_back e =
      let s : List ℕ = tree_numbers t in
      let h : length s ≤ (root_of s t).over = omega (arith, root_over s t ∙ ap (lowest (length s)) e) in
      tree_valid s m _ (read_back t m f) ∙ rw (le-ltb _ _ h)

  pub too_many : (x : ℕ) (xs : List ℕ) → overs_of t ≡ x ∷ xs → valid_tree_lem (tree_numbers t) m ≡ Err (TooManyChoices x)
  too_many x xs e =
      let s : List ℕ = tree_numbers t in
      let b : Below (length s) (x ∷ xs) = subst (Below (length s)) e (below_overs_of t) in
      let r : Rising 0 (x ∷ xs) = subst (Rising 0) e (rising_overs_of t) in
      let q : (root_of s t).over ≡ x = root_over s t ∙ ap (lowest (length s)) e ∙ first_lowest (length s) x xs (omega (arith, b.0)) r.1 in
      let h : (root_of s t).over < length s = omega (arith, b.0) in
      tree_valid s m _ (read_back t m f) ∙ rw (lt-ltb _ _ h) (ap (λ (j : ℕ). Err (TooManyChoices j)) q)
