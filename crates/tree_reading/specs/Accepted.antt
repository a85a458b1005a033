-- The numbers that are read are those of one tree: reading the numbers of a tree gives that tree's end and its choices,
-- and whatever is read are the numbers of a tree.
use Rattle.std.specs.Prelude.{◌≡◌, Bool, true, false, cond, List, [], ◌∷◌, ltb, eqb, get_or, Err, Ok, Result}
use Rattle.std.proofs.Math.Path.{refl, sym, ap}
use Rattle.std.proofs.Common.{◌∙◌, arith, ltb-false, le-ltb, length-append}
use Prim.Native.Nat.{ℕ, zero, suc, ◌+◌, ◌<◌, ◌≤◌}
use Rattle.std.proofs.lemmas.Bool.{eqb-false}
use Rattle.std.proofs.Math.ListN.{length}
use Rattle.integers.specs.Laws.{never}
use Rattle.tree_reading.specs.declared.Kind.{Kind}
use Rattle.tree_reading.specs.declared.Kind.TheVariants.{AllOf}
use Rattle.tree_reading.specs.Tree.{Row, none, line, node, other, code_of, line_code_lem, size, numbers, tree_numbers, Fits, levels}
use Rattle.tree_reading.specs.Choices.{unit_of}
use Rattle.tree_reading.specs.declared.TreeRefusal.{TreeRefusal}
use Rattle.tree_reading.specs.declared.TreeRefusal.TheVariants.{Malformed}
use Rattle.tree_reading.specs.declared.Head.{Head}
use Rattle.tree_reading.specs.declared.Head.TheVariants.{Line, Children}
use Rattle.tree_reading.specs.declared.Node.{Node}
use Rattle.tree_reading.specs.Reading.{head_of, begun, with_child, finished, onward, children_of, opened, node_of, root_is_line_lem, whole_tree_lem, tree_of}
use Rattle.tree_reading.specs.Heads.{head_line, head_children, line_in, children_in, LineAt, NodeAt}
use Rattle.tree_reading.specs.Running.{child_more, closed, node_line, node_wrong, line_at_law, node_at}
use Rattle.tree_reading.specs.Whole.{tree_read}
use Rattle.tree_reading.specs.Numbers.{Has, has_at, has_append, has_both, has_self, has_all, code_not_line}

-- what is read of these children, after those before them
abbrev pub after : List ℕ → Kind → Node → Row → Node
after s k a none = a
after s k a (line i r) = after s k (with_child k a (begun s a.end 1)) r
after s k a (node l c r) = after s k (with_child k a (finished a.end (after s l (begun s a.end (unit_of l)) c))) r

-- what is read of a whole tree
abbrev pub root_of : List ℕ → Row → Node
root_of s t = finished 0 (after s AllOf (begun s 0 (unit_of AllOf)) t)

pub after_end : (s : List ℕ) (k : Kind) (a : Node) (t : Row) → (after s k a t).end ≡ a.end + length (numbers t)
after_end s k a none = omega arith
after_end s k a (line i r) = omega (arith, after_end s k (with_child k a (begun s a.end 1)) r)
after_end s k a (node l c r) =
    let b : Node = after s l (begun s a.end (unit_of l)) c in
    omega (arith, after_end s k (with_child k a (finished a.end b)) r, after_end s l (begun s a.end (unit_of l)) c, length-append (numbers c) (numbers r))

module _ (s : List ℕ) (m : ℕ) where
  -- a node's children, one level down
  node_children : (d : ℕ) (k : Kind) (at n : ℕ) → head_of s m (suc d) (code_of k) at ≡ Ok (Children n)
      → node_of s m (suc d) k at ≡ closed at (children_of (node_of s m d (other k)) k n (begun s at (unit_of k)))
  unfolding node_of
  node_children d k at n e = ap (opened s (node_of s m d (other k)) k at) e

  -- ---- the numbers of a tree are read
  pub line_head : (d : ℕ) (k : Kind) (at i : ℕ) → i < m → Has s at (line_code_lem ∷ i ∷ []) → head_of s m (suc d) (code_of k) at ≡ Ok Line
  line_head d k at i h p = head_line s m (suc d) (code_of k) at p.0 (omega arith) p.1 ∙ line_in s m at p.2.0 (omega (arith, p.2.1))

  pub line_read : (d : ℕ) (k : Kind) (at i : ℕ) → i < m → Has s at (line_code_lem ∷ i ∷ []) → node_of s m (suc d) k at ≡ Ok (begun s at 1)
  line_read d k at i h p = node_line s m (suc d) k at (line_head d k at i h p)

  pub node_head : (d : ℕ) (k : Kind) (at n : ℕ) → Has s at (code_of k ∷ n ∷ []) → head_of s m (suc d) (code_of k) at ≡ Ok (Children n)
  node_head d k at n p =
      head_children s m (suc d) (code_of k) at p.0 (omega arith) (λ e. code_not_line k (sym p.1 ∙ e)) p.1
      ∙ children_in s at p.2.0
      ∙ ap (λ (j : ℕ). Ok (Children j)) p.2.1

  pub children_read : (d : ℕ) (k : Kind) (t : Row) (a : Node) → Fits m k d t → Has s a.end (numbers t)
      → children_of (node_of s m d (other k)) k (size t) a ≡ Ok (after s k a t)
  unfolding children_of
  children_read d k none a f h = refl
  children_read zero k (line i r) a f h = absurd f
  children_read zero k (node l c r) a f h = absurd f
  children_read (suc d) k (line i r) a f h =
      let b : Node = begun s a.end 1 in
      let e : node_of s m (suc d) (other k) a.end ≡ Ok b = line_read d (other k) a.end i f.0 (h.0, h.1, (h.2.0, h.2.1, tt)) in
      child_more _ k (size r) a b e ∙ children_read (suc d) k r (with_child k a b) f.1 (has_at s (numbers r) (omega arith) h.2.2)
  children_read (suc d) k (node l c r) a f h =
      let x : Node = after s l (begun s a.end (unit_of l)) c in
      let b : Node = finished a.end x in
      let p = has_append s (a.end + 1 + 1) (numbers c) (numbers r) h.2.2 in
      let hc : Has s (a.end + 2) (numbers c) = has_at s (numbers c) (omega arith) p.0 in
      let e : node_of s m (suc d) l a.end ≡ Ok b
      = node_children d l a.end (size c) (node_head d l a.end (size c) (h.0, h.1, (h.2.0, h.2.1, tt)))
      ∙ ap (closed a.end) (children_read d l c (begun s a.end (unit_of l)) f.1 hc) in
      let g : node_of s m (suc d) (other k) a.end ≡ Ok b = ap (λ (q : Kind). node_of s m (suc d) q a.end) (sym f.0) ∙ e in
      let hr : Has s b.end (numbers r) = has_at s (numbers r) (omega (arith, after_end s l (begun s a.end (unit_of l)) c)) p.1 in
      child_more _ k (size r) a b g ∙ children_read (suc d) k r (with_child k a b) f.2 hr

  pub node_read : (d : ℕ) (l : Kind) (c : Row) (at : ℕ) → Fits m l d c → Has s at (code_of l ∷ size c ∷ []) → Has s (at + 2) (numbers c)
      → node_of s m (suc d) l at ≡ Ok (finished at (after s l (begun s at (unit_of l)) c))
  node_read d l c at f h k = node_children d l at (size c) (node_head d l at (size c) h) ∙ ap (closed at) (children_read d l c (begun s at (unit_of l)) f k)

  -- ---- what is read are the numbers of a tree
  -- so many children of a node of kind k, with d levels below it
  record Found (d : ℕ) (k : Kind) (n : ℕ) (a b : Node) : Type 0 where
    tree : Row
    fits : Fits m k d tree
    sized : size tree ≡ n
    has : Has s a.end (numbers tree)
    same : b ≡ after s k a tree

  -- one of them: a line, or a node of kind l
  data Child (d : ℕ) (l : Kind) (at : ℕ) : Node → Type 0 where
    a_line : LineAt s m (suc d) at → Child d l at (begun s at 1)
    a_node : (n : ℕ) (x : Node) → NodeAt s (suc d) (code_of l) at n → Found d l n (begun s at (unit_of l)) x → Child d l at (finished at x)

  -- n children, each of which is found
  children_found : (d : ℕ) (k : Kind) → ((at : ℕ) (b : Node) → node_of s m (suc d) (other k) at ≡ Ok b → Child d (other k) at b)
      → (n : ℕ) (a b : Node) → children_of (node_of s m (suc d) (other k)) k n a ≡ Ok b → Found (suc d) k n a b
  unfolding children_of
  children_found d k f zero a b e = record { tree = none; fits = tt; sized = refl; has = tt; same = cc }
  children_found d k f (suc n) a b e = go (node_of s m (suc d) (other k) a.end) refl e (λ x q. children_found d k f n (with_child k a x) b q)
    where
      put : (x : Node) → Child d (other k) a.end x → Found (suc d) k n (with_child k a x) b → Found (suc d) k (suc n) a b
      put _ (a_line l) g =
          record {
            tree = line (get_or s (a.end + 1) 0) g.tree;
            fits = (l.listed, g.fits);
            sized = ap suc g.sized;
            has = (omega (arith, l.whole), l.named, (l.whole, refl, has_at s (numbers g.tree) (omega arith) g.has));
            same = g.same;
          }
      put _ (a_node j x l c) g =
          let t : Row = c.tree in
          let q : x.end ≡ (a.end + 2) + length (numbers t) = ap (λ (y : Node). y.end) c.same ∙ after_end s (other k) (begun s a.end (unit_of (other k))) t in
          let hr : Has s ((a.end + 1 + 1) + length (numbers t)) (numbers g.tree) = has_at s (numbers g.tree) (omega arith) g.has in
          let hc : Has s (a.end + 1 + 1) (numbers t) = has_at s (numbers t) (omega arith) c.has in
          record {
            tree = node (other k) t g.tree;
            fits = (refl, c.fits, g.fits);
            sized = ap suc g.sized;
            has = (omega (arith, l.whole), l.named, (l.whole, l.sized ∙ sym c.sized, has_both s (a.end + 1 + 1) (numbers t) (numbers g.tree) hc hr));
            same = g.same ∙ ap (λ (y : Node). after s k (with_child k a (finished a.end y)) g.tree) c.same;
          }

      go : (r : Result Node TreeRefusal) → node_of s m (suc d) (other k) a.end ≡ r → onward (λ (x : Node). children_of (node_of s m (suc d) (other k)) k n (with_child k a x)) r ≡ Ok b
          → ((x : Node) → children_of (node_of s m (suc d) (other k)) k n (with_child k a x) ≡ Ok b → Found (suc d) k n (with_child k a x) b) → Found (suc d) k (suc n) a b
      go (Ok x) p q h = put x (f a.end x p) (h x q)
      go (Err r) p q h = never (cc)

  -- below the last level there is nothing
  too_deep : (k : Kind) (at : ℕ) (b : Node) → node_of s m zero k at ≡ Ok b → ⊥
  too_deep k at b e = go (head_of s m zero (code_of k) at) refl
    where
      go : (h : Result Head TreeRefusal) → head_of s m zero (code_of k) at ≡ h → ⊥
      go (Ok Line) q = omega (arith, (line_at_law s m zero k at q).levels)
      go (Ok (Children n)) q = omega (arith, (node_at s m zero k at n q).levels)
      go (Err r) q = never (cc (node_wrong s m zero k at r q))

  none_found : (k : Kind) (n : ℕ) (a b : Node) → children_of (node_of s m zero (other k)) k n a ≡ Ok b → Found zero k n a b
  unfolding children_of
  none_found k zero a b e = record { tree = none; fits = tt; sized = refl; has = tt; same = cc }
  none_found k (suc n) a b e = go (node_of s m zero (other k) a.end) refl e
    where
      go : (r : Result Node TreeRefusal) → node_of s m zero (other k) a.end ≡ r → onward (λ (x : Node). children_of (node_of s m zero (other k)) k n (with_child k a x)) r ≡ Ok b → Found zero k (suc n) a b
      go (Ok x) p q = absurd (too_deep (other k) a.end x p)
      go (Err r) p q = never (cc)

  node_found : (d : ℕ) (l : Kind) (at : ℕ) (b : Node) → ((n : ℕ) (a x : Node) → children_of (node_of s m d (other l)) l n a ≡ Ok x → Found d l n a x)
      → node_of s m (suc d) l at ≡ Ok b → Child d l at b
  node_found d l at b f e = go (head_of s m (suc d) (code_of l) at) refl
    where
      inside : (n : ℕ) → NodeAt s (suc d) (code_of l) at n → (r : Result Node TreeRefusal) → children_of (node_of s m d (other l)) l n (begun s at (unit_of l)) ≡ r
          → closed at r ≡ Ok b → Child d l at b
      inside n h (Ok x) p q = let t : finished at x ≡ b = cc in rw (← t) (a_node n x h (f n (begun s at (unit_of l)) x p))
      inside n h (Err r) p q = never (cc)

      go : (h : Result Head TreeRefusal) → head_of s m (suc d) (code_of l) at ≡ h → Child d l at b
      go (Ok Line) q = let t : begun s at 1 ≡ b = cc (node_line s m (suc d) l at q) in rw (← t) (a_line (line_at_law s m (suc d) l at q))
      go (Ok (Children n)) q = inside n (node_at s m (suc d) l at n q) _ refl (sym (node_children d l at n q) ∙ e)
      go (Err r) q = never (cc (node_wrong s m (suc d) l at r q))

  found : (d : ℕ) (k : Kind) (n : ℕ) (a b : Node) → children_of (node_of s m d (other k)) k n a ≡ Ok b → Found d k n a b
  found zero k n a b e = none_found k n a b e
  found (suc d) k n a b e = children_found d k (λ at x. node_found d (other k) at x (found d (other k))) n a b e

-- ---- the whole tree
-- s are the numbers of a tree that fits, and b is what is read of it
pub record IsTree (s : List ℕ) (m : ℕ) (b : Node) : Type 0 where
  pub tree : Row
  pub fits : Fits m AllOf levels tree
  pub numbered : s ≡ tree_numbers tree
  pub same : b ≡ root_of s tree

pub accepted : (s : List ℕ) (m : ℕ) (b : Node) → tree_of s m ≡ Ok b → IsTree s m b
unfolding tree_of root_is_line_lem
accepted s m b = begin (eqb (get_or s 0 0) line_code_lem) refl
  where
    whole : (x : Node) → Child s m levels AllOf 0 x → (get_or s 0 0 ≡ line_code_lem → ⊥) → length s ≤ x.end → IsTree s m x
    whole _ (a_line l) n h = absurd (n l.named)
    whole _ (a_node n x l c) _ h =
        let t : Row = c.tree in
        let q : x.end ≡ 2 + length (numbers t) = ap (λ (y : Node). y.end) c.same ∙ after_end s AllOf (begun s 0 (unit_of AllOf)) t in
        let p : Has s 0 (tree_numbers t) = (omega (arith, l.whole), l.named, (l.whole, l.sized ∙ sym c.sized, c.has)) in
        record { tree = t; fits = c.fits; numbered = has_all s (tree_numbers t) p (omega arith); same = ap (finished 0) c.same }

    last : (x : Node) (u : Bool) → ltb x.end (length s) ≡ u → cond u (Err (Malformed x.end)) (Ok x) ≡ Ok b → (length s ≤ x.end → IsTree s m x) → IsTree s m b
    last x true p e f = never (cc)
    last x false p e f = let q : x ≡ b = cc in rw (← q) (f (ltb-false _ _ p))

    go : (get_or s 0 0 ≡ line_code_lem → ⊥) → (r : Result Node TreeRefusal) → node_of s m (suc levels) AllOf 0 ≡ r → whole_tree_lem s r ≡ Ok b → IsTree s m b
    go n (Ok x) p e = last x (ltb x.end (length s)) refl e (whole x (node_found s m levels AllOf 0 x (found s m levels AllOf) p) n)
    go n (Err r) p e = never (cc)

    begin : (u : Bool) → eqb (get_or s 0 0) line_code_lem ≡ u → cond u (Err (Malformed 0)) (whole_tree_lem s (node_of s m (suc levels) AllOf 0)) ≡ Ok b → IsTree s m b
    begin true q e = never (cc)
    begin false q e = go (eqb-false _ _ q) (node_of s m (suc levels) AllOf 0) refl e

pub read_back : (t : Row) (m : ℕ) → Fits m AllOf levels t → tree_of (tree_numbers t) m ≡ Ok (root_of (tree_numbers t) t)
unfolding root_is_line_lem
read_back t m f =
    let s : List ℕ = tree_numbers t in
    let h : Has s 0 s = has_self s in
    let k : head_of s m (suc levels) (code_of AllOf) 0 ≡ Ok (Children (size t)) = node_head s m levels AllOf 0 (size t) (h.0, h.1, (h.2.0, h.2.1, tt)) in
    let e : node_of s m (suc levels) AllOf 0 ≡ Ok (root_of s t)
    = node_children s m levels AllOf 0 (size t) k ∙ ap (closed 0) (children_read s m levels AllOf t (begun s 0 (unit_of AllOf)) f h.2.2) in
    let l : length s ≤ (root_of s t).end = omega (arith, after_end s AllOf (begun s 0 (unit_of AllOf)) t) in
    tree_read s m (Ok (root_of s t)) refl e ∙ rw (le-ltb _ _ l)

-- what is refused are the numbers of no tree
pub refused_none : (s : List ℕ) (m : ℕ) (r : TreeRefusal) → tree_of s m ≡ Err r → (t : Row) → Fits m AllOf levels t → s ≡ tree_numbers t → ⊥
refused_none s m r e t f q = never (cc (sym e ∙ ap (λ (l : List ℕ). tree_of l m) q ∙ read_back t m f))
