-- Reading the children of a node one after the other: what the loops of both readers keep.
use Rattle.std.specs.Prelude.{◌≡◌, List, Err, Ok, Result}
use Rattle.std.proofs.Math.Path.{refl, ap}
use Rattle.std.proofs.Common.{sym, ◌∙◌}
use Prim.Native.Nat.{ℕ, zero, suc, ◌-◌, ◌<◌}
use native.Mathlib.Omega.{arith}
use Rattle.tree_reading.specs.declared.Kind.{Kind}
use Rattle.tree_reading.specs.Tree.{other, code_of}
use Rattle.tree_reading.specs.Choices.{unit_of}
use Rattle.tree_reading.specs.declared.TreeRefusal.{TreeRefusal}
use Rattle.tree_reading.specs.declared.TreeRefusal.TheVariants.{TooDeep}
use Rattle.tree_reading.specs.declared.Head.TheVariants.{Line, Children}
use Rattle.tree_reading.specs.declared.Node.{Node}
use Rattle.tree_reading.specs.Reading.{head_of, begun, with_child, finished, onward, children_of, opened, node_of}
use Rattle.tree_reading.specs.Heads.{NodeAt, LineAt, stands}

-- the children, and then the node
abbrev pub closed : ℕ → Result Node TreeRefusal → Result Node TreeRefusal
closed at r = onward (λ (a : Node). Ok (finished at a)) r

module _ (f : ℕ → Result Node TreeRefusal) (k : Kind) where
  pub child_more : (n : ℕ) (a b : Node) → f a.end ≡ Ok b → children_of f k (suc n) a ≡ children_of f k n (with_child k a b)
  unfolding children_of
  child_more n a b e = ap (onward (λ (x : Node). children_of f k n (with_child k a x))) e

  child_stop : (n : ℕ) (a : Node) (r : TreeRefusal) → 0 < n → f a.end ≡ Err r → children_of f k n a ≡ Err r
  unfolding children_of
  child_stop zero a r h e = absurd (omega arith)
  child_stop (suc n) a r h e = ap (onward (λ (x : Node). children_of f k n (with_child k a x))) e

  child_none : (n : ℕ) (a : Node) → n ≡ 0 → children_of f k n a ≡ Ok a
  unfolding children_of
  child_none zero a e = refl
  child_none (suc n) a e = absurd (omega arith)

module _ (s : List ℕ) (m d : ℕ) (k : Kind) (at : ℕ) where
  pub node_line : head_of s m d (code_of k) at ≡ Ok Line → node_of s m d k at ≡ Ok (begun s at 1)
  unfolding node_of
  node_line e = go d e
    where
      go : (d : ℕ) → head_of s m d (code_of k) at ≡ Ok Line → node_of s m d k at ≡ Ok (begun s at 1)
      go zero e = ap (opened s (λ p. Err (TooDeep p)) k at) e
      go (suc d) e = ap (opened s (node_of s m d (other k)) k at) e

  pub node_wrong : (r : TreeRefusal) → head_of s m d (code_of k) at ≡ Err r → node_of s m d k at ≡ Err r
  unfolding node_of
  node_wrong r e = go d e
    where
      go : (d : ℕ) → head_of s m d (code_of k) at ≡ Err r → node_of s m d k at ≡ Err r
      go zero e = ap (opened s (λ p. Err (TooDeep p)) k at) e
      go (suc d) e = ap (opened s (node_of s m d (other k)) k at) e

  pub line_at_law : head_of s m d (code_of k) at ≡ Ok Line → LineAt s m d at
  line_at_law e = rw e at (stands s m d (code_of k) at)

  pub node_at : (n : ℕ) → head_of s m d (code_of k) at ≡ Ok (Children n) → NodeAt s d (code_of k) at n
  node_at n e = rw e at (stands s m d (code_of k) at)

  -- so many children are left, after these
  pub record Running (left : ℕ) (a : Node) : Type 0 where
    pub levels : 0 < d
    pub same : node_of s m d k at ≡ closed at (children_of (node_of s m (d - 1) (other k)) k left a)

  pub begins : (n : ℕ) → head_of s m d (code_of k) at ≡ Ok (Children n) → Running n (begun s at (unit_of k))
  unfolding node_of
  begins n e = record { levels = (node_at n e).levels; same = go d e (node_at n e).levels }
    where
      go : (d : ℕ) → head_of s m d (code_of k) at ≡ Ok (Children n) → 0 < d
          → node_of s m d k at ≡ closed at (children_of (node_of s m (d - 1) (other k)) k n (begun s at (unit_of k)))
      go zero e h = absurd (omega arith)
      go (suc d) e h =
          let q : d ≡ suc d - 1 = omega arith in
          ap (opened s (node_of s m d (other k)) k at) e ∙ ap (λ (j : ℕ). closed at (children_of (node_of s m j (other k)) k n (begun s at (unit_of k)))) q

  pub goes_on : (left next : ℕ) (a b : Node) → Running left a → left ≡ suc next → node_of s m (d - 1) (other k) a.end ≡ Ok b → Running next (with_child k a b)
  goes_on left next a b h p e =
      record {
        levels = h.levels;
        same = h.same ∙ ap (λ (j : ℕ). closed at (children_of (node_of s m (d - 1) (other k)) k j a)) p ∙ ap (closed at) (child_more _ k next a b e);
      }

  pub stops : (left : ℕ) (a : Node) (r : TreeRefusal) → Running left a → 0 < left → node_of s m (d - 1) (other k) a.end ≡ Err r → Err r ≡ node_of s m d k at
  stops left a r h p e = sym (h.same ∙ ap (closed at) (child_stop _ k left a r p e))

  pub ends : (left : ℕ) (a : Node) → Running left a → left ≡ 0 → Ok (finished at a) ≡ node_of s m d k at
  ends left a h e = sym (h.same ∙ ap (closed at) (child_none _ k left a e))
