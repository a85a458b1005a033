-- What stands at an index, by the tests.
use Rattle.tree_reading.specs.declared.TreeRefusal.{TreeRefusal}
use Rattle.std.specs.Prelude.{◌≡◌, Bool, cond, List, ℕ, zero, suc, ◌+◌, ◌<◌, ◌≤◌, length, get_or, Err, Ok, Result}
use Rattle.std.proofs.Math.Path.{refl}
use Rattle.std.proofs.Math.Bool.{true, false}
use Rattle.std.proofs.Common.{arith}
use borrow.Author.Tests.{lt-ltb, le-ltb, eq-eqb, ne_eqb, ltb-true, eqb-true, eqb-false}
use Rattle.std.proofs.Math.Dec.{ltb, eqb}
use Rattle.tree_reading.specs.Tree.{line_code_lem}
use Rattle.tree_reading.specs.declared.TreeRefusal.TheVariants.{Malformed, TooDeep}
use Rattle.tree_reading.specs.declared.Head.{Head}
use Rattle.tree_reading.specs.declared.Head.TheVariants.{Line, Children}
use Rattle.tree_reading.specs.Reading.{line_head_lem, children_head_lem, head_of}

module _ (s : List ℕ) (m d kind at : ℕ) where
  pub head_cut : length s ≤ at → head_of s m d kind at ≡ Err (Malformed (length s))
  unfolding head_of
  head_cut h = rw (le-ltb _ _ h)

  pub head_deep : at < length s → d ≡ 0 → head_of s m d kind at ≡ Err (TooDeep at)
  unfolding head_of
  head_deep h e = rw (lt-ltb _ _ h, eq-eqb _ _ e)

  pub head_line : at < length s → 0 < d → get_or s at 0 ≡ line_code_lem → head_of s m d kind at ≡ line_head_lem s m at
  unfolding head_of
  head_line h p e = rw (lt-ltb _ _ h, ne_eqb d 0 (λ q. omega arith), eq-eqb _ _ e)

  pub head_children : at < length s → 0 < d → (get_or s at 0 ≡ line_code_lem → ⊥) → get_or s at 0 ≡ kind → head_of s m d kind at ≡ children_head_lem s at
  unfolding head_of
  head_children h p n e = rw (lt-ltb _ _ h, ne_eqb d 0 (λ q. omega arith), ne_eqb _ _ n, eq-eqb _ _ e)

  pub head_kind : at < length s → 0 < d → (get_or s at 0 ≡ line_code_lem → ⊥) → (get_or s at 0 ≡ kind → ⊥) → head_of s m d kind at ≡ Err (Malformed at)
  unfolding head_of
  head_kind h p n q = rw (lt-ltb _ _ h, ne_eqb d 0 (λ e. omega arith), ne_eqb _ line_code_lem n, ne_eqb _ kind q)

module _ (s : List ℕ) (m at : ℕ) where
  pub line_cut : length s ≤ at + 1 → line_head_lem s m at ≡ Err (Malformed (length s))
  unfolding line_head_lem
  line_cut h = rw (le-ltb _ _ h)

  pub line_out : at + 1 < length s → m ≤ get_or s (at + 1) 0 → line_head_lem s m at ≡ Err (Malformed (at + 1))
  unfolding line_head_lem
  line_out h k = rw (lt-ltb (at + 1) _ h, le-ltb _ m k)

  pub line_in : at + 1 < length s → get_or s (at + 1) 0 < m → line_head_lem s m at ≡ Ok Line
  unfolding line_head_lem
  line_in h k = rw (lt-ltb (at + 1) _ h, lt-ltb _ m k)

module _ (s : List ℕ) (at : ℕ) where
  pub children_cut : length s ≤ at + 1 → children_head_lem s at ≡ Err (Malformed (length s))
  unfolding children_head_lem
  children_cut h = rw (le-ltb _ _ h)

  pub children_in : at + 1 < length s → children_head_lem s at ≡ Ok (Children (get_or s (at + 1) 0))
  unfolding children_head_lem
  children_in h = rw (lt-ltb _ _ h)

-- ---- and back: what is known where a node stands
pub record LineAt (s : List ℕ) (m d at : ℕ) : Type 0 where
  pub whole : at + 1 < length s
  pub levels : 0 < d
  pub named : get_or s at 0 ≡ line_code_lem
  pub listed : get_or s (at + 1) 0 < m

pub record NodeAt (s : List ℕ) (d kind at n : ℕ) : Type 0 where
  pub whole : at + 1 < length s
  pub levels : 0 < d
  pub named : get_or s at 0 ≡ kind
  pub sized : get_or s (at + 1) 0 ≡ n

positive : (d : ℕ) → (d ≡ 0 → ⊥) → 0 < d
positive zero n = absurd (n refl)
positive (suc d) n = omega arith

module _ (s : List ℕ) (m d kind at : ℕ) where
  abbrev pub Stands : Result Head TreeRefusal → Type 0
  Stands (Ok Line) = LineAt s m d at
  Stands (Ok (Children n)) = NodeAt s d kind at n
  Stands (Err r) = Unit {0}

  pub stands : Stands (head_of s m d kind at)
  unfolding head_of line_head_lem children_head_lem
  stands = go (ltb at (length s)) refl (eqb d 0) refl (eqb (get_or s at 0) line_code_lem) refl (eqb (get_or s at 0) kind) refl (ltb (at + 1) (length s)) refl (ltb (get_or s (at + 1) 0) m) refl
    where
      go : (a : Bool) → ltb at (length s) ≡ a → (b : Bool) → eqb d 0 ≡ b → (c : Bool) → eqb (get_or s at 0) line_code_lem ≡ c
          → (e : Bool) → eqb (get_or s at 0) kind ≡ e → (f : Bool) → ltb (at + 1) (length s) ≡ f → (g : Bool) → ltb (get_or s (at + 1) 0) m ≡ g
          → Stands (cond a (cond b (Err (TooDeep at))
          (cond c (cond f (cond g (Ok Line) (Err (Malformed (at + 1)))) (Err (Malformed (length s))))
          (cond e (cond f (Ok (Children (get_or s (at + 1) 0))) (Err (Malformed (length s)))) (Err (Malformed at)))))
          (Err (Malformed (length s))))
      go false p b q c r e t f u g v = tt
      go true p true q c r e t f u g v = tt
      go true p false q true r e t false u g v = tt
      go true p false q true r e t true u false v = tt
      go true p false q true r e t true u true v =
          record { whole = ltb-true _ _ u; levels = positive d (eqb-false _ _ q); named = eqb-true _ _ r; listed = ltb-true _ _ v }
      go true p false q false r false t f u g v = tt
      go true p false q false r true t false u g v = tt
      go true p false q false r true t true u g v =
          record { whole = ltb-true _ _ u; levels = positive d (eqb-false _ _ q); named = eqb-true _ _ t; sized = refl }
