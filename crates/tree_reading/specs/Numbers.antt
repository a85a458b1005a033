-- Numbers that stand in a list from an index on, and a tree's numbers: no two trees have the same.
use Rattle.std.specs.Prelude.{◌≡◌, refl, List, [], ◌∷◌, ◌++◌, ℕ, suc, ◌+◌, ◌<◌, ◌≤◌, length, get_or, drop}
use Rattle.std.proofs.Common.{sym, ap, subst, ◌∙◌, append_assoc, append-nil, add-zero, arith, length-drop, drop_of_length-le, drop-cons}
use Rattle.tree_reading.specs.declared.Kind.{Kind}
use Rattle.tree_reading.specs.declared.Kind.TheVariants.{AllOf, AnyOf}
use Rattle.tree_reading.specs.Tree.{Row, none, line, node, code_of, line_code_lem, size, numbers, tree_numbers}

-- s has these numbers from p on
abbrev pub Has : List ℕ → ℕ → List ℕ → Type 0
Has s p [] = Unit {0}
Has s p (x ∷ xs) = (p < length s) × (get_or s p 0 ≡ x) × Has s (p + 1) xs

module _ (s : List ℕ) where
  pub has_at : {p q : ℕ} (xs : List ℕ) → p ≡ q → Has s p xs → Has s q xs
  has_at xs e h = subst (λ (j : ℕ). Has s j xs) e h

  pub has_append : (p : ℕ) (xs ys : List ℕ) → Has s p (xs ++ ys) → Has s p xs × Has s (p + length xs) ys
  has_append p [] ys h = (tt, has_at ys (sym (add-zero p)) h)
  has_append p (x ∷ xs) ys h =
      let k = has_append (p + 1) xs ys h.2 in
      ((h.0, h.1, k.0), has_at ys (omega arith) k.1)

  pub has_both : (p : ℕ) (xs ys : List ℕ) → Has s p xs → Has s (p + length xs) ys → Has s p (xs ++ ys)
  has_both p [] ys h k = has_at ys (add-zero p) k
  has_both p (x ∷ xs) ys h k = (h.0, h.1, has_both (p + 1) xs ys h.2 (has_at ys (omega arith) k))

  -- what stands behind p
  pub has_drop : (p : ℕ) (xs : List ℕ) → Has s p xs → drop p s ≡ xs ++ drop (p + length xs) s
  has_drop p [] h = ap (λ (j : ℕ). drop j s) (sym (add-zero p))
  has_drop p (x ∷ xs) h =
      let e : suc p ≡ p + 1 = omega arith in
      let q : (p + 1) + length xs ≡ p + suc (length xs) = omega arith in
      let t : drop (p + 1) s ≡ xs ++ drop (p + suc (length xs)) s = has_drop (p + 1) xs h.2 ∙ ap (λ (j : ℕ). xs ++ drop j s) q in
      drop-cons s p 0 h.0 ∙ ap (λ (y : ℕ). y ∷ drop (suc p) s) h.1 ∙ ap (λ (j : ℕ). x ∷ drop j s) e ∙ ap (λ (l : List ℕ). x ∷ l) t

  pub drop_has : (p : ℕ) (xs : List ℕ) → drop p s ≡ xs → Has s p xs
  drop_has p [] e = tt
  drop_has p (x ∷ xs) e =
      let l : p < length s = omega (arith, simp length-drop at (ap length e)) in
      let c : get_or s p 0 ∷ drop (suc p) s ≡ x ∷ xs = sym (drop-cons s p 0 l) ∙ e in
      let q : suc p ≡ p + 1 = omega arith in
      let t : drop (suc p) s ≡ xs = cc in
      (l, cc, drop_has (p + 1) xs (ap (λ (j : ℕ). drop j s) (sym q) ∙ t))

  pub has_self : Has s 0 s
  has_self = drop_has 0 s refl

  pub has_all : (xs : List ℕ) → Has s 0 xs → length s ≤ length xs → s ≡ xs
  has_all xs h l =
      let q : length s ≤ 0 + length xs = omega arith in
      has_drop 0 xs h ∙ ap (λ (t : List ℕ). xs ++ t) (drop_of_length-le s q) ∙ append-nil xs

-- ---- no two trees have the same numbers
code_injective : (k l : Kind) → code_of k ≡ code_of l → k ≡ l
code_injective AllOf AllOf e = refl
code_injective AllOf AnyOf e = absurd (omega arith)
code_injective AnyOf AllOf e = absurd (omega arith)
code_injective AnyOf AnyOf e = refl

pub code_not_line : (k : Kind) → code_of k ≡ line_code_lem → ⊥
code_not_line AllOf e = omega arith
code_not_line AnyOf e = omega arith

numbers_injective : (t u : Row) (xs ys : List ℕ) → size t ≡ size u → numbers t ++ xs ≡ numbers u ++ ys → (t ≡ u) × (xs ≡ ys)
numbers_injective none none xs ys h e = (refl, e)
numbers_injective none (line i r) xs ys h e = absurd (omega arith)
numbers_injective none (node k c r) xs ys h e = absurd (omega arith)
numbers_injective (line i r) none xs ys h e = absurd (omega arith)
numbers_injective (node k c r) none xs ys h e = absurd (omega arith)
numbers_injective (line i r) (line j q) xs ys h e =
    let t = numbers_injective r q xs ys (omega arith) (cc) in
    let a : i ≡ j = cc in
    let b : r ≡ q = t.0 in
    (cc, t.1)
numbers_injective (line i r) (node k c q) xs ys h e = absurd (code_not_line k (cc))
numbers_injective (node k c r) (line j q) xs ys h e = absurd (code_not_line k (cc))
numbers_injective (node k c r) (node l d q) xs ys h e =
    let n : size c ≡ size d = cc in
    let f : (numbers c ++ numbers r) ++ xs ≡ (numbers d ++ numbers q) ++ ys = cc in
    let g : numbers c ++ (numbers r ++ xs) ≡ numbers d ++ (numbers q ++ ys) = sym (append_assoc (numbers c) (numbers r) xs) ∙ f ∙ append_assoc (numbers d) (numbers q) ys in
    let t = numbers_injective c d (numbers r ++ xs) (numbers q ++ ys) n g in
    let u = numbers_injective r q xs ys (omega arith) t.1 in
    let a : k ≡ l = code_injective k l (cc) in
    let b : c ≡ d = t.0 in
    let p : r ≡ q = u.0 in
    (cc, u.1)

pub one_tree : (t u : Row) → tree_numbers t ≡ tree_numbers u → t ≡ u
one_tree t u e =
    let f : numbers t ≡ numbers u = cc in
    (numbers_injective t u [] [] (cc) (append-nil (numbers t) ∙ f ∙ sym (append-nil (numbers u)))).0
