-- Counting up to one above the most is exact: a node's number of choices is its own or that for any higher one, and the
-- node that is found is the first with more than the most.
use Rattle.std.specs.Prelude.{◌≡◌, refl, Bool, true, false, List, [], ◌∷◌, ◌++◌, map, ℕ, zero, suc, ◌+◌, ◌*◌, ◌≤◌, ltb, length}
use Rattle.std.proofs.Common.{sym, ap, ap₂, ◌∙◌, mul_assoc, mul-one, one-mul, mul-zero, zero-mul, mul-le-mul, arith, ltb-true, ltb-false, length-append}
use Rattle.std.proofs.lemmas.List.{length-map}
use Rattle.tree_reading.specs.declared.Kind.{Kind}
use Rattle.tree_reading.specs.declared.Kind.TheVariants.{AllOf, AnyOf}
use Rattle.tree_reading.specs.Tree.{Row, none, line, node}
use Rattle.tree_reading.specs.Choices.{max_choices, pairs, joined, choices, unit_of, with, count}
use Rattle.tree_reading.specs.declared.Node.{Node}
use Rattle.tree_reading.specs.Reading.{cap, begun, with_child, finished}
use Rattle.tree_reading.specs.Accepted.{after, root_of}

-- ---- the count is the number of choices
length_pairs : (xs ys : List (List ℕ)) → length (pairs xs ys) ≡ length xs * length ys
length_pairs [] ys = sym (zero-mul (length ys))
length_pairs (x ∷ xs) ys =
    let m : length (map (λ (y : List ℕ). x ++ y) ys) ≡ length ys = length-map ys (λ (y : List ℕ). x ++ y) in
    omega (arith, length-append (map (λ (y : List ℕ). x ++ y) ys) (pairs xs ys), m, length_pairs xs ys)

length_joined : (k : Kind) (xs ys : List (List ℕ)) → length (joined k xs ys) ≡ with k (length xs) (length ys)
length_joined AllOf xs ys = length_pairs xs ys
length_joined AnyOf xs ys = length-append xs ys

pub count_choices : (k : Kind) (t : Row) → length (choices k t) ≡ count k t
count_choices AllOf none = refl
count_choices AnyOf none = refl
count_choices k (line i r) = length_joined k _ (choices k r) ∙ ap (with k 1) (count_choices k r)
count_choices k (node l c r) = length_joined k (choices l c) (choices k r) ∙ ap₂ (with k) (count_choices l c) (count_choices k r)

-- ---- counting up to one above the most
-- a factor above that makes a product above it, unless the other is zero
cap_product : (a b : ℕ) → cap (cap a * cap b) ≡ cap (a * b)
cap_product zero b = ap cap (zero-mul (cap b) ∙ sym (zero-mul b))
cap_product (suc a) zero = ap cap (mul-zero (cap (suc a)) ∙ sym (mul-zero (suc a)))
cap_product (suc a) (suc b) = go (ltb max_choices (suc a)) refl (ltb max_choices (suc b)) refl
  where
    positive : (n : ℕ) → 1 ≤ cap (suc n)
    positive n = omega arith

    high : (x y : ℕ) → max_choices + 1 ≤ x * y → cap (x * y) ≡ max_choices + 1
    high x y h = omega arith

    go : (t : Bool) → ltb max_choices (suc a) ≡ t → (u : Bool) → ltb max_choices (suc b) ≡ u → cap (cap (suc a) * cap (suc b)) ≡ cap (suc a * suc b)
    go true p u q =
        let h = ltb-true max_choices (suc a) p in
        let x : max_choices + 1 ≤ cap (suc a) = omega arith in
        let y : max_choices + 1 ≤ suc a = omega arith in
        let z : 1 ≤ suc b = omega arith in
        let l : max_choices + 1 ≤ cap (suc a) * cap (suc b) = omega (arith, mul-le-mul x (positive b)) in
        let r : max_choices + 1 ≤ suc a * suc b = omega (arith, mul-le-mul y z) in
        high (cap (suc a)) (cap (suc b)) l ∙ sym (high (suc a) (suc b) r)
    go false p true q =
        let h = ltb-true max_choices (suc b) q in
        let x : max_choices + 1 ≤ cap (suc b) = omega arith in
        let y : max_choices + 1 ≤ suc b = omega arith in
        let z : 1 ≤ suc a = omega arith in
        let l : max_choices + 1 ≤ cap (suc a) * cap (suc b) = omega (arith, mul-le-mul (positive a) x) in
        let r : max_choices + 1 ≤ suc a * suc b = omega (arith, mul-le-mul z y) in
        high (cap (suc a)) (cap (suc b)) l ∙ sym (high (suc a) (suc b) r)
    go false p false q =
        let h = ltb-false max_choices (suc a) p in
        let g = ltb-false max_choices (suc b) q in
        let x : cap (suc a) ≡ suc a = omega arith in
        let y : cap (suc b) ≡ suc b = omega arith in
        ap₂ (λ (i j : ℕ). cap (i * j)) x y

cap_with : (k : Kind) (a b : ℕ) → cap (with k (cap a) (cap b)) ≡ cap (with k a b)
cap_with AllOf a b = cap_product a b
cap_with AnyOf a b = omega arith

cap_cap : (n : ℕ) → cap (cap n) ≡ cap n
cap_cap n = omega arith

with_unit : (k : Kind) (a : ℕ) → with k a (unit_of k) ≡ a
with_unit AllOf a = mul-one a
with_unit AnyOf a = omega arith

unit_with : (k : Kind) (a : ℕ) → with k (unit_of k) a ≡ a
unit_with AllOf a = one-mul a
unit_with AnyOf a = omega arith

with_assoc : (k : Kind) (a b c : ℕ) → with k (with k a b) c ≡ with k a (with k b c)
with_assoc AllOf a b c = mul_assoc a b c
with_assoc AnyOf a b c = omega arith

cap_unit : (k : Kind) → cap (unit_of k) ≡ unit_of k
cap_unit AllOf = refl
cap_unit AnyOf = refl

module _ (s : List ℕ) where
  -- one more child
  child : (k : Kind) (x y : ℕ) (a b : Node) → a.choices ≡ cap x → b.choices ≡ cap y → (with_child k a b).choices ≡ cap (with k x y)
  child k x y a b p q = ap₂ (λ (i j : ℕ). cap (with k (cap i) (cap j))) p q ∙ ap₂ (λ (i j : ℕ). cap (with k i j)) (cap_cap x) (cap_cap y) ∙ cap_with k x y

  pub after_choices : (k : Kind) (x : ℕ) (a : Node) (t : Row) → a.choices ≡ cap x → (after s k a t).choices ≡ cap (with k x (count k t))
  after_choices k x a none e = e ∙ ap cap (sym (with_unit k x))
  after_choices k x a (line i r) e =
      after_choices k (with k x 1) (with_child k a (begun s a.end 1)) r (child k x 1 a (begun s a.end 1) e refl)
      ∙ ap cap (with_assoc k x 1 (count k r))
  after_choices k x a (node l c r) e =
      let b : Node = after s l (begun s a.end (unit_of l)) c in
      let q : b.choices ≡ cap (count l c) = after_choices l (unit_of l) (begun s a.end (unit_of l)) c (sym (cap_unit l)) ∙ ap cap (unit_with l (count l c)) in
      after_choices k (with k x (count l c)) (with_child k a (finished a.end b)) r (child k x (count l c) a (finished a.end b) e q)
      ∙ ap cap (with_assoc k x (count l c) (count k r))

  -- a node, and a whole tree
  pub node_choices : (l : Kind) (at : ℕ) (c : Row) → (after s l (begun s at (unit_of l)) c).choices ≡ cap (count l c)
  node_choices l at c = after_choices l (unit_of l) (begun s at (unit_of l)) c (sym (cap_unit l)) ∙ ap cap (unit_with l (count l c))

  pub root_choices : (t : Row) → (root_of s t).choices ≡ cap (count AllOf t)
  root_choices t = node_choices AllOf 0 t
