-- The lines that choosing picks are those of the definition: choice number n of a tree's choices.
use Rattle.tree_reading.specs.declared.TreeRefusal.{TreeRefusal}
use Rattle.std.specs.Prelude.{◌≡◌, Bool, Err, Ok, Result}
use Rattle.std.proofs.Math.Path.{refl, sym, ap, ap₂}
use Rattle.std.proofs.Common.{subst, ◌∙◌, mod-eq_of_lt, mod-lt, div-lt_iff_lt-mul, zero-mul, mul-zero, get_or-append-add}
use Rattle.std.proofs.Math.Bool.{true, false, cond}
use mathlib.Core.List.{List, [], ◌∷◌, ◌++◌, map}
use Prim.Native.Nat.{ℕ, zero, suc, ◌+◌, ◌-◌, ◌*◌, ◌/◌, ◌%◌, ◌<◌, ◌≤◌}
use Rattle.std.proofs.Math.Nat.{div-eq_of_lt, add-div_right, add-mod_right, mul-div_cancel_left}
use native.Mathlib.Omega.{arith}
use borrow.Author.Tests.{ltb-true, ltb-false}
use Rattle.std.proofs.Math.Dec.{ltb}
use Rattle.std.proofs.Math.ListN.{length, get_or, get_or-append}
use Rattle.std.proofs.lemmas.List.{length-map}
use Rattle.integers.specs.Laws.{never}
use Rattle.tree_reading.specs.declared.Kind.{Kind}
use Rattle.tree_reading.specs.declared.Kind.TheVariants.{AllOf, AnyOf}
use Rattle.tree_reading.specs.Tree.{Row, none, line, node, other, code_of, line_code_lem, size, numbers, tree_numbers, max_depth, Fits, levels}
use Rattle.tree_reading.specs.Choices.{max_choices, pairs, joined, choices, unit_of, with, count, here, overs}
use Rattle.tree_reading.specs.declared.TreeRefusal.TheVariants.{NoSuchChoice}
use Rattle.tree_reading.specs.declared.Node.{Node}
use Rattle.tree_reading.specs.Reading.{begun, finished, node_of, valid_tree_lem}
use Rattle.tree_choices.specs.Choosing.{from_child, all_chosen, any_chosen, row_chosen, chosen_at, chosen, with_choice, choice_of}
use Rattle.tree_reading.specs.Counted.{count_choices, node_choices}
use Rattle.tree_reading.specs.Numbers.{Has, has_at, has_append, has_self}
use Rattle.tree_reading.specs.Accepted.{after, after_end, line_head, line_read, node_head, node_read}
use Rattle.tree_reading.specs.Taken.{tree_in, taken}

-- ---- choice number n of two lists of choices
second_positive : (a b n : ℕ) → n < a * b → 0 < b
second_positive a zero n h = absurd (omega (arith, mul-zero a))
second_positive a (suc b) n h = omega arith

first_positive : (a b n : ℕ) → n < a * b → 0 < a
first_positive zero b n h = absurd (omega (arith, zero-mul b))
first_positive (suc a) b n h = omega arith

nth_map : (x : List ℕ) (ys : List (List ℕ)) (n : ℕ) → n < length ys → get_or (map (λ (y : List ℕ). x ++ y) ys) n [] ≡ x ++ get_or ys n []
nth_map x [] n h = absurd (omega arith)
nth_map x (y ∷ ys) zero h = refl
nth_map x (y ∷ ys) (suc n) h = nth_map x ys n (omega arith)

nth_pairs : (xs ys : List (List ℕ)) (n : ℕ) → n < length xs * length ys → get_or (pairs xs ys) n [] ≡ get_or xs (n / length ys) [] ++ get_or ys (n % length ys) []
nth_pairs [] ys n h = absurd (omega (arith, zero-mul (length ys)))
nth_pairs (x ∷ xs) ys n h = go (ltb n (length ys)) refl (nth_pairs xs ys)
  where
    l : ℕ
    l = length ys

    m : List (List ℕ)
    m = map (λ (y : List ℕ). x ++ y) ys

    size : length m ≡ l
    size = length-map ys (λ (y : List ℕ). x ++ y)

    go : (t : Bool) → ltb n l ≡ t → ((q : ℕ) → q < length xs * l → get_or (pairs xs ys) q [] ≡ get_or xs (q / l) [] ++ get_or ys (q % l) [])
        → get_or (m ++ pairs xs ys) n [] ≡ get_or (x ∷ xs) (n / l) [] ++ get_or ys (n % l) []
    go true p f =
        let k : n < l = ltb-true n l p in
        get_or-append m (pairs xs ys) [] n (omega (arith, size)) ∙ nth_map x ys n k
        ∙ sym (ap₂ (λ (i j : ℕ). get_or (x ∷ xs) i [] ++ get_or ys j []) (div-eq_of_lt k) (mod-eq_of_lt k))
    go false p f =
        let k : l ≤ n = ltb-false n l p in
        let q : ℕ = n - l in
        let e : n ≡ q + l = omega arith in
        let pos : 0 < l = second_positive (suc (length xs)) l n h in
        let a : n / l ≡ suc (q / l) = ap (λ (i : ℕ). i / l) e ∙ add-div_right q pos ∙ omega arith in
        let b : n % l ≡ q % l = ap (λ (i : ℕ). i % l) e ∙ add-mod_right q l in
        let u : n ≡ length m + q = omega (arith, size) in
        ap (λ (i : ℕ). get_or (m ++ pairs xs ys) i []) u ∙ get_or-append-add m (pairs xs ys) q [] ∙ f q (omega arith)
        ∙ sym (ap₂ (λ (i j : ℕ). get_or (x ∷ xs) i [] ++ get_or ys j []) a b)

nth_append : (xs ys : List (List ℕ)) (n : ℕ) → get_or (xs ++ ys) n [] ≡ cond (ltb n (length xs)) (get_or xs n []) (get_or ys (n - length xs) [])
nth_append xs ys n = go (ltb n (length xs)) refl
  where
    go : (t : Bool) → ltb n (length xs) ≡ t → get_or (xs ++ ys) n [] ≡ cond t (get_or xs n []) (get_or ys (n - length xs) [])
    go true p = get_or-append xs ys [] n (ltb-true _ _ p)
    go false p =
        let k = ltb-false n (length xs) p in
        let u : n ≡ length xs + (n - length xs) = omega arith in
        ap (λ (i : ℕ). get_or (xs ++ ys) i []) u ∙ get_or-append-add xs ys (n - length xs) []

-- ---- a child and the children after it
module _ (f : ℕ → Result Node TreeRefusal) (g : ℕ → ℕ → ℕ → List ℕ) (xs ys : List (List ℕ)) (j at : ℕ) (b : Node) (e : f at ≡ Ok b) (c : b.choices ≡ length xs)
    (first : (i : ℕ) → i < length xs → g at (length xs) i ≡ get_or xs i []) where
  all_chosen_law : (n : ℕ) → n < length xs * length ys → ((i : ℕ) → i < length ys → all_chosen f g j b.end (length ys) i ≡ get_or ys i [])
      → all_chosen f g (suc j) at (length xs * length ys) n ≡ get_or (pairs xs ys) n []
  unfolding all_chosen
  all_chosen_law n h rest =
      let x : ℕ = length xs in
      let y : ℕ = length ys in
      let px : 0 < x = first_positive x y n h in
      let py : 0 < y = second_positive x y n h in
      let q : x * y / x ≡ y = mul-div_cancel_left y px in
      ap (from_child (λ (d : Node). g at d.choices (n / (x * y / d.choices)) ++ all_chosen f g j d.end (x * y / d.choices) (n % (x * y / d.choices)))) e
      ∙ ap (λ (i : ℕ). g at i (n / (x * y / i)) ++ all_chosen f g j b.end (x * y / i) (n % (x * y / i))) c
      ∙ ap (λ (i : ℕ). g at x (n / i) ++ all_chosen f g j b.end i (n % i)) q
      ∙ ap₂ (λ (u v : List ℕ). u ++ v) (first (n / y) ((div-lt_iff_lt-mul py).1 h)) (rest (n % y) (mod-lt n py))
      ∙ sym (nth_pairs xs ys n h)

  any_chosen_law : (n : ℕ) → n < length xs + length ys → ((i : ℕ) → i < length ys → any_chosen f g j b.end i ≡ get_or ys i [])
      → any_chosen f g (suc j) at n ≡ get_or (xs ++ ys) n []
  unfolding any_chosen
  any_chosen_law n h rest =
      ap (from_child (λ (d : Node). cond (ltb n d.choices) (g at d.choices n) (any_chosen f g j d.end (n - d.choices)))) e
      ∙ ap (λ (i : ℕ). cond (ltb n i) (g at i n) (any_chosen f g j b.end (n - i))) c
      ∙ go (ltb n (length xs)) refl
      ∙ sym (nth_append xs ys n)
    where
      go : (t : Bool) → ltb n (length xs) ≡ t → cond t (g at (length xs) n) (any_chosen f g j b.end (n - length xs)) ≡ cond t (get_or xs n []) (get_or ys (n - length xs) [])
      go true p = first n (ltb-true _ _ p)
      go false p = let k = ltb-false n (length xs) p in rest (n - length xs) (omega arith)

  row_chosen_law : (k : Kind) (n : ℕ) → n < with k (length xs) (length ys) → ((i : ℕ) → i < length ys → row_chosen f g k j b.end (length ys) i ≡ get_or ys i [])
      → row_chosen f g k (suc j) at (with k (length xs) (length ys)) n ≡ get_or (joined k xs ys) n []
  row_chosen_law AllOf n h rest = all_chosen_law n h rest
  row_chosen_law AnyOf n h rest = any_chosen_law n h rest

-- ---- a tree's children
module _ (s : List ℕ) (m : ℕ) where
  -- choice number i of these children of a node of kind k, whose numbers begin at p
  abbrev Picks : ℕ → Kind → Row → ℕ → ℕ → Type 0
  Picks d k t p i = row_chosen (node_of s m d (other k)) (chosen s m d (other k)) k (size t) p (count k t) i ≡ get_or (choices k t) i []

  -- the first child of these, of which the rest is known
  child_then : (d : ℕ) (k : Kind) (xs : List (List ℕ)) (r : Row) (p n : ℕ) (b : Node)
      → node_of s m d (other k) p ≡ Ok b → b.choices ≡ length xs
      → ((i : ℕ) → i < length xs → chosen s m d (other k) p (length xs) i ≡ get_or xs i [])
      → n < with k (length xs) (count k r) → ((i : ℕ) → i < count k r → Picks d k r b.end i)
      → row_chosen (node_of s m d (other k)) (chosen s m d (other k)) k (suc (size r)) p (with k (length xs) (count k r)) n ≡ get_or (joined k xs (choices k r)) n []
  child_then d k xs r p n b e c first h rest =
      let q : length (choices k r) ≡ count k r = count_choices k r in
      let F = node_of s m d (other k) in
      let G = chosen s m d (other k) in
      subst (λ (y : ℕ). n < with k (length xs) y → ((i : ℕ) → i < y → row_chosen F G k (size r) b.end y i ≡ get_or (choices k r) i [])
      → row_chosen F G k (suc (size r)) p (with k (length xs) y) n ≡ get_or (joined k xs (choices k r)) n []) q
      (row_chosen_law F G xs (choices k r) (size r) p b e c first k n) h rest

  -- ---- all choices of a tree's children
  line_chosen : (d : ℕ) (k : Kind) (p i : ℕ) → i < m → Has s p (line_code_lem ∷ i ∷ []) → (total n : ℕ) → chosen s m (suc d) k p total n ≡ i ∷ []
  unfolding chosen
  line_chosen d k p i h q total n =
      ap (chosen_at (node_of s m d (other k)) (chosen s m d (other k)) s k p total n) (line_head s m d k p i h q) ∙ ap (λ (x : ℕ). x ∷ []) q.2.1

  node_chosen : (d : ℕ) (k : Kind) (p : ℕ) (c : Row) → Has s p (code_of k ∷ size c ∷ []) → (total n : ℕ)
      → chosen s m (suc d) k p total n ≡ row_chosen (node_of s m d (other k)) (chosen s m d (other k)) k (size c) (p + 2) total n
  unfolding chosen
  node_chosen d k p c q total n = ap (chosen_at (node_of s m d (other k)) (chosen s m d (other k)) s k p total n) (node_head s m d k p (size c) q)

  none_left : (xs ys : List ℕ) → xs ++ ys ≡ [] → (xs ≡ []) × (ys ≡ [])
  none_left [] ys e = (refl, e)
  none_left (x ∷ xs) ys e = never (cc)

  not_here : (n at : ℕ) → here n at ≡ [] → n ≤ max_choices
  not_here n at = go (ltb max_choices n) refl
    where
      go : (t : Bool) → ltb max_choices n ≡ t → cond t (at ∷ []) [] ≡ [] → n ≤ max_choices
      go true p e = never (cc)
      go false p e = ltb-false _ _ p

  picks : (d : ℕ) (k : Kind) (t : Row) (p n : ℕ) → Fits m k d t → Has s p (numbers t) → overs p t ≡ [] → n < count k t → Picks d k t p n
  unfolding all_chosen any_chosen
  picks d AllOf none p zero f h o l = refl
  picks d AllOf none p (suc n) f h o l = absurd (omega arith)
  picks d AnyOf none p n f h o l = absurd (omega arith)
  picks zero k (line i r) p n f h o l = absurd f
  picks zero k (node q c r) p n f h o l = absurd f
  picks (suc d) k (line i r) p n f h o l =
      let w : Has s p (line_code_lem ∷ i ∷ []) = (h.0, h.1, (h.2.0, h.2.1, tt)) in
      child_then (suc d) k ((i ∷ []) ∷ []) r p n (begun s p 1) (line_read s m d (other k) p i f.0 w) refl
      (only i (λ j. line_chosen d (other k) p i f.0 w 1 j)) l
      (λ j. picks (suc d) k r (p + 2) j f.1 (has_at s (numbers r) (omega arith) h.2.2) o)
    where
      only : (i : ℕ) {v : ℕ → List ℕ} → ((j : ℕ) → v j ≡ i ∷ []) → (j : ℕ) → j < 1 → v j ≡ get_or ((i ∷ []) ∷ []) j []
      only i e zero u = e zero
      only i e (suc j) u = absurd (omega arith)
  picks (suc d) k (node q c r) p n f h o l =
      let w : Has s p (code_of q ∷ size c ∷ []) = (h.0, h.1, (h.2.0, h.2.1, tt)) in
      let z = has_append s (p + 1 + 1) (numbers c) (numbers r) h.2.2 in
      let hc : Has s (p + 2) (numbers c) = has_at s (numbers c) (omega arith) z.0 in
      let x : Node = after s q (begun s p (unit_of q)) c in
      let ends : x.end ≡ p + 2 + length (numbers c) = after_end s q (begun s p (unit_of q)) c in
      let hr : Has s x.end (numbers r) = has_at s (numbers r) (omega arith) z.1 in
      let u = none_left (here (count q c) p ++ overs (p + 2) c) (overs (p + 2 + length (numbers c)) r) o in
      let v = none_left (here (count q c) p) (overs (p + 2) c) u.0 in
      let small = not_here (count q c) p v.0 in
      let y : length (choices q c) ≡ count q c = count_choices q c in
      let ch : x.choices ≡ length (choices q c) = node_choices s q p c ∙ omega arith ∙ sym y in
      let kind : q ≡ other k = f.0 in
      let rd : node_of s m (suc d) (other k) p ≡ Ok (finished p x) = ap (λ (a : Kind). node_of s m (suc d) a p) (sym kind) ∙ node_read s m d q c p f.1 w hc in
      let inner : (j : ℕ) → j < length (choices q c) → chosen s m (suc d) (other k) p (length (choices q c)) j ≡ get_or (choices q c) j []
      = λ j b. ap (λ (a : Kind). chosen s m (suc d) a p (length (choices q c)) j) (sym kind) ∙ node_chosen d q p c w (length (choices q c)) j
      ∙ ap (λ (a : ℕ). row_chosen (node_of s m d (other q)) (chosen s m d (other q)) q (size c) (p + 2) a j) y ∙ picks d q c (p + 2) j f.1 hc v.1 (omega arith) in
      let tot : with k (length (choices q c)) (count k r) ≡ with k (count q c) (count k r) = ap (λ (a : ℕ). with k a (count k r)) y in
      ap (λ (a : ℕ). row_chosen (node_of s m (suc d) (other k)) (chosen s m (suc d) (other k)) k (suc (size r)) p a n) (sym tot)
      ∙ child_then (suc d) k (choices q c) r p n (finished p x) rd ch inner (subst (λ (a : ℕ). n < a) (sym tot) l)
      (λ j. picks (suc d) k r x.end j f.2 hr (ap (λ (a : ℕ). overs a r) ends ∙ u.1))

-- ---- the whole tree
-- choosing number n picks the n-th choice of the tree that was read
module _ (s : List ℕ) (m : ℕ) (b : Node) (e : valid_tree_lem s m ≡ Ok b) where
  pub picked : (n : ℕ) → n < b.choices → chosen s m max_depth AllOf 0 b.choices n ≡ get_or (choices AllOf (tree_in s m)) n []
  picked n l =
      let t : Row = tree_in s m in
      let v = taken s m b e in
      let h : Has s 0 (tree_numbers t) = subst (Has s 0) v.numbers.numbered (has_self s) in
      let o : overs 2 t ≡ [] = (none_left s m (here (count AllOf t) 0) (overs 2 t) v.few).1 in
      node_chosen s m levels AllOf 0 t (h.0, h.1, (h.2.0, h.2.1, tt)) b.choices n
      ∙ ap (λ (c : ℕ). row_chosen (node_of s m levels AnyOf) (chosen s m levels AnyOf) AllOf (size t) 2 c n) v.counted
      ∙ picks s m levels AllOf t 2 n v.numbers.fits h.2.2 o (omega (arith, v.counted))

-- where a choice is there, the tree is read and has it
pub choice_read : (s : List ℕ) (m n : ℕ) (b : Node) → choice_of s m n ≡ Ok b → (valid_tree_lem s m ≡ Ok b) × (n < b.choices)
unfolding choice_of
choice_read s m n b = go (valid_tree_lem s m) refl
  where
    last : (x : Node) → valid_tree_lem s m ≡ Ok x → (t : Bool) → ltb n x.choices ≡ t → cond t (Ok x) (Err NoSuchChoice) ≡ Ok b → (valid_tree_lem s m ≡ Ok b) × (n < b.choices)
    last x p true q e = let j : x ≡ b = cc in (p ∙ ap Ok j, subst (λ (y : Node). n < y.choices) j (ltb-true _ _ q))
    last x p false q e = never (cc)

    go : (r : Result Node TreeRefusal) → valid_tree_lem s m ≡ r → with_choice n r ≡ Ok b → (valid_tree_lem s m ≡ Ok b) × (n < b.choices)
    go (Ok x) p e = last x p (ltb n x.choices) refl e
    go (Err r) p e = never (cc)
