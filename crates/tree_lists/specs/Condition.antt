-- A tree over the lines of a list: an assignment meets the condition exactly if it solves the list of one of its choices,
-- in which each line that is not picked is zeros.
use Rattle.std.specs.Prelude.{◌≡◌, ◌↔◌, ◌⊎◌, Bool, ℤ, set, replicate, Ok}
use Rattle.std.proofs.Math.Path.{refl, subst}
use Rattle.std.proofs.Common.{sym, ap, ◌∙◌, arith, eq-eqb, eqb-true, get_or-set_same, get_or-set_other}
use Rattle.std.proofs.Math.Logic.{inl, inr, ⊎_elim}
use Rattle.std.proofs.Math.Bool.{true, false}
use mathlib.Core.List.{List, [], ◌∷◌, ◌++◌, map}
use Prim.Native.Nat.{ℕ, zero, suc, ◌<◌}
use Rattle.std.proofs.lemmas.Bool.{eqb-false}
use Rattle.std.proofs.Math.Dec.{eqb}
use Rattle.std.proofs.Math.ListN.{length, get_or, length-set}
use Rattle.std.proofs.lemmas.List.{length-replicate, get_or-replicate}
use Rattle.integers.specs.Laws.{never}
use Rattle.lines.specs.Line.{line_at, line_count, lines_of, Assignment, Meets, Solves}
use Rattle.lines.specs.Refusal.{validity_of}
use Rattle.tree_reading.specs.declared.Kind.{Kind}
use Rattle.tree_reading.specs.declared.Kind.TheVariants.{AllOf, AnyOf}
use Rattle.tree_reading.specs.Tree.{Row, none, line, node, Fits, levels}
use Rattle.tree_reading.specs.Choices.{pairs, joined, choices, count}
use Rattle.tree_choices.specs.Choosing.{marked}
use Rattle.tree_reading.specs.Counted.{count_choices}
use Rattle.tree_choices.specs.Formula.{All, Holds, both_all, holds_some, some_holds, some_number, number_some}
use Rattle.tree_lists.specs.Masked.{is_picked_lem, masked, masked_valid, masked_solved, solved_masked}

-- ---- the flags of some lines
abbrev pub In : ℕ → List ℕ → Type 0
In i [] = ⊥
In i (x ∷ xs) = (i ≡ x) ⊎ In i xs

module _ (i : ℕ) where
  set_flag : (p : List ℕ) (x : ℕ) → i < length p → is_picked_lem p i ≡ true ⊎ (i ≡ x) → is_picked_lem (set p x 1) i ≡ true
  set_flag p x l h = go (eqb i x) refl
    where
      go : (t : Bool) → eqb i x ≡ t → is_picked_lem (set p x 1) i ≡ true
      go true e = let q : i ≡ x = eqb-true i x e in eq-eqb _ 1 (subst (λ (j : ℕ). get_or (set p j 1) i 0 ≡ 1) q (get_or-set_same p i 1 0 l))
      go false e =
          let n : i ≡ x → ⊥ = eqb-false i x e in
          ap (λ (j : ℕ). eqb j 1) (get_or-set_other p x i 1 0 n) ∙ ⊎_elim (λ a. a) (λ b. absurd (n b)) h

  flag_stays : (p xs : List ℕ) → i < length p → is_picked_lem p i ≡ true → is_picked_lem (marked p xs) i ≡ true
  unfolding marked
  flag_stays p [] l h = h
  flag_stays p (x ∷ xs) l h = flag_stays (set p x 1) xs (omega (arith, length-set p x 1)) (set_flag p x l (inl h))

  flag_set : (p xs : List ℕ) → i < length p → In i xs → is_picked_lem (marked p xs) i ≡ true
  unfolding marked
  flag_set p [] l h = absurd h
  flag_set p (x ∷ xs) l h =
      let m : i < length (set p x 1) = omega (arith, length-set p x 1) in
      ⊎_elim (λ a. flag_stays (set p x 1) xs m (set_flag p x l (inr a))) (λ b. flag_set (set p x 1) xs m b) h

  flag_only : (p xs : List ℕ) → is_picked_lem (marked p xs) i ≡ true → is_picked_lem p i ≡ true ⊎ In i xs
  unfolding marked
  flag_only p [] h = inl h
  flag_only p (x ∷ xs) h = ⊎_elim (λ a. go (eqb i x) refl a) (λ b. inr (inr b)) (flag_only (set p x 1) xs h)
    where
      go : (t : Bool) → eqb i x ≡ t → is_picked_lem (set p x 1) i ≡ true → is_picked_lem p i ≡ true ⊎ In i (x ∷ xs)
      go true e a = inr (inl (eqb-true i x e))
      go false e a = inl (ap (λ (j : ℕ). eqb j 1) (sym (get_or-set_other p x i 1 0 (eqb-false i x e))) ∙ a)

-- no flag, and then those of a choice
abbrev pub flags_of : ℕ → List ℕ → List ℕ
flags_of m xs = marked (replicate m 0) xs

module _ (P : ℕ → Type 0) (m : ℕ) where
  all_at : (xs : List ℕ) (i : ℕ) → All P xs → In i xs → P i
  all_at [] i h k = absurd k
  all_at (x ∷ xs) i h k = ⊎_elim (λ e. subst P (sym e) h.0) (λ b. all_at xs i h.1 b) k

  picked_all : (xs : List ℕ) → All P xs → (k : ℕ) → k < m → is_picked_lem (flags_of m xs) k ≡ true → P k
  picked_all xs h k l p = ⊎_elim (λ a. never (sym (get_or-replicate m k 0 0 l) ∙ eqb-true _ _ a)) (λ b. all_at xs k h b) (flag_only k (replicate m 0) xs p)

  all_picked : (xs : List ℕ) → All (λ i. i < m) xs → ((k : ℕ) → k < m → is_picked_lem (flags_of m xs) k ≡ true → P k) → All P xs
  all_picked xs h f = go xs h (λ i b l. f i l (flag_set i (replicate m 0) xs (omega (arith, length-replicate {A = ℕ} m 0)) b))
    where
      go : (ys : List ℕ) → All (λ i. i < m) ys → ((i : ℕ) → In i ys → i < m → P i) → All P ys
      go [] h g = tt
      go (y ∷ ys) h g = (g y (inl refl) h.0, go ys h.1 (λ i b l. g i (inr b) l))

-- ---- the choices of a tree pick lines of the list
abbrev Each : (List ℕ → Type 0) → List (List ℕ) → Type 0
Each Q [] = Unit {0}
Each Q (x ∷ xs) = Q x × Each Q xs

module _ (m : ℕ) where
  abbrev Listed : List ℕ → Type 0
  Listed xs = All (λ i. i < m) xs

  each_append : (xs ys : List (List ℕ)) → Each Listed xs → Each Listed ys → Each Listed (xs ++ ys)
  each_append [] ys h k = k
  each_append (x ∷ xs) ys h k = (h.0, each_append xs ys h.1 k)

  each_map : (x : List ℕ) (ys : List (List ℕ)) → Listed x → Each Listed ys → Each Listed (map (λ (y : List ℕ). x ++ y) ys)
  each_map x [] h k = tt
  each_map x (y ∷ ys) h k = (both_all (λ i. i < m) x y h k.0, each_map x ys h k.1)

  each_pairs : (xs ys : List (List ℕ)) → Each Listed xs → Each Listed ys → Each Listed (pairs xs ys)
  each_pairs [] ys h k = tt
  each_pairs (x ∷ xs) ys h k = each_append (map (λ (y : List ℕ). x ++ y) ys) (pairs xs ys) (each_map x ys h.0 k) (each_pairs xs ys h.1 k)

  each_joined : (k : Kind) (xs ys : List (List ℕ)) → Each Listed xs → Each Listed ys → Each Listed (joined k xs ys)
  each_joined AllOf xs ys h g = each_pairs xs ys h g
  each_joined AnyOf xs ys h g = each_append xs ys h g

  listed : (d : ℕ) (k : Kind) (t : Row) → Fits m k d t → Each Listed (choices k t)
  listed d AllOf none f = (tt, tt)
  listed d AnyOf none f = tt
  listed zero k (line i r) f = absurd f
  listed zero k (node l c r) f = absurd f
  listed (suc d) k (line i r) f = each_joined k ((i ∷ []) ∷ []) (choices k r) ((f.0, tt), tt) (listed (suc d) k r f.1)
  listed (suc d) k (node l c r) f = each_joined k (choices l c) (choices k r) (listed d l c f.1) (listed (suc d) k r f.2)

  each_at : (xs : List (List ℕ)) (n : ℕ) → n < length xs → Each Listed xs → Listed (get_or xs n [])
  each_at [] n l h = absurd (omega arith)
  each_at (x ∷ xs) zero l h = h.0
  each_at (x ∷ xs) (suc n) l h = each_at xs n (omega arith) h.1

-- ---- the condition
-- the flags of choice number n, and its list
abbrev pub choice_flags : List ℤ → Row → ℕ → List ℕ
choice_flags L t n = flags_of (line_count L) (get_or (choices AllOf t) n [])

unfoldable pub choice_list : List ℤ → Row → ℕ → List ℤ
choice_list L t n = masked (choice_flags L t n) L

-- the flags say which lines the choice picks
pub picked_exactly : (L : List ℤ) (t : Row) (n k : ℕ) → k < line_count L → (is_picked_lem (choice_flags L t n) k ≡ true) ↔ In k (get_or (choices AllOf t) n [])
picked_exactly L t n k h =
    let none : List ℕ = replicate (line_count L) 0 in
    let lines : List ℕ = get_or (choices AllOf t) n [] in (
      (λ e. ⊎_elim (λ a. never (sym (get_or-replicate (line_count L) k 0 0 h) ∙ eqb-true _ _ a)) (λ b. b) (flag_only k none lines e)),
      (λ i. flag_set k none lines (omega (arith, length-replicate {A = ℕ} (line_count L) 0)) i),
    )

-- the tree as a formula over the lines of the list
abbrev pub Condition : List ℤ → Row → Assignment → Type 0
Condition L t s = Holds (λ i. Meets s (line_at L i)) AllOf t

module _ (L : List ℤ) (t : Row) (s : Assignment) where
  pub some_choice : Condition L t s → (n : ℕ) × (n < count AllOf t) × Solves (lines_of (choice_list L t n)) s
  unfolding choice_list
  some_choice h =
      let P : ℕ → Type 0 = λ i. Meets s (line_at L i) in
      let some = some_number P (choices AllOf t) (holds_some P AllOf t h) in (
        some.0,
        subst (λ (c : ℕ). some.0 < c) (count_choices AllOf t) some.1,
        solved_masked _ L s (picked_all P (line_count L) (get_or (choices AllOf t) some.0 []) some.2),
      )

  pub choice_meets : Fits (line_count L) AllOf levels t → (n : ℕ) → n < count AllOf t → Solves (lines_of (choice_list L t n)) s → Condition L t s
  unfolding choice_list
  choice_meets f n l h =
      let P : ℕ → Type 0 = λ i. Meets s (line_at L i) in
      let k : n < length (choices AllOf t) = subst (λ (j : ℕ). n < j) (sym (count_choices AllOf t)) l in
      let lines : List ℕ = get_or (choices AllOf t) n [] in
      let listed : All (λ i. i < line_count L) lines = each_at (line_count L) (choices AllOf t) n k (listed (line_count L) levels AllOf t f) in
      let met : All P lines = all_picked P (line_count L) lines listed (masked_solved (flags_of (line_count L) lines) L s h) in
      some_holds P AllOf t (number_some P (choices AllOf t) n k met)

-- a choice is decided as its list: it is valid
pub choice_valid : (n : ℕ) (L : List ℤ) (t : Row) (k : ℕ) → validity_of n L ≡ Ok tt → validity_of n (choice_list L t k) ≡ Ok tt
unfolding choice_list
choice_valid n L t k = masked_valid (choice_flags L t k) L n
