-- A tree read as a formula holds exactly if all lines of one of its choices do.
use Rattle.std.specs.Prelude.{◌⊎◌, List, [], ◌∷◌, ◌++◌, map, ℕ, zero, suc, ◌<◌, length, get_or}
use Rattle.std.proofs.Common.{inl, inr, ⊎_elim, arith}
use Rattle.tree_reading.specs.declared.Kind.{Kind}
use Rattle.tree_reading.specs.declared.Kind.TheVariants.{AllOf, AnyOf}
use Rattle.tree_reading.specs.Tree.{Row, none, line, node}
use Rattle.tree_reading.specs.Choices.{pairs, joined, choices}

-- what holds of all of a list, and of some of a list of lists
abbrev pub All : (ℕ → Type 0) → List ℕ → Type 0
All P [] = Unit {0}
All P (i ∷ is) = P i × All P is

abbrev pub Some : (List ℕ → Type 0) → List (List ℕ) → Type 0
Some Q [] = ⊥
Some Q (x ∷ xs) = Q x ⊎ Some Q xs

-- nothing to ask for, and a child with the children after it
abbrev pub Empty : Kind → Type 0
Empty AllOf = Unit {0}
Empty AnyOf = ⊥

abbrev pub Both : Kind → Type 0 → Type 0 → Type 0
Both AllOf A B = A × B
Both AnyOf A B = A ⊎ B

-- a node of kind k with these children, where P says which lines hold
abbrev pub Holds : (ℕ → Type 0) → Kind → Row → Type 0
Holds P k none = Empty k
Holds P k (line i r) = Both k (P i) (Holds P k r)
Holds P k (node l c r) = Both k (Holds P l c) (Holds P k r)

module _ (P : ℕ → Type 0) where
  pub both_all : (xs ys : List ℕ) → All P xs → All P ys → All P (xs ++ ys)
  both_all [] ys h k = k
  both_all (x ∷ xs) ys h k = (h.0, both_all xs ys h.1 k)

  all_both : (xs ys : List ℕ) → All P (xs ++ ys) → All P xs × All P ys
  all_both [] ys h = (tt, h)
  all_both (x ∷ xs) ys h = let r = all_both xs ys h.1 in ((h.0, r.0), r.1)

  some_left : (xs ys : List (List ℕ)) → Some (All P) xs → Some (All P) (xs ++ ys)
  some_left [] ys h = absurd h
  some_left (x ∷ xs) ys h = ⊎_elim (λ a. inl a) (λ b. inr (some_left xs ys b)) h

  some_right : (xs ys : List (List ℕ)) → Some (All P) ys → Some (All P) (xs ++ ys)
  some_right [] ys h = h
  some_right (x ∷ xs) ys h = inr (some_right xs ys h)

  some_append : (xs ys : List (List ℕ)) → Some (All P) (xs ++ ys) → Some (All P) xs ⊎ Some (All P) ys
  some_append [] ys h = inr h
  some_append (x ∷ xs) ys h = ⊎_elim (λ a. inl (inl a)) (λ b. ⊎_elim (λ c. inl (inr c)) (λ c. inr c) (some_append xs ys b)) h

  map_some : (x : List ℕ) (ys : List (List ℕ)) → All P x → Some (All P) ys → Some (All P) (map (λ (y : List ℕ). x ++ y) ys)
  map_some x [] h k = absurd k
  map_some x (y ∷ ys) h k = ⊎_elim (λ a. inl (both_all x y h a)) (λ b. inr (map_some x ys h b)) k

  some_map : (x : List ℕ) (ys : List (List ℕ)) → Some (All P) (map (λ (y : List ℕ). x ++ y) ys) → All P x × Some (All P) ys
  some_map x [] h = absurd h
  some_map x (y ∷ ys) h = ⊎_elim (λ a. let r = all_both x y a in (r.0, inl r.1)) (λ b. let r = some_map x ys b in (r.0, inr r.1)) h

  pairs_some : (xs ys : List (List ℕ)) → Some (All P) xs → Some (All P) ys → Some (All P) (pairs xs ys)
  pairs_some [] ys h k = absurd h
  pairs_some (x ∷ xs) ys h k = ⊎_elim (λ a. some_left (map (λ (y : List ℕ). x ++ y) ys) (pairs xs ys) (map_some x ys a k)) (λ b. some_right (map (λ (y : List ℕ). x ++ y) ys) _ (pairs_some xs ys b k)) h

  some_pairs : (xs ys : List (List ℕ)) → Some (All P) (pairs xs ys) → Some (All P) xs × Some (All P) ys
  some_pairs [] ys h = absurd h
  some_pairs (x ∷ xs) ys h =
      ⊎_elim (λ a. let r = some_map x ys a in (inl r.0, r.1)) (λ b. let r = some_pairs xs ys b in (inr r.0, r.1)) (some_append (map (λ (y : List ℕ). x ++ y) ys) (pairs xs ys) h)

  joined_some : (k : Kind) (xs ys : List (List ℕ)) → Both k (Some (All P) xs) (Some (All P) ys) → Some (All P) (joined k xs ys)
  joined_some AllOf xs ys h = pairs_some xs ys h.0 h.1
  joined_some AnyOf xs ys h = ⊎_elim (some_left xs ys) (some_right xs ys) h

  some_joined : (k : Kind) (xs ys : List (List ℕ)) → Some (All P) (joined k xs ys) → Both k (Some (All P) xs) (Some (All P) ys)
  some_joined AllOf xs ys h = some_pairs xs ys h
  some_joined AnyOf xs ys h = some_append xs ys h

  both : (k : Kind) {A B C D : Type 0} → (A → C) → (B → D) → Both k A B → Both k C D
  both AllOf f g h = (f h.0, g h.1)
  both AnyOf f g h = ⊎_elim (λ a. inl (f a)) (λ b. inr (g b)) h

  pub holds_some : (k : Kind) (t : Row) → Holds P k t → Some (All P) (choices k t)
  holds_some AllOf none h = inl tt
  holds_some AnyOf none h = absurd h
  holds_some k (line i r) h = joined_some k ((i ∷ []) ∷ []) (choices k r) (both k (λ a. inl (a, tt)) (holds_some k r) h)
  holds_some k (node l c r) h = joined_some k (choices l c) (choices k r) (both k (holds_some l c) (holds_some k r) h)

  pub some_holds : (k : Kind) (t : Row) → Some (All P) (choices k t) → Holds P k t
  some_holds AllOf none h = tt
  some_holds AnyOf none h = h
  some_holds k (line i r) h = both k (λ a. ⊎_elim (λ b. b.0) (λ b. absurd b) a) (some_holds k r) (some_joined k ((i ∷ []) ∷ []) (choices k r) h)
  some_holds k (node l c r) h = both k (some_holds l c) (some_holds k r) (some_joined k (choices l c) (choices k r) h)

  -- some choice, by its number
  pub some_number : (xs : List (List ℕ)) → Some (All P) xs → (n : ℕ) × (n < length xs) × All P (get_or xs n [])
  some_number [] h = absurd h
  some_number (x ∷ xs) h = ⊎_elim (λ a. (zero, omega arith, a)) (λ b. let r = some_number xs b in (suc r.0, omega (arith, r.1), r.2)) h

  pub number_some : (xs : List (List ℕ)) (n : ℕ) → n < length xs → All P (get_or xs n []) → Some (All P) xs
  number_some [] n l h = absurd (omega arith)
  number_some (x ∷ xs) zero l h = inl h
  number_some (x ∷ xs) (suc n) l h = inr (number_some xs n (omega arith) h)
