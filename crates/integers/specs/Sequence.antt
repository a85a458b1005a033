-- Lists by their elements: the list of a function's first values, and a list written from the front.
use Rattle.std.specs.Prelude.{◌≡◌, refl, List, [], ◌∷◌, ◌++◌, ℕ, zero, suc, ◌+◌, ◌<◌, ◌≤◌, length, set, get_or, take, drop}
use Rattle.std.proofs.Common.{sym, ap, ◌∙◌, append_assoc, suc-le-suc, suc-add, zero-add, not-suc-le-zero, le_of_suc-le-suc, add-one, arith, drop-cons}
use Rattle.std.proofs.lemmas.List.{set_at}

module _ {A : Type 0} where
  -- f 0, f 1, .., f (n - 1)
  abbrev pub tabulate : ℕ → (ℕ → A) → List A
  tabulate zero f = []
  tabulate (suc n) f = f zero ∷ tabulate n (λ k. f (suc k))

  pub length_tabulate : (n : ℕ) (f : ℕ → A) → length (tabulate n f) ≡ n
  length_tabulate zero f = refl
  length_tabulate (suc n) f = ap suc (length_tabulate n (λ k. f (suc k)))

  pub get_d_tabulate : (n k : ℕ) (f : ℕ → A) (d : A) → k < n → get_or (tabulate n f) k d ≡ f k
  get_d_tabulate zero k f d h = absurd (not-suc-le-zero h)
  get_d_tabulate (suc n) zero f d h = refl
  get_d_tabulate (suc n) (suc k) f d h = get_d_tabulate n k (λ i. f (suc i)) d (le_of_suc-le-suc h)

  -- what is left from k on begins with f k
  pub drop_tabulate : (n k : ℕ) (f : ℕ → A) → k < n → drop k (tabulate n f) ≡ f k ∷ drop (k + 1) (tabulate n f)
  drop_tabulate n k f h = rw add-one (go n k f h)
    where
      go : (n k : ℕ) (f : ℕ → A) → k < n → drop k (tabulate n f) ≡ f k ∷ drop (suc k) (tabulate n f)
      go zero k f h = absurd (not-suc-le-zero h)
      go (suc n) zero f h = refl
      go (suc n) (suc k) f h = go n k (λ i. f (suc i)) (le_of_suc-le-suc h)

  -- the first n elements of a list that has as many
  pub tabulate_get_d : (n : ℕ) (l : List A) (d : A) → n ≤ length l → tabulate n (λ i. get_or l i d) ≡ take n l
  tabulate_get_d zero l d h = refl
  tabulate_get_d (suc n) [] d h = absurd (not-suc-le-zero h)
  tabulate_get_d (suc n) (x ∷ l) d h = ap (λ (r : List A). x ∷ r) (tabulate_get_d n l d (le_of_suc-le-suc h))

  pub tabulate_cong : (n : ℕ) (f g : ℕ → A) → ((k : ℕ) → k < n → f k ≡ g k) → tabulate n f ≡ tabulate n g
  tabulate_cong zero f g e = refl
  tabulate_cong (suc n) f g e =
      ap (λ (x : A). x ∷ tabulate n (λ k. f (suc k))) (e zero (omega arith))
      ∙ ap (λ (l : List A). g zero ∷ l) (tabulate_cong n _ _ (λ k h. e (suc k) (suc-le-suc h)))

  pub tabulate_add : (m n : ℕ) (f : ℕ → A) → tabulate (m + n) f ≡ tabulate m f ++ tabulate n (λ k. f (m + k))
  tabulate_add zero n f = rw zero-add (tabulate_cong n _ _ (λ k h. ap f (sym (zero-add k))))
  tabulate_add (suc m) n f =
      rw suc-add
      (ap (λ (l : List A). f zero ∷ l)
      (tabulate_add m n (λ k. f (suc k)) ∙ ap (λ (l : List A). tabulate m (λ k. f (suc k)) ++ l) (tabulate_cong n _ _ (λ k h. ap f (sym (suc-add m k))))))

  -- xs, of n elements, stands before what d has from n on; v is stored at n
  pub grow : (xs : List A) (n : ℕ) (v z : A) (d : List A) → length xs ≡ n → n < length d → set (xs ++ drop n d) n v ≡ (xs ++ v ∷ []) ++ drop (n + 1) d
  grow xs n v z d e h =
      ap (λ (l : List A). set (xs ++ l) n v) (drop-cons d n z h)
      ∙ set_at xs (get_or d n z) (drop (suc n) d) v n e
      ∙ sym (append_assoc xs (v ∷ []) (drop (suc n) d))
      ∙ ap (λ (m : ℕ). (xs ++ v ∷ []) ++ drop m d) (sym (add-one n))
