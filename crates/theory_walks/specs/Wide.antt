-- Several rows side by side: with c columns, the point p of column j stands at p * c + j. A step in all columns at once, and that each column is relaxed
-- as a row of its own.
use Rattle.std.specs.Prelude.{◌≡◌, refl, ◌≢◌, ℕ, zero, suc, ◌+◌, ◌*◌, ◌≤◌, ◌<◌, length}
use Rattle.std.proofs.Common.{sym, ◌∙◌, ap, ap₂, inl, inr, arith, mul-le-mul_right, add-one, length-set, get_or-set_same, get_or-set_other}
use mathlib.Core.List.{List, [], ◌∷◌, ◌++◌, append-nil, append_assoc, foldl-append}
use Rattle.std.proofs.Math.Decide.{dec_lt, ℕ_discrete}
use Rattle.integers.specs.Integer.{Within}
use Rattle.integers.specs.Sequence.{tabulate, tabulate_add}
use Rattle.steps.specs.declared.Step.{Step}
use Rattle.theory_walks.specs.Distance.{Distance, none, min_d, ◌⊕◌}
use Rattle.theory_walks.specs.Row.{WithinPoints, at, relax_step, relax_from, relax_row}
use Rattle.theory_walks.specs.Size.{WithinWeights}

-- the step s in column j of c
abbrev pub in_column : ℕ → ℕ → Step → Step
in_column c j s = record { from = s.from * c + j; to = s.to * c + j; weight = s.weight }

-- the step s in the columns 0 to j - 1
abbrev pub columns : ℕ → ℕ → Step → List Step
columns c j s = tabulate j (λ i. in_column c i s)

-- each step in all columns
unfoldable pub wide : ℕ → List Step → List Step
wide c [] = []
wide c (s ∷ E) = columns c c s ++ wide c E

-- ---- one more column, one more step
pub columns_more : (c j : ℕ) (s : Step) → columns c (j + 1) s ≡ columns c j s ++ in_column c j s ∷ []
columns_more c j s =
    let e : j + 0 ≡ j = omega arith in
    tabulate_add j 1 (λ i. in_column c i s) ∙ ap (λ (i : ℕ). columns c j s ++ in_column c i s ∷ []) e

pub wide_none : (c : ℕ) → wide c [] ≡ []
unfolding wide
wide_none c = refl

pub wide_step : (c : ℕ) (s : Step) → wide c (s ∷ []) ≡ columns c c s
unfolding wide
wide_step c s = append-nil (columns c c s)

pub wide_append : (c : ℕ) (E F : List Step) → wide c (E ++ F) ≡ wide c E ++ wide c F
unfolding wide
wide_append c [] F = refl
wide_append c (s ∷ E) F = ap (λ (l : List Step). columns c c s ++ l) (wide_append c E F) ∙ sym (append_assoc (columns c c s) (wide c E) (wide c F))

-- a single column is the row itself
pub wide_one : (E : List Step) → wide 1 E ≡ E
unfolding wide
wide_one [] = refl
wide_one (s ∷ E) = ap (λ (t : Step). t ∷ wide 1 E) (alone s) ∙ ap (λ (l : List Step). s ∷ l) (wide_one E)
  where
    alone : (s : Step) → in_column 1 0 s ≡ s
    alone s =
        let from : s.from * 1 + 0 ≡ s.from = omega arith in
        let to : s.to * 1 + 0 ≡ s.to = omega arith in
        ap (λ (p : ℕ). record { from = p; to = s.to * 1 + 0; weight = s.weight }) from
        ∙ ap (λ (p : ℕ). record { from = s.from; to = p; weight = s.weight }) to

-- ---- the weights are those of the steps
pub columns_small : (c j w : ℕ) (s : Step) → Within w s.weight → WithinWeights w (columns c j s)
columns_small c j w s h = go j (λ i. i)
  where
    go : (n : ℕ) (f : ℕ → ℕ) → WithinWeights w (tabulate n (λ i. in_column c (f i) s))
    go zero f t i = absurd i
    go (suc n) f t (inl e) = rw e h
    go (suc n) f t (inr i) = go n (λ k. f (suc k)) t i

pub wide_small : (c w : ℕ) (E : List Step) → WithinWeights w E → WithinWeights w (wide c E)
unfolding wide
wide_small c w [] small = small
wide_small c w (s ∷ E) small = both (columns c c s) (columns_small c c w s (small s (inl refl))) (wide_small c w E (λ t i. small t (inr i)))
  where
    both : (F : List Step) → WithinWeights w F → WithinWeights w (wide c E) → WithinWeights w (F ++ wide c E)
    both [] a b t i = b t i
    both (r ∷ F) a b t (inl e) = a t (inl e)
    both (r ∷ F) a b t (inr i) = both F (λ t i. a t (inr i)) b t i

-- ---- columns
-- a place has one point and one column
pub same_point : (c i j p q : ℕ) → i < c → j < c → p * c + i ≡ q * c + j → p ≡ q
same_point c i j p q hi hj e = go (dec_lt p q) (dec_lt q p)
  where
    go : Dec (p < q) → Dec (q < p) → p ≡ q
    go (yes h) _ = absurd (omega (arith, hi, e, mul-le-mul_right c h))
    go (no _) (yes h) = absurd (omega (arith, hj, e, mul-le-mul_right c h))
    go (no h) (no k) = omega (arith, h, k)

pub same_column : (c i j p q : ℕ) → i < c → j < c → p * c + i ≡ q * c + j → i ≡ j
same_column c i j p q hi hj e =
    let f : p * c ≡ q * c = ap (λ (x : ℕ). x * c) (same_point c i j p q hi hj e) in
    omega (arith, e, f)

-- column j of a row of N * c places is the row `col` of N places
pub record Column (c j N : ℕ) (row col : List Distance) : Type 0 where
  pub wide_length : length row ≡ N * c
  pub length_is : length col ≡ N
  pub same : (p : ℕ) → p < N → at row (p * c + j) ≡ at col p

-- steps from a wide row `old` into a wide row `new`, whose columns j are `ocol` and `ncol`
module _ (c j N : ℕ) (j-lt : j < c) (old ocol : List Distance) (o : Column c j N old ocol) where
  -- a step in another column changes nothing
  other : (i : ℕ) (s : Step) → i < c → i ≢ j → {new ncol : List Distance} → Column c j N new ncol → Column c j N (relax_step old new (in_column c i s)) ncol
  other i s h ne {new} {ncol} n = record {
    wide_length = length-set new _ _ ∙ n.wide_length;
    length_is = n.length_is;
    same = λ p k. get_or-set_other new (s.to * c + i) (p * c + j) _ none (λ e. ne (sym (same_column c j i p s.to j-lt h e))) ∙ n.same p k;
  }

  -- the step in column j is the step
  own : (s : Step) → s.from < N → s.to < N → {new ncol : List Distance} → Column c j N new ncol
      → Column c j N (relax_step old new (in_column c j s)) (relax_step ocol ncol s)
  own s hf ht {new} {ncol} n = record {
    wide_length = length-set new _ _ ∙ n.wide_length;
    length_is = length-set ncol _ _ ∙ n.length_is;
    same = λ p k. go p k (ℕ_discrete p s.to);
  }
    where
      wide_inside : s.to * c + j < length new
      wide_inside = omega (arith, n.wide_length, j-lt, mul-le-mul_right c ht)

      inside : s.to < length ncol
      inside = rw n.length_is ht

      at_end : at (relax_step old new (in_column c j s)) (s.to * c + j) ≡ at (relax_step ocol ncol s) s.to
      at_end =
          get_or-set_same new (s.to * c + j) _ none wide_inside
          ∙ ap₂ (λ (x y : Distance). min_d x (y ⊕ s.weight)) (n.same s.to ht) (o.same s.from hf)
          ∙ sym (get_or-set_same ncol s.to _ none inside)

      go : (p : ℕ) → p < N → Dec (p ≡ s.to) → at (relax_step old new (in_column c j s)) (p * c + j) ≡ at (relax_step ocol ncol s) p
      go p k (yes e) = rw e at_end
      go p k (no ne) =
          get_or-set_other new (s.to * c + j) (p * c + j) _ none (λ e. ne (same_point c j j p s.to j-lt j-lt e))
          ∙ n.same p k
          ∙ sym (get_or-set_other ncol s.to p _ none ne)

  -- the step in one more column
  more : (k : ℕ) (s : Step) (new : List Distance) → relax_from old new (columns c (suc k) s) ≡ relax_step old (relax_from old new (columns c k s)) (in_column c k s)
  more k s new =
      ap (λ (m : ℕ). relax_from old new (columns c m s)) (sym (add-one k))
      ∙ ap (relax_from old new) (columns_more c k s)
      ∙ foldl-append (relax_step old) new (columns c k s) (in_column c k s ∷ [])

  -- the step in the columns before j
  before : (k : ℕ) (s : Step) → k ≤ j → {new ncol : List Distance} → Column c j N new ncol → Column c j N (relax_from old new (columns c k s)) ncol
  before zero s h n = n
  before (suc k) s h {new} n = rw (more k s new) (other k s (omega (arith, j-lt)) (λ e. omega (arith, e)) (before k s (omega arith) n))

  -- the step in the columns up to j, and in some beyond
  after : (k : ℕ) (s : Step) → s.from < N → s.to < N → j < k → k ≤ c → {new ncol : List Distance} → Column c j N new ncol
      → Column c j N (relax_from old new (columns c k s)) (relax_step ocol ncol s)
  after zero s hf ht h l n = absurd (omega arith)
  after (suc k) s hf ht h l {new} {ncol} n = rw (more k s new) (go (dec_lt j k) (λ m. after k s hf ht m (omega arith) n))
    where
      go : Dec (j < k) → (j < k → Column c j N (relax_from old new (columns c k s)) (relax_step ocol ncol s))
          → Column c j N (relax_step old (relax_from old new (columns c k s)) (in_column c k s)) (relax_step ocol ncol s)
      go (yes m) f = other k s l (λ e. omega (arith, e, m)) (f m)
      go (no m) f =
          let e : k ≡ j = omega (arith, m, h) in
          rw e (own s hf ht (before j s (omega arith) n))

  -- all steps
  from_wide : (E : List Step) → WithinPoints N E → {new ncol : List Distance} → Column c j N new ncol
      → Column c j N (relax_from old new (wide c E)) (relax_from ocol ncol E)
  unfolding wide
  from_wide [] within n = n
  from_wide (s ∷ E) within {new} n =
      let ends = within s (inl refl) in
      rw (foldl-append (relax_step old) new (columns c c s) (wide c E))
      (from_wide E (λ t i. within t (inr i)) (after c s ends.0 ends.1 j-lt (omega arith) n))

-- each column of a relaxed wide row is the column, relaxed
pub column_relax : (c j N : ℕ) (E : List Step) → WithinPoints N E → j < c → {row col : List Distance} → Column c j N row col
    → Column c j N (relax_row (wide c E) row) (relax_row E col)
unfolding relax_row
column_relax c j N E within h {row} {col} n = from_wide c j N h row col n E within n
