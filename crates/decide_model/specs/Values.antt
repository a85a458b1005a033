-- The values that are written for a table of short distances, whatever they are: each is picked, given those before, and is 0 where it is beyond all
-- models. Of a closed table that has a small model they are the model.
use Rattle.std.specs.Prelude.{◌≡◌, Bool, true, false, cond, ℤ, pos, set, take, drop}
use Rattle.std.proofs.Math.Path.{refl, sym, ap}
use Rattle.std.proofs.Common.{ap₂, ◌∙◌, add-one, take_at}
use mathlib.Core.List.{List, [], ◌∷◌, ◌++◌}
use Prim.Native.Nat.{ℕ, zero, suc, ◌+◌, ◌*◌, ◌<◌, ◌≤◌}
use native.Mathlib.Omega.{arith}
use Rattle.std.proofs.Math.Decide.{dec_lt}
use Rattle.std.proofs.Math.ListN.{length, length-append, get_or-append}
use Rattle.std.proofs.lemmas.List.{get_or_at}
use Rattle.integers.specs.Integer.{is_within_lem, Within}
use Rattle.integers.proofs.Halving.{is_within, within_is}
use Rattle.integers.specs.Sequence.{tabulate, tabulate_add, tabulate_cong, length_tabulate, grow}
use Rattle.lines.specs.Line.{number}
use Rattle.theory_bounds.specs.Tight.{Table}
use Rattle.theory_bounds.specs.Table.{ClosedTable, table_model}
use Rattle.decide_stored_table.specs.Table.{table_of, by_rows, ShortTable, mirrored_table, rows_agree, closed_same}
use Rattle.theory_bounds.specs.Agree.{Agree, table_model_same}
use Rattle.decide_model.specs.Limit.{max_model}
use Rattle.decide_model.specs.Written.{pick_of, pick_untightened, part_is, part_below_halves, next_value}

-- ---- definitions
-- a value as it is kept
abbrev pub small_value_lem : ℤ → ℤ
small_value_lem z = cond (is_within_lem max_model z) z (pos 0)

-- the values of the first k variables
unfoldable pub values_of : Table → ℕ → List ℤ
values_of D zero = []
values_of D (suc k) = values_of D k ++ small_value_lem (pick_of D (values_of D k)) ∷ []

-- ---- one value
pub value_yes : (z : ℤ) → is_within_lem max_model z ≡ true → z ≡ small_value_lem z
value_yes z e = rw e refl

pub value_no : (z : ℤ) → is_within_lem max_model z ≡ false → pos 0 ≡ small_value_lem z
value_no z e = rw e refl

pub value_small : (z : ℤ) → Within max_model (small_value_lem z)
value_small z = go (is_within_lem max_model z) refl
  where
    go : (b : Bool) → is_within_lem max_model z ≡ b → Within max_model (cond b z (pos 0))
    go true e = is_within max_model z e
    go false e = is_within max_model (pos 0) refl

-- ---- the values so far
module _ (D : Table) where
  pub values_none : values_of D 0 ≡ []
  unfolding values_of
  values_none = refl

  values_more : (k : ℕ) → values_of D (k + 1) ≡ values_of D k ++ small_value_lem (pick_of D (values_of D k)) ∷ []
  unfolding values_of
  values_more k = ap (values_of D) (add-one k)

  pub values_length : (k : ℕ) → length (values_of D k) ≡ k
  unfolding values_of
  values_length zero = refl
  values_length (suc k) = length-append (values_of D k) (small_value_lem (pick_of D (values_of D k)) ∷ []) ∙ omega (arith, values_length k)

  pub values_small : (k x : ℕ) → x < k → Within max_model (number (values_of D k) x)
  unfolding values_of
  values_small zero x h = absurd (omega arith)
  values_small (suc k) x h = behind (values_of D k) k (values_length k) (values_small k) (small_value_lem (pick_of D (values_of D k))) (value_small (pick_of D (values_of D k))) x (omega arith)
    where
      -- one more behind the first k
      behind : (vs : List ℤ) (k : ℕ) → length vs ≡ k → ((x : ℕ) → x < k → Within max_model (number vs x)) → (v : ℤ) → Within max_model v → (x : ℕ) → x ≤ k → Within max_model (number (vs ++ v ∷ []) x)
      behind vs k e before v last x l = go (dec_lt x k)
        where
          go : Dec (x < k) → Within max_model (number (vs ++ v ∷ []) x)
          go (yes i) = rw (get_or-append vs (v ∷ []) (pos 0) x (omega arith)) (before x i)
          go (no i) =
              let z : length vs ≡ x = omega arith in
              rw (get_or_at vs v [] (pos 0) x z) last

  -- ---- the loop, after k values
  module _ (k : ℕ) (m w : List ℤ) (e : w ≡ values_of D k ++ drop k m) where
    pub front_is : take k w ≡ values_of D k
    front_is = ap (take k) e ∙ take_at (values_of D k) (drop k m) k (values_length k)

    pub front_length : length (take k w) ≡ k
    front_length = ap length front_is ∙ values_length k

    pub front_small : (x : ℕ) → x < length (take k w) → Within max_model (number (take k w) x)
    front_small x h = rw front_is (values_small k x (omega (arith, h, front_length)))

    pub value_written : k < length m → (v : ℤ) → v ≡ small_value_lem (pick_of D (take k w)) → set w k v ≡ values_of D (k + 1) ++ drop (k + 1) m
    value_written l v q =
        ap₂ (λ (x : List ℤ) (y : ℤ). set x k y) e (q ∙ ap (λ (x : List ℤ). small_value_lem (pick_of D x)) front_is)
        ∙ grow (values_of D k) k (small_value_lem (pick_of D (values_of D k))) (pos 0) m (values_length k) l
        ∙ ap (λ (x : List ℤ). x ++ drop (k + 1) m) (sym (values_more k))

-- ---- of a closed table with a small model
module _ (n : ℕ) (D : Table) (closed : ClosedTable n D) (small : (k : ℕ) → k < n → Within max_model (table_model n D k)) where
  abbrev model : ℕ → List ℤ
  model k = tabulate k (table_model n D)

  pick_is : (k : ℕ) → k < n → pick_of D (model k) ≡ table_model n D k
  pick_is k h =
      let w = model k ++ drop k (model n) in
      let room : n ≤ length (model n) = omega (arith, length_tabulate n (table_model n D)) in
      ap (pick_of D) (sym (part_is n D (model n) room k h w refl))
      ∙ pick_untightened D (take k w) (part_below_halves n D (model n) room k h w refl closed)
      ∙ next_value n D (model n) room k h w refl

  values_model : (k : ℕ) → k ≤ n → values_of D k ≡ model k
  unfolding values_of
  values_model zero h = refl
  values_model (suc k) h =
      let z : k + 0 ≡ k = omega arith in
      ap (λ (x : List ℤ). x ++ small_value_lem (pick_of D x) ∷ []) (values_model k (omega arith))
      ∙ ap (λ (v : ℤ). model k ++ small_value_lem v ∷ []) (pick_is k h)
      ∙ ap (λ (v : ℤ). model k ++ v ∷ []) (sym (value_yes (table_model n D k) (within_is max_model (table_model n D k) (small k h))))
      ∙ sym (ap model (sym (add-one k)) ∙ tabulate_add k 1 (table_model n D) ∙ ap (λ (j : ℕ). model k ++ table_model n D j ∷ []) z)

-- as it is read by rows
pub values_are : (n : ℕ) (t : List ℤ) → ShortTable n t → ClosedTable n (table_of (2 * n) t) → ((k : ℕ) → k < n → Within max_model (table_model n (table_of (2 * n) t) k))
    → values_of (by_rows (2 * n) t) n ≡ tabulate n (table_model n (table_of (2 * n) t))
values_are n t table closed small =
    values_model n (by_rows (2 * n) t) (closed_same n (by_rows (2 * n) t) (table_of (2 * n) t) same closed) (λ k h. rw (is k) (small k h)) n (omega arith)
    ∙ tabulate_cong n (table_model n (by_rows (2 * n) t)) (table_model n (table_of (2 * n) t)) (λ k h. is k)
  where
    same : Agree (2 * n) (by_rows (2 * n) t) (table_of (2 * n) t)
    same = rows_agree n t (mirrored_table n t table closed)

    is : (k : ℕ) → table_model n (by_rows (2 * n) t) k ≡ table_model n (table_of (2 * n) t) k
    is k = table_model_same n (by_rows (2 * n) t) (table_of (2 * n) t) same k
