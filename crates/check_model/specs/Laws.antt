-- What a valid model grants, the products of a line, and the laws by which the loops go one value or one line further.
use Rattle.std.specs.Prelude.{◌≡◌, refl, true, false, not, cond, List, [], ◌∷◌, ℕ, zero, suc, ◌+◌, ◌<◌, ◌≤◌, ℤ, pos, negsuc, neg_ℤ, ◌+ℤ◌, ◌-ℤ◌, ◌*ℤ◌, length, Err, Ok}
use Rattle.std.proofs.Common.{sym, ◌∙◌, add-one, arith, eqb-true, drop_of_length-le, drop-cons, SFits}
use Rattle.std.proofs.Math.Path.{ap}
use Rattle.std.proofs.lemmas.Bool.{not-false}
use Rattle.std.proofs.Math.IntN.{zero-*ℤ, pred_ℤ-*ℤ}
use Rattle.std.proofs.Math.ListN.{drop}
use Rattle.std.specs.Int.Signed.{lt_z}
use Rattle.std.specs.Int.{w64}
use Rattle.integers.specs.Integer.{◌⩽◌, is_within_lem, Within}
use Rattle.integers.proofs.Linear.{ints, zs}
use Rattle.integers.proofs.Halving.{is_within}
use Rattle.lines.specs.declared.Refusal.TheVariants.{BadValue}
use Rattle.lines.specs.Limits.{max_value}
use Rattle.lines.specs.Line.{Assignment, line_at, line_count, lines_of, meets, assignment_of}
use Rattle.lines.specs.Refusal.{◌or_else◌, refuse_if}
use Rattle.lines.specs.Valid.{VariableOk, ListOk, valid_list, or_valid, not_refused}
use Rattle.lines.specs.Laws.{lines_from, lines_past}
use Rattle.check_answers.specs.declared.CheckAnswer.TheVariants.{Yes, No}
use Rattle.check_model.specs.Model.{values_validity_lem, model_validity_lem, first_failing_lem}

-- ---- what a valid model grants
-- each value lies within the limit, and so does the 0 of the variables beyond
abbrev pub ValuesOk : List ℤ → Type 0
ValuesOk m = (k : ℕ) → Within max_value (assignment_of m k)

pub record ModelOk (n : ℕ) (L m : List ℤ) : Type 0 where
  pub list : ListOk n L
  pub count : length m ≡ n
  pub values : ValuesOk m

-- none is refused from the first value on, so neither it nor what comes after it is
value_parts : (j : ℕ) (v : ℤ) (vs : List ℤ) → values_validity_lem j (v ∷ vs) ≡ Ok tt → Within max_value v × (values_validity_lem (j + 1) vs ≡ Ok tt)
unfolding values_validity_lem
value_parts j v vs e =
    let h = or_valid (refuse_if (not (is_within_lem max_value v)) (BadValue j)) _ e in
    (is_within max_value v (not-false _ (not_refused _ _ h.0)), h.1)

values_ok : (j : ℕ) (m : List ℤ) → values_validity_lem j m ≡ Ok tt → ValuesOk m
values_ok j [] e k = is_within max_value (pos 0) refl
values_ok j (v ∷ vs) e zero = (value_parts j v vs e).0
values_ok j (v ∷ vs) e (suc k) = values_ok (j + 1) vs (value_parts j v vs e).1 k

pub valid_model : (n : ℕ) (L m : List ℤ) → model_validity_lem n L m ≡ Ok tt → ModelOk n L m
unfolding model_validity_lem
valid_model n L m e =
    let p = or_valid _ _ e in
    let q = or_valid _ _ p.1 in
    record {
      list = valid_list n L p.0;
      count = eqb-true _ _ (not-false _ (not_refused _ _ q.0));
      values = values_ok 0 m q.1;
    }

-- ---- a coefficient times a value
-- what a valid line grants of each of its coefficients
pub record TermOk (n : ℕ) (a x : ℤ) : Type 0 where
  pub coefficient : Within 1 a
  pub variable : (a ≡ pos 0 → ⊥) → VariableOk n x

times_one : (v : ℤ) → pos 1 *ℤ v ≡ v
times_one v = simp ints (omega arith)

times_minus_one : (v : ℤ) → negsuc 0 *ℤ v ≡ pos 0 -ℤ v
times_minus_one v = pred_ℤ-*ℤ (pos 0) v ∙ ap (λ (z : ℤ). z -ℤ v) (zero-*ℤ v)

-- a coefficient -1, 0 or 1 keeps a value within its limit
pub product_within : (m : ℕ) (a v : ℤ) → Within 1 a → Within m v → Within m (a *ℤ v)
product_within m (pos zero) v h k = rw (zero-*ℤ v) (record { low = simp ints (omega arith); high = simp ints (omega arith) })
product_within m (pos (suc zero)) v h k = rw (times_one v) k
product_within m (pos (suc (suc a))) v h k = absurd (omega zs)
product_within m (negsuc zero) v h k = rw (times_minus_one v) (record { low = low m v k.high; high = high m v k.low })
  where
    low : (m : ℕ) (v : ℤ) → v ⩽ pos m → neg_ℤ (pos m) ⩽ pos 0 -ℤ v
    low m v = simp ints (omega arith)

    high : (m : ℕ) (v : ℤ) → neg_ℤ (pos m) ⩽ v → pos 0 -ℤ v ⩽ pos m
    high m v = simp ints (omega arith)
product_within m (negsuc (suc a)) v h k = absurd (omega zs)

-- a coefficient below 0, and one above
pub minus_value : (a v : ℤ) → Within 1 a → lt_z a (pos 0) ≡ true → pos 0 -ℤ v ≡ a *ℤ v
minus_value a v h t = sym (ap (λ (z : ℤ). z *ℤ v) (is_minus_one a h.low t) ∙ times_minus_one v)
  where
    is_minus_one : (a : ℤ) → neg_ℤ (pos 1) ⩽ a → lt_z a (pos 0) ≡ true → a ≡ negsuc 0
    is_minus_one a = simp ints (omega arith)

pub plus_value : (a v : ℤ) → Within 1 a → (a ≡ pos 0 → ⊥) → lt_z a (pos 0) ≡ false → v ≡ a *ℤ v
plus_value a v h n t = sym (ap (λ (z : ℤ). z *ℤ v) (is_one a h.high n t) ∙ times_one v)
  where
    is_one : (a : ℤ) → a ⩽ pos 1 → (a ≡ pos 0 → ⊥) → lt_z a (pos 0) ≡ false → a ≡ pos 1
    is_one a = simp ints (omega arith)

pub value_fits : (v : ℤ) → Within max_value v → SFits w64 v
value_fits v h = simp ints (omega zs)

pub sum_fits : (u v : ℤ) → Within max_value u → Within max_value v → SFits w64 (u +ℤ v)
sum_fits u v h k = simp ints (omega zs)

-- ---- one value further
module _ (m : List ℤ) where
  pub values_from : (k : ℕ) → k < length m
      → values_validity_lem k (drop k m) ≡ (refuse_if (not (is_within_lem max_value (assignment_of m k))) (BadValue k) or_else values_validity_lem (k + 1) (drop (k + 1) m))
  unfolding values_validity_lem
  values_from k h = ap (values_validity_lem k) (drop-cons m k (pos 0) h ∙ ap (λ (i : ℕ). assignment_of m k ∷ drop i m) (sym (add-one k)))

  pub values_on : (k : ℕ) → k < length m → is_within_lem max_value (assignment_of m k) ≡ true → values_validity_lem k (drop k m) ≡ values_validity_lem (k + 1) (drop (k + 1) m)
  values_on k h e = rw e at (values_from k h)

  pub values_at : (k : ℕ) → k < length m → is_within_lem max_value (assignment_of m k) ≡ false → values_validity_lem k (drop k m) ≡ Err (BadValue k)
  values_at k h e = rw e at (values_from k h)

  pub values_past : (k : ℕ) → length m ≤ k → values_validity_lem k (drop k m) ≡ Ok tt
  unfolding values_validity_lem
  values_past k h = ap (values_validity_lem k) (drop_of_length-le m h)

-- ---- one line further
module _ (s : Assignment) (L : List ℤ) where
  pub failing_from : (k : ℕ) → k < line_count L
      → first_failing_lem s k (drop k (lines_of L)) ≡ cond (meets s (line_at L k)) (first_failing_lem s (k + 1) (drop (k + 1) (lines_of L))) (No k)
  unfolding first_failing_lem
  failing_from k h = ap (first_failing_lem s k) (lines_from L k h)

  pub failing_on : (k : ℕ) → k < line_count L → meets s (line_at L k) ≡ true → first_failing_lem s k (drop k (lines_of L)) ≡ first_failing_lem s (k + 1) (drop (k + 1) (lines_of L))
  failing_on k h e = rw e at (failing_from k h)

  pub failing_at : (k : ℕ) → k < line_count L → meets s (line_at L k) ≡ false → first_failing_lem s k (drop k (lines_of L)) ≡ No k
  failing_at k h e = rw e at (failing_from k h)

  pub failing_past : (k : ℕ) → line_count L ≤ k → first_failing_lem s k (drop k (lines_of L)) ≡ Yes
  unfolding first_failing_lem
  failing_past k h = ap (first_failing_lem s k) (lines_past L k h)
