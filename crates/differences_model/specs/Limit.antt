-- A table of the distances between variables, and the limits of the next variable as a loop over the earlier ones finds them: how large they get.
use Rattle.std.specs.Prelude.{◌≡◌, refl, Bool, true, false, List, ℤ, length}
use Rattle.std.proofs.Common.{sym, ◌∙◌, mul-le-mul_right, add-one, arith}
use Rattle.std.proofs.Math.Path.{ap, ap₂}
use Prim.Native.Nat.{ℕ, zero, suc, ◌+◌, ◌*◌, ◌<◌, ◌≤◌}
use Rattle.integers.specs.Integer.{Within}
use Rattle.integers.specs.Laws.{never}
use Rattle.lines.specs.Limits.{max_variables}
use Rattle.lines.specs.Line.{Assignment, number, assignment_of}
use Rattle.theory_walks.specs.Distance.{Distance, none, some, min_d, ◌⊞◌}
use Rattle.theory_bounds.specs.Tight.{Table}
use Rattle.theory_bounds.specs.Table.{table_model}
use Rattle.theory_bounds.specs.Extend.{below}
use Rattle.theory_differences.specs.Distances.{doubled}
use Rattle.theory_differences.specs.Doubled.{plain_limit, limit_row, turned, limit_value}
use Rattle.decide_rows.specs.Stored.{stored}
use Rattle.decide_rows.specs.Read.{distance_of, Short, max_distance, short_more}
use Rattle.decide_stored_table.specs.Sum.{max_sum, read_back, min_short}
use Rattle.decide_stored_table.specs.Table.{table_of, entry_lt}
use Rattle.decide_model.specs.Limit.{max_model, minus_within, with_value_short}

-- the distances between n variables, a row for each: row v has those to v
pub record PlainTable (n : ℕ) (t : List ℤ) : Type 0 where
  pub variables : n ≤ max_variables
  pub size : length t ≡ n * n
  pub short : (u v : ℕ) → u < n → v < n → Short max_distance (table_of n t u v)

-- what is asked for the value of the next variable
pub record NextReady (n : ℕ) (t values : List ℤ) : Type 0 where
  pub table : PlainTable n t
  pub count : length values < n
  pub small : (x : ℕ) → x < length values → Within max_model (number values x)

pub record PlainModelReady (n : ℕ) (t m : List ℤ) : Type 0 where
  pub table : PlainTable n t
  pub room : n ≤ length m
  pub small : (k : ℕ) → k < n → Within max_model (table_model n (doubled (table_of n t)) k)

-- the index of an entry is small
pub index_small : (n u v : ℕ) → n ≤ max_variables → u < n → v < n → u * n + v < max_variables * max_variables
index_small n u v l h k = omega (arith, mul-le-mul_right n l, entry_lt n u v h k)

-- a value as a limit goes by it is as small
turned_within : (upper : Bool) (v : ℤ) → Within max_model v → Within max_model (turned upper v)
turned_within true v h = h
turned_within false v h = minus_within max_model v h

-- the limit of k by the variables below x
abbrev pub limit_below : Bool → Table → Assignment → ℕ → ℕ → Distance
limit_below upper D s k x = plain_limit (limit_row upper D k) (limit_value upper s) (below x)

pub limit_start : (upper : Bool) (D : Table) (s : Assignment) (k : ℕ) → limit_below upper D s k 0 ≡ none
unfolding plain_limit
limit_start upper D s k = refl

-- ---- the loop
module _ (n : ℕ) (t values : List ℤ) (ready : NextReady n t values) (upper : Bool) where
  abbrev D : Table
  D = table_of n t

  abbrev k : ℕ
  k = length values

  abbrev limit : ℕ → Distance
  limit x = limit_below upper D (assignment_of values) k x

  -- by one variable
  abbrev one : ℕ → Distance
  one x = limit_row upper D k x ⊞ some (turned upper (number values x))

  row_short : (upper : Bool) (x : ℕ) → x < n → Short max_distance (limit_row upper D k x)
  row_short true x h = ready.table.short k x ready.count h
  row_short false x h = ready.table.short x k h ready.count

  one_short : (x : ℕ) → x < k → Short (max_distance + max_model) (one x)
  one_short x h = with_value_short (limit_row upper D k x) (row_short upper x (omega (arith, ready.count))) _ (turned_within upper (number values x) (ready.small x h))

  limit_short : (x : ℕ) → x ≤ k → Short (max_distance + max_model) (limit x)
  unfolding plain_limit
  limit_short zero h = λ z e. never (cc)
  limit_short (suc x) h = min_short _ _ (max_distance + max_model) (limit_short x (omega arith)) (one_short x h)

  -- read back
  one_back : (x : ℕ) → x < k → (z : ℤ) → z ≡ stored (one x) → distance_of z ≡ one x
  one_back x h z e = ap distance_of e ∙ read_back _ (short_more (omega arith) (one_short x h))

  pub limit_back : (x : ℕ) → x ≤ length values → (z : ℤ) → z ≡ stored (limit_below upper (table_of n t) (assignment_of values) (length values) x)
      → distance_of z ≡ limit_below upper (table_of n t) (assignment_of values) (length values) x
  limit_back x h z e = ap distance_of e ∙ read_back _ (short_more (omega arith) (limit_short x h))

  pub limit_back_short : (z : ℤ) → z ≡ stored (limit_below upper (table_of n t) (assignment_of values) (length values) (length values)) → Short max_sum (distance_of z)
  limit_back_short z e = rw (limit_back k (omega arith) z e) (short_more (omega arith) (limit_short k (omega arith)))

  -- one variable more
  pub limit_more : (x : ℕ) → x < length values → (z w r : ℤ)
      → z ≡ stored (limit_below upper (table_of n t) (assignment_of values) (length values) x)
      → w ≡ stored (limit_row upper (table_of n t) (length values) x ⊞ some (turned upper (number values x)))
      → r ≡ stored (min_d (distance_of z) (distance_of w))
      → r ≡ stored (limit_below upper (table_of n t) (assignment_of values) (length values) (x + 1))
  unfolding plain_limit
  limit_more x h z w r e f g =
      g ∙ ap₂ (λ (a b : Distance). stored (min_d a b)) (limit_back x (omega arith) z e) (one_back x h w f)
      ∙ ap (λ (j : ℕ). stored (limit j)) (sym (add-one x))
