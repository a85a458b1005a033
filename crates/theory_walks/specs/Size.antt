-- How large sums and entries get: with every weight within plus and minus w, an entry of row k is within plus and minus k times w.
use Rattle.std.specs.Prelude.{◌≡◌, List, [], ◌∷◌, ℕ, ◌+◌, ◌*◌, ◌≤◌, ℤ, pos, neg_ℤ, ◌+ℤ◌, length}
use Rattle.std.proofs.Common.{arith, mul-le-mul_right}
use Rattle.integers.specs.Integer.{◌⩽◌, Within}
use Rattle.integers.proofs.Linear.{ints}
use Rattle.steps.specs.declared.Step.{Step}
use Rattle.steps.specs.Walk.{total}
use Rattle.theory_walks.specs.Distance.{some}
use Rattle.theory_walks.specs.Row.{In, at, row_at, best}
use Rattle.theory_walks.specs.Reach.{Steps, row_attained}

-- every weight of E is within ±w
abbrev pub WithinWeights : ℕ → List Step → Type 0
WithinWeights w E = (s : Step) → In s E → Within w s.weight

pub within_more : {m n : ℕ} {z : ℤ} → m ≤ n → Within m z → Within n z
within_more {m} {n} {z} h b = record { low = low m n z h b.low; high = high m n z h b.high }
  where
    low : (m n : ℕ) (z : ℤ) → m ≤ n → neg_ℤ (pos m) ⩽ z → neg_ℤ (pos n) ⩽ z
    low m n z h = simp ints (omega arith)

    high : (m n : ℕ) (z : ℤ) → m ≤ n → z ⩽ pos m → z ⩽ pos n
    high m n z h = simp ints (omega arith)

pub within_sum : {m n : ℕ} {y z : ℤ} → Within m y → Within n z → Within (m + n) (y +ℤ z)
within_sum {m} {n} {y} {z} a b = record { low = low m n y z a.low b.low; high = high m n y z a.high b.high }
  where
    low : (m n : ℕ) (y z : ℤ) → neg_ℤ (pos m) ⩽ y → neg_ℤ (pos n) ⩽ z → neg_ℤ (pos (m + n)) ⩽ y +ℤ z
    low m n y z = simp ints (omega arith)

    high : (m n : ℕ) (y z : ℤ) → y ⩽ pos m → z ⩽ pos n → y +ℤ z ⩽ pos (m + n)
    high m n y z = simp ints (omega arith)

-- the sum of steps of E
pub total_within : (w : ℕ) (E : List Step) → WithinWeights w E → (ss : List Step) → Steps E ss → Within (length ss * w) (total ss)
total_within w E small [] a = record { low = simp ints (omega arith); high = simp ints (omega arith) }
total_within w E small (s ∷ ss) a = within_more (omega arith) (within_sum (small s a.0) (total_within w E small ss a.1))

pub row_within : (w : ℕ) (E : List Step) → WithinWeights w E → (N u k v : ℕ) (z : ℤ) → at (row_at E N u k) v ≡ some z → Within (k * w) z
row_within w E small N u k v z e =
    let r = row_attained E N u k v z e in
    within_more (mul-le-mul_right w r.count) (rw r.sum at (total_within w E small r.steps r.walk.steps))

pub best_within : (w : ℕ) (E : List Step) → WithinWeights w E → (N u v : ℕ) (z : ℤ) → best E N u v ≡ some z → Within (N * w) z
unfolding best
best_within w E small N u v z e = row_within w E small N u N v z e
