-- More laws of points (the variable of a point, its two points, points below 2n), and assignments with one value changed.
use Rattle.std.specs.Prelude.{◌≡◌, refl, ◌⊎◌, Bool, true, false, cond, ℕ, zero, suc, ◌+◌, ◌*◌, ◌-◌, ◌/◌, ◌%◌, ◌<◌, T, eqb, ℤ}
use Rattle.std.proofs.Common.{inl, inr, arith, eqb→eq}
use Rattle.std.proofs.Math.Dec.{eqb_refl}
use Rattle.lines.specs.Line.{Assignment}
use Rattle.steps.specs.Point.{point, opposite, value}

-- the variable that a point belongs to
unfoldable pub variable_of : ℕ → ℕ
variable_of p = p / 2

pub variable_plus : (x : ℕ) → variable_of (point x 0) ≡ x
unfolding variable_of
variable_plus x = omega arith

pub variable_minus : (x : ℕ) → variable_of (point x 1) ≡ x
unfolding variable_of
variable_minus x = omega arith

pub variable_opposite : (p : ℕ) → variable_of (opposite p) ≡ variable_of p
unfolding opposite variable_of
variable_opposite p = omega arith

pub opposite_plus : (x : ℕ) → opposite (point x 0) ≡ point x 1
unfolding opposite
opposite_plus x = omega arith

pub opposite_minus : (x : ℕ) → opposite (point x 1) ≡ point x 0
unfolding opposite
opposite_minus x = omega arith

pub opposite_differs : (p : ℕ) → ¬ (p ≡ opposite p)
unfolding opposite
opposite_differs p e = omega arith

-- a point is one of its variable's two
pub which : (p : ℕ) → (p ≡ point (variable_of p) 0) ⊎ (p ≡ point (variable_of p) 1)
unfolding variable_of
which p = go (p % 2) refl
  where
    go : (r : ℕ) → p % 2 ≡ r → (p ≡ point (p / 2) 0) ⊎ (p ≡ point (p / 2) 1)
    go zero e = inl (omega arith)
    go (suc r) e = inr (omega arith)

-- two points of one variable are equal or opposite
pub same_variable : (p q : ℕ) → variable_of p ≡ variable_of q → (q ≡ p) ⊎ (q ≡ opposite p)
unfolding variable_of opposite
same_variable p q h = go (p % 2) (q % 2) refl refl
  where
    go : (r t : ℕ) → p % 2 ≡ r → q % 2 ≡ t → (q ≡ p) ⊎ (q ≡ (p + 1) - 2 * (p % 2))
    go zero zero e f = inl (omega arith)
    go zero (suc t) e f = inr (omega arith)
    go (suc r) zero e f = inr (omega arith)
    go (suc r) (suc t) e f = inl (omega arith)

-- ---- the points of n variables are those below 2n
pub plus_below : (n x : ℕ) → x < n → point x 0 < 2 * n
plus_below n x l = omega arith

pub minus_below : (n x : ℕ) → x < n → point x 1 < 2 * n
minus_below n x l = omega arith

pub variable_below : (n p : ℕ) → p < 2 * n → variable_of p < n
unfolding variable_of
variable_below n p l = omega arith

pub below_of_variable : (n p : ℕ) → variable_of p < n → p < 2 * n
unfolding variable_of
below_of_variable n p l = omega arith

pub opposite_below : (n p : ℕ) → p < 2 * n → opposite p < 2 * n
unfolding opposite
opposite_below n p l = omega arith

-- ---- assignments
-- equal at the variable, equal at the point
pub value_cong : (s t : Assignment) (p : ℕ) → s (variable_of p) ≡ t (variable_of p) → value s p ≡ value t p
unfolding variable_of value
value_cong s t p e = rw e

-- s with y set to v
unfoldable pub assign : Assignment → ℕ → ℤ → Assignment
assign s y v x = cond (eqb x y) v (s x)

pub assign_same : (s : Assignment) (y : ℕ) (v : ℤ) → assign s y v y ≡ v
unfolding assign
assign_same s y v = go (eqb y y) (eqb_refl y)
  where
    go : (b : Bool) → T b → cond b v (s y) ≡ v
    go true t = refl
    go false t = absurd t

pub assign_other : (s : Assignment) (y : ℕ) (v : ℤ) (x : ℕ) → ¬ (x ≡ y) → assign s y v x ≡ s x
unfolding assign
assign_other s y v x f = go (eqb x y) (λ t. f (eqb→eq x y t))
  where
    go : (b : Bool) → (T b → ⊥) → cond b v (s x) ≡ s x
    go true g = absurd (g tt)
    go false g = refl
