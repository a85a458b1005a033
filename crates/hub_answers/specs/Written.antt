-- The answers of a list with one hub as the code finds them: a value of the model, a bound, two numbers of the groups.
use Rattle.std.specs.Prelude.{◌≡◌, refl, Bool, true, false, cond, ◌&&◌, List, ℕ, ◌+◌, ◌*◌, ◌/◌, ◌%◌, ◌<◌, ◌≤◌, ltb, ℤ, pos, length, set}
use Rattle.std.proofs.Math.Path.{sym}
use Rattle.std.proofs.Common.{ap, ap₂, ◌∙◌, arith, ltb-true, lt-ltb, le-ltb, eq-eqb, ne_eqb, SFits}
use Rattle.std.specs.Int.Signed.{le_z, lt_z}
use Rattle.std.specs.Int.{w32}
use Rattle.integers.proofs.Linear.{ints}
use Rattle.integers.specs.Fill.{filled, filled_more}
use Rattle.steps.specs.Point.{point, opposite}
use Rattle.theory_walks.specs.Distance.{Distance, ◌⊞◌}
use Rattle.theory_walks.specs.Negative.{not_below0}
use Rattle.theory_bounds.specs.Near.{near}
use Rattle.theory_bounds.specs.Answers.{greatest_of, least_of}
use Rattle.theory_hub.specs.Hub.{hub_points, Weights, cap, reach, hub_limit_lem, hub_value, all_sound_lem, all_loose_lem, answerable, hub_model, greatest_at_lem, hub_bound_lem, own_group}
use Rattle.decide_rows.specs.Stored.{stored}
use Rattle.decide_rows.specs.Read.{Short, max_distance, short_more}
use Rattle.hub_weights.specs.Weights.{weights_in}
use Rattle.hub_limits.specs.Ready.{WeightsShort}
use Rattle.hub_limits.specs.Sizes.{limit_short, reach_short}

-- ---- what is asked
-- what is asked for the model: the hub's value is v, and each value fits 32 bits
pub record ModelAsked (n : ℕ) (w : List ℤ) (v : ℤ) : Type 0 where
  pub weights : WeightsShort n w
  pub some_variable : 1 ≤ n
  pub hub : v ≡ hub_value n (weights_in n w)
  pub fits : (x : ℕ) → x < n → SFits w32 (hub_model n (weights_in n w) x)

-- what is asked for the bounds: the greatest values of the hub's points are a and b
pub record BoundsAsked (n : ℕ) (w : List ℤ) (a b : ℤ) : Type 0 where
  pub weights : WeightsShort n w
  pub some_variable : 1 ≤ n
  pub plus : a ≡ stored (hub_limit_lem n (weights_in n w) 0)
  pub minus : b ≡ stored (hub_limit_lem n (weights_in n w) 1)

-- ---- a value of the model
pub model_hub : (n : ℕ) (W : Weights) (x : ℕ) → x ≡ 0 → hub_value n W ≡ hub_model n W x
unfolding hub_model
model_hub n W x e = rw (eq-eqb x 0 e) refl

pub model_other : (n : ℕ) (W : Weights) (x : ℕ) (u l : Distance) → (x ≡ 0 → ⊥) → u ≡ cap W (hub_value n W) (2 * x) → l ≡ cap W (hub_value n W) (2 * x + 1) → near u l ≡ hub_model n W x
unfolding hub_model
model_other n W x u l d p q =
    let z : 2 * x ≡ point x 0 = omega arith in
    rw (ne_eqb x 0 d) (ap₂ near (p ∙ ap (cap W (hub_value n W)) z) q)

-- ---- the greatest value of a point
pub greatest_hub : (n : ℕ) (W : Weights) (p : ℕ) → p < hub_points → hub_limit_lem n W p ≡ greatest_at_lem n W p
unfolding greatest_at_lem
greatest_hub n W p h = rw (lt-ltb p hub_points h) refl

pub greatest_other : (n : ℕ) (W : Weights) (p : ℕ) → hub_points ≤ p → reach W (hub_limit_lem n W 0) (hub_limit_lem n W 1) p ≡ greatest_at_lem n W p
unfolding greatest_at_lem
greatest_other n W p h = rw (le-ltb p hub_points h) refl

pub greatest_short : (n : ℕ) (w : List ℤ) → WeightsShort n w → 1 ≤ n → (p : ℕ) → p < 2 * n → Short max_distance (greatest_at_lem n (weights_in n w) p)
unfolding greatest_at_lem
greatest_short n w ok hn p h = go (ltb p hub_points) refl
  where
    go : (b : Bool) → ltb p hub_points ≡ b → Short max_distance (cond b (hub_limit_lem n (weights_in n w) p) (reach (weights_in n w) (hub_limit_lem n (weights_in n w) 0) (hub_limit_lem n (weights_in n w) 1) p))
    go true e = short_more (omega arith) (limit_short n w ok p (ltb-true p hub_points e) hn)
    go false e = short_more (omega arith) (reach_short n w ok _ _ p (limit_short n w ok 0 (omega arith) hn) (limit_short n w ok 1 (omega arith) hn) h)

-- ---- a bound: it is that of the opposite point
least_point : (i : ℕ) → i % 2 ≡ 0 → opposite i ≡ point (i / 2) 1
unfolding opposite
least_point i e = omega arith

greatest_point : (i : ℕ) → (i % 2 ≡ 0 → ⊥) → opposite i ≡ point (i / 2) 0
unfolding opposite
greatest_point i e = omega arith

pub bound_least : (n : ℕ) (W : Weights) (i : ℕ) → i % 2 ≡ 0 → least_of (greatest_at_lem n W (opposite i)) ≡ hub_bound_lem n W i
unfolding hub_bound_lem
bound_least n W i e = rw (eq-eqb (i % 2) 0 e) (ap (λ (p : ℕ). least_of (greatest_at_lem n W p)) (least_point i e))

pub bound_greatest : (n : ℕ) (W : Weights) (i : ℕ) → (i % 2 ≡ 0 → ⊥) → stored (greatest_at_lem n W (opposite i)) ≡ hub_bound_lem n W i
unfolding hub_bound_lem
bound_greatest n W i e = rw (ne_eqb (i % 2) 0 e) (ap (λ (p : ℕ). greatest_of (greatest_at_lem n W p)) (greatest_point i e))

-- ---- two more numbers of the groups
own_variable : (x : ℕ) → x ≡ own_group (2 * x)
unfolding own_group
own_variable x =
    let a : 2 * x % 2 ≡ 0 = omega arith in
    let b : 2 * x / 2 ≡ x = omega arith in
    rw (eq-eqb (2 * x % 2) 0 a) (sym b)

own_sign : (x : ℕ) → 0 ≡ own_group (2 * x + 1)
unfolding own_group
own_sign x = let a : (2 * x + 1) % 2 ≡ 0 → ⊥ = λ e. omega arith in rw (ne_eqb ((2 * x + 1) % 2) 0 a) refl

pub own_filled : (d : List ℕ) (x : ℕ) → 2 * x + 1 < length d → set (set (filled own_group d (2 * x)) (2 * x) x) (2 * x + 1) 0 ≡ filled own_group d (2 * (x + 1))
own_filled d x h =
    let z : 2 * x + 1 + 1 ≡ 2 * (x + 1) = omega arith in
    ap (λ (l : List ℕ). set l (2 * x + 1) 0) (filled_more own_group d (2 * x) x (omega arith) (own_variable x))
    ∙ filled_more own_group d (2 * x + 1) 0 h (own_sign x)
    ∙ ap (filled own_group d) z

-- ---- whether the answers are read off
module _ (n : ℕ) (W : Weights) where
  abbrev hub_ok : Bool
  hub_ok = not_below0 (hub_limit_lem n W 0 ⊞ hub_limit_lem n W 1)

  pub not_sound : all_sound_lem n W ≡ false → false ≡ answerable n W
  unfolding answerable
  not_sound e = sym (ap (λ (t : Bool). t && (hub_ok && all_loose_lem n W (hub_value n W))) e)

  pub loose_decides : all_sound_lem n W ≡ true → hub_ok ≡ true → all_loose_lem n W (hub_value n W) ≡ answerable n W
  unfolding answerable
  loose_decides e h = sym (ap₂ (λ (s t : Bool). s && (t && all_loose_lem n W (hub_value n W))) e h)

  pub no_hub : all_sound_lem n W ≡ true → hub_ok ≡ false → false ≡ answerable n W
  unfolding answerable
  no_hub e h = sym (ap₂ (λ (s t : Bool). s && (t && all_loose_lem n W (hub_value n W))) e h)

-- the hub's greatest value is below its least
pub below_least : (z : ℤ) → lt_z z (pos 0) ≡ true → le_z (pos 0) z ≡ false
below_least z = simp ints (omega arith)

pub not_below_least : (z : ℤ) → lt_z z (pos 0) ≡ false → le_z (pos 0) z ≡ true
not_below_least z = simp ints (omega arith)
