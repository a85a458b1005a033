-- The loops over the points of the other variables: one point more, in the hub's limit and in a test of all of them.
use Rattle.std.specs.Prelude.{◌≡◌, refl, Bool, true, false, ◌&&◌, ℕ, suc, ◌+◌, ◌*◌, ◌-◌, ◌<◌, ◌≤◌, ℤ}
use Rattle.std.proofs.Common.{sym, ap, ◌∙◌, arith}
use Rattle.integers.specs.Laws.{never, both_true}
use Rattle.integers.specs.Table.{all_below, below_at}
use Rattle.theory_walks.specs.Distance.{min_d}
use Rattle.theory_hub.specs.Hub.{Weights, hub_points, own, leaves, limit_by_lem, others, sound, loose, all_sound_lem, all_loose_lem}

-- how many points of other variables are before p
abbrev pub others_before : ℕ → ℕ
others_before p = p - hub_points

one_more : (p : ℕ) → hub_points ≤ p → others_before (p + 1) ≡ suc (others_before p)
one_more p h = omega arith

this_point : (p : ℕ) → hub_points ≤ p → hub_points + others_before p ≡ p
this_point p h = omega arith

-- ---- the hub's limit
pub limit_none : (W : Weights) (g : ℕ) → own W g ≡ limit_by_lem W g (others_before hub_points)
unfolding limit_by_lem
limit_none W g = refl

pub limit_more : (W : Weights) (g p : ℕ) → hub_points ≤ p → min_d (limit_by_lem W g (others_before p)) (leaves W g p) ≡ limit_by_lem W g (others_before (p + 1))
unfolding limit_by_lem
limit_more W g p h = sym (ap (limit_by_lem W g) (one_more p h) ∙ ap (λ (q : ℕ). min_d (limit_by_lem W g (others_before p)) (leaves W g q)) (this_point p h))

-- ---- a test of all points
abbrev pub from_hub : (ℕ → Bool) → ℕ → Bool
from_hub t k = t (hub_points + k)

pub sound_is : (n : ℕ) (W : Weights) → all_sound_lem n W ≡ all_below (others n) (from_hub (sound W))
unfolding all_sound_lem
sound_is n W = refl

pub loose_is : (n : ℕ) (W : Weights) (v : ℤ) → all_loose_lem n W v ≡ all_below (others n) (from_hub (loose W v))
unfolding all_loose_lem
loose_is n W v = refl

module _ (t : ℕ → Bool) (p : ℕ) (h : hub_points ≤ p) where
  pub passes_more : all_below (others_before p) (from_hub t) ≡ true → t p ≡ true → all_below (others_before (p + 1)) (from_hub t) ≡ true
  passes_more e q =
      ap (λ (k : ℕ). all_below k (from_hub t)) (one_more p h)
      ∙ both_true (from_hub t (others_before p)) (all_below (others_before p) (from_hub t)) (ap t (this_point p h) ∙ q) e

  pub one_fails : (n : ℕ) → p < 2 * n → t p ≡ false → false ≡ all_below (others n) (from_hub t)
  one_fails n l e = go (all_below (others n) (from_hub t)) refl
    where
      go : (b : Bool) → all_below (others n) (from_hub t) ≡ b → false ≡ b
      go true q = let c : true ≡ false = sym (below_at (others n) (from_hub t) q (others_before p) (omega arith)) ∙ ap t (this_point p h) ∙ e in never (cc)
      go false q = refl

-- ---- two tests one after the other
pub second_test : (a b x : Bool) → a ≡ true → x ≡ b → x ≡ (a && b)
second_test a b x e q = q ∙ sym (ap (λ (t : Bool). t && b) e)

pub first_test : (a b : Bool) → a ≡ false → false ≡ (a && b)
first_test a b e = sym (ap (λ (t : Bool). t && b) e)
