-- Where the chosen values are within the halves, the limit of a point needs no tightened distance: the half of the point and the distances
-- themselves give it.
use Rattle.std.specs.Prelude.{◌≡◌, refl, ◌⊎◌, List, ℕ, ℤ, neg_ℤ, ◌+ℤ◌}
use Rattle.std.proofs.Common.{inl, inr, arith}
use Rattle.integers.specs.Integer.{◌⩽◌}
use Rattle.integers.proofs.Linear.{ints}
use Rattle.lines.specs.Line.{Assignment}
use Rattle.steps.specs.Point.{opposite, value, value_opposite}
use Rattle.theory_walks.specs.Distance.{Up, Below, up_mono, eq_of_up}
use Rattle.theory_bounds.specs.Points.{variable_of}
use Rattle.theory_bounds.specs.Tight.{Table, halves, tight, ByHalves, one_of, tighter}
use Rattle.theory_bounds.specs.Extend.{Among, among_opposite, limit, Reason, own, via, limit_reason, reason_limit}

-- By halves, T p q is h p + h of the opposite of q. The value of that opposite is at most its half: so h p alone says as much.
pub limit_untightened : (D : Table) (s : Assignment) (done : List ℕ) → ((q : ℕ) → Among (variable_of q) done → Below (value s q) (halves D q))
    → (p : ℕ) → limit (tight D) (halves D) s done p ≡ limit D (halves D) s done p
unfolding tight halves
limit_untightened D s done inside p =
    eq_of_up _ _ (λ a u. to a (limit_reason (tight D) (halves D) s done p a u)) (λ a u. back a (limit_reason D (halves D) s done p a u))
  where
    less : (x y b v w a : ℤ) → w ≡ neg_ℤ v → x +ℤ y ⩽ b → w ⩽ y → b +ℤ v ⩽ a → x ⩽ a
    less x y b v w a = simp ints (omega arith)

    to : (a : ℤ) → Reason (tight D) (halves D) s done p a → Up (limit D (halves D) s done p) a
    to a (own u) = reason_limit (own u)
    to a (via q b i u l) = go (one_of D (tight D) (halves D) (λ i. refl) (λ i j. refl) u)
      where
        go : Up (D p q) b ⊎ ByHalves (halves D) p q b → Up (limit D (halves D) s done p) a
        go (inl d) = reason_limit (via q b i d l)
        go (inr (x, y, hp, hq, le)) =
            reason_limit (own (up_mono hp (less x y b (value s q) (value s (opposite q)) a (value_opposite s q) le (inside (opposite q) (among_opposite q done i) y hq) l)))

    back : (a : ℤ) → Reason D (halves D) s done p a → Up (limit (tight D) (halves D) s done p) a
    back a (own u) = reason_limit (own u)
    back a (via q b i u l) = reason_limit (via q b i (tighter D (tight D) (halves D) (λ i. refl) (λ i j. refl) u) l)
