-- The number nearest zero between two stored ends.
use Rattle.std.specs.Prelude.{◌≡◌, refl, true, false, ℤ, pos, neg_ℤ}
use Rattle.std.proofs.Math.Path.{sym, ap}
use Rattle.std.proofs.Common.{◌∙◌, arith}
use Rattle.std.specs.Int.Signed.{lt_z}
use Rattle.integers.specs.Integer.{max_z}
use Rattle.integers.proofs.Linear.{ints}
use Rattle.theory_walks.specs.Distance.{Distance, none, some, min_d}
use Rattle.theory_bounds.specs.Near.{above, at_most, near}
use Rattle.decide_rows.specs.Stored.{stored}
use Rattle.decide_rows.specs.Read.{no_walk_lem, distance_of, of_none, of_some}

-- the smaller of the upper end and 0
high_is : (u : Distance) → stored (min_d u (some (pos 0))) ≡ at_most u (pos 0)
unfolding at_most
high_is none = refl
high_is (some u) = refl

zero_back : distance_of (pos 0) ≡ some (pos 0)
unfolding distance_of
zero_back = refl

pub high_back : (u h : ℤ) → h ≡ stored (min_d (distance_of u) (distance_of (pos 0))) → h ≡ at_most (distance_of u) (pos 0)
high_back u h e = e ∙ ap (λ (d : Distance). stored (min_d (distance_of u) d)) zero_back ∙ high_is (distance_of u)

module _ (u l h : ℤ) (e : h ≡ at_most (distance_of u) (pos 0)) where
  -- no lower end
  pub near_none : l ≡ no_walk_lem → h ≡ near (distance_of u) (distance_of l)
  unfolding near above
  near_none q = e ∙ sym (ap (λ (d : Distance). above d (at_most (distance_of u) (pos 0))) (of_none l q))

  near_some : (l ≡ no_walk_lem → ⊥) → max_z (neg_ℤ l) h ≡ near (distance_of u) (distance_of l)
  unfolding near above
  near_some q = ap (max_z (neg_ℤ l)) e ∙ sym (ap (λ (d : Distance). above d (at_most (distance_of u) (pos 0))) (of_some l q))

  pub near_low_end : (l ≡ no_walk_lem → ⊥) → lt_z h (neg_ℤ l) ≡ true → neg_ℤ l ≡ near (distance_of u) (distance_of l)
  near_low_end q t = first (neg_ℤ l) h t ∙ near_some q
    where
      first : (a b : ℤ) → lt_z b a ≡ true → a ≡ max_z a b
      first a b = simp ints (omega arith)

  pub near_high_end : (l ≡ no_walk_lem → ⊥) → lt_z h (neg_ℤ l) ≡ false → h ≡ near (distance_of u) (distance_of l)
  near_high_end q t = second (neg_ℤ l) h t ∙ near_some q
    where
      second : (a b : ℤ) → lt_z b a ≡ false → b ≡ max_z a b
      second a b = simp ints (omega arith)
