-- Potentials: a number for each point, such that no step goes from a number to one that is larger by more than the weight. Where there is one, no
-- closed walk is negative.
use Rattle.std.specs.Prelude.{◌≡◌, refl, true, List, [], ◌∷◌, ℕ, ℤ, pos, ◌+ℤ◌}
use Rattle.std.proofs.Common.{arith}
use Rattle.integers.specs.Integer.{◌⩽◌}
use Rattle.integers.proofs.Linear.{ints}
use Rattle.steps.specs.declared.Step.{Step}
use Rattle.steps.specs.Walk.{total}
use Rattle.theory_walks.specs.Distance.{Distance, none, some, ◌⊑◌, some_le, le_none}
use Rattle.theory_walks.specs.Row.{In, best}
use Rattle.theory_walks.specs.Reach.{Walk, walk_rest}
use Rattle.theory_walks.specs.Least.{best_attained}
use Rattle.theory_walks.specs.Negative.{no_negative, no_negative_true}

abbrev pub Potential : List Step → (ℕ → ℤ) → Type 0
Potential E π = (s : Step) → In s E → π s.to ⩽ π s.from +ℤ s.weight

module _ (E : List Step) (π : ℕ → ℤ) (f : Potential E π) where
  potential_walk : (u v : ℕ) (ss : List Step) → Walk E u ss v → π v ⩽ π u +ℤ total ss
  potential_walk u v [] w = rw w.path (same (π v))
    where
      same : (a : ℤ) → a ⩽ a +ℤ pos 0
      same a = simp ints (omega arith)
  potential_walk u v (s ∷ ss) w =
      rw w.path.0 (chain (π s.from) (π s.to) (π v) s.weight (total ss) (f s w.steps.0) (potential_walk s.to v ss (walk_rest s ss w)))
    where
      chain : (x y z w t : ℤ) → y ⩽ x +ℤ w → z ⩽ y +ℤ t → z ⩽ x +ℤ (w +ℤ t)
      chain x y z w t = simp ints (omega arith)

  potential_closed : (u : ℕ) (ss : List Step) → Walk E u ss u → pos 0 ⩽ total ss
  potential_closed u ss w = cancel (π u) (total ss) (potential_walk u u ss w)
    where
      cancel : (z t : ℤ) → z ⩽ z +ℤ t → pos 0 ⩽ t
      cancel z t = simp ints (omega arith)

  pub potential_clear : (N : ℕ) → no_negative E N ≡ true
  potential_clear N = no_negative_true E N (λ u h. go u (best E N u u) refl)
    where
      go : (u : ℕ) (d : Distance) → best E N u u ≡ d → some (pos 0) ⊑ d
      go u none e = le_none _
      go u (some z) e =
          let r = best_attained E N u u z e in
          some_le (rw r.sum at (potential_closed u r.steps r.walk))
