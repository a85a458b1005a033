-- Rows that begin with 0 everywhere: an entry of row k is the least sum of the walks to its point, from anywhere, with at most k steps. A row that a round
-- does not change is a potential. An entry that round k changed is made by a walk of exactly k steps, and every closed part of that walk is negative.
use Rattle.std.specs.Prelude.{◌≡◌, ◌⊎◌, true, ℕ, zero, suc, ◌*◌, ◌<◌, ℤ, ◌+ℤ◌, length, replicate}
use Rattle.std.proofs.Math.Path.{refl}
use Rattle.std.proofs.Common.{sym, ap, ◌∙◌, inl, inr, mul-le-mul_right, arith}
use mathlib.Core.List.{List, ◌++◌}
use Rattle.std.proofs.Math.IntN.{pos}
use Rattle.std.proofs.Math.ListN.{length-replicate}
use Rattle.std.proofs.lemmas.List.{get_or-replicate}
use Rattle.integers.specs.Integer.{◌⩽◌, ◌⋖◌, Within}
use Rattle.integers.proofs.Linear.{ints}
use Rattle.steps.specs.declared.Step.{Step}
use Rattle.steps.specs.Walk.{total}
use Rattle.theory_walks.specs.Distance.{Distance, some, ◌⊑◌, ◌⊕◌, ⊑_trans, ⊑_of_eq, ⊑_anti, some_le, le_some, le_or, up_at, up_inv, up_of_le}
use Rattle.theory_walks.specs.Row.{In, WithinPoints, at, relax_row, rounds, Along, at_lt, some_is, relax_le, relax_step_law, relax_one, rounds_length, rounds_suc}
use Rattle.theory_walks.specs.Reach.{walk_append, rounds_attained, rounds_least}
use Rattle.theory_walks.specs.Pigeon.{Split}
use Rattle.theory_walks.specs.Least.{cut_length, cut_sum}
use Rattle.theory_walks.specs.Negative.{no_negative}
use Rattle.theory_walks.specs.Size.{WithinWeights, within_more, total_within}
use Rattle.theory_covering.specs.Potential.{Potential, potential_clear}

-- 0 at each of N points
abbrev pub zero_row : ℕ → List Distance
zero_row N = replicate N (some (pos 0))

unfoldable pub zero_at : List Step → ℕ → ℕ → List Distance
zero_at E N k = rounds E k (zero_row N)

pub zero_entry : (N p : ℕ) → p < N → at (zero_row N) p ≡ some (pos 0)
zero_entry N p h = get_or-replicate N p (some (pos 0)) _ h

-- an entry that is a number in the first row is 0
zero_is : (N p : ℕ) (z : ℤ) → at (zero_row N) p ≡ some z → z ≡ pos 0
zero_is N p z e = some_is (sym e ∙ zero_entry N p (rw (length-replicate N (some (pos 0))) at (at_lt (zero_row N) p z e)))

module _ (E : List Step) (N : ℕ) where
  pub zero_first : zero_at E N 0 ≡ zero_row N
  unfolding zero_at rounds
  zero_first = refl

  pub zero_next : (k : ℕ) → zero_at E N (suc k) ≡ relax_row E (zero_at E N k)
  unfolding zero_at
  zero_next k = rounds_suc E k (zero_row N)

  pub zero_length : (k : ℕ) → length (zero_at E N k) ≡ N
  unfolding zero_at
  zero_length k = rounds_length E k (zero_row N) ∙ length-replicate N (some (pos 0))

  -- every entry is a number
  pub zero_some : (k p : ℕ) → p < N → (z : ℤ) × (at (zero_at E N k) p ≡ some z)
  zero_some zero p h = (pos 0, ap (λ (r : List Distance). at r p) zero_first ∙ zero_entry N p h)
  zero_some (suc k) p h =
      let b = zero_some k p h in
      let u = up_inv (up_of_le (⊑_trans (⊑_of_eq (ap (λ (r : List Distance). at r p) (zero_next k))) (⊑_trans (relax_le E (zero_at E N k) p) (⊑_of_eq b.1))) b.0 (up_at b.0)) in
      (u.0, u.1)

  -- and small
  pub zero_within : (w : ℕ) → WithinWeights w E → (k p : ℕ) (z : ℤ) → at (zero_at E N k) p ≡ some z → Within (k * w) z
  unfolding zero_at
  zero_within w small k p z e =
      let r = rounds_attained E k (zero_row N) p z e in
      let b = zero_is N r.start r.base r.begins in
      let s : total r.steps ≡ z = none r.base (total r.steps) z b r.sum in
      within_more (mul-le-mul_right w r.count) (rw s at (total_within w E small r.steps r.walk.steps))
    where
      none : (a t z : ℤ) → a ≡ pos 0 → a +ℤ t ≡ z → t ≡ z
      none a t z = simp ints (omega arith)

  -- ---- a row that a round does not change is a potential
  module _ (within : WithinPoints N E) (k : ℕ) (π : ℕ → ℤ) (is : (p : ℕ) → p < N → at (zero_at E N k) p ≡ some (π p)) (same : zero_at E N (suc k) ≡ zero_at E N k) where
    pub fixed_potential : Potential E π
    fixed_potential s i =
        let w = within s i in
        let h = relax_step_law E (zero_at E N k) s i (rw (zero_length k) w.1) in
        let e : at (relax_row E (zero_at E N k)) s.to ≡ some (π s.to) = ap (λ (r : List Distance). at r s.to) (sym (zero_next k) ∙ same) ∙ is s.to w.1 in
        le_some (⊑_trans (⊑_of_eq (sym e)) (⊑_trans h (⊑_of_eq (ap (λ (d : Distance). d ⊕ s.weight) (is s.from w.0)))))

    pub fixed_clear : no_negative E N ≡ true
    fixed_clear = potential_clear E π fixed_potential N

  -- ---- an entry that round k + 1 changed
  abbrev pub Changed : ℕ → ℕ → Type 0
  Changed k p = at (zero_at E N (suc k)) p ≡ at (zero_at E N k) p → ⊥

  -- comes along a step
  pub changed_along : (k p : ℕ) → Changed k p → Along E (zero_at E N k) p (at (zero_at E N (suc k)) p)
  changed_along k p c = rw (ap (λ (r : List Distance). at r p) (zero_next k)) (go (relax_one E (zero_at E N k) p))
    where
      go : (at (relax_row E (zero_at E N k)) p ≡ at (zero_at E N k) p) ⊎ Along E (zero_at E N k) p (at (relax_row E (zero_at E N k)) p) → Along E (zero_at E N k) p (at (relax_row E (zero_at E N k)) p)
      go (inl e) = absurd (c (ap (λ (r : List Distance). at r p) (zero_next k) ∙ e))
      go (inr a) = a

  module _ (within : WithinPoints N E) where
    -- and that step's start was changed by the round before: else the entry would have stood there already
    pub changed_before : (k : ℕ) (s : Step) → In s E → at (zero_at E N (suc (suc k))) s.to ≡ at (zero_at E N (suc k)) s.from ⊕ s.weight → Changed (suc k) s.to → Changed k s.from
    changed_before k s i e c same = c (⊑_anti later earlier)
      where
        later : at (zero_at E N (suc (suc k))) s.to ⊑ at (zero_at E N (suc k)) s.to
        later = ⊑_trans (⊑_of_eq (ap (λ (r : List Distance). at r s.to) (zero_next (suc k)))) (relax_le E (zero_at E N (suc k)) s.to)

        earlier : at (zero_at E N (suc k)) s.to ⊑ at (zero_at E N (suc (suc k))) s.to
        earlier =
            ⊑_trans (⊑_of_eq (ap (λ (r : List Distance). at r s.to) (zero_next k)))
            (⊑_trans (relax_step_law E (zero_at E N k) s i (rw (zero_length k) (within s i).1))
            (⊑_of_eq (ap (λ (d : Distance). d ⊕ s.weight) (sym same) ∙ sym e)))

    -- ---- a walk of k + 1 steps that makes it: without a closed part that is not negative, fewer steps would have made no less
    pub changed_negative : (k u v : ℕ) (ss : List Step) → u < N → Changed k v → at (zero_at E N (suc k)) v ≡ some (total ss) → length ss ≡ suc k → (s : Split E N u v ss) → total s.closed ⋖ pos 0
    unfolding zero_at
    changed_negative k u v ss h c e l s = go (le_or (pos 0) (total s.closed))
      where
        go : (pos 0 ⩽ total s.closed) ⊎ (total s.closed ⋖ pos 0) → total s.closed ⋖ pos 0
        go (inr low) = low
        go (inl high) = absurd (c (⊑_anti later earlier))
          where
            later : at (rounds E (suc k) (zero_row N)) v ⊑ at (rounds E k (zero_row N)) v
            later = ⊑_trans (⊑_of_eq (ap (λ (r : List Distance). at r v) (rounds_suc E k (zero_row N)))) (relax_le E (rounds E k (zero_row N)) v)

            earlier : at (rounds E k (zero_row N)) v ⊑ at (rounds E (suc k) (zero_row N)) v
            earlier =
                ⊑_trans (rounds_least E N within k (zero_row N) (length-replicate N (some (pos 0))) u v (s.before ++ s.after) (walk_append s.point s.before s.after s.walk_before s.walk_after) (omega (arith, cut_length s, l)))
                (⊑_trans (⊑_of_eq (ap (λ (d : Distance). d ⊕ total (s.before ++ s.after)) (zero_entry N u h)))
                (⊑_trans (some_le (plain (total (s.before ++ s.after)) (total ss) (cut_sum s high))) (⊑_of_eq (sym e))))
              where
                plain : (a b : ℤ) → a ⩽ b → pos 0 +ℤ a ⩽ b
                plain a b = simp ints (omega arith)
