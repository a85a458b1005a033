-- Where no closed walk of at most N steps is negative, none of any length is, and `best` is the least sum over all walks: it is attained, it is 0
-- from a point to itself, it is at most every step, and it obeys the triangle inequality.
use Rattle.std.specs.Prelude.{◌≡◌, refl, List, [], ◌∷◌, ◌++◌, ℕ, zero, suc, ◌≤◌, ◌<◌, ℤ, pos, ◌+ℤ◌, length}
use Rattle.std.proofs.Common.{◌∙◌, ap, arith, length-append}
use Rattle.std.proofs.Math.Decide.{dec_le}
use Rattle.integers.specs.Integer.{◌⩽◌}
use Rattle.integers.proofs.Linear.{ints}
use Rattle.steps.specs.declared.Step.{Step}
use Rattle.steps.specs.Walk.{total, total_append}
use Rattle.theory_walks.specs.Distance.{Distance, none, some, ◌⊑◌, ◌⊞◌, ⊑_trans, ⊑_of_eq, ⊑_anti, le_some, some_le, le_none, le_refl, le_trans}
use Rattle.theory_walks.specs.Row.{WithinPoints, best}
use Rattle.theory_walks.specs.Reach.{Walk, Reaches, walk_none, walk_append, walk_start, row_attained, row_least, row_range}
use Rattle.theory_walks.specs.Pigeon.{Split, split}

-- ---- what `best` is without further ado: the least sum of the walks with at most N steps
pub best_attained : (E : List Step) (N u v : ℕ) (z : ℤ) → best E N u v ≡ some z → Reaches E u v N z
unfolding best
best_attained E N u v z e = row_attained E N u N v z e

pub best_short : (E : List Step) (N : ℕ) → WithinPoints N E → (u v : ℕ) → u < N → (ss : List Step) → Walk E u ss v → length ss ≤ N → best E N u v ⊑ some (total ss)
unfolding best
best_short E N within u v h ss w c = row_least E N within u N v h ss w c

pub best_range : (E : List Step) (N u v : ℕ) (z : ℤ) → best E N u v ≡ some z → (u < N) × (v < N)
unfolding best
best_range E N u v z e = row_range E N u N v z e

-- no distance from a point to itself is negative
abbrev pub NoneNegative : List Step → ℕ → Type 0
NoneNegative E N = (u : ℕ) → u < N → some (pos 0) ⊑ best E N u u

-- a walk from u to v with at most N steps and of a sum of at most z
pub record Short (E : List Step) (N u v : ℕ) (z : ℤ) : Type 0 where
  pub steps : List Step
  pub walk : Walk E u steps v
  pub count : length steps ≤ N
  pub less : total steps ⩽ z

loosen : {E : List Step} {N u v : ℕ} {y z : ℤ} → y ⩽ z → Short E N u v y → Short E N u v z
loosen h r = record { steps = r.steps; walk = r.walk; count = r.count; less = le_trans r.less h }

-- a walk with its closed part taken out has fewer steps
pub cut_length : {E : List Step} {N u v : ℕ} {ss : List Step} (s : Split E N u v ss) → length (s.before ++ s.after) < length ss
cut_length s =
    omega (arith, s.nonempty, length-append s.before s.after, length-append s.before (s.closed ++ s.after), length-append s.closed s.after, ap length s.joined)

-- and a sum that is no larger, if the closed part is not negative
pub cut_sum : {E : List Step} {N u v : ℕ} {ss : List Step} (s : Split E N u v ss) → pos 0 ⩽ total s.closed → total (s.before ++ s.after) ⩽ total ss
cut_sum {ss} s h = rw (total_append s.before s.after, parts) (leave_out (total s.before) (total s.closed) (total s.after) h)
  where
    leave_out : (a c b : ℤ) → pos 0 ⩽ c → a +ℤ b ⩽ a +ℤ (c +ℤ b)
    leave_out a c b = simp ints (omega arith)

    parts : total ss ≡ total s.before +ℤ (total s.closed +ℤ total s.after)
    parts = ap total s.joined ∙ total_append s.before (s.closed ++ s.after) ∙ ap (◌+ℤ◌ (total s.before)) (total_append s.closed s.after)

module _ (E : List Step) (N : ℕ) (within : WithinPoints N E) (nonneg : NoneNegative E N) where
  -- by induction on a bound of the number of steps
  shorten_by : (m u v : ℕ) (ss : List Step) → Walk E u ss v → length ss ≤ m → Short E N u v (total ss)
  shorten_by zero u v ss w l = record { steps = ss; walk = w; count = omega arith; less = le_refl _ }
  shorten_by (suc m) u v ss w l = go (dec_le (length ss) N) (shorten_by m u v)
    where
      closed_few : (s : Split E N u v ss) → pos 0 ⩽ total s.closed
      closed_few s =
          let h = walk_start E N within s.point s.point s.closed s.walk_closed s.nonempty in
          le_some (⊑_trans (nonneg s.point h) (best_short E N within s.point s.point h s.closed s.walk_closed s.few))

      go : Dec (length ss ≤ N) → ((ts : List Step) → Walk E u ts v → length ts ≤ m → Short E N u v (total ts)) → Short E N u v (total ss)
      go (yes c) fewer = record { steps = ss; walk = w; count = c; less = le_refl _ }
      go (no c) fewer =
          let s = split E N within u v ss w (omega arith) (omega arith) in
          let q = walk_append s.point s.before s.after s.walk_before s.walk_after in
          loosen (cut_sum s (closed_few s)) (fewer (s.before ++ s.after) q (omega (arith, cut_length s)))

  -- any walk can be shortened to at most N steps, with no larger sum
  pub shorten : (u v : ℕ) (ss : List Step) → Walk E u ss v → Short E N u v (total ss)
  shorten u v ss w = shorten_by (length ss) u v ss w (omega arith)

  -- `best` is at most the sum of every walk
  pub best_least : (u v : ℕ) → u < N → (ss : List Step) → Walk E u ss v → best E N u v ⊑ some (total ss)
  best_least u v h ss w =
      let r = shorten u v ss w in
      ⊑_trans (best_short E N within u v h r.steps r.walk r.count) (some_le r.less)

  -- no closed walk is negative
  pub closed_nonneg : (u : ℕ) (ss : List Step) → Walk E u ss u → pos 0 ⩽ total ss
  closed_nonneg u [] w = le_refl _
  closed_nonneg u (s ∷ ss) w =
      let h = walk_start E N within u u (s ∷ ss) w (omega arith) in
      le_some (⊑_trans (nonneg u h) (best_least u u h (s ∷ ss) w))

  pub best_self : (u : ℕ) → u < N → best E N u u ≡ some (pos 0)
  best_self u h = ⊑_anti (best_least u u h [] (walk_none u)) (nonneg u h)

  -- the triangle inequality, at all numbers: beyond N there is no distance
  pub best_triangle : (i j k : ℕ) → best E N i k ⊑ best E N i j ⊞ best E N j k
  best_triangle i j k = go (best E N i j) refl (best E N j k) refl
    where
      go : (a : Distance) → best E N i j ≡ a → (b : Distance) → best E N j k ≡ b → best E N i k ⊑ a ⊞ b
      go none e b f = le_none _
      go (some a) e none f = le_none _
      go (some a) e (some b) f =
          let x = best_attained E N i j a e in
          let y = best_attained E N j k b f in
          ⊑_trans (best_least i k (best_range E N i j a e).0 (x.steps ++ y.steps) (walk_append j x.steps y.steps x.walk y.walk))
          (⊑_of_eq (rw (total_append, x.sum, y.sum)))
