-- Which numbers are distances: those that are read as they are. A table of such numbers has short distances, and the other way round.
use Rattle.std.specs.Prelude.{◌≡◌, refl, Bool, true, false, not, List, ℕ, ◌+◌, ◌*◌, ◌/◌, ◌%◌, ◌<◌, ◌≤◌, ℤ, length}
use Rattle.std.proofs.Common.{sym, ap, subst, ◌∙◌, mod-lt, div-add-mod', div-lt_iff_lt-mul, arith}
use Rattle.integers.specs.Integer.{eq_z}
use Rattle.integers.specs.Laws.{eq_eq_z, eq_z_true}
use Rattle.integers.specs.Table.{all_below, below_at, below_all}
use Rattle.integers.specs.Lowest.{first_failing_lem, lowest_at_most, none_fails}
use Rattle.lines.specs.Line.{number}
use Rattle.decide_rows.specs.Stored.{stored}
use Rattle.decide_rows.specs.Read.{distance_of, Short, max_distance, stored_of}
use Rattle.decide_stored_table.specs.Table.{ShortTable, entry_lt}
use Rattle.session_step.specs.Read.{small_of, SizedTable, small_short, small_back, small_is}
use Rattle.session_step.specs.Start.{positive}

-- ---- definitions
-- a number that is read as it is: a distance, or the one that stands for no walk
abbrev pub is_distance_lem : ℤ → Bool
is_distance_lem z = eq_z (stored (small_of z)) z

abbrev pub distance_at : List ℤ → ℕ → Bool
distance_at t i = is_distance_lem (number t i)

abbrev pub all_distances : List ℤ → Bool
all_distances t = all_below (length t) (distance_at t)

-- ---- a table of distances
module _ (n : ℕ) (t : List ℤ) where
  pub distances_short : SizedTable n t → all_distances t ≡ true → ShortTable n t
  distances_short sized all = record { variables = sized.variables; size = sized.size; short = λ u v hu hv. short (v * (2 * n) + u) (omega (arith, entry_lt (2 * n) v u hv hu, sized.size)) }
    where
      short : (i : ℕ) → i < length t → Short max_distance (distance_of (number t i))
      short i h =
          let same : stored (small_of (number t i)) ≡ number t i = eq_z_true _ _ (below_at (length t) (distance_at t) all i h) in
          let read : distance_of (number t i) ≡ small_of (number t i) = ap distance_of (sym same) ∙ small_back (number t i) in
          rw read (small_short (number t i))

  -- each number stands at the place of two points
  pub short_distances : ShortTable n t → all_distances t ≡ true
  short_distances ok = below_all (length t) (distance_at t) (λ i h. at i (omega (arith, h, ok.size)))
    where
      distance : (i : ℕ) → Short max_distance (distance_of (number t i)) → distance_at t i ≡ true
      distance i s = eq_eq_z _ _ (ap stored (small_is (number t i) s) ∙ stored_of (number t i))

      at : (i : ℕ) → i < 2 * n * (2 * n) → distance_at t i ≡ true
      at i h =
          let p = positive (2 * n) i h in
          distance i (subst (λ (j : ℕ). Short max_distance (distance_of (number t j))) (div-add-mod' i (2 * n)) (ok.short (i % (2 * n)) (i / (2 * n)) (mod-lt i p) ((div-lt_iff_lt-mul p).1 h)))

-- ---- the test of the code
module _ (t : List ℤ) where
  abbrev first : ℕ
  first = first_failing_lem (length t) (distance_at t)

  pub beyond_some : first < length t → all_distances t ≡ false
  beyond_some h = go (all_distances t) refl
    where
      go : (b : Bool) → all_distances t ≡ b → b ≡ false
      go true e = absurd (omega (arith, h, (none_fails (length t) (distance_at t)).1 e))
      go false e = refl

  pub beyond_none : length t ≤ first → all_distances t ≡ true
  beyond_none h = (none_fails (length t) (distance_at t)).0 (omega (arith, h, lowest_at_most (λ i. not (distance_at t i)) (length t)))
