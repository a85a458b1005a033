-- The numbers of a table that may hold anything: one that is beyond all distances is read as no walk. So whatever stands there, sums of what is read
-- fit; and a table of distances is read as it is.
use Rattle.std.specs.Prelude.{◌≡◌, refl, Bool, true, false, cond, List, ℕ, ◌+◌, ◌*◌, ◌≤◌, ℤ, pos, length}
use Rattle.std.proofs.Common.{arith}
use Rattle.integers.specs.Integer.{◌⩽◌, eq_z, is_within_lem}
use Rattle.integers.proofs.Linear.{ints}
use Rattle.integers.specs.Laws.{never, eq_z_true}
use Rattle.integers.proofs.Halving.{is_within, within_is}
use Rattle.lines.specs.Limits.{max_variables}
use Rattle.lines.specs.Line.{number}
use Rattle.theory_walks.specs.Distance.{Distance, none, some}
use Rattle.theory_bounds.specs.Tight.{Table}
use Rattle.decide_rows.specs.Stored.{stored}
use Rattle.decide_rows.specs.Read.{no_walk_lem, distance_of, Short, max_distance, short_more}
use Rattle.decide_stored_table.specs.Sum.{read_back}
use Rattle.decide_stored_table.specs.Table.{table_of, ShortTable}
use Rattle.theory_bounds.specs.Agree.{Agree}

unfoldable pub small_of : ℤ → Distance
small_of z = cond (is_within_lem max_distance z) (some z) none

-- N entries to a row; row v has the distances to v
abbrev pub small_table : ℕ → List ℤ → Table
small_table N t u v = small_of (number t (v * N + u))

pub record SizedTable (n : ℕ) (t : List ℤ) : Type 0 where
  pub variables : n ≤ max_variables
  pub size : length t ≡ 2 * n * (2 * n)

-- ---- one number
pub small_yes : (z : ℤ) → is_within_lem max_distance z ≡ true → z ≡ stored (small_of z)
unfolding small_of
small_yes z e = rw e refl

pub small_no : (z : ℤ) → is_within_lem max_distance z ≡ false → no_walk_lem ≡ stored (small_of z)
unfolding small_of
small_no z e = rw e refl

pub small_short : (z : ℤ) → Short max_distance (small_of z)
unfolding small_of
small_short z = go (is_within_lem max_distance z) refl
  where
    go : (b : Bool) → is_within_lem max_distance z ≡ b → Short max_distance (cond b (some z) none)
    go true e y q = let is : z ≡ y = (cc) in rw is at (is_within max_distance z e)
    go false e y q = never (cc)

pub small_back : (z : ℤ) → distance_of (stored (small_of z)) ≡ small_of z
small_back z = read_back (small_of z) (short_more (omega arith) (small_short z))

-- a distance is read as it is
pub small_is : (z : ℤ) → Short max_distance (distance_of z) → small_of z ≡ distance_of z
unfolding small_of distance_of
small_is z s = go (eq_z z no_walk_lem) refl s
  where
    far : (z : ℤ) → is_within_lem max_distance z ≡ true → z ≡ no_walk_lem → ⊥
    far z t e = clash z (is_within max_distance z t).high e
      where
        clash : (z : ℤ) → z ⩽ pos max_distance → z ≡ no_walk_lem → ⊥
        clash z = simp ints (omega arith)

    beyond : (b : Bool) → is_within_lem max_distance z ≡ b → z ≡ no_walk_lem → cond b (some z) none ≡ none
    beyond true t e = absurd (far z t e)
    beyond false t e = refl

    go : (b : Bool) → eq_z z no_walk_lem ≡ b → Short max_distance (cond b none (some z)) → cond (is_within_lem max_distance z) (some z) none ≡ cond b none (some z)
    go true e s = beyond (is_within_lem max_distance z) refl (eq_z_true z no_walk_lem e)
    go false e s = rw (within_is max_distance z (s z refl)) refl

-- ---- a table of distances
pub short_sized : (n : ℕ) (t : List ℤ) → ShortTable n t → SizedTable n t
short_sized n t a = record { variables = a.variables; size = a.size }

pub small_agree : (n : ℕ) (t : List ℤ) → ShortTable n t → Agree (2 * n) (small_table (2 * n) t) (table_of (2 * n) t)
small_agree n t a u v hu hv = small_is (number t (v * (2 * n) + u)) (a.short u v hu hv)
