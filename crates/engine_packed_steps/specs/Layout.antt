-- Where the engine works in the lent work area: the steps stand at its front, before the table of distances; behind the
-- table the numbers of walks, and behind these what is lent out here.
use Rattle.std.specs.Prelude.{ℕ, ◌+◌, ◌*◌, ◌≤◌}
use Rattle.std.proofs.Common.{mul-le-mul_right, arith}
use Rattle.lines.specs.Limits.{max_variables}
use Rattle.decide_rows.specs.Table.{table_start}

-- behind the table: the numbers of a walk, one for each point
abbrev pub walks_at : ℕ → ℕ
walks_at n = table_start (2 * n) + 2 * n * (2 * n)

-- behind the walks: a row with a number of each point, and behind it a mark of each
abbrev pub row_at : ℕ → ℕ
row_at n = walks_at n + 2 * n

-- behind row and marks: the place of each variable, the variable at each place, and how many steps each variable has
abbrev pub places_at : ℕ → ℕ
places_at n = row_at n + 2 * (2 * n)

-- behind these: the numbers of points, a row to copy to, and the table on reduced weights
abbrev pub points_at_lem : ℕ → ℕ
points_at_lem n = places_at n + 3 * n

-- the numbers in a row of that table: some more than points, so that the entries of a column do not meet in the cache
abbrev pub row_width : ℕ → ℕ
row_width size = size + 8

-- where all of it ends: behind that table two rows more, for the order of rounds
abbrev pub engine_end : ℕ → ℕ
engine_end n = points_at_lem n + 2 * (2 * n) + 2 * n * row_width (2 * n) + 2 * (2 * n)

-- none of these comes near 64 bits
pub square_small : (n : ℕ) → n ≤ max_variables → n * n ≤ max_variables * max_variables
square_small n h = let a : n * n ≤ max_variables * n = mul-le-mul_right n h in omega (arith, a, h)
