-- Where the engine for differences works in the lent work area: at its front the rows 0 to n, or the table of distances; behind these the step numbers of a
-- walk, or a number of each variable; and behind these the walk's points.
use Rattle.std.specs.Prelude.{ℕ, ◌+◌, ◌*◌, ◌≤◌}
use Rattle.std.proofs.Common.{mul-le-mul_right, arith}
use Rattle.decide_buffers.specs.Room.{differences_work_room_lem}
use Rattle.decide_rows.specs.Table.{table_start}

abbrev pub walk_at_lem : ℕ → ℕ
walk_at_lem n = table_start n

abbrev pub points_at_lem : ℕ → ℕ
points_at_lem n = walk_at_lem n + n

abbrev pub plain_end : ℕ → ℕ
plain_end n = points_at_lem n + n + 1

-- the named room is enough
pub plain_room : (n : ℕ) → plain_end n ≤ differences_work_room_lem n
plain_room n = omega arith

-- row j ends before the walk, if it is no later than row n
pub row_before : (n j : ℕ) → j ≤ n → j * n + n ≤ walk_at_lem n
row_before n j h = omega (arith, mul-le-mul_right n h)
