-- What the code keeps while it reads records.
use Rattle.std.specs.Prelude.{◌≡◌, Bool, true, false, List}
use Rattle.std.proofs.Common.{arith}
use Prim.Native.Nat.{ℕ, suc, ◌+◌, ◌*◌, ◌<◌, ◌≤◌}
use Rattle.std.proofs.Math.ListN.{length}
use Rattle.lines.specs.Limits.{line_size}
use Rattle.file_records.specs.declared.Cursor.{Cursor}
use Rattle.file_records.specs.Scan.{start, scan_from}
use Rattle.file_records.specs.Laid.{place_least, Placed, Reached}

-- what is kept of a cursor, so that no sum overflows
pub record InFile (b : List ℕ) (c : Cursor) : Type 0 where
  pub at : c.at ≤ length b
  pub lines : line_size * c.lines ≤ c.at

pub reached_in : (b : List ℕ) (room : ℕ) (c : Cursor) → Reached b room c → InFile b c
reached_in b room c h = record { at = h.within; lines = go c.begun h.placed }
  where
    go : (t : Bool) → Placed b t c → line_size * c.lines ≤ c.at
    go false p = omega arith
    go true p = omega (arith, place_least b c.lines p.1.lines)

-- ---- reading on
-- what is kept between two records: enough turns are left, and they lead where all of them lead
pub record Running (b : List ℕ) (room : ℕ) (c : Cursor) : Type 0 where
  pub reached : Reached b room c
  pub turns : ℕ
  pub enough : length b < c.at + turns
  pub same : scan_from turns b room c ≡ scan_from (suc (length b)) b room start
