-- `decide_written_walks::write_walk` meets its contract: a walk is found, and its numbers are copied.
use native.Mathlib.Omega.{arith}
use Rattle.decide_written_walks.specs.Written.{numbers_fit, numbers_small, walk_written}
use Rattle.decide_written_walks.proofs.write_walk.Goals as goal

pub copy_numbers-requires : goal.copy_numbers-requires
copy_numbers-requires c =
    let f = c.shortest_walk-count.ensures in
    (numbers_fit _ _ _ _ _ _ _ _ _ c.requires f, omega (arith, c.requires.room, f.few), numbers_small _ _ _ _ _ _ _ _ _ c.requires f)

pub returns : goal.returns
returns c =
    walk_written _ _ _ _ _ _ _ _ _ c.requires c.shortest_walk-count.ensures _ c.copy_numbers.ensures
