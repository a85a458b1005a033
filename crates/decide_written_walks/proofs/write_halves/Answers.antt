-- `decide_written_walks::write_halves` meets its contract: the two walks are written one behind the other, then the head.
use Rattle.decide_written_walks.specs.Refutation.{first_ready, second_ready, halves_written}
use Rattle.decide_written_walks.proofs.write_halves.Goals as goal

pub write_walk-first-requires : goal.write_walk-first-requires
write_walk-first-requires c =
    rw c.opposite_of-q.ensures (first_ready _ _ _ _ _ c.requires)

pub write_walk-second-requires : goal.write_walk-second-requires
write_walk-second-requires c =
    rw c.opposite_of-q.ensures (second_ready _ _ _ _ _ c.requires _ _ _ (rw c.opposite_of-q.ensures at c.write_walk-first.ensures))

pub returns : goal.returns
returns c =
    halves_written _ _ _ _ _ c.requires _ _ _ (rw c.opposite_of-q.ensures at c.write_walk-first.ensures) _ _ _ (rw c.opposite_of-q.ensures at c.write_walk-second.ensures) _ c.write_head.ensures
