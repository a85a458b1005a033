-- `decide_written_walks::shortest_walk` meets its contract: the rows of u, then the walk read back from them.
use mathlib.Core.Path.{refl}
use Rattle.decide_written_walks.specs.Shortest.{rows_stand, walk_found}
use Rattle.decide_written_walks.proofs.shortest_walk.Goals as goal

pub walk_back-requires : goal.walk_back-requires
walk_back-requires c =
    rows_stand _ _ _ _ _ c.requires _ _ c.rows-top.ensures _ refl

pub returns : goal.returns
returns c =
    walk_found _ _ _ _ _ c.requires _ _ c.rows-top.ensures _ refl _ _ c.walk_back.ensures
