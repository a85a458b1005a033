-- `engine_reduced_table::lower_entry` meets its contract.
use mir.Facts.{to_z-of_z}
use Rattle.engine_reduced_table.specs.Reduced.{kept_set, kept_none}
use Rattle.engine_reduced_table.proofs.lower_entry.Goals as goal

pub returns-then-z-old : goal.returns-then-z-old
returns-then-z-old c =
    rw (to_z-of_z c.ranges.z) (kept_set c.requires.ask.reduced c.args.i c.args.j c.requires.ask.i_lt c.requires.ask.k_lt c.args.z c.requires.by)

pub returns-else-z-old : goal.returns-else-z-old
returns-else-z-old c = kept_none c.requires.ask.reduced
