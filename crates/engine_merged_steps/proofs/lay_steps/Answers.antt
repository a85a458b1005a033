-- `engine_merged_steps::lay_steps` meets its contract.
use native.Mathlib.Omega.{arith}
use Rattle.engine_merged_steps.specs.Merge.{written_laid}
use Rattle.engine_merged_steps.proofs.lay_steps.Goals as goal

pub write_steps-requires : goal.write_steps-requires
write_steps-requires c =
    record { few = c.requires.few; valid = c.requires.valid; few_lines = c.requires.few_lines; room = omega (arith, c.requires.room, c.all_laid.ensures c.if-all_laid.true) }

pub returns-then-all_laid : goal.returns-then-all_laid
returns-then-all_laid c =
    written_laid c.requires (c.all_laid.ensures c.if-all_laid.true) c.write_steps.ensures
