-- `engine_merged_steps::merge_steps` meets its contract: the cells are cleared, the steps put there, and what stands there kept.
use native.Mathlib.Omega.{arith}
use Rattle.engine_merged_steps.specs.Merge.{merged_laid}
use Rattle.engine_merged_steps.proofs.merge_steps.Goals as goal

pub returns : goal.returns
returns c =
    merged_laid c.requires c.clear_cells.ensures c.put_steps.ensures c.keep_steps.ensures (omega arith) (omega arith)
