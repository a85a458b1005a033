-- `session_state::head_ok` meets its contract.
use Rattle.std.proofs.lemmas.Grind.{common_steps}
use native.Mathlib.Omega.{arith}
use Rattle.session_state.specs.State.{head_ok_lem}
use Rattle.session_state.proofs.head_ok.Goals.{then-state-ge-HEAD_SIZE, else-state-ge-HEAD_SIZE, then-between, else-between, then-between-2, else-between-2}
use Rattle.session_state.proofs.head_ok.Goals as goal

-- one of the tests but the last fails
pub returns-else-between-3 : goal.returns-else-between-3
unfolding head_ok_lem
returns-else-between-3 c =
    elim c.if-state-ge-HEAD_SIZE.branch [
      | then-state-ge-HEAD_SIZE u ↦
          elim c.if-between.branch [
            | then-between v ↦ elim c.if-between-2.branch [ then-between-2 w ↦ grind (arith, common_steps) | else-between-2 w ↦ grind (arith, common_steps) ]
            | else-between v ↦ elim c.if-between-2.branch [ then-between-2 w ↦ grind (arith, common_steps) | else-between-2 w ↦ grind (arith, common_steps) ]
          ]
      | else-state-ge-HEAD_SIZE u ↦ grind (arith, common_steps)
    ]
