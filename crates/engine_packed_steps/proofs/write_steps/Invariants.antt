-- What the loops of `engine_packed_steps::write_steps` keep.
use Prim.Native.Nat.{◌-◌}
use Rattle.engine_packed_steps.specs.Written.{Writing}
use Rattle.engine_packed_steps.proofs.write_steps.Given as goal

-- `engine_packed_steps::write_steps` meets its contract. The invariant: the steps with the numbers gone through are written.
abbrev pub invariant-loop-number : goal.invariant-loop-number
invariant-loop-number l = Writing l.n l.list l.initial.work l.work l.number l.kept
