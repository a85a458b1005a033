-- What the loops of `hub_weights::put_steps` keep.
use Rattle.hub_weights.specs.Put.{Going}
use Rattle.hub_weights.proofs.put_steps.Given as goal

-- `hub_weights::put_steps` meets its contract. The invariant: the steps with the numbers gone through are put.
abbrev pub invariant-loop-number : goal.invariant-loop-number
invariant-loop-number l = Going l.n l.list l.initial.work l.work l.number
