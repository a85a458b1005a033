-- What the loop of `decide_identifiers::write_identifiers` keeps: the first i identifiers are written.
use Rattle.std.specs.Prelude.{◌≡◌}
use Rattle.integers.specs.Fill.{filled}
use Rattle.decide_identifiers.specs.Identifiers.{identifier_of_lem, step_at}
use Rattle.decide_identifiers.proofs.write_identifiers.Given as goal

abbrev pub invariant-loop-i : goal.invariant-loop-i
invariant-loop-i l = l.identifiers ≡ filled (λ j. identifier_of_lem l.list (step_at l.refutation j)) l.initial.identifiers l.i
