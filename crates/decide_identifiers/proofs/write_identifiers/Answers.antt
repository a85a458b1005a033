-- `decide_identifiers::write_identifiers` meets its contract: one identifier more is written each time.
use Rattle.std.specs.Prelude.{List, ℕ, set}
use Rattle.std.proofs.Common.{ap, ◌∙◌, arith}
use Rattle.integers.specs.Fill.{filled_more}
use Rattle.decide_identifiers.proofs.write_identifiers.Goals as goal

pub loop-i-preserved : goal.loop-i-preserved
loop-i-preserved c =
    ap (λ (l : List ℕ). set l c.loop-i.i c.identifier_of.result) c.loop-i.invariant
    ∙ filled_more _ c.args.identifiers.now c.loop-i.i _ (omega (arith, c.requires.1)) c.identifier_of.ensures
