-- `decide::refute_by_halves` meets its contract: the walks are found at once, or else by rows.
use mathlib.Core.Path.{subst}
use mathlib.Core.Bool.{Bool, false}
use Rattle.engine_halves_walks.specs.Halves.{HalvesAtOnce, halves_after, halves_written_after}
use Rattle.decide.proofs.refute_by_halves.Goals.{Else-halves_at_once}
use Rattle.decide.proofs.refute_by_halves.Goals as goal

pub returns-then-halves_at_once : goal.returns-then-halves_at_once
returns-then-halves_at_once c = rw c.if-halves_at_once.true at c.halves_at_once.ensures

-- not at once
module _ (not : Else-halves_at_once) where
  nothing : HalvesAtOnce not.args.n not.args.list.now not.args.refutation.now not.args.work.now not.halves_at_once.new.refutation not.halves_at_once.new.work false
  nothing =
      subst (λ (b : Bool). HalvesAtOnce not.args.n not.args.list.now not.args.refutation.now not.args.work.now not.halves_at_once.new.refutation not.halves_at_once.new.work b)
      not.if-halves_at_once.false not.halves_at_once.ensures

pub write_halves-requires : goal.write_halves-requires
write_halves-requires c =
    halves_after (nothing (goal.at.write_halves-requires c).Else-halves_at_once) c.requires.0

pub returns : goal.returns
returns c =
    halves_written_after (nothing (goal.at.returns c).Else-halves_at_once) c.write_halves.ensures
