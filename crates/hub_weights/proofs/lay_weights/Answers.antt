-- `hub_weights::lay_weights` meets its contract: no weights at first, then those of the steps.
use Rattle.hub_weights.specs.Weights.{ready_kept}
use Rattle.hub_weights.specs.Put.{weights_laid}
use Rattle.hub_weights.proofs.lay_weights.Goals as goal

pub put_steps-requires : goal.put_steps-requires
put_steps-requires c =
    ready_kept c.requires c.fill.ensures.scratch

pub returns : goal.returns
returns c =
    weights_laid c.requires c.fill.ensures c.put_steps.ensures
