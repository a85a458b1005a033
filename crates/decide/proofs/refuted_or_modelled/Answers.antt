-- `decide::refuted_or_modelled` meets its contract: the search refutes the list, or leaves the table from which the model is written.
use Rattle.decide.specs.Searched.{part_is}
use Rattle.decide.specs.Modelled.{refuted_only, model_asked, modelled}
use Rattle.decide.proofs.refuted_or_modelled.Goals as goal

pub returns-then-refuted : goal.returns-then-refuted
returns-then-refuted c =
    refuted_only _ _ _ _ _ c.requires _ _ c.refuted.ensures c.if-refuted.true

-- no refutation was found
pub write_model-requires : goal.write_model-requires
write_model-requires c =
    rw (part_is c.args.n) (model_asked _ _ _ _ _ c.requires _ _ (rw c.if-refuted.false at c.refuted.ensures))

pub returns : goal.returns
returns c =
    modelled _ _ _ _ _ c.requires _ _ (rw c.if-refuted.false at c.refuted.ensures) _ (rw (part_is c.args.n) at c.write_model.ensures)
