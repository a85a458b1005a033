-- `check_shorter::shorter` meets its contract: the part that was chosen lies within its slice, so that it can be handed back.
use Rattle.std.proofs.Common.{sym, subst, ◌∙◌}
use Rattle.std.proofs.Math.Seq.{length-take-le}
use Rattle.check_shorter.specs.Laws.{Inside, part_inside}
use Rattle.check_shorter.proofs.shorter.Goals as goal

pub slice_bounds-result-end : goal.slice_bounds-result-end
slice_bounds-result-end c =
    sym (length-take-le _ _ (subst (Inside c.args.first.now c.args.second.now) (sym c.shorter_part.ensures ∙ c.in-OfFirst.is) (part_inside _ _ _ _)))

pub slice_bounds-result-end-in-OfSecond : goal.slice_bounds-result-end-in-OfSecond
slice_bounds-result-end-in-OfSecond c =
    sym (length-take-le _ _ (subst (Inside c.args.first.now c.args.second.now) (sym c.shorter_part.ensures ∙ c.in-OfSecond.is) (part_inside _ _ _ _)))
