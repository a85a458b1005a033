-- What `tree_choices::choose_all_of` and `tree_choices::choose_any_of`, which call each other one level down, keep in their loops. The measure of both is the levels left.
use Prim.Native.Nat.{◌-◌}
use Rattle.tree_reading.specs.declared.Kind.TheVariants.{AllOf, AnyOf}
use Rattle.tree_choices.specs.Marking.{Marking}
use Rattle.tree_choices.proofs.+choose_all_of_choose_any_of.Given as goal

abbrev pub decreases-choose_all_of : goal.decreases-choose_all_of
decreases-choose_all_of l = l.depth

abbrev pub decreases-choose_any_of : goal.decreases-choose_any_of
decreases-choose_any_of l = l.depth

abbrev pub invariant-choose_all_of-loop : goal.invariant-choose_all_of-loop
invariant-choose_all_of-loop l = Marking l.tree l.lines l.depth AllOf l.at l.total l.choice l.fn.picked (l.count - l.counter) l.from l.rest l.nth l.picked

abbrev pub invariant-choose_any_of-loop : goal.invariant-choose_any_of-loop
invariant-choose_any_of-loop l = Marking l.tree l.lines l.depth AnyOf l.at l.total l.choice l.fn.picked (l.count - l.counter) l.from l.total l.nth l.picked
