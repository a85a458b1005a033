-- What `tree_reading::read_all_of` and `tree_reading::read_any_of`, which call each other one level down, keep in their loops. The measure of both is the levels left.
use Prim.Native.Nat.{◌-◌}
use Rattle.tree_reading.specs.declared.Kind.TheVariants.{AllOf, AnyOf}
use Rattle.tree_reading.specs.Running.{Running}
use Rattle.tree_reading.proofs.+read_all_of_read_any_of.Given as goal

abbrev pub decreases-read_all_of : goal.decreases-read_all_of
decreases-read_all_of l = l.depth

abbrev pub decreases-read_any_of : goal.decreases-read_any_of
decreases-read_any_of l = l.depth

abbrev pub invariant-read_all_of-loop : goal.invariant-read_all_of-loop
invariant-read_all_of-loop l = Running l.numbers l.lines l.depth AllOf l.at (l.count - l.counter) l.node

abbrev pub invariant-read_any_of-loop : goal.invariant-read_any_of-loop
invariant-read_any_of-loop l = Running l.numbers l.lines l.depth AnyOf l.at (l.count - l.counter) l.node
