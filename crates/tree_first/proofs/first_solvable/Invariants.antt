-- What the loop of `tree_first::first_solvable` keeps: no choice before this one has a solution.
use Rattle.tree_deciding.specs.Answer.{tree_over}
use Rattle.tree_first.specs.Tried.{Trying}
use Rattle.tree_first.proofs.first_solvable.Given as goal

abbrev pub invariant-loop-choice : goal.invariant-loop-choice
invariant-loop-choice l = Trying l.n l.list (tree_over l.list l.tree) l.total l.initial.model l.initial.work l.choice l.model l.work
