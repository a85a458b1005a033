-- `check_model::check_model` meets its contract: nothing is refused, and the lines decide.
use mathlib.Core.Path.{ap}
use Rattle.std.specs.Prelude.{Ok}
use Rattle.check_model.specs.Model.{model_answer}
use Rattle.check_model.proofs.check_model.Goals as goal

pub returns : goal.returns
unfolding model_answer
returns c = rw (← c.model_validity.ensures, c.in_ok-model_validity.was) (ap Ok c.first_failing.ensures)
