-- A line's steps are mirrored: with p to q of weight w also the opposite of q to the opposite of p, of the same weight.
use Rattle.std.specs.Prelude.{◌≡◌, ℕ, ◌*◌, ◌<◌, Some}
use Rattle.lines.specs.declared.Line.{Line}
use Rattle.steps.specs.declared.Step.{Step}
use Rattle.steps.specs.Point.{opposite}
use Rattle.steps.specs.Step.{step_of}

-- what is known of a step that a line has
pub record LineStep (n : ℕ) (l : Line) (t : Step) : Type 0 where
  pub from_lt : t.from < 2 * n
  pub to_lt : t.to < 2 * n
  pub side : ℕ
  pub low : side < 2
  pub mirror : Step
  pub found : step_of l side ≡ Some mirror
  pub from_is : mirror.from ≡ opposite t.to
  pub to_is : mirror.to ≡ opposite t.from
  pub weight_is : mirror.weight ≡ t.weight
