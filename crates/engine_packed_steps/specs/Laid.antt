-- The steps of a list laid at the front of the work area: all of them, or of those between the same two points only the
-- lightest. What is said of distances over them is said of the list's.
use Rattle.std.specs.Prelude.{List, ℕ, ◌*◌, ◌≤◌, ◌<◌, ℤ, length}
use Rattle.lines.specs.Limits.{max_variables, work_lines}
use Rattle.lines.specs.Line.{number, line_count, lines_of}
use Rattle.lines.specs.Valid.{LinesOk}
use Rattle.steps.specs.Step.{steps_of}
use Rattle.theory_walks.specs.Mirror.{Mirrored}
use Rattle.theory_covering.specs.Covers.{Merged}
use Rattle.engine_packed_steps.specs.Steps.{StepOk, steps_in}
use Rattle.engine_packed_steps.specs.Scratch.{Scratch}
use Rattle.engine_packed_steps.specs.Layout.{walks_at}

pub record LayReady (n : ℕ) (L w : List ℤ) : Type 0 where
  pub few : n ≤ max_variables
  pub valid : LinesOk n L
  pub few_lines : line_count L ≤ work_lines
  pub room : walks_at n ≤ length w

pub record Laid (n : ℕ) (L w w' : List ℤ) (count : ℕ) : Type 0 where
  pub no_more : count ≤ 2 * n * (2 * n)
  pub scratch : Scratch 0 (walks_at n) w w'
  pub ok : (i : ℕ) → i < count → StepOk (2 * n) (number w' i)
  pub merged : Merged (steps_of (lines_of L)) (steps_in count w')
  pub mirrored : Mirrored (steps_in count w')
