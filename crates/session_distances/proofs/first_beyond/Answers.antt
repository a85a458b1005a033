-- `session_distances::first_beyond` meets its contract.
use mathlib.Core.Path.{◌≡◌, ap, ◌∙◌}
use native.Mathlib.Omega.{arith}
use mir.Syntax.{w64}
use Rattle.integers.proofs.Bits.{kept}
use Rattle.integers.proofs.Searching.{searching}
use Rattle.lines.specs.Line.{number}
use Rattle.session_distances.specs.Distances.{is_distance_lem, distance_at}
use Rattle.session_distances.proofs.first_beyond.Goals.{After-is_distance}
use Rattle.session_distances.proofs.first_beyond.Goals as goal

-- the test of the number at i
test : (c : After-is_distance) → c.is_distance.result ≡ distance_at c.args.table.now c.loop-i.i
test c = c.is_distance.ensures ∙ ap is_distance_lem (kept w64 (number c.args.table.now c.loop-i.i) c.is_distance-arg-1.given)

pub returns-then-not-is_distance : goal.returns-then-not-is_distance
returns-then-not-is_distance c = grind (arith, searching, test (goal.at.returns-then-not-is_distance c).After-is_distance)

pub loop-i-preserved : goal.loop-i-preserved
loop-i-preserved c = grind (arith, searching, test (goal.at.loop-i-preserved c).After-is_distance)
