-- What the loops of `engine_halves_walks::pass_all` keep.
use mathlib.Core.Path.{◌≡◌}
use lib.ListN.{length}
use Rattle.engine_closed_walk.specs.Passes.{Passed}
use Rattle.engine_halves_walks.proofs.pass_all.Given as goal

-- `engine_halves_walks::pass_all` meets its contract: each pass keeps what one asks.
abbrev pub invariant-loop-turn : goal.invariant-loop-turn
invariant-loop-turn l = (length l.work ≡ length l.initial.work) × Passed l.row l.size l.initial.work l.work l.size
