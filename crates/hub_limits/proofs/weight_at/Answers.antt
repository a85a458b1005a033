-- `hub_limits::weight_at` meets its contract: the weight's index is below the end of the weights.
use mathlib.Core.Path.{sym, ◌∙◌}
use Prim.Native.Nat.{ℕ, ◌+◌, ◌*◌, ◌<◌}
use native.Mathlib.Omega.{arith}
use mir.Syntax.{w64}
use Rattle.integers.proofs.Bits.{kept}
use Rattle.lines.specs.Limits.{max_variables}
use Rattle.lines.specs.Line.{number}
use Rattle.theory_hub.specs.Hub.{weight_rows}
use Rattle.decide_rows.specs.Read.{stored_of}
use Rattle.hub_limits.specs.Ready.{weight_lt}
use Rattle.hub_limits.proofs.weight_at.Goals.{Start}
use Rattle.hub_limits.proofs.weight_at.Goals as goal

module _ (s : Start) where
  abbrev at : ℕ
  at = s.args.k * (2 * s.args.n) + s.args.p

  below : at < weight_rows * (2 * s.args.n)
  below = weight_lt (2 * s.args.n) s.args.k s.args.p s.requires.1 s.requires.2

  small : at < weight_rows * (2 * max_variables)
  small = omega (arith, below, s.requires.0.few)

pub overflow_mul-at-2 : goal.overflow_mul-at-2
overflow_mul-at-2 c = record { fits = omega (arith, small c) }

pub overflow_add-at : goal.overflow_add-at
overflow_add-at c = record { fits = omega (arith, small c) }

pub offset_bounds-weights-at : goal.offset_bounds-weights-at
offset_bounds-weights-at c = record { fits = omega (arith, small c) }

pub bounds-weights-at : goal.bounds-weights-at
bounds-weights-at c = omega (arith, below c, c.requires.0.room)

pub returns : goal.returns
returns c =
    let z = number c.args.weights.now (at (goal.at.returns c).Start) in
    kept w64 z c.result-1.given ∙ sym (stored_of z)
