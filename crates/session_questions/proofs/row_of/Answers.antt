-- `session_questions::row_of` meets its contract.
use Prim.Native.Nat.{◌+◌, ◌*◌}
use native.Mathlib.Omega.{arith}
use Rattle.theory_bounds.specs.Points.{opposite_below}
use Rattle.session_questions.proofs.row_of.Goals as goal

pub tight_at-with_plus-requires : goal.tight_at-with_plus-requires
tight_at-with_plus-requires c =
    rw c.opposite_of.ensures (c.requires.0, c.requires.1, opposite_below c.args.n (2 * c.args.y) (omega (arith, c.requires.2)))

pub tight_at-with_minus-requires : goal.tight_at-with_minus-requires
tight_at-with_minus-requires c =
    rw c.opposite_of-2.ensures (c.requires.0, c.requires.1, opposite_below c.args.n (2 * c.args.y + 1) (omega (arith, c.requires.2)))
