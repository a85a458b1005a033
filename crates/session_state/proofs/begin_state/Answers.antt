-- `session_state::begin_state` meets its contract.
use mathlib.Core.Path.{ap, ◌∙◌}
use mathlib.Core.List.{List, ◌++◌}
use native.Mathlib.Omega.{arith}
use lib.IntN.{ℤ}
use lib.ListN.{drop, set}
use mir.Syntax.{w64}
use mir.Val.{to_z}
use mir.Facts.{to_z_pos}
use Rattle.session_state.specs.State.{front_room, zeros, started}
use Rattle.session_state.specs.Laws.{room_is}
use Rattle.session_state.proofs.begin_state.Goals as goal

pub bounds-state-0 : goal.bounds-state-0
bounds-state-0 c = omega (arith, c.requires.1, room_is c.args.n)

pub returns : goal.returns
unfolding started
returns c =
    ap (λ (x : List ℤ). set x 0 (to_z w64 c.args.n)) c.clear.ensures
    ∙ ap (set (zeros front_room ++ drop front_room c.args.state.now) 0) (to_z_pos w64 {n = c.args.n} (omega arith))
