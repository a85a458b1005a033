-- `session_remake::put_known` meets its contract: the part that is lent is what the state knows.
use mathlib.Core.Path.{◌≡◌, ap, ap₂, ◌∙◌}
use mathlib.Core.List.{List, ◌++◌}
use Prim.Native.Nat.{ℕ, ◌-◌}
use native.Mathlib.Omega.{arith}
use lib.IntN.{ℤ}
use lib.ListN.{length, take, drop}
use Rattle.session_known.specs.Known.{known_anew_lem}
use Rattle.session_state.specs.State.{front_room, known_room}
use Rattle.session_state.specs.Laws.{room_is, length_known_in}
use Rattle.session_remake.proofs.put_known.Goals.{After-session_room-end}
use Rattle.session_remake.proofs.put_known.Goals as goal

pub session_room-end-requires : goal.session_room-end-requires
session_room-end-requires c = c.requires.0

-- where it ends
module _ (r : After-session_room-end) where
  abbrev n : ℕ
  n = r.args.n

  abbrev state : List ℤ
  state = r.args.state.now

  abbrev end : ℕ
  end = r.session_room-end.result

  size : length (take (end - front_room) (drop front_room state)) ≡ known_room n
  size = ap (λ (j : ℕ). length (take (j - front_room) (drop front_room state))) r.session_room-end.ensures ∙ length_known_in n state r.requires.2

pub slice_bounds-known_anew-count : goal.slice_bounds-known_anew-count
slice_bounds-known_anew-count c = omega (arith, c.session_room-end.ensures, room_is (n c))

pub slice_bounds-known_anew-start : goal.slice_bounds-known_anew-start
slice_bounds-known_anew-start c = omega (arith, c.session_room-end.ensures, room_is (n c))

pub slice_bounds-known_anew-end : goal.slice_bounds-known_anew-end
slice_bounds-known_anew-end c = omega (arith, c.session_room-end.ensures, c.requires.2)

pub known_anew-requires : goal.known_anew-requires
known_anew-requires c =
    (record { few = c.requires.0; size = size (goal.at.known_anew-requires c).After-session_room-end }, c.requires.1)

pub returns : goal.returns
returns c =
    let a = c.args in
    ap₂ (λ (q : List ℤ) (j : ℕ). take front_room (state (goal.at.returns c).After-session_room-end) ++ (q ++ drop (j - front_room) (drop front_room (state (goal.at.returns c).After-session_room-end))))
    (c.known_anew.ensures ∙ ap (λ (j : ℕ). known_anew_lem (n (goal.at.returns c).After-session_room-end) a.list.now (take (j - front_room) (drop front_room (state (goal.at.returns c).After-session_room-end)))) c.session_room-end.ensures)
    c.session_room-end.ensures
