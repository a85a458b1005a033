-- `session_answer::learn_in` meets its contract: the part that is lent is what the state knows.
use mathlib.Core.Path.{◌≡◌, sym, ap, ◌∙◌}
use mathlib.Core.List.{List, ◌++◌}
use Prim.Native.Nat.{ℕ, ◌-◌}
use native.Mathlib.Omega.{arith}
use lib.IntN.{ℤ}
use lib.ListN.{length, take, drop}
use Rattle.session_learn.specs.Learnt.{learns}
use Rattle.session_known.specs.Known.{known_after}
use Rattle.session_state.specs.State.{front_room, known_room, table_of_known, with_known}
use Rattle.session_state.specs.Laws.{room_is, length_known_in, table_in_known}
use Rattle.session_answer.proofs.learn_in.Goals.{After-session_room-end}
use Rattle.session_answer.proofs.learn_in.Goals as goal

pub session_room-end-requires : goal.session_room-end-requires
session_room-end-requires c = c.requires.few

-- where it ends
module _ (r : After-session_room-end) where
  abbrev n : ℕ
  n = r.args.n

  abbrev state : List ℤ
  state = r.args.state.now

  abbrev part : ℕ → List ℤ
  part j = take (j - front_room) (drop front_room state)

  size : length (part r.session_room-end.result) ≡ known_room n
  size = ap (λ (j : ℕ). length (part j)) r.session_room-end.ensures ∙ length_known_in n state r.requires.room

pub slice_bounds-learn_known-count : goal.slice_bounds-learn_known-count
slice_bounds-learn_known-count c = omega (arith, c.session_room-end.ensures, room_is (n c))

pub slice_bounds-learn_known-start : goal.slice_bounds-learn_known-start
slice_bounds-learn_known-start c = omega (arith, c.session_room-end.ensures, room_is (n c))

pub slice_bounds-learn_known-end : goal.slice_bounds-learn_known-end
slice_bounds-learn_known-end c = omega (arith, c.session_room-end.ensures, c.requires.room)

pub learn_known-requires : goal.learn_known-requires
learn_known-requires c =
    let p = c.requires in
    record { known = record { few = p.few; size = size (goal.at.learn_known-requires c).After-session_room-end }; valid = p.valid; line = p.line }

pub returns : goal.returns
returns c =
    let a = c.args in
    let t = c.learn_known.new.known in
    let end = c.session_room-end.ensures in (
      c.learn_known.ensures.0
          ∙ ap (λ (j : ℕ). learns (n (goal.at.returns c).After-session_room-end) a.list.now a.k (table_of_known (n (goal.at.returns c).After-session_room-end) (part (goal.at.returns c).After-session_room-end j))) end
          ∙ ap (learns (n (goal.at.returns c).After-session_room-end) a.list.now a.k) (sym (table_in_known (n (goal.at.returns c).After-session_room-end) (state (goal.at.returns c).After-session_room-end))),
      ap (λ (j : ℕ). take front_room (state (goal.at.returns c).After-session_room-end) ++ (t ++ drop (j - front_room) (drop front_room (state (goal.at.returns c).After-session_room-end)))) end
          ∙ ap (with_known (n (goal.at.returns c).After-session_room-end) (state (goal.at.returns c).After-session_room-end)) (c.learn_known.ensures.1 ∙ ap (λ (j : ℕ). known_after (n (goal.at.returns c).After-session_room-end) a.list.now a.k (part (goal.at.returns c).After-session_room-end j)) end),
    )
