-- `session_answer::write_yes` meets its contract: the part that is lent is what the state knows.
use mathlib.Core.Path.{◌≡◌, ap, subst, ◌∙◌}
use mathlib.Core.List.{List, ◌++◌}
use Prim.Native.Nat.{ℕ, ◌-◌}
use native.Mathlib.Omega.{arith}
use lib.IntN.{ℤ, pos}
use lib.ListN.{length, take, drop, replicate}
use Rattle.session_kept.specs.Kept.{Given}
use Rattle.session_state.specs.State.{front_room, known_room, table_of_known, kept_of_known}
use Rattle.session_state.specs.Laws.{room_is, length_known_in}
use Rattle.session_answer.proofs.write_yes.Goals.{After-session_room-end}
use Rattle.session_answer.proofs.write_yes.Goals as goal

pub session_room-end-requires : goal.session_room-end-requires
session_room-end-requires c = c.requires.few

-- where it ends
module _ (r : After-session_room-end) where
  abbrev n : ℕ
  n = r.args.n

  abbrev state : List ℤ
  state = r.args.state.now

  abbrev part : ℕ → List ℤ
  part j = take (j - front_room) (drop front_room state)

  size : length (part r.session_room-end.result) ≡ known_room n
  size = ap (λ (j : ℕ). length (part j)) r.session_room-end.ensures ∙ length_known_in n state r.requires.room

pub slice_bounds-give_known-count : goal.slice_bounds-give_known-count
slice_bounds-give_known-count c = omega (arith, c.session_room-end.ensures, room_is (n c))

pub slice_bounds-give_known-start : goal.slice_bounds-give_known-start
slice_bounds-give_known-start c = omega (arith, c.session_room-end.ensures, room_is (n c))

pub slice_bounds-give_known-end : goal.slice_bounds-give_known-end
slice_bounds-give_known-end c = omega (arith, c.session_room-end.ensures, c.requires.room)

pub give_known-requires : goal.give_known-requires
give_known-requires c =
    let p = c.requires in
    record { known = record { few = p.few; size = size (goal.at.give_known-requires c).After-session_room-end }; model_room = p.model_room; bounds_room = p.bounds_room; groups_room = p.groups_room }

pub work_room-requires : goal.work_room-requires
work_room-requires c = c.requires.few

pub clear-requires : goal.clear-requires
clear-requires c =
    omega (arith, c.work_room.ensures, c.requires.work_room)

pub returns : goal.returns
returns c =
    let a = c.args in
    let o = c.give_known.new in
    record {
      outputs = subst (λ (j : ℕ). Given (n (goal.at.returns c).After-session_room-end) (table_of_known (n (goal.at.returns c).After-session_room-end) (part (goal.at.returns c).After-session_room-end j)) (kept_of_known (n (goal.at.returns c).After-session_room-end) (part (goal.at.returns c).After-session_room-end j)) a.model.now a.bounds.now a.groups.now o.model o.bounds o.groups) c.session_room-end.ensures c.give_known.ensures;
      emptied = c.clear.ensures ∙ ap (λ (j : ℕ). replicate j (pos 0) ++ drop j a.work.now) c.work_room.ensures;
    }
