-- `session::take_last` meets its contract: making anew what is known leaves the head as it was.
use mathlib.Core.Path.{◌≡◌, sym, ap, ◌∙◌}
use mathlib.Core.Bool.{true}
use mathlib.Core.List.{List}
use native.Mathlib.Omega.{arith}
use lib.IntN.{ℤ}
use Rattle.session_state.specs.declared.Head.{Head}
use Rattle.session_state.specs.State.{variables_in, count_in, refused_in, head_ok_lem}
use Rattle.session_state.specs.Laws.{HeadOk, state_head, state_head_ok, with_head, with_count}
use Rattle.session_remake.specs.Remade.{remade_known, remade_size}
use Rattle.session.specs.Taken.{taken_no, taken_anew}
use Rattle.session.proofs.take_last.Goals.{After-read_head-head, After-remake_known}
use Rattle.session.proofs.take_last.Goals as goal

pub read_head-head-requires : goal.read_head-head-requires
read_head-head-requires c = state_head_ok _ c.requires.0

-- the last answer is read
module _ (r : After-read_head-head) where
  abbrev state : List ℤ
  state = r.args.state.now

  ok : HeadOk state
  ok = state_head state r.requires.0

  refused_is : r.read_head-head.result.refused ≡ refused_in state
  refused_is = ap (λ (h : Head). h.refused) r.read_head-head.ensures

pub pop_line-requires : goal.pop_line-requires
pop_line-requires c = (state_head_ok (state (goal.at.pop_line-requires c).After-read_head-head) c.requires.0, c.requires.1)

pub returns-then-head : goal.returns-then-head
returns-then-head c =
    taken_no (state (goal.at.returns-then-head c).After-read_head-head) _ (sym (refused_is (goal.at.returns-then-head c).After-read_head-head) ∙ c.if-head.true) c.pop_line.ensures

-- it was made anew
module _ (m : After-remake_known) where
  abbrev made : List ℤ
  made = m.remake_known.new.state

  head : head_ok_lem made ≡ true
  head =
      ap head_ok_lem m.remake_known.ensures
      ∙ with_head (variables_in (state (goal.at.After-remake_known m).After-read_head-head)) (state (goal.at.After-remake_known m).After-read_head-head) (remade_known (state (goal.at.After-remake_known m).After-read_head-head)) (ok (goal.at.After-remake_known m).After-read_head-head).room (remade_size (state (goal.at.After-remake_known m).After-read_head-head) (ok (goal.at.After-remake_known m).After-read_head-head).variables (ok (goal.at.After-remake_known m).After-read_head-head).room)
      ∙ state_head_ok (state (goal.at.After-remake_known m).After-read_head-head) m.requires.0

  count : count_in made ≡ count_in (state (goal.at.After-remake_known m).After-read_head-head)
  count = ap count_in m.remake_known.ensures ∙ with_count (variables_in (state (goal.at.After-remake_known m).After-read_head-head)) (state (goal.at.After-remake_known m).After-read_head-head) (remade_known (state (goal.at.After-remake_known m).After-read_head-head)) (ok (goal.at.After-remake_known m).After-read_head-head).room (remade_size (state (goal.at.After-remake_known m).After-read_head-head) (ok (goal.at.After-remake_known m).After-read_head-head).variables (ok (goal.at.After-remake_known m).After-read_head-head).room)

pub pop_line-requires-2 : goal.pop_line-requires-2
pop_line-requires-2 c = (head (goal.at.pop_line-requires-2 c).After-remake_known, omega (arith, count (goal.at.pop_line-requires-2 c).After-remake_known, c.requires.1))

pub returns : goal.returns
returns c =
    taken_anew (state (goal.at.returns c).After-read_head-head) (made (goal.at.returns c).After-remake_known) _ (sym (refused_is (goal.at.returns c).After-read_head-head) ∙ c.if-head.false) c.remake_known.ensures c.pop_line-2.ensures
