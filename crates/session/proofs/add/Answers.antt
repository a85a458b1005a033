-- `session::add` meets its contract: each way out has the tests that led there.
use mathlib.Core.Path.{◌≡◌, sym, ap, ◌∙◌}
use mathlib.Core.Bool.{true}
use mathlib.Core.List.{List}
use borrow.Author.Tests.{not-true, not-false}
use lib.IntN.{ℤ}
use Rattle.lines.specs.declared.Line.{Line}
use Rattle.decide_buffers.specs.Room.{Lent}
use Rattle.session_state.specs.declared.Head.{Head}
use Rattle.session_state.specs.State.{refused_in, is_state_lem}
use Rattle.session_state.specs.Laws.{state_head_ok}
use Rattle.session_promise.specs.Standing.{no_state_law, after_no}
use mathlib.Core.Bool.{not}
use Rattle.session.proofs.add.Goals.{After-read_head-head, Else-not-is_state, Start}
use Rattle.session.proofs.add.Goals as goal

-- what was lent
module _ (begin : Start) where
  abbrev state : List ℤ
  state = begin.args.state.now

  abbrev line : Line
  line = begin.args.line

  abbrev lent : Lent
  lent =
      record {
        model = begin.args.model.now;
        bounds = begin.args.bounds.now;
        groups = begin.args.groups.now;
        refutation = begin.args.refutation.now;
        identifiers = begin.args.identifiers.now;
        work = begin.args.work.now;
      }

pub returns-then-not-is_state : goal.returns-then-not-is_state
returns-then-not-is_state c =
    no_state_law (state (goal.at.returns-then-not-is_state c).Start) (line (goal.at.returns-then-not-is_state c).Start) (lent (goal.at.returns-then-not-is_state c).Start) (sym c.is_state.ensures ∙ not-true c.is_state.result (ap not c.if-not-is_state.true))

-- they are a state
is : (e : Else-not-is_state) → is_state_lem (state (goal.at.Else-not-is_state e).Start) ≡ true
is e = sym e.is_state.ensures ∙ not-false e.is_state.result (ap not e.if-not-is_state.false)

pub read_head-head-requires : goal.read_head-head-requires
read_head-head-requires c = state_head_ok _ (is c)

-- the last answer is read
module _ (r : After-read_head-head) where
  refused_is : r.read_head-head.result.refused ≡ refused_in (state (goal.at.After-read_head-head r).Start)
  refused_is = ap (λ (h : Head). h.refused) r.read_head-head.ensures

pub returns-then-head : goal.returns-then-head
returns-then-head c =
    after_no (state (goal.at.returns-then-head c).Start) (line (goal.at.returns-then-head c).Start) (lent (goal.at.returns-then-head c).Start) (is (goal.at.returns-then-head c).Else-not-is_state) (sym (refused_is (goal.at.returns-then-head c).After-read_head-head) ∙ c.if-head.true)

pub add_to-requires : goal.add_to-requires
add_to-requires c =
    (is (goal.at.add_to-requires c).Else-not-is_state, sym (refused_is (goal.at.add_to-requires c).After-read_head-head) ∙ c.if-head.false)

pub returns : goal.returns
returns c = c.add_to.ensures
