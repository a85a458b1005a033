-- `session_asked::two_validity` meets its contract: each way out has the tests that led there.
use mathlib.Core.Path.{◌≡◌, sym, ap, ◌∙◌}
use mathlib.Core.Bool.{true}
use borrow.Author.Tests.{not-true, not-false}
use Rattle.session_state.specs.declared.Head.{Head}
use borrow.Author.Tests.{lt-ltb, le-ltb}
use Prim.Native.Nat.{◌<◌}
use Rattle.session_state.specs.State.{variables_in, head_ok_lem}
use Rattle.session_asked.specs.Asked.{pair_validity_in}
use mathlib.Core.Bool.{not}
use Rattle.session_asked.proofs.two_validity.Goals.{After-read_head-head, Else-head-x, Else-not-head_ok}
use Rattle.session_asked.proofs.two_validity.Goals as goal

pub returns-then-not-head_ok : goal.returns-then-not-head_ok
unfolding pair_validity_in
returns-then-not-head_ok c = rw (sym c.head_ok.ensures ∙ not-true c.head_ok.result (ap not c.if-not-head_ok.true))

-- the head is one of a state
is : (e : Else-not-head_ok) → head_ok_lem e.args.state.now ≡ true
is e = sym e.head_ok.ensures ∙ not-false e.head_ok.result (ap not e.if-not-head_ok.false)

pub read_head-head-requires : goal.read_head-head-requires
read_head-head-requires c = is c

-- n is read
module _ (r : After-read_head-head) where
  variables_is : r.read_head-head.result.n ≡ variables_in r.args.state.now
  variables_is = ap (λ (h : Head). h.n) r.read_head-head.ensures

pub returns-then-head-x : goal.returns-then-head-x
unfolding pair_validity_in
returns-then-head-x c =
    rw (is (goal.at.returns-then-head-x c).Else-not-head_ok, le-ltb c.args.x (variables_in c.args.state.now) (rw (variables_is (goal.at.returns-then-head-x c).After-read_head-head) at c.if-head-x.true))

-- x is there
module _ (e : Else-head-x) where
  x_less : e.args.x < variables_in e.args.state.now
  x_less = rw (variables_is (goal.at.Else-head-x e).After-read_head-head) at e.if-head-x.false

pub returns-then-head-y : goal.returns-then-head-y
unfolding pair_validity_in
returns-then-head-y c =
    rw (is (goal.at.returns-then-head-y c).Else-not-head_ok, lt-ltb _ _ (x_less (goal.at.returns-then-head-y c).Else-head-x), le-ltb c.args.y (variables_in c.args.state.now) (rw (variables_is (goal.at.returns-then-head-y c).After-read_head-head) at c.if-head-y.true))

pub returns : goal.returns
unfolding pair_validity_in
returns c =
    let less : c.args.y < variables_in c.args.state.now = rw (variables_is (goal.at.returns c).After-read_head-head) at c.if-head-y.false in
    rw (is (goal.at.returns c).Else-not-head_ok, lt-ltb _ _ (x_less (goal.at.returns c).Else-head-x), lt-ltb _ _ less)
