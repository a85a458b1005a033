-- `session::withdraw` meets its contract: each way out has the tests that led there.
use mathlib.Core.Path.{◌≡◌, refl, sym, ap, ◌∙◌}
use mathlib.Core.Bool.{true, false}
use mathlib.Core.List.{List}
use Prim.Native.Nat.{ℕ, ◌<◌}
use native.Mathlib.Omega.{arith}
use borrow.Author.Tests.{not-true, not-false, eq-eqb, ne_eqb}
use lib.Dec.{eqb}
use lib.IntN.{ℤ}
use Rattle.session_state.specs.declared.Head.{Head}
use Rattle.session_state.specs.State.{count_in, is_state_lem}
use Rattle.session_state.specs.Laws.{state_head_ok}
use Rattle.session_promise.specs.Promise.{withdraw_answer}
use mathlib.Core.Bool.{not}
use Rattle.session.proofs.withdraw.Goals.{After-read_head-head, Else-head-eq0, Else-not-is_state}
use Rattle.session.proofs.withdraw.Goals as goal

pub returns-then-not-is_state : goal.returns-then-not-is_state
unfolding withdraw_answer
returns-then-not-is_state c =
    let none : is_state_lem c.args.state.now ≡ false = sym c.is_state.ensures ∙ not-true c.is_state.result (ap not c.if-not-is_state.true) in
    record { is = rw none; state = refl }

-- the numbers are a state
module _ (e : Else-not-is_state) where
  is : is_state_lem e.args.state.now ≡ true
  is = sym e.is_state.ensures ∙ not-false e.is_state.result (ap not e.if-not-is_state.false)

pub read_head-head-requires : goal.read_head-head-requires
read_head-head-requires c = state_head_ok _ (is c)

abbrev state : After-read_head-head → List ℤ
state r = r.args.state.now

count_is : (r : After-read_head-head) → r.read_head-head.result.count ≡ count_in (state r)
count_is r = ap (λ (h : Head). h.count) r.read_head-head.ensures

pub returns-then-head-eq0 : goal.returns-then-head-eq0
unfolding withdraw_answer
returns-then-head-eq0 c =
    let zero : count_in (state (goal.at.returns-then-head-eq0 c).After-read_head-head) ≡ 0 = sym (count_is (goal.at.returns-then-head-eq0 c).After-read_head-head) ∙ c.if-head-eq0.true in
    record { is = rw (is (goal.at.returns-then-head-eq0 c).Else-not-is_state, eq-eqb (count_in (state (goal.at.returns-then-head-eq0 c).After-read_head-head)) 0 zero); state = refl }

-- there is a line
some : (e : Else-head-eq0) → 0 < count_in (state (goal.at.Else-head-eq0 e).After-read_head-head)
some e = let q = e.if-head-eq0.false in omega (arith, count_is (goal.at.Else-head-eq0 e).After-read_head-head, q)

lt_zero : (k : ℕ) → 0 < k → eqb k 0 ≡ false
lt_zero k h = ne_eqb k 0 (λ q. absurd (omega arith))

pub take_last-requires : goal.take_last-requires
take_last-requires c =
    (is (goal.at.take_last-requires c).Else-not-is_state, some (goal.at.take_last-requires c).Else-head-eq0)

pub returns : goal.returns
unfolding withdraw_answer
returns c =
    record { is = rw (is (goal.at.returns c).Else-not-is_state, lt_zero (count_in (state (goal.at.returns c).After-read_head-head)) (some (goal.at.returns c).Else-head-eq0)); state = c.take_last.ensures }
