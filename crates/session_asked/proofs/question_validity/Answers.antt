-- `session_asked::question_validity` meets its contract: the head is none of a state, or the line's rules are asked.
use mathlib.Core.Path.{◌≡◌, sym, ap, ap₂, ◌∙◌}
use mathlib.Core.Bool.{true}
use borrow.Author.Tests.{not-true, not-false}
use Rattle.session_state.specs.declared.Head.{Head}
use Prim.Native.Nat.{ℕ}
use native.Mathlib.Omega.{arith}
use Rattle.lines.specs.Refusal.{line_validity_lem}
use Rattle.session_state.specs.State.{variables_in, head_ok_lem}
use Rattle.session_state.specs.Laws.{head_ok}
use Rattle.session_asked.specs.Asked.{line_validity_in}
use mathlib.Core.Bool.{not}
use Rattle.session_asked.proofs.question_validity.Goals.{Else-not-head_ok}
use Rattle.session_asked.proofs.question_validity.Goals as goal

pub returns-then-not-head_ok : goal.returns-then-not-head_ok
unfolding line_validity_in
returns-then-not-head_ok c = rw (sym c.head_ok.ensures ∙ not-true c.head_ok.result (ap not c.if-not-head_ok.true))

-- the head is one of a state
is : (e : Else-not-head_ok) → head_ok_lem e.args.state.now ≡ true
is e = sym e.head_ok.ensures ∙ not-false e.head_ok.result (ap not e.if-not-head_ok.false)

pub read_head-head-requires : goal.read_head-head-requires
read_head-head-requires c = is c

pub line_validity-requires : goal.line_validity-requires
line_validity-requires c =
    let n : c.read_head-head.result.n ≡ variables_in c.args.state.now = ap (λ (h : Head). h.n) c.read_head-head.ensures in
    omega (arith, n, (head_ok _ (is (goal.at.line_validity-requires c).Else-not-head_ok)).variables)

pub returns : goal.returns
unfolding line_validity_in
returns c =
    let a = c.args in
    let n = ap (λ (h : Head). h.n) c.read_head-head.ensures in
    let count = ap (λ (h : Head). h.count) c.read_head-head.ensures in
    rw (is (goal.at.returns c).Else-not-head_ok) (c.line_validity.ensures ∙ ap₂ (λ (m j : ℕ). line_validity_lem m j a.line) n count)
