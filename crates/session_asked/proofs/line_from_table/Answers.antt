-- `session_asked::line_from_table` meets its contract: the part that is lent is the state's table.
use mathlib.Core.Path.{◌≡◌, sym, ap, ap₂, subst, ◌∙◌}
use mathlib.Core.Bool.{false}
use mathlib.Core.List.{List}
use lib.IntN.{ℤ}
use Rattle.session_state.specs.declared.Head.{Head}
use Prim.Native.Nat.{ℕ, ◌*◌, ◌-◌}
use native.Mathlib.Omega.{arith}
use lib.ListN.{length, take, drop}
use Rattle.lines.specs.Valid.{LineWorks}
use Rattle.session_step.specs.Read.{small_table, SizedTable}
use Rattle.session_state.specs.State.{front_room, table_end, variables_in, refused_in}
use Rattle.session_state.specs.Laws.{HeadOk, head_ok, end_is, end_room, length_table_in}
use Rattle.session_questions.specs.Asked.{line_implied}
use Rattle.session_asked.proofs.line_from_table.Goals.{After-line_asked, After-read_head-head, After-table_end-end}
use Rattle.session_asked.proofs.line_from_table.Goals as goal

pub read_head-head-requires : goal.read_head-head-requires
read_head-head-requires c = c.requires.0

-- the head is read
module _ (r : After-read_head-head) where
  abbrev state : List ℤ
  state = r.args.state.now

  ok : HeadOk state
  ok = head_ok state r.requires.0

  variables_is : r.read_head-head.result.n ≡ variables_in state
  variables_is = ap (λ (h : Head). h.n) r.read_head-head.ensures

  refused_is : r.read_head-head.result.refused ≡ refused_in state
  refused_is = ap (λ (h : Head). h.refused) r.read_head-head.ensures

pub table_end-end-requires : goal.table_end-end-requires
table_end-end-requires c = omega (arith, variables_is (goal.at.table_end-end-requires c).After-read_head-head, (ok (goal.at.table_end-end-requires c).After-read_head-head).variables)

-- where the table ends
module _ (e : After-table_end-end) where
  abbrev n : ℕ
  n = variables_in (state (goal.at.After-table_end-end e).After-read_head-head)

  abbrev part : ℕ → List ℤ
  part j = take (j - front_room) (drop front_room (state (goal.at.After-table_end-end e).After-read_head-head))

  ends : e.table_end-end.result ≡ table_end n
  ends = e.table_end-end.ensures ∙ ap table_end (variables_is (goal.at.After-table_end-end e).After-read_head-head)

  sized : SizedTable n (part e.table_end-end.result)
  sized = record { variables = (ok (goal.at.After-table_end-end e).After-read_head-head).variables; size = ap (λ (j : ℕ). length (part j)) ends ∙ length_table_in n (state (goal.at.After-table_end-end e).After-read_head-head) (ok (goal.at.After-table_end-end e).After-read_head-head).room }

pub slice_bounds-line_asked-count : goal.slice_bounds-line_asked-count
slice_bounds-line_asked-count c = omega (arith, ends c, end_is (n c))

pub slice_bounds-line_asked-start : goal.slice_bounds-line_asked-start
slice_bounds-line_asked-start c = omega (arith, ends c, end_is (n c))

pub slice_bounds-line_asked-end : goal.slice_bounds-line_asked-end
slice_bounds-line_asked-end c = omega (arith, ends c, (ok (goal.at.slice_bounds-line_asked-end c).After-read_head-head).room, end_room (n c))

pub line_asked-requires : goal.line_asked-requires
line_asked-requires c =
    let m = sym (variables_is (goal.at.line_asked-requires c).After-read_head-head) in
    (subst (λ (j : ℕ). SizedTable j (part (goal.at.line_asked-requires c).After-table_end-end c.table_end-end.result)) m (sized (goal.at.line_asked-requires c).After-table_end-end), subst (λ (j : ℕ). LineWorks j c.args.line) m c.requires.1)

pub returns-then-head : goal.returns-then-head
returns-then-head c = rw (sym (refused_is (goal.at.returns-then-head c).After-read_head-head) ∙ c.if-head.true)

-- the table was asked
module _ (a : After-line_asked) where
  not_refused : refused_in (state (goal.at.After-line_asked a).After-read_head-head) ≡ false
  not_refused = sym (refused_is (goal.at.After-line_asked a).After-read_head-head) ∙ a.if-head.false

  asked : a.line_asked.result ≡ line_implied (small_table (2 * n (goal.at.After-line_asked a).After-table_end-end) (part (goal.at.After-line_asked a).After-table_end-end (table_end (n (goal.at.After-line_asked a).After-table_end-end)))) a.args.line
  asked =
      a.line_asked.ensures
      ∙ ap₂ (λ (m j : ℕ). line_implied (small_table (2 * m) (part (goal.at.After-line_asked a).After-table_end-end j)) a.args.line) (variables_is (goal.at.After-line_asked a).After-read_head-head) (ends (goal.at.After-line_asked a).After-table_end-end)

pub returns-then-line_asked : goal.returns-then-line_asked
returns-then-line_asked c = rw (not_refused (goal.at.returns-then-line_asked c).After-line_asked, sym (asked (goal.at.returns-then-line_asked c).After-line_asked) ∙ c.if-line_asked.true)

pub returns : goal.returns
returns c = rw (not_refused (goal.at.returns c).After-line_asked, sym (asked (goal.at.returns c).After-line_asked) ∙ c.if-line_asked.false)
