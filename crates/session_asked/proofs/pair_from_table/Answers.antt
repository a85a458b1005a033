-- `session_asked::pair_from_table` meets its contract: the part that is lent is the state's table.
use Rattle.std.specs.Prelude.{Some}
use mathlib.Core.Path.{◌≡◌, sym, ap, ap₂, subst, ◌∙◌}
use mathlib.Core.Bool.{false}
use mathlib.Core.List.{List}
use lib.IntN.{ℤ}
use Rattle.session_state.specs.declared.Head.{Head}
use Prim.Native.Nat.{ℕ, ◌*◌, ◌-◌}
use native.Mathlib.Omega.{arith}
use lib.ListN.{length, take, drop}
use Rattle.session_step.specs.Read.{small_table, SizedTable}
use Rattle.session_state.specs.State.{front_room, table_end, variables_in, refused_in}
use Rattle.session_state.specs.Laws.{HeadOk, head_ok, end_is, end_room, length_table_in}
use Rattle.implied_pair.specs.Pair.{pair_in_lem}
use Rattle.session_asked.proofs.pair_from_table.Goals.{After-read_head-head, After-table_end-end}
use Rattle.session_asked.proofs.pair_from_table.Goals as goal

pub read_head-head-requires : goal.read_head-head-requires
read_head-head-requires c = c.requires.0

-- the head is read
module _ (r : After-read_head-head) where
  abbrev state : List ℤ
  state = r.args.state.now

  ok : HeadOk state
  ok = head_ok state r.requires.0

  variables_is : r.read_head-head.result.n ≡ variables_in state
  variables_is = ap (λ (h : Head). h.n) r.read_head-head.ensures

  refused_is : r.read_head-head.result.refused ≡ refused_in state
  refused_is = ap (λ (h : Head). h.refused) r.read_head-head.ensures

pub table_end-end-requires : goal.table_end-end-requires
table_end-end-requires c = omega (arith, variables_is (goal.at.table_end-end-requires c).After-read_head-head, (ok (goal.at.table_end-end-requires c).After-read_head-head).variables)

-- where the table ends
module _ (e : After-table_end-end) where
  abbrev n : ℕ
  n = variables_in (state (goal.at.After-table_end-end e).After-read_head-head)

  abbrev part : ℕ → List ℤ
  part j = take (j - front_room) (drop front_room (state (goal.at.After-table_end-end e).After-read_head-head))

  ends : e.table_end-end.result ≡ table_end n
  ends = e.table_end-end.ensures ∙ ap table_end (variables_is (goal.at.After-table_end-end e).After-read_head-head)

  sized : SizedTable n (part e.table_end-end.result)
  sized = record { variables = (ok (goal.at.After-table_end-end e).After-read_head-head).variables; size = ap (λ (j : ℕ). length (part j)) ends ∙ length_table_in n (state (goal.at.After-table_end-end e).After-read_head-head) (ok (goal.at.After-table_end-end e).After-read_head-head).room }

pub slice_bounds-pair_asked-count : goal.slice_bounds-pair_asked-count
slice_bounds-pair_asked-count c = omega (arith, ends c, end_is (n c))

pub slice_bounds-pair_asked-start : goal.slice_bounds-pair_asked-start
slice_bounds-pair_asked-start c = omega (arith, ends c, end_is (n c))

pub slice_bounds-pair_asked-end : goal.slice_bounds-pair_asked-end
slice_bounds-pair_asked-end c = omega (arith, ends c, (ok (goal.at.slice_bounds-pair_asked-end c).After-read_head-head).room, end_room (n c))

pub pair_asked-requires : goal.pair_asked-requires
pair_asked-requires c =
    let p = c.requires in
    (subst (λ (j : ℕ). SizedTable j (part (goal.at.pair_asked-requires c).After-table_end-end c.table_end-end.result)) (sym (variables_is (goal.at.pair_asked-requires c).After-read_head-head)) (sized (goal.at.pair_asked-requires c).After-table_end-end), omega (arith, variables_is (goal.at.pair_asked-requires c).After-read_head-head, p.1), omega (arith, variables_is (goal.at.pair_asked-requires c).After-read_head-head, p.2))

-- after a no
pub returns-then-head : goal.returns-then-head
returns-then-head c = rw (sym (refused_is (goal.at.returns-then-head c).After-read_head-head) ∙ c.if-head.true)

pub returns : goal.returns
returns c =
    let a = c.args in
    let e = (goal.at.returns c).After-table_end-end in
    let r = (goal.at.returns c).After-read_head-head in
    let not_refused : refused_in (state r) ≡ false = sym (refused_is r) ∙ c.if-head.false in
    rw not_refused (ap Some (c.pair_asked.ensures ∙ ap₂ (λ (m j : ℕ). pair_in_lem (small_table (2 * m) (part e j)) a.x a.y) (variables_is r) (ends e)))
