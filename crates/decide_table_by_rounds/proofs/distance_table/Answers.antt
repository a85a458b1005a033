-- `decide_table_by_rounds::distance_table` meets its contract.
use mathlib.Core.Path.{◌≡◌}
use mathlib.Core.List.{List}
use Prim.Native.Nat.{ℕ, suc, ◌+◌, ◌*◌, ◌-◌}
use native.Mathlib.Omega.{arith}
use lib.IntN.{ℤ}
use lib.ListN.{take, drop}
use Rattle.lines.specs.Line.{lines_of}
use Rattle.steps.specs.Step.{steps_of}
use Rattle.theory_walks.specs.AllPairs.{table_at}
use Rattle.decide_rows.specs.Stored.{stored_row}
use Rattle.decide_rows.specs.Table.{TableReady}
use Rattle.decide_table_by_rounds.specs.Made.{TableMade}
use Rattle.decide_table_by_rounds.specs.Rounds.{started_ready, made_from, turn_start, round_ready, new_part, short_table, turn_point, turn_same, turn_more, turn_end}
use Rattle.decide_table_by_rounds.proofs.distance_table.Goals.{After-next_row-same, After-start_table}
use Rattle.decide_table_by_rounds.proofs.distance_table.Goals as goal

-- after the start
module _ (c : After-start_table) where
  abbrev n : ℕ
  n = c.args.n

  abbrev L : List ℤ
  L = c.args.list.now

  abbrev w₀ : List ℤ
  w₀ = c.start_table.new.work

  ready : TableReady n L w₀
  ready = started_ready n L c.args.work.now c.requires w₀ c.start_table.ensures

  made : (w : List ℤ) (r : ℕ) → TableMade (steps_of (lines_of L)) (2 * n) w₀ w r → TableMade (steps_of (lines_of L)) (2 * n) c.args.work.now w r
  made = made_from n L c.args.work.now c.requires w₀ c.start_table.ensures

pub loop-k-init : goal.loop-k-init
loop-k-init c =
    let s = (goal.at.loop-k-init c).After-start_table in
    turn_start (n s) (L s) c.args.work.now c.requires (w₀ s) c.start_table.ensures

pub next_row-same-requires : goal.next_row-same-requires
next_row-same-requires c =
    let s = (goal.at.next_row-same-requires c).After-start_table in
    round_ready (n s) (L s) (w₀ s) (ready s) c.loop-k.work c.loop-k.k c.loop-k.invariant c.loop-k-test.true c.copy_row.new.work c.copy_row.ensures

-- after a round
module _ (c : After-next_row-same) where
  abbrev s : After-start_table
  s = (goal.at.After-next_row-same c).After-start_table

  abbrev size : ℕ
  size = 2 * n s

  abbrev w₂ : List ℤ
  w₂ = c.next_row-same.new.work

  abbrev part : List ℤ
  part = take (size + size * size + size * size - (size + size * size)) (drop (size + size * size) w₂)

  part_is : part ≡ stored_row (table_at (steps_of (lines_of (L s))) size (suc c.loop-k.k))
  part_is = new_part (n s) (L s) (w₀ s) (ready s) c.loop-k.work c.loop-k.k c.loop-k.invariant c.loop-k-test.true c.copy_row.new.work c.copy_row.ensures w₂ c.next_row-same.result c.next_row-same.ensures

pub first_negative-u-requires : goal.first_negative-u-requires
first_negative-u-requires c =
    let r = (goal.at.first_negative-u-requires c).After-next_row-same in
    short_table (n (s r)) (L (s r)) (w₀ (s r)) (ready (s r)) (suc c.loop-k.k) c.loop-k-test.true (part r) (part_is r)

pub returns-then-u-size : goal.returns-then-u-size
returns-then-u-size c =
    let r = (goal.at.returns-then-u-size c).After-next_row-same in
    made (s r) (w₂ r) c.first_negative-u.result
    (turn_point (n (s r)) (L (s r)) (w₀ (s r)) (ready (s r)) c.loop-k.work c.loop-k.k c.loop-k.invariant c.loop-k-test.true c.copy_row.new.work c.copy_row.ensures
    (w₂ r) c.next_row-same.result c.next_row-same.ensures c.first_negative-u.result (part r) (part_is r) c.first_negative-u.ensures c.if-u-size.true)

pub returns-then-same : goal.returns-then-same
returns-then-same c =
    let r = (goal.at.returns-then-same c).After-next_row-same in
    made (s r) (w₂ r) (size r)
    (turn_same (n (s r)) (L (s r)) (w₀ (s r)) (ready (s r)) c.loop-k.work c.loop-k.k c.loop-k.invariant c.loop-k-test.true c.copy_row.new.work c.copy_row.ensures
    (w₂ r) c.next_row-same.result c.next_row-same.ensures c.first_negative-u.result (part r) (part_is r) c.first_negative-u.ensures c.if-u-size.false c.if-same.true)

pub loop-k-preserved : goal.loop-k-preserved
loop-k-preserved c =
    let r = (goal.at.loop-k-preserved c).After-next_row-same in
    turn_more (n (s r)) (L (s r)) (w₀ (s r)) (ready (s r)) c.loop-k.work c.loop-k.k c.loop-k.invariant c.loop-k-test.true c.copy_row.new.work c.copy_row.ensures
    (w₂ r) c.next_row-same.result c.next_row-same.ensures c.first_negative-u.result (part r) (part_is r) c.first_negative-u.ensures c.if-u-size.false

pub returns : goal.returns
returns c =
    let s = (goal.at.returns c).After-start_table in
    made s c.loop-k.work (2 * n s)
    (turn_end (n s) (L s) (w₀ s) (ready s) c.loop-k.work c.loop-k.k c.loop-k.invariant (omega arith))
