-- `decide_rows::rows` meets its contract.
use mathlib.Core.Path.{◌≡◌, ap}
use mathlib.Core.List.{List}
use Prim.Native.Nat.{ℕ, suc, ◌+◌, ◌*◌, ◌<◌, ◌≤◌}
use native.Mathlib.Omega.{arith}
use lib.IntN.{ℤ, pos}
use mathlib.Core.Bool.{true}
use Rattle.integers.specs.Integer.{◌⋖◌}
use lib.ListN.{length}
use mir.Syntax.{w64}
use Rattle.integers.proofs.Linear.{ints, zs, given}
use Rattle.integers.proofs.Bits.{kept}
use Rattle.lines.specs.Line.{number, lines_of}
use Rattle.steps.specs.declared.Step.{Step}
use Rattle.steps.specs.Step.{steps_of}
use Rattle.theory_walks.specs.Row.{row_at}
use Rattle.decide_rows.specs.Read.{AllShort, max_distance}
use Rattle.decide_rows.specs.Next.{RowDone, single_ready, single_done}
use Rattle.decide_rows.specs.Rows.{Stops, settled, Turn, rows_short, rows_fit, turn_start, turn_short, turn_negative, turn_more, turn_same, turn_end}
use Rattle.decide_rows.proofs.rows.Goals.{After-next_row-same, After-start_row, then-same-via-then-same, then-same-via-else-same+then-own_entry-lt0}
use Rattle.decide_rows.proofs.rows.Goals as goal

-- after the start row
module _ (a : After-start_row) where
  abbrev size : ℕ
  size = 2 * a.args.n

  abbrev u : ℕ
  u = a.args.u

  abbrev E : List Step
  E = steps_of (lines_of a.args.list.now)

  abbrev w₁ : List ℤ
  w₁ = a.args.work.now

  abbrev w₀ : List ℤ
  w₀ = a.start_row.new.work

  short : (k : ℕ) → k ≤ size → AllShort max_distance (row_at E size u k)
  short k h = rows_short a.args.n a.args.list.now a.requires.few a.requires.valid u k h

pub loop-k-init : goal.loop-k-init
loop-k-init c =
    let s = (goal.at.loop-k-init c).After-start_row in
    turn_start (E s) (size s) (u s) (w₁ s) (w₀ s) c.start_row.ensures

pub next_row-same-requires : goal.next_row-same-requires
next_row-same-requires c =
    let s = (goal.at.next_row-same-requires c).After-start_row in
    let h = c.loop-k-test.true in
    single_ready c.args.n c.args.list.now c.loop-k.work (c.loop-k.k * size s) c.requires.few c.requires.valid
    (omega (arith, c.requires.room, c.start_row.auto.work, c.loop-k.auto.work, rows_fit c.loop-k.k (size s) h))
    (turn_short (E s) (size s) (u s) (w₁ s) (w₀ s) c.start_row.ensures c.loop-k.work c.loop-k.k c.loop-k.invariant (short s c.loop-k.k c.loop-k.auto.k-end))

-- after one more row
module _ (r : After-next_row-same) where
  abbrev s : After-start_row
  s = (goal.at.After-next_row-same r).After-start_row

  abbrev k : ℕ
  k = r.loop-k.k

  abbrev w : List ℤ
  w = r.next_row-same.new.work

  done : RowDone (size s) (E s) r.loop-k.work (k * size s) w r.next_row-same.result
  done = single_done (size s) (E s) r.loop-k.work (k * size s) w r.next_row-same.result r.next_row-same.ensures

  more : Turn (E s) (size s) (u s) (w₀ s) w (k + 1)
  more =
      turn_more (E s) (size s) (u s) (w₁ s) (w₀ s) r.start_row.ensures r.loop-k.work k r.loop-k.invariant
      (short s k r.loop-k.auto.k-end) w r.next_row-same.result done r.loop-k-test.true

  -- where the source's own entry stands
  entry_in : k * size s + size s + u s < length w
  entry_in =
      omega (arith, r.requires.within, r.requires.room, r.start_row.auto.work, r.loop-k.auto.work, r.next_row-same.auto.work, rows_fit k (size s) r.loop-k-test.true)

  same_stops : r.next_row-same.result ≡ true → Stops (E s) (size s) (u s) (k + 1)
  same_stops e =
      settled
      (turn_same (E s) (size s) (u s) (w₁ s) (w₀ s) r.start_row.ensures r.loop-k.work k r.loop-k.invariant (short s k r.loop-k.auto.k-end)
      w r.next_row-same.result done (short s (suc k) r.loop-k-test.true) r.loop-k-test.true e)

  negative_stops : number w (k * size s + size s + u s) ⋖ pos 0 → Stops (E s) (size s) (u s) (k + 1)
  negative_stops h =
      let e : k * size s + size s + u s ≡ (k + 1) * size s + u s = omega arith in
      turn_negative (E s) (size s) (u s) (w₁ s) (w₀ s) r.start_row.ensures w (k + 1) more (short s (k + 1) (omega (arith, r.loop-k-test.true))) r.requires.within (rw e at h)

pub slice_copy_out-own_entry : goal.slice_copy_out-own_entry
slice_copy_out-own_entry c = entry_in (goal.at.slice_copy_out-own_entry c).After-next_row-same

pub returns-then-same : goal.returns-then-same
returns-then-same c =
    let r = (goal.at.returns-then-same c).After-next_row-same in
    let s = (goal.at.returns-then-same c).After-start_row in
    turn_end (E s) (size s) (u s) (w₁ s) (w₀ s) c.start_row.ensures (w r) (k r + 1) (more r)
    (elim c.then-same.branch [
      | then-same-via-then-same b ↦ same_stops r b.if-same.true
      | then-same-via-else-same+then-own_entry-lt0 b ↦ negative_stops r (given (rw (kept w64 _ c.own_entry-1.given) at b.if-own_entry-lt0.true) (simp ints (omega zs)))
    ])

pub loop-k-preserved : goal.loop-k-preserved
loop-k-preserved c = more (goal.at.loop-k-preserved c).After-next_row-same

pub returns : goal.returns
returns c =
    let s = (goal.at.returns c).After-start_row in
    let e : c.loop-k.k ≡ size s = omega arith in
    rw e at (turn_end (E s) (size s) (u s) (w₁ s) (w₀ s) c.start_row.ensures c.loop-k.work c.loop-k.k c.loop-k.invariant (settled (ap (row_at (E s) (size s) (u s)) e)))
