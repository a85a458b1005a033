-- `engine_table::made` meets its contract: each look is at what the next part asks.
use mathlib.Core.Path.{◌≡◌, sym, subst₂}
use mathlib.Core.Bool.{true}
use Prim.Native.Nat.{ℕ, ◌*◌}
use native.Mathlib.Omega.{arith}
use borrow.Author.Tests.{not-false}
use Rattle.engine_packed_steps.specs.Layout.{places_at, points_at_lem}
use Rattle.engine_finished_rows.specs.Kept.{RowsReady}
use Rattle.engine_table.specs.Placed.{Placed}
use Rattle.engine_table.specs.Settling.{Settling}
use Rattle.engine_table.specs.Made.{potential_ready, place_ready, made_none, made_not_placed, start_ready, settle_ready, made_not_settled, rows_ready, made_yes}
use mathlib.Core.Bool.{not}
use mathlib.Core.Path.{ap}
use Rattle.engine_table.proofs.made.Goals.{After-placed, After-settled, After-start_table}
use Rattle.engine_table.proofs.made.Goals as goal

pub is_potential-requires : goal.is_potential-requires
is_potential-requires c = rw c.row_at.ensures (potential_ready c.requires)

pub returns-then-not-is_potential : goal.returns-then-not-is_potential
returns-then-not-is_potential c = made_none c.requires

pub placed-requires : goal.placed-requires
placed-requires c =
    rw c.places_at-at.ensures (place_ready c.requires)

-- the variables have places, or have not
module _ (placed : After-placed) where
  tried : Placed placed.args.count placed.args.n (places_at placed.args.n) placed.args.work.now placed.placed.new.work placed.placed.result
  tried = rw placed.places_at-at.ensures at placed.placed.ensures

pub returns-then-not-placed : goal.returns-then-not-placed
returns-then-not-placed c =
    made_not_placed c.requires _ (tried (goal.at.returns-then-not-placed c).After-placed)

pub start_table-requires : goal.start_table-requires
start_table-requires c =
    start_ready c.requires _ (tried (goal.at.start_table-requires c).After-placed) (not-false _ (ap not c.if-not-placed.false))

-- the table is begun
module _ (begun : After-start_table) where
  yes : begun.placed.result ≡ true
  yes = not-false _ (ap not begun.if-not-placed.false)

pub alone-first-requires : goal.alone-first-requires
alone-first-requires c =
    omega (arith, c.places_at-at.ensures, (settle_ready c.requires _ (tried (goal.at.alone-first-requires c).After-placed) (yes (goal.at.alone-first-requires c).After-start_table) _ c.start_table.ensures).room)

pub settled-requires : goal.settled-requires
settled-requires c =
    rw c.points_at-pot.ensures (settle_ready c.requires _ (tried (goal.at.settled-requires c).After-placed) (yes (goal.at.settled-requires c).After-start_table) _ c.start_table.ensures)

-- the table is worked on
module _ (worked : After-settled) where
  settling : Settling worked.args.count (points_at_lem worked.args.n) (2 * worked.args.n) worked.start_table.new.work worked.settled.new.work worked.settled.result
  settling = rw worked.points_at-pot.ensures at worked.settled.ensures

pub returns-then-not-settled : goal.returns-then-not-settled
returns-then-not-settled c =
    made_not_settled c.requires _ (tried (goal.at.returns-then-not-settled c).After-placed) (yes (goal.at.returns-then-not-settled c).After-start_table) _ c.start_table.ensures _ (settling (goal.at.returns-then-not-settled c).After-settled)

pub write_rows-requires : goal.write_rows-requires
write_rows-requires c =
    subst₂ (λ (a b' : ℕ). RowsReady c.args.count c.args.n a b' c.settled.new.work) (sym c.places_at-at.ensures) (sym c.points_at-pot.ensures)
    (rows_ready c.requires _ (tried (goal.at.write_rows-requires c).After-placed) (yes (goal.at.write_rows-requires c).After-start_table) _ c.start_table.ensures _ (settling (goal.at.write_rows-requires c).After-settled) (c.is_potential.ensures (not-false _ (ap not c.if-not-is_potential.false))) (not-false _ (ap not c.if-not-settled.false)))

pub returns : goal.returns
returns c =
    made_yes c.requires _ (tried (goal.at.returns c).After-placed) (yes (goal.at.returns c).After-start_table) _ c.start_table.ensures _ (settling (goal.at.returns c).After-settled) (c.is_potential.ensures (not-false _ (ap not c.if-not-is_potential.false))) (not-false _ (ap not c.if-not-settled.false)) _
    (rw c.places_at-at.ensures at c.write_rows.ensures)
