-- `engine_table::start_table` meets its contract: numbers of points, far everywhere, single steps.
use native.Mathlib.Omega.{arith}
use Prim.Native.Nat.{◌*◌}
use Rattle.engine_packed_steps.specs.Layout.{row_width, points_at_lem, square_small}
use Rattle.engine_reduced_start.specs.Start.{Pointed, AllFar}
use Rattle.engine_table.specs.Settling.{points_ready, far_room, begun, started}
use Rattle.engine_table.proofs.start_table.Goals.{After-fill_far, After-write_points}
use Rattle.engine_table.proofs.start_table.Goals as goal

pub overflow_add-places_at : goal.overflow_add-places_at
overflow_add-places_at c =
    record { fits = omega (arith, c.places_at.ensures, square_small c.args.n c.requires.few, c.requires.few) }

pub write_points-requires : goal.write_points-requires
write_points-requires c =
    rw (c.places_at.ensures, c.row_at.ensures, c.points_at-pot.ensures) (points_ready c.requires)

-- the numbers of points are written
module _ (pointed : After-write_points) where
  points : Pointed (points_at_lem pointed.args.n) (2 * pointed.args.n) pointed.args.work.now pointed.write_points.new.work (2 * pointed.args.n)
  points = rw pointed.points_at-pot.ensures at pointed.write_points.ensures

pub fill_far-requires : goal.fill_far-requires
fill_far-requires c =
    rw c.points_at-pot.ensures (far_room c.requires _ (points (goal.at.fill_far-requires c).After-write_points))

-- the table is far everywhere
module _ (filled : After-fill_far) where
  all_far : AllFar (points_at_lem filled.args.n) (2 * filled.args.n) filled.write_points.new.work filled.fill_far.new.work (2 * filled.args.n * row_width (2 * filled.args.n))
  all_far = rw filled.points_at-pot.ensures at filled.fill_far.ensures

pub put_all-requires : goal.put_all-requires
put_all-requires c =
    rw c.points_at-pot.ensures (begun c.requires _ (points (goal.at.put_all-requires c).After-write_points) _ (all_far (goal.at.put_all-requires c).After-fill_far))

pub returns : goal.returns
returns c =
    started c.requires _ (points (goal.at.returns c).After-write_points) _ (all_far (goal.at.returns c).After-fill_far) _ (rw c.points_at-pot.ensures at c.put_all.ensures)
