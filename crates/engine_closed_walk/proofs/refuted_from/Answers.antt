-- `engine_closed_walk::refuted_from` meets its contract: the walk that was followed back makes the refutation.
use mathlib.Core.Path.{◌≡◌, refl}
use Prim.Native.Nat.{◌*◌, ◌<◌}
use native.Mathlib.Omega.{arith}
use borrow.Author.Rules.{rules}
use lib.IntN.{pos}
use mir.Syntax.{w64}
use mir.Val.{to_z, of_z}
use mir.Facts.{to_z-of_z}
use Rattle.integers.specs.Integer.{◌⋖◌}
use Rattle.integers.proofs.Halving.{test_yes}
use Rattle.engine_packed_steps.specs.Layout.{walks_at, row_at}
use Rattle.engine_packed_steps.specs.Scratch.{Scratch, scratch_none}
use Rattle.engine_closed_walk.specs.Follow.{small_fits}
use Rattle.engine_closed_walk.specs.AtOnce.{not_from, follow_ready, followed_scratch, copy_fits, at_once_from}
use Rattle.engine_closed_walk.proofs.refuted_from.Goals.{After-follow_back-walk, After-row_at-row, Then-walk-lt0}
use Rattle.engine_closed_walk.proofs.refuted_from.Goals as goal

-- the row's place
module _ (placed : After-row_at-row) where
  abbrev row_is : placed.row_at-row.result ≡ row_at placed.args.n
  row_is = placed.row_at-row.ensures

pub overflow_add-row : goal.overflow_add-row
overflow_add-row call =
    let h = row_is call in
    let k = call.requires.0.work_room in
    search rules

pub far_back-q-requires : goal.far_back-q-requires
far_back-q-requires call =
    let ready = call.requires in
    (omega (arith, row_is call, ready.0.work_room), ready.1)

pub returns-then-size-q : goal.returns-then-size-q
returns-then-size-q exit = not_from _ _ _ _ _ _ refl (scratch_none (walks_at exit.args.n) (row_at exit.args.n) exit.args.work.now)

pub follow_back-walk-requires : goal.follow_back-walk-requires
follow_back-walk-requires call =
    follow_ready _ _ _ _ call.requires.0 _ (omega (arith, call.if-size-q.false)) _ (row_is (goal.at.follow_back-walk-requires call).After-row_at-row)

-- the marks were followed
module _ (walked : After-follow_back-walk) where
  within : walked.far_back-q.result < 2 * walked.args.n
  within = omega (arith, walked.if-size-q.false)

  kept : Scratch (walks_at walked.args.n) (row_at walked.args.n) walked.args.work.now walked.follow_back-walk.new.work
  kept = followed_scratch _ _ _ _ walked.requires.0 _ within _ (row_is (goal.at.After-follow_back-walk walked).After-row_at-row) _ _ walked.follow_back-walk.ensures

  sum_is : to_z w64 (of_z w64 walked.follow_back-walk.result.sum) ≡ walked.follow_back-walk.result.sum
  sum_is = to_z-of_z (small_fits _ walked.follow_back-walk.ensures.walk.small)

pub returns-then-start-row : goal.returns-then-start-row
returns-then-start-row exit = not_from _ _ _ _ _ _ refl (kept (goal.at.returns-then-start-row exit).After-follow_back-walk)

-- its sum is below 0
module _ (negative : Then-walk-lt0) where
  low : negative.follow_back-walk.result.sum ⋖ pos 0
  low = test_yes _ _ (rw (sum_is (goal.at.Then-walk-lt0 negative).After-follow_back-walk) at negative.if-walk-lt0.true)

pub copy_numbers-requires : goal.copy_numbers-requires
copy_numbers-requires call =
    copy_fits _ _ _ _ call.requires.0 _ (within (goal.at.copy_numbers-requires call).After-follow_back-walk) _ (row_is (goal.at.copy_numbers-requires call).After-row_at-row) _ _ call.follow_back-walk.ensures call.if-start-row.false

pub returns-then-walk-lt0 : goal.returns-then-walk-lt0
returns-then-walk-lt0 exit =
    at_once_from _ _ _ _ exit.requires.0 _ (within (goal.at.returns-then-walk-lt0 exit).After-follow_back-walk) _ (row_is (goal.at.returns-then-walk-lt0 exit).After-row_at-row) _ _ exit.follow_back-walk.ensures exit.if-start-row.false (low (goal.at.returns-then-walk-lt0 exit).Then-walk-lt0) _ exit.copy_numbers.ensures _ exit.write_head.ensures

pub returns : goal.returns
returns exit = not_from _ _ _ _ _ _ refl (kept (goal.at.returns exit).After-follow_back-walk)
