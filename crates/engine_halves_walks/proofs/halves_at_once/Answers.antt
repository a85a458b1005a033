-- `engine_halves_walks::halves_at_once` meets its contract: where both walks were found and their halves sum below 0, they make the refutation.
use mathlib.Core.Path.{◌≡◌, ap, ◌∙◌}
use native.Mathlib.Omega.{arith}
use borrow.Author.Rules.{rules}
use lib.IntN.{ℤ, pos, ◌+ℤ◌}
use mir.Syntax.{w64}
use mir.Val.{SFits, to_z, of_z}
use mir.Facts.{to_z-of_z}
use Rattle.integers.specs.Integer.{◌⋖◌, half}
use Rattle.integers.proofs.Halving.{test_yes}
use Rattle.engine_packed_steps.specs.Scratch.{Scratch}
use Rattle.engine_packed_steps.specs.Layout.{places_at}
use Rattle.engine_closed_walk.specs.Follow.{small_fits}
use Rattle.engine_halves_walks.specs.Halves.{halves_fit, not_at_once, back_ready, first_kept, there_ready, both_kept, copy_fits, both_written}
use Rattle.engine_halves_walks.proofs.halves_at_once.Goals.{After-halved-2, After-walk_between-there, Then-halved-lt0}
use Rattle.engine_halves_walks.proofs.halves_at_once.Goals as goal

pub walk_between-back-requires : goal.walk_between-back-requires
walk_between-back-requires call =
    back_ready call.requires.0 call.requires.1 call.opposite_of-q.ensures call.row_at-row.ensures call.lay_steps-count.ensures

pub returns-then-middle-row : goal.returns-then-middle-row
returns-then-middle-row exit =
    not_at_once _ _ _ _ _ (first_kept exit.requires.0 exit.requires.1 exit.opposite_of-q.ensures exit.row_at-row.ensures exit.lay_steps-count.ensures exit.walk_between-back.ensures)

pub walk_between-there-requires : goal.walk_between-there-requires
walk_between-there-requires call =
    there_ready call.requires.0 call.requires.1 call.opposite_of-q.ensures call.row_at-row.ensures call.lay_steps-count.ensures call.walk_between-back.ensures

-- the walk back to it is tried
module _ (there : After-walk_between-there) where
  kept : Scratch 0 (places_at there.args.n) there.args.work.now there.walk_between-there.new.work
  kept = both_kept there.requires.0 there.requires.1 there.opposite_of-q.ensures there.row_at-row.ensures there.lay_steps-count.ensures there.walk_between-back.ensures there.walk_between-there.ensures

pub returns-then-first-middle : goal.returns-then-first-middle
returns-then-first-middle exit = not_at_once _ _ _ _ _ (kept (goal.at.returns-then-first-middle exit).After-walk_between-there)

-- the halves
module _ (halves : After-halved-2) where
  abbrev there_sum : ℤ
  there_sum = halves.walk_between-there.result.sum

  abbrev back_sum : ℤ
  back_sum = halves.walk_between-back.result.sum

  first_is : to_z w64 (of_z w64 halves.halved.result) ≡ half there_sum
  first_is = to_z-of_z {w = w64} (record { sfits = halves.halved.type_inv }) ∙ halves.halved.ensures ∙ ap half (to_z-of_z (small_fits _ halves.walk_between-there.ensures.walk.small))

  second_is : to_z w64 (of_z w64 halves.halved-2.result) ≡ half back_sum
  second_is = to_z-of_z {w = w64} (record { sfits = halves.halved-2.type_inv }) ∙ halves.halved-2.ensures ∙ ap half (to_z-of_z (small_fits _ halves.walk_between-back.ensures.walk.small))

  fits : SFits w64 (half there_sum +ℤ half back_sum)
  fits = halves_fit _ _ halves.walk_between-there.ensures.walk.small halves.walk_between-back.ensures.walk.small

  sum_is : to_z w64 (of_z w64 (to_z w64 (of_z w64 halves.halved.result) +ℤ to_z w64 (of_z w64 halves.halved-2.result))) ≡ half there_sum +ℤ half back_sum
  sum_is = rw (first_is, second_is) (to_z-of_z fits)

pub overflow_add-halved : goal.overflow_add-halved
overflow_add-halved halves = rw (first_is halves, second_is halves) (fits halves)

-- they sum below 0
module _ (negative : Then-halved-lt0) where
  low : half (there_sum (goal.at.Then-halved-lt0 negative).After-halved-2) +ℤ half (back_sum (goal.at.Then-halved-lt0 negative).After-halved-2) ⋖ pos 0
  low = test_yes _ _ (rw (sum_is (goal.at.Then-halved-lt0 negative).After-halved-2) at negative.if-halved-lt0.true)

pub copy_numbers-requires : goal.copy_numbers-requires
copy_numbers-requires call =
    copy_fits call.requires.0 call.requires.1 call.opposite_of-q.ensures call.row_at-row.ensures call.lay_steps-count.ensures call.walk_between-back.ensures call.walk_between-there.ensures call.if-middle-row.false
    call.if-first-middle.false

pub write_head-requires : goal.write_head-requires
write_head-requires call =
    let ready = call.requires.0 in
    let room = ready.room in
    (search rules, omega (arith, call.walk_between-there.ensures.walk.low, ready.few), omega (arith, call.walk_between-back.ensures.walk.low, ready.few))

pub returns-then-halved-lt0 : goal.returns-then-halved-lt0
returns-then-halved-lt0 exit =
    both_written exit.requires.0 exit.requires.1 exit.opposite_of-q.ensures exit.row_at-row.ensures exit.lay_steps-count.ensures exit.walk_between-back.ensures exit.walk_between-there.ensures
    exit.if-middle-row.false exit.if-first-middle.false (low (goal.at.returns-then-halved-lt0 exit).Then-halved-lt0) _ exit.copy_numbers.ensures _ exit.write_head.ensures

pub returns : goal.returns
returns exit = not_at_once _ _ _ _ _ (kept (goal.at.returns exit).After-walk_between-there)
