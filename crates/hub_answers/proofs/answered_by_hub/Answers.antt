-- `hub_answers::answered_by_hub` meets its contract.
use mathlib.Core.Path.{◌≡◌}
use mathlib.Core.Bool.{true}
use Prim.Native.Nat.{◌≤◌}
use native.Mathlib.Omega.{arith}
use borrow.Author.Tests.{not-false}
use Rattle.lines.specs.Line.{line_count, lines_of}
use Rattle.lines.specs.Valid.{modellable_works}
use Rattle.theory_bounds.specs.Verdict.{first_false_lem}
use Rattle.engine_packed_steps.specs.Scratch.{scratch_none}
use Rattle.hub_weights.specs.Weights.{weights_end}
use Rattle.hub_answers.specs.Answered.{not_answered, weights_asked, hub_answered}
use mathlib.Core.Bool.{not}
use mathlib.Core.Path.{ap}
use Rattle.hub_answers.proofs.answered_by_hub.Goals.{Else-first_false-list}
use Rattle.hub_answers.proofs.answered_by_hub.Goals as goal

pub returns-then-n-eq0 : goal.returns-then-n-eq0
returns-then-n-eq0 c = not_answered (scratch_none 0 (weights_end c.args.n) _)

pub lay_weights-requires : goal.lay_weights-requires
lay_weights-requires c = let a = c.requires in record { valid = modellable_works _ _ a.valid; room = a.work_room }

pub returns-then-not-lay_weights : goal.returns-then-not-lay_weights
returns-then-not-lay_weights c = not_answered c.lay_weights.ensures.scratch

pub returns-then-first_false-list : goal.returns-then-first_false-list
returns-then-first_false-list c = not_answered c.lay_weights.ensures.scratch

-- after both tests
module _ (c : Else-first_false-list) where
  some_variable : 1 ≤ c.args.n
  some_variable = omega (arith, c.if-n-eq0.false)

  one_hub : c.lay_weights.result ≡ true
  one_hub = not-false _ (ap not c.if-not-lay_weights.false)

  clear : line_count c.args.list.now ≤ first_false_lem 0 (lines_of c.args.list.now)
  clear = omega (arith, c.if-first_false-list.false, c.first_false.ensures)

pub answered_from-requires : goal.answered_from-requires
answered_from-requires c =
    weights_asked c.requires (some_variable (goal.at.answered_from-requires c).Else-first_false-list) c.lay_weights.ensures (one_hub (goal.at.answered_from-requires c).Else-first_false-list) (clear (goal.at.answered_from-requires c).Else-first_false-list)

pub returns : goal.returns
returns c =
    hub_answered c.requires (some_variable (goal.at.returns c).Else-first_false-list) c.lay_weights.ensures (one_hub (goal.at.returns c).Else-first_false-list) (clear (goal.at.returns c).Else-first_false-list) c.answered_from.ensures
