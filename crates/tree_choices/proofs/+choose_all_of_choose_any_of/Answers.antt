-- `tree_choices::choose_all_of` and `tree_choices::choose_any_of`, which call each other one level down, meet their contracts.
use Rattle.std.specs.Prelude.{Ok}
use Rattle.std.proofs.Common.{sym, ap, ◌∙◌, arith}
use Rattle.std.proofs.Math.Nat.{sub-zero}
use Rattle.tree_reading.specs.declared.Kind.TheVariants.{AllOf, AnyOf}
use Rattle.tree_reading.specs.Running.{line_at_law, node_at}
use Rattle.tree_choices.specs.Marking.{chosen_line, chosen_wrong, begins, ends, stops, next_factor, next_branch, branch_taken}
use Rattle.tree_choices.proofs.+choose_all_of_choose_any_of.Goals as goal

pub choose_all_of-overflow_add-at : goal.choose_all_of-overflow_add-at
choose_all_of-overflow_add-at t c = omega (arith, (line_at_law _ _ _ AllOf _ (sym c.in-Ok-Line.ensures ∙ ap Ok c.in-Ok-Line.field-0-is)).whole)

pub choose_all_of-offset_bounds-tree-at : goal.choose_all_of-offset_bounds-tree-at
choose_all_of-offset_bounds-tree-at t c = omega (arith, (line_at_law _ _ _ AllOf _ (sym c.in-Ok-Line.ensures ∙ ap Ok c.in-Ok-Line.field-0-is)).whole)

pub choose_all_of-bounds-tree-at : goal.choose_all_of-bounds-tree-at
choose_all_of-bounds-tree-at t c = omega (arith, (line_at_law _ _ _ AllOf _ (sym c.in-Ok-Line.ensures ∙ ap Ok c.in-Ok-Line.field-0-is)).whole)

pub choose_all_of-overflow_add-from : goal.choose_all_of-overflow_add-from
choose_all_of-overflow_add-from t c = omega (arith, (node_at _ _ _ AllOf _ _ (sym c.in-Ok-Children.ensures ∙ ap Ok c.in-Ok-Children.field-0-is)).whole)

pub choose_all_of-loop-init : goal.choose_all_of-loop-init
choose_all_of-loop-init t c = rw sub-zero (begins _ _ _ AllOf _ _ _ _ _ (sym c.in-Ok-Children.ensures ∙ ap Ok c.in-Ok-Children.field-0-is))

pub choose_all_of-loop-preserved : goal.choose_all_of-loop-preserved
choose_all_of-loop-preserved t c =
    rw (c.remainder-nth.ensures, c.quotient-rest.ensures)
    (next_factor _ _ _ _ _ _ _ _ c.loop.from c.loop.rest c.loop.nth c.loop.picked _ _ _ (omega arith) c.loop.invariant
    (sym c.in-Ok.ensures) (rw (c.quotient-part.ensures, c.quotient-rest.ensures) at c.choose_any_of.ensures))

pub choose_all_of-returns-in_default : goal.choose_all_of-returns-in_default
choose_all_of-returns-in_default t c = stops _ _ _ AllOf _ _ _ _ _ _ _ _ _ c.loop.invariant _ (omega arith) (sym c.in_default.ensures)

pub choose_all_of-returns-in-Err : goal.choose_all_of-returns-in-Err
choose_all_of-returns-in-Err t c = sym (chosen_wrong _ _ _ AllOf _ _ _ _ _ (sym c.in-Err.ensures))

pub choose_all_of-returns-in-Ok-Line : goal.choose_all_of-returns-in-Ok-Line
choose_all_of-returns-in-Ok-Line t c =
    rw c.as_index.ensures at c.pick.ensures ∙ sym (chosen_line _ _ _ AllOf _ _ _ _ (sym c.in-Ok-Line.ensures ∙ ap Ok c.in-Ok-Line.field-0-is))

pub choose_all_of-returns-after-loop : goal.choose_all_of-returns-after-loop
choose_all_of-returns-after-loop t c = ends _ _ _ AllOf _ _ _ _ _ _ _ _ _ c.loop.invariant (omega arith)

pub choose_any_of-overflow_add-at : goal.choose_any_of-overflow_add-at
choose_any_of-overflow_add-at t c = omega (arith, (line_at_law _ _ _ AnyOf _ (sym c.in-Ok-Line.ensures ∙ ap Ok c.in-Ok-Line.field-0-is)).whole)

pub choose_any_of-offset_bounds-tree-at : goal.choose_any_of-offset_bounds-tree-at
choose_any_of-offset_bounds-tree-at t c = omega (arith, (line_at_law _ _ _ AnyOf _ (sym c.in-Ok-Line.ensures ∙ ap Ok c.in-Ok-Line.field-0-is)).whole)

pub choose_any_of-bounds-tree-at : goal.choose_any_of-bounds-tree-at
choose_any_of-bounds-tree-at t c = omega (arith, (line_at_law _ _ _ AnyOf _ (sym c.in-Ok-Line.ensures ∙ ap Ok c.in-Ok-Line.field-0-is)).whole)

pub choose_any_of-overflow_add-from : goal.choose_any_of-overflow_add-from
choose_any_of-overflow_add-from t c = omega (arith, (node_at _ _ _ AnyOf _ _ (sym c.in-Ok-Children.ensures ∙ ap Ok c.in-Ok-Children.field-0-is)).whole)

pub choose_any_of-loop-init : goal.choose_any_of-loop-init
choose_any_of-loop-init t c = rw sub-zero (begins _ _ _ AnyOf _ _ _ _ _ (sym c.in-Ok-Children.ensures ∙ ap Ok c.in-Ok-Children.field-0-is))

pub choose_any_of-returns-then-nth-child : goal.choose_any_of-returns-then-nth-child
choose_any_of-returns-then-nth-child t c =
    branch_taken _ _ _ _ _ _ _ _ c.loop.from _ c.loop.nth c.loop.picked _ _ (omega arith) c.loop.invariant (sym c.in-Ok.ensures)
    c.if-nth-child.true c.choose_all_of.ensures

pub choose_any_of-loop-preserved : goal.choose_any_of-loop-preserved
choose_any_of-loop-preserved t c =
    next_branch _ _ _ _ _ _ _ _ c.loop.from _ c.loop.nth c.loop.picked c.loop.picked _ _ (omega arith) c.loop.invariant (sym c.in-Ok.ensures)
    c.if-nth-child.false

pub choose_any_of-returns-in_default : goal.choose_any_of-returns-in_default
choose_any_of-returns-in_default t c = stops _ _ _ AnyOf _ _ _ _ _ _ _ _ _ c.loop.invariant _ (omega arith) (sym c.in_default.ensures)

pub choose_any_of-returns-in-Err : goal.choose_any_of-returns-in-Err
choose_any_of-returns-in-Err t c = sym (chosen_wrong _ _ _ AnyOf _ _ _ _ _ (sym c.in-Err.ensures))

pub choose_any_of-returns-in-Ok-Line : goal.choose_any_of-returns-in-Ok-Line
choose_any_of-returns-in-Ok-Line t c =
    rw c.as_index.ensures at c.pick.ensures ∙ sym (chosen_line _ _ _ AnyOf _ _ _ _ (sym c.in-Ok-Line.ensures ∙ ap Ok c.in-Ok-Line.field-0-is))

pub choose_any_of-returns-after-loop : goal.choose_any_of-returns-after-loop
choose_any_of-returns-after-loop t c = ends _ _ _ AnyOf _ _ _ _ _ _ _ _ _ c.loop.invariant (omega arith)
