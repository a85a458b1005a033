-- `tree_reading::read_all_of` and `tree_reading::read_any_of`, which call each other one level down, meet their contracts.
use Rattle.std.specs.Prelude.{Ok}
use Rattle.std.proofs.Common.{sym, ap, ◌∙◌, arith}
use Rattle.std.proofs.Math.Nat.{sub-zero}
use Rattle.std.proofs.lemmas.Result.{err_from_is_err_and}
use Rattle.tree_reading.specs.declared.Kind.TheVariants.{AllOf, AnyOf}
use Rattle.tree_reading.specs.Running.{line_at_law, node_at, node_line, node_wrong, begins, goes_on, stops, ends}
use Rattle.tree_reading.proofs.+read_all_of_read_any_of.Goals as goal

pub read_all_of-begun-requires : goal.read_all_of-begun-requires
read_all_of-begun-requires t c = (line_at_law _ _ _ AllOf _ (sym c.in_ok-head_at.ensures ∙ ap Ok c.in-Line.is)).whole

pub read_all_of-begun-node-requires : goal.read_all_of-begun-node-requires
read_all_of-begun-node-requires t c = (node_at _ _ _ AllOf _ _ (sym c.in_ok-head_at.ensures ∙ ap Ok c.in-Children.is)).whole

pub read_all_of-loop-init : goal.read_all_of-loop-init
read_all_of-loop-init t c = rw (c.begun-node.ensures, sub-zero) (begins _ _ _ AllOf _ _ (sym c.in_ok-head_at.ensures ∙ ap Ok c.in-Children.is))

pub read_all_of-loop-preserved : goal.read_all_of-loop-preserved
read_all_of-loop-preserved t c =
    rw c.with_child-node.ensures (goes_on _ _ _ AllOf _ _ _ c.loop.node _ c.loop.invariant (omega arith) (sym c.in_ok-child-in-Children.ensures))

pub read_all_of-returns-in_err-head_at : goal.read_all_of-returns-in_err-head_at
read_all_of-returns-in_err-head_at t c =
    let p = err_from_is_err_and c.from_residual.result c.from_residual.ensures.1 in
    rw (p.1, p.2) (sym (node_wrong _ _ _ AllOf _ _ (sym c.in_err-head_at.ensures)))

pub read_all_of-returns-in_err-child-in-Children : goal.read_all_of-returns-in_err-child-in-Children
read_all_of-returns-in_err-child-in-Children t c =
    let result = c.from_residual-in_err-child-in-Children in
    let p = err_from_is_err_and result.result result.ensures.1 in
    rw (p.1, p.2) (stops _ _ _ AllOf _ _ _ _ c.loop.invariant (omega arith) (sym c.in_err-child-in-Children.ensures))

pub read_all_of-returns-in-Line : goal.read_all_of-returns-in-Line
read_all_of-returns-in-Line t c = ap Ok c.begun.ensures ∙ sym (node_line _ _ _ AllOf _ (sym c.in_ok-head_at.ensures ∙ ap Ok c.in-Line.is))

pub read_all_of-returns-after-loop : goal.read_all_of-returns-after-loop
read_all_of-returns-after-loop t c = ap Ok c.finished.ensures ∙ ends _ _ _ AllOf _ _ _ c.loop.invariant (omega arith)

pub read_any_of-begun-requires : goal.read_any_of-begun-requires
read_any_of-begun-requires t c = (line_at_law _ _ _ AnyOf _ (sym c.in_ok-head_at.ensures ∙ ap Ok c.in-Line.is)).whole

pub read_any_of-begun-node-requires : goal.read_any_of-begun-node-requires
read_any_of-begun-node-requires t c = (node_at _ _ _ AnyOf _ _ (sym c.in_ok-head_at.ensures ∙ ap Ok c.in-Children.is)).whole

pub read_any_of-loop-init : goal.read_any_of-loop-init
read_any_of-loop-init t c = rw (c.begun-node.ensures, sub-zero) (begins _ _ _ AnyOf _ _ (sym c.in_ok-head_at.ensures ∙ ap Ok c.in-Children.is))

pub read_any_of-loop-preserved : goal.read_any_of-loop-preserved
read_any_of-loop-preserved t c =
    rw c.with_child-node.ensures (goes_on _ _ _ AnyOf _ _ _ c.loop.node _ c.loop.invariant (omega arith) (sym c.in_ok-child-in-Children.ensures))

pub read_any_of-returns-in_err-head_at : goal.read_any_of-returns-in_err-head_at
read_any_of-returns-in_err-head_at t c =
    let p = err_from_is_err_and c.from_residual.result c.from_residual.ensures.1 in
    rw (p.1, p.2) (sym (node_wrong _ _ _ AnyOf _ _ (sym c.in_err-head_at.ensures)))

pub read_any_of-returns-in_err-child-in-Children : goal.read_any_of-returns-in_err-child-in-Children
read_any_of-returns-in_err-child-in-Children t c =
    let result = c.from_residual-in_err-child-in-Children in
    let p = err_from_is_err_and result.result result.ensures.1 in
    rw (p.1, p.2) (stops _ _ _ AnyOf _ _ _ _ c.loop.invariant (omega arith) (sym c.in_err-child-in-Children.ensures))

pub read_any_of-returns-in-Line : goal.read_any_of-returns-in-Line
read_any_of-returns-in-Line t c = ap Ok c.begun.ensures ∙ sym (node_line _ _ _ AnyOf _ (sym c.in_ok-head_at.ensures ∙ ap Ok c.in-Line.is))

pub read_any_of-returns-after-loop : goal.read_any_of-returns-after-loop
read_any_of-returns-after-loop t c = ap Ok c.finished.ensures ∙ ends _ _ _ AnyOf _ _ _ c.loop.invariant (omega arith)
