-- `steps::lone_side` meets its contract.
use borrow.Author.Tests.{eq-eqb, ne_eqb}
use Rattle.steps.proofs.lone_side.Goals as goal

pub returns-then-digit-eq1 : goal.returns-then-digit-eq1
returns-then-digit-eq1 c = rw (eq-eqb _ 1 c.if-digit-eq1.true) c.no_step.ensures

pub returns-then-side-eq1 : goal.returns-then-side-eq1
returns-then-side-eq1 c = rw (ne_eqb _ 1 c.if-digit-eq1.false) (rw (eq-eqb _ 1 c.if-side-eq1.true) c.no_step-then-side-eq1.ensures)

pub returns : goal.returns
returns c = rw (ne_eqb _ 1 c.if-digit-eq1.false) (rw (ne_eqb _ 1 c.if-side-eq1.false))
