-- `lines::list_validity` meets its contract: each way out has the tests that led there.
use Prim.Native.Nat.{◌%◌}
use borrow.Author.Tests.{lt-ltb, le-ltb, eq-eqb, ne_eqb}
use lib.ListN.{length}
use Rattle.lines.specs.Limits.{line_size, max_variables, max_lines}
use Rattle.lines.specs.Refusal.{validity_of}
use Rattle.lines.proofs.list_validity.Goals as goal

-- `lines::list_validity` meets its contract: each way out has the tests that led there.
pub returns-then-n-gt-MAX_VARIABLES : goal.returns-then-n-gt-MAX_VARIABLES
unfolding validity_of
returns-then-n-gt-MAX_VARIABLES c = rw (lt-ltb max_variables _ c.if-n-gt-MAX_VARIABLES.true)

pub returns-then-list-ne0 : goal.returns-then-list-ne0
unfolding validity_of
returns-then-list-ne0 c = rw (le-ltb _ _ c.if-n-gt-MAX_VARIABLES.false, ne_eqb (length c.args.list.now % line_size) 0 c.if-list-ne0.true)

pub returns-then-list-gt-MAX_LINES : goal.returns-then-list-gt-MAX_LINES
unfolding validity_of
returns-then-list-gt-MAX_LINES c = rw (le-ltb _ _ c.if-n-gt-MAX_VARIABLES.false, eq-eqb _ _ c.if-list-ne0.false, lt-ltb max_lines _ c.if-list-gt-MAX_LINES.true)

pub returns : goal.returns
unfolding validity_of
returns c =
    rw (le-ltb _ _ c.if-n-gt-MAX_VARIABLES.false, eq-eqb _ _ c.if-list-ne0.false, le-ltb _ _ c.if-list-gt-MAX_LINES.false) c.lines_validity.ensures
