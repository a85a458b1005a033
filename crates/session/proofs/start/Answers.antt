-- `session::start` meets its contract: each way out has the tests that led there.
use mathlib.Core.Path.{refl}
use borrow.Author.Tests.{lt-ltb, le-ltb}
use Rattle.session_promise.specs.Promise.{start_answer}
use Rattle.session.proofs.start.Goals as goal

pub returns-then-n-gt-MAX_VARIABLES : goal.returns-then-n-gt-MAX_VARIABLES
unfolding start_answer
returns-then-n-gt-MAX_VARIABLES c = record { is = rw (lt-ltb _ _ c.if-n-gt-MAX_VARIABLES.true); state = refl }

pub session_room-requires : goal.session_room-requires
session_room-requires c = c.if-n-gt-MAX_VARIABLES.false

pub returns-then-state-session_room : goal.returns-then-state-session_room
unfolding start_answer
returns-then-state-session_room c =
    record { is = rw (le-ltb _ _ c.if-n-gt-MAX_VARIABLES.false, lt-ltb _ _ (rw c.session_room.ensures at c.if-state-session_room.true)); state = refl }

pub write_start-requires : goal.write_start-requires
write_start-requires c =
    (c.if-n-gt-MAX_VARIABLES.false, rw c.session_room.ensures at c.if-state-session_room.false)

pub returns : goal.returns
unfolding start_answer
returns c =
    record {
      is = rw (le-ltb _ _ c.if-n-gt-MAX_VARIABLES.false, le-ltb _ _ (rw c.session_room.ensures at c.if-state-session_room.false));
      state = c.write_start.ensures;
    }
