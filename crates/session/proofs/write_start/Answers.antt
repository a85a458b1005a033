-- `session::write_start` meets its contract.
use mathlib.Core.Path.{◌≡◌, ap, ◌∙◌}
use mathlib.Core.List.{List, []}
use Prim.Native.Nat.{ℕ}
use native.Mathlib.Omega.{arith}
use borrow.Author.Rules.{rules}
use lib.IntN.{ℤ}
use lib.ListN.{length}
use Rattle.session_state.specs.State.{known_in, with_known}
use Rattle.session_known.specs.Known.{known_anew_lem}
use Rattle.session.specs.Taken.{start_is}
use Rattle.session.proofs.write_start.Goals.{After-begin_state}
use Rattle.session.proofs.write_start.Goals as goal

-- n and no lines are written
module _ (b : After-begin_state) where
  abbrev n : ℕ
  n = b.args.n

  abbrev front : List ℤ
  front = b.begin_state.new.state

pub put_known-requires : goal.put_known-requires
put_known-requires c =
    let same : length (front (goal.at.put_known-requires c).After-begin_state) ≡ length c.args.state.now = search rules in
    (c.requires.0, (λ k h. absurd (omega (arith, h))), omega (arith, same, c.requires.1))

pub returns : goal.returns
returns c =
    start_is (n (goal.at.returns c).After-begin_state) c.requires.0 c.args.state.now _
    (c.put_known.ensures ∙ ap (λ (x : List ℤ). with_known (n (goal.at.returns c).After-begin_state) x (known_anew_lem (n (goal.at.returns c).After-begin_state) [] (known_in (n (goal.at.returns c).After-begin_state) x))) c.begin_state.ensures)
