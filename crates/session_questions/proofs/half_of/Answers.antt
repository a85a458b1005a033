-- `session_questions::half_of` meets its contract.
use mathlib.Core.Path.{◌≡◌, sym, ap, ◌∙◌}
use Prim.Native.Nat.{ℕ, ◌*◌}
use mir.Syntax.{w64}
use mir.Val.{to_z, of_z}
use Rattle.integers.specs.Integer.{half}
use Rattle.integers.proofs.Bits.{kept}
use Rattle.steps.specs.Point.{opposite}
use Rattle.theory_bounds.specs.Points.{opposite_below}
use Rattle.decide_rows.specs.Stored.{stored}
use Rattle.decide_rows.specs.Read.{no_walk_lem}
use Rattle.session_step.specs.Read.{small_table}
use Rattle.session_questions.specs.Asked.{half_none_at, half_some_at}
use Rattle.session_questions.proofs.half_of.Goals.{After-read_at-distance}
use Rattle.session_questions.proofs.half_of.Goals as goal

pub read_at-distance-requires : goal.read_at-distance-requires
read_at-distance-requires c =
    rw c.opposite_of.ensures (c.requires.0, c.requires.1, opposite_below c.args.n c.args.p c.requires.1)

-- the entry that was read
module _ (c : After-read_at-distance) where
  abbrev N : ℕ
  N = 2 * c.args.n

  is : c.read_at-distance.result ≡ stored (small_table N c.args.table.now c.args.p (opposite c.args.p))
  is = c.read_at-distance.ensures ∙ ap (λ (q : ℕ). stored (small_table N c.args.table.now c.args.p q)) c.opposite_of.ensures

  as_read : to_z w64 (of_z w64 c.read_at-distance.result) ≡ c.read_at-distance.result
  as_read = kept w64 c.read_at-distance.result c.read_at-distance.type_inv

pub returns-then-distance-eq-NO_WALK : goal.returns-then-distance-eq-NO_WALK
returns-then-distance-eq-NO_WALK c =
    half_none_at (N (goal.at.returns-then-distance-eq-NO_WALK c).After-read_at-distance) c.args.table.now c.args.p c.read_at-distance.result (is (goal.at.returns-then-distance-eq-NO_WALK c).After-read_at-distance) (sym (as_read (goal.at.returns-then-distance-eq-NO_WALK c).After-read_at-distance) ∙ ap (to_z w64) c.if-distance-eq-NO_WALK.true)

pub returns : goal.returns
returns c =
    let some : c.read_at-distance.result ≡ no_walk_lem → ⊥ = λ q. c.if-distance-eq-NO_WALK.false (ap (of_z w64) q) in
    kept w64 c.halved.result c.halved.type_inv ∙ c.halved.ensures ∙ ap half (as_read (goal.at.returns c).After-read_at-distance) ∙ half_some_at (N (goal.at.returns c).After-read_at-distance) c.args.table.now c.args.p c.read_at-distance.result (is (goal.at.returns c).After-read_at-distance) some
