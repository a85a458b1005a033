-- `session_questions::tight_at` meets its contract.
use mathlib.Core.Path.{◌≡◌, ap, ◌∙◌}
use mathlib.Core.List.{List}
use Prim.Native.Nat.{ℕ, ◌*◌}
use lib.IntN.{ℤ}
use mir.Syntax.{w64}
use mir.Val.{to_z, of_z}
use Rattle.integers.proofs.Bits.{kept}
use Rattle.steps.specs.Point.{opposite}
use Rattle.theory_bounds.specs.Points.{opposite_below}
use Rattle.theory_bounds.specs.Tight.{Table, halves}
use Rattle.decide_rows.specs.Stored.{stored}
use Rattle.session_step.specs.Read.{small_table}
use Rattle.session_questions.specs.Asked.{half_ready, tight_read}
use Rattle.session_questions.proofs.tight_at.Goals.{After-half_of-2}
use Rattle.session_questions.proofs.tight_at.Goals as goal

pub half_of-requires-2 : goal.half_of-requires-2
half_of-requires-2 c =
    rw c.opposite_of.ensures (c.requires.0, opposite_below c.args.n c.args.q c.requires.2)

-- the distance and both halves that were read
module _ (c : After-half_of-2) where
  abbrev N : ℕ
  N = 2 * c.args.n

  abbrev table : List ℤ
  table = c.args.table.now

  abbrev D : Table
  D = small_table N table

  abbrev distance : ℤ
  distance = to_z w64 (of_z w64 c.read_at.result)

  abbrev first : ℤ
  first = to_z w64 (of_z w64 c.half_of.result)

  abbrev second : ℤ
  second = to_z w64 (of_z w64 c.half_of-2.result)

  distance_is : distance ≡ stored (D c.args.p c.args.q)
  distance_is = kept w64 c.read_at.result c.read_at.type_inv ∙ c.read_at.ensures

  first_is : first ≡ stored (halves D c.args.p)
  first_is = kept w64 c.half_of.result c.half_of.type_inv ∙ c.half_of.ensures

  second_is : second ≡ stored (halves D (opposite c.args.q))
  second_is =
      kept w64 c.half_of-2.result c.half_of-2.type_inv ∙ c.half_of-2.ensures ∙ ap (λ (p : ℕ). stored (halves D p)) c.opposite_of.ensures

pub tightened-requires : goal.tightened-requires
tightened-requires c =
    (half_ready (N c) (table c) c.args.p (first c) (first_is c), half_ready (N c) (table c) (opposite c.args.q) (second c) (second_is c))

pub returns : goal.returns
returns c =
    kept w64 c.tightened.result c.tightened.type_inv
    ∙ c.tightened.ensures
    ∙ tight_read (N (goal.at.returns c).After-half_of-2) (table (goal.at.returns c).After-half_of-2) c.args.p c.args.q _ _ _ (distance_is (goal.at.returns c).After-half_of-2) (first_is (goal.at.returns c).After-half_of-2) (second_is (goal.at.returns c).After-half_of-2)
