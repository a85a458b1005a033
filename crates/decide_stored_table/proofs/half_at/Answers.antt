-- `decide_stored_table::half_at` meets its contract.
use mathlib.Core.Path.{◌≡◌, sym, ap, ◌∙◌}
use Prim.Native.Nat.{ℕ, ◌+◌, ◌*◌}
use lib.IntN.{ℤ}
use mir.Syntax.{w64}
use mir.Val.{to_z, of_z}
use Rattle.integers.specs.Integer.{half}
use Rattle.integers.proofs.Bits.{kept}
use Rattle.lines.specs.Line.{number}
use Rattle.steps.specs.Point.{opposite}
use Rattle.theory_bounds.specs.Points.{opposite_below}
use Rattle.decide_rows.specs.Read.{no_walk_lem}
use Rattle.decide_stored_table.specs.Table.{half_none_at, half_some_at}
use Rattle.decide_stored_table.proofs.half_at.Goals.{After-entry_at-distance}
use Rattle.decide_stored_table.proofs.half_at.Goals as goal

pub entry_at-distance-requires : goal.entry_at-distance-requires
entry_at-distance-requires c =
    rw c.opposite_of.ensures (c.requires.0, c.requires.1, opposite_below c.args.n c.args.p c.requires.1)

-- the entry that was read
module _ (c : After-entry_at-distance) where
  abbrev entry : ℤ
  entry = number c.args.table.now (opposite c.args.p * (2 * c.args.n) + c.args.p)

  is : to_z w64 (of_z w64 c.entry_at-distance.result) ≡ entry
  is = kept w64 c.entry_at-distance.result c.entry_at-distance.type_inv ∙ c.entry_at-distance.ensures ∙ ap (λ (q : ℕ). number c.args.table.now (q * (2 * c.args.n) + c.args.p)) c.opposite_of.ensures

pub returns-then-distance-eq-NO_WALK : goal.returns-then-distance-eq-NO_WALK
returns-then-distance-eq-NO_WALK c =
    half_none_at (2 * c.args.n) c.args.table.now c.args.p (sym (is (goal.at.returns-then-distance-eq-NO_WALK c).After-entry_at-distance) ∙ ap (to_z w64) c.if-distance-eq-NO_WALK.true)

pub returns : goal.returns
returns c =
    let some : entry (goal.at.returns c).After-entry_at-distance ≡ no_walk_lem → ⊥ = λ q. c.if-distance-eq-NO_WALK.false (ap (of_z w64) (sym (kept w64 c.entry_at-distance.result c.entry_at-distance.type_inv) ∙ is (goal.at.returns c).After-entry_at-distance ∙ q)) in
    kept w64 c.halved.result c.halved.type_inv ∙ c.halved.ensures ∙ ap half (is (goal.at.returns c).After-entry_at-distance) ∙ half_some_at (2 * c.args.n) c.args.table.now c.args.p some
