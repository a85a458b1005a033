-- `steps::side_of` meets its contract: what is computed are the table's entries.
use mathlib.Core.Path.{◌≡◌, ◌∙◌}
use Prim.Native.Nat.{ℕ, ◌<◌}
use native.Mathlib.Omega.{arith}
use Rattle.steps.specs.Sides.{BothSides, lone_x, lone_y, both}
use Rattle.steps.proofs.side_of.Goals.{Else-q-eq1}
use Rattle.steps.proofs.side_of.Goals as goal

pub returns-then-p-eq1 : goal.returns-then-p-eq1
returns-then-p-eq1 c =
    rw c.if-p-eq1.true (c.lone_side.ensures ∙ lone_y c.args.q c.args.side c.requires.1 c.requires.2)

pub returns-then-q-eq1 : goal.returns-then-q-eq1
returns-then-q-eq1 c =
    rw c.if-q-eq1.true (c.lone_side-then-q-eq1.ensures ∙ lone_x c.args.p c.args.side c.requires.0 c.if-p-eq1.false c.requires.2)

-- both coefficients count
module _ (c : Else-q-eq1) where
  sides : BothSides c.args.p c.args.q
  sides = both c.args.p c.args.q c.requires.0 c.if-p-eq1.false c.requires.1 c.if-q-eq1.false

pub returns-then-side-eq0 : goal.returns-then-side-eq0
returns-then-side-eq0 c = rw c.if-side-eq0.true (sides (goal.at.returns-then-side-eq0 c).Else-q-eq1).first

second : (side : ℕ) → (side ≡ 0 → ⊥) → side < 2 → side ≡ 1
second side n h = omega arith

pub returns : goal.returns
returns c = rw (second c.args.side c.if-side-eq0.false c.requires.2) (sides (goal.at.returns c).Else-q-eq1).second
