-- `session_learn::point_stands` meets its contract.
use mathlib.Core.Path.{◌≡◌, ap, ap₂, ◌∙◌}
use Prim.Native.Nat.{ℕ, ◌*◌, ◌<◌}
use lib.IntN.{ℤ}
use mir.Syntax.{w64}
use mir.Val.{to_z, of_z}
use Rattle.integers.proofs.Bits.{kept}
use Rattle.steps.specs.Point.{opposite}
use Rattle.theory_walks.specs.Distance.{Distance, half_d, ◌⊞◌}
use Rattle.theory_walks.specs.Negative.{not_below0}
use Rattle.theory_bounds.specs.Points.{opposite_below}
use Rattle.theory_bounds.specs.Tight.{Table}
use Rattle.theory_inserting.specs.Two.{insert_named}
use Rattle.decide_rows.specs.Stored.{stored}
use Rattle.decide_rows.specs.Read.{distance_of}
use Rattle.session_step.specs.Read.{small_table}
use Rattle.session_learn.specs.With.{EntryReady, twice_short, far_back}
use Rattle.session_learn.proofs.point_stands.Goals.{After-opposite_of-q}
use Rattle.session_learn.proofs.point_stands.Goals as goal

-- the opposite point
module _ (c : After-opposite_of-q) where
  abbrev q : ℕ
  q = opposite c.args.p

  abbrev D : Table
  D = insert_named (insert_named (small_table (2 * c.args.n) c.args.table.now) c.args.x) c.args.y

  -- what is asked of both entries
  ready : (u v : ℕ) → u < 2 * c.args.n → v < 2 * c.args.n → EntryReady c.args.n c.args.table.now c.args.x u v × EntryReady c.args.n c.args.table.now c.args.y u v
  ready u v h k = (
    record { table = c.requires.0.table; step = c.requires.0.first; u_lt = h; v_lt = k },
    record { table = c.requires.0.table; step = c.requires.0.second; u_lt = h; v_lt = k },
  )

  -- and how they are read back
  back : (u v : ℕ) (z : ℤ) → z ≡ stored (D u v) → distance_of z ≡ D u v
  back u v z e = ap distance_of e ∙ far_back (D u v) (twice_short c.args.n c.args.table.now c.args.x c.requires.0.first c.args.y c.requires.0.second u v)

pub entry_with_both-there-requires : goal.entry_with_both-there-requires
entry_with_both-there-requires c = rw c.opposite_of-q.ensures (ready c c.args.p (q c) c.requires.1 (opposite_below c.args.n c.args.p c.requires.1))

pub entry_with_both-back-requires : goal.entry_with_both-back-requires
entry_with_both-back-requires c =
    rw c.opposite_of-q.ensures (ready (goal.at.entry_with_both-back-requires c).After-opposite_of-q (q (goal.at.entry_with_both-back-requires c).After-opposite_of-q) c.args.p (opposite_below c.args.n c.args.p c.requires.1) c.requires.1)

pub returns : goal.returns
returns c =
    let p = c.args.p in
    let there : to_z w64 (of_z w64 c.entry_with_both-there.result) ≡ stored (D (goal.at.returns c).After-opposite_of-q p (q (goal.at.returns c).After-opposite_of-q)) = kept w64 c.entry_with_both-there.result c.entry_with_both-there.type_inv ∙ c.entry_with_both-there.ensures ∙ ap (λ (v : ℕ). stored (D (goal.at.returns c).After-opposite_of-q p v)) c.opposite_of-q.ensures in
    let again : to_z w64 (of_z w64 c.entry_with_both-back.result) ≡ stored (D (goal.at.returns c).After-opposite_of-q (q (goal.at.returns c).After-opposite_of-q) p) = kept w64 c.entry_with_both-back.result c.entry_with_both-back.type_inv ∙ c.entry_with_both-back.ensures ∙ ap (λ (u : ℕ). stored (D (goal.at.returns c).After-opposite_of-q u p)) c.opposite_of-q.ensures in
    c.halves_meet.ensures ∙ ap₂ (λ (a b : Distance). not_below0 (half_d a ⊞ half_d b)) (back (goal.at.returns c).After-opposite_of-q p (q (goal.at.returns c).After-opposite_of-q) _ there) (back (goal.at.returns c).After-opposite_of-q (q (goal.at.returns c).After-opposite_of-q) p _ again)
