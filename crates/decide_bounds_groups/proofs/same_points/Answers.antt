-- `decide_bounds_groups::same_points` meets its contract: no walk is stored as a number above 0, so that the number alone is tested.
use mathlib.Core.Path.{◌≡◌, sym, ap, ◌∙◌}
use mathlib.Core.List.{List}
use Prim.Native.Nat.{ℕ, ◌+◌, ◌*◌, ◌<◌}
use native.Mathlib.Omega.{arith}
use borrow.Author.Rules.{rules}
use lib.IntN.{ℤ, pos}
use lib.Signed.{le_z}
use mir.Syntax.{w64}
use mir.Val.{to_z, of_z}
use Rattle.integers.proofs.Bits.{kept}
use Rattle.lines.specs.Line.{number}
use Rattle.steps.specs.Point.{opposite}
use Rattle.theory_bounds.specs.Points.{opposite_below}
use Rattle.theory_bounds.specs.Tight.{tight}
use Rattle.decide_rows.specs.Stored.{stored}
use Rattle.decide_rows.specs.Read.{stored_of}
use Rattle.decide_stored_table.specs.Table.{by_rows, rows_after}
use Rattle.decide_bounds_groups.specs.Reading.{apart_first, second_decides}
use Rattle.decide_bounds_groups.specs.Grouping.{HalfReady, half_ready, tight_read}
use Rattle.decide_bounds_groups.proofs.same_points.Goals.{After-tight_by, After-tight_by-2, Start}
use Rattle.decide_bounds_groups.proofs.same_points.Goals as goal

module _ (s : Start) where
  abbrev n : ℕ
  n = s.args.n

  abbrev t : List ℤ
  t = s.args.table.now

  abbrev bounds : List ℤ
  bounds = s.args.bounds.now

  abbrev p : ℕ
  p = s.args.p

  abbrev q : ℕ
  q = s.args.q

  q_below : q < 2 * n
  q_below = omega (arith, s.requires.1, s.requires.2)

-- the halves of both points and of their opposites
module _ (s : Start) where
  ready : (r : ℕ) → r < 2 * n s → HalfReady (bounds s) r × HalfReady (bounds s) (opposite r)
  ready r h = (half_ready (n s) (t s) (bounds s) s.requires.0 r h, half_ready (n s) (t s) (bounds s) s.requires.0 (opposite r) (opposite_below (n s) r h))

pub tight_by-requires : goal.tight_by-requires
tight_by-requires c =
    let at_p = ready (goal.at.tight_by-requires c).Start (p (goal.at.tight_by-requires c).Start) c.requires.1 in
    let at-q = ready (goal.at.tight_by-requires c).Start (q (goal.at.tight_by-requires c).Start) (q_below (goal.at.tight_by-requires c).Start) in
    search rules

pub tight_by-requires-2 : goal.tight_by-requires-2
tight_by-requires-2 c =
    let at_p = ready (goal.at.tight_by-requires-2 c).Start (p (goal.at.tight_by-requires-2 c).Start) c.requires.1 in
    let at-q = ready (goal.at.tight_by-requires-2 c).Start (q (goal.at.tight_by-requires-2 c).Start) (q_below (goal.at.tight_by-requires-2 c).Start) in
    search rules

-- from p to q
there : (c : After-tight_by) → to_z w64 (of_z w64 c.tight_by.result) ≡ stored (tight (by_rows (2 * n (goal.at.After-tight_by c).Start) (t (goal.at.After-tight_by c).Start)) (p (goal.at.After-tight_by c).Start) (q (goal.at.After-tight_by c).Start))
there c =
    kept w64 c.tight_by.result c.tight_by.type_inv
    ∙ c.tight_by.ensures
    ∙ tight_read (n (goal.at.After-tight_by c).Start) (t (goal.at.After-tight_by c).Start) (bounds (goal.at.After-tight_by c).Start) c.requires.0 (p (goal.at.After-tight_by c).Start) (q (goal.at.After-tight_by c).Start) c.requires.1 (q_below (goal.at.After-tight_by c).Start) _ (kept w64 c.mirrored_at.result c.mirrored_at.type_inv ∙ c.mirrored_at.ensures)

-- and back
back : (c : After-tight_by-2) → to_z w64 (of_z w64 c.tight_by-2.result) ≡ stored (tight (by_rows (2 * n (goal.at.After-tight_by-2 c).Start) (t (goal.at.After-tight_by-2 c).Start)) (q (goal.at.After-tight_by-2 c).Start) (p (goal.at.After-tight_by-2 c).Start))
back c =
    kept w64 c.tight_by-2.result c.tight_by-2.type_inv
    ∙ c.tight_by-2.ensures
    ∙ tight_read (n (goal.at.After-tight_by-2 c).Start) (t (goal.at.After-tight_by-2 c).Start) (bounds (goal.at.After-tight_by-2 c).Start) c.requires.0 (q (goal.at.After-tight_by-2 c).Start) (p (goal.at.After-tight_by-2 c).Start) (q_below (goal.at.After-tight_by-2 c).Start) c.requires.1 _
    (kept w64 c.entry_at.result c.entry_at.type_inv ∙ c.entry_at.ensures ∙ sym (stored_of (number (t (goal.at.After-tight_by-2 c).Start) (p (goal.at.After-tight_by-2 c).Start * (2 * n (goal.at.After-tight_by-2 c).Start) + q (goal.at.After-tight_by-2 c).Start)))
    ∙ ap stored (sym (rows_after (2 * n (goal.at.After-tight_by-2 c).Start) (t (goal.at.After-tight_by-2 c).Start) (q (goal.at.After-tight_by-2 c).Start) (p (goal.at.After-tight_by-2 c).Start) (omega (arith, c.requires.2)))))

pub returns-then-tight_by-gt0 : goal.returns-then-tight_by-gt0
returns-then-tight_by-gt0 c =
    apart_first (tight (by_rows (2 * n (goal.at.returns-then-tight_by-gt0 c).Start) (t (goal.at.returns-then-tight_by-gt0 c).Start)) (p (goal.at.returns-then-tight_by-gt0 c).Start) (q (goal.at.returns-then-tight_by-gt0 c).Start)) (tight (by_rows (2 * n (goal.at.returns-then-tight_by-gt0 c).Start) (t (goal.at.returns-then-tight_by-gt0 c).Start)) (q (goal.at.returns-then-tight_by-gt0 c).Start) (p (goal.at.returns-then-tight_by-gt0 c).Start)) (rw (there (goal.at.returns-then-tight_by-gt0 c).After-tight_by) at c.if-tight_by-gt0.true)

pub returns : goal.returns
returns c =
    ap (λ (z : ℤ). le_z z (pos 0)) (back c)
    ∙ second_decides (tight (by_rows (2 * n (goal.at.returns c).Start) (t (goal.at.returns c).Start)) (p (goal.at.returns c).Start) (q (goal.at.returns c).Start)) (tight (by_rows (2 * n (goal.at.returns c).Start) (t (goal.at.returns c).Start)) (q (goal.at.returns c).Start) (p (goal.at.returns c).Start)) (rw (there (goal.at.returns c).After-tight_by) at c.if-tight_by-gt0.false)
