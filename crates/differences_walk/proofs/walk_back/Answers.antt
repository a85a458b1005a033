-- `differences_walk::walk_back` meets its contract: what is left of the way back, and the walk that is written so far.
use mathlib.Core.Path.{◌≡◌, refl, sym, ap₂, subst}
use mathlib.Core.List.{List}
use Prim.Native.Nat.{ℕ, suc, ◌+◌, ◌*◌, ◌-◌}
use native.Mathlib.Omega.{arith}
use lib.IntN.{ℤ, pos}
use lib.ListN.{set}
use mir.Syntax.{w64}
use mir.Val.{to_z}
use mir.Facts.{to_z_pos}
use Rattle.engine_packed_steps.specs.Scratch.{Scratch, scratch_none, scratch_trans}
use Rattle.differences_rows.specs.Layout.{walk_at_lem, points_at_lem, plain_end}
use Rattle.differences_walk.specs.Back.{SteppedBack, back_ready_at, stepped_at}
use Rattle.differences_walk.specs.Reading.{Reading, reading_start, start_scratch, back_ready, more_scratch, reading_more}
use Rattle.differences_walk.proofs.walk_back.Goals.{After-points_at-points, In-loop-k}
use Rattle.differences_walk.proofs.walk_back.Goals as goal

-- the walk's last point is written
module _ (c : After-points_at-points) where
  abbrev n : ℕ
  n = c.args.n

  abbrev first : List ℤ
  first = set c.args.work.now (c.points_at-points.result + c.args.top) (to_z w64 c.args.v)

  first_is : first ≡ set c.args.work.now (points_at_lem n + c.args.top) (pos c.args.v)
  first_is =
      ap₂ (λ (i : ℕ) (z : ℤ). set c.args.work.now (i + c.args.top) z) c.points_at-points.ensures (to_z_pos w64 (omega (arith, c.requires.within, c.requires.plain.works.variables)))

  -- what the loop leaves, since the start
  since : (w : List ℤ) → Scratch (walk_at_lem n) (plain_end n) first w → Scratch (walk_at_lem n) (plain_end n) c.args.work.now w
  since w s = scratch_trans (start_scratch c.requires) (rw first_is at s)

pub loop-k-init : goal.loop-k-init
loop-k-init c =
    let a = c.args in
    (scratch_none _ _ _, subst (λ (x : List ℤ). Reading a.n a.list.now a.top a.v x a.top a.v) (sym (first_is c)) (reading_start c.requires))

-- one row back, to row j
module _ (l : In-loop-k) where
  abbrev j : ℕ
  j = l.loop-k.k - 1

  scratch : Scratch (walk_at_lem l.args.n) (plain_end l.args.n) l.args.work.now l.loop-k.work
  scratch = since (goal.at.In-loop-k l).After-points_at-points l.loop-k.work l.loop-k.invariant.0

  reading : Reading l.args.n l.args.list.now l.args.top l.args.v l.loop-k.work (suc j) l.loop-k.p
  reading = let e : suc j ≡ l.loop-k.k = omega (arith, l.loop-k-test.true) in rw e l.loop-k.invariant.1

pub step_back-p-requires : goal.step_back-p-requires
step_back-p-requires c =
    let l = (goal.at.step_back-p-requires c).In-loop-k in
    back_ready_at (j l) (back_ready c.requires c.loop-k.work (j l) c.loop-k.p (scratch l) (reading l)) refl c.walk_at-walk.ensures c.points_at-points.ensures

pub loop-k-preserved : goal.loop-k-preserved
loop-k-preserved c =
    let l = (goal.at.loop-k-preserved c).In-loop-k in
    let n = c.args.n in
    let w = c.loop-k.work in
    let p = c.loop-k.p in
    let d : SteppedBack n c.args.list.now w (j l * n) p (walk_at_lem n + j l) (points_at_lem n + j l) c.step_back-p.new.work c.step_back-p.result =
    stepped_at (j l) c.step_back-p.ensures refl c.walk_at-walk.ensures c.points_at-points.ensures in (
      scratch_trans c.loop-k.invariant.0 (more_scratch c.requires w (j l) p (scratch l) (reading l) _ _ d),
      reading_more c.requires w (j l) p (scratch l) (reading l) _ _ d,
    )
