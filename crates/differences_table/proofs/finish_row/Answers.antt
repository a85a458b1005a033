-- `differences_table::finish_row` meets its contract. The invariant: the first u entries of the row are distances, and the others are as they were.
use mathlib.Core.Path.{◌≡◌, ap, ◌∙◌}
use Prim.Native.Nat.{ℕ, ◌+◌, ◌<◌}
use mir.Syntax.{w64}
use mir.Val.{to_z, of_z}
use Rattle.integers.proofs.Bits.{kept}
use Rattle.lines.specs.Line.{number}
use Rattle.differences_closing.specs.Entries.{entry_in}
use Rattle.differences_start.specs.Start.{point_of}
use Rattle.differences_table.specs.Finished.{point_same, entry_same, turn_ready, row_more}
use Rattle.differences_table.proofs.finish_row.Goals.{After-own-1, Start}
use Rattle.differences_table.proofs.finish_row.Goals as goal

-- what is read in a turn
module _ (read : After-own-1) where
  abbrev points : ℕ
  points = read.walk_at-points.result

  abbrev u : ℕ
  u = read.loop-u.u

  abbrev inside : u < read.args.n
  inside = read.loop-u-test.true

  z_is : to_z w64 (of_z w64 (entry_in read.args.n read.loop-u.work u read.args.v)) ≡ entry_in read.args.n read.args.work.now u read.args.v
  z_is = kept w64 _ read.z-1.given ∙ entry_same read.requires.0 read.requires.1 read.loop-u.invariant inside

  own_is : to_z w64 (of_z w64 (number read.loop-u.work (points + u))) ≡ point_of read.args.n read.args.work.now u
  own_is = kept w64 _ read.own-1.given ∙ ap (λ (p : ℕ). number read.loop-u.work (p + u)) read.walk_at-points.ensures ∙ point_same read.requires.0 read.requires.1 read.loop-u.invariant inside u

  other_is : to_z w64 (of_z w64 (number read.args.work.now (points + read.args.v))) ≡ point_of read.args.n read.args.work.now read.args.v
  other_is = kept w64 _ read.other-1.given ∙ ap (λ (p : ℕ). number read.args.work.now (p + read.args.v)) read.walk_at-points.ensures

pub distance_of-requires : goal.distance_of-requires
distance_of-requires read = rw (z_is read, own_is read, other_is read) (turn_ready read.requires.0 read.requires.1 read.loop-u.invariant read.loop-u-test.true)

pub loop-u-preserved : goal.loop-u-preserved
loop-u-preserved c =
    let read = (goal.at.loop-u-preserved c).After-own-1 in
    row_more c.requires.0 c.requires.1 c.loop-u.invariant c.loop-u-test.true _ (kept w64 _ c.distance_of.type_inv ∙ (rw (z_is read, own_is read, other_is read) at c.distance_of.ensures))
