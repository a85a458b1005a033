-- `decide_rows::settled` meets its contract.
use Rattle.std.proofs.Common.{◌≡◌, length, take, drop, ◌-◌, take_all, length-drop, arith}
use Rattle.std.proofs.lemmas.Bool.Decides.{Decides-int_eq}
use Rattle.std.proofs.lemmas.Slice.Eq.{slice_eq-Decides}
use Rattle.decide_rows.specs.Next.{same_found}
use Rattle.decide_rows.proofs.settled.Goals as goal

pub returns : goal.returns
returns c =
    let rows = c.args.rows.now in
    let size = c.args.size in
    let behind : take (length rows - size) (drop size rows) ≡ drop size rows = take_all (length rows - size) (drop size rows) (omega (arith, length-drop size rows)) in
    same_found size rows c.eq.result c.requires (slice_eq-Decides Decides-int_eq _ _ _ (rw behind at c.eq.ensures))
