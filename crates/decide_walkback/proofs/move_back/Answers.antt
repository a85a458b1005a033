-- `decide_walkback::move_back` meets its contract: where the two entries differ, some step makes the value.
use mathlib.Core.Path.{◌≡◌, ap}
use Prim.Native.Nat.{◌+◌, ◌*◌, ◌-◌}
use native.Mathlib.Omega.{arith}
use mir.Syntax.{w64}
use mir.Val.{of_z}
use Rattle.integers.proofs.Bits.{kept}
use Rattle.decide_walkback.specs.Makes.{entry}
use Rattle.decide_walkback.specs.Move.{search_ok}
use Rattle.decide_walkback.proofs.move_back.Goals as goal

pub find_step-number-requires : goal.find_step-number-requires
find_step-number-requires c =
    let size = 2 * c.args.n in
    let row : c.args.before + size - c.args.before ≡ size = omega arith in
    let here = kept w64 (entry c.args.work.now (c.args.before + size + c.args.p)) c.here-1.given in
    rw (row, here) (search_ok _ _ _ _ _ _ c.requires (λ q. c.if-there-here.false (ap (of_z w64) q)))
