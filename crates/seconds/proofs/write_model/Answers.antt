-- `seconds::write_model` meets its contract.
use mathlib.Core.Path.{◌≡◌, ap, sym, subst, ◌∙◌}
use mathlib.Core.Bool.{true}
use mathlib.Core.List.{List}
use Prim.Native.Nat.{◌<◌}
use native.Mathlib.Omega.{arith}
use lib.Ieee.{Float}
use lib.IntN.{ℤ, pos}
use lib.ListN.{length, get_or, set}
use mir.Syntax.{w64}
use Rattle.integers.proofs.Bits.{kept}
use Rattle.integers.specs.Fill.{filled_more}
use Rattle.seconds.specs.Clock.{is_count, seconds_of_lem}
use Rattle.seconds.specs.Promise.{count_at, model_value}
use Rattle.seconds.specs.Laws.{all_pass}
use Rattle.seconds.proofs.write_model.Goals as goal

pub seconds_of-requires : goal.seconds_of-requires
seconds_of-requires c =
    let counts = c.args.counts.now in
    let i = c.loop-i.i in
    subst (λ (z : ℤ). is_count z ≡ true) (sym (kept w64 (get_or counts i (pos 0)) c.seconds_of-arg-1.given)) (all_pass (length counts) (count_at counts) (omega arith) i c.loop-i-test.true)

pub loop-i-preserved : goal.loop-i-preserved
loop-i-preserved c =
    let a = c.args in
    let counts = a.counts.now in
    let i = c.loop-i.i in
    let value = model_value a.clock counts in
    let fits : i < length a.seconds.now = omega arith in
    let written : c.seconds_of.result ≡ value i = c.seconds_of.ensures ∙ ap (seconds_of_lem a.clock) (kept w64 (get_or counts i (pos 0)) c.seconds_of-arg-1.given) in
    ap (λ (s : List Float). set s i c.seconds_of.result) c.loop-i.invariant ∙ filled_more value a.seconds.now i c.seconds_of.result fits written
