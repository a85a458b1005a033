-- `seconds::write_events` meets its contract. The recorder of each event is one of the table's,
-- since the search for one that is not found none.
use mathlib.Core.Path.{◌≡◌, ap, sym, subst, ◌∙◌}
use mathlib.Core.Bool.{true}
use mathlib.Core.List.{List}
use Prim.Native.Nat.{◌<◌}
use native.Mathlib.Omega.{arith}
use lib.Ieee.{Float}
use lib.IntN.{ℤ, pos}
use lib.ListN.{length, get_or, set}
use mir.Syntax.{w64}
use Rattle.integers.proofs.Bits.{kept}
use Rattle.integers.specs.Fill.{filled_more}
use Rattle.seconds.specs.declared.Clock.{Clock}
use Rattle.seconds.specs.Clock.{is_count, seconds_of_lem}
use Rattle.seconds.specs.Promise.{count_at, event_value}
use Rattle.seconds.specs.Laws.{all_pass, recorder_known}
use Rattle.seconds.proofs.write_events.Goals.{In-loop-i}
use Rattle.seconds.proofs.write_events.Goals as goal

-- the recorder of event i, as an index of both parts of the table
known : (v : In-loop-i) → (get_or v.args.recorders.now v.loop-i.i 0 < length v.args.forms.now) × (get_or v.args.recorders.now v.loop-i.i 0 < length v.args.rates.now)
known v = recorder_known _ _ _ _ _ v.requires v.loop-i.i v.loop-i-test.true

pub bounds-forms-r : goal.bounds-forms-r
bounds-forms-r c = (known (goal.at.bounds-forms-r c).In-loop-i).0

pub bounds-rates-r : goal.bounds-rates-r
bounds-rates-r c = (known (goal.at.bounds-rates-r c).In-loop-i).1

pub seconds_of-requires : goal.seconds_of-requires
seconds_of-requires c =
    let counts = c.args.counts.now in
    let i = c.loop-i.i in
    let h : i < length counts = omega arith in
    subst (λ (z : ℤ). is_count z ≡ true) (sym (kept w64 (get_or counts i (pos 0)) c.seconds_of-arg-1.given)) (all_pass (length counts) (count_at counts) c.requires.inside i h)

pub loop-i-preserved : goal.loop-i-preserved
loop-i-preserved c =
    let a = c.args in
    let counts = a.counts.now in
    let i = c.loop-i.i in
    let value = event_value a.forms.now a.rates.now a.recorders.now counts in
    let written : c.seconds_of.result ≡ value i =
    c.seconds_of.ensures
    ∙ ap (seconds_of_lem c.clock_of-clock.result) (kept w64 (get_or counts i (pos 0)) c.seconds_of-arg-1.given)
    ∙ ap (λ (k : Clock). seconds_of_lem k (get_or counts i (pos 0))) c.clock_of-clock.ensures in
    let fits : i < length a.seconds.now = omega arith in
    ap (λ (s : List Float). set s i c.seconds_of.result) c.loop-i.invariant ∙ filled_more value a.seconds.now i c.seconds_of.result fits written
