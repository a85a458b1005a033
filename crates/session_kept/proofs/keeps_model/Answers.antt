-- `session_kept::keeps_model` meets its contract: the values are copied to an array, and its first n are tested.
use mathlib.Core.Path.{◌≡◌, sym, ap, subst, ◌∙◌}
use mathlib.Core.List.{List}
use Prim.Native.Nat.{ℕ, ◌-◌}
use native.Mathlib.Omega.{arith}
use lib.IntN.{ℤ}
use lib.ListN.{length, take}
use Rattle.integers.specs.Sequence.{tabulate, length_tabulate}
use Rattle.lines.specs.Valid.{LineWorks}
use Rattle.check_model.specs.Laws.{ValuesOk}
use Rattle.session_kept.specs.Kept.{value_at}
use Rattle.session_kept.specs.Laws.{values_front, values_within}
use Rattle.session_kept.proofs.keeps_model.Goals as goal

pub is_met-requires : goal.is_met-requires
is_met-requires c =
    let n = c.args.n in
    let q = c.args.kept.now in
    let copied = c.read_values.new.values in
    let from_zero : n - 0 ≡ n = omega arith in
    let part : take (n - 0) copied ≡ tabulate n (value_at q) = ap (λ (k : ℕ). take k copied) from_zero ∙ values_front n q _ _ c.read_values.ensures in
    subst (λ (x : List ℤ). LineWorks (length x) c.args.line × ValuesOk x) (sym part) (rw (length_tabulate n (value_at q)) c.requires.2, values_within n q)
