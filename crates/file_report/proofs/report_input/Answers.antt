-- `file_report::report_input` meets its contract.
use mathlib.Core.Path.{◌≡◌, ap, ◌∙◌}
use Prim.Native.Nat.{ℕ, min}
use native.Mathlib.Omega.{arith}
use lib.ListN.{length, take}
use Rattle.std.proofs.lemmas.List.{take_min}
use Rattle.file_report.specs.Input.{held}
use Rattle.file_report.proofs.report_input.Goals as goal

pub returns : goal.returns
returns c =
    let input = c.args.input.now in
    let count = c.args.count in
    let e : c.min.result ≡ min count (length input) = omega arith in
    held input count (omega arith) (take c.min.result input)
    (ap (λ (i : ℕ). take i input) e ∙ take_min count input) c.report_file.ensures
