-- What the loop of `check_refutation::read_all` keeps: the progress is that after the first numbers, is small, and has counted them.
use Rattle.std.specs.Prelude.{◌≡◌, take}
use Rattle.steps.specs.Step.{max_weight}
use Rattle.check_refutation.specs.Progress.{start, run}
use Rattle.check_refutation.specs.Small.{Small}
use Rattle.check_refutation.proofs.read_all.Given as goal

abbrev pub invariant-loop-number : goal.invariant-loop-number
invariant-loop-number l =
    record { run : l.progress ≡ run l.list start (take l.number-index l.refutation); small : Small max_weight l.progress; read : l.progress.read ≡ l.number-index }
