-- `file_records::scan` meets its contract. The invariant: reading on from the cursor leads where all of the reading leads.
use Rattle.std.proofs.lemmas.Result.{err_from_is_err_and}
use Rattle.std.specs.Prelude.{Ok}
use mathlib.Core.Path.{refl, sym, ap, ◌∙◌}
use Prim.Native.Nat.{◌<◌}
use native.Mathlib.Omega.{arith}
use Rattle.file_records.specs.declared.Cursor.{Cursor}
use Rattle.file_records.specs.Laws.{Running, reached_in}
use Rattle.file_records.proofs.Reading.{begins, goes_on, stops}
use Rattle.file_records.proofs.scan.Goals.{In-More}
use Rattle.file_records.proofs.scan.Goals as goal

pub loop-c-init : goal.loop-c-init
loop-c-init c = begins _ _

pub next_record-requires : goal.next_record-requires
next_record-requires c = reached_in _ _ _ c.loop-c.invariant.reached

-- a record that leaves more
module _ (c : In-More) where
  abbrev next : Cursor
  next = c.in-More.c

  more : Running c.args.bytes.now c.args.room next × (c.loop-c.cursor.at < next.at)
  more = goes_on _ _ _ _ c.loop-c.invariant (sym c.next_record.ensures ∙ c.in_ok-c.was ∙ ap Ok c.in-More.is)

pub loop-c-smaller : goal.loop-c-smaller
loop-c-smaller c = omega (arith, (more c).0.reached.within, (more c).1)

pub loop-c-preserved : goal.loop-c-preserved
loop-c-preserved c = (more c).0

pub returns-in-End : goal.returns-in-End
returns-in-End c =
    c.whole_file.ensures ∙ stops _ _ _ c.loop-c.invariant _ _ (sym c.next_record.ensures ∙ c.in_ok-c.was ∙ ap Ok c.in-End.is) (λ _. refl)

pub returns-in_err-c : goal.returns-in_err-c
returns-in_err-c c =
    let p = err_from_is_err_and c.from_residual.result c.from_residual.ensures.1 in
    rw (p.1, p.2) (stops _ _ _ c.loop-c.invariant _ _ (sym c.next_record.ensures ∙ c.in_err-c.was) (λ _. refl))
