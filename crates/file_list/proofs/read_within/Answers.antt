-- `file_list::read_within` meets its contract: what is answered goes by what the scan found.
use Rattle.std.proofs.lemmas.Result.{err_from_is_err_and}
use mathlib.Core.Path.{refl, sym, ap, ◌∙◌}
use lib.ListN.{length}
use Rattle.file_records.specs.Laid.{Found}
use Rattle.file_records.proofs.Reading.{scan_laid}
use Rattle.file_list.specs.Read.{after_scan, read_answer}
use Rattle.file_list.proofs.read_within.Goals as goal

pub returns-in_err-found : goal.returns-in_err-found
unfolding read_answer
returns-in_err-found c =
    let p = err_from_is_err_and c.from_residual.result c.from_residual.ensures.1 in
    rw (p.1, p.2) (record { is = ap (after_scan c.args.most c.args.bytes.now) (sym c.in_err-found.was ∙ c.scan.ensures); leaves = refl })

pub read_lines-requires : goal.read_lines-requires
read_lines-requires c =
    let found : Found c.args.bytes.now (length c.args.numbers.now) c.in_ok-found.found = scan_laid _ _ _ (sym c.scan.ensures ∙ c.in_ok-found.was) in
    (c.requires, found.laid.begun.lines, found.fits)

pub returns : goal.returns
unfolding read_answer
returns c =
    record { is = c.read_lines.ensures.0 ∙ ap (after_scan c.args.most c.args.bytes.now) (sym c.in_ok-found.was ∙ c.scan.ensures); leaves = c.read_lines.ensures.1 }
