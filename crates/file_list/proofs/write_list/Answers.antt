-- `file_list::write_list` meets its contract: each way out has the tests that led there.
use Rattle.std.proofs.lemmas.Result.{err_from_is_err_and}
use Rattle.std.specs.Prelude.{Ok}
use mathlib.Core.Path.{◌≡◌, refl, sym, ◌∙◌}
use Rattle.lines.specs.Refusal.{validity_of}
use Rattle.lines.specs.Valid.{ListOk, valid_list}
use Rattle.file_list.specs.Written.{list_refused, no_room, all_written}
use Rattle.file_list.proofs.write_list.Goals.{In_ok-list_validity}
use Rattle.file_list.proofs.write_list.Goals as goal

pub returns-in_err-list_validity : goal.returns-in_err-list_validity
returns-in_err-list_validity c =
    let p = err_from_is_err_and c.from_residual.result c.from_residual.ensures.1 in
    rw (p.1, p.2) (list_refused c.args.n c.args.list.now c.args.out.now _ _ (sym c.list_validity.ensures ∙ c.in_err-list_validity.was) refl)

-- where the list is valid
module _ (t : In_ok-list_validity) where
  valid : validity_of t.args.n t.args.list.now ≡ Ok tt
  valid = sym t.list_validity.ensures ∙ t.in_ok-list_validity.was

  ok : ListOk t.args.n t.args.list.now
  ok = valid_list _ _ valid

pub returns-then-out-size : goal.returns-then-out-size
returns-then-out-size c =
    no_room c.args.n c.args.list.now c.args.out.now _ (valid (goal.at.returns-then-out-size c).In_ok-list_validity) (rw c.file_size-size.ensures at c.if-out-size.true) refl

pub put_file-requires : goal.put_file-requires
put_file-requires c =
    ((ok (goal.at.put_file-requires c).In_ok-list_validity).variables, rw c.file_size-size.ensures at c.if-out-size.false)

pub returns : goal.returns
returns c =
    all_written c.args.n c.args.list.now c.args.out.now _ c.file_size-size.result c.file_size-size.ensures (valid (goal.at.returns c).In_ok-list_validity) c.if-out-size.false c.put_file.ensures
