-- `c_check_shown::utvpi_check_shown` meets its contract.
use Rattle.std.specs.Prelude.{length, Ok, ℤ}
use Rattle.std.proofs.Common.{◌≡◌, sym, ap, ap₂, subst, ◌∙◌, arith, List, ◌/◌, ◌≤◌, w64}
use Rattle.std.proofs.Math.Seq.{length-take-le}
use Rattle.integers.proofs.Bits.{kept}
use Rattle.lines.specs.declared.Line.{Line}
use Rattle.lines.specs.Places.{Placed, place_at}
use Rattle.c_codes.specs.Codes.{refusal_unit}
use Rattle.c_codes.specs.CheckCode.{check_code_lem}
use Rattle.c_codes.specs.ListBytes.{number_bytes, bytes_validity, BytesOk, valid_bytes, bytes_placed}
use Rattle.c_check_shown.specs.Calls.{broken_line_lem, showing_of_numbers_lem}
use Rattle.c_check_shown.specs.Laws.{showing_below, count_of_bytes, list_refused, line_broken, line_whole}
use Rattle.c_check_shown.proofs.utvpi_check_shown.Goals.{In_default}
use Rattle.c_check_shown.proofs.utvpi_check_shown.Goals as goal

pub refusal_code-requires : goal.refusal_code-requires
refusal_code-requires c =
    place_at (subst (Placed refusal_unit) (sym c.decode_list.ensures.answer ∙ c.in-Err.is) (bytes_placed c.args.n c.args.list.now))

pub returns-in-Err : goal.returns-in-Err
returns-in-Err c =
    kept w64 c.refusal_code.result c.refusal_code.type_inv
    ∙ c.refusal_code.ensures
    ∙ sym (list_refused c.args.n c.args.list.now c.args.line.now c.args.showing.now _ (sym c.decode_list.ensures.answer ∙ c.in-Err.is))

-- the list is valid
module _ (c : In_default) where
  valid : bytes_validity c.args.n c.args.list.now ≡ Ok tt
  valid = sym c.decode_list.ensures.answer ∙ c.in_default.is

  ok : BytesOk c.args.n c.args.list.now
  ok = valid_bytes _ _ valid

pub broken_line-requires : goal.broken_line-requires
broken_line-requires c = omega (arith, (ok (goal.at.broken_line-requires c).In_default).room)

pub returns-then-line-ne-LINE_BYTES : goal.returns-then-line-ne-LINE_BYTES
returns-then-line-ne-LINE_BYTES c =
    kept w64 c.broken_line.result c.broken_line.type_inv
    ∙ c.broken_line.ensures
    ∙ ap broken_line_lem (count_of_bytes c.args.list.now)
    ∙ sym (line_broken _ _ _ c.args.showing.now (valid (goal.at.returns-then-line-ne-LINE_BYTES c).In_default) c.if-line-ne-LINE_BYTES.true)

-- the numbers of the list are there
room : (c : In_default) → length c.args.list.now / number_bytes ≤ length c.decode_list.new.numbers
room c = omega (arith, (ok c).room, c.decode_list.auto.numbers)

pub slice_bounds-numbers-end : goal.slice_bounds-numbers-end
slice_bounds-numbers-end c = room (goal.at.slice_bounds-numbers-end c).In_default

pub slice_bounds-showing_of_numbers-end : goal.slice_bounds-showing_of_numbers-end
slice_bounds-showing_of_numbers-end c = sym (length-take-le _ _ (room (goal.at.slice_bounds-showing_of_numbers-end c).In_default))

pub check_code-requires : goal.check_code-requires
check_code-requires c = rw c.showing_of_numbers.ensures (showing_below _ _ _ _)

pub returns : goal.returns
returns c =
    kept w64 c.check_code.result c.check_code.type_inv
    ∙ c.check_code.ensures
    ∙ ap check_code_lem
    (c.showing_of_numbers.ensures
    ∙ ap₂ (λ (L : List ℤ) (m : Line). showing_of_numbers_lem c.args.n L m c.args.showing.now) (c.decode_list.ensures.numbers c.in_default.is) c.decode_line.ensures)
    ∙ sym (line_whole _ _ _ _ (valid (goal.at.returns c).In_default) c.if-line-ne-LINE_BYTES.false)
