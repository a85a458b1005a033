-- `c_checking::refutation_of_bytes` meets its contract.
use mathlib.Core.Path.{sym, ◌∙◌}
use native.Mathlib.Omega.{arith}
use Rattle.std.proofs.Common.{length-take-le}
use Rattle.c_codes.specs.ListBytes.{BytesOk, valid_bytes}
use Rattle.c_checking.proofs.refutation_of_bytes.Goals.{In_ok-decode_list}
use Rattle.c_checking.proofs.refutation_of_bytes.Goals as goal

-- the list is valid
ok : (c : In_ok-decode_list) → BytesOk c.args.n c.args.list.now
ok c = valid_bytes _ _ (sym c.decode_list.ensures.answer ∙ c.in_ok-decode_list.was)

pub slice_bounds-numbers-end : goal.slice_bounds-numbers-end
slice_bounds-numbers-end c = omega (arith, (ok c).room)

pub slice_bounds-refutation_of_numbers-end : goal.slice_bounds-refutation_of_numbers-end
slice_bounds-refutation_of_numbers-end c = sym (length-take-le _ c.decode_list.new.numbers (omega (arith, (ok (goal.at.slice_bounds-refutation_of_numbers-end c).In_ok-decode_list).room)))
