-- `c_checking::refutation_of_numbers` meets its contract.
use mathlib.Core.Path.{◌≡◌, ap, ◌∙◌}
use Prim.Native.Nat.{◌%◌}
use native.Mathlib.Omega.{arith}
use borrow.Author.Tests.{le-ltb, eq-eqb}
use lib.ListN.{length}
use Rattle.little_endian.specs.Bytes.{nat32s}
use Rattle.check_pieces.specs.Taken.{end_answer}
use Rattle.check_pieces.specs.Cut.{whole}
use Rattle.c_codes.specs.ListBytes.{number_bytes}
use Rattle.c_checking.specs.Calls.{refutation_of_numbers_lem}
use Rattle.c_checking.proofs.refutation_of_numbers.Goals as goal

pub returns : goal.returns
unfolding refutation_of_numbers_lem
returns c =
    -- what the tests leave, whatever they are: not by the name of the last one
    let uncut : length c.args.refutation.now % number_bytes ≡ 0 = omega arith in
    rw (le-ltb _ _ c.if-refutation.false, eq-eqb _ _ uncut)
    (c.end.ensures ∙ ap (end_answer c.args.n c.args.list.now) c.take_bytes.ensures.0 ∙ whole c.args.n c.args.list.now (nat32s c.args.refutation.now) c.take_bytes.ensures.1)
