-- `file_list::file_validity` meets its contract.
use mathlib.Core.Path.{◌≡◌, ap, ◌∙◌}
use mathlib.Core.List.{List}
use Prim.Native.Nat.{ℕ, ◌*◌, ◌%◌, ◌<◌, ◌≤◌}
use native.Mathlib.Omega.{arith}
use borrow.Author.Tests.{lt-ltb, le-ltb, eq-eqb}
use lib.IntN.{ℤ}
use lib.ListN.{length, take}
use lib.Seq.{take_at}
use Rattle.lines.specs.Limits.{line_size, max_variables, max_lines}
use Rattle.lines.specs.Line.{line_count}
use Rattle.lines.specs.Refusal.{validity_of}
use Rattle.file_list.specs.File.{file_list_lem}
use Rattle.file_list.specs.Read.{list_validity_lem}
use Rattle.file_list.specs.Layout.{length_file_list, line_count_file_list}
use Rattle.file_list.proofs.file_validity.Goals as goal

-- more lines than a list may have
pub returns-then-lines-gt-MAX_LINES : goal.returns-then-lines-gt-MAX_LINES
unfolding list_validity_lem validity_of
returns-then-lines-gt-MAX_LINES c =
    let L : List ℤ = file_list_lem c.args.bytes.now c.args.lines in
    let few : c.args.n ≤ max_variables = omega (arith, c.requires.0, c.if-most-n.false) in
    let whole : length L % line_size ≡ 0 = omega (arith, length_file_list c.args.bytes.now c.args.lines) in
    let many : max_lines < line_count L = omega (arith, line_count_file_list c.args.bytes.now c.args.lines, c.if-lines-gt-MAX_LINES.true) in
    rw (le-ltb _ _ c.if-most-n.false, le-ltb max_variables c.args.n few, eq-eqb (length L % line_size) 0 whole, lt-ltb max_lines (line_count L) many)

-- the numbers that were decoded
pub returns : goal.returns
unfolding list_validity_lem
returns c =
    let L : List ℤ = file_list_lem c.args.bytes.now c.args.lines in
    let k : ℕ = line_size * c.args.lines in
    let decoded : take k c.decode_lines.new.numbers ≡ L = ap (take k) c.decode_lines.ensures ∙ take_at L _ k (length_file_list c.args.bytes.now c.args.lines) in
    rw (le-ltb _ _ c.if-most-n.false) (c.list_validity.ensures ∙ ap (validity_of c.args.n) decoded)
