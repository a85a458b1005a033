-- `shown_list::write_against` meets its contract: the opposite line's numbers are put at their place behind the list, which was copied.
use Rattle.std.specs.Prelude.{◌≡◌, ◌*◌, ◌++◌, List, ℤ, pos, length, drop, replicate}
use Rattle.std.proofs.Common.{ap, ap₂, ◌∙◌}
use Rattle.lines.specs.declared.Line.{Line}
use Rattle.lines.specs.Limits.{line_size, max_lines}
use Rattle.lines.specs.Line.{line_numbers_lem}
use Rattle.longer_list.specs.Written.{most_numbers, put_at, put_back}
use Rattle.shown_list.specs.Written.{written_against}
use Rattle.shown_list.proofs.write_against.Goals as goal

pub returns : goal.returns
returns c =
    let list = c.args.list.now in
    let copied : c.copy_to.new.list ≡ list ++ drop (length list) (replicate most_numbers (pos 0)) =
    c.copy_to.ensures ∙ ap (λ (z : List ℤ). list ++ drop (length list) z) c.requires.zeros in
    put_back c.copy_to.new.list (line_numbers_lem c.opposite_line-last.result) c.write_line.new.list (line_size * max_lines) c.write_line.ensures
    ∙ ap₂ (λ (l : Line) (z : List ℤ). put_at (line_size * max_lines) (line_numbers_lem l) z) c.opposite_line-last.ensures copied
    ∙ written_against list c.requires.short c.args.line
