-- `longer_list::copy_with_line` meets its contract: the line's numbers are put behind the list's, which were copied.
use mathlib.Core.Path.{refl, ap, ◌∙◌}
use lib.ListN.{length}
use Rattle.lines.specs.Line.{line_numbers_lem}
use Rattle.lines.specs.LineNumbers.{length_numbers}
use Rattle.longer_list.specs.Written.{put_at, put_back, put_behind}
use Rattle.longer_list.proofs.copy_with_line.Goals as goal

pub returns : goal.returns
returns c =
    let list = c.args.list.now in
    let numbers = line_numbers_lem c.args.line in
    put_back c.copy_to.new.list numbers c.write_line.new.list (length list) c.write_line.ensures
    ∙ ap (put_at (length list) numbers) c.copy_to.ensures
    ∙ put_behind list numbers c.args.longer.now (length list) refl (length_numbers c.args.line)
