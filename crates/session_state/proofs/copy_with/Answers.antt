-- `session_state::copy_with` meets its contract: the line's numbers are put behind the lines', which were copied.
use mathlib.Core.Path.{sym, ap, ◌∙◌}
use mathlib.Core.List.{◌++◌}
use Prim.Native.Nat.{ℕ}
use lib.ListN.{length, drop}
use Rattle.lines.specs.Line.{line_numbers_lem}
use Rattle.lines.specs.LineNumbers.{length_numbers}
use Rattle.longer_list.specs.Written.{put_at, put_back, put_behind}
use Rattle.session_state.specs.State.{numbers_in}
use Rattle.session_state.specs.Laws.{state_head, length_numbers_in}
use Rattle.session_state.proofs.copy_with.Goals as goal

pub returns : goal.returns
returns c =
    let state = c.args.state.now in
    let list = c.args.list.now in
    let numbers = numbers_in state in
    let own = line_numbers_lem c.args.line in
    let at = length c.numbers_in-at.result.now in
    let size = ap length c.numbers_in-at.ensures in
    let copied = c.copy_lines.ensures ∙ ap (λ (j : ℕ). numbers ++ drop j list) (sym (size ∙ length_numbers_in state (state_head state c.requires.0))) in
    put_back c.copy_lines.new.list own c.write_line.new.list at c.write_line.ensures
    ∙ ap (put_at at own) copied
    ∙ put_behind numbers own list at (sym size) (length_numbers c.args.line)
