-- `file_list::file_size` meets its contract.
use mathlib.Core.Path.{◌≡◌, refl, ap, ◌∙◌}
use native.Mathlib.Omega.{arith}
use Rattle.lines.specs.Line.{line_at}
use Rattle.file_records.specs.Table.{record_size_lem}
use Rattle.file_list.specs.File.{kind_of, lines_end}
use Rattle.file_list.specs.Putting.{ends_before, ended_none, ended_more, ended_all, ended_within}
use Rattle.file_list.proofs.file_size.Goals.{After-loop-k, After-record_size-size}
use Rattle.file_list.proofs.file_size.Goals as goal

pub loop-k-init : goal.loop-k-init
loop-k-init c = ended_none c.args.list.now _ refl

-- one line
module _ (c : After-record_size-size) where
  size_is : c.record_size-size.result ≡ record_size_lem (kind_of (line_at c.args.list.now c.loop-k.k))
  size_is = c.record_size-size.ensures ∙ ap record_size_lem (c.line_kind.ensures ∙ ap kind_of c.line_at.ensures)

pub overflow_add-size : goal.overflow_add-size
overflow_add-size c =
    let L = c.args.list.now in
    omega (arith, size_is c, ended_within L c.loop-k.k c.loop-k.size (omega arith) c.loop-k.invariant, ends_before L, c.well_formed)

pub loop-k-preserved : goal.loop-k-preserved
loop-k-preserved c = rw (size_is c) (ended_more c.args.list.now c.loop-k.k c.loop-k.size (omega arith) c.loop-k.invariant)

-- all lines
module _ (c : After-loop-k) where
  end_is : c.loop-k.size ≡ lines_end c.args.list.now
  end_is = ended_all _ c.loop-k.k c.loop-k.size (omega arith) c.loop-k.invariant

pub overflow_add-result : goal.overflow_add-result
overflow_add-result c = omega (arith, end_is c, ends_before c.args.list.now, c.well_formed)

pub returns : goal.returns
returns c = omega (arith, end_is c)
