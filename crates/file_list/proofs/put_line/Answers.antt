-- `file_list::put_line` meets its contract: the record is as long as its kind's, and has that many of the line's numbers.
use mathlib.Core.Path.{◌≡◌, ap, ◌∙◌}
use Prim.Native.Nat.{◌+◌, ◌*◌, ◌-◌, ◌/◌}
use native.Mathlib.Omega.{arith}
use Rattle.lines.specs.Limits.{line_size}
use Rattle.lines.specs.Line.{line_at}
use Rattle.little_endian.specs.Writing.{put}
use Rattle.file_records.specs.declared.Kind.{Kind}
use Rattle.file_records.specs.Table.{record_size_lem}
use Rattle.file_list.specs.File.{numbers_in, kind_of}
use Rattle.file_list.specs.Putting.{header, put_record}
use Rattle.file_list.proofs.put_line.Goals as goal

pub returns : goal.returns
returns c =
    let a = c.args in
    let kind_is : c.line_kind-kind.result ≡ kind_of (line_at a.list.now a.k) = c.line_kind-kind.ensures ∙ ap kind_of c.line_at.ensures in
    -- how many numbers, as the code has it
    let count = line_size * a.k + c.body_size-count.result / 4 - line_size * a.k in (
      omega (arith, c.record_size.ensures, ap record_size_lem kind_is),
      put_record a.out.now a.at a.list.now a.k count c.requires.0 (omega (arith, c.body_size-count.ensures, ap numbers_in kind_is)) (c.put_header.ensures ∙ ap (λ (k : Kind). put a.out.now a.at (header k)) kind_is) c.put_numbers.ensures,
    )
