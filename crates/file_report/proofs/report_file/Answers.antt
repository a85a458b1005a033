-- `file_report::report_file` meets its contract.
use Prim.Native.Nat.{◌*◌}
use native.Mathlib.Omega.{arith}
use lib.ListN.{length-take}
use Rattle.lines.specs.Limits.{line_size}
use Rattle.file_list.specs.Back.{IsRead}
use Rattle.file_report.specs.Report.{most_variables, most_lines}
use Rattle.file_report.specs.Laws.{is_listed, list_ready, read_reported, refused_reported}
use Rattle.file_report.proofs.report_file.Goals.{In-Ok}
use Rattle.file_report.proofs.report_file.Goals as goal

-- the file was read
listed : (c : In-Ok) → IsRead most_variables c.args.bytes.now (line_size * most_lines) c.in-Ok.z
listed c = is_listed c.read_within.ensures (omega arith) _ c.in-Ok.is

pub overflow_mul-numbers : goal.overflow_mul-numbers
overflow_mul-numbers c = record { fits = omega (arith, (listed (goal.at.overflow_mul-numbers c).In-Ok).has_room) }

pub slice_bounds-numbers-end : goal.slice_bounds-numbers-end
slice_bounds-numbers-end c = omega (arith, (listed (goal.at.slice_bounds-numbers-end c).In-Ok).has_room, c.read_within.auto.numbers)

pub slice_bounds-report_list-end : goal.slice_bounds-report_list-end
slice_bounds-report_list-end c =
    omega (arith, (listed (goal.at.slice_bounds-report_list-end c).In-Ok).has_room, c.read_within.auto.numbers, length-take (line_size * c.in-Ok.z.lines) c.read_within.new.numbers)

pub report_list-requires : goal.report_list-requires
report_list-requires c = list_ready c.read_within.ensures (omega arith) _ c.in-Ok.is _ (omega arith)

pub returns-in-Ok : goal.returns-in-Ok
returns-in-Ok c = read_reported c.read_within.ensures (omega arith) _ c.in-Ok.is c.report_list.ensures

pub returns-in-Err : goal.returns-in-Err
returns-in-Err c =
    let numbered = c.file_number_and_place-numbered.ensures in
    refused_reported c.read_within.ensures (omega arith) _ c.in-Err.is numbered.0 numbered.1 c.write_refused.ensures
