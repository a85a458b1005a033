-- `file_list::put_file` meets its contract.
use Rattle.file_list.specs.Putting.{put_all}
use Rattle.file_list.proofs.put_file.Goals as goal

pub returns : goal.returns
returns c =
    let a = c.args in
    put_all a.n a.list.now a.out.now c.put_header.ensures c.put_u32.ensures c.put_lines-end.ensures.1 c.put_lines-end.ensures.0 c.put_header-2.ensures
