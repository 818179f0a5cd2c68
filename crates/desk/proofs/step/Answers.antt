use Rattle.std.proofs.Common.{rules}
use Rattle.desk.proofs.Telling.{stepped_none, has_room_for, stepped_read, is_written}
use Rattle.desk.proofs.step.Goals as goal

pub unwrap-requires : goal.unwrap-requires
unwrap-requires c =
    is_written _ _ _ _ _ c.write_answer.ensures (has_room_for _ _ _ _ c.carry_out-a.ensures _ _ (search rules) c.part.ensures)

pub returns-in-Ok : goal.returns-in-Ok
returns-in-Ok c =
    let e = rw c.in-Ok.is at c.read_line-r.ensures.says.request in
    stepped_read _ _ _ _ c.carry_out-a.ensures _ _ (search rules) c.part.ensures _ _ _ (rw c.as_slice.ensures e) (rw c.unwrap.ensures at c.write_answer.ensures)

pub returns-in-Err : goal.returns-in-Err
returns-in-Err c =
    let e = rw c.in-Err.is at c.read_line-r.ensures.says.request in
    stepped_none _ _ _ _ _ _ (search rules) e (search rules) (rw c.unwrap-in-Err.ensures at c.write_no_form.ensures)
