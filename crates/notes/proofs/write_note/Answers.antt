use native.Mathlib.Omega.{arith}
use Rattle.notes.proofs.Writing.{note_written}
use Rattle.notes.proofs.write_note.Goals as goal

pub returns : goal.returns
returns c =
    (note_written c.args.q c.args.c c.put_number-custdistrict.ensures.0 c.put_number-custwarehouse.ensures.0 c.put_number-district.ensures.0 c.put_number-warehouse.ensures.0 c.put_number-amount.ensures.0 c.put_number.ensures.0, omega (arith, c.put_number-custdistrict.ensures.1, c.put_number-custwarehouse.ensures.1, c.put_number-district.ensures.1, c.put_number-warehouse.ensures.1, c.put_number-amount.ensures.1, c.put_number.ensures.1))
