use Prim.Native.Nat.{◌+◌, ◌*◌, ◌-◌}
use native.Mathlib.Omega.{arith}
use Rattle.model.specs.Note.{note_of}
use Rattle.notes.proofs.Moving.{part_replaced}
use Rattle.notes.proofs.note.Goals as goal

pub returns : goal.returns
returns c =
    part_replaced c.args.d c.args.notes.now c.put_note.new.text (note_of c.args.q c.args.c) c.args.q.custwarehouse c.args.q.custdistrict c.args.c c.of_customer-place.ensures.0 (500 * c.of_customer-place.result + 500 - 500 * c.of_customer-place.result) (omega arith) c.put_note.ensures
