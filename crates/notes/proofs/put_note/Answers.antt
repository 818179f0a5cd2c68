use native.Mathlib.Omega.{arith}
use Rattle.model.specs.Note.{note_of}
use Rattle.notes.proofs.Moving.{moved_back}
use Rattle.notes.proofs.put_note.Goals as goal

pub returns : goal.returns
returns c =
    moved_back c.args.text.now c.write_note-n.new.text c.copy_from_slice.new.self c.copy_from_slice-2.new.self (note_of c.args.q c.args.c) c.write_note-n.result c.requires (omega (arith, c.write_note-n.ensures.1, c.write_note-n.ensures.0.place)) c.write_note-n.ensures.0 c.copy_from_slice.ensures.after c.copy_from_slice-2.ensures.after
