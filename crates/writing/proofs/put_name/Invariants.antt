-- `put_name`: the bytes so far stand behind the mark.
use Rattle.std.proofs.Common.{◌≡◌, ◌+◌}
use lib.Seq.{paste}
use Rattle.writing.proofs.put_name.Given as goal

abbrev pub invariant-loop-i : goal.invariant-loop-i
invariant-loop-i l = l.line ≡ paste l.initial.line (l.at + 2) l.name l.i
