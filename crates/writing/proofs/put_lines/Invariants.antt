use Prim.Native.Nat.{◌+◌, ◌*◌, ◌≤◌}
use lib.ListN.{take}
use Rattle.model.specs.RequestLine.{line_fields}
use Rattle.model.specs.Text.{tabbed}
use Rattle.text.specs.Writing.{Wrote}
use Rattle.writing.proofs.put_lines.Given as goal

abbrev pub invariant-loop-l : goal.invariant-loop-l
invariant-loop-l l = record { few : l.p ≤ l.at + 63 * l.l-index; wrote : Wrote l.initial.line l.line l.at l.p (tabbed (line_fields (take l.l-index l.lines))) }
