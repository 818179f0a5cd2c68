use Prim.Native.Nat.{◌+◌, ◌*◌, ◌≤◌}
use mathlib.Core.List.{map}
use lib.ListN.{take}
use Rattle.model.specs.Text.{tabbed}
use Rattle.text.specs.Writing.{Wrote}
use Rattle.text.proofs.put_numbers.Given as goal

abbrev pub invariant-loop-n : goal.invariant-loop-n
invariant-loop-n g l = record { few : l.p ≤ l.at + 21 * l.n-index; wrote : Wrote l.initial.line l.line l.at l.p (tabbed (map g.T.Shown.text (take l.n-index l.numbers))) }
