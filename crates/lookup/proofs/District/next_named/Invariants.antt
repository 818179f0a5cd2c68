use Rattle.lookup.specs.Listed.{named_from, Passed}
use Rattle.lookup.proofs.District.next_named.Given as goal

abbrev pub invariant-loop-i : goal.invariant-loop-i
invariant-loop-i l = Passed (named_from l.self.names.now l.self.base l.name) l.from l.i
