use Rattle.model.specs.Used.{who_used}
use Rattle.lookup.proofs.who_used.Goals as goal

pub returns-in-Number : goal.returns-in-Number
unfolding who_used
returns-in-Number c = rw c.in-Number.is c.customer_used.ensures

pub returns-in-LastName : goal.returns-in-LastName
unfolding who_used
returns-in-LastName c = rw c.in-LastName.is c.named_used.ensures
