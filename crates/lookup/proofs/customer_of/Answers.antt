use Rattle.model.specs.Names.{customer_of}
use Rattle.lookup.proofs.customer_of.Goals as goal

pub returns-in-Number : goal.returns-in-Number
unfolding customer_of
returns-in-Number c = rw c.in-Number.is

pub returns-in-LastName : goal.returns-in-LastName
unfolding customer_of
returns-in-LastName c = rw c.in-LastName.is c.find.ensures
