-- What a call answers and leaves, by the refusal r that the code has found.
-- Assumes nothing.
use mathlib.Core.Path.{◌≡◌, sym, ap, ◌∙◌}
use mathlib.Core.Logic.{◌≢◌}
use mathlib.Core.List.{List}
use lib.IntN.{ℤ}
use borrow.Author.Tests.{eq-eqb, ne_eqb}
use Rattle.model.specs.Tests.{Refusal}
use Rattle.model.specs.Tests.{bare}
use Rattle.model.specs.declared.Refused.{Refused}
use Rattle.model.specs.Answer.{committed, refused, answer_by, left_by, numbered}
use native.Mathlib.Omega.{arith}

module _ {f r : Refusal} (e : r ≡ f) where
  pub none-fits : r.number ≡ 0 → f.number ≡ 0
  none-fits z = ap (λ (x : Refusal). x.number) (sym e) ∙ z

  some_fits : r.number ≢ 0 → f.number ≢ 0
  some_fits n z = n (ap (λ (x : Refusal). x.number) e ∙ z)

  pub committed-is : (figures : List ℤ) → r.number ≡ 0 → committed figures ≡ answer_by f figures
  committed-is figures z = rw (eq-eqb f.number 0 (none-fits z))

  pub refused-is : (figures : List ℤ) → r.number ≢ 0 → refused r ≡ answer_by f figures
  refused-is figures n = rw (ne_eqb f.number 0 (some_fits n)) (ap refused e)

  module _ {A : Type 0} (x y : A) where
    pub changed_is : r.number ≡ 0 → x ≡ left_by f x y
    changed_is z = rw (eq-eqb f.number 0 (none-fits z))

    pub kept-is : r.number ≢ 0 → y ≡ left_by f x y
    kept-is n = rw (ne_eqb f.number 0 (some_fits n))

-- a refusal has a number
pub refused_some : (r : Refused) → (numbered r).number ≢ 0
refused_some Refused.NoForm = λ z. omega arith
refused_some Refused.Head = λ z. omega arith
refused_some Refused.NotNew = λ z. omega arith
refused_some Refused.Warehouse = λ z. omega arith
refused_some Refused.District = λ z. omega arith
refused_some Refused.Customer = λ z. omega arith
refused_some Refused.Date = λ z. omega arith
refused_some (Refused.Range line) = λ z. omega arith
refused_some Refused.Row = λ z. omega arith
refused_some Refused.Nobody = λ z. omega arith
refused_some Refused.Full = λ z. omega arith
refused_some (Refused.Item line) = λ z. omega arith
refused_some Refused.LastOrders = λ z. omega arith
refused_some Refused.Notes = λ z. omega arith
refused_some Refused.QueueFull = λ z. omega arith
refused_some Refused.NotRun = λ z. omega arith
refused_some Refused.TopUp = λ z. omega arith

-- the first refusal that fits, as a step of a call has found it
pub some-fits : (r : Refused) {f : Refusal} → numbered r ≡ f → f.number ≢ 0
some-fits r e z = refused_some r (ap (λ (x : Refusal). x.number) e ∙ z)

pub nothing-fits : {f : Refusal} → bare 0 ≡ f → f.number ≡ 0
nothing-fits e = ap (λ (x : Refusal). x.number) (sym e)
