-- What the steps hand on.
-- Assumes nothing.
use Rattle.std.specs.Prelude.{◌≡◌, List, ◌∷◌, ℕ, ℤ, pos, replicate, Err}
use Rattle.model.specs.declared.Queue.{Queue}
use Rattle.model.specs.declared.Refused.{Refused}
use Rattle.model.specs.Tests.{bare}
use Rattle.model.specs.Text.{positives}
use Rattle.model.specs.Answer.{refused, delivery_says}
use Rattle.queue.specs.declared.Joined.{Joined}
use Rattle.queue.specs.declared.Ran.{Ran}

-- a queuing call that is refused
abbrev pub not_queued : Queue → Refused → Joined
not_queued q r = record { queue = q; answer = record { outcome = Err r } }

-- a run that is refused by 16
pub record NotRun (q : Queue) (r : Ran) : Type 0 where
  pub says : delivery_says r.answer.outcome ≡ refused (bare 16)
  pub orders : r.answer.orders ≡ replicate 10 0
  pub keeps : r.queue ≡ q

-- the numbers after the finishing date of a Delivery that was carried out
abbrev pub served : ℕ → List ℕ → List ℤ
served skipped orders = pos skipped ∷ positives orders
