-- On hand that covers margin and quantity is not lifted: beside the other laws of restocking, so that an edit of this one is read apart from them.
-- Assumes nothing.
use mathlib.Core.Path.{◌≡◌, ap}
use mathlib.Core.Bool.{false, not}
use Prim.Native.Nat.{ℕ, ◌+◌, ◌≤◌}
use borrow.Author.Tests.{le-leb}
use Rattle.model.specs.TopUp.{lifts}

pub lifts-not : (m h q : ℕ) → m + q ≤ h → lifts m h q ≡ false
unfolding lifts
lifts-not m h q e = ap not (le-leb (m + q) h e)
