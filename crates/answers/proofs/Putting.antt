-- Laws of writing answers: room for a line.
-- Assumes nothing.
use mathlib.Core.Path.{◌≡◌, ap, ◌∙◌}
use mathlib.Core.Bool.{Bool, true}
use mathlib.Core.List.{List}
use Prim.Native.Nat.{ℕ, ◌≤◌}
use native.Mathlib.Nat.{zero-add}
use native.Mathlib.Omega.{arith}
use lib.IntN.{ℤ}
use lib.ListN.{length}
use borrow.Author.Tests.{le-leb}
use Rattle.std.proofs.Common.{Some}
use Rattle.text.specs.Writing.{Wrote}
use Rattle.text.proofs.Putting.{at_front}
use Rattle.answers.specs.Writing.{Answered, has_room}

pub room : (l : List ℕ) (shown : List ℤ) → 2048 ≤ length l → length shown ≤ 75 → has_room l shown ≡ true
room l shown h k = rw (le-leb 2048 (length l) h, le-leb (length shown) 75 k)

-- a line written where there is room
pub line_written : (l m text : List ℕ) (n : ℕ) {t : Bool} → t ≡ true → Wrote l m 0 n text → n ≤ 2048 → 2048 ≤ length l → Answered t text l m (Some n)
line_written l m text n e w k h =
    let p : n ≡ length text = w.place ∙ zero-add (length text) in
    rw e (record { long = ap Some p; bytes = at_front l m text n w (omega arith) })
