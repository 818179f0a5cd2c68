-- The old text copied out, and back behind the note; a customer's bytes in the whole text.
-- Assumes nothing.
use mathlib.Core.Path.{◌≡◌, sym, ap, ◌∙◌}
use mathlib.Core.List.{List, [], ◌++◌, append-nil}
use Prim.Native.Nat.{ℕ, ◌+◌, ◌*◌, ◌-◌, ◌≤◌}
use native.Mathlib.Nat.{zero-add}
use native.Mathlib.Omega.{arith}
use lib.ListN.{length, take, drop, length-drop, drop_of_length-le}
use lib.Seq.{length-sets, take-append-add, drop-drop}
use Rattle.model.specs.declared.Dims.{Dims}
use Rattle.model.specs.Layout.{place, per_customer, of_customer}
use Rattle.model.specs.Note.{note_place, text_at, moved, replaced}
use Rattle.text.specs.Writing.{Wrote}
use Rattle.text.proofs.Putting.{front}

-- text t, with the note written over its front to m, its copy old, and what comes back behind the note
module _ (t m old back note : List ℕ) (n : ℕ) (long : length t ≡ 500) (few : length note ≤ 126) (w : Wrote t m 0 n note) where
  long-m : length m ≡ 500
  long-m = ap length w.same ∙ length-sets t 0 note ∙ long

  n-is : n ≡ length note
  n-is = w.place ∙ zero-add (length note)

  pub moved_back : old ≡ t → back ≡ take (500 - n - 0) old → take n m ++ (back ++ drop (500 - n) (drop n m)) ≡ moved note t
  unfolding moved
  moved_back same eb =
      let none : drop (500 - n) (drop n m) ≡ [] = drop_of_length-le (drop n m) {i = 500 - n} (omega (arith, length-drop n m, long-m)) in
      let five : length note + (500 - n - 0) ≡ 500 = omega (arith, n-is) in
      rw (front t m note n w (omega arith), none, append-nil back, eb, same)
      (sym (take-append-add note t (500 - n - 0)) ∙ ap (λ (i : ℕ). take i (note ++ t)) five)

-- a customer's m bytes from place 500 · p on
module _ (d : Dims) (notes text note : List ℕ) (w k c : ℕ) {p : ℕ} (e : p ≡ place (per_customer d) (of_customer w k c)) where
  pub part_replaced : (m : ℕ) → m ≡ 500 → text ≡ moved note (take m (drop (500 * p) notes))
      → take (500 * p) notes ++ (text ++ drop m (drop (500 * p) notes)) ≡ replaced (note_place d w k c) (moved note (text_at d notes w k c)) notes
  unfolding replaced note_place text_at
  part_replaced m f g = rw (g, f, drop-drop 500 (500 * p) notes, e)
