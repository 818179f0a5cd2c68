-- R-4, the bad-credit note: "Field advisers want clause 2.5.2.2's C_DATA."
-- Bytes: 32 space, 59 semicolon.
-- Assumes nothing.
use Rattle.std.specs.Prelude.{Bool, List, [], ◌∷◌, ◌++◌, ℕ, ◌+◌, ◌*◌, eqb, length, take, drop}
use Rattle.model.specs.declared.Dims.{Dims}
use Rattle.model.specs.declared.Payment.{Payment}
use Rattle.model.specs.Layout.{place, per_customer, of_customer}
use Rattle.model.specs.Text.{decimal}

-- "A lent text of 500 bytes per customer": where a customer's bytes start, rows by depot, district, number, and these bytes
unfoldable pub note_place : Dims → ℕ → ℕ → ℕ → ℕ
note_place d w k c = 500 * place (per_customer d) (of_customer w k c)

unfoldable pub text_at : Dims → List ℕ → ℕ → ℕ → ℕ → List ℕ
text_at d notes w k c = take 500 (drop (note_place d w k c) notes)

-- 14: "when the text's length is not 5,000 × W × C"
abbrev pub note_bytes : Dims → ℕ
note_bytes d = 5000 * d.warehouses * d.customers

unfoldable pub notes_long : Dims → List ℕ → Bool
notes_long d notes = eqb (length notes) (note_bytes d)

-- "six numbers ..: customer, its district, its depot, paying district, paying depot, amount"
abbrev pub note_numbers : Payment → ℕ → List ℕ
note_numbers q c = c ∷ q.custdistrict ∷ q.custwarehouse ∷ q.district ∷ q.warehouse ∷ q.amount ∷ []

-- "decimal, one space between, a semicolon after the last"
abbrev pub spaced : List ℕ → List ℕ
spaced [] = 59 ∷ []
spaced (n ∷ []) = decimal n ++ (59 ∷ [])
spaced (n ∷ m ∷ ns) = decimal n ++ (32 ∷ spaced (m ∷ ns))

unfoldable pub note_of : Payment → ℕ → List ℕ
note_of q c = spaced (note_numbers q c)

-- "puts six numbers at its left .. The old text moves right and what passes byte 500 is lost."
unfoldable pub moved : List ℕ → List ℕ → List ℕ
moved note text = take 500 (note ++ text)

-- the 500 bytes from p on become a text
unfoldable pub replaced : ℕ → List ℕ → List ℕ → List ℕ
replaced p text notes = take p notes ++ (text ++ drop (p + 500) notes)
