-- What is read has at most 16 bytes of a last name.
-- Assumes nothing.
use Rattle.std.proofs.Common.{◌≡◌, ℕ, ◌≤◌, List, length, true, refl, arith}
use Rattle.std.proofs.Common.{leb-true}
use Rattle.std.specs.Prelude.{leb, eqb, get_or, not, ◌-◌, ◌∷◌, []}
use Rattle.model.specs.declared.ReadAnswer.{ReadAnswer}
use Rattle.model.specs.Names.{Who, by_number, by_name}
use Rattle.model.specs.Tests.{all_of}
use Rattle.model.specs.Text.{has_digits}
use Rattle.model.specs.Request.{Request, new_order, payment, delivery, order_status, stock_level, lines_in}
use Rattle.model.specs.RequestLine.{Reading, read, no_form, read_line, read_as, ReadSays, is_name, is_printable, has_who, has_form}
use Rattle.model.proofs.TestLaws.{every-each}
use Rattle.model.proofs.LineLaws.{written_read}
use Rattle.capi.specs.Calls.{name_in, name_read}

name_short : (who : Who) → has_who who ≡ true → length (name_in who) ≤ 16
unfolding is_name
name_short (by_number c) e = omega arith
name_short (by_name name) e = leb-true _ _ (every-each (leb 1 (length name) ∷ leb (length name) 16 ∷ all_of is_printable name ∷ not (eqb (get_or name 0 0) 32) ∷ not (eqb (get_or name (length name - 1) 0) 32) ∷ []) e).1.0

request_short : (r : Request) → has_form r ≡ true → length (name_read (read r)) ≤ 16
unfolding has_form
request_short (new_order q lines) e = omega arith
request_short (payment q who) e =
    name_short who (every-each (has_digits q.warehouse ∷ has_digits q.district ∷ has_digits q.custwarehouse ∷ has_digits q.custdistrict ∷ has_who who ∷ has_digits q.date ∷ has_digits q.amount ∷ []) e).1.1.1.1.0
request_short (delivery q) e = omega arith
request_short (order_status q who) e = name_short who (every-each (has_digits q.warehouse ∷ has_digits q.district ∷ has_who who ∷ []) e).1.1.0
request_short (stock_level q) e = omega arith

reading_short : (s : List ℕ) (x : Reading) → read_line s ≡ x → length (name_read x) ≤ 16
reading_short s (read r) e = request_short r (written_read s r e).form
reading_short s no_form e = omega arith

pub short_name : (s : List ℕ) (a : ReadAnswer) → ReadSays (read_line s) a → length (name_read (read_as a.outcome (lines_in a.lines))) ≤ 16
short_name s a w = rw w.request (reading_short s (read_line s) refl)
