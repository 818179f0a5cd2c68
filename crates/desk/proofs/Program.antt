-- The program's claim: whatever bytes come in, its book agrees with its history, no line is answered 2, 3, 9, 13, 14 or 17, and its last orders are
-- those of its book.
-- Assumes nothing.
use mathlib.Core.Path.{◌≡◌, refl, sym, subst}
use mathlib.Core.Bool.{Bool, true, false, cond}
use mathlib.Core.List.{List, [], ◌∷◌, ◌++◌}
use Prim.Native.Nat.{ℕ}
use native.Mathlib.Omega.{arith}
use lib.Dec.{eqb}
use lib.IntN.{ℤ, pos}
use Rattle.model.specs.Tests.{Refusal}
use Rattle.model.specs.Answer.{Answer, committed, refused, answer_by}
use Rattle.model.specs.Head.{dims}
use Rattle.model.specs.Opening.{Accepted}
use Rattle.model.specs.NewOrder.{new_order_answer}
use Rattle.model.specs.Payment.{payment_answer}
use Rattle.model.specs.Delivery.{delivery_answer}
use Rattle.model.specs.OrderStatus.{status_answer}
use Rattle.model.specs.StockLevel.{stock_level_answer}
use Rattle.model.specs.Request.{Request, new_order, payment, delivery, order_status, stock_level, Lent, lent, fault_of, answer_of, orders_of, shown_of, after}
use Rattle.model.specs.RequestLine.{letter, Reading, read, no_form, read_line}
use Rattle.model.specs.Text.{text_of}
use Rattle.model.specs.AnswerLine.{printed, told, answer_line, no_form_line, printed_for}
use Rattle.model.specs.Tally.{done_all, after_all, tallied}
use Rattle.model.specs.Numbers.{nat, cell}
use Rattle.model.specs.LastOrder.{last_at}
use Rattle.model.specs.Claim.{R, Claim, Never, last_order, Started, NeverBy}
use Rattle.model.proofs.Demand.{demand}
use Rattle.model.proofs.LastDemand.{last-orders, last_serves}
use Rattle.model.proofs.NoteDemand.{notes_serve}
use Rattle.model.proofs.Listing.{program_book, program_names, program_last, program_notes, program_topup, accepted}
use Rattle.model.proofs.TopUpDemand.{opening_accepts, table_serves}
use Rattle.desk.specs.Step.{None239, Sound}
use Rattle.desk.specs.Input.{left_by, requests_in, held_in, Served}
use Rattle.desk.proofs.Blocks.{left_requests}

-- demand 3, of a book after requests
abbrev pub Claimed : Lent → List Request → List ℤ → Type 0
Claimed s rs b = Claim (dims s.nums) s.nums s.topup (tallied s rs) b × Never (done_all s rs)

-- ── an answer on a book that any lines left ──
refused-by : (g f : Refusal) (figures : List ℤ) → answer_by g figures ≡ refused f → g ≡ f
refused-by g f figures e = go (eqb g.number 0) e
  where
    go : (t : Bool) → cond t (committed figures) (refused g) ≡ refused f → g ≡ f
    go true q = absurd (let z : ◌≡◌ {A = ℕ} 0 1 = cc in omega arith)
    go false q = cc

answer-refused : (s : Lent) (r : Request) (f : Refusal) → answer_of s r ≡ refused f → fault_of s r ≡ f
unfolding answer_of fault_of new_order_answer payment_answer delivery_answer status_answer stock_level_answer
answer-refused s (new_order q lines) f e = refused-by _ f _ e
answer-refused s (payment q who) f e = refused-by _ f _ e
answer-refused s (delivery q) f e = refused-by _ f _ e
answer-refused s (order_status q who) f e = refused-by _ f _ e
answer-refused s (stock_level q) f e = refused-by _ f _ e

never-last : (s : Lent) (rs : List Request) (r : Request) → Never (done_all s (rs ++ (r ∷ []))) → None239 (fault_of (after_all s rs) r).number
never-last s [] r n = (n.0, (n.1.0, n.1.1.0))
never-last s (q ∷ rs) r n = never-last (after s q) rs r n.1.1.1

module _ (s : Lent) (opened : Accepted s.nums s.names) where
  never-refused : (ls : List (List ℕ)) (r : Request) (f : Refusal) → answer_of (left_by s ls) r ≡ refused f → None239 f.number
  never-refused ls r f e =
      let g : fault_of (after_all s (requests_in ls)) r ≡ f = rw (← left_requests s ls) (answer-refused (left_by s ls) r f e) in
      subst (λ (k : Refusal). None239 k.number) g (never-last s (requests_in ls) r (demand s opened (requests_in ls ++ (r ∷ []))).1)

  answer_sound : (ls : List (List ℕ)) (r : Request) → Sound (answer_line (left_by s ls) r)
  unfolding answer_line
  answer_sound ls r = go (answer_of (left_by s ls) r) refl
    where
      go : (a : Answer) → answer_of (left_by s ls) r ≡ a → Sound (text_of (letter r) (told r a (orders_of (left_by s ls) r) (shown_of (left_by s ls) r)))
      go (committed figures) e =
          record {
            letter = letter r;
            number = 0;
            others = printed r figures (orders_of (left_by s ls) r) (shown_of (left_by s ls) r);
            text = refl;
            never = ((λ z. omega arith), ((λ z. omega arith), λ z. omega arith));
          }
      go (refused f) e = record { letter = letter r; number = f.number; others = pos f.detail ∷ []; text = refl; never = never-refused ls r f e }

  -- what a line prints after any lines: never a refusal by 2, 3 or 9
  pub line_sound : (ls : List (List ℕ)) (l : List ℕ) → Sound (printed_for (left_by s ls) (read_line l))
  unfolding printed_for no_form_line
  line_sound ls l = go (read_line l)
    where
      go : (x : Reading) → Sound (printed_for (left_by s ls) x)
      go (read r) = answer_sound ls r
      go no_form = record { letter = 63; number = 1; others = pos 0 ∷ []; text = refl; never = ((λ z. omega arith), ((λ z. omega arith), λ z. omega arith)) }

  -- what input leaves, by the requests that it holds
  pub served_claim : (left : Lent) (v : Served s left) → Claimed s (held_in v.input) left.nums
  served_claim left v = subst (λ (k : Lent). Claimed s (held_in v.input) k.nums) (sym v.leaves) (demand s opened (held_in v.input))

-- ── the program's book ──
abbrev pub program : Lent
program = lent program_book program_names program_last program_notes program_topup

program_accepted : Accepted program_book program_names
program_accepted = ((opening_accepts program_book program_names program_topup).0 accepted).0

-- whatever bytes come in
pub program_claim : (input : List ℕ) → Claimed program (held_in input) (after_all program (held_in input)).nums
program_claim input = demand program program_accepted (held_in input)

-- whatever lines came before
pub program_sound : (ls : List (List ℕ)) (l : List ℕ) → Sound (printed_for (left_by program ls) (read_line l))
program_sound = line_sound program program_accepted

-- whatever `serve` leaves of it
pub program_served : (left : Lent) (v : Served program left) → Claimed program (held_in v.input) left.nums
program_served = served_claim program program_accepted

-- ── R-1: the program lends last orders all 0 ──
program_started : Started program
unfolding dims cell nat
program_started = record { accepted = program_accepted; zeros = refl }

-- whatever `serve` leaves: each number is the one that the scan of the book finds
pub program_last_lem : (left : Lent) → Served program left → (w k c : ℕ) → R (dims program_book).warehouses w → R 10 k → R (dims program_book).customers c
    → last_at (dims program_book) left.last w k c ≡ pos (last_order (dims program_book) left.nums w k c)
program_last_lem left v w k c r s u =
    subst (λ (x : Lent). last_at (dims program_book) x.last w k c ≡ pos (last_order (dims program_book) x.nums w k c)) (sym v.leaves)
    ((last-orders program program_started (held_in v.input)).1 w k c r s u)

-- whatever bytes come in: no request is refused by 13
pub program_serves : (input : List ℕ) → NeverBy 13 (done_all program (held_in input))
program_serves input = last_serves program program_started (held_in input)

-- ── R-4: the program lends texts all spaces ──
-- whatever bytes come in: no request is refused by 14
pub program_noted : (input : List ℕ) → NeverBy 14 (done_all program (held_in input))
unfolding dims cell nat
program_noted input = notes_serve program refl (held_in input)

-- ── R-6: the program lends the table 10, 91 ──
-- whatever bytes come in: no request is refused by 17
pub program_topped : (input : List ℕ) → NeverBy 17 (done_all program (held_in input))
program_topped input = table_serves program ((opening_accepts program_book program_names program_topup).0 accepted).1 (held_in input)

-- what is lent is the program's where numbers, names and table are
pub as_program : (b : List ℤ) (names : List ℕ) (topup : List ℤ) → b ≡ program_book → names ≡ program_names → topup ≡ program_topup → lent b names program_last program_notes topup ≡ program
as_program b names topup p q r = rw (p, q, r)
