-- What is printed depends on a request's kind alone; a status shows at most 75 numbers; a reading gives its request back; so a line is answered.
-- Assumes nothing.
use mathlib.Core.Path.{◌≡◌, refl, sym, ap, ◌∙◌}
use mathlib.Core.Bool.{Bool, true, false, cond}
use mathlib.Core.Logic.{◌≢◌}
use mathlib.Core.List.{List, [], ◌∷◌}
use Prim.Native.Nat.{ℕ, zero, suc, ◌≤◌}
use native.Mathlib.Nat.{le_trans, mul-le-mul_right}
use native.Mathlib.Omega.{arith}
use Rattle.std.specs.Prelude.{Option, Some, IsSome}
use lib.Dec.{eqb}
use lib.IntN.{ℤ, pos}
use lib.ListN.{length, take, drop, length-append}
use borrow.Author.Tests.{eqb-true}
use Rattle.model.specs.declared.Dims.{Dims}
use Rattle.model.specs.declared.OrderStatus.{OrderStatus}
use Rattle.model.specs.declared.RequestAnswer.{RequestAnswer}
use Rattle.model.specs.declared.RequestOutcome.{RequestOutcome}
use Rattle.model.specs.declared.RequestOutcome.TheVariants as RequestCase
use Rattle.model.specs.Answer.{Answer, committed, refused, request_says}
use Rattle.model.specs.Names.{Who}
use Rattle.model.specs.Head.{dims}
use Rattle.model.specs.OrderStatus.{empty_part, part_of, status_fault, status_order, lines_part, status_part}
use Rattle.model.specs.Request.{Request, new_order, payment, delivery, order_status, stock_level, Lent, shown_part, shown_of, nums_after}
use Rattle.model.specs.RequestLine.{letter, read, no_form, read_line}
use Rattle.model.specs.AnswerLine.{printed, told, answer_line, no_form_line, printed_for, left_after}
use Rattle.model.proofs.RowFacts.{OrderIn}
use Rattle.model.proofs.StatusFacts.{status_ready}
use Rattle.engine.specs.Carried.{Carried, lettered}
use Rattle.answers.specs.Writing.{Answered, sample, outcome_line, has_room}
use Rattle.answers.proofs.Putting.{room}
use Rattle.desk.specs.Step.{Stepped}

-- ── what is printed ──
printed-kind : (r s : Request) (figures : List ℤ) (orders : List ℕ) (shown : List ℤ) → letter r ≡ letter s → printed r figures orders shown ≡ printed s figures orders shown
printed-kind (new_order q lines) (new_order p ls) figures orders shown e = refl
printed-kind (new_order q lines) (payment p wh) figures orders shown e = absurd (omega arith)
printed-kind (new_order q lines) (delivery p) figures orders shown e = absurd (omega arith)
printed-kind (new_order q lines) (order_status p wh) figures orders shown e = absurd (omega arith)
printed-kind (new_order q lines) (stock_level p) figures orders shown e = absurd (omega arith)
printed-kind (payment q who) (new_order p ls) figures orders shown e = absurd (omega arith)
printed-kind (payment q who) (payment p wh) figures orders shown e = refl
printed-kind (payment q who) (delivery p) figures orders shown e = absurd (omega arith)
printed-kind (payment q who) (order_status p wh) figures orders shown e = absurd (omega arith)
printed-kind (payment q who) (stock_level p) figures orders shown e = absurd (omega arith)
printed-kind (delivery q) (new_order p ls) figures orders shown e = absurd (omega arith)
printed-kind (delivery q) (payment p wh) figures orders shown e = absurd (omega arith)
printed-kind (delivery q) (delivery p) figures orders shown e = refl
printed-kind (delivery q) (order_status p wh) figures orders shown e = absurd (omega arith)
printed-kind (delivery q) (stock_level p) figures orders shown e = absurd (omega arith)
printed-kind (order_status q who) (new_order p ls) figures orders shown e = absurd (omega arith)
printed-kind (order_status q who) (payment p wh) figures orders shown e = absurd (omega arith)
printed-kind (order_status q who) (delivery p) figures orders shown e = absurd (omega arith)
printed-kind (order_status q who) (order_status p wh) figures orders shown e = refl
printed-kind (order_status q who) (stock_level p) figures orders shown e = absurd (omega arith)
printed-kind (stock_level q) (new_order p ls) figures orders shown e = absurd (omega arith)
printed-kind (stock_level q) (payment p wh) figures orders shown e = absurd (omega arith)
printed-kind (stock_level q) (delivery p) figures orders shown e = absurd (omega arith)
printed-kind (stock_level q) (order_status p wh) figures orders shown e = absurd (omega arith)
printed-kind (stock_level q) (stock_level p) figures orders shown e = refl

told-kind : (r s : Request) (a : Answer) (orders : List ℕ) (shown : List ℤ) → letter r ≡ letter s → told r a orders shown ≡ told s a orders shown
told-kind r s (committed figures) orders shown e = ap (λ (zs : List ℤ). pos 0 ∷ zs) (printed-kind r s figures orders shown e)
told-kind r s (refused f) orders shown e = refl

sample-letter : (o : RequestOutcome) → lettered o ≡ letter (sample o)
sample-letter (RequestCase.NewOrder o) = refl
sample-letter (RequestCase.Payment o) = refl
sample-letter (RequestCase.Delivery o) = refl
sample-letter (RequestCase.OrderStatus o) = refl
sample-letter (RequestCase.StockLevel o) = refl

-- the shown lines, read in the book left: only a status shows some, and it leaves the book as it is
shown_left : (s : Lent) (q : Request) (r : RequestAnswer) (left : Lent) → Carried s q r left → part_of r.part left.nums ≡ shown_of s q
unfolding shown_part nums_after
shown_left s (new_order q lines) r left c = rw c.shows
shown_left s (payment q who) r left c = rw c.shows
shown_left s (delivery q) r left c = rw c.shows
shown_left s (order_status q who) r left c = rw (c.shows, c.leaves)
shown_left s (stock_level q) r left c = rw c.shows

-- the line of what a request was answered is the request's
line-told : (s : Lent) (q : Request) (r : RequestAnswer) (left : Lent) → Carried s q r left → outcome_line r.outcome r.orders (part_of r.part left.nums) ≡ answer_line s q
unfolding outcome_line answer_line
line-told s q r left c =
    let k : letter (sample r.outcome) ≡ letter q = sym (sample-letter r.outcome) ∙ c.kind in
    rw (told-kind (sample r.outcome) q (request_says r.outcome) r.orders (part_of r.part left.nums) k, k, c.says, c.orders, shown_left s q r left c)

-- ── a status shows at most 15 lines ──
take-most : (n : ℕ) (zs : List ℤ) → length (take n zs) ≤ n
take-most zero zs = omega arith
take-most (suc n) [] = omega arith
take-most (suc n) (z ∷ zs) = omega (arith, take-most n zs)

lines-most : (d : Dims) (b : List ℤ) (w k o : ℕ) → (o ≢ 0 → OrderIn d b w k o) → (lines_part d b w k o).count ≤ 75
unfolding lines_part
lines-most d b w k zero i = omega arith
lines-most d b w k (suc o) i = mul-le-mul_right 5 (i (λ e. omega arith)).count_high

status_most : (b : List ℤ) (names : List ℕ) (last : List ℤ) (q : OrderStatus) (who : Who) → (status_part b names last q who).count ≤ 75
unfolding status_part
status_most b names last q who = go (eqb (status_fault b names last q who).number 0) refl
  where
    go : (t : Bool) → eqb (status_fault b names last q who).number 0 ≡ t → (cond t (lines_part (dims b) b q.warehouse q.district (status_order (dims b) names last q who)) empty_part).count ≤ 75
    go true e = lines-most (dims b) b q.warehouse q.district (status_order (dims b) names last q who) (status_ready b names last q who (eqb-true _ _ e)).used.order
    go false e = omega arith

shown_most : (s : Lent) (q : Request) → length (shown_of s q) ≤ 75
unfolding shown_part
shown_most s (new_order q lines) = omega arith
shown_most s (payment q who) = omega arith
shown_most s (delivery q) = omega arith
shown_most s (order_status q who) = le_trans (take-most _ _) (status_most s.nums s.names s.last q who)
shown_most s (stock_level q) = omega arith

-- ── a line answered ──
module _ (s : Lent) (line out m : List ℕ) (n : ℕ) (left : Lent) where
  stepped : (t : Bool) (text : List ℕ) → t ≡ true → text ≡ printed_for s (read_line line) → left ≡ left_after s (read_line line) → Answered t text out m (Some n) → Stepped s line out m n left
  stepped t text e f g w = let k = rw e at w.long in record { long = rw (← f) cc; bytes = rw (← f) (rw e at w.bytes); leaves = g }

  -- where it has no form
  pub stepped_none : length out ≡ 2048 → no_form ≡ read_line line → left ≡ s → Answered (has_room out []) no_form_line out m (Some n) → Stepped s line out m n left
  unfolding printed_for left_after
  stepped_none h r k w = stepped (has_room out []) no_form_line (room out [] (omega arith) (omega arith)) (rw (← r)) (rw (← r) k) w

-- where it was read, and shows a part of the book
module _ (s : Lent) (q : Request) (r : RequestAnswer) (left : Lent) (c : Carried s q r left) (out : List ℕ) (shown : List ℤ) (h : length out ≡ 2048) (p : shown ≡ part_of r.part left.nums) where
  pub has_room_for : has_room out shown ≡ true
  has_room_for = room out shown (omega arith) (rw (p, shown_left s q r left c) (shown_most s q))

  pub stepped_read : (line m : List ℕ) (n : ℕ) → read q ≡ read_line line → Answered (has_room out shown) (outcome_line r.outcome r.orders shown) out m (Some n) → Stepped s line out m n left
  unfolding printed_for left_after
  stepped_read line m n e w =
      stepped s line out m n left (has_room out shown) (outcome_line r.outcome r.orders shown) has_room_for (rw (← e, p) (line-told s q r left c)) (rw (← e) c.leaves) w

pub is_written : (t : Bool) (text old new : List ℕ) (r : Option ℕ) → Answered t text old new r → t ≡ true → IsSome r
is_written t text old new r w e = rw (w.long, e) refl

-- what was written is a part of the buffer
pub written_part : (s : Lent) (line old new : List ℕ) (n : ℕ) (left : Lent) → Stepped s line old new n left → n ≤ length new
written_part s line old new n left w = rw (w.long, w.bytes) (omega (arith, length-append (printed_for s (read_line line)) (drop (length (printed_for s (read_line line))) old)))
