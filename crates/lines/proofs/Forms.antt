-- Each form's tests, as code makes them: numbers in a row, and for P and S a who between.
-- Assumes nothing.
use Rattle.std.proofs.Math.Bool.{and_assoc, and-true, and-false}
use mathlib.Core.Path.{◌≡◌, refl, sym, ap, ◌∙◌}
use mathlib.Core.Bool.{Bool, true, false, ◌&&◌}
use mathlib.Core.List.{List, [], ◌∷◌}
use Prim.Native.Nat.{ℕ, ◌+◌, ◌≤◌, ◌<◌}
use native.Mathlib.Omega.{arith}
use lib.Dec.{eqb}
use lib.ListN.{length, get_or, take, drop, get_or-map}
use lib.Seq.{get_or-drop, get_or-take, drop-drop}
use borrow.Author.Tests.{ne_eqb}
use Rattle.model.specs.Names.{Who}
use Rattle.model.specs.Tests.{every}
use Rattle.model.specs.Request.{payment, delivery, order_status, stock_level}
use Rattle.model.specs.Text.{is_number, value_of}
use Rattle.model.specs.RequestLine.{is_who, who_read, field, number_in, read, no_form, read_payment, read_delivery, read_order_status, read_stock_level}
use Rattle.lines.specs.Fields.{values_of, has_numbers, are_numbers, has_who_field}

-- ── values read ──
pub value-at : (fs : List (List ℕ)) (k : ℕ) → number_in fs k ≡ get_or (values_of fs) k 0
unfolding value_of
value-at fs k = sym (get_or-map value_of fs k [])

-- those of the first n fields
pub value_front : (fs : List (List ℕ)) (vs : List ℕ) (n k : ℕ) → vs ≡ values_of (take n fs) → k < n → get_or vs k 0 ≡ number_in fs k
value_front fs vs n k e h = ap (λ l. get_or l k 0) e ∙ sym (value-at (take n fs) k) ∙ ap value_of (get_or-take n fs k [] h)

-- those after the first n fields
pub value_back : (fs gs : List (List ℕ)) (vs : List ℕ) (n k : ℕ) → vs ≡ values_of gs → drop n fs ≡ gs → get_or vs k 0 ≡ number_in fs (n + k)
value_back fs gs vs n k e q = ap (λ l. get_or l k 0) e ∙ sym (value-at gs k) ∙ ap (λ l. number_in l k) (sym q) ∙ ap value_of (get_or-drop n fs k [])

-- ── D and L ──
module _ (fs : List (List ℕ)) where
  pub delivery-not : are_numbers 3 fs ≡ false → no_form ≡ read_delivery fs
  unfolding read_delivery
  delivery-not e = rw e

  pub stock-not : are_numbers 3 fs ≡ false → no_form ≡ read_stock_level fs
  unfolding read_stock_level
  stock-not e = rw e

  module _ (vs : List ℕ) (e : are_numbers 3 fs ≡ true) (q : vs ≡ values_of fs) where
    pub delivery-is : read (delivery (record { warehouse = get_or vs 0 0; carrier = get_or vs 1 0; date = get_or vs 2 0 })) ≡ read_delivery fs
    unfolding read_delivery
    delivery-is = rw (e, value-at fs 0, value-at fs 1, value-at fs 2, q)

    pub stock-is : read (stock_level (record { warehouse = get_or vs 0 0; district = get_or vs 1 0; threshold = get_or vs 2 0 })) ≡ read_stock_level fs
    unfolding read_stock_level
    stock-is = rw (e, value-at fs 0, value-at fs 1, value-at fs 2, q)

-- ── P ──
abbrev pay_tests : List (List ℕ) → Bool
pay_tests fs =
    every (eqb (length fs) 7 ∷ is_number (field fs 0) ∷ is_number (field fs 1) ∷ is_number (field fs 2) ∷ is_number (field fs 3) ∷ is_who (field fs 4)
    ∷ is_number (field fs 5) ∷ is_number (field fs 6) ∷ [])

pay_sum : (fs : List (List ℕ)) → pay_tests fs ≡ (has_numbers 4 fs && (has_who_field (drop 4 fs) && are_numbers 2 (drop 5 fs)))
pay_sum [] = refl
pay_sum (a ∷ []) = simp and-false
pay_sum (a ∷ b ∷ []) = simp and-false
pay_sum (a ∷ b ∷ c ∷ []) = simp and-false
pay_sum (a ∷ b ∷ c ∷ d ∷ []) = simp and-false
pay_sum (a ∷ b ∷ c ∷ d ∷ e ∷ []) = simp and-false
pay_sum (a ∷ b ∷ c ∷ d ∷ e ∷ f ∷ []) = simp and-false
pay_sum (a ∷ b ∷ c ∷ d ∷ e ∷ f ∷ g ∷ []) = simp (and_assoc, and-true)
pay_sum (a ∷ b ∷ c ∷ d ∷ e ∷ f ∷ g ∷ h ∷ fs) =
    let l : eqb (length (a ∷ b ∷ c ∷ d ∷ e ∷ f ∷ g ∷ h ∷ fs)) 7 ≡ false = ne_eqb _ 7 (λ q. omega arith) in
    let m : eqb (length (f ∷ g ∷ h ∷ fs)) 2 ≡ false = ne_eqb _ 2 (λ q. omega arith) in
    rw (l, m) (simp and-false)

module _ (fs : List (List ℕ)) where
  pub pay-few : has_numbers 4 fs ≡ false → no_form ≡ read_payment fs
  unfolding read_payment
  pay-few e = rw (pay_sum fs, e)

  module _ (gs : List (List ℕ)) (r : drop 4 fs ≡ gs) where
    who_of : has_who_field (drop 4 fs) ≡ has_who_field gs
    who_of = ap has_who_field r

    pub pay-nobody : has_who_field gs ≡ false → no_form ≡ read_payment fs
    unfolding read_payment
    pay-nobody e = rw (pay_sum fs, who_of, e) (simp and-false)

    module _ (hs : List (List ℕ)) (t : drop 1 gs ≡ hs) where
      after : drop 5 fs ≡ hs
      after = sym (drop-drop 1 4 fs) ∙ ap (drop 1) r ∙ t

      pub pay-short : are_numbers 2 hs ≡ false → no_form ≡ read_payment fs
      unfolding read_payment
      pay-short e = rw (pay_sum fs, after, e) (simp and-false)

      module _ (vs us : List ℕ) (w : Who) where
        pub pay-is : has_numbers 4 fs ≡ true → vs ≡ values_of (take 4 fs) → has_who_field gs ≡ true → w ≡ who_read (field gs 0) → are_numbers 2 hs ≡ true → us ≡ values_of hs
            → read (payment (record { warehouse = get_or vs 0 0; district = get_or vs 1 0; custwarehouse = get_or vs 2 0; custdistrict = get_or vs 3 0; date = get_or us 0 0; amount = get_or us 1 0 }) w)
            ≡ read_payment fs
        unfolding read_payment
        pay-is e v h c n u =
            let at = λ (k : ℕ) (l : k < 4). value_front fs vs 4 k v l in
            let on = λ (k : ℕ). value_back fs hs us 5 k u after in
            let who : who_read (field gs 0) ≡ who_read (field fs 4) = ap (λ l. who_read (field l 0)) (sym r) ∙ ap who_read (get_or-drop 4 fs 0 []) in
            rw (pay_sum fs, e, who_of, h, after, n, at 0 (omega arith), at 1 (omega arith), at 2 (omega arith), at 3 (omega arith), on 0, on 1, c, who) refl

-- ── S ──
abbrev status_tests : List (List ℕ) → Bool
status_tests fs = every (eqb (length fs) 3 ∷ is_number (field fs 0) ∷ is_number (field fs 1) ∷ is_who (field fs 2) ∷ [])

status_sum : (fs : List (List ℕ)) → status_tests fs ≡ (has_numbers 2 fs && (has_who_field (drop 2 fs) && eqb (length (drop 3 fs)) 0))
status_sum [] = refl
status_sum (a ∷ []) = simp and-false
status_sum (a ∷ b ∷ []) = simp and-false
status_sum (a ∷ b ∷ c ∷ []) = simp (and_assoc, and-true)
status_sum (a ∷ b ∷ c ∷ d ∷ fs) =
    let l : eqb (length (a ∷ b ∷ c ∷ d ∷ fs)) 3 ≡ false = ne_eqb _ 3 (λ q. omega arith) in
    let m : eqb (length (d ∷ fs)) 0 ≡ false = ne_eqb _ 0 (λ q. omega arith) in
    rw (l, m) (simp and-false)

module _ (fs : List (List ℕ)) where
  pub status-few : has_numbers 2 fs ≡ false → no_form ≡ read_order_status fs
  unfolding read_order_status
  status-few e = rw (status_sum fs, e)

  module _ (gs : List (List ℕ)) (r : drop 2 fs ≡ gs) where
    whose : has_who_field (drop 2 fs) ≡ has_who_field gs
    whose = ap has_who_field r

    pub status-nobody : has_who_field gs ≡ false → no_form ≡ read_order_status fs
    unfolding read_order_status
    status-nobody e = rw (status_sum fs, whose, e) (simp and-false)

    module _ (hs : List (List ℕ)) (t : drop 1 gs ≡ hs) where
      left : drop 3 fs ≡ hs
      left = sym (drop-drop 1 2 fs) ∙ ap (drop 1) r ∙ t

      pub status-left : 1 ≤ length hs → no_form ≡ read_order_status fs
      unfolding read_order_status
      status-left h = let z : eqb (length hs) 0 ≡ false = ne_eqb (length hs) 0 (λ q. omega arith) in rw (status_sum fs, left, z) (simp and-false)

      module _ (vs : List ℕ) (w : Who) where
        pub status-is : has_numbers 2 fs ≡ true → vs ≡ values_of (take 2 fs) → has_who_field gs ≡ true → w ≡ who_read (field gs 0) → hs ≡ []
            → read (order_status (record { warehouse = get_or vs 0 0; district = get_or vs 1 0 }) w) ≡ read_order_status fs
        unfolding read_order_status
        status-is e v h c n =
            let who : who_read (field gs 0) ≡ who_read (field fs 2) = ap (λ l. who_read (field l 0)) (sym r) ∙ ap who_read (get_or-drop 2 fs 0 []) in
            rw (status_sum fs, e, whose, h, left, n, value_front fs vs 2 0 v (omega arith), value_front fs vs 2 1 v (omega arith), c, who) refl
