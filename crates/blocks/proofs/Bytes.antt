-- Bytes cut into lines: two blocks in turn are cut as one, and a block is cut byte by byte.
-- Assumes nothing.
use mathlib.Core.Path.{◌≡◌, refl, sym, ap, ◌∙◌}
use mathlib.Core.Bool.{Bool, true, false, not, cond}
use mathlib.Core.List.{List, [], ◌∷◌, ◌++◌, append-nil, append_assoc}
use Prim.Native.Nat.{ℕ, zero, suc, ◌+◌, ◌-◌, ◌≤◌, ◌<◌}
use native.Mathlib.Numerals.{add-one}
use native.Mathlib.Omega.{arith}
use lib.Dec.{eqb, ltb}
use lib.ListN.{length, get_or, take, drop, length-drop, length-append, length-take}
use lib.Seq.{length-take-le, take-suc, take_all, take_at, take-append-add}
use borrow.Author.Tests.{lt-ltb, le-ltb, eqb-true}
use Rattle.std.proofs.Common.{Some, None, ⊎_elim}
use Rattle.std.proofs.lemmas.Bool.{cases_lt}
use Rattle.std.proofs.lemmas.List.{take-append-le}
use Rattle.std.proofs.lemmas.List.Quantifiers.{position-Some}
use Rattle.std.specs.List.{position, position_or_len}
use Rattle.blocks.specs.Cutting.{kept, lines_in, line_after, Started, CutOff}

-- ── two blocks in turn ──
pub lines_append : (xs ys p : List ℕ) → lines_in p (xs ++ ys) ≡ lines_in p xs ++ lines_in (line_after p xs) ys
unfolding lines_in line_after
lines_append [] ys p = refl
lines_append (x ∷ xs) ys p = rw (lines_append xs ys [], lines_append xs ys (kept p x)) (go (eqb x 10))
  where
    go : (t : Bool) → cond t (kept p x ∷ lines_in [] xs ++ lines_in (line_after [] xs) ys) (lines_in (kept p x) xs ++ lines_in (line_after (kept p x) xs) ys)
        ≡ cond t (kept p x ∷ lines_in [] xs) (lines_in (kept p x) xs) ++ lines_in (cond t (line_after [] xs) (line_after (kept p x) xs)) ys
    go true = refl
    go false = refl

pub line_append : (xs ys p : List ℕ) → line_after p (xs ++ ys) ≡ line_after (line_after p xs) ys
unfolding line_after
line_append [] ys p = refl
line_append (x ∷ xs) ys p = rw (line_append xs ys [], line_append xs ys (kept p x)) (go (eqb x 10))
  where
    go : (t : Bool) → cond t (line_after (line_after [] xs) ys) (line_after (line_after (kept p x) xs) ys) ≡ line_after (cond t (line_after [] xs) (line_after (kept p x) xs)) ys
    go true = refl
    go false = refl

-- ── what is kept ──
take-take : {A : Type 0} (k : ℕ) (q r : List A) → take k (take k q ++ r) ≡ take k (q ++ r)
take-take zero q r = refl
take-take (suc k) [] r = refl
take-take (suc k) (a ∷ q) r = ap (λ l. a ∷ l) (take-take k q r)

take-past : {A : Type 0} (p q : List A) (n m : ℕ) → length p ≡ n → take (n + m) (p ++ q) ≡ p ++ take m q
take-past p q n m e = rw (← e) (take-append-add p q m)

kept_is : (p : List ℕ) (x : ℕ) → length p ≤ 1024 → kept p x ≡ take 1024 (p ++ (x ∷ []))
kept_is p x h =
    ⊎_elim (λ (l : length p < 1024). rw (lt-ltb (length p) 1024 l) (sym (take_all 1024 (p ++ (x ∷ [])) (omega (arith, length-append p (x ∷ []))))))
    (λ (l : 1024 ≤ length p). rw (le-ltb (length p) 1024 l) (sym (take-append-le 1024 p (x ∷ []) l ∙ take_all 1024 p h)))
    (cases_lt (length p) 1024)

-- m bytes put to a line of n, as many as there is room for
pub put : (line xs ys rest : List ℕ) (n m : ℕ) → n ≤ length line → ys ≡ take m xs → m ≤ length xs → n + m ≤ 1024 → (m < length xs → 1024 ≤ n + m)
    → take (n + m) (take n line ++ (ys ++ rest)) ≡ take 1024 (take n line ++ xs)
put line xs ys rest n m h e few room full =
    let l : length (take n line) ≡ n = length-take-le n line h in
    let k : n + (1024 - n) ≡ 1024 = omega arith in
    let same : take (1024 - n) xs ≡ take m xs =
    ⊎_elim (λ (q : m < length xs). let g : 1024 ≤ n + m = full q in let j : 1024 - n ≡ m = omega arith in ap (λ i. take i xs) j)
    (λ (q : length xs ≤ m). take_all (1024 - n) xs (omega arith) ∙ sym (take_all m xs q)) (cases_lt m (length xs)) in
    take-past (take n line) (ys ++ rest) n m l ∙ ap (λ t. take n line ++ t) (take_at ys rest m (rw e (length-take-le m xs few)) ∙ e ∙ sym same)
    ∙ sym (take-past (take n line) xs n (1024 - n) l) ∙ ap (λ i. take i (take n line ++ xs)) k

-- ── bytes up to the first byte 10 ──
-- bytes that end no line
record Free (p xs : List ℕ) : Type 0 where
  none : lines_in p xs ≡ []
  all : line_after p xs ≡ take 1024 (p ++ xs)

free-none : (p : List ℕ) → length p ≤ 1024 → Free p []
unfolding lines_in line_after
free-none p h = record { none = refl; all = rw (append-nil p) (sym (take_all 1024 p h)) }

free-more : (p xs : List ℕ) (x : ℕ) → length p ≤ 1024 → eqb x 10 ≡ false → Free (kept p x) xs → Free p (x ∷ xs)
unfolding lines_in line_after
free-more p xs x h e f =
    record {
      none = rw e f.none;
      all = rw e (f.all ∙ ap (λ q. take 1024 (q ++ xs)) (kept_is p x h) ∙ take-take 1024 (p ++ (x ∷ [])) xs ∙ ap (take 1024) (append_assoc p (x ∷ []) xs));
    }

kept_short : (p : List ℕ) (x : ℕ) → length p ≤ 1024 → length (kept p x) ≤ 1024
kept_short p x h = rw (kept_is p x h) (omega (arith, length-take 1024 (p ++ (x ∷ []))))

free : (t p : List ℕ) → length p ≤ 1024 → Free p (take (position_or_len (λ y. eqb y 10) t) t)
free [] p h = free-none p h
free (x ∷ t) p h = go (eqb x 10) refl (free t (kept p x) (kept_short p x h))
  where
    go : (b : Bool) → eqb x 10 ≡ b → Free (kept p x) (take (position_or_len (λ y. eqb y 10) t) t) → Free p (take (cond (not b) (1 + position_or_len (λ y. eqb y 10) t) 0) (x ∷ t))
    go true e f = free-none p h
    go false e f =
        let s : 1 + position_or_len (λ y. eqb y 10) t ≡ suc (position_or_len (λ y. eqb y 10) t) = omega arith in
        rw s (free-more p _ x h e f)

-- the bytes up to and with the first byte 10, and bytes without one
place_is : (b : Bool) (i n : ℕ) → cond b (Some n) None ≡ Some i → n ≡ i
place_is true i n e = cc
place_is false i n e = absurd cc

no-place : (b : Bool) (n : ℕ) → cond b (Some n) None ≡ None → b ≡ false
no-place true n e = absurd cc
no-place false n e = refl

module _ (t p : List ℕ) (h : length p ≤ 1024) where
  module _ (i : ℕ) (e : position (λ y. eqb y 10) t ≡ Some i) where
    pub within : i < length t
    within = (position-Some (λ y. eqb y 10) t i 0 e).0

    before : Free p (take i t)
    before = rw (← place_is _ i _ e) (free t p h)

    upto : take (i + 1) t ≡ take i t ++ (10 ∷ [])
    upto = ap (λ k. take k t) (add-one i) ∙ take-suc t i 0 within ∙ ap (λ y. take i t ++ (y ∷ [])) (eqb-true (get_or t i 0) 10 (position-Some (λ y. eqb y 10) t i 0 e).1)

    last : kept (take 1024 (p ++ take i t)) 10 ≡ take 1024 (p ++ take (i + 1) t)
    last =
        kept_is (take 1024 (p ++ take i t)) 10 (omega (arith, length-take 1024 (p ++ take i t))) ∙ take-take 1024 (p ++ take i t) (10 ∷ [])
        ∙ ap (take 1024) (append_assoc p (take i t) (10 ∷ []) ∙ ap (λ q. p ++ q) (sym upto))

    pub ended-lines : lines_in p (take (i + 1) t) ≡ take 1024 (p ++ take (i + 1) t) ∷ []
    unfolding lines_in
    ended-lines = ap (lines_in p) upto ∙ lines_append (take i t) (10 ∷ []) p ∙ rw (before.none, before.all) (ap (λ q. q ∷ []) last)

    pub ended-rest : line_after p (take (i + 1) t) ≡ []
    unfolding line_after
    ended-rest = ap (line_after p) upto ∙ line_append (take i t) (10 ∷ []) p

  pub unended : position (λ y. eqb y 10) t ≡ None → (lines_in p t ≡ []) × (line_after p t ≡ take 1024 (p ++ t))
  unended e =
      let n = position_or_len (λ y. eqb y 10) t in
      let all : take n t ≡ t = take_all n t (⊎_elim (λ (l : n < length t). absurd (let b : ltb n (length t) ≡ true = lt-ltb n (length t) l in let c : ltb n (length t) ≡ false = no-place _ n e in cc)) (λ (l : length t ≤ n). l) (cases_lt n (length t))) in
      let f = free t p h in
      (ap (lines_in p) (sym all) ∙ f.none, ap (line_after p) (sym all) ∙ f.all ∙ ap (λ q. take 1024 (p ++ q)) all)

-- ── what cutting answers ──
module _ (line new block bytes rest : List ℕ) (len n at : ℕ) (o : Started line len block at) (same : rest ≡ drop at block) (w : (take n new ≡ take 1024 (take len line ++ bytes)) × (n ≤ 1024)) where
  short : length (take len line) ≤ 1024
  short = omega (arith, length-take len line, o.short)

  pub cut_ended : (i : ℕ) → position (λ y. eqb y 10) rest ≡ Some i → bytes ≡ take (i + 1) rest → CutOff (take len line) block at new n (at + i + 1) true
  cut_ended i e b =
      let upto : at + i + 1 - at ≡ i + 1 = omega arith in
      let q : position (λ y. eqb y 10) (drop at block) ≡ Some i = rw same at e in
      let bs : bytes ≡ take (i + 1) (drop at block) = b ∙ ap (take (i + 1)) same in
      record {
        short = w.1;
        place = omega (arith, within (drop at block) (take len line) short i q, length-drop at block, o.place);
        onward = omega arith;
        lines = rw upto (ended-lines (drop at block) (take len line) short i q ∙ ap (λ l. l ∷ []) (sym (w.0 ∙ ap (λ l. take 1024 (take len line ++ l)) bs)));
        rest = rw upto (ended-rest (drop at block) (take len line) short i q);
        whole = λ (z : true ≡ false). absurd cc;
      }

  pub cut_unended : position (λ y. eqb y 10) rest ≡ None → bytes ≡ rest → CutOff (take len line) block at new n (length block) false
  cut_unended e b =
      let all : take (length block - at) (drop at block) ≡ drop at block = take_all (length block - at) (drop at block) (omega (arith, length-drop at block)) in
      let u = unended (drop at block) (take len line) short (rw same at e) in
      record {
        short = w.1;
        place = omega arith;
        onward = omega (arith, o.place);
        lines = rw all u.0;
        rest = rw all (u.1 ∙ sym (w.0 ∙ ap (λ l. take 1024 (take len line ++ l)) (b ∙ same)));
        whole = λ _. refl;
      }
