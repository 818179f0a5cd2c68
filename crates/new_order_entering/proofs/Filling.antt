-- Filling the slot: rows written one after the other are one row, and the numbers that the code writes are those of the model's order.
-- Assumes nothing.
use mathlib.Core.Path.{◌≡◌, refl, sym, ap, ◌∙◌}
use mathlib.Core.Bool.{Bool}
use mathlib.Core.List.{List, [], ◌∷◌, ◌++◌}
use Prim.Native.Nat.{ℕ, zero, suc, ◌+◌, ◌-◌, ◌*◌, ◌≤◌, ◌<◌}
use native.Mathlib.Nat.{add-zero, zero-add, add-suc, le_of_suc-le-suc, not-suc-le-zero}
use native.Mathlib.Omega.{arith}
use lib.IntN.{ℤ, pos}
use lib.ListN.{length, get_or, set, take, drop, replicate, get_or-eq_default, get_or-append, length-append, length-take, length-drop}
use lib.Seq.{get_or-append-add, length-take-le}
use Rattle.std.proofs.Common.{take-append-drop}
use borrow.Rule.Slice.PartMut.{put_mid}
use Rattle.model.specs.declared.Line.{Line}
use Rattle.model.specs.declared.NewOrder.{NewOrder}
use Rattle.model.specs.Store.{remap}
use Rattle.model.specs.NewOrder.{amount_of, line_numbers}
use Rattle.model.proofs.Frame.{length-remap}
use Rattle.model.proofs.Rewrite.{remap-none, remap-more, remap_part, off, puts, puts_row}
use Rattle.new_order_entering.specs.Slot.{head_numbers, five, fill}
use Rattle.model.specs.Request.{no_line}

-- ── m numbers written after k others ──
pub remap_then : (p k m : ℕ) (f g : ℕ → ℤ → ℤ) (b : List ℤ) → p + (k + m) ≤ length b → ((i : ℕ) (y z : ℤ) → i < m → f (k + i) y ≡ g i z)
    → remap (p + k) m 0 g (remap p k 0 f b) ≡ remap p (k + m) 0 f b
remap_then p k zero f g b h e = remap-none (p + k) 0 g (remap p k 0 f b) ∙ ap (λ (n : ℕ). remap p n 0 f b) (sym (add-zero k))
remap_then p k (suc m) f g b h e =
    let ih = remap_then p k m f g b (omega arith) (λ i y z l. e i y z (omega arith)) in
    let c = remap p k 0 f b in
    let o : p + k + m ≡ p + (k + m) = omega arith in
    let one = remap-more (p + k) m 0 g c (rw (length-remap p k 0 f b) (omega arith)) in
    let two = remap-more p (k + m) 0 f b (omega arith) in
    one
    ∙ rw (ih, o, zero-add m, ← e m (get_or b (p + (k + m)) (pos 0)) (get_or c (p + (k + m)) (pos 0)) (omega arith)) (sym (rw (zero-add (k + m)) at two))
    ∙ ap (λ (n : ℕ). remap p n 0 f b) (sym (add-suc k m))

-- the same numbers, the same row
pub remap-same : (p m : ℕ) (f g : ℕ → ℤ → ℤ) (b : List ℤ) → p + m ≤ length b → ((i : ℕ) (y z : ℤ) → i < m → f i y ≡ g i z) → remap p m 0 g b ≡ remap p m 0 f b
remap-same p m f g b h e =
    let t = remap_then p 0 m f g b (omega arith) (λ i y z l. ap (λ (j : ℕ). f j y) (zero-add i) ∙ e i y z l) in
    rw (add-zero p, remap-none p 0 f b, zero-add m) at t

-- ── numbers stored before a row, whichever is written first ──
pub set_past : (p n k : ℕ) (f : ℕ → ℤ → ℤ) (b : List ℤ) (j : ℕ) (v : ℤ) → j < p → set (remap p n k f b) j v ≡ remap p n k f (set b j v)
unfolding remap
set_past p n k f [] j v h = refl
set_past (suc p) n k f (z ∷ b) zero v h = refl
set_past (suc p) n k f (z ∷ b) (suc j) v h = ap (λ (l : List ℤ). z ∷ l) (set_past p n k f b j v (le_of_suc-le-suc h))
set_past zero n k f (z ∷ b) j v h = absurd (not-suc-le-zero h)

off_less : (j k p : ℕ) → j + k < p → off j k < p
off_less j zero p h = omega arith
off_less j (suc k) p h = h

puts_past : (vs : List ℤ) (j m p n : ℕ) (f : ℕ → ℤ → ℤ) (b : List ℤ) → j + (m + length vs) ≤ p → puts (remap p n 0 f b) j m vs ≡ remap p n 0 f (puts b j m vs)
puts_past [] j m p n f b h = refl
puts_past (v ∷ vs) j m p n f b h =
    ap (λ (c : List ℤ). puts c j (suc m) vs) (set_past p n 0 f b (off j m) v (off_less j m p (omega arith)))
    ∙ puts_past vs j (suc m) p n f (set b (off j m) v) (omega arith)

-- ── the numbers of the lines ──
module _ (prices : ℕ → ℕ) where
  length-numbers : (ls : List Line) → length (line_numbers prices ls) ≡ 5 * length ls
  length-numbers [] = refl
  length-numbers (l ∷ ls) = let h = length-numbers ls in omega arith

  numbers-at : (ls : List Line) (i c : ℕ) (z : Line) → i < length ls → c < 5
      → get_or (line_numbers prices ls) (5 * i + c) (pos 0) ≡ get_or (five (get_or ls i z) (amount_of prices (get_or ls i z))) c (pos 0)
  numbers-at [] i c z h g = absurd (not-suc-le-zero h)
  numbers-at (l ∷ ls) zero c z h g =
      let e : 5 * 0 + c ≡ c = omega arith in
      ap (λ (j : ℕ). get_or (line_numbers prices (l ∷ ls)) j (pos 0)) e ∙ get_or-append (five l (amount_of prices l)) (line_numbers prices ls) (pos 0) c g
  numbers-at (l ∷ ls) (suc i) c z h g =
      let e : 5 * suc i + c ≡ suc (suc (suc (suc (suc (5 * i + c))))) = omega arith in
      ap (λ (j : ℕ). get_or (line_numbers prices (l ∷ ls)) j (pos 0)) e ∙ numbers-at ls i c z (le_of_suc-le-suc h) g

  -- one line more
  pub line_filled : (ls : List Line) (p i : ℕ) (b₀ b : List ℤ) → i < length ls → p + 5 * length ls ≤ length b₀ → b ≡ remap p (5 * i) 0 (fill (line_numbers prices ls)) b₀
      → puts b (p + 5 * i) 0 (five (get_or ls i no_line) (amount_of prices (get_or ls i no_line))) ≡ remap p (5 * suc i) 0 (fill (line_numbers prices ls)) b₀
  line_filled ls p i b₀ b h room eb =
      let f = fill (line_numbers prices ls) in
      let xs = five (get_or ls i no_line) (amount_of prices (get_or ls i no_line)) in
      let lb : length b ≡ length b₀ = ap length eb ∙ length-remap p (5 * i) 0 f b₀ in
      let m : 5 * i + 5 ≡ 5 * suc i = omega arith in
      puts_row xs (p + 5 * i) b (omega arith)
      ∙ ap (λ (x : List ℤ). remap (p + 5 * i) 5 0 (fill xs) x) eb
      ∙ remap_then p (5 * i) 5 f (fill xs) b₀ (omega arith) (λ j y z g. numbers-at ls i j no_line h g)
      ∙ ap (λ (x : ℕ). remap p x 0 f b₀) m

  -- the whole slot: the lines, the six numbers before them, zeros
  pub slot_filled : (q : NewOrder) (ls : List Line) (p n : ℕ) (local : Bool) (b : List ℤ) → n ≡ length ls → n ≤ 15 → p + 81 ≤ length b
      → remap (p + (6 + 5 * n)) (81 - (6 + 5 * n)) 0 (fill []) (puts (remap (p + 6) (5 * n) 0 (fill (line_numbers prices ls)) b) p 0 (head_numbers q n local))
      ≡ remap p 81 0 (fill (head_numbers q n local ++ line_numbers prices ls)) b
  slot_filled q ls p n local b e k room =
      let head = head_numbers q n local in
      let rest = line_numbers prices ls in
      let f = fill (head ++ rest) in
      let u = 6 + 5 * n in
      let s1 : puts b p 0 head ≡ remap p 6 0 f b =
      puts_row head p b (omega arith) ∙ remap-same p 6 f (fill head) b (omega arith) (λ i y z g. get_or-append head rest (pos 0) i g) in
      let s2 : puts (remap (p + 6) (5 * n) 0 (fill rest) b) p 0 head ≡ remap p u 0 f b =
      puts_past head p 0 (p + 6) (5 * n) (fill rest) b (omega arith)
      ∙ ap (λ (x : List ℤ). remap (p + 6) (5 * n) 0 (fill rest) x) s1
      ∙ remap_then p 6 (5 * n) f (fill rest) b (omega arith) (λ i y z g. get_or-append-add head rest i (pos 0)) in
      let long : length (head ++ rest) ≤ u = omega (arith, length-append head rest, length-numbers ls) in
      let t = remap_then p u (81 - u) f (fill []) b (omega arith) (λ i y z g. get_or-eq_default (head ++ rest) (pos 0) {n = u + i} (omega arith)) in
      let m : u + (81 - u) ≡ 81 = omega arith in
      ap (λ (x : List ℤ). remap (p + u) (81 - u) 0 (fill []) x) s2 ∙ t ∙ ap (λ (x : ℕ). remap p x 0 f b) m

-- ── zeros in a part of the book ──
row_zero : (k : ℕ) (ys : List ℤ) → remap 0 (length ys) k (fill []) ys ≡ replicate (length ys) (pos 0)
unfolding remap
row_zero k [] = refl
row_zero k (y ∷ ys) = ap (λ (l : List ℤ). pos 0 ∷ l) (row_zero (suc k) ys)

-- m zeros written from p on, as the slice's `fill` leaves the part from p to p + m
pub zeros_put : (p m n : ℕ) (b : List ℤ) {t : List ℤ} → n ≡ m → p + m ≤ length b → t ≡ replicate (length (take n (drop p b))) (pos 0) → put_mid p n b t ≡ remap p m 0 (fill []) b
zeros_put p m n b e h t-is =
    let ys = take m (drop p b) in
    let lp : length (take p b) ≡ p = length-take-le p b (omega arith) in
    let lm : length (take m (drop p b)) ≡ m = simp (length-take, length-drop) (omega arith) in
    let part = remap_part (take p b) ys (drop m (drop p b)) 0 m 0 (fill []) (omega arith) in
    rw (t-is, e, ← row_zero 0 (take m (drop p b)), lm) (sym part ∙ rw (lp, add-zero p, take-append-drop m (drop p b), take-append-drop p b))
