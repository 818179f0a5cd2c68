-- Laws of places: one formula, in range and one to one.
-- Assumes nothing.
use mathlib.Core.Path.{◌≡◌, refl, sym, ap, ◌∙◌, subst}
use mathlib.Core.Logic.{◌≢◌}
use mathlib.Core.Bool.{Bool, true, false, ◌&&◌}
use mathlib.Core.List.{List, [], ◌∷◌}
use Prim.Native.Nat.{ℕ, zero, suc, ◌+◌, ◌*◌, ◌-◌, ◌/◌, ◌%◌, ◌≤◌, ◌<◌}
use native.Mathlib.Nat.{not-suc-le-zero, le_of_suc-le-suc}
use native.Mathlib.Omega.{arith}
use native.Mathlib.Decide.{ℕ_discrete, dec_lt}
use lib.Arith.{digits_lt, digits_div, digits_mod}
use lib.Dec.{eqb}
use lib.ListN.{length, get_or}
use borrow.Author.Tests.{eqb-true, eq-eqb}
use Rattle.model.specs.Layout.{Shape, Addr, at, place, inside, base, total, size, none}
use Rattle.model.proofs.TestLaws.{and_left, and_right}

abbrev pub same : Addr → Addr → Bool
same a b = ◌&&◌ (eqb a.s b.s) (◌&&◌ (eqb a.k b.k) (◌&&◌ (eqb a.z b.z) (◌&&◌ (eqb a.y b.y) (eqb a.x b.x))))

pub record In (h : Shape) (a : Addr) : Type 0 where
  pub x1 : 1 ≤ a.x
  pub x2 : a.x ≤ h.xs
  pub y1 : 1 ≤ a.y
  pub y2 : a.y ≤ h.ys
  pub z1 : 1 ≤ a.z
  pub z2 : a.z ≤ h.zs
  pub k2 : a.k < h.ks

pub record Valid (l : List Shape) (a : Addr) : Type 0 where
  pub sect : a.s < length l
  pub row : In (get_or l a.s none) a

-- ── the nonlinear part, once ──
mix_left : (q q' r r' m : ℕ) → r < m → r' < m → q * m + r ≡ q' * m + r' → q ≡ q'
mix_left q q' r r' m h h' e = sym (digits_div q h) ∙ ap (λ (n : ℕ). n / m) e ∙ digits_div q' h'

mix_right : (q q' r r' m : ℕ) → r < m → r' < m → q * m + r ≡ q' * m + r' → r ≡ r'
mix_right q q' r r' m h h' e = sym (digits_mod q h) ∙ ap (λ (n : ℕ). n % m) e ∙ digits_mod q' h'

inside_lt : (h : Shape) (a : Addr) → In h a → inside h a < size h
unfolding inside
inside_lt h a v =
    digits_lt (digits_lt (digits_lt {q = (a.x - 1)} {m = h.xs} {r = (a.y - 1)} {c = h.ys} (omega arith) (omega arith)) (omega arith)) v.k2

pub record Same (a b : Addr) : Type 0 where
  pub s : a.s ≡ b.s
  pub x : a.x ≡ b.x
  pub y : a.y ≡ b.y
  pub z : a.z ≡ b.z
  pub k : a.k ≡ b.k

inside_inj : (h : Shape) (a b : Addr) → In h a → In h b → a.s ≡ b.s → inside h a ≡ inside h b → Same a b
unfolding inside
inside_inj h a b v w es e =
    let ya : (a.y - 1) < h.ys = omega arith in
    let yb : (b.y - 1) < h.ys = omega arith in
    let za : (a.z - 1) < h.zs = omega arith in
    let zb : (b.z - 1) < h.zs = omega arith in
    let e1 = mix_left _ _ a.k b.k h.ks v.k2 w.k2 e in
    let ek = mix_right _ _ a.k b.k h.ks v.k2 w.k2 e in
    let e2 = mix_left _ _ _ _ h.zs za zb e1 in
    let ez = mix_right _ _ _ _ h.zs za zb e1 in
    let ex = mix_left _ _ _ _ h.ys ya yb e2 in
    let ey = mix_right _ _ _ _ h.ys ya yb e2 in
    record { s = es; x = omega (arith, ex); y = omega (arith, ey); z = omega (arith, ez); k = ek }

base-next : (l : List Shape) (i j : ℕ) → i < j → j < length l → base l i + size (get_or l i none) ≤ base l j
base-next [] i j h g = absurd (not-suc-le-zero g)
base-next (t ∷ l) i zero h g = absurd (not-suc-le-zero h)
base-next (t ∷ l) zero (suc j) h g = omega arith
base-next (t ∷ l) (suc i) (suc j) h g = omega (arith, base-next l i j (le_of_suc-le-suc h) (le_of_suc-le-suc g))

base-last : (l : List Shape) (i : ℕ) → i < length l → base l i + size (get_or l i none) ≤ total l
base-last [] i g = absurd (not-suc-le-zero g)
base-last (t ∷ l) zero g = omega arith
base-last (t ∷ l) (suc i) g = omega (arith, base-last l i (le_of_suc-le-suc g))

pub place_lt : (l : List Shape) (a : Addr) → Valid l a → place l a < total l
unfolding place
place_lt l a v = omega (arith, inside_lt (get_or l a.s none) a v.row, base-last l a.s v.sect)

same-sect : (l : List Shape) (a b : Addr) → Valid l a → Valid l b → place l a ≡ place l b → Dec (a.s ≡ b.s) → a.s ≡ b.s
unfolding place
same-sect l a b v w e (yes p) = p
same-sect l a b v w e (no n) = go (dec_lt a.s b.s)
  where
    go : Dec (a.s < b.s) → a.s ≡ b.s
    go (yes h) = omega (arith, inside_lt (get_or l a.s none) a v.row, base-next l a.s b.s h w.sect)
    go (no h) = omega (arith, inside_lt (get_or l b.s none) b w.row, base-next l b.s a.s (omega arith) v.sect)

pub place_inj : (l : List Shape) (a b : Addr) → Valid l a → Valid l b → place l a ≡ place l b → Same a b
unfolding place
place_inj l a b v w e =
    let es = same-sect l a b v w e (ℕ_discrete a.s b.s) in
    let w' : In (get_or l a.s none) b = subst (λ (j : ℕ). In (get_or l j none) b) (sym es) w.row in
    let e' = subst (λ (j : ℕ). place l a ≡ base l j + inside (get_or l j none) b) (sym es) e in
    inside_inj (get_or l a.s none) a b v.row w' es (omega arith)

same_true : (a b : Addr) → Same a b → same a b ≡ true
same_true a b p = rw (eq-eqb _ _ p.s, eq-eqb _ _ p.k, eq-eqb _ _ p.z, eq-eqb _ _ p.y, eq-eqb _ _ p.x)

pub true_same : (a b : Addr) → same a b ≡ true → Same a b
true_same a b e =
    let bx = eqb a.x b.x in
    let by = eqb a.y b.y in
    let bz = eqb a.z b.z in
    let bk = eqb a.k b.k in
    let bs = eqb a.s b.s in
    let e1 = and_right bs (◌&&◌ bk (◌&&◌ bz (◌&&◌ by bx))) e in
    let e2 = and_right bk (◌&&◌ bz (◌&&◌ by bx)) e1 in
    let e3 = and_right bz (◌&&◌ by bx) e2 in
    record {
      s = eqb-true _ _ (and_left bs (◌&&◌ bk (◌&&◌ bz (◌&&◌ by bx))) e);
      x = eqb-true _ _ (and_right by bx e3);
      y = eqb-true _ _ (and_left by bx e3);
      z = eqb-true _ _ (and_left bz (◌&&◌ by bx) e2);
      k = eqb-true _ _ (and_left bk (◌&&◌ bz (◌&&◌ by bx)) e1);
    }

pub same_place : (l : List Shape) (a b : Addr) → Same a b → place l a ≡ place l b
unfolding place inside
same_place l a b p = cc

pub false-place : (l : List Shape) (a b : Addr) → Valid l a → Valid l b → same a b ≡ false → place l a ≢ place l b
false-place l a b v w e q = let t : true ≡ false = sym (same_true a b (place_inj l a b v w q)) ∙ e in let z : ◌≡◌ {A = ℕ} 0 1 = cc in omega arith

-- ── rows ──
abbrev pub row_same : Addr → Addr → Bool
row_same a g = ◌&&◌ (eqb a.s g.s) (◌&&◌ (eqb a.z g.z) (◌&&◌ (eqb a.y g.y) (eqb a.x g.x)))

abbrev pub start : Addr → Addr
start a = at a.s a.x a.y a.z 0

pub place-start : (l : List Shape) (a : Addr) → place l a ≡ place l (start a) + a.k
unfolding place inside
place-start l a = omega arith

pub row-true : (a g : Addr) → row_same a g ≡ true → Same (start a) (start g)
row-true a g e =
    let bx = eqb a.x g.x in
    let by = eqb a.y g.y in
    let bz = eqb a.z g.z in
    let bs = eqb a.s g.s in
    let e1 = and_right bs (◌&&◌ bz (◌&&◌ by bx)) e in
    let e2 = and_right bz (◌&&◌ by bx) e1 in
    record {
      s = eqb-true _ _ (and_left bs (◌&&◌ bz (◌&&◌ by bx)) e);
      x = eqb-true _ _ (and_right by bx e2);
      y = eqb-true _ _ (and_left by bx e2);
      z = eqb-true _ _ (and_left bz (◌&&◌ by bx) e1);
      k = refl;
    }

-- a place between a row's first and last is one of the row's
pub row_inside : (l : List Shape) (a g : Addr) (j : ℕ) → Valid l a → Valid l g → j < (get_or l g.s none).ks → place l a ≡ place l (start g) + j → row_same a g ≡ true
row_inside l a g j va vg h e =
    let g' = at g.s g.x g.y g.z j in
    let r = vg.row in
    let vg' : Valid l g' = record { sect = vg.sect; row = record { x1 = r.x1; x2 = r.x2; y1 = r.y1; y2 = r.y2; z1 = r.z1; z2 = r.z2; k2 = h } } in
    let p = place_inj l a g' va vg' (e ∙ sym (place-start l g')) in
    rw (eq-eqb _ _ p.s, eq-eqb _ _ p.z, eq-eqb _ _ p.y, eq-eqb _ _ p.x)
