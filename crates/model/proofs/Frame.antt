-- What stands at an address after a list of changes.
-- Assumes nothing.
use mathlib.Core.Path.{◌≡◌, refl, sym, ap, ◌∙◌, subst}
use mathlib.Core.Bool.{Bool, true, false, cond}
use mathlib.Core.List.{List, [], ◌∷◌}
use Prim.Native.Nat.{ℕ, zero, suc, ◌+◌, ◌-◌, ◌≤◌, ◌<◌}
use native.Mathlib.Nat.{not-suc-le-zero, le_of_suc-le-suc, add-zero, zero-add, suc-add, add-suc}
use native.Mathlib.Omega.{arith}
use native.Mathlib.Decide.{dec_lt}
use lib.IntN.{ℤ, pos}
use lib.ListN.{length, get_or, set, length-set}
use lib.Seq.{get_or-set_same, get_or-set_other}
use Rattle.model.specs.Layout.{Shape, Addr, place, total, none}
use Rattle.model.specs.Store.{get, remap, Op, one, row, op, run}
use Rattle.model.proofs.Places.{Valid, same, place_lt, row_same, start, place-start, true_same, same_place, false-place, row-true, row_inside}

pub length-remap : (p n k : ℕ) (f : ℕ → ℤ → ℤ) (b : List ℤ) → length (remap p n k f b) ≡ length b
unfolding remap
length-remap p n k f [] = refl
length-remap (suc p) n k f (z ∷ b) = ap suc (length-remap p n k f b)
length-remap zero zero k f (z ∷ b) = refl
length-remap zero (suc n) k f (z ∷ b) = ap suc (length-remap zero n (suc k) f b)

remap-before : (p n k : ℕ) (f : ℕ → ℤ → ℤ) (b : List ℤ) (j : ℕ) → j < p → get_or (remap p n k f b) j (pos 0) ≡ get_or b j (pos 0)
unfolding remap
remap-before p n k f [] j h = refl
remap-before (suc p) n k f (z ∷ b) zero h = refl
remap-before (suc p) n k f (z ∷ b) (suc j) h = remap-before p n k f b j (le_of_suc-le-suc h)
remap-before zero n k f (z ∷ b) j h = absurd (not-suc-le-zero h)

remap-after : (p n k : ℕ) (f : ℕ → ℤ → ℤ) (b : List ℤ) (j : ℕ) → p + n ≤ j → get_or (remap p n k f b) j (pos 0) ≡ get_or b j (pos 0)
unfolding remap
remap-after p n k f [] j h = refl
remap-after (suc p) n k f (z ∷ b) zero h = refl
remap-after (suc p) n k f (z ∷ b) (suc j) h = remap-after p n k f b j (omega arith)
remap-after zero zero k f (z ∷ b) j h = refl
remap-after zero (suc n) k f (z ∷ b) zero h = let q : ◌≡◌ {A = ℕ} 0 1 = omega arith in absurd (omega arith)
remap-after zero (suc n) k f (z ∷ b) (suc j) h = remap-after zero n (suc k) f b j (omega arith)

remap_in : (p n k : ℕ) (f : ℕ → ℤ → ℤ) (b : List ℤ) (j : ℕ) → p + j < length b → j < n
    → get_or (remap p n k f b) (p + j) (pos 0) ≡ f (k + j) (get_or b (p + j) (pos 0))
unfolding remap
remap_in p n k f [] j h g = absurd (not-suc-le-zero h)
remap_in (suc p) n k f (z ∷ b) j h g = rw (suc-add p j) (remap_in p n k f b j (omega arith) g)
remap_in zero zero k f (z ∷ b) j h g = absurd (not-suc-le-zero g)
remap_in zero (suc n) k f (z ∷ b) zero h g = ap (λ (m : ℕ). f m z) (sym (add-zero k))
remap_in zero (suc n) k f (z ∷ b) (suc j) h g =
    let ih = remap_in zero n (suc k) f b j (omega arith) (omega arith) in
    rw (zero-add (suc j), add-suc k j) (simp (zero-add, suc-add) at ih)

-- what a change makes of the number at an address
abbrev pub seen1 : Addr → Op → ℤ → ℤ
seen1 a (one g f) v = cond (same a g) (f v) v
seen1 a (row g f) v = cond (row_same a g) (f a.k v) v

abbrev pub target : Op → Addr
target (one g f) = g
target (row g f) = g

abbrev pub at_start : Op → Type 0
at_start (one g f) = Unit {0}
at_start (row g f) = g.k ≡ 0

abbrev pub seen : Addr → List Op → ℤ → ℤ
seen a [] v = v
seen a (o ∷ os) v = seen a os (seen1 a o v)

abbrev pub Fine : List Shape → List Op → Type 0
Fine l [] = Unit {0}
Fine l (o ∷ os) = Valid l (target o) × at_start o × Fine l os

pub length-op : (l : List Shape) (o : Op) (b : List ℤ) → length (op l o b) ≡ length b
unfolding op
length-op l (one g f) b = length-set b (place l g) (f (get l b g))
length-op l (row g f) b = length-remap (place l g) (get_or l g.s none).ks 0 f b

pub get-one : (l : List Shape) (b : List ℤ) (a g : Addr) (f : ℤ → ℤ) → length b ≡ total l → Valid l a → Valid l g
    → get l (op l (one g f) b) a ≡ cond (same a g) (f (get l b a)) (get l b a)
unfolding get op
get-one l b a g f n va vg = go (same a g) refl
  where
    go : (t : Bool) → same a g ≡ t
        → get_or (set b (place l g) (f (get l b g))) (place l a) (pos 0) ≡ cond t (f (get_or b (place l a) (pos 0))) (get_or b (place l a) (pos 0))
    go true e = rw (same_place l a g (true_same a g e)) (get_or-set_same b (place l g) (f (get l b g)) (pos 0) (omega (arith, place_lt l g vg)))
    go false e = get_or-set_other b (place l g) (place l a) (f (get l b g)) (pos 0) (false-place l a g va vg e)

clash : {X : Type 0} (t : Bool) → t ≡ true → t ≡ false → X
clash true e e' = let z : ◌≡◌ {A = ℕ} 0 1 = cc in absurd (omega arith)
clash false e e' = let z : ◌≡◌ {A = ℕ} 0 1 = cc in absurd (omega arith)

pub get-row : (l : List Shape) (b : List ℤ) (a g : Addr) (f : ℕ → ℤ → ℤ) → length b ≡ total l → Valid l a → Valid l g → g.k ≡ 0
    → get l (op l (row g f) b) a ≡ cond (row_same a g) (f a.k (get l b a)) (get l b a)
unfolding get op
get-row l b a g f n va vg z = go (row_same a g) refl
  where
    ks : ℕ
    ks = (get_or l g.s none).ks

    pg : place l g ≡ place l (start g)
    pg = place-start l g ∙ omega arith

    go : (t : Bool) → row_same a g ≡ t
        → get_or (remap (place l g) ks 0 f b) (place l a) (pos 0) ≡ cond t (f a.k (get_or b (place l a) (pos 0))) (get_or b (place l a) (pos 0))
    go true e =
        let sm = row-true a g e in
        let pa : place l a ≡ place l g + a.k = omega (arith, place-start l a, same_place l (start a) (start g) sm, pg) in
        let kk : a.k < ks = subst (λ (i : ℕ). a.k < (get_or l i none).ks) sm.s va.row.k2 in
        let lt : place l g + a.k < length b = omega (arith, place_lt l a va) in
        rw pa (remap_in (place l g) ks 0 f b a.k lt kk ∙ ap (λ (i : ℕ). f i (get_or b (place l g + a.k) (pos 0))) (zero-add a.k))
    go false e = out (dec_lt (place l a) (place l g)) (dec_lt (place l a) (place l g + ks))
      where
        out : Dec (place l a < place l g) → Dec (place l a < place l g + ks)
            → get_or (remap (place l g) ks 0 f b) (place l a) (pos 0) ≡ get_or b (place l a) (pos 0)
        out (yes h) d = remap-before (place l g) ks 0 f b (place l a) h
        out (no h) (yes h') = clash (row_same a g) (row_inside l a g (place l a - place l g) va vg (omega arith) (omega (arith, pg))) e
        out (no h) (no h') = remap-after (place l g) ks 0 f b (place l a) (omega arith)

pub get-op : (l : List Shape) (b : List ℤ) (a : Addr) (o : Op) → length b ≡ total l → Valid l a → Valid l (target o) → at_start o
    → get l (op l o b) a ≡ seen1 a o (get l b a)
get-op l b a (one g f) n va vg z = get-one l b a g f n va vg
get-op l b a (row g f) n va vg z = get-row l b a g f n va vg z

pub length_run : (l : List Shape) (os : List Op) (b : List ℤ) → length (run l os b) ≡ length b
length_run l [] b = refl
length_run l (o ∷ os) b = length_run l os (op l o b) ∙ length-op l o b

-- THE frame law: what stands at an address after a list of changes
pub get-run : (l : List Shape) (os : List Op) (b : List ℤ) (a : Addr) → length b ≡ total l → Fine l os → Valid l a
    → get l (run l os b) a ≡ seen a os (get l b a)
get-run l [] b a n fs va = refl
get-run l (o ∷ os) b a n fs va =
    get-run l os (op l o b) a (length-op l o b ∙ n) fs.2 va ∙ ap (λ (v : ℤ). seen a os v) (get-op l b a o n va fs.0 fs.1)
