-- A name, who in a field, the letter and the line.
-- Assumes nothing.
use mathlib.Core.Path.{◌≡◌, refl, ap, ◌∙◌}
use mathlib.Core.Bool.{Bool, true, false, ◌&&◌, ◌||◌, not}
use mathlib.Core.List.{List, [], ◌∷◌, ◌++◌}
use Prim.Native.Nat.{ℕ, ◌+◌, ◌-◌, ◌≤◌, ◌<◌}
use native.Mathlib.Omega.{arith}
use lib.Dec.{leb, ltb, eqb}
use lib.ListN.{length, get_or, take, drop, length-append}
use lib.Seq.{length-take-le, get_or-take, take-append_seam, get_or-append_seam}
use borrow.Author.Tests.{eq-eqb, ne_eqb, leb-true, le-leb, lt-leb, ltb-true}
use Rattle.std.specs.List.{list_all}
use Rattle.std.proofs.Common.{⊎_elim}
use Rattle.std.proofs.lemmas.Bool.{or_cases}
use Rattle.model.specs.Tests.{all_of}
use Rattle.model.specs.declared.Selection.{Selection}
use Rattle.model.specs.Names.{by_number, by_name, who_of}
use Rattle.model.specs.Text.{is_number, value_of, parted}
use Rattle.model.specs.RequestLine.{is_printable, is_name, is_who, who_read, no_form, read_fields, read_parted, read_line}
use Rattle.model.proofs.TestLaws.{every-each}
use Rattle.text.specs.Fields.{parts_from, fields_from, FieldEnd}
use Rattle.lines.specs.Fields.{has_who_field, WhoStepped}

-- ── a name ──
pub printable : (f : List ℕ) → list_all (λ x. leb 32 x && leb x 126) f ≡ all_of is_printable f
printable [] = refl
printable (x ∷ f) = ap (λ t. is_printable x && t) (printable f)

pub name-long : (f : List ℕ) → (ltb (length f) 1 || ltb 16 (length f)) ≡ true → false ≡ is_name f
unfolding is_name
name-long f e =
    ⊎_elim (λ (h : ltb (length f) 1 ≡ true). rw (lt-leb 1 (length f) (ltb-true (length f) 1 h)))
    (λ (h : ltb 16 (length f) ≡ true). let k : 16 < length f = ltb-true 16 (length f) h in rw (le-leb 1 (length f) (omega arith), lt-leb (length f) 16 k))
    (or_cases (ltb (length f) 1) (ltb 16 (length f)) e)

pub name_is : (f : List ℕ) (t : Bool) → 1 ≤ length f → length f ≤ 16 → t ≡ list_all (λ x. leb 32 x && leb x 126) f
    → ((t && not (eqb (get_or f 0 0) 32)) && not (eqb (get_or f (length f - 1) 0) 32)) ≡ is_name f
unfolding is_name
name_is f t h k e = rw (le-leb 1 (length f) h, le-leb (length f) 16 k, e, printable f)

pub name-short : (f : List ℕ) → is_name f ≡ true → length f ≤ 16
unfolding is_name
name-short f e =
    leb-true (length f) 16
    (every-each (leb 1 (length f) ∷ leb (length f) 16 ∷ all_of is_printable f ∷ not (eqb (get_or f 0 0) 32) ∷ not (eqb (get_or f (length f - 1) 0) 32) ∷ []) e).1.0

-- ── who ──
pub who-empty : (f : List ℕ) → length f ≡ 0 → is_who f ≡ false
unfolding is_who
who-empty [] h = refl
who-empty (x ∷ f) h = absurd (omega arith)

module _ (f g : List ℕ) (x : ℕ) (e : f ≡ x ∷ g) where
  pub who-number : x ≡ 35 → (is_who f ≡ is_number g) × (who_read f ≡ by_number (value_of g))
  unfolding is_who who_read
  who-number h = let t : eqb x 35 ≡ true = eq-eqb x 35 h in (rw (e, t), rw (e, t))

  pub who-name : x ≡ 61 → (is_who f ≡ is_name g) × (who_read f ≡ by_name g)
  unfolding is_who who_read
  who-name h =
      let t : eqb x 35 ≡ false = ne_eqb x 35 (λ q. omega arith) in
      let u : eqb x 61 ≡ true = eq-eqb x 61 h in
      (rw (e, t, u), rw (e, t))

  pub who-not : (x ≡ 35 → ⊥) → (x ≡ 61 → ⊥) → is_who f ≡ false
  unfolding is_who
  who-not h k =
      let t : eqb x 35 ≡ false = ne_eqb x 35 h in
      let u : eqb x 61 ≡ false = ne_eqb x 61 k in
      rw (e, t, u)

-- who, at a position
pub who-past : (s : List ℕ) (at : ℕ) → length s < at → has_who_field (fields_from s at) ≡ false
unfolding parts_from
who-past s at h = rw (lt-leb at (length s) h)

module _ (s : List ℕ) (at e : ℕ) (d : FieldEnd 9 s at e) where
  pub who-none : is_who (take (e - at) (drop at s)) ≡ false → has_who_field (fields_from s at) ≡ false
  who-none h = rw d.parts h

  pub who_is : (who : Selection) → is_who (take (e - at) (drop at s)) ≡ true → who_of who ≡ who_read (take (e - at) (drop at s)) → WhoStepped s at (e + 1) who
  who_is who h c = record { there = rw d.parts h; choice = rw d.parts c; rest = rw d.parts; within = omega (arith, d.to) }

-- ── the letter and the line ──
pub letter-not : (x : ℕ) (fs : List (List ℕ)) → (x ≡ 78 → ⊥) → (x ≡ 80 → ⊥) → (x ≡ 68 → ⊥) → (x ≡ 83 → ⊥) → (x ≡ 76 → ⊥) → no_form ≡ read_fields x fs
unfolding read_fields
letter-not x fs n p d s l = rw (ne_eqb x 78 n, ne_eqb x 80 p, ne_eqb x 68 d, ne_eqb x 83 s, ne_eqb x 76 l)

first_part : (s : List ℕ) (e : ℕ) → FieldEnd 9 s 0 e → parted s ≡ take e s ∷ fields_from s (e + 1)
unfolding parts_from
first_part s e d =
    let z : e - 0 ≡ e = omega arith in
    let p = d.parts in
    rw (le-leb 0 (length s) (omega arith), z) at p

pub body-not : (s : List ℕ) (e : ℕ) → FieldEnd 9 s 0 e → (e ≡ 1 → ⊥) → read_parted (parted s) ≡ no_form
body-not s e d h =
    let l : length (take e s) ≡ e = length-take-le e s d.to in
    ap read_parted (first_part s e d) ∙ rw (l, ne_eqb e 1 h)

pub body_is : (s : List ℕ) (e : ℕ) → FieldEnd 9 s 0 e → e ≡ 1 → read_parted (parted s) ≡ read_fields (get_or s 0 0) (fields_from s 2)
body_is s e d h =
    let l : length (take e s) ≡ e = length-take-le e s d.to in
    let g : get_or (take e s) 0 0 ≡ get_or s 0 0 = get_or-take e s 0 0 (omega arith) in
    let z : e + 1 ≡ 2 = omega arith in
    ap read_parted (first_part s e d) ∙ rw (l, eq-eqb e 1 h, g, z)

pub line-empty : (s : List ℕ) → length s ≡ 0 → no_form ≡ read_line s
unfolding read_line
line-empty s h = rw (lt-leb 1 (length s) (omega arith))

module _ (s body : List ℕ) (x : ℕ) (e : s ≡ body ++ (x ∷ [])) where
  long : length s ≡ length body + 1
  long = ap length e ∙ length-append body (x ∷ [])

  short : length s - 1 ≡ length body
  short = omega (arith, long)

  last : get_or s (length s - 1) 0 ≡ x
  last = ap (λ k. get_or s k 0) short ∙ ap (λ t. get_or t (length body) 0) e ∙ get_or-append_seam body x [] 0

  pub line_open : (x ≡ 10 → ⊥) → no_form ≡ read_line s
  unfolding read_line
  line_open h = rw (le-leb 1 (length s) (omega (arith, long)), last, ne_eqb x 10 h)

  pub line-is : x ≡ 10 → read_line s ≡ read_parted (parted body)
  unfolding read_line
  line-is h =
      let t : take (length body) s ≡ body = ap (take (length body)) e ∙ take-append_seam body (x ∷ []) in
      rw (le-leb 1 (length s) (omega (arith, long)), last, eq-eqb x 10 h, short, t)
