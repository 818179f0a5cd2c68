-- An array written anew place by place: below j it is done, from j on nothing is changed.
-- Assumes nothing.
use mathlib.Core.Path.{◌≡◌, refl, sym, ◌∙◌, subst}
use mathlib.Core.List.{List}
use Prim.Native.Nat.{ℕ, ◌+◌, ◌<◌, ◌≤◌}
use native.Mathlib.Omega.{arith}
use native.Mathlib.Decide.{ℕ_discrete}
use lib.ListN.{length, get_or, set, length-set}
use lib.Seq.{get_or-set_same, get_or-set_other}
use Rattle.rows.specs.Rough.{Rewritten}

pub record Rewriting (n : ℕ) (P : ℕ → ℕ → ℕ → Type 0) (old new : List ℕ) (j : ℕ) : Type 0 where
  pub size : length new ≡ n
  pub done : (i : ℕ) → i < j → P i (get_or old i 0) (get_or new i 0)
  pub rest : (i : ℕ) → j ≤ i → get_or new i 0 ≡ get_or old i 0

module _ {n : ℕ} {P : ℕ → ℕ → ℕ → Type 0} {old : List ℕ} where
  pub rewriting_none : length old ≡ n → Rewriting n P old old 0
  rewriting_none e = record { size = e; done = λ i h. absurd (omega arith); rest = λ i h. refl }

  pub rewriting_step : {new : List ℕ} {j v : ℕ} → j < n → Rewriting n P old new j → P j (get_or new j 0) v → Rewriting n P old (set new j v) (j + 1)
  rewriting_step {new} {j} {v} h s p =
      record {
        size = length-set new j v ∙ s.size;
        done = λ i k. at i k (ℕ_discrete i j);
        rest = λ i k. get_or-set_other new j i v 0 (λ q. omega arith) ∙ s.rest i (omega arith);
      }
    where
      here : P j (get_or old j 0) (get_or (set new j v) j 0)
      here = subst (λ x. P j x (get_or (set new j v) j 0)) (s.rest j (omega arith)) (subst (P j (get_or new j 0)) (sym (get_or-set_same new j v 0 (omega (arith, s.size)))) p)

      at : (i : ℕ) → i < j + 1 → Dec (i ≡ j) → P i (get_or old i 0) (get_or (set new j v) i 0)
      at i k (yes q) = subst (λ m. P m (get_or old m 0) (get_or (set new j v) m 0)) (sym q) here
      at i k (no q) = subst (P i (get_or old i 0)) (sym (get_or-set_other new j i v 0 q)) (s.done i (omega arith))

  pub rewriting_end : {new : List ℕ} {j : ℕ} → n ≤ j → Rewriting n P old new j → Rewritten n P old new
  rewriting_end h s = record { size = s.size; at = λ i k. s.done i (omega arith) }
