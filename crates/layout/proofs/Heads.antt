-- What a call knows once it has read the head.
-- Assumes nothing.
use mathlib.Core.Path.{◌≡◌, ap, subst, ◌∙◌}
use mathlib.Core.Bool.{false}
use mathlib.Core.List.{List, ◌++◌}
use Prim.Native.Nat.{ℕ}
use lib.IntN.{ℤ}
use Rattle.std.proofs.Common.{Result, Ok, Err}
use Rattle.model.specs.declared.Dims.{Dims}
use Rattle.model.specs.declared.Refused.{Refused}
use Rattle.model.specs.declared.Refused.TheVariants as Why
use Rattle.model.specs.Tests.{Refusal, Check, fault, staged}
use Rattle.model.specs.Head.{dims, head_ok}
use Rattle.layout.specs.Heads.{Read, HeadSays}

module _ (b : List ℤ) (n : ℕ) {r : Result Dims Refused} (v : HeadSays b n r) where
  pub head_read : {d : Dims} → r ≡ Ok d → Read b n d
  head_read e = subst (HeadSays b n) e v

  pub head_damaged : {x : Refused} → r ≡ Err x → (head_ok b n ≡ false) × (x ≡ Why.Head)
  head_damaged e = subst (HeadSays b n) e v

-- the first refusal of what request and rows decide, by the dimensions that were read
pub behind_head : (b : List ℤ) (n : ℕ) (asked used : Dims → List Check) {d : Dims} {r : Refusal} → Read b n d
    → r ≡ fault (asked d ++ used d) → r ≡ staged (head_ok b n) (asked (dims b)) (used (dims b))
behind_head b n asked used v e = e ∙ ap (λ (x : Dims). fault (asked x ++ used x)) v.same ∙ rw v.fine
