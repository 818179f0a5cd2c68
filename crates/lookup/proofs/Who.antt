-- A customer that is given by number and passes the test of the request is one of the district's.
-- Assumes nothing.
use mathlib.Core.Path.{◌≡◌, sym, ap, ◌∙◌}
use mathlib.Core.Bool.{true}
use Prim.Native.Nat.{ℕ}
use borrow.Author.Tests.{leb-true}
use Rattle.model.specs.declared.Dims.{Dims}
use Rattle.model.specs.declared.Selection.{Selection}
use Rattle.model.specs.declared.Selection.TheVariants.{Number}
use Rattle.model.specs.Tests.{every}
use Rattle.model.specs.Names.{who_of, who_tests, by_number}
use Rattle.model.specs.Claim.{R}
use Rattle.model.proofs.TestLaws.{every-each}

pub number_in : (d : Dims) (who : Selection) (c : ℕ) → who ≡ Number c → every (who_tests d (who_of who)) ≡ true → R d.customers c
number_in d who c e h =
    let t = every-each (who_tests d (by_number c)) (ap (λ (x : Selection). every (who_tests d (who_of x))) (sym e) ∙ h) in
    record { lo = leb-true _ _ t.0; hi = leb-true _ _ t.1.0 }
