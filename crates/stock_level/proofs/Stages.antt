-- What a Stock-Level knows once it has found its refusal, and what it then answers.
-- Assumes nothing.
use mathlib.Core.Path.{◌≡◌, sym, ◌∙◌}
use mathlib.Core.List.{List, ◌++◌}
use Prim.Native.Nat.{ℕ}
use lib.IntN.{ℤ}
use lib.ListN.{length}
use Rattle.model.specs.declared.Dims.{Dims}
use Rattle.model.specs.declared.StockLevel.{StockLevel}
use Rattle.model.specs.declared.StockLevelFigures.{StockLevelFigures}
use Rattle.model.specs.declared.Refused.{Refused}
use Rattle.std.specs.Prelude.{Result, Ok, Err}
use mathlib.Core.Bool.{false}
use borrow.Author.Tests.{eq-eqb, ne_eqb}
use Rattle.model.specs.Tests.{Refusal}
use Rattle.model.specs.Tests.{bare, fault}
use Rattle.model.specs.Head.{dims, head_ok}
use Rattle.model.specs.Answer.{numbered}
use Rattle.model.specs.StockLevel.{level_asked, level_used, stock_level_fault, low_items, stock_level_answer}
use Rattle.model.specs.Promises.{StockLevelCall}
use Rattle.model.proofs.TestLaws.{fault-first, fault_then, staged-head}
use Rattle.model.proofs.AnswerLaws.{some-fits, nothing-fits}
use Rattle.model.proofs.StockLevelFacts.{LevelAsked, level_asked_numbered, level_asked_lem, level_used_lem}
use Rattle.layout.specs.Heads.{Read}
use Rattle.layout.proofs.Heads.{behind_head}
use Rattle.rows.proofs.RowTests.{shaped-booked}
use Rattle.stock_level.specs.Notes.{Ready}

module _ (b : List ℤ) (names : List ℕ) (q : StockLevel) where
  refused_call : (r : Refused) {o : Result StockLevelFigures Refused} → o ≡ Err r → numbered r ≡ stock_level_fault b names q → StockLevelCall b names q (record { outcome = o })
  unfolding stock_level_answer
  refused_call r e f = record { says = rw (e, ne_eqb _ _ (some-fits r f), f) }

  pub refused_head : (r : Refused) {o : Result StockLevelFigures Refused} → o ≡ Err r → (head_ok b (length names) ≡ false) × (r ≡ Refused.Head) → StockLevelCall b names q (record { outcome = o })
  unfolding stock_level_fault
  refused_head r e h = refused_call r e (rw h.1 (staged-head (head_ok b (length names)) (level_asked (dims b) q) (level_used (dims b) b q) h.0))

  -- behind 2
  module _ {d : Dims} (v : Read b (length names) d) where
    behind : {r : Refusal} → r ≡ fault (level_asked d q ++ level_used d b q) → r ≡ stock_level_fault b names q
    unfolding stock_level_fault
    behind e = behind_head b (length names) (λ x. level_asked x q) (λ x. level_used x b q) v e

    pub refused_asked : (r : Refused) {o : Result StockLevelFigures Refused} → o ≡ Err r → numbered r ≡ fault (level_asked d q) → StockLevelCall b names q (record { outcome = o })
    refused_asked r e f = refused_call r e (behind (f ∙ sym (fault-first (level_asked d q) (level_used d b q) (some-fits r f))))

    module _ (a : bare 0 ≡ fault (level_asked d q)) where
      used_first : fault (level_used d b q) ≡ stock_level_fault b names q
      used_first = behind (sym (fault_then (level_asked d q) (level_used d b q) (nothing-fits a) (level_asked_numbered d q)))

      pub refused_used : (r : Refused) {o : Result StockLevelFigures Refused} → o ≡ Err r → numbered r ≡ fault (level_used d b q) → StockLevelCall b names q (record { outcome = o })
      refused_used r e f = refused_call r e (f ∙ used_first)

      module _ (u : bare 0 ≡ fault (level_used d b q)) where
        pub counted : {o : Result StockLevelFigures Refused} {n : ℕ} → o ≡ Ok (record { count = n }) → n ≡ low_items d b q → StockLevelCall b names q (record { outcome = o })
        unfolding stock_level_answer
        counted e en = record { says = rw (e, en, v.same, eq-eqb _ _ (nothing-fits (u ∙ used_first))) }

pub asked_in : (d : Dims) (q : StockLevel) → bare 0 ≡ fault (level_asked d q) → LevelAsked d q
asked_in d q a = level_asked_lem d q (nothing-fits a)

pub ready : {b : List ℤ} {n : ℕ} {d : Dims} (q : StockLevel) → Read b n d → bare 0 ≡ fault (level_asked d q) → bare 0 ≡ fault (level_used d b q) → Ready d b q
ready {b} {d = d} q v a u = record { booked = shaped-booked v.shaped; asked = asked_in d q a; used = level_used_lem d b q (nothing-fits u) }
