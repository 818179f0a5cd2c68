-- Bytes cut into lines: the lines that bytes end, the line that is not yet ended, and a block cut at a line's end.
-- Assumes nothing.
use Rattle.std.specs.Prelude.{◌≡◌, Bool, true, false, cond, List, [], ◌∷◌, ◌++◌, ℕ, ◌+◌, ◌-◌, ◌≤◌, ltb, eqb, length, take, drop}
use Rattle.blocks.specs.declared.Taken.{Taken}
use Rattle.blocks.specs.declared.Taken.TheVariants.{Ended, Unended}

-- a line so far and one byte more: the first 1,024 bytes are kept
abbrev pub kept : List ℕ → ℕ → List ℕ
kept p x = cond (ltb (length p) 1024) (p ++ (x ∷ [])) p

-- the lines that bytes end, given the line so far
unfoldable pub lines_in : List ℕ → List ℕ → List (List ℕ)
lines_in p [] = []
lines_in p (x ∷ xs) = cond (eqb x 10) (kept p x ∷ lines_in [] xs) (lines_in (kept p x) xs)

-- the line so far after bytes
unfoldable pub line_after : List ℕ → List ℕ → List ℕ
line_after p [] = p
line_after p (x ∷ xs) = cond (eqb x 10) (line_after [] xs) (line_after (kept p x) xs)

-- the bytes of a block from one place up to another
abbrev pub between : List ℕ → ℕ → ℕ → List ℕ
between block at next = take (next - at) (drop at block)

-- a buffer of 1,024 bytes with the line so far, and a place in a block
pub record Started (line : List ℕ) (len : ℕ) (block : List ℕ) (at : ℕ) : Type 0 where
  pub room : length line ≡ 1024
  pub short : len ≤ 1024
  pub place : at ≤ length block

-- bytes of a block taken into the line so far `p`, up to the line's end or the block's
pub record CutOff (p block : List ℕ) (at : ℕ) (line : List ℕ) (len next : ℕ) (ended : Bool) : Type 0 where
  pub short : len ≤ 1024
  pub place : next ≤ length block
  pub onward : at + cond ended 1 0 ≤ next
  pub lines : lines_in p (between block at next) ≡ cond ended (take len line ∷ []) []
  pub rest : line_after p (between block at next) ≡ cond ended [] (take len line)
  pub whole : ended ≡ false → next ≡ length block

-- what cutting answers
abbrev pub CutSays : List ℕ → List ℕ → ℕ → List ℕ → Taken → Type 0
CutSays p block at line (Ended len next) = CutOff p block at line len next true
CutSays p block at line (Unended len) = CutOff p block at line len (length block) false
