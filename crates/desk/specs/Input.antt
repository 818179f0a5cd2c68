-- Input in blocks: what the lines of a block leave, and the requests that they hold; input as a whole.
-- Assumes nothing.
use Rattle.std.specs.Prelude.{◌≡◌, List, [], ◌∷◌, ℕ, ◌≤◌, length, take, Result, IfOk, OnErr}
use Rattle.stdio.specs.declared.Failed.{Failed}
use Rattle.model.specs.Request.{Request, Lent}
use Rattle.model.specs.RequestLine.{Reading, read, no_form, read_line}
use Rattle.model.specs.AnswerLine.{left_after}
use Rattle.model.specs.Tally.{after_all}
use Rattle.blocks.specs.Cutting.{lines_in, line_after}

-- what lines leave of all that is lent, one after the other
unfoldable pub left_by : Lent → List (List ℕ) → Lent
left_by s [] = s
left_by s (l ∷ ls) = left_by (left_after s (read_line l)) ls

-- the requests that lines hold: a line without a form holds none
abbrev pub with_request : Reading → List Request → List Request
with_request (read r) rs = r ∷ rs
with_request no_form rs = rs

unfoldable pub requests_in : List (List ℕ) → List Request
requests_in [] = []
requests_in (l ∷ ls) = with_request (read_line l) (requests_in ls)

-- the requests that bytes of input hold; a last line without its end holds none
abbrev pub held_in : List ℕ → List Request
held_in input = requests_in (lines_in [] input)

-- the line so far after all of a block: its length
pub record LineLeft (p block line : List ℕ) (len : ℕ) : Type 0 where
  pub short : len ≤ 1024
  pub rest : take len line ≡ line_after p block

-- a block after the line so far `p`: of what is lent before, the bytes used of the block, and what is lent after; all are used where the output took each
-- answer, else up to the end of the line whose answer it did not take
pub record FedIn (s : Lent) (p block line : List ℕ) (r : Result ℕ Failed) (left : Lent) : Type 0 where
  pub used : ℕ
  pub place : used ≤ length block
  pub whole : IfOk r (λ len. (used ≡ length block) × LineLeft p block line len)
  pub closed : OnErr r (line_after p (take used block) ≡ [])
  pub leaves : left ≡ left_by s (lines_in p (take used block))

-- what is lent after is what the requests of some input leave of what is lent before; that it is standard input no contract can say
pub record Served (s left : Lent) : Type 0 where
  pub input : List ℕ
  pub leaves : left ≡ after_all s (held_in input)
