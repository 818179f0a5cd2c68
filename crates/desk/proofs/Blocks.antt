-- Input in blocks: lines leave what the requests that they hold leave; so all input is answered.
-- Assumes nothing.
use mathlib.Core.Path.{◌≡◌, refl, sym, ap, ◌∙◌, subst}
use mathlib.Core.Bool.{Bool, true, false, cond}
use mathlib.Core.List.{List, [], ◌∷◌, ◌++◌}
use Prim.Native.Nat.{ℕ, ◌+◌, ◌-◌, ◌≤◌}
use native.Mathlib.Omega.{arith}
use lib.ListN.{length, take}
use lib.Seq.{take-length, take-add}
use Rattle.std.specs.Prelude.{Result, Ok, Err, IsErr}
use Rattle.model.specs.Request.{Lent}
use Rattle.model.specs.RequestLine.{Reading, read, no_form, read_line}
use Rattle.model.specs.AnswerLine.{left_after}
use Rattle.model.specs.Tally.{after_all}
use Rattle.blocks.specs.Cutting.{lines_in, line_after, between, Started, CutOff}
use Rattle.stdio.specs.declared.Failed.{Failed}
use Rattle.blocks.proofs.Bytes.{lines_append, line_append}
use Rattle.desk.specs.Input.{left_by, with_request, requests_in, FedIn, Served}
use Rattle.desk.proofs.Overlong.{unended, line_no_ten}

-- ── lines in turn ──
pub left_append : (s : Lent) (ls ms : List (List ℕ)) → left_by s (ls ++ ms) ≡ left_by (left_by s ls) ms
unfolding left_by
left_append s [] ms = refl
left_append s (l ∷ ls) ms = left_append (left_after s (read_line l)) ls ms

-- lines leave what the requests that they hold leave
pub left_requests : (s : Lent) (ls : List (List ℕ)) → left_by s ls ≡ after_all s (requests_in ls)
unfolding left_by requests_in left_after
left_requests s [] = refl
left_requests s (l ∷ ls) = left_requests (left_after s (read_line l)) ls ∙ go (read_line l)
  where
    go : (x : Reading) → after_all (left_after s x) (requests_in ls) ≡ after_all s (with_request x (requests_in ls))
    go (read r) = refl
    go no_form = refl

-- the bytes up to a place, from those up to an earlier one
split_between : (block : List ℕ) (at next : ℕ) → at ≤ next → take next block ≡ take at block ++ between block at next
split_between block at next h =
    let e : at + (next - at) ≡ next = omega arith in
    ap (λ (k : ℕ). take k block) (sym e) ∙ take-add at (next - at) block

-- a block up to a place between two cuts: the lines that it ends there are answered
pub record FedUpTo (s₀ : Lent) (p block : List ℕ) (s : Lent) (line : List ℕ) (n at : ℕ) : Type 0 where
  pub room : length line ≡ 1024
  pub short : n ≤ 1024
  pub place : at ≤ length block
  pub rest : line_after p (take at block) ≡ take n line
  pub left : left_by s₀ (lines_in p (take at block)) ≡ s

pub none_fed : (s : Lent) (line : List ℕ) (len : ℕ) (block : List ℕ) → Started line len block 0 → FedUpTo s (take len line) block s line len 0
unfolding lines_in line_after left_by
none_fed s line len block o = record { room = o.room; short = o.short; place = o.place; rest = refl; left = refl }

module _ (s₀ : Lent) (p block : List ℕ) (s : Lent) (line line' : List ℕ) (n n' at at' : ℕ) (ended : Bool)
    (u : FedUpTo s₀ p block s line n at) (c : CutOff (take n line) block at line' n' at' ended) where
  up_to : take at' block ≡ take at block ++ between block at at'
  up_to = split_between block at at' (omega (arith, c.onward))

  cut_rest : line_after p (take at' block) ≡ cond ended [] (take n' line')
  cut_rest = rw (up_to, line_append (take at block) (between block at at') p, u.rest) c.rest

  cut_left : left_by s₀ (lines_in p (take at' block)) ≡ left_by s (cond ended (take n' line' ∷ []) [])
  cut_left =
      rw (up_to, lines_append (take at block) (between block at at') p, left_append s₀ (lines_in p (take at block)) (lines_in (line_after p (take at block)) (between block at at')), u.left, u.rest, c.lines)

-- the cut line is answered
pub line_fed : (s₀ : Lent) (p block : List ℕ) (s left : Lent) (line line' : List ℕ) (n n' at at' : ℕ)
    → FedUpTo s₀ p block s line n at → CutOff (take n line) block at line' n' at' true → left ≡ left_after s (read_line (take n' line')) → length line' ≡ 1024 → FedUpTo s₀ p block left line' 0 at'
unfolding left_by
line_fed s₀ p block s left line line' n n' at at' u c f room =
    record {
      room = room;
      short = omega arith;
      place = c.place;
      rest = cut_rest s₀ p block s line line' n n' at at' true u c;
      left = cut_left s₀ p block s line line' n n' at at' true u c ∙ sym f;
    }

-- no line ended: the block is used up
pub block_fed : (s₀ : Lent) (p block : List ℕ) (s : Lent) (line line' : List ℕ) (n n' at : ℕ)
    → FedUpTo s₀ p block s line n at → CutOff (take n line) block at line' n' (length block) false → FedIn s₀ p block line' (Ok n') s
unfolding left_by
block_fed s₀ p block s line line' n n' at u c =
    let all : take (length block) block ≡ block = take-length block in
    let rest : line_after p (take (length block) block) ≡ take n' line' = cut_rest s₀ p block s line line' n n' at (length block) false u c in
    record {
      used = length block;
      place = c.place;
      whole = (refl, record { short = c.short; rest = sym (rw all at rest) });
      closed = tt;
      leaves = sym (cut_left s₀ p block s line line' n n' at (length block) false u c);
    }

-- the output is closed
pub closed_fed : (s₀ : Lent) (p block : List ℕ) (s : Lent) (line : List ℕ) (at : ℕ) (r : Result ℕ Failed) → IsErr r → FedUpTo s₀ p block s line 0 at → FedIn s₀ p block line r s
closed_fed s₀ p block s line at (Ok len) h u = absurd (let z : ◌≡◌ {A = ℕ} 0 1 = cc in omega arith)
closed_fed s₀ p block s line at (Err e) h u = record { used = at; place = u.place; whole = tt; closed = u.rest; leaves = sym u.left }

-- ── all input ──
-- the input so far: the lines that it ends are answered, and the rest is the line so far
pub record ServedUpTo (s₀ s : Lent) (line : List ℕ) (len : ℕ) : Type 0 where
  pub room : length line ≡ 1024
  pub short : len ≤ 1024
  pub input : List ℕ
  pub rest : line_after [] input ≡ take len line
  pub left : left_by s₀ (lines_in [] input) ≡ s

pub none-served : (s : Lent) (line : List ℕ) → length line ≡ 1024 → ServedUpTo s s line 0
unfolding lines_in line_after left_by
none-served s line h = record { room = h; short = omega arith; input = []; rest = refl; left = refl }

module _ (s₀ s left : Lent) (line line' block : List ℕ) (len : ℕ) (u : ServedUpTo s₀ s line len) where
  more_left : (more : List ℕ) → left ≡ left_by s (lines_in (take len line) more) → left_by s₀ (lines_in [] (u.input ++ more)) ≡ left
  more_left more e =
      rw (lines_append u.input more [], left_append s₀ (lines_in [] u.input) (lines_in (line_after [] u.input) more), u.left, u.rest) (sym e)

  -- a block more
  pub block_served : (len' : ℕ) → FedIn s (take len line) block line' (Ok len') left → length line' ≡ 1024 → ServedUpTo s₀ left line' len'
  block_served len' f room =
      let all : take f.used block ≡ block = rw f.whole.0 (take-length block) in
      record {
        room = room;
        short = f.whole.1.short;
        input = u.input ++ block;
        rest = rw (line_append u.input block [], u.rest) (sym f.whole.1.rest);
        left = more_left block (rw all at f.leaves);
      }

  -- as much of a block as was used
  pub part-served : (e : Failed) → FedIn s (take len line) block line' (Err e) left → Served s₀ left
  part-served e f =
      let more = take f.used block in
      record { input = u.input ++ more; leaves = sym (more_left more f.leaves) ∙ left_requests s₀ (lines_in [] (u.input ++ more)) }

module _ (s₀ s : Lent) (line : List ℕ) (len : ℕ) (u : ServedUpTo s₀ s line len) where
  pub input-served : Served s₀ s
  input-served = record { input = u.input; leaves = sym u.left ∙ left_requests s₀ (lines_in [] u.input) }

  -- a last line without its end has no form: it leaves all as it is
  pub last-served : (left : Lent) → left ≡ left_after s (read_line (take len line)) → Served s₀ left
  unfolding left_after
  last-served left e =
      let r : read_line (take len line) ≡ no_form = rw (← u.rest) (unended (line_after [] u.input) (line_no_ten u.input [] refl)) in
      let k : left ≡ s = rw r at e in
      subst (Served s₀) (sym k) input-served
