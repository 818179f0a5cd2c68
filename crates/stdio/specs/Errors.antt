-- The errors after which a call is made again.
-- Assumes nothing.
use Rattle.std.specs.Prelude.{Bool, true, false, cond, eqb, ℤ, pos, negsuc}

-- EINTR is 4, EAGAIN 11
abbrev pub is_passing : ℤ → Bool
is_passing (pos n) = cond (eqb n 4) true (eqb n 11)
is_passing (negsuc n) = false
