-- A number of the book, and the ranges that have a name.
-- Assumes nothing.
use Rattle.std.specs.Prelude.{Bool, List, ℕ, ◌^◌, leb, get_or, ℤ, pos, negsuc}

-- a signed number as the ranges judge it: itself where it is not negative, else 2 ^ 63, which is above every range
unfoldable pub nat : ℤ → ℕ
nat (pos n) = n
nat (negsuc n) = 2 ^ 63

-- the number at an index of the book
unfoldable pub cell : List ℤ → ℕ → ℕ
cell b i = nat (get_or b i (pos 0))

-- "Money is cents. To-date money is 0 to 999,999,999,999"
abbrev pub max_money : ℕ
max_money = 999999999999

-- "a balance is within the same distance of zero on either side" (negsuc n is the number - n - 1)
unfoldable pub balance_ok : ℤ → Bool
balance_ok (pos n) = leb n 999999999999
balance_ok (negsuc n) = leb n 999999999998

-- "Other counts are 0 to 999,999,999."
abbrev pub max_count : ℕ
max_count = 999999999

-- "Taxes and discounts are ten-thousandths, 0 to 9,999."
abbrev pub max_rate : ℕ
max_rate = 9999

-- "A date is seconds, 1 for 1900-01-01 00:00:00 to 6,342,969,600 for 2100-12-31 23:59:59."
abbrev pub max_date : ℕ
max_date = 6342969600
