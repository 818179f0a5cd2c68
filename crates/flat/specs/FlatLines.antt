-- What reading a line answers as flat numbers: number, detail, the request's letter, its numbers but who in the line's order, 0 beyond
-- them, whether who is a last name, the customer number, then how many lines the order and how many bytes the last name has.
-- Assumes nothing.
use Rattle.std.specs.Prelude.{List, [], ◌∷◌, ◌++◌, ℕ, length, replicate}
use Rattle.model.specs.Tests.{Refusal}
use Rattle.model.specs.Names.{Who, by_number, by_name}
use Rattle.model.specs.Request.{Request, new_order, payment, delivery, order_status, stock_level}
use Rattle.model.specs.RequestLine.{Reading, read, no_form}

-- letter and numbers
abbrev pub numbers_out : Request → List ℕ
numbers_out (new_order q lines) = 78 ∷ q.warehouse ∷ q.district ∷ q.customer ∷ q.date ∷ 0 ∷ 0 ∷ []
numbers_out (payment q who) = 80 ∷ q.warehouse ∷ q.district ∷ q.custwarehouse ∷ q.custdistrict ∷ q.date ∷ q.amount ∷ []
numbers_out (delivery q) = 68 ∷ q.warehouse ∷ q.carrier ∷ q.date ∷ 0 ∷ 0 ∷ 0 ∷ []
numbers_out (order_status q who) = 83 ∷ q.warehouse ∷ q.district ∷ 0 ∷ 0 ∷ 0 ∷ 0 ∷ []
numbers_out (stock_level q) = 76 ∷ q.warehouse ∷ q.district ∷ q.threshold ∷ 0 ∷ 0 ∷ 0 ∷ []

-- whether by name, customer number, how many lines, how long the name
abbrev pub who_out : Who → List ℕ
who_out (by_number c) = 0 ∷ c ∷ 0 ∷ 0 ∷ []
who_out (by_name name) = 1 ∷ 0 ∷ 0 ∷ length name ∷ []

abbrev pub rest_out : Request → List ℕ
rest_out (new_order q lines) = 0 ∷ 0 ∷ length lines ∷ 0 ∷ []
rest_out (payment q who) = who_out who
rest_out (delivery q) = replicate 4 0
rest_out (order_status q who) = who_out who
rest_out (stock_level q) = replicate 4 0

abbrev pub request_out : Reading → List ℕ
request_out (read r) = numbers_out r ++ rest_out r
request_out no_form = replicate 11 0

-- the refusal beside what was read
abbrev pub read_out : Refusal → Reading → List ℕ
read_out f r = f.number ∷ f.detail ∷ request_out r
