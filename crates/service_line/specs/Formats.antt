-- The formats of requests and answers: which bytes stand where, and the line that carries them.
use Rattle.std.specs.Prelude.{ℕ, zero, suc, ◌+◌, ◌-◌, ◌/◌, ◌%◌, ◌^◌, ◌<◌, List, [], ◌∷◌, ◌++◌, length, drop, ℤ, FitsSigned}
use Rattle.std.proofs.Common.{of_z}
use Rattle.std.specs.Int.{w16, w64}
use Rattle.refusals.specs.Rows.{row_of}
use Rattle.service_line.specs.Hex.{text_of}
use Rattle.service_line.specs.declared.request.Request.{Request}
use Rattle.service_line.specs.declared.request.Request.TheVariants as request
use Rattle.service_line.specs.declared.answer.Answer.{Answer}
use Rattle.service_line.specs.declared.answer.Answer.TheVariants as answer

-- a number in so many bytes, high byte first
abbrev pub in_bytes : ℕ → ℕ → List ℕ
in_bytes zero n = []
in_bytes (suc zero) n = (n % 256) ∷ []
in_bytes (suc (suc width)) n = (n / 256 ^ suc width % 256) ∷ in_bytes (suc width) n

-- the fields of a frame, by the number of their bytes
abbrev pub field1 : ℕ → List ℕ
field1 n = n ∷ []

abbrev pub field2 : ℕ → List ℕ
field2 n = in_bytes 2 n

abbrev pub field4 : ℕ → List ℕ
field4 n = in_bytes 4 n

-- signed fields are in two's complement
abbrev pub signed2 : ℤ → List ℕ
signed2 n = in_bytes 2 (of_z w16 n)

abbrev pub signed8 : ℤ → List ℕ
signed8 n = in_bytes 8 (of_z w64 n)

abbrev pub signed8s : List ℤ → List ℕ
signed8s [] = []
signed8s (n ∷ ns) = signed8 n ++ signed8s ns

-- a request: the kind, then its fields
abbrev pub request_body : Request → List ℕ
request_body (request.Post hour active reactive) = 0x01 ∷ (field2 hour ++ signed2 active ++ signed2 reactive)
request_body (request.Amend hour active reactive) = 0x02 ∷ (field2 hour ++ signed2 active ++ signed2 reactive)
request_body (request.Choose choice power withdrawal input) = 0x03 ∷ (field1 choice ++ field2 power ++ field2 withdrawal ++ field2 input)
request_body (request.Open year area connection) = 0x04 ∷ (field2 year ++ field1 area ++ field1 connection)
request_body request.Advise = 0x05 ∷ []
request_body (request.Invoice number) = 0x06 ∷ field1 number

-- the numbers of a request fit its fields
abbrev pub Fitting : Request → Type 0
Fitting (request.Post hour active reactive) = (hour < 2 ^ 16) × FitsSigned w16 active × FitsSigned w16 reactive
Fitting (request.Amend hour active reactive) = (hour < 2 ^ 16) × FitsSigned w16 active × FitsSigned w16 reactive
Fitting (request.Choose choice power withdrawal input) = (choice < 2 ^ 8) × (power < 2 ^ 16) × (withdrawal < 2 ^ 16) × (input < 2 ^ 16)
Fitting (request.Open year area connection) = (year < 2 ^ 16) × (area < 2 ^ 8) × (connection < 2 ^ 8)
Fitting request.Advise = Unit {0}
Fitting (request.Invoice number) = number < 2 ^ 8

-- an answer: the kind, then its fields
abbrev pub answer_body : Answer → List ℕ
answer_body answer.Accepted = 0x10 ∷ []
answer_body (answer.Refused refusal) = 0x11 ∷ (field1 (row_of refusal).layer ++ field1 (row_of refusal).number ++ field4 (row_of refusal).place)
answer_body (answer.Advice choice power charge) = 0x12 ∷ (field1 choice ++ field2 power ++ signed8 charge)
answer_body (answer.Invoice number amounts) = 0x13 ∷ (field1 number ++ signed8s amounts)

abbrev pub sum_of : List ℕ → ℕ
sum_of [] = 0
sum_of (b ∷ bs) = b + sum_of bs

-- the last byte is the check, which brings the sum of all bytes to a multiple of 256
abbrev pub check_of : List ℕ → ℕ
check_of body = (256 - sum_of body % 256) % 256

abbrev pub frame_of : List ℕ → List ℕ
frame_of body = body ++ check_of body ∷ []

-- the line of a request, and of an answer
abbrev pub request_line : Request → List ℕ
request_line request = text_of (frame_of (request_body request))

abbrev pub answer_line : Answer → List ℕ
answer_line answer = text_of (frame_of (answer_body answer))

-- what a buffer holds once a line is written over its front
abbrev pub over : List ℕ → List ℕ → List ℕ
over line buffer = line ++ drop (length line) buffer
