-- The response code (01: "kept as named constants of the response code; any other code is read as its number").
use Rattle.std.specs.Prelude.{List, [], ◌∷◌, map, ℕ}
use Rattle.protocol.specs.declared.response_code.ResponseCode.{ResponseCode}

abbrev pub code_of : ℕ → ResponseCode
code_of n = record { number = n }

-- Codes 1 to 19 have the names that 004 lists, in this order: OK, Stream does not exist, Subscription ID already exists,
-- Subscription ID does not exist, Stream already exists, Stream not available, SASL mechanism not supported,
-- Authentication failure, SASL error, SASL challenge, SASL authentication failure loopback, Virtual host access failure,
-- Unknown frame, Frame too large, Internal error, Access refused, Precondition failed, Publisher does not exist, No offset.
abbrev pub named_codes : List ResponseCode
named_codes = map code_of (1 ∷ 2 ∷ 3 ∷ 4 ∷ 5 ∷ 6 ∷ 7 ∷ 8 ∷ 9 ∷ 10 ∷ 11 ∷ 12 ∷ 13 ∷ 14 ∷ 15 ∷ 16 ∷ 17 ∷ 18 ∷ 19 ∷ [])
