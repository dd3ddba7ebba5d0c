-- The entries of a chunk of type 0 wherever they stand, which a reader has after the header and a writer at the start of a part;
-- and how many a chunk has.
use Rattle.std.specs.Prelude.{cond, not, List, ℕ, eqb, ltb, length}
use Rattle.wire.specs.Integers.{number_or_zero}
use Rattle.wire.specs.Signed.{signed}
use Rattle.protocol.specs.Refusals.{value_not_admitted, bytes_left}
use Rattle.rules.specs.Outcome.{Outcome, got, then, refuse_if, repeated}
use Rattle.rules.specs.Reading.{has_entries, read_entry}

-- Records equals entries (10, at the place of records), that many entries from a place on, and nothing else (11).
unfoldable pub entries_from : ℕ → ℕ → ℕ → List ℕ → ℕ → Outcome Unit
entries_from entries records records_at s start =
    refuse_if (not (eqb records entries)) value_not_admitted records_at
    (then (repeated read_entry entries s start) (λ _ behind.
    refuse_if (ltb behind (length s)) bytes_left behind
    (got tt behind)))

-- By the type and the number of entries in a chunk's header; a number that is cut counts as 0.
unfoldable pub entry_count : List ℕ → ℕ
entry_count chunk = cond (has_entries (signed 1 (number_or_zero 1 chunk 1))) (number_or_zero 2 chunk 2) 0
