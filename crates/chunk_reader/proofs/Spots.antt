-- A reader's place is where the definitions of reading lead: a chunk's or an entry's end tells which outcome it is, since a
-- refusal's number is never 0. Assumes nothing.
use mathlib.Core.Path.{◌≡◌}
use mathlib.Core.Bool.{true, false}
use mathlib.Core.List.{List}
use Prim.Native.Nat.{ℕ, ◌+◌, ◌-◌}
use native.Mathlib.Omega.{arith}
use borrow.Author.Tests.{eq-eqb, ne_eqb}
use Rattle.wire.proofs.Widths.{or_zero_lem}
use Rattle.protocol.specs.Fields.{place}
use Rattle.rules.specs.Reading.{read_chunk, read_entry}
use Rattle.byte_strings.specs.Stops.{Stop, stop}
use Rattle.byte_strings.proofs.Stops.{stopped}
use Rattle.chunks.specs.Entries.{entry_count}
use Rattle.chunks.proofs.Chunks.{whole}
use Rattle.chunks.proofs.Entries.{entry_read}
use Rattle.chunk_reader.specs.Messages.{is_refused}
use Rattle.chunk_reader.specs.Reader.{spot, started, behind_entry, advanced}
use Rattle.chunk_reader.specs.declared.spot.Found.TheVariants.{Ready, Message, Done, Refused}
use Rattle.chunk_reader.specs.declared.spot.Spot.{Spot}

-- The beginning.
module _ (s : List ℕ) (e : Stop) (i : e ≡ stop (read_chunk s 0)) where
  pub starts_refused : (e.refused ≡ 0 → ⊥) → spot 0 0 (Refused e.refused) ≡ started s
  unfolding started
  starts_refused z = rw (stopped (read_chunk s 0) e i z)

  pub starts_ready : (n : ℕ) → e.refused ≡ 0 → n ≡ entry_count s → spot 48 n Ready ≡ started s
  unfolding started entry_count
  starts_ready n z j =
      let w = whole s 0 e i z in
      let type = or_zero_lem 1 s 1 (omega (arith, w.long)) in
      let entries = or_zero_lem 2 s 2 (omega (arith, w.long)) in
      rw (w.read, j, type, entries)

-- A question.
module _ (s : List ℕ) (p : Spot) where
  pub stays_refused : is_refused p.found ≡ true → p ≡ advanced s p
  unfolding advanced
  stays_refused h = rw h

  module _ (h : is_refused p.found ≡ false) where
    pub is_done : p.left ≡ 0 → spot p.at 0 Done ≡ advanced s p
    unfolding advanced
    is_done l = rw (h, eq-eqb _ _ l)

    module _ (l : p.left ≡ 0 → ⊥) (e : Stop) (i : e ≡ stop (read_entry s p.at)) where
      asks_entry : advanced s p ≡ behind_entry p (read_entry s p.at)
      unfolding advanced
      asks_entry = rw (h, ne_eqb _ _ l)

      pub entry_refused : (e.refused ≡ 0 → ⊥) → spot p.at p.left (Refused e.refused) ≡ advanced s p
      entry_refused z = rw (asks_entry, stopped (read_entry s p.at) e i z)

      pub entry_found : e.refused ≡ 0 → spot e.at (p.left - 1) (Message (place (p.at + 4) (e.at - (p.at + 4)))) ≡ advanced s p
      entry_found z = let r = entry_read s p.at e i z in rw (asks_entry, r.read)
