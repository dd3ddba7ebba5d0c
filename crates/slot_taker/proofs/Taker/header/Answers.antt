-- Each number is cut to its field's width.
use mathlib.Core.Path.{◌≡◌, refl, ◌∙◌, ap}
use mathlib.Core.List.{List}
use Prim.Native.Nat.{ℕ, ◌%◌, ◌^◌}
use lib.IntN.{ℤ}
use mir.Syntax.{w8, w32, w64}
use mir.Facts.{to_z-of_z}
use borrow.Author.Rules.{sfits_of}
use Rattle.wire.specs.Signed as two's
use Rattle.slots.specs.Unflat.{slot}
use Rattle.slot_taker.specs.Typed.{typed_header}
use Rattle.slot_taker.proofs.Taken.{nth, next}
use Rattle.slot_taker.proofs.Taker.header.Goals as goal

header_typed : (l : List ℕ) (magic type : ℤ) (entries records : ℕ) (timestamp : ℤ) (epoch first : ℕ) (checksum : ℤ) (len trailer bloom reserved : ℕ)
    → magic ≡ two's.signed 1 (slot l 0 % 256 ^ 1)
    → type ≡ two's.signed 1 (slot l 1 % 256 ^ 1)
    → entries ≡ slot l 2 % 256 ^ 2
    → records ≡ slot l 3 % 256 ^ 4
    → timestamp ≡ two's.signed 8 (slot l 4)
    → epoch ≡ slot l 5
    → first ≡ slot l 6
    → checksum ≡ two's.signed 4 (slot l 7 % 256 ^ 4)
    → len ≡ slot l 8 % 256 ^ 4
    → trailer ≡ slot l 9 % 256 ^ 4
    → bloom ≡ slot l 10 % 256 ^ 1
    → reserved ≡ slot l 11 % 256 ^ 4
    → record { magic = magic; chunk_type = type; entries = entries; records = records; timestamp = timestamp; epoch = epoch; first_offset = first; checksum = checksum; data_length = len; trailer_length = trailer; bloom_size = bloom; reserved = reserved } ≡ typed_header l
header_typed l magic type entries records timestamp epoch first checksum len trailer bloom reserved a b c d e f g h i j k m =
    rw (a, b, c, d, e, f, g, h, i, j, k, m) refl

pub returns : goal.returns
returns c =
    let l = c.args.self.now.slots.now in
    let s1 = c.number.ensures.1 in
    let s2 = next 1 l _ _ s1 c.number-2.ensures.1 in
    let s3 = next 2 l _ _ s2 c.number-3.ensures.1 in
    let s4 = next 3 l _ _ s3 c.number-4.ensures.1 in
    let s5 = next 4 l _ _ s4 c.number-5.ensures.1 in
    let s6 = next 5 l _ _ s5 c.number-6.ensures.1 in
    let s7 = next 6 l _ _ s6 c.number-7.ensures.1 in
    let s8 = next 7 l _ _ s7 c.number-8.ensures.1 in
    let s9 = next 8 l _ _ s8 c.number-9.ensures.1 in
    let s10 = next 9 l _ _ s9 c.number-10.ensures.1 in
    let s11 = next 10 l _ _ s10 c.number-11.ensures.1 in (
      header_typed l _ _ _ _ _ _ _ _ _ _ _ _
          (to_z-of_z {w = w8} (sfits_of c.signed.type_inv) ∙ c.signed.ensures ∙ ap (two's.signed 1) (c.number.ensures.0))
          (to_z-of_z {w = w8} (sfits_of c.signed-2.type_inv) ∙ c.signed-2.ensures ∙ ap (two's.signed 1) (c.number-2.ensures.0 ∙ ap (λ (x : ℕ). x % 256 ^ 1) (nth 1 l _ s1)))
          (c.number-3.ensures.0 ∙ ap (λ (x : ℕ). x % 256 ^ 2) (nth 2 l _ s2))
          (c.number-4.ensures.0 ∙ ap (λ (x : ℕ). x % 256 ^ 4) (nth 3 l _ s3))
          (to_z-of_z {w = w64} (sfits_of c.signed-3.type_inv) ∙ c.signed-3.ensures ∙ ap (two's.signed 8) (c.number-5.ensures.0 ∙ nth 4 l _ s4))
          (c.number-6.ensures.0 ∙ nth 5 l _ s5)
          (c.number-7.ensures.0 ∙ nth 6 l _ s6)
          (to_z-of_z {w = w32} (sfits_of c.signed-4.type_inv) ∙ c.signed-4.ensures ∙ ap (two's.signed 4) (c.number-8.ensures.0 ∙ ap (λ (x : ℕ). x % 256 ^ 4) (nth 7 l _ s7)))
          (c.number-9.ensures.0 ∙ ap (λ (x : ℕ). x % 256 ^ 4) (nth 8 l _ s8))
          (c.number-10.ensures.0 ∙ ap (λ (x : ℕ). x % 256 ^ 4) (nth 9 l _ s9))
          (c.number-11.ensures.0 ∙ ap (λ (x : ℕ). x % 256 ^ 1) (nth 10 l _ s10))
          (c.number-12.ensures.0 ∙ ap (λ (x : ℕ). x % 256 ^ 4) (nth 11 l _ s11)),
      next 11 l _ _ s11 c.number-12.ensures.1,
    )
