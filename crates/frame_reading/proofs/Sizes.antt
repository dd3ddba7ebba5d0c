-- What the checks of Size, key and version come to. Assumes nothing.
use mathlib.Core.Path.{◌≡◌, ◌∙◌, refl, subst}
use mathlib.Core.Bool.{true, false}
use mathlib.Core.List.{List}
use Prim.Native.Nat.{ℕ, ◌+◌, ◌-◌, ◌≤◌, ◌<◌}
use native.Mathlib.Omega.{arith}
use lib.ListN.{length, take, drop}
use lib.Seq.{length-take-le}
use borrow.Author.Tests.{lt-ltb, le-ltb}
use Rattle.wire.specs.Integers.{big_endian}
use Rattle.wire.proofs.Widths.{in_part}
use Rattle.std.specs.Prelude.{Some, Err}
use Rattle.protocol.specs.Decision.{Decision, decide, decision_of, unlisted_key, unlisted_version}
use Rattle.protocol.specs.Refusals.{frame_too_large, frame_too_small, number_of, unknown_version}
use Rattle.protocol.specs.declared.refusal.Refusal.{Refusal}
use Rattle.protocol.specs.declared.refusal.Refusal.TheVariants.{Short, FrameTooLarge, FrameTooSmall, UnknownKey, UnknownVersion, FieldCut, BadLength, NotUtf8, ReferenceTooLong, ValueNotAdmitted, BytesLeft, NoRoom, NotOpen, AlreadyOpen, NoCredit, OverLimit, NotOut}
use Rattle.rules.specs.Reading.{refusal, short, over_limit, read_sized, read_decided, read_frame}
use Rattle.frame_head.specs.Head.{head_of}
use Rattle.frame_head.specs.declared.head.Head.{Head}
use Rattle.frame_head.proofs.Heads.{size_there, key_there, version_there}

pub size_cut : (s : List ℕ) (limit : ℕ) → length s < 4 → short 4 ≡ read_frame s limit
unfolding read_frame
size_cut s limit h = rw (lt-ltb _ _ h)

module _ (s : List ℕ) (limit : ℕ) (head : Head) (e : head ≡ head_of s) (four : 4 ≤ length s) where
  framed : read_frame s limit ≡ read_sized s limit head.size
  unfolding read_frame
  framed = rw (le-ltb _ _ four, size_there s head e four)

  pub too_large : over_limit limit head.size ≡ true → refusal frame_too_large 0 ≡ read_frame s limit
  unfolding read_sized
  too_large h = rw (framed, h)

  module _ (g : over_limit limit head.size ≡ false) where
    pub too_small : head.size < 4 → refusal frame_too_small 0 ≡ read_frame s limit
    unfolding read_sized
    too_small h = rw (framed, g, lt-ltb _ _ h)

    module _ (h : 4 ≤ head.size) where
      pub cut : length s < head.size + 4 → short (head.size + 4) ≡ read_frame s limit
      unfolding read_sized
      cut i = rw (framed, g, le-ltb _ _ h, lt-ltb _ _ i)

      -- Key and version are read of the frame alone.
      pub whole : (last : ℕ) (second : Head) → last ≡ head.size + 4 → last ≤ length s → second ≡ head_of (take last s) → read_decided (decide second.key second.version) (take (last - 8) (drop 8 s)) ≡ read_frame s limit
      unfolding read_sized
      whole last second z i f =
          let part : last - 8 ≡ head.size - 4 = omega arith in
          let long : 8 ≤ length (take last s) = omega (arith, length-take-le last s i) in
          let key : second.key ≡ big_endian 2 s 4 = key_there (take last s) second f (omega (arith, long)) ∙ in_part 2 last 4 s 0 (omega arith) in
          let version : second.version ≡ big_endian 2 s 6 = version_there (take last s) second f long ∙ in_part 2 last 6 s 0 (omega arith) in
          rw (framed, g, le-ltb _ _ h, le-ltb (length s) (head.size + 4) (omega arith), part, key, version)

-- Key and version pick a layout, or are refused for one of two reasons.
pub no_key : (A : Type 0) (k v : ℕ) (why : Refusal) (d : Decision) → why ≡ UnknownKey → decision_of {A = A} (Err why) k v ≡ Some d → unlisted_key ≡ d
no_key A k v why d e i = let j : decision_of {A = A} (Err UnknownKey) k v ≡ Some d = subst (λ (w : Refusal). decision_of {A = A} (Err w) k v ≡ Some d) e i in cc

pub no_version : (A : Type 0) (k v : ℕ) (why : Refusal) (d : Decision) → (why ≡ UnknownKey → ⊥) → decision_of {A = A} (Err why) k v ≡ Some d → (unlisted_version ≡ d) × (number_of why ≡ unknown_version)
no_version A k v Short d n i = cc
no_version A k v FrameTooLarge d n i = cc
no_version A k v FrameTooSmall d n i = cc
no_version A k v UnknownKey d n i = absurd (n refl)
no_version A k v UnknownVersion d n i = (cc, refl)
no_version A k v FieldCut d n i = cc
no_version A k v BadLength d n i = cc
no_version A k v NotUtf8 d n i = cc
no_version A k v ReferenceTooLong d n i = cc
no_version A k v ValueNotAdmitted d n i = cc
no_version A k v BytesLeft d n i = cc
no_version A k v NoRoom d n i = cc
no_version A k v NotOpen d n i = cc
no_version A k v AlreadyOpen d n i = cc
no_version A k v NoCredit d n i = cc
no_version A k v OverLimit d n i = cc
no_version A k v NotOut d n i = cc
