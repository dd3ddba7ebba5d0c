-- What is written of the whole frame that stands in slots. Assumes nothing.
use mathlib.Core.Path.{◌≡◌, ◌∙◌, sym, ap}
use mathlib.Core.List.{List}
use mathlib.Core.Logic.{◌⊎◌, inl, inr}
use Prim.Native.Nat.{ℕ}
use native.Mathlib.Omega.{arith}
use lib.ListN.{length, take, drop}
use Rattle.std.specs.Prelude.{Ok, Err, Some}
use Rattle.std.proofs.lemmas.List.{take_all, length-drop}
use Rattle.std.specs.Borrow.{Bor}
use Rattle.wire.specs.Buffer.{Holds}
use Rattle.protocol.specs.Decision.{Decision, layout, unlisted_key, unlisted_version, decide, decision_of}
use Rattle.protocol.specs.Kinds.{Row}
use Rattle.protocol.specs.Refusals.{number_of}
use Rattle.protocol.specs.Table.{row_of}
use Rattle.protocol.specs.declared.kind.FieldKind.{FieldKind}
use Rattle.protocol.specs.declared.refusal.Refusal.{Refusal}
use Rattle.protocol.specs.declared.refusal.Refusal.TheVariants.{UnknownKey, UnknownVersion}
use Rattle.rules.specs.Writing.{Written, unwritten, write_row, write_frame, write_decided}
use Rattle.fields.specs.Passes.{measured_from, put_row}
use Rattle.slots.specs.Unflat.{slot, unflat_row, unflat_frame, write_flat}
use Rattle.frame_writing.proofs.Decided.{unlisted_told}

module _ (s : List ℕ) where
  abbrev asked : Decision
  asked = decide (slot s 0) (slot s 1)

  -- A key or a version that is not listed.
  pub layout_refused : (r : Refusal) (src : List ℕ) (limit : ℕ) (out : List ℕ) → decision_of {A = Bor (List FieldKind)} (Err r) (slot s 0) (slot s 1) ≡ Some asked → unwritten (number_of r) out ≡ write_flat s src limit out
  unfolding write_flat write_frame unflat_frame
  layout_refused r src limit out e = by (unlisted_told r (slot s 0) (slot s 1) asked e)
    where
      by : ((r ≡ UnknownKey) × (unlisted_key ≡ asked)) ⊎ ((r ≡ UnknownVersion) × (unlisted_version ≡ asked)) → unwritten (number_of r) out ≡ write_decided asked (unflat_frame s) src limit out
      by (inl h) = rw h.0 (ap (λ (d : Decision). write_decided d (unflat_frame s) src limit out) h.1)
      by (inr h) = rw h.0 (ap (λ (d : Decision). write_decided d (unflat_frame s) src limit out) h.1)

  pub is_listed : {A : Type 0} (a : A) → decision_of (Ok a) (slot s 0) (slot s 1) ≡ Some asked → decide (unflat_frame s).key (unflat_frame s).version ≡ layout (unflat_frame s).key (unflat_frame s).version
  unfolding unflat_frame
  is_listed a e = let l : layout (slot s 0) (slot s 1) ≡ asked = cc in sym l

  -- The fields' slots stand behind those of key and version.
  module _ (long : length s ≡ 24) (row : Row) (r : row ≡ row_of (slot s 0) (slot s 1)) where
    rest : take 22 (drop 2 s) ≡ drop 2 s
    rest = take_all 22 (drop 2 s) (omega (arith, length-drop 2 s))

    pub content_measured : (src : List ℕ) (start : ℕ) (x : Written) → x ≡ measured_from start (write_row row src (unflat_row row (take 22 (drop 2 s)))) → x ≡ measured_from start (write_row (row_of (unflat_frame s).key (unflat_frame s).version) src (unflat_frame s).content)
    unfolding unflat_frame
    content_measured src start x e = e ∙ (λ i. measured_from start (write_row (r i) src (unflat_row (r i) (rest i))))

    pub content_put : (src : List ℕ) (h g : Holds) → h ≡ put_row row src (unflat_row row (take 22 (drop 2 s))) g → h ≡ put_row (row_of (unflat_frame s).key (unflat_frame s).version) src (unflat_frame s).content g
    unfolding unflat_frame
    content_put src h g e = e ∙ (λ i. put_row (r i) src (unflat_row (r i) (rest i)) g)
