-- Writing the slots of a key that is listed under version 1 is writing its row. Assumes nothing.
use mathlib.Core.Path.{◌≡◌, refl, ◌∙◌}
use mathlib.Core.List.{List, []}
use Prim.Native.Nat.{ℕ}
use Rattle.protocol.specs.Decision.{layout, versions_in, of_version, decide}
use Rattle.protocol.specs.Table.{table, row_in}
use Rattle.rules.specs.Writing.{Writing, write_frame}
use Rattle.slots.specs.Unflat.{slot, unflat_frame, write_flat}
use Rattle.fast_writing.specs.Answer.{WritesAs, write_row_of}
use Rattle.std.specs.Prelude.{Option, None, Some, Result, Ok, Err}
use Rattle.protocol.specs.declared.refusal.Refusal.{Refusal}

pub same_writing : (w v : Writing) (old new : List ℕ) (r : Option (Result ℕ Refusal)) → v ≡ w → WritesAs w old r new → WritesAs v old r new
same_writing w v old new (Some (Ok n)) e h = e ∙ h
same_writing w v old new (Some (Err f)) e h = (e ∙ h.0, h.1)
same_writing w v old new None e h = h

module _ (s src : List ℕ) (limit : ℕ) (out : List ℕ) (key : ℕ) (k : slot s 0 ≡ key) (v : slot s 1 ≡ 1) where
  flat_row_lem : decide key 1 ≡ layout key 1 → write_flat s src limit out ≡ write_row_of key 1 s src limit out
  unfolding write_flat write_frame unflat_frame
  flat_row_lem d = rw (k, v, d)

module _ (s src : List ℕ) (limit : ℕ) (out : List ℕ) (v : slot s 1 ≡ 1) where
  pub declare_flat : slot s 0 ≡ 0x0001 → write_flat s src limit out ≡ write_row_of 0x0001 1 s src limit out
  unfolding decide of_version versions_in table
  declare_flat k = flat_row_lem s src limit out 0x0001 k v refl

  pub publish_flat : slot s 0 ≡ 0x0002 → write_flat s src limit out ≡ write_row_of 0x0002 1 s src limit out
  unfolding decide of_version versions_in table
  publish_flat k = flat_row_lem s src limit out 0x0002 k v refl

  pub confirm_flat : slot s 0 ≡ 0x0003 → write_flat s src limit out ≡ write_row_of 0x0003 1 s src limit out
  unfolding decide of_version versions_in table
  confirm_flat k = flat_row_lem s src limit out 0x0003 k v refl

  pub subscribe_flat : slot s 0 ≡ 0x0007 → write_flat s src limit out ≡ write_row_of 0x0007 1 s src limit out
  unfolding decide of_version versions_in table
  subscribe_flat k = flat_row_lem s src limit out 0x0007 k v refl

  pub deliver_flat : slot s 0 ≡ 0x0008 → write_flat s src limit out ≡ write_row_of 0x0008 1 s src limit out
  unfolding decide of_version versions_in table
  deliver_flat k = flat_row_lem s src limit out 0x0008 k v refl

  -- The fields of a credit have no places, and a heartbeat has no fields.
  pub credit_flat : slot s 0 ≡ 0x0009 → write_flat s src limit out ≡ write_row_of 0x0009 1 s [] limit out
  unfolding decide of_version versions_in row_in table
  credit_flat k = flat_row_lem s src limit out 0x0009 k v refl

  pub heartbeat_flat : slot s 0 ≡ 0x0017 → write_flat s src limit out ≡ write_row_of 0x0017 1 [] [] limit out
  unfolding decide of_version versions_in row_in table
  heartbeat_flat k = flat_row_lem s src limit out 0x0017 k v refl
