-- Each return is one check of the definition.
use Rattle.std.proofs.Common.{◌∙◌, sym, Err}
use Rattle.byte_strings.specs.Stops.{told}
use Rattle.slot_writing.proofs.ChunkChecks.{type_refused, header_refused, data_outside, data_short, data_long, data_closed, data_entries, none_told}
use Rattle.slot_writing.proofs.chunk.check_chunk.Goals as goal
use Rattle.slot_writing.proofs.chunk.check_chunk.Goals.{then-not-is_chunk_type-via-then-not-is_chunk_type, then-not-is_chunk_type-via-else-not-is_chunk_type+then-not-header_fits, then-is_outside-via-then-is_outside, then-is_outside-via-else-is_outside+then-len-data_length}

pub returns-then-not-is_chunk_type : goal.returns-then-not-is_chunk_type
returns-then-not-is_chunk_type c =
    elim c.then-not-is_chunk_type.branch [
      | then-not-is_chunk_type-via-then-not-is_chunk_type w ↦
          type_refused c.args.src.now c.args.slots.now _ _ _ _ c.slot-kind.ensures c.slot-data_length.ensures c.slot-from.ensures c.slot-len.ensures (sym (c.is_chunk_type.ensures 7) ∙ w.if-not-is_chunk_type.true)
      | then-not-is_chunk_type-via-else-not-is_chunk_type+then-not-header_fits w ↦
          header_refused c.args.src.now c.args.slots.now _ _ _ _ c.slot-kind.ensures c.slot-data_length.ensures c.slot-from.ensures c.slot-len.ensures (sym w.header_fits.ensures ∙ w.if-not-header_fits.true)
    ]

pub returns-then-is_outside : goal.returns-then-is_outside
returns-then-is_outside c =
    let admitted = sym (c.is_chunk_type.ensures 7) ∙ c.if-not-is_chunk_type.false in
    let fits = sym c.header_fits.ensures ∙ c.if-not-header_fits.false in
    elim c.then-is_outside.branch [
      | then-is_outside-via-then-is_outside w ↦
          data_outside c.args.src.now c.args.slots.now _ _ _ _ c.slot-kind.ensures c.slot-data_length.ensures c.slot-from.ensures c.slot-len.ensures admitted fits (sym c.is_outside.ensures ∙ w.if-is_outside.true)
      | then-is_outside-via-else-is_outside+then-len-data_length w ↦
          data_short c.args.src.now c.args.slots.now _ _ _ _ c.slot-kind.ensures c.slot-data_length.ensures c.slot-from.ensures c.slot-len.ensures admitted fits (sym c.is_outside.ensures ∙ w.if-is_outside.false) w.if-len-data_length.true
    ]

pub returns-then-data_length-len : goal.returns-then-data_length-len
returns-then-data_length-len c =
    data_long c.args.src.now c.args.slots.now _ _ _ _ c.slot-kind.ensures c.slot-data_length.ensures c.slot-from.ensures c.slot-len.ensures (sym (c.is_chunk_type.ensures 7) ∙ c.if-not-is_chunk_type.false) (sym c.header_fits.ensures ∙ c.if-not-header_fits.false) (sym c.is_outside.ensures ∙ c.if-is_outside.false) c.if-data_length-len.true

pub returns-in-Err : goal.returns-in-Err
returns-in-Err c =
    data_entries c.args.src.now c.args.slots.now _ _ _ _ c.slot-kind.ensures c.slot-data_length.ensures c.slot-from.ensures c.slot-len.ensures (sym (c.is_chunk_type.ensures 7) ∙ c.if-not-is_chunk_type.false) (sym c.header_fits.ensures ∙ c.if-not-header_fits.false) (sym c.is_outside.ensures ∙ c.if-is_outside.false) c.if-len-data_length.false c.if-data_length-len.false _ _ (told (Err c.in-Err.fault)) (sym (c.has_entries.ensures 7) ∙ c.if-has_entries.true) c.slot-entries.ensures c.slot-records.ensures c.in-Err.ensures

pub returns-in_default : goal.returns-in_default
returns-in_default c =
    sym (none_told c.entries_of.result c.in_default.not-Err)
    ∙ data_entries c.args.src.now c.args.slots.now _ _ _ _ c.slot-kind.ensures c.slot-data_length.ensures c.slot-from.ensures c.slot-len.ensures (sym (c.is_chunk_type.ensures 7) ∙ c.if-not-is_chunk_type.false) (sym c.header_fits.ensures ∙ c.if-not-header_fits.false) (sym c.is_outside.ensures ∙ c.if-is_outside.false) c.if-len-data_length.false c.if-data_length-len.false _ _ (told c.entries_of.result) (sym (c.has_entries.ensures 7) ∙ c.if-has_entries.true) c.slot-entries.ensures c.slot-records.ensures c.entries_of.ensures

pub returns-else-has_entries : goal.returns-else-has_entries
returns-else-has_entries c =
    data_closed c.args.src.now c.args.slots.now _ _ _ _ c.slot-kind.ensures c.slot-data_length.ensures c.slot-from.ensures c.slot-len.ensures (sym (c.is_chunk_type.ensures 7) ∙ c.if-not-is_chunk_type.false) (sym c.header_fits.ensures ∙ c.if-not-header_fits.false) (sym c.is_outside.ensures ∙ c.if-is_outside.false) c.if-len-data_length.false c.if-data_length-len.false (sym (c.has_entries.ensures 7) ∙ c.if-has_entries.false)
