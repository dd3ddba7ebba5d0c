-- The definitions compute at each marked case. Assumes nothing.
use mathlib.Core.Path.{refl}
use Rattle.wire.specs.Integers.{big_endian}
use Rattle.wire.specs.Signed.{signed}
use Rattle.utf8_text.specs.Utf8.{characters, begun, following}
use Rattle.protocol.specs.Decision.{versions_in, of_version, decide}
use Rattle.protocol.specs.Table.{table, row_in}
use Rattle.rules.specs.Outcome.{repeated}
use Rattle.rules.specs.Reading.{read_number, read_unsigned, read_body, read_string, read_field, read_row, read_content, read_layout, read_decided, read_sized, read_frame}
use Rattle.rules.specs.Cases.{Cases}

pub marked_cases : Cases
unfolding big_endian signed characters begun following versions_in of_version decide table row_in repeated read_number read_unsigned read_body read_string read_field read_row read_content read_layout read_decided read_sized read_frame
marked_cases =
    record { A = refl; B = refl; C = refl; D = refl; E = refl; F = refl; G = refl; H = refl; I = refl; J = refl; K = refl; L = refl }
