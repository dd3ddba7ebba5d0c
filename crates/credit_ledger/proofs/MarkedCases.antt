-- The definitions compute at each marked case. Assumes nothing.
use mathlib.Core.Path.{refl}
use Rattle.wire.specs.Integers.{big_endian}
use Rattle.wire.specs.Signed.{signed}
use Rattle.protocol.specs.Decision.{versions_in, of_version, decide}
use Rattle.protocol.specs.Table.{table, row_in}
use Rattle.rules.specs.Outcome.{repeated}
use Rattle.rules.specs.Reading.{read_number, read_unsigned, read_entries, read_data, read_chunk, read_field, read_row, read_content, read_layout, read_decided, read_sized, read_frame}
use Rattle.rules.proofs.MarkedCases as rules
use Rattle.credit_ledger.specs.Cases.{MarkedCases}

pub marked_cases : MarkedCases
unfolding big_endian signed versions_in of_version decide table row_in repeated read_number read_unsigned read_entries read_data read_chunk read_field read_row read_content read_layout read_decided read_sized read_frame
marked_cases = record { A_L = rules.marked_cases; M = refl; N = refl }
