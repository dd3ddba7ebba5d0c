-- Layouts and elements by the numbers of their fields' kinds. Each number from 1 to 26 stands in one, so that no definition can give it
-- another kind. All other numbers are no kind's.
use Rattle.std.specs.Prelude.{◌≡◌, ◌≤◌, List, [], ◌∷◌, ℕ}
use Rattle.std.proofs.Math.Option.{none}
use Rattle.protocol.specs.Kinds.{Row, element_row}
use Rattle.protocol.specs.Layouts.{kind_numbered, row_by}
use Rattle.protocol.specs.Table.{row_of}
use Rattle.protocol.specs.declared.kind.Element.TheVariants.{FilteredMessage, StreamMetadata, Statistic}

abbrev pub by_number : List ℕ → Row
by_number ns = row_by kind_numbered ns

pub record LayoutNumbers : Type 0 where
  pub declare_publisher : by_number (3 ∷ 1 ∷ 11 ∷ 7 ∷ []) ≡ row_of 0x0001 1
  pub publish : by_number (1 ∷ 16 ∷ []) ≡ row_of 0x0002 1
  pub publish_version_2 : by_number (1 ∷ 17 ∷ []) ≡ row_of 0x0002 2
  pub publish_confirm : by_number (1 ∷ 18 ∷ []) ≡ row_of 0x0003 1
  pub publish_error : by_number (1 ∷ 19 ∷ []) ≡ row_of 0x0004 1
  pub subscribe : by_number (3 ∷ 1 ∷ 7 ∷ 13 ∷ 2 ∷ 20 ∷ []) ≡ row_of 0x0007 1
  pub deliver_version_2 : by_number (1 ∷ 4 ∷ 15 ∷ []) ≡ row_of 0x0008 2
  pub store_offset : by_number (8 ∷ 7 ∷ 4 ∷ []) ≡ row_of 0x000a 1
  pub metadata : by_number (3 ∷ 21 ∷ []) ≡ row_of 0x000f 1
  pub sasl_authenticate : by_number (3 ∷ 7 ∷ 12 ∷ []) ≡ row_of 0x0013 1
  pub consumer_update : by_number (3 ∷ 1 ∷ 6 ∷ []) ≡ row_of 0x001a 1
  pub exchange_command_versions : by_number (3 ∷ 22 ∷ []) ≡ row_of 0x001b 1
  pub metadata_response : by_number (3 ∷ 23 ∷ 24 ∷ []) ≡ row_of 0x800f 1
  pub consumer_update_response : by_number (3 ∷ 2 ∷ 14 ∷ []) ≡ row_of 0x801a 1
  pub stream_stats_response : by_number (3 ∷ 2 ∷ 25 ∷ []) ≡ row_of 0x801c 1
  pub filtered_message : by_number (4 ∷ 10 ∷ 9 ∷ []) ≡ element_row FilteredMessage
  pub stream_metadata : by_number (7 ∷ 2 ∷ 2 ∷ 26 ∷ []) ≡ element_row StreamMetadata
  pub statistic : by_number (7 ∷ 5 ∷ []) ≡ element_row Statistic
  -- What is no kind's is passed over.
  pub credit : by_number (0 ∷ 1 ∷ 27 ∷ 2 ∷ 0 ∷ 255 ∷ []) ≡ row_of 0x0009 1
  pub zero : kind_numbered 0 ≡ none
  pub no_other : (n : ℕ) → 27 ≤ n → kind_numbered n ≡ none
