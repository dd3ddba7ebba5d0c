-- Each row is computed from its numbers. Behind its end a list has its default, which is no kind.
use mathlib.Core.Path.{refl}
use lib.ListN.{get_or-eq_default}
use Rattle.std.proofs.Math.Option.{none}
use Rattle.protocol.specs.LayoutNumbers.{LayoutNumbers}
use Rattle.protocol.specs.Layouts.{kinds, row_by}
use Rattle.protocol.specs.Table.{row_in, table}

pub layout_numbers : LayoutNumbers
unfolding kinds row_by row_in table
layout_numbers =
    record {
      declare_publisher = refl;
      publish = refl;
      publish_version_2 = refl;
      publish_confirm = refl;
      publish_error = refl;
      subscribe = refl;
      deliver_version_2 = refl;
      store_offset = refl;
      metadata = refl;
      sasl_authenticate = refl;
      consumer_update = refl;
      exchange_command_versions = refl;
      metadata_response = refl;
      consumer_update_response = refl;
      stream_stats_response = refl;
      filtered_message = refl;
      stream_metadata = refl;
      statistic = refl;
      credit = refl;
      zero = refl;
      no_other = λ n h. get_or-eq_default kinds none h;
    }
