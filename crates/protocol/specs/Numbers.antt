-- The number of each refusal, as the table of 01 "Refusal numbers" has it. The definitions and the code use the names; here the
-- numbers themselves are said once more, so that names with the wrong numbers are refused where definitions and code agree.
use Rattle.std.specs.Prelude.{◌≡◌}
use Rattle.protocol.specs.Refusals.{short, frame_too_large, frame_too_small, unknown_key, unknown_version, field_cut, bad_length, not_utf8, reference_too_long, value_not_admitted, bytes_left, no_room, not_open, already_open, no_credit, over_limit, not_out}

pub record RefusalNumbers : Type 0 where
  -- Fewer than 4 bytes, or fewer than Size + 4.
  pub one : short ≡ 1
  -- Size above the frame limit, or above what Size can say.
  pub two : frame_too_large ≡ 2
  -- Size below 4.
  pub three : frame_too_small ≡ 3
  -- Key not listed.
  pub four : unknown_key ≡ 4
  -- Version not listed for the key.
  pub five : unknown_version ≡ 5
  -- A field ends beyond its frame, an entry beyond the data, a place outside the source.
  pub six : field_cut ≡ 6
  -- Length below -1, null not admitted, negative count; too long to be written.
  pub seven : bad_length ≡ 7
  -- Text that is not UTF-8.
  pub eight : not_utf8 ≡ 8
  -- Reference over 256 bytes.
  pub nine : reference_too_long ≡ 9
  -- Value not admitted.
  pub ten : value_not_admitted ≡ 10
  -- Bytes left.
  pub eleven : bytes_left ≡ 11
  -- Output shorter than the frame.
  pub twelve : no_room ≡ 12
  -- Id not open.
  pub thirteen : not_open ≡ 13
  -- Id already open.
  pub fourteen : already_open ≡ 14
  -- No credit left.
  pub fifteen : no_credit ≡ 15
  -- Balance or messages out would pass 1,000,000.
  pub sixteen : over_limit ≡ 16
  -- More confirmed than out.
  pub seventeen : not_out ≡ 17
