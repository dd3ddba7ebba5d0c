-- How many pairs of a key and a version are refused.
use Rattle.std.specs.Prelude.{ℕ, ◌+◌, eqb}
use Rattle.protocol.specs.Decision.{Decision, layout, unlisted_key, unlisted_version, decide}
use Rattle.protocol.specs.Refusals.{unknown_key, unknown_version}
use Rattle.test_wire_text_keys.specs.Sums.{sum_below, one_if}

-- A decision's refusal number, or 0 where there is a layout.
abbrev pub refusal_of : Decision → ℕ
refusal_of (layout k v) = 0
refusal_of unlisted_key = unknown_key
refusal_of unlisted_version = unknown_version

-- 1 if a key and a version are refused with this number.
abbrev pub refused : ℕ → ℕ → ℕ → ℕ
refused number key version = one_if (eqb (refusal_of (decide key version)) number)

-- How many of the versions 0, 1, 2, 3 and 65,535 of a key are refused with this number.
unfoldable pub refused_versions : ℕ → ℕ → ℕ
refused_versions number key = refused number key 0 + refused number key 1 + refused number key 2 + refused number key 3 + refused number key 65535

-- The same of all 65,536 keys.
abbrev pub refused_pairs : ℕ → ℕ
refused_pairs number = sum_below (refused_versions number) 65536
