-- 01: "That is 53 keys, 55 layouts; no other key exists."
use Rattle.std.specs.Prelude.{◌≡◌, true, false, cond, List, [], ◌∷◌, ◌++◌, map, ℕ, suc, ◌+◌, length}
use Rattle.protocol.specs.Table.{table}
use Rattle.protocol.specs.Decision.{layout, unlisted_key, decide}
use Rattle.protocol.specs.Layouts.{among}

-- The keys of requests and commands, and of those the ones that have a response, as 01 lists them.
unfoldable pub requests : List ℕ
requests =
    0x01 ∷ 0x02 ∷ 0x03 ∷ 0x04 ∷ 0x05 ∷ 0x06 ∷ 0x07 ∷ 0x08 ∷ 0x09 ∷ 0x0a ∷ 0x0b ∷ 0x0c ∷ 0x0d ∷ 0x0e ∷ 0x0f ∷ 0x10
    ∷ 0x11 ∷ 0x12 ∷ 0x13 ∷ 0x14 ∷ 0x15 ∷ 0x16 ∷ 0x17 ∷ 0x18 ∷ 0x19 ∷ 0x1a ∷ 0x1b ∷ 0x1c ∷ 0x1d ∷ 0x1e ∷ []

unfoldable pub answered : List ℕ
answered =
    0x01 ∷ 0x06 ∷ 0x07 ∷ 0x0c ∷ 0x0d ∷ 0x0e ∷ 0x16 ∷ 0x1d ∷ 0x1e ∷ 0x05 ∷ 0x0b ∷ 0x09 ∷ 0x0f ∷ 0x11 ∷ 0x15 ∷ 0x12
    ∷ 0x18 ∷ 0x19 ∷ 0x13 ∷ 0x14 ∷ 0x1a ∷ 0x1b ∷ 0x1c ∷ []

unfoldable pub keys : List ℕ
keys = requests ++ map (λ k. 0x8000 + k) answered

-- How many different numbers a list has.
abbrev pub different : List ℕ → ℕ
different [] = 0
different (k ∷ ks) = cond (among k ks) (different ks) (suc (different ks))

pub record TableFacts : Type 0 where
  pub layouts : length table ≡ 55
  pub key_count : different (map (λ l. l.key) table) ≡ 53
  pub listed : (k : ℕ) → among k keys ≡ true → decide k 1 ≡ layout k 1
  pub no_other : (k v : ℕ) → among k keys ≡ false → decide k v ≡ unlisted_key
