-- Where a byte stands in a text.
use Rattle.std.specs.Prelude.{ℕ, suc, cond, List, [], ◌∷◌, eqb}

-- The place of the first such byte, or the text's length where there is none.
unfoldable pub index_of : ℕ → List ℕ → ℕ
index_of byte [] = 0
index_of byte (b ∷ bs) = cond (eqb b byte) 0 (suc (index_of byte bs))
