-- The words of a line.
use Prim.Native.Char.{code}
use Rattle.std.specs.Prelude.{ℕ, ◌+◌, ◌*◌, cond, List, [], ◌∷◌, eqb, leb, length}
use Prim.Native.String.{String, [] as empty, ◌∷◌ as ◌before◌}
use Rattle.wire.specs.Integers.{big_endian}
use Rattle.test_ledgers.specs.declared.script.Word.{Word}
use Rattle.test_ledgers.specs.declared.script.Word.TheVariants.{Open, Grant, Close, Receive, Credit, Declare, Delete, Send, Confirm, Out, Unknown}

-- Letters as a number: their ASCII codes are its bytes, after those of v.
abbrev pub letters : ℕ → String → ℕ
letters v empty = v
letters v (c before s) = letters (v * 256 + code c) s

-- The word whose first four letters these are.
unfoldable pub word_of : ℕ → Word
word_of n =
    cond (eqb n (letters 0 "open")) Open
    (cond (eqb n (letters 0 "gran")) Grant
    (cond (eqb n (letters 0 "clos")) Close
    (cond (eqb n (letters 0 "rece")) Receive
    (cond (eqb n (letters 0 "cred")) Credit
    (cond (eqb n (letters 0 "decl")) Declare
    (cond (eqb n (letters 0 "dele")) Delete
    (cond (eqb n (letters 0 "send")) Send
    (cond (eqb n (letters 0 "conf")) Confirm
    (cond (eqb n (letters 0 "out ")) Out
    Unknown)))))))))

-- The word that a line begins with.
unfoldable pub first_word : List ℕ → Word
first_word line = cond (leb 4 (length line)) (word_of (big_endian 4 line 0)) Unknown

-- What follows the first space of a text; nothing where there is none.
unfoldable pub after_space : List ℕ → List ℕ
after_space [] = []
after_space (b ∷ bs) = cond (eqb b 0x20) bs (after_space bs)
