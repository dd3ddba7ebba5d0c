-- The word by the line's first four bytes. Assumes nothing.
use Prim.Native.Nat.{ℕ, ◌≤◌, ◌<◌}
use mathlib.Core.Path.{◌≡◌}
use mathlib.Core.List.{List}
use borrow.Author.Tests.{le-leb, lt-leb}
use lib.ListN.{length}
use Rattle.wire.specs.Integers.{big_endian}
use Rattle.test_ledgers.specs.Words.{word_of, first_word}
use Rattle.test_ledgers.specs.declared.script.Word.TheVariants.{Unknown}

pub word_there : (line : List ℕ) (letters : ℕ) → 4 ≤ length line → letters ≡ big_endian 4 line 0 → word_of letters ≡ first_word line
unfolding first_word
word_there line letters h e = rw (e, le-leb 4 (length line) h)

pub word_cut : (line : List ℕ) → length line < 4 → Unknown ≡ first_word line
unfolding first_word
word_cut line h = rw (lt-leb 4 (length line) h)
