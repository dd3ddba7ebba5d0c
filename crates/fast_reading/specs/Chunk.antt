-- Where the chunk of a Deliver begins, by the version; nowhere where no version is that.
use Rattle.std.specs.Prelude.{cond, ℕ, eqb, Option, Some, None}

abbrev pub chunk_at : ℕ → Option ℕ
chunk_at version = cond (eqb version 1) (Some 1) (cond (eqb version 2) (Some 9) None)
