-- The stages of a listing: what each one is, and how one follows another.
use Rattle.std.specs.Prelude.{Bool, true, false, cond, ℕ, Option}
use Rattle.listing_text.specs.declared.listing.State.TheVariants.{Going, More, Done, TooLong}
use Rattle.listing_loop.specs.History.{gave}
use Rattle.listing_loop.specs.declared.session.Stage.{Stage}
use Rattle.listing_loop.specs.declared.session.Stage.TheVariants.{Listing, Listed, Unreadable, Unwritable}

-- There may be more to list in the window.
abbrev pub is_listing : Stage → Bool
is_listing Listing = true
is_listing (Listed state) = false
is_listing Unreadable = false
is_listing Unwritable = false

-- More bytes are needed.
abbrev pub is_reading : Stage → Bool
is_reading Listing = false
is_reading (Listed Going) = false
is_reading (Listed More) = true
is_reading (Listed Done) = false
is_reading (Listed TooLong) = false
is_reading Unreadable = false
is_reading Unwritable = false

-- A read or a write failed.
abbrev pub is_failed : Stage → Bool
is_failed Listing = false
is_failed (Listed state) = false
is_failed Unreadable = true
is_failed Unwritable = true

-- The listing does not go on.
abbrev pub is_over : Stage → Bool
is_over Listing = false
is_over (Listed Going) = false
is_over (Listed More) = false
is_over (Listed Done) = true
is_over (Listed TooLong) = true
is_over Unreadable = true
is_over Unwritable = true

-- The stage after a read that answered so.
abbrev pub stage_read : Option ℕ → Stage
stage_read got = cond (gave got) Listing Unreadable

-- The stage after a write that took its text, or failed: the listing goes on unless it is over.
abbrev pub stage_written : Bool → Stage → Stage
stage_written taken s = cond taken (cond (is_over s) s Listing) Unwritable
