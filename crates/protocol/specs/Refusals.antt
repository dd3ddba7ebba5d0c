-- The refusal numbers (01 "Refusal numbers").
use Rattle.std.specs.Prelude.{ℕ, Result, Ok, Err}
use Rattle.protocol.specs.declared.refusal.Refusal.{Refusal}
use Rattle.protocol.specs.declared.refusal.Refusal.TheVariants.{Short, FrameTooLarge, FrameTooSmall, UnknownKey, UnknownVersion, FieldCut, BadLength, NotUtf8, ReferenceTooLong, ValueNotAdmitted, BytesLeft, NoRoom, NotOpen, AlreadyOpen, NoCredit, OverLimit, NotOut}

abbrev pub short : ℕ
short = 1

abbrev pub frame_too_large : ℕ
frame_too_large = 2

abbrev pub frame_too_small : ℕ
frame_too_small = 3

abbrev pub unknown_key : ℕ
unknown_key = 4

abbrev pub unknown_version : ℕ
unknown_version = 5

-- A field ends beyond its frame, or an entry beyond the data; a place reaches outside the lent source.
abbrev pub field_cut : ℕ
field_cut = 6

abbrev pub bad_length : ℕ
bad_length = 7

abbrev pub not_utf8 : ℕ
not_utf8 = 8

abbrev pub reference_too_long : ℕ
reference_too_long = 9

abbrev pub value_not_admitted : ℕ
value_not_admitted = 10

abbrev pub bytes_left : ℕ
bytes_left = 11

abbrev pub no_room : ℕ
no_room = 12

abbrev pub not_open : ℕ
not_open = 13

abbrev pub already_open : ℕ
already_open = 14

abbrev pub no_credit : ℕ
no_credit = 15

abbrev pub over_limit : ℕ
over_limit = 16

abbrev pub not_out : ℕ
not_out = 17

abbrev pub number_of : Refusal → ℕ
number_of Short = short
number_of FrameTooLarge = frame_too_large
number_of FrameTooSmall = frame_too_small
number_of UnknownKey = unknown_key
number_of UnknownVersion = unknown_version
number_of FieldCut = field_cut
number_of BadLength = bad_length
number_of NotUtf8 = not_utf8
number_of ReferenceTooLong = reference_too_long
number_of ValueNotAdmitted = value_not_admitted
number_of BytesLeft = bytes_left
number_of NoRoom = no_room
number_of NotOpen = not_open
number_of AlreadyOpen = already_open
number_of NoCredit = no_credit
number_of OverLimit = over_limit
number_of NotOut = not_out

-- The number with which a call is refused; 0 where it is not.
abbrev pub number_in : {A : Type 0} → Result A Refusal → ℕ
number_in (Ok a) = 0
number_in (Err refusal) = number_of refusal
