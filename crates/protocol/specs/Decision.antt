-- The key decision (01 "Frame and keys"): what a key and a version pick, over their whole range.
use Rattle.std.specs.Borrow.{Bor}
use Rattle.std.specs.Prelude.{cond, List, [], ◌∷◌, ℕ, eqb, Option, None, Some, Result, Ok, Err}
use Rattle.protocol.specs.Layouts.{row_from}
use Rattle.protocol.specs.Kinds.{Row, end}
use Rattle.protocol.specs.Table.{Listing, table}
use Rattle.protocol.specs.declared.kind.FieldKind.{FieldKind}
use Rattle.protocol.specs.declared.layout.Layouts.{Layouts}
use Rattle.protocol.specs.declared.refusal.Refusal.{Refusal}
use Rattle.protocol.specs.declared.refusal.Refusal.TheVariants.{UnknownKey, UnknownVersion}

-- A key's versions, in the table's order.
unfoldable pub versions_in : List Listing → ℕ → List Listing
versions_in [] k = []
versions_in (l ∷ ls) k = cond (eqb k l.key) (l ∷ versions_in ls k) (versions_in ls k)

abbrev pub listings : ℕ → List Listing
listings k = versions_in table k

-- A layout; or refusal 4, key not listed; or refusal 5, version not listed for the key.
pub data Decision : Type 0 where
  layout : ℕ → ℕ → Decision
  unlisted_key : Decision
  unlisted_version : Decision

unfoldable pub of_version : ℕ → List Listing → Decision
of_version v [] = unlisted_version
of_version v (l ∷ ls) = cond (eqb v l.version) (layout l.key l.version) (of_version v ls)

abbrev pub among : List Listing → ℕ → Decision
among [] v = unlisted_key
among (l ∷ ls) v = of_version v (l ∷ ls)

unfoldable pub decide : ℕ → ℕ → Decision
decide k v = among (listings k) v

-- What the code's answers say: the layouts of a key, of version 1 and of version 2; and what a key and a version pick.
abbrev pub under : ℕ → ℕ → List FieldKind → Listing
under k v fields = record { key = k; version = v; row = row_from fields }

abbrev pub second_of : ℕ → Option (Bor (List FieldKind)) → List Listing
second_of k None = []
second_of k (Some fields) = under k 2 fields.now ∷ []

abbrev pub listed_of : ℕ → Option Layouts → List Listing
listed_of k None = []
listed_of k (Some l) = under k 1 l.first.now ∷ second_of k l.second

-- The decision that an answer tells; it is refused for no other reason.
abbrev pub decision_of : {A : Type 0} → Result A Refusal → ℕ → ℕ → Option Decision
decision_of (Ok fields) k v = Some (layout k v)
decision_of (Err UnknownKey) k v = Some unlisted_key
decision_of (Err UnknownVersion) k v = Some unlisted_version
decision_of (Err refusal) k v = None

-- The row of the layout that an answer has; where it is refused, no field at all.
abbrev pub row_told : Result (Bor (List FieldKind)) Refusal → Row
row_told (Ok fields) = row_from fields.now
row_told (Err refusal) = end
