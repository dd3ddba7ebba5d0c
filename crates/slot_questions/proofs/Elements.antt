-- The shape of each kind of element stands for that kind, every list of the table has elements of one of the kinds, and elements that
-- are found by their row are found by its kind. Assumes nothing.
use mathlib.Core.Path.{◌≡◌, refl, sym, ◌∙◌, ap, subst}
use mathlib.Core.Bool.{◌&&◌}
use mathlib.Core.List.{List, [], ◌∷◌}
use mathlib.Core.Option.{Option, some}
use Prim.Native.Nat.{ℕ}
use lib.Dec.{eqb}
use Rattle.protocol.specs.Fields.{Field}
use Rattle.protocol.specs.Kinds.{Kind, unsigned, signed, string, specification, list, chunk, Row, end, ◌·◌, element_row}
use Rattle.protocol.specs.Table.{Listing, table, row_in, row_of}
use Rattle.protocol.specs.declared.kind.Element.{Element}
use Rattle.protocol.specs.declared.kind.Element.TheVariants.{Message, FilteredMessage, PublishingId, PublishingError, Property, Name, CommandVersions, Broker, StreamMetadata, Statistic, BrokerReference}
use Rattle.protocol.specs.declared.place.Place.{Place}
use Rattle.rules.specs.Writing.{place_of}
use Rattle.rules.proofs.Gives.{choice}
use Rattle.questions.specs.Found.{Each, AllElements, FieldFound, RowFound}
use Rattle.questions.specs.Answer.{flat_asked}
use Rattle.questions.specs.Questions.{element_at}
use Rattle.questions.proofs.Found.{everything_is_found}
use Rattle.slots.specs.Flat.{flat_element}
use Rattle.slot_questions.specs.Asked.{shape_of, ask_element}
use Rattle.slot_questions.specs.Elements.{shape_number, EveryElement, FieldAsked, RowAsked, EveryElementIsFound}

infixr 50 ◌&◌
-- Pairs, one in another.
abbrev ◌&◌ : {A B : Type 0} → A → B → A × B
a & b = (a, b)

-- ---- Shapes

its_shape : (k : Element) → shape_of (shape_number k) ≡ some k
its_shape Message = refl
its_shape FilteredMessage = refl
its_shape PublishingId = refl
its_shape PublishingError = refl
its_shape Property = refl
its_shape Name = refl
its_shape CommandVersions = refl
its_shape Broker = refl
its_shape StreamMetadata = refl
its_shape Statistic = refl
its_shape BrokerReference = refl

module _ (s : List ℕ) (k : Element) (count : ℕ) (p : Place) where
  asked : (i : ℕ) → ask_element (shape_of (shape_number k)) s count p i ≡ flat_asked (element_row k) (element_at (element_row k) s count p i)
  asked i = ap (λ (o : Option Element). ask_element o s count p i) (its_shape k)

  every : AllElements s (element_row k) count p → EveryElement s k count p
  unfolding flat_element
  every all =
      record {
        all = all;
        found_at = λ i l. asked i ∙ ap (flat_asked (element_row k)) (all.found_at i l);
        no_other = λ i l. asked i ∙ ap (flat_asked (element_row k)) (all.no_other i l);
      }

-- ---- The lists of the table

-- A row that is some kind of element's.
abbrev Shape : Row → Type 0
Shape row = (k : Element) × (row ≡ element_row k)

abbrev ShapedKind : Kind → Type 0
ShapedKind (unsigned n most) = Unit
ShapedKind (signed n) = Unit
ShapedKind (string form nullable) = Unit
ShapedKind (specification admits_none) = Unit
ShapedKind (list rule row) = Shape row
ShapedKind chunk = Unit

-- A row whose lists have elements of some kind.
abbrev Shaped : Row → Type 0
Shaped end = Unit
Shaped (kind · row) = ShapedKind kind × Shaped row

shaped_element : (k : Element) → Shaped (element_row k)
shaped_element Message = tt & tt & tt
shaped_element FilteredMessage = tt & tt & tt & tt
shaped_element PublishingId = tt & tt
shaped_element PublishingError = tt & tt & tt
shaped_element Property = tt & tt & tt
shaped_element Name = tt & tt
shaped_element CommandVersions = tt & tt & tt & tt
shaped_element Broker = tt & tt & tt & tt
shaped_element StreamMetadata = tt & tt & tt & (BrokerReference, refl) & tt
shaped_element Statistic = tt & tt & tt
shaped_element BrokerReference = tt & tt

-- The kinds of a row's lists, and then something else.
abbrev Lists : Row → Type 0 → Type 0
Lists end P = P
Lists (unsigned n most · row) P = Lists row P
Lists (signed n · row) P = Lists row P
Lists (string form nullable · row) P = Lists row P
Lists (specification admits_none · row) P = Lists row P
Lists (list rule elements · row) P = Shape elements × Lists row P
Lists (chunk · row) P = Lists row P

shaped_lists : (row : Row) (P : Type 0) → Lists row P → Shaped row × P
shaped_lists end P h = (tt, h)
shaped_lists (unsigned n most · row) P h = let r = shaped_lists row P h in ((tt, r.0), r.1)
shaped_lists (signed n · row) P h = let r = shaped_lists row P h in ((tt, r.0), r.1)
shaped_lists (string form nullable · row) P h = let r = shaped_lists row P h in ((tt, r.0), r.1)
shaped_lists (specification admits_none · row) P h = let r = shaped_lists row P h in ((tt, r.0), r.1)
shaped_lists (list rule elements · row) P (k, h) = let r = shaped_lists row P h in ((k, r.0), r.1)
shaped_lists (chunk · row) P h = let r = shaped_lists row P h in ((tt, r.0), r.1)

abbrev AllLists : List Listing → Type 0
AllLists [] = Unit
AllLists (l ∷ ls) = Lists l.row (AllLists ls)

-- The kinds of the lists of the table, in its order.
all_lists : AllLists table
unfolding table
all_lists =
    (Message, refl)
    & (FilteredMessage, refl)
    & (PublishingId, refl)
    & (PublishingError, refl)
    & (Property, refl)
    & (Property, refl)
    & (Name, refl)
    & (Property, refl)
    & (CommandVersions, refl)
    & (Name, refl)
    & (Name, refl)
    & (Property, refl)
    & (Broker, refl)
    & (StreamMetadata, refl)
    & (Property, refl)
    & (Name, refl)
    & (Property, refl)
    & (Name, refl)
    & (Name, refl)
    & (CommandVersions, refl)
    & (Statistic, refl)
    & tt

shaped_in : (ls : List Listing) (k v : ℕ) → AllLists ls → Shaped (row_in ls k v)
unfolding row_in
shaped_in [] k v h = tt
shaped_in (l ∷ ls) k v h =
    let r = shaped_lists l.row (AllLists ls) h in
    choice Shaped (eqb k l.key && eqb v l.version) _ _ (λ _. r.0) (λ _. shaped_in ls k v r.1)

-- ---- What is found is found as it is asked for

each_as : {A : Type 0} (P Q : A → Type 0) → ((a : A) → P a → Q a) → (l : List A) → Each P l → Each Q l
each_as P Q g [] h = tt
each_as P Q g (a ∷ l) h = (g a h.0, each_as P Q g l h.1)

module _ (s : List ℕ) where
  -- A list whose elements are of kind k, and of each of them what is known of it.
  abbrev Asked : Element → Field Place → (List (Field Place) → Type 0) → Type 0
  Asked k f P = (every : EveryElement s k f.number (place_of f.octets)) × Each P every.all.elements

  list_asked : (row : Row) (k : Element) (f : Field Place) (P : List (Field Place) → Type 0) → row ≡ element_row k → (all : AllElements s row f.number (place_of f.octets)) → Each P all.elements → Asked k f P
  unfolding every
  list_asked row k f P e =
      subst (λ (r : Row). (all : AllElements s r f.number (place_of f.octets)) → Each P all.elements → Asked k f P) (sym e) (λ all each. (every s k f.number (place_of f.octets) all, each))

  mutual
    unfolding FieldFound RowFound FieldAsked RowAsked

    field_asked : (kind : Kind) (f : Field Place) → ShapedKind kind → FieldFound s kind f → FieldAsked s kind f
    field_asked (unsigned n most) f c h = tt
    field_asked (signed n) f c h = tt
    field_asked (string form nullable) f c h = tt
    field_asked (specification admits_none) f c h = tt
    field_asked (list rule row) f (k, e) (all, each) =
        let found = each_as (λ x. RowFound s row x) (λ x. RowAsked s row x) (λ x h. row_asked row x (subst Shaped (sym e) (shaped_element k)) h) all.elements each in
        let (every, more) = list_asked row k f (λ x. RowAsked s row x) e all found in
        (k, e, every, more)
    field_asked chunk f c h = tt

    row_asked : (row : Row) (fs : List (Field Place)) → Shaped row → RowFound s row fs → RowAsked s row fs
    row_asked end fs c h = tt
    row_asked (kind · row) [] c h = tt
    row_asked (kind · row) (f ∷ fs) c h = (field_asked kind f c.0 h.0, row_asked row fs c.1 h.1)

pub every_element_is_found : EveryElementIsFound
every_element_is_found s limit f b e =
    row_asked s (row_of f.key f.version) f.content (shaped_in table f.key f.version all_lists) (everything_is_found s limit f b e)
