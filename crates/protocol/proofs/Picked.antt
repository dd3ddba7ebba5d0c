-- What a key and a version pick of the key's layouts is the decision over the table, and the row in it. Assumes nothing.
use Rattle.std.proofs.Common.{◌≡◌, refl, ◌∙◌, sym, ap, ℕ, Bool, true, false, cond, ◌&&◌, eqb, List, [], ◌∷◌, Bor, Option, Some, None, Result, Ok, Err}
use Rattle.std.proofs.lemmas.Bool.{eqb-true}
use Rattle.std.specs.Option.{ok_or}
use Rattle.protocol.specs.Decision.{second_of, versions_in, listings, listed_of, layout, of_version, among, decide, decision_of, row_told}
use Rattle.protocol.specs.Kinds.{Row, end}
use Rattle.protocol.specs.Layouts.{row_from}
use Rattle.protocol.specs.Table.{Listing, table, row_in, row_of}
use Rattle.protocol.specs.declared.kind.FieldKind.{FieldKind}
use Rattle.protocol.specs.declared.layout.Layouts.{Layouts}
use Rattle.protocol.specs.declared.refusal.Refusal.{Refusal}
use Rattle.protocol.specs.declared.refusal.Refusal.TheVariants.{UnknownKey, UnknownVersion}

-- What the code answers.
abbrev pub picked : Option Layouts → ℕ → Result (Bor (List FieldKind)) Refusal
picked None v = Err UnknownKey
picked (Some l) v = cond (eqb v 1) (Ok l.first) (cond (eqb v 2) (ok_or l.second UnknownVersion) (Err UnknownVersion))

-- The row of a version among a key's layouts.
abbrev row_among : List Listing → ℕ → Row
row_among [] v = end
row_among (l ∷ ls) v = cond (eqb v l.version) l.row (row_among ls v)

row_among_lem : (ls : List Listing) (k v : ℕ) → row_in ls k v ≡ row_among (versions_in ls k) v
unfolding row_in versions_in
row_among_lem [] k v = refl
row_among_lem (l ∷ ls) k v = by (eqb k l.key) (row_among_lem ls k v)
  where
    by : (t : Bool) → row_in ls k v ≡ row_among (versions_in ls k) v → cond (t && eqb v l.version) l.row (row_in ls k v) ≡ row_among (cond t (l ∷ versions_in ls k) (versions_in ls k)) v
    by true h = rw h
    by false h = h

abbrev Picks : ℕ → ℕ → Result (Bor (List FieldKind)) Refusal → Type 0
Picks k v r = (decision_of r k v ≡ Some (decide k v)) × (row_told r ≡ row_of k v)

module _ (k v : ℕ) where
  -- By the version, and by whether there is a second one.
  by_version : (l : Layouts) (a : Bool) → eqb v 1 ≡ a → (b : Bool) → eqb v 2 ≡ b → (s : Option (Bor (List FieldKind))) → (decision_of (cond a (Ok l.first) (cond b (ok_or s UnknownVersion) (Err UnknownVersion))) k v ≡ Some (cond a (layout k 1) (of_version v (second_of k s)))) × (row_told (cond a (Ok l.first) (cond b (ok_or s UnknownVersion) (Err UnknownVersion))) ≡ cond a (row_from l.first.now) (row_among (second_of k s) v))
  unfolding of_version
  by_version l true e b f s = (rw (eqb-true v 1 e), refl)
  by_version l false e true f None = (refl, refl)
  by_version l false e true f (Some second) = (rw f (rw (eqb-true v 2 f)), rw f)
  by_version l false e false f None = (refl, refl)
  by_version l false e false f (Some second) = (rw f, rw f)

  in_layouts : (l : Option Layouts) → (decision_of (picked l v) k v ≡ Some (among (listed_of k l) v)) × (row_told (picked l v) ≡ row_among (listed_of k l) v)
  unfolding of_version
  in_layouts None = (refl, refl)
  in_layouts (Some l) = by_version l (eqb v 1) refl (eqb v 2) refl l.second

  pub picks : (l : Option Layouts) (r : Result (Bor (List FieldKind)) Refusal) → listed_of k l ≡ listings k → r ≡ picked l v → Picks k v r
  unfolding decide
  picks l r e i =
      let p = in_layouts l in
      (rw i (p.0 ∙ ap (λ (ls : List Listing). Some (among ls v)) e), rw i (p.1 ∙ ap (λ (ls : List Listing). row_among ls v) e ∙ sym (row_among_lem table k v)))
