-- By the pages a label has ended exactly where the journal says so.
use Rattle.std.proofs.Common.{◌≡◌, ◌⊎◌, ℕ, Bool, true, false, not, ◌&&◌, ◌||◌, cond, List, Option, None, Some, inl, inr, refl, sym, ◌∙◌, ap}
use Rattle.std.specs.Prelude.{nat_eq, IsTrue}
use Rattle.std.proofs.lemmas.Bool.{eqb-true}
use Rattle.flash_names.specs.declared.place.Label.{Label}
use Rattle.flash_names.specs.declared.place.Place.{Place}
use Rattle.flash_names.specs.declared.geometry.Geometry.{Geometry}
use Rattle.flash_entry.specs.declared.entry.Entry.{Entry}
use Rattle.flash_pages.specs.declared.page_row.PageRow.{PageRow}
use Rattle.flash_pages.specs.declared.page_row.State.{State}
use Rattle.flash_pages.specs.declared.page_row.State.TheVariants.{Free, Open, Full, Ended}
use Rattle.flash_pages.specs.States.{is_free, is_ended, is_in_use}
use Rattle.flash_pages.specs.PageTable.{PageTable, row_of}
use Rattle.flash_pages.specs.Calls.{has_ended}
use Rattle.flash_machine.specs.Item.{Item}
use Rattle.flash_machine.specs.Live.{label_has_ended}
use Rattle.flash_machine.specs.PageLabels.{page_label, is_label}
use Rattle.flash_calls.specs.Places.{place_has_ended}
use Rattle.flash_calls.specs.Placed.{IsPlaced, WasOpened}
use Rattle.flash_calls.specs.Paged.{ArePaged}

-- a page with a label is in use, or its label has ended
used_or_ended : (state : State) → is_free state ≡ false → not (is_in_use state) ≡ is_ended state
used_or_ended Free is = absurd (cc is)
used_or_ended Open is = refl
used_or_ended Full is = refl
used_or_ended Ended is = refl

free_unused : (state : State) → is_free state ≡ true → is_in_use state ≡ false
free_unused Free is = refl
free_unused Open is = absurd (cc is)
free_unused Full is = absurd (cc is)
free_unused Ended is = absurd (cc is)

other_holds : (a b : Bool) → IsTrue (a || b) → a ≡ false → b ≡ true
other_holds true b one is = absurd (cc is)
other_holds false b one is = one

and_false : (a b : Bool) → b ≡ false → (a && b) ≡ false
and_false true b is = is
and_false false b is = refl

module _ (g : Geometry) (h : List Entry) (t : PageTable) (paged : ArePaged g h t) (label : Label) where
  abbrev row : PageRow
  row = row_of t label

  abbrev as_row : Label
  as_row = record { page = label.page; version = row.version }

  -- the page's label isn't this one
  lacks : (free : Bool) → (free ≡ true) ⊎ (nat_eq row.version label.version ≡ false) → is_label label (cond free None (Some as_row)) ≡ false
  lacks true why = refl
  lacks false (inl is) = absurd (cc is)
  lacks false (inr other) = and_false (nat_eq label.page label.page) (nat_eq row.version label.version) other

  ended_where : (free : Bool) → is_free row.state ≡ free → (free ≡ true) ⊎ (nat_eq row.version label.version ≡ false) → WasOpened h label → label_has_ended h (Some label) ≡ true
  ended_where free is why was =
      let same : is_label label (page_label label.page h) ≡ false =
      ap (is_label label) (sym (paged.each label.page).label) ∙ ap (λ (b : Bool). is_label label (cond b None (Some as_row))) is ∙ lacks free why in
      other_holds (is_label label (page_label label.page h)) (label_has_ended h (Some label)) was same

  -- the page's label is this one
  has : is_free row.state ≡ false → nat_eq row.version label.version ≡ true → page_label label.page h ≡ Some label
  has used same =
      sym (paged.each label.page).label
      ∙ ap (λ (b : Bool). cond b None (Some as_row)) used
      ∙ ap (λ (n : ℕ). Some (record { page = label.page; version = n })) (eqb-true row.version label.version same)

  by_parts : (same free : Bool) → nat_eq row.version label.version ≡ same → is_free row.state ≡ free → WasOpened h label → has_ended t label ≡ label_has_ended h (Some label)
  by_parts false free other is was = ap (λ (b : Bool). not (b && is_in_use row.state)) other ∙ sym (ended_where free is (inr other) was)
  by_parts true true same is was = (λ j. not (same j && free_unused row.state is j)) ∙ sym (ended_where true is (inl refl) was)
  by_parts true false same is was =
      ap (λ (b : Bool). not (b && is_in_use row.state)) same
      ∙ used_or_ended row.state is
      ∙ (paged.each label.page).ended
      ∙ ap (label_has_ended h) (has is same)

  pub ended_alike : WasOpened h label → has_ended t label ≡ label_has_ended h (Some label)
  ended_alike was = by_parts (nat_eq row.version label.version) (is_free row.state) refl refl was

-- an item's label has ended exactly where that of its place has
pub ended_by_place : (g : Geometry) (h : List Entry) (t : PageTable) → ArePaged g h t → (key : List ℕ) (item : Item) (place : Option Place) → IsPlaced key (Some item) place
    → ((p : Place) → place ≡ Some p → WasOpened h p.label) → place_has_ended t place ≡ label_has_ended h item.label
ended_by_place g h t paged key item None placed opened = sym (ap (label_has_ended h) placed)
ended_by_place g h t paged key item (Some place) placed opened = ended_alike g h t paged place.label (opened place refl) ∙ sym (ap (label_has_ended h) placed.label)
