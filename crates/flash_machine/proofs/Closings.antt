-- The lookups of a journal with one entry more.
use Rattle.std.proofs.Common.{◌≡◌, Bool, true, false, ◌||◌, List, [], ◌∷◌, ◌++◌, refl, ◌∙◌, ap}
use Rattle.std.specs.List.{list_any}
use Rattle.std.proofs.lemmas.List.Folds.{list_any-append}
use Rattle.flash_names.specs.declared.place.Id.{Id}
use Rattle.flash_names.specs.declared.geometry.Geometry.{Geometry}
use Rattle.flash_entry.specs.declared.entry.Close.{Close}
use Rattle.flash_entry.specs.declared.entry.Entry.{Entry}
use Rattle.flash_entry.specs.declared.entry.Entry.TheVariants as entries
use Rattle.flash_machine.specs.Steps.{cache_of}
use Rattle.flash_machine.specs.Lookups.{Lookup, lookup_step, open_lookup, closing_of, closings}
use Rattle.flash_machine.specs.Followed.{ClosesNone}
use Rattle.flash_machine.proofs.EntrySteps.{is_read_off}

module _ (g : Geometry) where
  -- the open lookup of a step after one entry more
  pub open_lookup-more : (id : Id) (h : List Entry) (e : Entry) → open_lookup g id (h ++ e ∷ []) ≡ lookup_step id h (cache_of g h) (open_lookup g id h) e
  open_lookup-more id h e = (is_read_off g h e).lookup id

  -- whether one of them passes a test
  pub any_closing : (test : Lookup × Close → Bool) (h : List Entry) (e : Entry)
      → list_any test (closings g (h ++ e ∷ [])) ≡ (list_any test (closings g h) || list_any test (closing_of g h e))
  any_closing test h e = ap (list_any test) (is_read_off g h e).closed ∙ list_any-append test (closings g h) (closing_of g h e)

  pub or_false : (b : Bool) → (b || false) ≡ b
  or_false true = refl
  or_false false = refl

  none_closed : (h : List Entry) (e : Entry) → ClosesNone e → closing_of g h e ≡ []
  none_closed h (entries.Closed id close) none = absurd none
  none_closed h _ none = refl

  -- an entry that closes none leaves them
  pub same_closings : (test : Lookup × Close → Bool) (h : List Entry) (e : Entry) → ClosesNone e
      → list_any test (closings g (h ++ e ∷ [])) ≡ list_any test (closings g h)
  same_closings test h e none =
      any_closing test h e ∙ ap (λ (es : List (Lookup × Close)). list_any test (closings g h) || list_any test es) (none_closed h e none) ∙ or_false (list_any test (closings g h))
