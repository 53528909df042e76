-- The label of a page, from its opening to its freeing.
use Rattle.std.proofs.Common.{◌≡◌, ℕ, Bool, true, false, cond, List, [], ◌∷◌, ◌++◌, None, Some, refl, sym, ◌∙◌, ap, append_assoc}
use Rattle.std.specs.Prelude.{nat_eq}
use Rattle.std.specs.List.{list_any}
use Rattle.std.proofs.lemmas.List.{append-nil}
use Rattle.std.proofs.lemmas.Bool.{false≢true, or_parts, eqb-true, true_from_ne_false}
use Rattle.flash_names.specs.declared.place.Label.{Label}
use Rattle.flash_names.specs.declared.geometry.Geometry.{Geometry}
use Rattle.flash_names.specs.Labels.{same_label}
use Rattle.flash_entry.specs.declared.entry.Entry.{Entry}
use Rattle.flash_entry.specs.declared.entry.Entry.TheVariants as entries
use Rattle.flash_machine.specs.PageLabels.{label_step, page_label}
use Rattle.flash_machine.specs.Orderly.{IsOrderly, OrderlyFrom, Orderly}
use Rattle.flash_machine.specs.Splits.{journal_of_two}
use Rattle.flash_machine.specs.LabelLaws.{frees}
use Rattle.flash_machine.proofs.Same.{number_itself, label_itself}
use Rattle.flash_machine.proofs.Onward.{EachFrom-split}
use Rattle.flash_machine.proofs.EntrySteps.{read_off-one}
use Rattle.flash_machine.proofs.RuleMeanings.{over, next_label}

module _ (g : Geometry) (label : Label) where
  -- a page with a label isn't opened
  opened_stays : (h : List Entry) (opened : Label) (b : Bool) → nat_eq opened.page label.page ≡ b → page_label opened.page h ≡ None
      → page_label label.page h ≡ Some label → cond b (Some opened) (page_label label.page h) ≡ Some label
  opened_stays h opened false at free has = has
  opened_stays h opened true at free has =
      let there : page_label label.page h ≡ None = ap (λ (page : ℕ). page_label page h) (sym (eqb-true opened.page label.page at)) ∙ free in absurd (cc (sym there ∙ has))

  -- what is freed is the page's label
  freed_stays : (h : List Entry) (freed : Label) (b : Bool) → nat_eq freed.page label.page ≡ b → page_label freed.page h ≡ Some freed → same_label freed label ≡ false
      → page_label label.page h ≡ Some label → cond b None (page_label label.page h) ≡ Some label
  freed_stays h freed false at there other has = has
  freed_stays h freed true at there other has =
      let both : Some freed ≡ Some label = sym there ∙ ap (λ (page : ℕ). page_label page h) (eqb-true freed.page label.page at) ∙ has in
      let one : freed ≡ label = cc both in
      absurd (false≢true (sym other ∙ ap (λ (l : Label). same_label l label) one ∙ label_itself label))

  one_stays : (h : List Entry) (e : Entry) → IsOrderly g h e → page_label label.page h ≡ Some label → frees label e ≡ false → label_step label.page (page_label label.page h) e ≡ Some label
  one_stays h (entries.Opened opened) orderly has other = opened_stays h opened (nat_eq opened.page label.page) refl (next_label g h opened orderly).free has
  one_stays h (entries.Freed freed) orderly has other = freed_stays h freed (nat_eq freed.page label.page) refl (over h freed orderly).has other has
  one_stays h _ orderly has other = has

  -- a page keeps its label while no entry frees it
  pub label_stays : (h es : List Entry) → OrderlyFrom g h es → page_label label.page h ≡ Some label → list_any (frees label) es ≡ false → page_label label.page (h ++ es) ≡ Some label
  label_stays h [] orderly has none = ap (page_label label.page) (append-nil h) ∙ has
  label_stays h (e ∷ es) orderly has none =
      let parts = or_parts (frees label e) (list_any (frees label) es) none in
      let step = read_off-one (label_step label.page) None h e ∙ one_stays h e orderly.0 has parts.0 in
      ap (page_label label.page) (sym (append_assoc h (e ∷ []) es)) ∙ label_stays (h ++ e ∷ []) es orderly.1 step parts.1

  -- a page has the label that it was opened with
  pub opened_has : (h : List Entry) → page_label label.page (h ++ entries.Opened label ∷ []) ≡ Some label
  opened_has h =
      read_off-one (label_step label.page) None h (entries.Opened label)
      ∙ ap (λ (b : Bool). cond b (Some label) (page_label label.page h)) (number_itself label.page)

  pub freed_between : (before between after : List Entry) (second : Label) → Orderly g (journal_of_two before (entries.Opened label) between (entries.Opened second) after)
      → label.page ≡ second.page → list_any (frees label) between ≡ true
  freed_between before between after second orderly same =
      let h = before ++ entries.Opened label ∷ between in
      let opened = before ++ entries.Opened label ∷ [] in
      let parts = EachFrom-split (IsOrderly g) h (entries.Opened second ∷ after) orderly in
      let since = (EachFrom-split (IsOrderly g) before (entries.Opened label ∷ between) parts.0).1.1 in
      true_from_ne_false (list_any (frees label) between) (λ none.
      let stays : page_label label.page h ≡ Some label =
      ap (page_label label.page) (sym (append_assoc before (entries.Opened label ∷ []) between)) ∙ label_stays opened between since (opened_has before) none in
      let free : page_label label.page h ≡ None = ap (λ (page : ℕ). page_label page h) same ∙ (next_label g h second parts.1.0).free in
      cc (sym stays ∙ free))
