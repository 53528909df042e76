-- A label of a legal journal is of one of the geometry's pages.
use Rattle.std.proofs.Common.{◌≡◌, ℕ, ◌<◌, Bool, true, false, cond, ◌||◌, List, [], ◌∷◌, ◌++◌, Option, None, Some, inl, inr, refl, sym, ◌∙◌, subst}
use Rattle.std.specs.Prelude.{nat_eq}
use Rattle.std.proofs.lemmas.Bool.{or_cases}
use Rattle.flash_names.specs.declared.place.Label.{Label}
use Rattle.flash_names.specs.declared.geometry.Geometry.{Geometry}
use Rattle.flash_names.specs.Labels.{same_label}
use Rattle.flash_entry.specs.declared.entry.Entry.{Entry}
use Rattle.flash_entry.specs.declared.entry.Entry.TheVariants as entries
use Rattle.flash_machine.specs.Legal.{Legal}
use Rattle.flash_machine.specs.Live.{ends, label_has_ended}
use Rattle.flash_machine.specs.PageLabels.{label_step, page_label, is_label}
use Rattle.flash_machine.specs.Orderly.{IsOrderly, Orderly}
use Rattle.flash_machine.proofs.Same.{equal_labels}
use Rattle.flash_machine.proofs.Onward.{EachFrom-keeps}
use Rattle.flash_machine.proofs.EntrySteps.{read_off-one, list_any-one}
use Rattle.flash_machine.proofs.OrderlyRuns.{run_is_orderly}
use Rattle.flash_machine.proofs.RuleMeanings.{in_use, next_label}
use Rattle.flash_calls.specs.Placed.{WasOpened}

opened_inside : (pages : ℕ) (opened label : Label) (b : Bool) (found : Option Label) → opened.page < pages → (found ≡ Some label → label.page < pages) → cond b (Some opened) found ≡ Some label → label.page < pages
opened_inside pages opened label true found here was is = let one : opened ≡ label = cc is in subst (λ (l : Label). l.page < pages) one here
opened_inside pages opened label false found here was is = was is

freed_inside : (pages : ℕ) (label : Label) (b : Bool) (found : Option Label) → (found ≡ Some label → label.page < pages) → cond b None found ≡ Some label → label.page < pages
freed_inside pages label true found was is = absurd (cc is)
freed_inside pages label false found was is = was is

ended_inside : (pages : ℕ) (label ended : Label) (b : Bool) → (b ≡ true → label.page < pages) → ended.page < pages → (b || same_label ended label) ≡ true → label.page < pages
ended_inside pages label ended b was here is = elim (or_cases b (same_label ended label) is) [
  | inl one ↦ was one
  | inr other ↦ subst (λ (l : Label). l.page < pages) (equal_labels ended label other) here
]

or_no : (b : Bool) → (b || false) ≡ true → b ≡ true
or_no true is = is
or_no false is = is

that_label : (label : Label) (found : Option Label) → is_label label found ≡ true → found ≡ Some label
that_label label None is = absurd (cc is)
that_label label (Some other) is = subst (λ (l : Label). ◌≡◌ {A = Option Label} (Some l) (Some label)) (sym (equal_labels other label is)) refl

module _ (g : Geometry) where
  -- each label that a page has, or that has ended, is of one of the pages
  record AreInside (h : List Entry) : Type 0 where
    has : (page : ℕ) (label : Label) → page_label page h ≡ Some label → label.page < g.pages
    ended : (label : Label) → label_has_ended h (Some label) ≡ true → label.page < g.pages

  -- the same of what is read off
  record Inside (found : ℕ → Option Label) (has_ended : Label → Bool) : Type 0 where
    has : (page : ℕ) (label : Label) → found page ≡ Some label → label.page < g.pages
    ended : (label : Label) → has_ended label ≡ true → label.page < g.pages

  inside_step : (h : List Entry) (e : Entry) → IsOrderly g h e → AreInside h → Inside (λ page. label_step page (page_label page h) e) (λ label. label_has_ended h (Some label) || ends label e)
  inside_step h (entries.Opened opened) orderly was = record {
    has = λ page label is. opened_inside g.pages opened label (nat_eq opened.page page) (page_label page h) (next_label g h opened orderly).page (was.has page label) is;
    ended = λ label is. was.ended label (or_no (label_has_ended h (Some label)) is);
  }
  inside_step h (entries.Freed freed) orderly was = record {
    has = λ page label is. freed_inside g.pages label (nat_eq freed.page page) (page_label page h) (was.has page label) is;
    ended = λ label is. was.ended label (or_no (label_has_ended h (Some label)) is);
  }
  inside_step h (entries.Ended ended cause) orderly was = record {
    has = was.has;
    ended = λ label is. ended_inside g.pages label ended (label_has_ended h (Some label)) (was.ended label) (was.has ended.page ended (in_use h ended orderly).has) is;
  }
  inside_step h _ orderly was = record { has = was.has; ended = λ label is. was.ended label (or_no (label_has_ended h (Some label)) is) }

  inside_one : (h : List Entry) (e : Entry) → IsOrderly g h e → AreInside h → AreInside (h ++ e ∷ [])
  inside_one h e orderly was =
      let step = inside_step h e orderly was in record {
        has = λ page label is. step.has page label (sym (read_off-one (label_step page) None h e) ∙ is);
        ended = λ label is. step.ended label (sym (list_any-one (ends label) h e) ∙ is);
      }

  none_inside : AreInside []
  none_inside = record { has = λ page label is. absurd (cc is); ended = λ label is. absurd (cc is) }

  are_inside : (h : List Entry) → Orderly g h → AreInside h
  are_inside h orderly = EachFrom-keeps (IsOrderly g) AreInside inside_one [] h orderly none_inside

  -- a label that was opened is of one of the pages
  pub opened_page : (h : List Entry) → Legal g h → (label : Label) → WasOpened h label → label.page < g.pages
  opened_page h legal label was =
      let inside = are_inside h (run_is_orderly g h legal) in
      elim (or_cases (is_label label (page_label label.page h)) (label_has_ended h (Some label)) was) [
        | inl has ↦ inside.has label.page label (that_label label (page_label label.page h) has)
        | inr ended ↦ inside.ended label ended
      ]
