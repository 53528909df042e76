-- Versions of an orderly journal, and the labels of its pages.
use Rattle.std.proofs.Common.{◌≡◌, ℕ, ◌+◌, ◌<◌, ◌≤◌, Bool, true, false, cond, ◌||◌, List, [], ◌∷◌, ◌++◌, Option, None, Some, inl, inr, sym, ◌∙◌, ap, subst, arith, append_assoc}
use Rattle.std.specs.Prelude.{nat_eq}
use Rattle.std.proofs.lemmas.Bool.{or_cases, false_from_ne_true}
use Rattle.flash_names.specs.declared.place.Label.{Label}
use Rattle.flash_names.specs.declared.geometry.Geometry.{Geometry}
use Rattle.flash_names.specs.Labels.{same_label}
use Rattle.flash_entry.specs.declared.entry.Entry.{Entry}
use Rattle.flash_entry.specs.declared.entry.Entry.TheVariants as entries
use Rattle.flash_machine.specs.Live.{ends, label_has_ended}
use Rattle.flash_machine.specs.PageLabels.{label_step, page_label, version_step, last_version}
use Rattle.flash_machine.specs.Orderly.{IsOrderly, OrderlyFrom, Orderly}
use Rattle.flash_machine.specs.Splits.{journal_of_two}
use Rattle.flash_machine.specs.LabelLaws.{AreUpToLast}
use Rattle.flash_machine.proofs.Same.{equal_labels}
use Rattle.flash_machine.proofs.Onward.{EachFrom-keeps, EachFrom-split}
use Rattle.flash_machine.proofs.EntrySteps.{read_off-one, list_any-one}
use Rattle.flash_machine.proofs.RuleMeanings.{in_use, over, next_label}

-- no label that a page has, or that has ended, has a version above the last one
pub record AreWithin (h : List Entry) : Type 0 where
  pub has : (page : ℕ) (label : Label) → page_label page h ≡ Some label → label.version ≤ last_version h
  pub ended : (label : Label) → label_has_ended h (Some label) ≡ true → label.version ≤ last_version h

-- the same of what is read off
record Within (found : ℕ → Option Label) (has_ended : Label → Bool) (last : ℕ) : Type 0 where
  has : (page : ℕ) (label : Label) → found page ≡ Some label → label.version ≤ last
  ended : (label : Label) → has_ended label ≡ true → label.version ≤ last

opened_within : (opened label : Label) (b : Bool) (found : Option Label) (last : ℕ) → opened.version ≡ last + 1 → (found ≡ Some label → label.version ≤ last)
    → cond b (Some opened) found ≡ Some label → label.version ≤ opened.version
opened_within opened label true found last next was is = let one : opened ≡ label = cc is in omega (arith, ap (λ (l : Label). l.version) one)
opened_within opened label false found last next was is = omega (arith, was is, next)

freed_within : (label : Label) (b : Bool) (found : Option Label) (last : ℕ) → (found ≡ Some label → label.version ≤ last) → cond b None found ≡ Some label → label.version ≤ last
freed_within label true found last was is = absurd (cc is)
freed_within label false found last was is = was is

ended_within : (label ended : Label) (b : Bool) (last : ℕ) → (b ≡ true → label.version ≤ last) → ended.version ≤ last → (b || same_label ended label) ≡ true → label.version ≤ last
ended_within label ended b last was within is = elim (or_cases b (same_label ended label) is) [
  | inl one ↦ was one
  | inr other ↦ omega (arith, within, ap (λ (l : Label). l.version) (equal_labels ended label other))
]

or_no : (b : Bool) → (b || false) ≡ true → b ≡ true
or_no true is = is
or_no false is = is

module _ (g : Geometry) where
  within_step : (h : List Entry) (e : Entry) → IsOrderly g h e → AreWithin h
      → Within (λ page. label_step page (page_label page h) e) (λ label. label_has_ended h (Some label) || ends label e) (version_step (last_version h) e)
  within_step h (entries.Opened opened) orderly was =
      let next = next_label g h opened orderly in record {
        has = λ page label is. opened_within opened label (nat_eq opened.page page) (page_label page h) (last_version h) next.version (was.has page label) is;
        ended = λ label is. omega (arith, was.ended label (or_no (label_has_ended h (Some label)) is), next.version);
      }
  within_step h (entries.Freed freed) orderly was = record {
    has = λ page label is. freed_within label (nat_eq freed.page page) (page_label page h) (last_version h) (was.has page label) is;
    ended = λ label is. was.ended label (or_no (label_has_ended h (Some label)) is);
  }
  within_step h (entries.Ended ended cause) orderly was = record {
    has = was.has;
    ended = λ label is. ended_within label ended (label_has_ended h (Some label)) (last_version h) (was.ended label) (was.has ended.page ended (in_use h ended orderly).has) is;
  }
  within_step h _ orderly was = record { has = was.has; ended = λ label is. was.ended label (or_no (label_has_ended h (Some label)) is) }

  within_one : (h : List Entry) (e : Entry) → IsOrderly g h e → AreWithin h → AreWithin (h ++ e ∷ [])
  within_one h e orderly was =
      let step = within_step h e orderly was in
      let last : last_version (h ++ e ∷ []) ≡ version_step (last_version h) e = read_off-one version_step 0 h e in record {
        has = λ page label is. subst (λ (n : ℕ). label.version ≤ n) (sym last) (step.has page label (sym (read_off-one (label_step page) None h e) ∙ is));
        ended = λ label is. subst (λ (n : ℕ). label.version ≤ n) (sym last) (step.ended label (sym (list_any-one (ends label) h e) ∙ is));
      }

  none_within : AreWithin []
  none_within = record { has = λ page label is. absurd (cc is); ended = λ label is. absurd (cc is) }

  pub are_within : (h : List Entry) → Orderly g h → AreWithin h
  are_within h orderly = EachFrom-keeps (IsOrderly g) AreWithin within_one [] h orderly none_within

  -- the last version never falls
  version_up : (h : List Entry) (e : Entry) → IsOrderly g h e → last_version h ≤ version_step (last_version h) e
  version_up h (entries.Opened opened) orderly = omega (arith, (next_label g h opened orderly).version)
  version_up h _ orderly = omega arith

  pub version_on : (h es : List Entry) → OrderlyFrom g h es → last_version h ≤ last_version (h ++ es)
  version_on h es orderly = EachFrom-keeps (IsOrderly g) (λ (j : List Entry). last_version h ≤ last_version j)
      (λ j e keeps was. subst (λ (n : ℕ). last_version h ≤ n) (sym (read_off-one version_step 0 j e)) (omega (arith, was, version_up j e keeps))) h es orderly (omega arith)

  -- a label that is opened has the last version there
  pub opened_last : (h : List Entry) (label : Label) → last_version (h ++ entries.Opened label ∷ []) ≡ label.version
  opened_last h label = read_off-one version_step 0 h (entries.Opened label)

  pub opened_up_to_last : (before after : List Entry) (label : Label) → Orderly g (before ++ entries.Opened label ∷ after)
      → label.version ≤ last_version (before ++ entries.Opened label ∷ after)
  opened_up_to_last before after label orderly =
      let opened = before ++ entries.Opened label ∷ [] in
      let behind = (EachFrom-split (IsOrderly g) before (entries.Opened label ∷ after) orderly).1.1 in
      subst (λ (j : List Entry). label.version ≤ last_version j) (append_assoc before (entries.Opened label ∷ []) after)
      (omega (arith, opened_last before label, version_on opened after behind))

  pub are_up_to_last : (h : List Entry) → Orderly g h → AreUpToLast h
  are_up_to_last h orderly =
      let within = are_within h orderly in record {
        has = within.has;
        opened = λ before after label is.
            subst (λ (j : List Entry). label.version ≤ last_version j) (sym is) (opened_up_to_last before after label (subst (Orderly g) is orderly));
        ended = within.ended;
      }

  -- what is opened after a journal has a greater version than all that is in it
  pub opened_above : (h after : List Entry) (opened label : Label) → Orderly g (h ++ entries.Opened opened ∷ after) → label.version ≤ last_version h → label.version < opened.version
  opened_above h after opened label orderly within =
      let next = next_label g h opened (EachFrom-split (IsOrderly g) h (entries.Opened opened ∷ after) orderly).1.0 in omega (arith, within, next.version)

  pub versions_rise : (before between after : List Entry) (first second : Label) → Orderly g (journal_of_two before (entries.Opened first) between (entries.Opened second) after)
      → first.version < second.version
  versions_rise before between after first second orderly =
      let h = before ++ entries.Opened first ∷ between in
      let front = (EachFrom-split (IsOrderly g) h (entries.Opened second ∷ after) orderly).0 in
      opened_above h after second first orderly (opened_up_to_last before between first front)

  pub later_than_freed : (before between after : List Entry) (freed opened : Label) → Orderly g (journal_of_two before (entries.Freed freed) between (entries.Opened opened) after)
      → freed.version < opened.version
  later_than_freed before between after freed opened orderly =
      let h = before ++ entries.Freed freed ∷ between in
      let front = (EachFrom-split (IsOrderly g) h (entries.Opened opened ∷ after) orderly).0 in
      let parts = EachFrom-split (IsOrderly g) before (entries.Freed freed ∷ between) front in
      let within = (are_within before parts.0).has freed.page freed (over before freed parts.1.0).has in
      opened_above h after opened freed orderly (omega (arith, within, version_on before (entries.Freed freed ∷ between) parts.1))

  pub ends_after_opening : (before after : List Entry) (label : Label) → Orderly g (before ++ entries.Opened label ∷ after) → label_has_ended before (Some label) ≡ false
  ends_after_opening before after label orderly =
      let front = (EachFrom-split (IsOrderly g) before (entries.Opened label ∷ after) orderly).0 in
      false_from_ne_true (label_has_ended before (Some label))
      (λ ended. omega (arith, opened_above before after label label orderly ((are_within before front).ended label ended)))
