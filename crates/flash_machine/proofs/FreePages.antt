-- The number of free pages, entry by entry.
use Rattle.std.proofs.Common.{◌≡◌, ℕ, zero, suc, ◌+◌, ◌<◌, ◌≤◌, Bool, true, false, cond, List, [], ◌∷◌, ◌++◌, Option, None, Some, inl, inr, refl, sym, ◌∙◌, ap, arith}
use Rattle.std.specs.Prelude.{nat_eq, is_none}
use Rattle.std.proofs.lemmas.Bool.{cases_eq, eqb-true, ne_eqb}
use Rattle.flash_names.specs.declared.place.Label.{Label}
use Rattle.flash_names.specs.declared.geometry.Geometry.{Geometry}
use Rattle.flash_entry.specs.declared.entry.Entry.{Entry}
use Rattle.flash_entry.specs.declared.entry.Entry.TheVariants as entries
use Rattle.flash_machine.specs.PageLabels.{label_step, page_label, one_if_free, free_below, free_pages}
use Rattle.flash_machine.specs.Orderly.{IsOrderly, Orderly}
use Rattle.flash_machine.specs.LabelLaws.{IsCountAfter}
use Rattle.flash_machine.proofs.Onward.{EachFrom-keeps}
use Rattle.flash_machine.proofs.EntrySteps.{read_off-one}
use Rattle.flash_machine.proofs.LabelRuns.{opened_has}
use Rattle.flash_machine.proofs.RuleMeanings.{over, next_label}
use Rattle.flash_machine.proofs.Same.{number_itself}

module _ (g : Geometry) where
  -- the label that a page has is of that page, which is one of the geometry's
  abbrev pub AreOwn : List Entry → Type 0
  AreOwn h = (page : ℕ) (label : Label) → page_label page h ≡ Some label → (label.page ≡ page) × (page < g.pages)

  opened_own : (h : List Entry) (opened : Label) (page : ℕ) (label : Label) (b : Bool) → nat_eq opened.page page ≡ b → opened.page < g.pages → AreOwn h
      → cond b (Some opened) (page_label page h) ≡ Some label → (label.page ≡ page) × (page < g.pages)
  opened_own h opened page label false at below was is = was page label is
  opened_own h opened page label true at below was is =
      let one : opened ≡ label = cc is in
      let same = eqb-true opened.page page at in (sym (ap (λ (l : Label). l.page) one) ∙ same, omega (arith, below, same))

  freed_own : (h : List Entry) (page : ℕ) (label : Label) (b : Bool) → AreOwn h → cond b None (page_label page h) ≡ Some label → (label.page ≡ page) × (page < g.pages)
  freed_own h page label false was is = was page label is
  freed_own h page label true was is = absurd (cc is)

  own_step : (h : List Entry) (e : Entry) → IsOrderly g h e → AreOwn h → (page : ℕ) (label : Label) → label_step page (page_label page h) e ≡ Some label → (label.page ≡ page) × (page < g.pages)
  own_step h (entries.Opened opened) orderly was = λ page label is. opened_own h opened page label (nat_eq opened.page page) refl (next_label g h opened orderly).page was is
  own_step h (entries.Freed freed) orderly was = λ page label is. freed_own h page label (nat_eq freed.page page) was is
  own_step h _ orderly was = was

  own_one : (h : List Entry) (e : Entry) → IsOrderly g h e → AreOwn h → AreOwn (h ++ e ∷ [])
  own_one h e orderly was page label is = own_step h e orderly was page label (sym (read_off-one (label_step page) None h e) ∙ is)

  pub are_own : (h : List Entry) → Orderly g h → AreOwn h
  are_own h orderly = EachFrom-keeps (IsOrderly g) AreOwn own_one [] h orderly (λ page label none. absurd (cc none))

-- pages below a number that have the same labels: as many of them are free
pub same_below : (n : ℕ) (h j : List Entry) → ((page : ℕ) → page < n → page_label page j ≡ page_label page h) → free_below n j ≡ free_below n h
same_below zero h j same = refl
same_below (suc n) h j same =
    let rest = same_below n h j (λ page below. same page (omega (arith, below))) in
    let one : one_if_free n j ≡ one_if_free n h = ap (λ (found : Option Label). cond (is_none found) 1 0) (same n (omega arith)) in
    omega (arith, rest, one)

-- one free page fewer, where one of them has a label now and the others have the same
pub one_fewer : (n : ℕ) (h j : List Entry) (p : ℕ) (label : Label) → p < n → page_label p h ≡ None → page_label p j ≡ Some label
    → ((page : ℕ) → (page ≡ p → ⊥) → page_label page j ≡ page_label page h) → free_below n j + 1 ≡ free_below n h
one_fewer zero h j p label below free has same = absurd (omega (arith, below))
one_fewer (suc n) h j p label below free has same = elim (cases_eq n p) [
  | inl at ↦
      let rest = same_below n h j (λ page less. same page (λ is. omega (arith, less, is, at))) in
      let was : one_if_free n h ≡ 1 = ap (λ (page : ℕ). one_if_free page h) at ∙ ap (λ (found : Option Label). cond (is_none found) 1 0) free in
      let now : one_if_free n j ≡ 0 = ap (λ (page : ℕ). one_if_free page j) at ∙ ap (λ (found : Option Label). cond (is_none found) 1 0) has in
      omega (arith, rest, was, now)
  | inr other ↦
      let apart : n ≡ p → ⊥ = other in
      let rest = one_fewer n h j p label (omega (arith, below, apart)) free has same in
      let one : one_if_free n j ≡ one_if_free n h = ap (λ (found : Option Label). cond (is_none found) 1 0) (same n other) in
      omega (arith, rest, one)
]

module _ (h : List Entry) (label : Label) where
  pub other_opened : (page : ℕ) → (page ≡ label.page → ⊥) → page_label page (h ++ entries.Opened label ∷ []) ≡ page_label page h
  other_opened page other =
      read_off-one (label_step page) None h (entries.Opened label)
      ∙ ap (λ (b : Bool). cond b (Some label) (page_label page h)) (ne_eqb label.page page (λ is. other (sym is)))

  pub other_freed : (page : ℕ) → (page ≡ label.page → ⊥) → page_label page (h ++ entries.Freed label ∷ []) ≡ page_label page h
  other_freed page other =
      read_off-one (label_step page) None h (entries.Freed label)
      ∙ ap (λ (b : Bool). cond b None (page_label page h)) (ne_eqb label.page page (λ is. other (sym is)))

  pub freed_has_none : page_label label.page (h ++ entries.Freed label ∷ []) ≡ None
  freed_has_none =
      read_off-one (label_step label.page) None h (entries.Freed label)
      ∙ ap (λ (b : Bool). cond b None (page_label label.page h)) (number_itself label.page)

pub kept_free : (g : Geometry) (h : List Entry) (e : Entry) → ((page : ℕ) → label_step page (page_label page h) e ≡ page_label page h) → free_pages g (h ++ e ∷ []) ≡ free_pages g h
kept_free g h e same = same_below g.pages h (h ++ e ∷ []) (λ page below. read_off-one (label_step page) None h e ∙ same page)

module _ (g : Geometry) where
  -- an opening takes a free page, a freeing gives one back, no other entry changes their number
  pub count_one : (h : List Entry) (e : Entry) → Orderly g h → IsOrderly g h e → IsCountAfter e (free_pages g h) (free_pages g (h ++ e ∷ []))
  count_one h (entries.Opened label) orderly keeps =
      let next = next_label g h label keeps in
      one_fewer g.pages h (h ++ entries.Opened label ∷ []) label.page label next.page next.free (opened_has g label h) (other_opened h label)
  count_one h (entries.Freed label) orderly keeps =
      let has = (over h label keeps).has in
      let fewer = one_fewer g.pages (h ++ entries.Freed label ∷ []) h label.page label (are_own g h orderly label.page label has).1 (freed_has_none h label) has (λ page other. sym (other_freed h label page other)) in
      sym fewer
  count_one h e orderly keeps = kept_free g h e (λ page. refl)

-- at first all pages are free
pub all_free : (n : ℕ) → free_below n [] ≡ n
all_free zero = refl
all_free (suc n) = omega (arith, all_free n)

at_most_one : (b : Bool) → cond b 1 0 ≤ 1
at_most_one true = omega arith
at_most_one false = omega arith

-- no more pages are free than there are
pub free_within : (n : ℕ) (h : List Entry) → free_below n h ≤ n
free_within zero h = omega arith
free_within (suc n) h = omega (arith, free_within n h, at_most_one (is_none (page_label n h)))
