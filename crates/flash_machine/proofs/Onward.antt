-- Lists of entries of which each fits what is before it: they join, and they part.
use Rattle.std.proofs.Common.{List, [], ◌∷◌, ◌++◌, sym, subst, append_assoc}
use Rattle.std.proofs.lemmas.List.{append-nil}
use Rattle.flash_entry.specs.declared.entry.Entry.{Entry}
use Rattle.flash_machine.specs.EachFrom.{EachFrom}

-- what each entry more keeps of a journal holds of all that go on from one of which it holds
pub each_journal : (Holds : List Entry → Type 0) → ((h : List Entry) (e : Entry) → Holds h → Holds (h ++ e ∷ [])) → (h es : List Entry) → Holds h → Holds (h ++ es)
each_journal Holds one h [] was = subst Holds (sym (append-nil h)) was
each_journal Holds one h (e ∷ es) was = subst Holds (append_assoc h (e ∷ []) es) (each_journal Holds one (h ++ e ∷ []) es (one h e was))

module _ (Fits : List Entry → Entry → Type 0) where
  -- entries that fit, and more after them
  pub EachFrom-append : (h xs ys : List Entry) → EachFrom Fits h xs → EachFrom Fits (h ++ xs) ys → EachFrom Fits h (xs ++ ys)
  EachFrom-append h [] ys first behind = subst (λ (j : List Entry). EachFrom Fits j ys) (append-nil h) behind
  EachFrom-append h (x ∷ xs) ys first behind =
      (first.0, EachFrom-append (h ++ x ∷ []) xs ys first.1 (subst (λ (j : List Entry). EachFrom Fits j ys) (sym (append_assoc h (x ∷ []) xs)) behind))

  -- the front of entries that fit
  pub EachFrom-front : (h xs ys : List Entry) → EachFrom Fits h (xs ++ ys) → EachFrom Fits h xs
  EachFrom-front h [] ys both = tt
  EachFrom-front h (x ∷ xs) ys both = (both.0, EachFrom-front (h ++ x ∷ []) xs ys both.1)

  -- and what is after it
  pub EachFrom-back : (h xs ys : List Entry) → EachFrom Fits h (xs ++ ys) → EachFrom Fits (h ++ xs) ys
  EachFrom-back h [] ys both = subst (λ (j : List Entry). EachFrom Fits j ys) (sym (append-nil h)) both
  EachFrom-back h (x ∷ xs) ys both =
      subst (λ (j : List Entry). EachFrom Fits j ys) (append_assoc h (x ∷ []) xs) (EachFrom-back (h ++ x ∷ []) xs ys both.1)

  -- a whole journal parts in two
  pub EachFrom-split : (h es : List Entry) → EachFrom Fits [] (h ++ es) → EachFrom Fits [] h × EachFrom Fits h es
  EachFrom-split h es both = (EachFrom-front [] h es both, EachFrom-back [] h es both)

  -- what each entry that fits keeps of a journal, a whole list keeps
  pub EachFrom-keeps : (Holds : List Entry → Type 0) → ((h : List Entry) (e : Entry) → Fits h e → Holds h → Holds (h ++ e ∷ []))
      → (h es : List Entry) → EachFrom Fits h es → Holds h → Holds (h ++ es)
  EachFrom-keeps Holds one h [] fit was = subst Holds (sym (append-nil h)) was
  EachFrom-keeps Holds one h (e ∷ es) fit was =
      subst Holds (append_assoc h (e ∷ []) es) (EachFrom-keeps Holds one (h ++ e ∷ []) es fit.1 (one h e fit.0 was))
