-- What an entry more makes of what is read off a journal.
use Rattle.std.proofs.Common.{◌≡◌, Bool, true, false, ◌||◌, List, [], ◌∷◌, ◌++◌, Option, None, refl, sym, ◌∙◌, ap, append_assoc}
use Rattle.std.specs.List.{list_any}
use Rattle.std.proofs.lemmas.List.{append-nil}
use Rattle.std.proofs.lemmas.List.Folds.{list_any-append}
use Rattle.flash_names.specs.declared.place.Id.{Id}
use Rattle.flash_names.specs.declared.geometry.Geometry.{Geometry}
use Rattle.flash_entry.specs.declared.entry.Close.{Close}
use Rattle.flash_entry.specs.declared.entry.Entry.{Entry}
use Rattle.flash_machine.specs.Cache.{Cache, first_cache}
use Rattle.flash_machine.specs.Live.{ends}
use Rattle.flash_machine.specs.ReadOff.{read_off}
use Rattle.flash_machine.specs.PageLabels.{label_step, version_step}
use Rattle.flash_machine.specs.Steps.{next, cache_from, cache_of}
use Rattle.flash_machine.specs.Writes.{open_write_step, last_write_step, ends_good_write}
use Rattle.flash_machine.specs.Written.{byte_step}
use Rattle.flash_machine.specs.Lookups.{Lookup, lookup_step, lookup_from, open_lookup, closing_of, closings_from, closings, is_from_buffer}
use Rattle.flash_machine.specs.DeviceReads.{read_step}
use Rattle.flash_machine.specs.ReadingOffLaws.{IsReadOff}

-- whatever is read off: what more entries make of it, they make one after the other
module _ {State : Type 0} (step : State → Entry → State) where
  pub read_off-append : (state : State) (xs ys : List Entry) → read_off step state (xs ++ ys) ≡ read_off step (read_off step state xs) ys
  read_off-append state [] ys = refl
  read_off-append state (x ∷ xs) ys = read_off-append (step state x) xs ys

  pub read_off-one : (state : State) (h : List Entry) (e : Entry) → read_off step state (h ++ e ∷ []) ≡ step (read_off step state h) e
  read_off-one state h e = read_off-append state h (e ∷ [])

-- a test of some entry, with one entry more
or_end : (a b : Bool) → (a || (b || false)) ≡ (a || b)
or_end true b = refl
or_end false true = refl
or_end false false = refl

pub list_any-one : (test : Entry → Bool) (h : List Entry) (e : Entry) → list_any test (h ++ e ∷ []) ≡ (list_any test h || test e)
list_any-one test h e = list_any-append test h (e ∷ []) ∙ or_end (list_any test h) (test e)

module _ (g : Geometry) where
  module _ (id : Id) where
    lookup_from-append : (h : List Entry) (c : Cache) (found : Option Lookup) (xs ys : List Entry)
        → lookup_from g id h c found (xs ++ ys) ≡ lookup_from g id (h ++ xs) (cache_from g h c xs) (lookup_from g id h c found xs) ys
    lookup_from-append h c found [] ys = ap (λ (j : List Entry). lookup_from g id j c found ys) (sym (append-nil h))
    lookup_from-append h c found (x ∷ xs) ys =
        let after = lookup_step id h c found x in
        lookup_from-append (h ++ x ∷ []) (next g h c x) after xs ys
        ∙ ap (λ (j : List Entry). lookup_from g id j (cache_from g (h ++ x ∷ []) (next g h c x) xs) (lookup_from g id (h ++ x ∷ []) (next g h c x) after xs) ys) (append_assoc h (x ∷ []) xs)

    pub open_lookup-append : (h es : List Entry) → open_lookup g id (h ++ es) ≡ lookup_from g id h (cache_of g h) (open_lookup g id h) es
    open_lookup-append h es = lookup_from-append [] first_cache None h es

  closings_from-append : (h xs ys : List Entry) → closings_from g h (xs ++ ys) ≡ closings_from g h xs ++ closings_from g (h ++ xs) ys
  closings_from-append h [] ys = ap (λ (j : List Entry). closings_from g j ys) (sym (append-nil h))
  closings_from-append h (x ∷ xs) ys =
      let first = closing_of g h x in
      let front = closings_from g (h ++ x ∷ []) xs in
      ap (λ (t : List (Lookup × Close)). first ++ t) (closings_from-append (h ++ x ∷ []) xs ys)
      ∙ ap (λ (j : List Entry). first ++ (front ++ closings_from g j ys)) (append_assoc h (x ∷ []) xs)
      ∙ sym (append_assoc first front (closings_from g (h ++ x ∷ xs) ys))

  pub closings-append : (h es : List Entry) → closings g (h ++ es) ≡ closings g h ++ closings_from g h es
  closings-append h es = closings_from-append [] h es

  pub is_read_off : (h : List Entry) (e : Entry) → IsReadOff g h e
  is_read_off h e = record {
    byte = λ page offset. read_off-one (byte_step page offset) None h e;
    write = read_off-one open_write_step None h e;
    outcome = λ label. read_off-one (last_write_step label) None h e;
    good = λ label offset. list_any-one (ends_good_write label offset) h e;
    label = λ page. read_off-one (label_step page) None h e;
    version = read_off-one version_step 0 h e;
    ended = λ label. list_any-one (ends label) h e;
    read = λ id. read_off-one (read_step id) None h e;
    buffer = λ id. list_any-one (is_from_buffer id) h e;
    lookup = λ id. open_lookup-append id h (e ∷ []);
    closed = closings-append h (e ∷ []) ∙ ap (λ (t : List (Lookup × Close)). closings g h ++ t) (append-nil (closing_of g h e));
  }
