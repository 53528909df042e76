-- Entries of steps, each at its reading of the clock, as journal and readings go on.
use Rattle.std.proofs.Common.{◌≡◌, ℕ, ◌+◌, ◌-◌, ◌≤◌, zero, suc, List, [], ◌∷◌, ◌++◌, length, Some, refl, sym, ◌∙◌, ap, subst, append_assoc, arith}
use Rattle.std.specs.Prelude.{min, slice_get}
use Rattle.std.proofs.lemmas.List.{append-nil, length-append}
use Rattle.flash_names.specs.declared.place.Id.{Id}
use Rattle.flash_names.specs.declared.geometry.Geometry.{Geometry}
use Rattle.flash_entry.specs.declared.ask.Ask.{Ask}
use Rattle.flash_entry.specs.declared.entry.Entry.{Entry}
use Rattle.flash_machine.specs.Cache.{Cache, first_cache}
use Rattle.flash_machine.specs.Moments.{last_moment}
use Rattle.flash_machine.specs.Steps.{next, cache_from, cache_of}
use Rattle.flash_answers.specs.Records.{entry_ask, AreOfOthers}
use Rattle.flash_actors.specs.Timing.{AreOnTime, AreRead}

module _ {A : Type 0} where
  -- a place in a list is one in the list with more after it
  pub get_front : (xs ys : List A) (i : ℕ) (x : A) → slice_get xs i ≡ Some x → slice_get (xs ++ ys) i ≡ Some x
  get_front [] ys i x is = absurd (cc is)
  get_front (y ∷ xs) ys zero x is = is
  get_front (y ∷ xs) ys (suc i) x is = get_front xs ys i x is

  pub get_seam : (xs : List A) (x : A) → slice_get (xs ++ x ∷ []) (length xs) ≡ Some x
  get_seam [] x = refl
  get_seam (y ∷ xs) x = get_seam xs x

module _ (g : Geometry) (n k : ℕ) where
  -- entries on time, and more of them after
  on_time-append : (all : List ℕ) (h : List Entry) (c : Cache) (xs ys : List Entry) → AreOnTime g n k all h c xs → AreOnTime g n k all (h ++ xs) (cache_from g h c xs) ys → AreOnTime g n k all h c (xs ++ ys)
  on_time-append all h c [] ys first after = subst (λ (j : List Entry). AreOnTime g n k all j c ys) (append-nil h) after
  on_time-append all h c (x ∷ xs) ys first after = (
    first.0,
    on_time-append all (h ++ x ∷ []) (next g h c x) xs ys first.1
        (subst (λ (j : List Entry). AreOnTime g n k all j (cache_from g (h ++ x ∷ []) (next g h c x) xs) ys) (sym (append_assoc h (x ∷ []) xs)) after),
  )

  -- with more readings they stay so
  on_time_more : (all more : List ℕ) (h : List Entry) (c : Cache) (es : List Entry) → AreOnTime g n k all h c es → AreOnTime g n k (all ++ more) h c es
  on_time_more all more h c [] on = tt
  on_time_more all more h c (e ∷ es) on = (
    λ step asked mine. let one = on.0 step asked mine in (one.0, get_front all more (k + (step.0.seq - 1)) one.0 one.1, one.2),
    on_time_more all more (h ++ e ∷ []) (next g h c e) es on.1,
  )

  -- others are never late
  pub others_on_time : (all : List ℕ) (h : List Entry) (c : Cache) (es : List Entry) → AreOfOthers n es → AreOnTime g n k all h c es
  others_on_time all h c [] others = tt
  others_on_time all h c (e ∷ es) others = (λ step asked mine. absurd (others.0 step asked mine), others_on_time all (h ++ e ∷ []) (next g h c e) es others.1)

  -- entries of others, and a reading for none
  pub read_others : (last : ℕ) (all : List ℕ) (h es : List Entry) → AreOfOthers n es → AreRead g n last k h all → AreRead g n last k (h ++ es) all
  read_others last all h es others read = record {
    count = read.count;
    timed = on_time-append all [] first_cache h es read.timed (others_on_time all h (cache_of g h) es others);
  }

  -- a reading without an entry
  pub read_none : (last reading : ℕ) (all : List ℕ) (h : List Entry) → AreRead g n last k h all → AreRead g n (last + 1) k h (all ++ reading ∷ [])
  read_none last reading all h read = record {
    count = length-append all (reading ∷ []) ∙ omega (arith, read.count);
    timed = on_time_more all (reading ∷ []) [] first_cache h read.timed;
  }

  -- a step's own entry, at its reading
  pub read_own : (last reading : ℕ) (all : List ℕ) (h : List Entry) (ask : Ask) (e : Entry) → entry_ask e ≡ Some (record { pass = n; seq = last + 1 }, ask) → min reading last_moment ≤ (cache_of g h).now
      → AreRead g n last k h all → AreRead g n (last + 1) k (h ++ e ∷ []) (all ++ reading ∷ [])
  read_own last reading all h ask e asked moment read =
      let now = all ++ reading ∷ [] in
      let id : Id = record { pass = n; seq = last + 1 } in
      let before = read_none last reading all h read in
      let place : k + (last + 1 - 1) ≡ length all = omega (arith, read.count) in
      let at : slice_get now (k + (last + 1 - 1)) ≡ Some reading = ap (slice_get now) place ∙ get_seam all reading in
      record {
        count = before.count;
        timed = on_time-append now [] first_cache h (e ∷ []) before.timed (
          λ step is mine.
              let same : (id, ask) ≡ step = cc (asked, is) in
              subst (λ (s : Id × Ask). (r : ℕ) × (slice_get now (k + (s.0.seq - 1)) ≡ Some r) × (min r last_moment ≤ (cache_of g h).now)) same (reading, at, moment),
          tt,
        );
      }
