-- What a step leaves of a session's answers, numbers, asks and readings.
use Rattle.std.proofs.Common.{◌≡◌, ℕ, ◌+◌, List, [], ◌∷◌, ◌++◌, None, Some, refl, sym, ◌∙◌, ap, subst, append_assoc, arith}
use Rattle.std.specs.Prelude.{slice_get}
use Rattle.std.specs.Option.{ForSome}
use Rattle.std.proofs.lemmas.List.{append-nil}
use Rattle.flash_names.specs.declared.place.Id.{Id}
use Rattle.flash_names.specs.declared.geometry.Geometry.{Geometry}
use Rattle.flash_entry.specs.declared.ask.Ask.{Ask}
use Rattle.flash_entry.specs.declared.entry.Entry.{Entry}
use Rattle.flash_entry.specs.declared.entry.Entry.TheVariants as entries
use Rattle.flash_entry.specs.declared.entry.DropCause.TheVariants as causes
use Rattle.flash_entry.specs.declared.found.Told.{Told}
use Rattle.flash_machine.specs.NewSteps.{IsNew}
use Rattle.flash_calls.proofs.Quiet.{all_behind}
use Rattle.flash_answers.specs.Outcomes.{outcome, outcomes}
use Rattle.flash_answers.specs.Records.{entry_ask, IsOf, AreOf, IsOneOf, AreOfOthers, AreOfNoStep, Keeps}
use Rattle.flash_actors.specs.Laws.{SessionLaws}
use Rattle.flash_actors.specs.Stepping.{IsNoted, IsEviction, IsStep}
use Rattle.flash_actors.specs.Timing.{AreRead}
use Rattle.flash_actors.proofs.OwnReads.{reads_unasked}
use Rattle.flash_actors.proofs.Others.{all_map, none_are_others, none_are_of, of_one, others_leave_outcomes, others_leave_numbers, others_leave_asks}
use Rattle.flash_actors.proofs.OnTime.{read_others, read_none, read_own}
use Rattle.flash_actors.proofs.Told.{told_by}

-- an eviction is of no step
evicts_none : (e : Entry) → IsEviction e → entry_ask e ≡ None
evicts_none (entries.Dropped key causes.Evict) is = refl
evicts_none _ is = absurd is

-- a step's own entry, and what is behind it, are of that step alone
own_of : (g : Geometry) (id : Id) (ask : Ask) (reading : ℕ) (told : Told) (front own : List Entry) → IsNoted g id ask reading told front own → AreOf id ask own
own_of g id ask reading told front [] noted = tt
own_of g id ask reading told front (e ∷ behind) noted = (of_one e (id, ask) noted.0.asked, none_are_of id ask behind (reads_unasked id behind noted.1))

-- the number after a step's is new
pub step_new : (laws : SessionLaws) (g : Geometry) (id : Id) (ask : Ask) (reading : ℕ) (told : Told) (h j : List Entry) → IsStep (AreOfOthers id.pass) g id ask reading told h j → IsNew h id
    → IsNew j (record { pass = id.pass; seq = id.seq + 1 })
step_new laws g id ask reading told h j step new =
    let front = h ++ step.more in
    let own = step.own in
    let next : Id = record { pass = id.pass; seq = id.seq + 1 } in
    let evicted = all_map IsEviction (λ e. entry_ask e ≡ None) evicts_none step.evicted step.room.each in
    let after = (laws.numbers front own).next id ask (own_of g id ask reading told front own step.noted) (others_leave_numbers laws.numbers id h step.more step.others new) in
    subst (λ (l : List Entry). IsNew l next) (append_assoc front own step.evicted ∙ sym step.whole) ((laws.numbers (front ++ own) step.evicted).none next evicted after)

module _ (laws : SessionLaws) (g : Geometry) (n last : ℕ) (ask : Ask) (reading : ℕ) (told : Told) where
  abbrev id : Id
  id = record { pass = n; seq = last + 1 }

  own_told : (front own : List Entry) → IsNoted g id ask reading told front own → IsNew front id → outcome g n (last + 1) (front ++ own) ≡ told
  own_told front [] noted new = ap (outcome g n (last + 1)) (append-nil front) ∙ laws.none g front id new ∙ sym noted
  own_told front (e ∷ behind) noted new = told_by g id front e behind told new noted.0.outcome

  own_keeps : (steps : List Ask) (own : List Entry) → AreOf id ask own → slice_get steps last ≡ Some ask → Keeps steps n own
  own_keeps steps own of is =
      all_map (IsOf id ask) (λ e. ForSome (entry_ask e) (IsOneOf n steps))
      (λ e one step asked. subst (IsOneOf n steps) (sym (one step asked)) (λ same. (omega arith, ap (slice_get steps) (omega arith) ∙ is))) own of

  own_read : (k : ℕ) (all : List ℕ) (front own : List Entry) → IsNoted g id ask reading told front own → AreRead g n last k front all → AreRead g n (last + 1) k (front ++ own) (all ++ reading ∷ [])
  own_read k all front [] noted read = subst (λ (j : List Entry). AreRead g n (last + 1) k j (all ++ reading ∷ [])) (sym (append-nil front)) (read_none g n k last reading all front read)
  own_read k all front (e ∷ behind) noted read =
      let now = all ++ reading ∷ [] in
      subst (λ (j : List Entry). AreRead g n (last + 1) k j now) (append_assoc front (e ∷ []) behind)
      (read_others g n k (last + 1) now (front ++ e ∷ []) behind (none_are_others n behind (reads_unasked id behind noted.1))
      (read_own g n k last reading all front ask e noted.0.asked noted.0.moment read))

  module _ (h j : List Entry) (step : IsStep (AreOfOthers n) g id ask reading told h j) where
    abbrev front : List Entry
    front = h ++ step.more

    abbrev own : List Entry
    own = step.own

    evicted : AreOfNoStep step.evicted
    evicted = all_map IsEviction (λ e. entry_ask e ≡ None) evicts_none step.evicted step.room.each

    parts : (front ++ own) ++ step.evicted ≡ j
    parts = append_assoc front own step.evicted ∙ sym step.whole

    -- the answer stands after those of the steps before
    pub step_told : IsNew h id → outcomes g n j (last + 1) ≡ outcomes g n h last ++ told ∷ []
    step_told new =
        let front_new = others_leave_numbers laws.numbers id h step.more step.others new in
        ap (λ (l : List Entry). outcomes g n l (last + 1)) (sym parts)
        ∙ (laws.outcomes g n (front ++ own) step.evicted).none (last + 1) evicted
        ∙ laws.order g n (front ++ own) last
        ∙ ap (λ (l : List Told). l ++ outcome g n (last + 1) (front ++ own) ∷ [])
        ((laws.outcomes g n front own).others last id ask (own_of g id ask reading told front own step.noted) (λ same. omega arith) ∙ others_leave_outcomes laws.outcomes g n last h step.more step.others)
        ∙ ap (λ (t : Told). outcomes g n h last ++ t ∷ []) (own_told front own step.noted front_new)

    -- the journal keeps to the asks, where it is one of them
    pub step_keeps : (steps : List Ask) → slice_get steps last ≡ Some ask → Keeps steps n h → Keeps steps n j
    step_keeps steps is keeps =
        let before = others_leave_asks steps n h step.more step.others keeps in
        let with_own = all_behind (λ e. ForSome (entry_ask e) (IsOneOf n steps)) front own before (own_keeps steps own (own_of g id ask reading told front own step.noted) is) in
        subst (Keeps steps n) parts (others_leave_asks steps n (front ++ own) step.evicted (none_are_others n step.evicted evicted) with_own)

    -- it was done at its reading
    pub step_read : (k : ℕ) (all : List ℕ) → AreRead g n last k h all → AreRead g n (last + 1) k j (all ++ reading ∷ [])
    step_read k all read =
        let before = read_others g n k last all h step.more step.others read in
        let with_own = own_read k all front own step.noted before in
        subst (λ (l : List Entry). AreRead g n (last + 1) k l (all ++ reading ∷ [])) parts
        (read_others g n k (last + 1) (all ++ reading ∷ []) (front ++ own) step.evicted (none_are_others n step.evicted evicted) with_own)
