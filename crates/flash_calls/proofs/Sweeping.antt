-- A sweep meets its rules, and after it the key's live item is what the heads have under the key.
use Rattle.std.proofs.Common.{◌≡◌, ℕ, Bool, true, false, ◌&&◌, not, List, [], ◌∷◌, ◌++◌, Option, None, Some, if◌then◌else◌, refl, sym, ◌∙◌, ap, subst}
use Rattle.std.specs.List.{AllByRecursion}
use Rattle.std.specs.FinMap as finite
use Rattle.std.proofs.lemmas.List.{append-nil}
use Rattle.flash_names.specs.declared.place.Id.{Id}
use Rattle.flash_names.specs.declared.place.Place.{Place}
use Rattle.flash_names.specs.declared.geometry.Geometry.{Geometry}
use Rattle.flash_entry.specs.declared.entry.DropCause.{DropCause}
use Rattle.flash_entry.specs.declared.entry.DropCause.TheVariants as causes
use Rattle.flash_entry.specs.declared.entry.Entry.{Entry}
use Rattle.flash_entry.specs.declared.entry.Entry.TheVariants as entries
use Rattle.flash_machine.specs.Item.{Item}
use Rattle.flash_machine.specs.Cache.{Cache}
use Rattle.flash_machine.specs.Live.{is_expired_item, is_live, label_has_ended, passing_item, live_item}
use Rattle.flash_machine.specs.Legal.{AllHold, Meets}
use Rattle.flash_machine.specs.NewSteps.{IsNew, IsEarlier, step_id}
use Rattle.flash_machine.specs.Rules.{drop_rules}
use Rattle.flash_machine.proofs.Meeting.{dead_meets}
use Rattle.flash_index.proofs.Lookups.{cut_here}
use Rattle.flash_calls.specs.Placed.{IsPlaced, WasOpened, ArePlaced, AreOpened}
use Rattle.flash_calls.specs.Paged.{ArePaged}
use Rattle.flash_calls.specs.Places.{place_has_ended}
use Rattle.flash_calls.specs.Store.{Desk, Call}
use Rattle.flash_calls.specs.Sweeps.{is_expired_at, cause_of, sweep_cause, sweep_step, sweep}
use Rattle.flash_calls.proofs.Ending.{ended_by_place}
use Rattle.flash_calls.proofs.Goes.{Goes, goes_one}
use Rattle.flash_calls.proofs.Quiet.{AreQuiet, all_behind}

-- a step's number stays new behind entries that record no step of its pass
pub new_behind : (h : List Entry) (id : Id) (es : List Entry) → IsNew h id → AllByRecursion (λ e. IsEarlier id (step_id e)) es → IsNew (h ++ es) id
new_behind h id es new earlier = record { pass = new.pass; seq = all_behind (λ e. IsEarlier id (step_id e)) h es new.seq earlier }

-- an item whose label has ended may be dropped
ended_meets : (g : Geometry) (h : List Entry) (c : Cache) (key : List ℕ) (item : Item) → finite.get c.items key ≡ Some item → label_has_ended h item.label ≡ true → Meets g h c (entries.Dropped key causes.Ended)
ended_meets g h c key item there ended = subst (λ (found : Option Item). AllHold (drop_rules g h c key causes.Ended found)) (sym there) (refl, (ended, tt))

module _ (g : Geometry) (h : List Entry) (c : Cache) (desk : Desk) (key : List ℕ) where
  -- what is under the key, and where its value is
  record Under (found : Option Item) (place : Option Place) : Type 0 where
    there : finite.get c.items key ≡ found
    placed : IsPlaced key found place
    opened : (p : Place) → place ≡ Some p → WasOpened h p.label

  module _ (paged : ArePaged g h desk.blocks.pages) where
    abbrev HasCause : Option DropCause → Type 0
    HasCause cause = (one : DropCause) → cause ≡ Some one → Meets g h c (entries.Dropped key one)

    -- each cause of a sweep is one
    meets_by : (found : Option Item) (place : Option Place) (dead ended : Bool) → Under found place → is_expired_at c found ≡ dead → place_has_ended desk.blocks.pages place ≡ ended → HasCause (cause_of dead ended)
    meets_by found place false false under expired gone one is = absurd (cc is)
    meets_by None place true ended under expired gone one is = absurd (cc expired)
    meets_by (Some item) place true ended under expired gone one is =
        let same : causes.Dead ≡ one = cc is in subst (λ (cause : DropCause). Meets g h c (entries.Dropped key cause)) same (dead_meets g h c key item under.there expired)
    meets_by None None false true under expired gone one is = absurd (cc gone)
    meets_by None (Some p) false true under expired gone one is = absurd under.placed
    meets_by (Some item) place false true under expired gone one is =
        let same : causes.Ended ≡ one = cc is in
        let over : label_has_ended h item.label ≡ true = sym (ended_by_place g h desk.blocks.pages paged key item place under.placed under.opened) ∙ gone in
        subst (λ (cause : DropCause). Meets g h c (entries.Dropped key cause)) same (ended_meets g h c key item under.there over)

    -- without a cause the item is live
    alive : (item : Item) → is_expired_item c item ≡ false → label_has_ended h item.label ≡ false → passing_item (is_live h c) (Some item) ≡ Some item
    alive item young used = λ j. if not (young j) && not (used j) then Some item else None

    live_by : (found : Option Item) (place : Option Place) → Under found place → is_expired_at c found ≡ false → place_has_ended desk.blocks.pages place ≡ false → passing_item (is_live h c) found ≡ found
    live_by None place under young used = refl
    live_by (Some item) place under young used =
        alive item young (sym (ended_by_place g h desk.blocks.pages paged key item place under.placed under.opened) ∙ used)

    no_cause : (dead ended : Bool) → cause_of dead ended ≡ None → (dead ≡ false) × (ended ≡ false)
    no_cause true ended is = absurd (cc is)
    no_cause false true is = absurd (cc is)
    no_cause false false is = (refl, refl)

  -- what a sweep is, by its cause
  pub record Sweeps (call : Call Bool) : Type 0 where
    pub goes : Goes g h c call.entries call.cache
    pub quiet : AreQuiet call.entries
    pub live : live_item (h ++ call.entries) call.cache key ≡ finite.get call.cache.items key
    pub new : (id : Id) → IsNew h id → IsNew (h ++ call.entries) id

  sweeps_by : (cause : Option DropCause) → ((one : DropCause) → cause ≡ Some one → Meets g h c (entries.Dropped key one)) → (cause ≡ None → live_item h c key ≡ finite.get c.items key)
      → Sweeps (sweep_step c desk key cause)
  sweeps_by None meets live = record {
    goes = record { legal = tt; makes = refl };
    quiet = tt;
    live = ap (λ (j : List Entry). live_item j c key) (append-nil h) ∙ live refl;
    new = λ id new. subst (λ (j : List Entry). IsNew j id) (sym (append-nil h)) new;
  }
  sweeps_by (Some cause) meets live =
      let after = (sweep_step c desk key (Some cause)).cache in record {
        goes = goes_one g h c after (entries.Dropped key cause) (meets cause refl) refl;
        quiet = (tt, tt);
        live = ap (passing_item (is_live (h ++ entries.Dropped key cause ∷ []) after)) (cut_here c.items key) ∙ sym (cut_here c.items key);
        new = λ id new. new_behind h id (entries.Dropped key cause ∷ []) new (tt, tt);
      }

  module _ (placed : ArePlaced c.items desk.places) (opened : AreOpened h desk.places) (paged : ArePaged g h desk.blocks.pages) where
    under : Under (finite.get c.items key) (finite.get desk.places key)
    under = record { there = refl; placed = placed key; opened = opened key }

    -- each cause for which a sweep drops the item
    pub cause_meets : (cause : DropCause) → sweep_cause c desk key ≡ Some cause → Meets g h c (entries.Dropped key cause)
    cause_meets = meets_by paged (finite.get c.items key) (finite.get desk.places key) (is_expired_at c (finite.get c.items key)) (place_has_ended desk.blocks.pages (finite.get desk.places key)) under refl refl

    pub sweeps : Sweeps (sweep c desk key)
    sweeps = sweeps_by (sweep_cause c desk key) cause_meets (λ none.
        let no = no_cause paged (is_expired_at c (finite.get c.items key)) (place_has_ended desk.blocks.pages (finite.get desk.places key)) none in
        live_by paged (finite.get c.items key) (finite.get desk.places key) under no.0 no.1)
