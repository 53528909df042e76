-- What the keeper's calls do, one after another.
use Rattle.std.proofs.Common.{◌≡◌, ◌||◌, ℕ, Bool, true, false, List, [], ◌++◌, Option, None, Some, inl, inr, refl, sym, ◌∙◌, ap, subst}
use Rattle.std.specs.Prelude.{is_some}
use Rattle.std.proofs.lemmas.List.{append-nil}
use Rattle.std.proofs.lemmas.List.Elements.{filter_map-append}
use Rattle.flash_names.specs.Told.{with_more}
use Rattle.flash_names.specs.declared.geometry.Geometry.{Geometry}
use Rattle.flash_entry.specs.declared.entry.Entry.{Entry}
use Rattle.flash_machine.specs.Cache.{Cache}
use Rattle.flash_index.specs.KeyJuggle.{KeyMove, next_move, with_move}
use Rattle.flash_index.specs.Listed.{IsListed}
use Rattle.flash_calls.specs.Rooms.{Leaver, drop_if, to_evict, room_call, to_reap, reap_call, juggle_call}
use Rattle.flash_calls.specs.Store.{Desk, Store, Call, idle_call, Becomes, Stays}
use Rattle.flash_core.specs.SharedStore.{Face, face_of, step_pair, step_pairs, told_pairs}
use Rattle.flash_actors.specs.declared.keeper.KeeperStep.{KeeperStep}
use Rattle.flash_actors.specs.declared.keeper.KeeperStep.TheVariants as steps
use Rattle.flash_actors.specs.Keeping.{tidy_after, tidy_call, keep_after, keeper_call, step_of, Leaves, HasKept}
use Rattle.flash_actors.proofs.Evicting.{more_both, more_none}
use Rattle.flash_actors.proofs.Differing.{keeper_differs}

-- where neither is so
neither : (a b : Bool) → (a || b) ≡ false → (a ≡ false) × (b ≡ false)
neither true b is = absurd (cc is)
neither false b is = (refl, is)

-- a call after another is a call of both
both_become : {A B C : Type 0} (old mid new : Store) (one : Call A) (two : Call B) (both : Call C) → Becomes old one mid → Becomes mid two new
    → with_more two.entries (with_more one.entries old.told) ≡ with_more both.entries old.told → two.cache ≡ both.cache → two.desk ≡ both.desk → Becomes old both new
both_become old mid new one two both first second entries cache desk =
    second
    ∙ ap (λ (s : Store). record s { told = with_more two.entries s.told; ready = new.ready; cache = two.cache; desk = two.desk }) first
    ∙ ap (λ (t : Option (List Entry)). record old { told = t; ready = new.ready; cache = two.cache; desk = two.desk }) entries
    ∙ ap (λ (c : Cache). record old { told = with_more both.entries old.told; ready = new.ready; cache = c; desk = two.desk }) cache
    ∙ ap (λ (d : Desk). record old { told = with_more both.entries old.told; ready = new.ready; cache = both.cache; desk = d }) desk

pub become_tidy : (old a b : Store) → Becomes old (reap_call old.cache old.desk) a → Becomes a (juggle_call a.geometry a.cache a.desk) b
    → Becomes old (tidy_call old.geometry old.cache old.desk) b
become_tidy old a b first second =
    let reaped = reap_call old.cache old.desk in
    let juggled = juggle_call old.geometry reaped.cache reaped.desk in
    let there : Becomes a juggled b = subst (λ (s : Store). Becomes a (juggle_call s.geometry s.cache s.desk) b) first second in
    both_become old a b reaped juggled (tidy_call old.geometry old.cache old.desk) first there (more_both reaped.entries juggled.entries old.told) refl refl

pub become_kept : (old b new : Store) → Becomes old (tidy_call old.geometry old.cache old.desk) b → Becomes b (room_call b.geometry b.cache b.desk) new
    → Becomes old (keeper_call old.geometry old.cache old.desk) new
become_kept old b new first second =
    let tidied = tidy_call old.geometry old.cache old.desk in
    let roomed = room_call old.geometry tidied.cache tidied.desk in
    let there : Becomes b roomed new = subst (λ (s : Store). Becomes b (room_call s.geometry s.cache s.desk) new) first second in
    both_become old b new tidied roomed (keeper_call old.geometry old.cache old.desk) first there (more_both tidied.entries roomed.entries old.told) refl refl

-- what a call leaves
leaves : {A : Type 0} (old new : Store) (call : Call A) → Becomes old call new → Leaves call old.told new.told (face_of new)
leaves old new call is = (ap (λ (s : Store). s.told) is, ap face_of is)

-- a call that does nothing
idle_drop : (c : Cache) (desk : Desk) (leaver : Option Leaver) → is_some (drop_if c desk leaver).answer ≡ false
    → drop_if c desk leaver ≡ idle_call c desk None
idle_drop c desk None is = refl
idle_drop c desk (Some leaver) is = absurd (cc is)

module _ (g : Geometry) (c : Cache) (desk : Desk) where
  -- juggling without a move
  idle_move : (move : Option KeyMove) → is_some move ≡ false
      → record { entries = []; cache = c; desk = record desk { lists = with_move move desk.lists }; answer = is_some move } ≡ idle_call c desk false
  idle_move None none = refl
  idle_move (Some move) none = absurd (cc none)

  idle_tidy : (tidy_call g c desk).answer ≡ false → tidy_call g c desk ≡ idle_call c desk false
  idle_tidy is =
      let parts = neither (is_some (reap_call c desk).answer) _ is in
      let reaped : reap_call c desk ≡ idle_call c desk None = idle_drop c desk (to_reap c desk) parts.0 in
      let juggled : (juggle_call g c desk).answer ≡ false = ap (λ (call : Call (Option (List ℕ))). (juggle_call g call.cache call.desk).answer) (sym reaped) ∙ parts.1 in
      ap (tidy_after g) reaped ∙ idle_move (next_move g.memory desk.lists) juggled

  idle_keeper : (keeper_call g c desk).answer ≡ false → keeper_call g c desk ≡ idle_call c desk false
  idle_keeper is =
      let parts = neither (tidy_call g c desk).answer _ is in
      let tidied : tidy_call g c desk ≡ idle_call c desk false = idle_tidy parts.0 in
      let none : is_some (room_call g c desk).answer ≡ false = ap (λ (call : Call Bool). is_some (room_call g call.cache call.desk).answer) (sym tidied) ∙ parts.1 in
      let roomed : room_call g c desk ≡ idle_call c desk None = idle_drop c desk (to_evict g c desk) none in
      ap (keep_after g) tidied ∙ ap (λ (call : Call (Option (List ℕ))). record { entries = [] ++ call.entries; cache = call.cache; desk = call.desk; answer = false || is_some call.answer }) roomed

-- what the calls leave, by whether one of them did something
module _ (old new : Store) where
  kept_by : IsListed old.cache.items old.desk.lists → (done : Bool) → (keeper_call old.geometry old.cache old.desk).answer ≡ done
      → Becomes old (keeper_call old.geometry old.cache old.desk) new → HasKept (step_of done) old.geometry old.told (face_of old) new.told (face_of new)
  kept_by listed true is all =
      let after = leaves old new (keeper_call old.geometry old.cache old.desk) all in
      (is, after, keeper_differs old.geometry old.cache old.desk listed is (face_of new) after.1)
  kept_by listed false is all =
      let idle = idle_keeper old.geometry old.cache old.desk is in
      let after = leaves old new (idle_call old.cache old.desk false)
      (subst (λ (call : Call Bool). Becomes old call new) idle all) in
      (is, after.0 ∙ sym (more_none old.told), after.1)

  pub kept_all : IsListed old.cache.items old.desk.lists → (a b : Store) (step : KeeperStep) (reaped roomed : Option (List ℕ)) (juggled : Bool)
      → Becomes old (reap_call old.cache old.desk) a → Becomes a (juggle_call a.geometry a.cache a.desk) b
      → Becomes b (room_call b.geometry b.cache b.desk) new → step ≡ step_of ((is_some reaped || juggled) || is_some roomed)
      → reaped ≡ (reap_call old.cache old.desk).answer → juggled ≡ (juggle_call a.geometry a.cache a.desk).answer
      → roomed ≡ (room_call b.geometry b.cache b.desk).answer
      → HasKept step old.geometry old.told (face_of old) new.told (face_of new)
  kept_all listed a b step reaped roomed juggled first second third is one two three =
      let tidied = become_tidy old a b first second in
      let tidy = tidy_call old.geometry old.cache old.desk in
      let r = (reap_call old.cache old.desk) in
      let juggled_is : juggled ≡ (juggle_call old.geometry r.cache r.desk).answer = two ∙ ap (λ (s : Store). (juggle_call s.geometry s.cache s.desk).answer) first in
      let roomed_is : roomed ≡ (room_call old.geometry tidy.cache tidy.desk).answer = three ∙ ap (λ (s : Store). (room_call s.geometry s.cache s.desk).answer) tidied in
      let done : ((is_some reaped || juggled) || is_some roomed) ≡ (keeper_call old.geometry old.cache old.desk).answer =
      ap (λ (o : Option (List ℕ)). (is_some o || juggled) || is_some roomed) one ∙ ap (λ (b : Bool). (is_some r.answer || b) || is_some roomed) juggled_is
      ∙ ap (λ (o : Option (List ℕ)). tidy.answer || is_some o) roomed_is in
      subst (λ (k : KeeperStep). HasKept k old.geometry old.told (face_of old) new.told (face_of new)) (sym (is ∙ ap step_of done))
      (kept_by listed (keeper_call old.geometry old.cache old.desk).answer refl (become_kept old b new tidied third))

  -- where making room found no memory
  pub kept_tidy : (a b : Store) (step : KeeperStep) → Becomes old (reap_call old.cache old.desk) a → Becomes a (juggle_call a.geometry a.cache a.desk) b
      → Stays b new → step ≡ steps.NoMemory → HasKept step old.geometry old.told (face_of old) new.told (face_of new)
  kept_tidy a b step first second stays is =
      let tidied = become_tidy old a b first second in
      let after = leaves old b (tidy_call old.geometry old.cache old.desk) tidied in
      let both : Leaves (tidy_call old.geometry old.cache old.desk) old.told new.told (face_of new) =
      (ap (λ (s : Store). s.told) stays ∙ after.0, ap face_of stays ∙ after.1) in
      subst (λ (k : KeeperStep). HasKept k old.geometry old.told (face_of old) new.told (face_of new)) (sym is) (inr both)

-- the calls record no step
dropped_pairs : (c : Cache) (desk : Desk) (leaver : Option Leaver) → step_pairs (drop_if c desk leaver).entries ≡ []
dropped_pairs c desk None = refl
dropped_pairs c desk (Some leaver) = refl

no_pairs_more : (es : List Entry) (told after : Option (List Entry)) → step_pairs es ≡ [] → after ≡ with_more es told → told_pairs after ≡ told_pairs told
no_pairs_more es None after none is = ap told_pairs is
no_pairs_more es (Some h) after none is =
    ap told_pairs is ∙ filter_map-append step_pair h es ∙ ap (λ (l : List (ℕ × Entry)). step_pairs h ++ l) none ∙ append-nil (step_pairs h)

module _ (g : Geometry) (c : Cache) (desk : Desk) where
  tidy_pairs : step_pairs (tidy_call g c desk).entries ≡ []
  tidy_pairs =
      filter_map-append step_pair (reap_call c desk).entries [] ∙ append-nil (step_pairs (reap_call c desk).entries)
      ∙ dropped_pairs c desk (to_reap c desk)

  keeper_pairs : step_pairs (keeper_call g c desk).entries ≡ []
  keeper_pairs =
      let tidied = tidy_call g c desk in
      let roomed = room_call g tidied.cache tidied.desk in
      filter_map-append step_pair tidied.entries roomed.entries ∙ ap (λ (l : List (ℕ × Entry)). l ++ step_pairs roomed.entries) tidy_pairs
      ∙ dropped_pairs tidied.cache tidied.desk (to_evict g tidied.cache tidied.desk)

pub kept_pairs : (step : KeeperStep) (g : Geometry) (told : Option (List Entry)) (face : Face) (told_after : Option (List Entry)) (after : Face)
    → HasKept step g told face told_after after → told_pairs told_after ≡ told_pairs told
kept_pairs steps.Stepped g told face told_after after kept =
    no_pairs_more (keeper_call g face.cache face.desk).entries told told_after (keeper_pairs g face.cache face.desk) kept.1.0
kept_pairs steps.Idle g told face told_after after kept = ap told_pairs kept.1
kept_pairs steps.NoMemory g told face told_after after (inl same) = ap told_pairs same.0
kept_pairs steps.NoMemory g told face told_after after (inr tidied) =
    no_pairs_more (tidy_call g face.cache face.desk).entries told told_after (tidy_pairs g face.cache face.desk) tidied.0
