-- What a store keeps goes on by drops that keep it within its memory, and by moves between its lists.
use Rattle.std.proofs.Common.{◌≡◌, ℕ, Bool, true, false, List, Option, None, Some, option_map, if◌then◌else◌, refl, sym, subst}
use Rattle.std.specs.Prelude.{nat_lt, IsSome}
use Rattle.std.specs.Option.{option_or}
use Rattle.std.specs.FinMap as finite
use Rattle.flash_names.specs.declared.geometry.Geometry.{Geometry}
use Rattle.flash_entry.specs.declared.entry.DropCause.{DropCause}
use Rattle.flash_entry.specs.declared.entry.DropCause.TheVariants as causes
use Rattle.flash_entry.specs.declared.entry.Entry.{Entry}
use Rattle.flash_entry.specs.declared.entry.Entry.TheVariants as entries
use Rattle.flash_machine.specs.Item.{Item}
use Rattle.flash_machine.specs.Cache.{Cache}
use Rattle.flash_machine.specs.Load.{load_of}
use Rattle.flash_machine.specs.Deleting.{without_item}
use Rattle.flash_machine.specs.Rules.{drop_rules}
use Rattle.flash_machine.specs.Legal.{AllHold, Meets}
use Rattle.flash_index.specs.KeyEnds.{last_key, last_out}
use Rattle.flash_calls.specs.Below.{Below}
use Rattle.flash_calls.specs.Rooms.{Leaver, drop_if, to_evict, room_call, if_swept, to_reap, reap_call, juggle_call}
use Rattle.flash_calls.specs.Running.{IsRunning, LeavesARun}
use Rattle.flash_calls.specs.Store.{Desk}
use Rattle.flash_calls.specs.Sweeps.{sweep_cause}
use Rattle.flash_calls.proofs.Goes.{goes_one}
use Rattle.flash_calls.proofs.Running.{without_leaves, IsQuietCall, leaves_a_run, stands_of}
use Rattle.flash_calls.proofs.Paging.{same_itself}
use Rattle.flash_calls.proofs.Standing.{stands_without}
use Rattle.flash_calls.proofs.Sweeping.{cause_meets}
use Rattle.flash_calls.proofs.Timing.{idle_quiet}

-- the first of three that there is
one_of : (P : Leaver → Type 0) (one two three : Option Leaver) → ((l : Leaver) → one ≡ Some l → P l) → ((l : Leaver) → two ≡ Some l → P l) → ((l : Leaver) → three ≡ Some l → P l)
    → (l : Leaver) → option_or one (option_or two three) ≡ Some l → P l
one_of P (Some key) two three first second third l is = first l is
one_of P None (Some key) three first second third l is = second l is
one_of P None None three first second third l is = third l is

key_of : (P : List ℕ → Type 0) (one two three : Option (List ℕ)) → ((k : List ℕ) → one ≡ Some k → P k) → ((k : List ℕ) → two ≡ Some k → P k) → ((k : List ℕ) → three ≡ Some k → P k)
    → (k : List ℕ) → option_or one (option_or two three) ≡ Some k → P k
key_of P (Some key) two three first second third k is = first k is
key_of P None (Some key) three first second third k is = second k is
key_of P None None three first second third k is = third k is

none_there : IsSome (let found : Option Item = None in found) → ⊥
none_there some = cc

evict_meets : (g : Geometry) (h : List Entry) (c : Cache) (key : List ℕ) (found : Option Item) → finite.get c.items key ≡ found → IsSome found → nat_lt g.memory (load_of c.items) ≡ true → Meets g h c (entries.Dropped key causes.Evict)
evict_meets g h c key None there some above = absurd (none_there some)
evict_meets g h c key (Some item) there some above =
    subst (λ (f : Option Item). AllHold (drop_rules g h c key causes.Evict f)) (sym there) (refl, (above, tt))

module _ (below : Below) (g : Geometry) (h : List Entry) (c : Cache) (desk : Desk) (was : IsRunning g h c desk) where
  abbrev MayLeave : Leaver → Type 0
  MayLeave leaver = Meets g h c (entries.Dropped leaver.key leaver.cause)

  -- a drop that meets its rules
  drop_quiet : (leaver : Option Leaver) → ((l : Leaver) → leaver ≡ Some l → MayLeave l) → IsQuietCall g h c desk (drop_if c desk leaver)
  drop_quiet None may = idle_quiet below g h c desk was None
  drop_quiet (Some leaver) may = record {
    goes = goes_one g h c (without_item c leaver.key) (entries.Dropped leaver.key leaver.cause) (may leaver refl) refl;
    quiet = (tt, tt);
    stands = stands_without below.blocks.order below.lists.put below.lists.removal below.lists.change leaver.key c.items desk (stands_of g h c desk was);
    leaves = without_leaves leaver.key desk;
  }

  -- making room
  last_meets : nat_lt g.memory (load_of c.items) ≡ true → (k : List ℕ) → last_out desk.lists ≡ Some k → Meets g h c (entries.Dropped k causes.Evict)
  last_meets above =
      key_of (λ k. Meets g h c (entries.Dropped k causes.Evict)) (last_key desk.lists.cold) (last_key desk.lists.warm) (last_key desk.lists.hot)
      (λ k at. evict_meets g h c k (finite.get c.items k) refl ((below.lists.last c.items desk.lists k was.listed).2 at) above)
      (λ k at. evict_meets g h c k (finite.get c.items k) refl ((below.lists.last c.items desk.lists k was.listed).1 at) above)
      (λ k at. evict_meets g h c k (finite.get c.items k) refl ((below.lists.last c.items desk.lists k was.listed).0 at) above)

  evict_by : (key : Option (List ℕ)) → ((k : List ℕ) → key ≡ Some k → Meets g h c (entries.Dropped k causes.Evict)) → (l : Leaver) → option_map (λ key. record { key = key; cause = causes.Evict }) key ≡ Some l → MayLeave l
  evict_by None meets l is = absurd (cc is)
  evict_by (Some key) meets l is = let one : record { key = key; cause = causes.Evict } ≡ l = cc is in subst MayLeave one (meets key refl)

  may_evict : (above : Bool) → nat_lt g.memory (load_of c.items) ≡ above → (l : Leaver)
      → (if above then option_map (λ key. record { key = key; cause = causes.Evict }) (last_out desk.lists) else None) ≡ Some l → MayLeave l
  may_evict false is l at = absurd (cc at)
  may_evict true is l at = evict_by (last_out desk.lists) (last_meets is) l at

  pub room_runs : LeavesARun g h (room_call g c desk)
  room_runs = leaves_a_run below.heads.known below.heads.head g h c desk (room_call g c desk) was
      (drop_quiet (to_evict g c desk) (may_evict (nat_lt g.memory (load_of c.items)) refl))

  -- reaping
  swept_by : (key : List ℕ) (cause : Option DropCause) → ((one : DropCause) → cause ≡ Some one → Meets g h c (entries.Dropped key one)) → (l : Leaver)
      → option_map (λ one. record { key = key; cause = one }) cause ≡ Some l → MayLeave l
  swept_by key None meets l is = absurd (cc is)
  swept_by key (Some cause) meets l is = let one : record { key = key; cause = cause } ≡ l = cc is in subst MayLeave one (meets cause refl)

  may_reap : (key : Option (List ℕ)) (l : Leaver) → if_swept c desk key ≡ Some l → MayLeave l
  may_reap None l is = absurd (cc is)
  may_reap (Some key) l is = swept_by key (sweep_cause c desk key) (cause_meets g h c desk key was.placed was.opened was.paged) l is

  pub reap_runs : LeavesARun g h (reap_call c desk)
  reap_runs = leaves_a_run below.heads.known below.heads.head g h c desk (reap_call c desk) was (drop_quiet (to_reap c desk)
      (one_of MayLeave (if_swept c desk (last_key desk.lists.cold)) (if_swept c desk (last_key desk.lists.warm)) (if_swept c desk (last_key desk.lists.hot))
      (may_reap (last_key desk.lists.cold)) (may_reap (last_key desk.lists.warm)) (may_reap (last_key desk.lists.hot))))

  -- juggling
  pub juggle_runs : LeavesARun g h (juggle_call g c desk)
  juggle_runs = leaves_a_run below.heads.known below.heads.head g h c desk (juggle_call g c desk) was (record {
    goes = record { legal = tt; makes = refl };
    quiet = tt;
    stands = record { listed = below.lists.moves c.items desk.lists g.memory was.listed; placed = was.placed; counted = was.counted; order = was.order };
    leaves = record { fewer = λ key place there. there; keeps = λ key item place held. held; size = refl; pages = same_itself desk.blocks.pages };
  })
