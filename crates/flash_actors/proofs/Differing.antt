-- Whatever the keeper does changes the store.
use Rattle.std.proofs.Common.{◌≡◌, ◌||◌, ℕ, Bool, true, false, cond, not, List, [], ◌∷◌, Option, None, Some, IsSome, inl, inr, refl, sym, ◌∙◌, ap, subst}
use Rattle.std.specs.Prelude.{is_some, nat_lt, option_map, if◌then◌else◌}
use Rattle.std.specs.List.{AllByRecursion}
use Rattle.std.specs.Option.{option_or}
use Rattle.std.specs.FinMap.{get, remove}
use Rattle.flash_names.specs.declared.geometry.Geometry.{Geometry}
use Rattle.flash_entry.specs.declared.entry.DropCause.{DropCause}
use Rattle.flash_entry.specs.declared.entry.DropCause.TheVariants as causes
use Rattle.flash_lru.specs.declared.segment.Segment.TheVariants.{Warm}
use Rattle.flash_lru.specs.Juggle.{goes_to}
use Rattle.flash_machine.specs.Cache.{Cache, Items}
use Rattle.flash_machine.specs.Load.{load_of}
use Rattle.flash_machine.specs.Deleting.{without_item}
use Rattle.flash_index.specs.KeyLists.{KeyCard, KeyLists, is_of, idle, without, moved}
use Rattle.flash_index.specs.KeyEnds.{last_card, last_key, last_out}
use Rattle.flash_index.specs.KeyJuggle.{KeyMove, from_full, from_cold, exceeds, next_move, with_move}
use Rattle.flash_index.specs.Listed.{IsListed}
use Rattle.flash_index.proofs.Passing.{all_by, last_passes}
use Rattle.flash_index.proofs.Lookups.{true_false, key_itself, cases_key, cut_here, cut_else}
use Rattle.flash_index.proofs.ListLaws.{move_listed, last_has_item}
use Rattle.flash_calls.specs.Rooms.{Leaver, drop_if, if_swept, to_reap}
use Rattle.flash_calls.specs.Store.{Desk, Call}
use Rattle.flash_calls.specs.Sweeps.{sweep_cause}
use Rattle.flash_core.specs.SharedStore.{Face}
use Rattle.flash_actors.specs.Keeping.{tidy_after, keep_after, keeper_call}
use Rattle.flash_actors.proofs.Evicting.{evicted_if}

-- the card isn't the key's
abbrev IsNotOf : List ℕ → KeyCard → Type 0
IsNotOf key card = is_of key card ≡ false

-- where it is, it isn't active
abbrev IsPassive : List ℕ → KeyCard → Type 0
IsPassive key card = is_of key card ≡ true → card.active ≡ false

none_of : (key : List ℕ) (cards : List KeyCard) → AllByRecursion (IsNotOf key) (without key cards)
none_of key [] = tt
none_of key (card ∷ cards) = kept (none_of key cards) (is_of key card) refl
  where
    kept : AllByRecursion (IsNotOf key) (without key cards) → (b : Bool) → is_of key card ≡ b
        → AllByRecursion (IsNotOf key) (cond (not b) (card ∷ without key cards) (without key cards))
    kept rest true e = rest
    kept rest false e = (e, rest)

-- a list whose last card is of the key isn't the list without the key
cut_differs : (cards : List KeyCard) (card : KeyCard) → last_card cards ≡ Some card → without card.key cards ≡ cards → ⊥
cut_differs cards card is same =
    true_false (sym (key_itself card.key)
    ∙ last_passes (IsNotOf card.key) cards card (subst (AllByRecursion (IsNotOf card.key)) same (none_of card.key cards)) is)

-- nor, where that card is active, with an idle card in front
front_differs : (cards : List KeyCard) (card : KeyCard) (size : ℕ) → last_card cards ≡ Some card → card.active ≡ true
    → idle card.key size ∷ without card.key cards ≡ cards → ⊥
front_differs cards card size is active same =
    let passive : AllByRecursion (IsPassive card.key) (idle card.key size ∷ without card.key cards) =
    (λ _. refl, all_by (IsNotOf card.key) (IsPassive card.key) (λ c no yes. absurd (true_false (sym yes ∙ no))) (without card.key cards) (none_of card.key cards)) in
    true_false (sym active ∙ last_passes (IsPassive card.key) cards card (subst (AllByRecursion (IsPassive card.key)) same passive) is (key_itself card.key))

-- a move, where there is one, changes the lists
abbrev Differs : KeyLists → Option KeyMove → Type 0
Differs lists move = is_some move ≡ true → with_move move lists ≡ lists → ⊥

module _ (lists : KeyLists) where
  hot_differs : (last : Option KeyCard) → last_card lists.hot ≡ last → Differs lists (from_full last)
  hot_differs None is some same = true_false (sym some)
  hot_differs (Some card) is some same = by card.active same
    where
      by : (active : Bool) → moved (goes_to active) card.key card.size lists ≡ lists → ⊥
      by true e = cut_differs lists.hot card is (ap (λ (l : KeyLists). l.hot) e)
      by false e = cut_differs lists.hot card is (ap (λ (l : KeyLists). l.hot) e)

  warm_differs : (last : Option KeyCard) → last_card lists.warm ≡ last → Differs lists (from_full last)
  warm_differs None is some same = true_false (sym some)
  warm_differs (Some card) is some same = by card.active refl same
    where
      by : (active : Bool) → card.active ≡ active → moved (goes_to active) card.key card.size lists ≡ lists → ⊥
      by true was e = front_differs lists.warm card card.size is was (ap (λ (l : KeyLists). l.warm) e)
      by false was e = cut_differs lists.warm card is (ap (λ (l : KeyLists). l.warm) e)

  cold_differs : (last : Option KeyCard) → last_card lists.cold ≡ last → Differs lists (from_cold last)
  cold_differs None is some same = true_false (sym some)
  cold_differs (Some card) is some same = by card.active some same
    where
      by : (active : Bool) → Differs lists (if active then Some (record { card = card; to = Warm }) else None)
      by true _ e = cut_differs lists.cold card is (ap (λ (l : KeyLists). l.cold) e)
      by false none _ = true_false (sym none)

  first_differs : (full : Bool) (a b : Option KeyMove) → Differs lists a → Differs lists b → Differs lists (if full then a else b)
  first_differs true a b one two = one
  first_differs false a b one two = two

  move_differs : (memory : ℕ) → Differs lists (next_move memory lists)
  move_differs memory =
      first_differs (exceeds memory 20 lists.hot) (from_full (last_card lists.hot)) _ (hot_differs (last_card lists.hot) refl)
      (first_differs (exceeds memory 40 lists.warm) (from_full (last_card lists.warm)) (from_cold (last_card lists.cold))
      (warm_differs (last_card lists.warm) refl) (cold_differs (last_card lists.cold) refl))

-- what holds of either that is there
or_either : {A : Type 0} (P : A → Type 0) (a b : Option A) → ((x : A) → a ≡ Some x → P x) → ((x : A) → b ≡ Some x → P x)
    → (x : A) → option_or a b ≡ Some x → P x
or_either P None b one two x is = two x is
or_either P (Some a) b one two x is = one x is

-- an item that is reaped is that of a list's last key, and so there is one
module _ (c : Cache) (desk : Desk) (listed : IsListed c.items desk.lists) where
  swept_by : (key : List ℕ) (cause : Option DropCause) (l : Leaver) → option_map (λ cause. record { key = key; cause = cause }) cause ≡ Some l → Some key ≡ Some l.key
  swept_by key None l is = absurd (cc is)
  swept_by key (Some cause) l is = let same : record { key = key; cause = cause } ≡ l = cc is in ap (λ (l : Leaver). Some l.key) same

  swept_key : (key : Option (List ℕ)) (l : Leaver) → if_swept c desk key ≡ Some l → key ≡ Some l.key
  swept_key None l is = absurd (cc is)
  swept_key (Some key) l is = swept_by key (sweep_cause c desk key) l is

  reaped_there : (l : Leaver) → to_reap c desk ≡ Some l → IsSome (get c.items l.key)
  reaped_there =
      let P : Leaver → Type 0 = λ l. IsSome (get c.items l.key) in
      or_either P _ _ (λ l is. (last_has_item c.items desk.lists listed l.key).2 (swept_key (last_key desk.lists.cold) l is))
      (or_either P _ _ (λ l is. (last_has_item c.items desk.lists listed l.key).1 (swept_key (last_key desk.lists.warm) l is))
      (λ l is. (last_has_item c.items desk.lists listed l.key).0 (swept_key (last_key desk.lists.hot) l is)))

out_there : (items : Items) (lists : KeyLists) → IsListed items lists → (k : List ℕ) → last_out lists ≡ Some k → IsSome (get items k)
out_there items lists listed =
    let P : List ℕ → Type 0 = λ k. IsSome (get items k) in
    or_either P _ _ (λ k is. (last_has_item items lists listed k).2 is)
    (or_either P _ _ (λ k is. (last_has_item items lists listed k).1 is) (λ k is. (last_has_item items lists listed k).0 is))

-- an item that is there isn't the same as none
gone : (items : Items) (key : List ℕ) → IsSome (get items key) → get items key ≡ None → ⊥
gone items key there none = true_false (sym (subst IsSome none there))

module _ (g : Geometry) (c : Cache) (desk : Desk) (listed : IsListed c.items desk.lists) where
  abbrev start : Face
  start = record { cache = c; desk = desk }

  -- the keeper's calls, where this item is reaped
  abbrev kept_from : Option Leaver → Call Bool
  kept_from leaver = keep_after g (tidy_after g (drop_if c desk leaver))

  -- the drop of another item, if there is one, leaves none under a key without one
  still_gone : (now : Cache) (there : Desk) (key : List ℕ) → get now.items key ≡ None → (out : Option Leaver)
      → get (drop_if now there out).cache.items key ≡ None
  still_gone now there key none None = none
  still_gone now there key none (Some other) = elim (cases_key key other.key) [
    | inl same ↦ subst (λ q. get (remove now.items other.key) q ≡ None) (sym same) (cut_here now.items other.key)
    | inr apart ↦ cut_else now.items other.key key apart ∙ none
  ]

  abbrev moved_desk : Desk
  moved_desk = record desk { lists = with_move (next_move g.memory desk.lists) desk.lists }

  -- an item that is evicted is that of the key that leaves memory next
  out_key : (out : Option (List ℕ)) (l : Leaver) → evicted_if true out ≡ Some l → out ≡ Some l.key
  out_key None l is = absurd (cc is)
  out_key (Some key) l is = let same : record { key = key; cause = causes.Evict } ≡ l = cc is in ap (λ (l : Leaver). Some l.key) same

  evicted_there : (full : Bool) (l : Leaver) → evicted_if full (last_out moved_desk.lists) ≡ Some l → IsSome (get c.items l.key)
  evicted_there true l is = out_there c.items moved_desk.lists (move_listed c.items desk.lists listed g.memory) l.key (out_key (last_out moved_desk.lists) l is)
  evicted_there false l is = absurd (cc is)

  by_room : (full : Bool) (out : Option Leaver) → evicted_if full (last_out moved_desk.lists) ≡ out
      → (is_some (next_move g.memory desk.lists) || is_some (drop_if c moved_desk out).answer) ≡ true
      → record { cache = (drop_if c moved_desk out).cache; desk = (drop_if c moved_desk out).desk } ≡ start → ⊥
  by_room full None is done same =
      move_differs desk.lists g.memory (moves_alone (is_some (next_move g.memory desk.lists)) done) (ap (λ (f : Face). f.desk.lists) same)
    where
      moves_alone : (b : Bool) → (b || false) ≡ true → b ≡ true
      moves_alone true e = refl
      moves_alone false e = e
  by_room full (Some l) is done same =
      gone c.items l.key (evicted_there full l is) (ap (λ (f : Face). get f.cache.items l.key) (sym same) ∙ cut_here c.items l.key)

  by_reaping : (leaver : Option Leaver) → to_reap c desk ≡ leaver → (kept_from leaver).answer ≡ true
      → record { cache = (kept_from leaver).cache; desk = (kept_from leaver).desk } ≡ start → ⊥
  by_reaping None is done same = by_room (nat_lt g.memory (load_of c.items)) _ refl done same
  by_reaping (Some l) is done same =
      gone c.items l.key (reaped_there c desk listed l is)
      (ap (λ (f : Face). get f.cache.items l.key) (sym same) ∙ still_gone (without_item c l.key) _ l.key (cut_here c.items l.key) _)

pub keeper_differs : (g : Geometry) (c : Cache) (desk : Desk) → IsListed c.items desk.lists → (keeper_call g c desk).answer ≡ true → (after : Face)
    → after ≡ record { cache = (keeper_call g c desk).cache; desk = (keeper_call g c desk).desk } → after ≡ record { cache = c; desk = desk } → ⊥
keeper_differs g c desk listed done after is same = by_reaping g c desk listed (to_reap c desk) refl done (sym is ∙ same)
