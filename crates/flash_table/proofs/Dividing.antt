-- Chains in the midst of a division.
use Rattle.std.proofs.Common.{◌≡◌, ◌≢◌, ℕ, zero, suc, ◌+◌, ◌<◌, ◌≤◌, Bool, true, false, cond, List, [], ◌∷◌, length, set, drop, length-set, ◌⊎◌, inl, inr, Option, Some, None, refl, sym, ap, subst, ◌∙◌, arith}
use Rattle.std.proofs.lemmas.Bool.{eqb-true}
use Rattle.std.proofs.Common.{eq-eqb}
use Rattle.std.specs.Option.{unwrap_or}
use Rattle.std.proofs.lemmas.List.{get_or-set_other}
use Rattle.std.proofs.lemmas.Grind.{get_or-set_at}
use Rattle.flash_keys.specs.Classes.{Classes}
use Rattle.flash_names.specs.KeyHash.{hash_of}
use Rattle.flash_table.specs.declared.entry.Entry.{Entry}
use Rattle.flash_table.specs.Chains.{chain_of, with_entry, HasEmpty}
use Rattle.flash_table.specs.Entries.{vacant, entry_at}
use Rattle.flash_table.specs.Flat.{flat}
use Rattle.flash_table.specs.Growth.{pair_goes, goes, going, IsToDivide, IsDivided}
use Rattle.flash_table.specs.Held.{key_and_item, HasKey, IsSound}
use Rattle.flash_table.specs.Home.{home, split_home}
use Rattle.flash_table.specs.Maps.{items_in, keys_in}
use Rattle.flash_table.proofs.ChainSlots.{past, slots_with, still_empty, empty_now}
use Rattle.flash_table.proofs.Flat.{offset, offset_set, flat_at, flat_set, flat_inside}
use Rattle.flash_table.proofs.Held.{equal_or_not, vacant_pair, pair_is}
use Rattle.flash_table.proofs.Homes.{power_fits, growth_divides_one}
use Rattle.flash_table.proofs.Moved as moves

-- a key is at home, or still in the home that is divided, at a slot that isn't looked at yet
abbrev pub IsPlaced : ℕ → ℕ → ℕ → ℕ → ℕ → List ℕ → Type 0
IsPlaced last from slot h i key = (home (last + 1) (hash_of key) ≡ h) ⊎ ((h ≡ from) × (slot ≤ i) × (home (last + 1) (hash_of key) ≡ last))

pub record IsDividing (store : Classes) (old now : List (List Entry)) (last from slot next : ℕ) : Type 0 where
  pub many : length now ≡ length old
  pub items : items_in store (flat now) ≡ items_in store (flat old)
  pub keys : keys_in store (flat now) ≡ keys_in store (flat old)
  pub sound : IsSound store (flat now)
  pub long_from : length (chain_of now from) ≡ length (chain_of old from)
  pub long_last : length (chain_of now last) ≡ length (chain_of old last)
  pub placed : (h i : ℕ) (key : List ℕ) (item : ℕ) → key_and_item store (entry_at (chain_of now h) i) ≡ Some (key, item) → IsPlaced last from slot h i key
  pub free : (i : ℕ) → next ≤ i → (entry_at (chain_of now last) i).tag ≡ 0
  pub room : next + going store (last + 1) last (drop slot (chain_of now from)) < length (chain_of now last)
  pub empty : HasEmpty (chain_of now from)
  pub others : (h : ℕ) → h ≢ from → h ≢ last → chain_of now h ≡ chain_of old h

-- ---- entries that go

yes_goes : (store : Classes) (n h : ℕ) (e : Entry) (o : Option (List ℕ × ℕ)) → key_and_item store e ≡ o → pair_goes n h o ≡ true → (key : List ℕ) × (item : ℕ) × (key_and_item store e ≡ Some (key, item)) × (home n (hash_of key) ≡ h)
yes_goes store n h e None is test = cc
yes_goes store n h e (Some pair) is test = (pair.0, pair.1, is, eqb-true (home n (hash_of pair.0)) h test)

pub goes_pair : (store : Classes) (n h : ℕ) (e : Entry) → goes store n h e ≡ true → (key : List ℕ) × (item : ℕ) × (key_and_item store e ≡ Some (key, item)) × (home n (hash_of key) ≡ h)
unfolding goes
goes_pair store n h e test = yes_goes store n h e (key_and_item store e) refl test

pub pair_goes_there : (store : Classes) (n h : ℕ) (e : Entry) (key : List ℕ) (item : ℕ) → key_and_item store e ≡ Some (key, item) → home n (hash_of key) ≡ h → goes store n h e ≡ true
unfolding goes
pair_goes_there store n h e key item is at = ap (pair_goes n h) is ∙ eq-eqb (home n (hash_of key)) h at

pub going_from : (store : Classes) (n h : ℕ) (es : List Entry) (k : ℕ) → k < length es → going store n h (drop k es) ≡ cond (goes store n h (entry_at es k)) 1 0 + going store n h (drop (k + 1) es)
going_from store n h [] k inside = absurd (omega arith)
going_from store n h (e ∷ es) zero inside = refl
going_from store n h (e ∷ es) (suc k) inside =
    let next : suc k + 1 ≡ suc (k + 1) = omega arith in
    going_from store n h es k (omega arith) ∙ ap (λ (m : ℕ). cond (goes store n h (entry_at es k)) 1 0 + going store n h (drop m (e ∷ es))) (sym next)

-- the slots behind one that moves stay
pub later_same : (chains : List (List Entry)) (from last slot next : ℕ) (e : Entry) → from < length chains → from ≢ last → (i : ℕ) → slot + 1 ≤ i
    → entry_at (chain_of (with_entry (with_entry chains from slot vacant) last next e) from) i ≡ entry_at (chain_of chains from) i
later_same chains from last slot next e inside apart i later =
    let cleared : List (List Entry) = with_entry chains from slot vacant in
    ap (λ (c : List Entry). entry_at c i)
    (get_or-set_other cleared last from (set (chain_of cleared last) next e) [] apart
    ∙ get_or-set_at chains from from (set (chain_of chains from) slot vacant) [] refl inside)
    ∙ get_or-set_other (chain_of chains from) slot i vacant vacant (λ same. absurd (omega (arith, later, same)))

drop_set : (es : List Entry) (k : ℕ) (e : Entry) → drop (k + 1) (set es k e) ≡ drop (k + 1) es
drop_set [] k e = refl
drop_set (x ∷ es) zero e = refl
drop_set (x ∷ es) (suc k) e =
    let next : suc k + 1 ≡ suc (k + 1) = omega arith in
    ap (λ (m : ℕ). drop m (set (x ∷ es) (suc k) e)) next ∙ drop_set es k e ∙ ap (λ (m : ℕ). drop m (x ∷ es)) (sym next)

pub from_inside : (last from : ℕ) → 0 < last → from ≡ split_home last → from < last
from_inside last from some split = omega (arith, split, (power_fits last some).0, (power_fits last some).1)

pub started : (store : Classes) (old : List (List Entry)) (last from : ℕ) → IsToDivide store old last from → IsDividing store old old last from 0 0
started store old last from to = record {
  many = refl;
  items = refl;
  keys = refl;
  sound = to.sound;
  long_from = refl;
  long_last = refl;
  placed = λ h i key item is. elim (growth_divides_one last (hash_of key) to.some) [
    | inl same ↦ inl (same ∙ to.homed h i key item is)
    | inr new ↦ inr (sym (to.homed h i key item is) ∙ new.0 ∙ sym to.split, omega arith, new.1)
  ];
  free = λ i le. to.free i;
  room = omega (arith, to.room);
  empty = to.empty;
  others = λ h one other. refl;
}

module _ (store : Classes) (old now : List (List Entry)) (last from slot next : ℕ) (to : IsToDivide store old last from) (now_is : IsDividing store old now last from slot next)
    (inside : slot < length (chain_of old from)) where
  from_low : from < last
  from_low = from_inside last from to.some to.split

  from_home : from < length now
  from_home = omega (arith, from_low, now_is.many, to.many)

  last_home : last < length now
  last_home = omega (arith, now_is.many, to.many)

  slot_inside : slot < length (chain_of now from)
  slot_inside = omega (arith, inside, now_is.long_from)

  next_inside : next < length (chain_of now last)
  next_inside = omega (arith, now_is.room)

  pub stays : goes store (last + 1) last (entry_at (chain_of now from) slot) ≡ false → IsDividing store old now last from (slot + 1) next
  stays test = record {
    many = now_is.many;
    items = now_is.items;
    keys = now_is.keys;
    sound = now_is.sound;
    long_from = now_is.long_from;
    long_last = now_is.long_last;
    placed = λ h i key item is. elim (now_is.placed h i key item is) [
      | inl here ↦ inl here
      | inr left ↦ elim (equal_or_not i slot) [
        | inl at ↦
            let same : entry_at (chain_of now h) i ≡ entry_at (chain_of now from) slot = ap (λ (g : ℕ). entry_at (chain_of now g) i) left.0 ∙ ap (entry_at (chain_of now from)) at in
            let yes_it : goes store (last + 1) last (entry_at (chain_of now from) slot) ≡ true = pair_goes_there store (last + 1) last (entry_at (chain_of now from) slot) key item (ap (key_and_item store) (sym same) ∙ is) left.2 in
            cc
        | inr away ↦ inr (left.0, omega (arith, left.1, away), left.2)
      ]
    ];
    free = now_is.free;
    room = omega (arith, now_is.room, going_from store (last + 1) last (chain_of now from) slot slot_inside);
    empty = now_is.empty;
    others = now_is.others;
  }

  module _ (test : goes store (last + 1) last (entry_at (chain_of now from) slot) ≡ true) where
    abbrev pub cleared : List (List Entry)
    cleared = with_entry now from slot vacant

    abbrev pub after : List (List Entry)
    after = with_entry cleared last next (entry_at (chain_of now from) slot)

    apart : last ≢ from
    apart same = omega (arith, same, from_low)

    last_same : chain_of cleared last ≡ chain_of now last
    last_same = get_or-set_other now from last (set (chain_of now from) slot vacant) [] apart

    cleared_long : length cleared ≡ length now
    cleared_long = length-set now from (set (chain_of now from) slot vacant)

    after_long : length after ≡ length now
    after_long = length-set cleared last (set (chain_of cleared last) next (entry_at (chain_of now from) slot)) ∙ cleared_long

    k : ℕ
    k = offset now from + slot

    l : ℕ
    l = offset now last + next

    flat_after : flat after ≡ set (set (flat now) k vacant) l (entry_at (flat now) k)
    unfolding k l
    flat_after =
        flat_set cleared last next (entry_at (chain_of now from) slot) (omega (arith, cleared_long, last_home)) (subst (λ (c : List Entry). next < length c) (sym last_same) next_inside)
        ∙ ap (λ (n : ℕ). set (flat cleared) (n + next) (entry_at (chain_of now from) slot)) (offset_set now from (set (chain_of now from) slot vacant) last from_home (length-set (chain_of now from) slot vacant))
        ∙ ap (λ (es : List Entry). set es (offset now last + next) (entry_at (chain_of now from) slot)) (flat_set now from slot vacant from_home slot_inside)
        ∙ ap (set (set (flat now) (offset now from + slot) vacant) (offset now last + next)) (sym (flat_at now from slot vacant from_home slot_inside))

    key : List ℕ
    key = (goes_pair store (last + 1) last (entry_at (chain_of now from) slot) test).0

    goes_home : home (last + 1) (hash_of key) ≡ last
    unfolding key
    goes_home = (goes_pair store (last + 1) last (entry_at (chain_of now from) slot) test).3

    k_entry : entry_at (flat now) k ≡ entry_at (chain_of now from) slot
    unfolding k
    k_entry = flat_at now from slot vacant from_home slot_inside

    l_entry : entry_at (flat now) l ≡ entry_at (chain_of now last) next
    unfolding l
    l_entry = flat_at now last next vacant last_home next_inside

    k_inside : k < length (flat now)
    unfolding k
    k_inside = flat_inside now from slot from_home slot_inside

    l_inside : l < length (flat now)
    unfolding l
    l_inside = flat_inside now last next last_home next_inside

    has : HasKey store (entry_at (flat now) k) key
    unfolding key
    has =
        let at = goes_pair store (last + 1) last (entry_at (chain_of now from) slot) test in
        (pair_is store (entry_at (flat now) k) at.0 at.1 (now_is.sound.right k) (ap (key_and_item store) k_entry ∙ at.2)).0

    l_empty : (entry_at (flat now) l).tag ≡ 0
    l_empty = ap (λ (o : Entry). o.tag) l_entry ∙ now_is.free next (omega arith)

    placed_now : (h i : ℕ) (q : List ℕ) (item : ℕ) → key_and_item store (entry_at (chain_of after h) i) ≡ Some (q, item) → IsPlaced last from (slot + 1) h i q
    placed_now h i q item is =
        elim (slots_with cleared last next (entry_at (chain_of now from) slot) h i (omega (arith, cleared_long, last_home)) (subst (λ (c : List Entry). next < length c) (sym last_same) next_inside)) [
          | inl here ↦
              let at = goes_pair store (last + 1) last (entry_at (chain_of now from) slot) test in
              let both : ◌≡◌ {A = Option (List ℕ × ℕ)} (Some (at.0, at.1)) (Some (q, item)) = sym at.2 ∙ ap (key_and_item store) (sym here.2) ∙ is in
              let keys : at.0 ≡ q = ap (λ (o : Option (List ℕ × ℕ)). (unwrap_or o (q, item)).0) both in
              inl (ap (λ (p : List ℕ). home (last + 1) (hash_of p)) (sym keys) ∙ at.3 ∙ sym here.0)
          | inr other ↦ elim (slots_with now from slot vacant h i from_home slot_inside) [
            | inl here ↦ let no : key_and_item store (entry_at (chain_of after h) i) ≡ None = ap (key_and_item store) (other.1 ∙ here.2) ∙ (vacant_pair store).0 in cc
            | inr before ↦ elim (now_is.placed h i q item (ap (key_and_item store) (sym (other.1 ∙ before.1)) ∙ is)) [
              | inl here ↦ inl here
              | inr left ↦ inr (left.0, omega (arith, left.1, (λ (at : i ≡ slot). before.0 left.0 at)), left.2)
            ]
          ]
        ]

    from_now : chain_of after from ≡ set (chain_of now from) slot vacant
    from_now =
        get_or-set_other cleared last from (set (chain_of cleared last) next (entry_at (chain_of now from) slot)) [] (λ same. apart (sym same))
        ∙ get_or-set_at now from from (set (chain_of now from) slot vacant) [] refl from_home

    last_now : chain_of after last ≡ set (chain_of now last) next (entry_at (chain_of now from) slot)
    last_now =
        get_or-set_at cleared last last (set (chain_of cleared last) next (entry_at (chain_of now from) slot)) [] refl (omega (arith, cleared_long, last_home))
        ∙ ap (λ (c : List Entry). set c next (entry_at (chain_of now from) slot)) last_same

    last_length : length (chain_of after last) ≡ length (chain_of now last)
    last_length = ap length last_now ∙ length-set (chain_of now last) next (entry_at (chain_of now from) slot)

    free_now : (i : ℕ) → next + 1 ≤ i → (entry_at (chain_of after last) i).tag ≡ 0
    free_now i le =
        ap (λ (c : List Entry). (entry_at c i).tag) last_now
        ∙ ap (λ (o : Entry). o.tag) (get_or-set_other (chain_of now last) next i (entry_at (chain_of now from) slot) vacant (λ same. omega (arith, same, le)))
        ∙ now_is.free i (omega (arith, le))

    left_now : going store (last + 1) last (drop (slot + 1) (chain_of after from)) ≡ going store (last + 1) last (drop (slot + 1) (chain_of now from))
    left_now = ap (λ (c : List Entry). going store (last + 1) last (drop (slot + 1) c)) from_now ∙ ap (going store (last + 1) last) (drop_set (chain_of now from) slot vacant)

    one_less : going store (last + 1) last (drop slot (chain_of now from)) ≡ 1 + going store (last + 1) last (drop (slot + 1) (chain_of now from))
    one_less = going_from store (last + 1) last (chain_of now from) slot slot_inside ∙ ap (λ (b : Bool). cond b 1 0 + going store (last + 1) last (drop (slot + 1) (chain_of now from))) test

    pub goes_on : IsDividing store old after last from (slot + 1) (next + 1)
    goes_on = record {
      many = after_long ∙ now_is.many;
      items = ap (items_in store) flat_after ∙ moves.items_are store (flat now) now_is.sound k l key k_inside l_inside has l_empty ∙ now_is.items;
      keys = ap (keys_in store) flat_after ∙ moves.keys_are store (flat now) now_is.sound k l key k_inside l_inside has l_empty ∙ now_is.keys;
      sound = subst (IsSound store) (sym flat_after) (moves.sound_now store (flat now) now_is.sound k l key k_inside l_inside has l_empty);
      long_from = ap length from_now ∙ length-set (chain_of now from) slot vacant ∙ now_is.long_from;
      long_last = last_length ∙ now_is.long_last;
      placed = placed_now;
      free = free_now;
      room = omega (arith, now_is.room, left_now, one_less, last_length);
      empty = still_empty cleared last next (entry_at (chain_of now from) slot) from (omega (arith, cleared_long, last_home)) (λ same. apart (sym same)) (empty_now now from slot from_home slot_inside);
      others = λ h one other.
          get_or-set_other cleared last h (set (chain_of cleared last) next (entry_at (chain_of now from) slot)) [] other
          ∙ get_or-set_other now from h (set (chain_of now from) slot vacant) [] one
          ∙ now_is.others h one other;
    }

-- at the end each key is at home
pub ended : (store : Classes) (old now : List (List Entry)) (last from slot next : ℕ) → IsToDivide store old last from → IsDividing store old now last from slot next → length (chain_of old from) ≤ slot → IsDivided store old now last from
ended store old now last from slot next to now_is over = record {
  chained = record {
    some = omega (arith, now_is.many, to.many);
    few = omega (arith, now_is.many, to.few);
    sound = now_is.sound;
    homed = λ h i key item is.
        ap (λ (n : ℕ). home n (hash_of key)) (now_is.many ∙ to.many)
        ∙ elim (now_is.placed h i key item is) [
          | inl here ↦ here
          | inr left ↦
              let beyond : length (chain_of now h) ≤ i = omega (arith, ap (λ (g : ℕ). length (chain_of now g)) left.0, now_is.long_from, over, left.1) in
              let no : key_and_item store (entry_at (chain_of now h) i) ≡ None = ap (key_and_item store) (past (chain_of now h) i vacant beyond) ∙ (vacant_pair store).0 in
              cc
        ];
  };
  many = now_is.many;
  items = now_is.items;
  keys = now_is.keys;
  empty_from = now_is.empty;
  empty_last = (next, omega (arith, now_is.room), now_is.free next (omega arith));
  others = now_is.others;
}
