-- What the heads have of a cache.
use Rattle.std.proofs.Common.{◌≡◌, ℕ, ◌+◌, ◌≤◌, List, [], ◌∷◌, map, Option, None, Some, cond, refl, sym, ◌∙◌, ap, subst}
use Rattle.std.specs.Prelude.{◌-◌, ◌^◌, length, is_none, min}
use Rattle.std.specs.Option.{option_map}
use Rattle.std.specs.FinMap as finite
use Rattle.std.proofs.lemmas.List.{length-map}
use Rattle.flash_machine.specs.Item.{Item}
use Rattle.flash_machine.specs.Cache.{Items, first_cache}
use Rattle.flash_machine.specs.Load.{bytes_here, item_load, total, load_of, tally_of}
use Rattle.flash_machine.specs.Rising.{AreNumbered, AreApart}
use Rattle.flash_machine.proofs.Totals.{order}
use Rattle.flash_heads.specs.Heads.{hidden, hidden_items}
use Rattle.flash_heads.specs.Kept.{IsHeadOf, EachHeadIsOfAnItem, IsInMemory, AreInMemory, EachItemKeepsItsSize, EachCacheKeepsItsNumbers, ACacheInMemoryIsKnown, ACacheIsHiddenOnce, TheFirstCacheIsKnown, EachCacheKeepsItsCasNumbers}
use Rattle.flash_heads.specs.StepLaws.{EachTallyIsThatOfTheHeads}
use Rattle.flash_heads.proofs.Hiding.{value_length, here_is, head, Entries, entries_hidden, get_hidden, same_items, items_once}

-- an item's load
pub same_bytes : (item : Item) → bytes_here (hidden item) ≡ bytes_here item
same_bytes item = ap (λ (n : ℕ). cond (is_none item.label) n 0) (value_length item.label item.value)

pub sized : EachItemKeepsItsSize
sized item = record {
  size = value_length item.label item.value;
  here = same_bytes item;
  load = λ key. ap (λ (n : ℕ). 64 + length key + n) (same_bytes item);
}

-- the load
load_hidden : (es : Entries) → total (λ entry. item_load entry.0 entry.1) (map head es) ≡ total (λ entry. item_load entry.0 entry.1) es
load_hidden [] = refl
load_hidden (e ∷ es) =
    ap (λ (n : ℕ). 64 + length e.0 + n + total (λ entry. item_load entry.0 entry.1) (map head es)) (same_bytes e.1)
    ∙ ap (λ (n : ℕ). item_load e.0 e.1 + n) (load_hidden es)

pub same_load : (items : Items) → load_of (hidden_items items) ≡ load_of items
same_load items = ap (total (λ entry. item_load entry.0 entry.1)) (entries_hidden items) ∙ load_hidden (finite.entries items)

pub same_count : (items : Items) → finite.len (hidden_items items) ≡ finite.len items
same_count items =
    finite.len-entries (hidden_items items)
    ∙ ap (λ (es : Entries). length es) (entries_hidden items)
    ∙ length-map (finite.entries items) head
    ∙ sym (finite.len-entries items)

pub numbers : EachCacheKeepsItsNumbers
numbers c = record { items = same_count c.items; load = same_load c.items; others = refl }

-- a cache in memory
known_at : (found : Option Item) → ((item : Item) → found ≡ Some item → IsInMemory item) → option_map hidden found ≡ found
known_at None here = refl
known_at (Some item) here = ap (λ (i : Item). Some i) (here_is item (here item refl))

items_here : (items : Items) → AreInMemory items → hidden_items items ≡ items
items_here items here =
    same_items (hidden_items items) items (λ key. get_hidden items key ∙ known_at (finite.get items key) (here key))

pub in_memory : ACacheInMemoryIsKnown
in_memory c here = ap (λ (items : Items). record c { items = items }) (items_here c.items here)

pub hidden_once : ACacheIsHiddenOnce
hidden_once c = ap (λ (items : Items). record c { items = items }) (items_once c.items)

none_there : (key : List ℕ) (item : Item) → finite.get (finite.empty {X = Item} {R = order}) key ≡ Some item → IsInMemory item
none_there key item is = let none : finite.get (finite.empty {X = Item} {R = order}) key ≡ None = finite.get-empty order key in absurd (cc (is, none))

pub first_known : TheFirstCacheIsKnown
first_known = in_memory first_cache none_there

-- what the heads have under a key
head_at : (items : Items) (key : List ℕ) (head : Item) (found : Option Item) → finite.get items key ≡ found → option_map hidden found ≡ Some head → IsHeadOf items key head
head_at items key head None at is = absurd (cc is)
head_at items key head (Some item) at is = record { item = item; there = at; same = cc is }

head_of : (items : Items) (key : List ℕ) (head : Item) → finite.get (hidden_items items) key ≡ Some head → IsHeadOf items key head
head_of items key head is = head_at items key head (finite.get items key) refl (sym (get_hidden items key) ∙ is)

pub head_of_item : EachHeadIsOfAnItem
head_of_item c = head_of c.items

-- it has the item's CAS number
its_cas : (items : Items) (key : List ℕ) (head : Item) (of : IsHeadOf items key head) → of.item.cas ≡ head.cas
its_cas items key head of = ap (λ (i : Item). i.cas) of.same

apart : (items : Items) → AreApart items → AreApart (hidden_items items)
apart items are key other item another one two same =
    let first = head_of items key item one in
    let second = head_of items other another two in
    are key other first.item second.item first.there second.there
    (its_cas items key item first ∙ same ∙ sym (its_cas items other another second))

numbered : (last : ℕ) (items : Items) → AreNumbered last items → AreNumbered last (hidden_items items)
numbered last items are key item is =
    let of = head_of items key item is in
    subst (λ (cas : ℕ). (1 ≤ cas) × (cas ≤ last)) (its_cas items key item of) (are key of.item of.there)

-- and the item of the cache is under its key by its head
head_there : (items : Items) (key : List ℕ) (item : Item) → finite.get items key ≡ Some item → finite.get (hidden_items items) key ≡ Some (hidden item)
head_there items key item there = get_hidden items key ∙ ap (option_map hidden) there

apart_back : (items : Items) → AreApart (hidden_items items) → AreApart items
apart_back items are key other item another one two same =
    are key other (hidden item) (hidden another) (head_there items key item one) (head_there items other another two) same

numbered_back : (last : ℕ) (items : Items) → AreNumbered last (hidden_items items) → AreNumbered last items
numbered_back last items are key item there = are key (hidden item) (head_there items key item there)

pub cas_numbers : EachCacheKeepsItsCasNumbers
cas_numbers c = record {
  apart = (apart_back c.items, apart c.items);
  numbered = λ last. (numbered_back last c.items, numbered last c.items);
}

-- the numbers that a store tells of itself
pub tallied : EachTallyIsThatOfTheHeads
tallied g h c =
    ap (λ (n : ℕ). record (tally_of g h c) { items = n; load = min (load_of (hidden_items c.items)) (2 ^ 64 - 1) }) (same_count c.items)
    ∙ ap (λ (n : ℕ). record (tally_of g h c) { load = min n (2 ^ 64 - 1) }) (same_load c.items)
