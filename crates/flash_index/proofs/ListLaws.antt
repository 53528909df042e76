-- Each change of the items and the lists keeps the lists those of the items' keys.
use Rattle.std.proofs.Common.{◌≡◌, ℕ, List, [], ◌∷◌, Option, Some, None, IsSome, option_map, refl, sym, ◌∙◌, ap, subst, inl, inr}
use Rattle.std.specs.List.{last_or}
use Rattle.std.specs.Option.{option_or}
use Rattle.std.specs.FinMap.{get, insert, remove, empty, get-empty}
use Rattle.flash_lru.specs.declared.segment.Segment.TheVariants.{Hot}
use Rattle.flash_machine.specs.Item.{Item}
use Rattle.flash_machine.specs.Cache.{Items}
use Rattle.flash_machine.specs.Load.{item_load, load_of}
use Rattle.flash_index.specs.KeyLists.{KeyCard, KeyLists, cards_of, empty_lists, moved, removed, touched, resized}
use Rattle.flash_index.specs.KeyEnds.{last_card, last_key, last_out}
use Rattle.flash_index.specs.KeyJuggle.{KeyMove, bytes_of, next_move, with_move}
use Rattle.flash_index.specs.Listed.{IsListed}
use Rattle.flash_index.proofs.Lookups.{order, none_some, cases_key, put_here, put_else, cut_here, cut_else}
use Rattle.flash_index.proofs.KeyCards.{cards_removed_same, cards_removed, cards_touched, cards_resized, cards_moved_else, cards_moved_here}
use Rattle.flash_index.proofs.KeySizes.{AreSized, AllSized, size_put, size_put_else, size_cut_else, size_kept, sized_same, touched_sized, resized_sized, removed_sized, moved_sized, last_sized, move_sized}
use Rattle.flash_index.proofs.LoadLemmas.{one_if, load_listed}

-- whose cards the lists have
abbrev IsOnce : Items → KeyLists → Type 0
IsOnce items lists = (key : List ℕ) → cards_of key lists ≡ one_if (get items key)

listed_by : (items : Items) (lists : KeyLists) → IsOnce items lists → AllSized items lists → IsListed items lists
listed_by items lists once sized = record { one = once; hot = sized.hot; warm = sized.warm; cold = sized.cold }

one_some : (o : Option Item) → IsSome o → one_if o ≡ 1
one_some None some = absurd (cc)
one_some (Some item) some = refl

-- a card of an item's size has an item
pub mapped_some : {X : Type 0} (f : Item → X) (o : Option Item) (x : X) → option_map f o ≡ Some x → IsSome o
mapped_some {X} f None x e = absurd (none_some x e)
mapped_some {X} f (Some item) x e = refl

pub none_listed : IsListed empty empty_lists
none_listed = record { one = λ key. sym (ap one_if (get-empty order key)); hot = tt; warm = tt; cold = tt }

module _ (items : Items) (lists : KeyLists) (listed : IsListed items lists) where
  all : AllSized items lists
  all = record { hot = listed.hot; warm = listed.warm; cold = listed.cold }

  -- one key has an item now, and each other what it had
  put_once : (key : List ℕ) (item : Item) (new : KeyLists) → cards_of key new ≡ 1 → ((other : List ℕ) → (other ≡ key → ⊥) → cards_of other new ≡ cards_of other lists) → IsOnce (insert items key item) new
  put_once key item new here else other = elim (cases_key other key) [
    | inl at ↦ subst (λ k. cards_of k new ≡ one_if (get (insert items key item) k)) (sym at) (here ∙ sym (ap one_if (put_here items key item)))
    | inr apart ↦ else other apart ∙ listed.one other ∙ sym (ap one_if (put_else items key item other apart))
  ]

  pub put_listed : (key : List ℕ) (item : Item) → IsListed (insert items key item) (moved Hot key (item_load key item) lists)
  put_listed key item =
      listed_by _ _
      (put_once key item (moved Hot key (item_load key item) lists) (cards_moved_here Hot key (item_load key item) lists) (λ other. cards_moved_else Hot key other (item_load key item) lists))
      (moved_sized Hot items (insert items key item) key (item_load key item) lists (size_put_else items key item) (size_put items key item) all)

  cut_once : (key : List ℕ) → IsOnce (remove items key) (removed key lists)
  cut_once key other = elim (cases_key other key) [
    | inl at ↦ subst (λ k. cards_of k (removed key lists) ≡ one_if (get (remove items key) k)) (sym at) (cards_removed_same key lists ∙ sym (ap one_if (cut_here items key)))
    | inr apart ↦ cards_removed key other lists apart ∙ listed.one other ∙ sym (ap one_if (cut_else items key other apart))
  ]

  pub removal_listed : (key : List ℕ) → IsListed (remove items key) (removed key lists)
  removal_listed key = listed_by _ _ (cut_once key) (removed_sized items (remove items key) key lists (size_cut_else items key) all)

  pub change_listed : (key : List ℕ) (was now : Item) → get items key ≡ Some was → item_load key now ≡ item_load key was → IsListed (insert items key now) lists
  change_listed key was now there size =
      let alike = size_kept items key was now there size in
      record {
        one = put_once key now lists (listed.one key ∙ ap one_if there) (λ other apart. refl);
        hot = sized_same items (insert items key now) alike lists.hot listed.hot;
        warm = sized_same items (insert items key now) alike lists.warm listed.warm;
        cold = sized_same items (insert items key now) alike lists.cold listed.cold;
      }

  pub resize_listed : (key : List ℕ) (now : Item) → IsSome (get items key) → IsListed (insert items key now) (resized key (item_load key now) lists)
  resize_listed key now there =
      let size = item_load key now in
      listed_by _ _
      (put_once key now (resized key size lists) (cards_resized key key size lists ∙ listed.one key ∙ one_some (get items key) there) (λ other apart. cards_resized key other size lists))
      (resized_sized items key now lists all)

  pub use_listed : (key : List ℕ) → IsListed items (touched key lists)
  use_listed key = listed_by _ _ (λ other. cards_touched key other lists ∙ listed.one other) (touched_sized items key lists all)

  move_by : (memory : ℕ) (move : Option KeyMove) → next_move memory lists ≡ move → IsListed items (with_move move lists)
  move_by memory None is = listed
  move_by memory (Some move) is =
      let size = move_sized items memory lists all move is in
      let there : IsSome (get items move.card.key) = mapped_some (item_load move.card.key) (get items move.card.key) move.card.size size in
      listed_by _ _
      (λ other. elim (cases_key other move.card.key) [
        | inl at ↦ subst (λ k. cards_of k (moved move.to move.card.key move.card.size lists) ≡ one_if (get items k)) (sym at)
            (cards_moved_here move.to move.card.key move.card.size lists ∙ sym (one_some (get items move.card.key) there))
        | inr apart ↦ cards_moved_else move.to move.card.key other move.card.size lists apart ∙ listed.one other
      ])
      (moved_sized move.to items items move.card.key move.card.size lists (λ q _. refl) size all)

  pub move_listed : (memory : ℕ) → IsListed items (with_move (next_move memory lists) lists)
  move_listed memory = move_by memory (next_move memory lists) refl

  last_by : (cards : List KeyCard) (key : List ℕ) (last : Option KeyCard) → AreSized items cards → last_card cards ≡ last → option_map (λ (card : KeyCard). card.key) last ≡ Some key → IsSome (get items key)
  last_by cards key None sized is named = absurd (none_some key named)
  last_by cards key (Some card) sized is named =
      let same : card.key ≡ key = cc in
      subst (λ k. IsSome (get items k)) same
      (mapped_some (item_load card.key) (get items card.key) card.size (last_sized items cards card sized is))

  pub last_has_item : (key : List ℕ) → (last_key lists.hot ≡ Some key → IsSome (get items key)) × (last_key lists.warm ≡ Some key → IsSome (get items key)) × (last_key lists.cold ≡ Some key → IsSome (get items key))
  last_has_item key = (
    last_by lists.hot key (last_card lists.hot) listed.hot refl,
    last_by lists.warm key (last_card lists.warm) listed.warm refl,
    last_by lists.cold key (last_card lists.cold) listed.cold refl,
  )

  pub no_last_no_load : last_out lists ≡ None → load_of items ≡ 0
  no_last_no_load none =
      let cold = neither _ _ none in
      let rest = neither _ _ cold.1 in
      load_listed items lists listed ∙ ap bytes_of (no_lists lists (no_cards lists.hot rest.1) (no_cards lists.warm rest.0) (no_cards lists.cold cold.0))
    where
      neither : (a b : Option (List ℕ)) → option_or a b ≡ None → (a ≡ None) × (b ≡ None)
      neither None b e = (refl, e)
      neither (Some k) b e = absurd (none_some k (sym e))

      still_last : (card : KeyCard) (cards : List KeyCard) → option_map (λ (c : KeyCard). c.key) (last_or (Some card) cards) ≡ None → ⊥
      still_last card [] e = none_some card.key (sym e)
      still_last card (next ∷ cards) e = still_last next cards e

      no_cards : (cards : List KeyCard) → last_key cards ≡ None → cards ≡ []
      no_cards [] e = refl
      no_cards (card ∷ cards) e = absurd (still_last card cards e)

      no_lists : (ls : KeyLists) → ls.hot ≡ [] → ls.warm ≡ [] → ls.cold ≡ [] → ls ≡ empty_lists
      no_lists ls hot warm cold = λ i. record { hot = hot i; warm = warm i; cold = cold i }
