-- Each call that changes the nodes, over what a contract sees.
use Rattle.std.proofs.Common.{◌≡◌, ℕ, ◌+◌, ◌-◌, ◌*◌, ◌^◌, ◌<◌, ◌≤◌, true, false, List, length, set, Option, None, Some, refl, sym, ◌∙◌, ap, subst, inl, inr, ◌↔◌, ltb, IfSome, arith, lit<, lit≤, lt-ltb, le-ltb}
use Rattle.std.specs.Option.{option_or}
use Rattle.std.proofs.lemmas.Bool.{cases_lt}
use Rattle.flash_names.specs.declared.place.ItemId.{ItemId}
use Rattle.flash_lru.specs.declared.segment.Segment.{Segment}
use Rattle.flash_lru.specs.declared.segment.Segment.TheVariants.{Hot, Warm, Cold}
use Rattle.flash_lru.specs.declared.card.Card.{Card}
use Rattle.flash_lru.specs.declared.node.Node.{Node}
use Rattle.flash_lru.specs.declared.node.Home.{Home}
use Rattle.flash_lru.specs.declared.node.Home.TheVariants.{InHot, InWarm, InCold, Nowhere}
use Rattle.flash_lru.specs.Card.{idle}
use Rattle.flash_lru.specs.Lists.{SegmentLists, list_of, cards_of, HasCard}
use Rattle.flash_lru.specs.Moves.{removed, put_front, touched, resized}
use Rattle.flash_lru.specs.Ends.{last_card, before, before_from}
use Rattle.flash_lru.specs.Juggle.{bytes, load_of}
use Rattle.flash_lru.specs.Law.{HasOneAtMost}
use Rattle.flash_lru.proofs.Sums.{bytes_is}
use Rattle.flash_lru.specs.Ring.{seen, node_at, prev_of, home_of, size_of, cards_at, card_at, item_of, some_card, is_listed, walked, in_hot, in_warm, in_cold, home_in, end_of, end_after, unlinked, linked, count_of, HasNode, IsRing, IsSound}
use Rattle.flash_lru.proofs.Rings.{one_home, no_ends_hot, no_ends_warm, no_ends_cold}
use Rattle.flash_lru.proofs.Sound.{Closed, card_node, inside_of, cards_by_home, cut_closed, node_in}
use Rattle.flash_lru.proofs.Added.{add_closed, unused_of}
use Rattle.flash_lru.proofs.Changed.{change_closed, grow_closed}
use Rattle.flash_lru.proofs.Found.{last_is, before_there, before_absent}

module _ (nodes : List Node) (hb wb cb memory : ℕ) (item : ItemId) (value : SegmentLists) (sound : IsSound nodes hb wb cb) (is : seen nodes memory ≡ value) where
  pub has_node : HasCard value item → HasNode nodes (item.key + 3)
  has_node some = card_node nodes hb wb cb memory item sound (subst (λ (l : SegmentLists). HasCard l item) (sym is) some)

  pub removes : HasCard value item → (hot_left warm_left cold_left : ℕ) → hot_left + in_hot (home_of nodes (item.key + 3)) * size_of nodes (item.key + 3) ≡ hb → warm_left + in_warm (home_of nodes (item.key + 3)) * size_of nodes (item.key + 3) ≡ wb → cold_left + in_cold (home_of nodes (item.key + 3)) * size_of nodes (item.key + 3) ≡ cb → Closed (unlinked (item.key + 3) nodes) hot_left warm_left cold_left memory (removed item value)
  removes some hot_left warm_left cold_left hot_is warm_is cold_is =
      subst (λ (l : SegmentLists). Closed (unlinked (item.key + 3) nodes) hot_left warm_left cold_left memory (removed item l)) is
      (cut_closed nodes hb wb cb memory hot_left warm_left cold_left item _ _ _ sound (subst (λ (l : SegmentLists). HasCard l item) (sym is) some) hot_is warm_is cold_is)

  -- an item whose number is below the spare has a node
  pub room_inside : item.key < value.spare → item.key + 3 < length nodes
  room_inside room = omega (arith, ap (λ (l : SegmentLists). l.spare) is)

  pub room_node : item.key < value.spare → HasNode nodes (item.key + 3)
  room_node room = let inside = room_inside room in node_in nodes hb wb cb sound (item.key + 3) (omega arith) inside

  pub end_node : item.key < value.spare → (segment : Segment) → HasNode nodes (end_of segment)
  end_node room Hot = let inside = room_inside room in node_in nodes hb wb cb sound 0 (omega arith) (omega arith)
  end_node room Warm = let inside = room_inside room in node_in nodes hb wb cb sound 1 (omega arith) (omega arith)
  end_node room Cold = let inside = room_inside room in node_in nodes hb wb cb sound 2 (omega arith) (omega arith)

  pub adds : (segment : Segment) (size : ℕ) → item.key < value.spare → cards_of item value ≡ 0 → size < 2 ^ 32 → (hot_now warm_now cold_now : ℕ) → hot_now ≡ hb + in_hot (home_in segment) * size → warm_now ≡ wb + in_warm (home_in segment) * size → cold_now ≡ cb + in_cold (home_in segment) * size → Closed (linked (item.key + 3) (end_of segment) size (home_in segment) nodes) hot_now warm_now cold_now memory (put_front segment (idle item size) value)
  adds segment size room none fits hot_now warm_now cold_now hot_is warm_is cold_is =
      subst (λ (l : SegmentLists). Closed (linked (item.key + 3) (end_of segment) size (home_in segment) nodes) hot_now warm_now cold_now memory (put_front segment (idle item size) l)) is
      (add_closed segment nodes hb wb cb memory item size _ _ _ sound (room_inside room)
      (unused_of nodes memory _ _ _ sound.ring item (subst (λ (l : SegmentLists). cards_of item l ≡ 0) (sym is) none))
      fits hot_now warm_now cold_now hot_is warm_is cold_is)

  key_back : item.key + 3 - 3 ≡ item.key
  key_back = omega arith

  pub touches : HasCard value item → Closed (set nodes (item.key + 3) (record (node_at nodes (item.key + 3)) { active = true })) hb wb cb memory (touched item value)
  touches some =
      let node = has_node some in
      subst (λ (l : SegmentLists). Closed (set nodes (item.key + 3) (record (node_at nodes (item.key + 3)) { active = true })) hb wb cb memory (touched item l)) is
      (change_closed nodes hb wb cb memory hb wb cb item (record (node_at nodes (item.key + 3)) { active = true }) (λ card. record card { active = true }) _ _ _ sound node.inside
      (record { next = refl; prev = refl; home = refl }) (sound.ring.small (item.key + 3)) _ refl refl refl refl refl)

  pub resizes : (size : ℕ) → HasCard value item → size < 2 ^ 32 → (hot_now warm_now cold_now : ℕ) → hot_now + in_hot (home_of nodes (item.key + 3)) * size_of nodes (item.key + 3) ≡ hb + in_hot (home_of nodes (item.key + 3)) * size → warm_now + in_warm (home_of nodes (item.key + 3)) * size_of nodes (item.key + 3) ≡ wb + in_warm (home_of nodes (item.key + 3)) * size → cold_now + in_cold (home_of nodes (item.key + 3)) * size_of nodes (item.key + 3) ≡ cb + in_cold (home_of nodes (item.key + 3)) * size → Closed (set nodes (item.key + 3) (record (node_at nodes (item.key + 3)) { size = size })) hot_now warm_now cold_now memory (resized item size value)
  resizes size some fits hot_now warm_now cold_now hot_is warm_is cold_is =
      let node = has_node some in
      subst (λ (l : SegmentLists). Closed (set nodes (item.key + 3) (record (node_at nodes (item.key + 3)) { size = size })) hot_now warm_now cold_now memory (resized item size l)) is
      (change_closed nodes hb wb cb memory hot_now warm_now cold_now item (record (node_at nodes (item.key + 3)) { size = size }) (λ card. record card { size = size }) _ _ _ sound node.inside
      (record { next = refl; prev = refl; home = refl }) fits _ refl refl hot_is warm_is cold_is)

  pub law_of : HasOneAtMost value item
  law_of =
      let counted = cards_by_home nodes memory (walked nodes 0) (walked nodes 1) (walked nodes 2) sound.ring item in
      subst (λ (l : SegmentLists). HasOneAtMost l item) is (record {
        one = omega (arith, counted, one_home (home_of nodes (item.key + 3)));
        below = λ some. omega (arith, inside_of nodes memory (walked nodes 0) (walked nodes 1) (walked nodes 2) sound.ring item some);
      })

module _ (nodes : List Node) (hb wb cb memory : ℕ) (value : SegmentLists) (sound : IsSound nodes hb wb cb) (is : seen nodes memory ≡ value) where
  seen_last : (segment : Segment) → last_card (list_of segment (seen nodes memory)) ≡ some_card nodes (prev_of nodes (end_after segment))
  seen_last Hot = last_is nodes 0 (walked nodes 0) 1 (lit< tt) (no_ends_hot nodes (walked nodes 0) (walked nodes 1) (walked nodes 2) sound.ring) sound.ring.hot_path
  seen_last Warm = last_is nodes 1 (walked nodes 1) 2 (lit< tt) (no_ends_warm nodes (walked nodes 0) (walked nodes 1) (walked nodes 2) sound.ring) sound.ring.warm_path
  seen_last Cold = last_is nodes 2 (walked nodes 2) 0 (lit< tt) (no_ends_cold nodes (walked nodes 0) (walked nodes 1) (walked nodes 2) sound.ring) sound.ring.cold_path

  -- the last card of a segment, by the link back from the end after it
  pub last_read : (segment : Segment) → last_card (list_of segment value) ≡ some_card nodes (prev_of nodes (end_after segment))
  last_read segment = subst (λ (l : SegmentLists). last_card (list_of segment l) ≡ some_card nodes (prev_of nodes (end_after segment))) is (seen_last segment)

-- the first of three answers that there is, where two are none
first_some : (o : Option ItemId) → option_or o (option_or None None) ≡ o
first_some None = refl
first_some (Some x) = refl

second_some : (o : Option ItemId) → option_or None (option_or o None) ≡ o
second_some None = refl
second_some (Some x) = refl

three_of : (a b c a' b' c' : Option ItemId) → a ≡ a' → b ≡ b' → c ≡ c' → option_or a (option_or b c) ≡ option_or a' (option_or b' c')
three_of a b c a' b' c' ea eb ec = cc

module _ (nodes : List Node) (hot warm cold : List ℕ) (ring : IsRing nodes hot warm cold) (item : ItemId) where
  none_in : (bit : Home → ℕ) (xs : List ℕ) → ((u : ℕ) → count_of u xs ≡ bit (home_of nodes u)) → (home : Home) → home_of nodes (item.key + 3) ≡ home → bit home ≡ 0 → count_of (item.key + 3) xs ≡ 0
  none_in bit xs counted home at none = counted (item.key + 3) ∙ ap bit at ∙ none

  some_in : (bit : Home → ℕ) (xs : List ℕ) → ((u : ℕ) → count_of u xs ≡ bit (home_of nodes u)) → (home : Home) → home_of nodes (item.key + 3) ≡ home → bit home ≡ 1 → 0 < count_of (item.key + 3) xs
  some_in bit xs counted home at one = omega (arith, counted (item.key + 3), ap bit at, one)

  start_none : (a : ℕ) → a < 3 → item_of a ≡ None
  start_none a low = let e : ltb a 3 ≡ true = lt-ltb a 3 low in rw e refl

  before_by : (home : Home) → home_of nodes (item.key + 3) ≡ home → (home ≡ Nowhere → ⊥) → option_or (before_from None item (cards_at nodes hot)) (option_or (before_from None item (cards_at nodes warm)) (before_from None item (cards_at nodes cold))) ≡ item_of (prev_of nodes (item.key + 3))
  before_by InHot at some =
      three_of _ _ _ _ _ _
      (before_there nodes item 0 hot 1 (no_ends_hot nodes hot warm cold ring) (some_in in_hot hot ring.hot_count InHot at refl) ring.hot_path)
      (before_absent nodes item None warm (no_ends_warm nodes hot warm cold ring) (none_in in_warm warm ring.warm_count InHot at refl))
      (before_absent nodes item None cold (no_ends_cold nodes hot warm cold ring) (none_in in_cold cold ring.cold_count InHot at refl))
      ∙ first_some (item_of (prev_of nodes (item.key + 3)))
  before_by InWarm at some =
      three_of _ _ _ _ _ _
      (before_absent nodes item None hot (no_ends_hot nodes hot warm cold ring) (none_in in_hot hot ring.hot_count InWarm at refl))
      (before_there nodes item 1 warm 2 (no_ends_warm nodes hot warm cold ring) (some_in in_warm warm ring.warm_count InWarm at refl) ring.warm_path)
      (before_absent nodes item None cold (no_ends_cold nodes hot warm cold ring) (none_in in_cold cold ring.cold_count InWarm at refl))
      ∙ second_some (item_of (prev_of nodes (item.key + 3)))
  before_by InCold at some =
      three_of _ _ _ _ _ _
      (before_absent nodes item None hot (no_ends_hot nodes hot warm cold ring) (none_in in_hot hot ring.hot_count InCold at refl))
      (before_absent nodes item None warm (no_ends_warm nodes hot warm cold ring) (none_in in_warm warm ring.warm_count InCold at refl))
      (before_there nodes item 2 cold 0 (no_ends_cold nodes hot warm cold ring) (some_in in_cold cold ring.cold_count InCold at refl) ring.cold_path)
  before_by Nowhere at some = absurd (some refl)

module _ (nodes : List Node) (hb wb cb memory : ℕ) (item : ItemId) (value : SegmentLists) (sound : IsSound nodes hb wb cb) (is : seen nodes memory ≡ value) where
  -- an item has a card where its node is in a list
  card_there : HasCard value item → home_of nodes (item.key + 3) ≡ Nowhere → ⊥
  card_there some at = omega (arith, subst (λ (l : SegmentLists). HasCard l item) (sym is) some, cards_by_home nodes memory (walked nodes 0) (walked nodes 1) (walked nodes 2) sound.ring item, ap (λ h. in_hot h + in_warm h + in_cold h) at)

  listed_of : (h : Home) → 0 < in_hot h + in_warm h + in_cold h → is_listed h ≡ true
  listed_of InHot some = refl
  listed_of InWarm some = refl
  listed_of InCold some = refl
  listed_of Nowhere some = absurd (omega arith)

  of_listed : (h : Home) → is_listed h ≡ true → 0 < in_hot h + in_warm h + in_cold h
  of_listed InHot is = lit< tt
  of_listed InWarm is = lit< tt
  of_listed InCold is = lit< tt
  of_listed Nowhere is = absurd (cc)

  pub there_card : (is_listed (home_of nodes (item.key + 3)) ≡ true) ↔ HasCard value item
  there_card =
      let counted = cards_by_home nodes memory (walked nodes 0) (walked nodes 1) (walked nodes 2) sound.ring item in (
        λ listed. subst (λ (l : SegmentLists). HasCard l item) is (omega (arith, of_listed (home_of nodes (item.key + 3)) listed, counted)),
        λ some. listed_of (home_of nodes (item.key + 3)) (omega (arith, subst (λ (l : SegmentLists). HasCard l item) (sym is) some, counted)),
      )

  pub before_read : HasCard value item → before item value ≡ item_of (prev_of nodes (item.key + 3))
  before_read some = subst (λ (l : SegmentLists). before item l ≡ item_of (prev_of nodes (item.key + 3))) is
      (before_by nodes (walked nodes 0) (walked nodes 1) (walked nodes 2) sound.ring item (home_of nodes (item.key + 3)) refl (card_there some))

module _ (nodes : List Node) (hb wb cb memory : ℕ) (value : SegmentLists) (sound : IsSound nodes hb wb cb) (is : seen nodes memory ≡ value) where
  -- the last number of a segment has a node, unless it is an end
  pub last_inside : (segment : Segment) → 3 ≤ prev_of nodes (end_after segment) → prev_of nodes (end_after segment) < length nodes
  last_inside segment above = elim (cases_lt (length nodes) 3) [
    | inl short ↦ absurd (omega (arith, sound.ring.prev_inside (end_after segment) 3 (lit≤ tt) (omega arith)))
    | inr long ↦ sound.ring.prev_inside (end_after segment) (length nodes) long (omega arith)
  ]

  -- the card of a number that has a node is of an item below the spare
  pub card_room : (number : ℕ) → (3 ≤ number → number < length nodes) → IfSome (some_card nodes number) (λ card. card.item.key < value.spare)
  card_room number inside = elim (cases_lt number 3) [
    | inl low ↦
        (let e : ltb number 3 ≡ true = lt-ltb number 3 low in
        let none : some_card nodes number ≡ None = rw e refl in
        subst (λ (o : Option Card). IfSome o (λ card. card.item.key < value.spare)) (sym none) tt)
    | inr high ↦
        (let e : ltb number 3 ≡ false = le-ltb number 3 high in
        let some : some_card nodes number ≡ Some (card_at nodes number) = rw e refl in
        subst (λ (o : Option Card). IfSome o (λ card. card.item.key < value.spare)) (sym some) (omega (arith, inside high, ap (λ (l : SegmentLists). l.spare) is)))
  ]

  pub hot_bytes_read : bytes value.hot ≡ hb
  hot_bytes_read = ap (λ (l : SegmentLists). bytes l.hot) (sym is) ∙ bytes_is nodes (walked nodes 0) ∙ sym sound.hot_sum

  pub warm_bytes_read : bytes value.warm ≡ wb
  warm_bytes_read = ap (λ (l : SegmentLists). bytes l.warm) (sym is) ∙ bytes_is nodes (walked nodes 1) ∙ sym sound.warm_sum

  pub load_read : load_of value ≡ hb + wb + cb
  load_read = omega (arith, hot_bytes_read, warm_bytes_read, ap (λ (l : SegmentLists). bytes l.cold) (sym is), bytes_is nodes (walked nodes 2), sound.cold_sum)

  pub memory_read : value.memory ≡ memory
  memory_read = ap (λ (l : SegmentLists). l.memory) (sym is)

  pub grows : (new : List Node) → length nodes ≤ length new → length new ≤ 2 ^ 32 → ((u : ℕ) → node_at new u ≡ node_at nodes u) → Closed new hb wb cb memory (record value { spare = length new - 3 })
  grows new long short same =
      subst (λ (l : SegmentLists). Closed new hb wb cb memory (record l { spare = length new - 3 })) is
      (grow_closed nodes new hb wb cb memory _ _ _ sound long short same)

pub hot_small : (h : Home) (size : ℕ) → size < 2 ^ 32 → in_hot h * size < 2 ^ 32
hot_small InHot size fits = omega arith
hot_small InWarm size fits = omega arith
hot_small InCold size fits = omega arith
hot_small Nowhere size fits = omega arith

pub warm_small : (h : Home) (size : ℕ) → size < 2 ^ 32 → in_warm h * size < 2 ^ 32
warm_small InHot size fits = omega arith
warm_small InWarm size fits = omega arith
warm_small InCold size fits = omega arith
warm_small Nowhere size fits = omega arith

pub cold_small : (h : Home) (size : ℕ) → size < 2 ^ 32 → in_cold h * size < 2 ^ 32
cold_small InHot size fits = omega arith
cold_small InWarm size fits = omega arith
cold_small InCold size fits = omega arith
cold_small Nowhere size fits = omega arith
