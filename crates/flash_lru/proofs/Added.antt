-- What `Segments` keeps after a card is put at a segment's front.
use Rattle.std.proofs.Common.{◌≡◌, ℕ, ◌+◌, ◌-◌, ◌*◌, ◌^◌, ◌<◌, Bool, false, List, ◌∷◌, length, refl, sym, ◌∙◌, ap, arith, lit<}
use Rattle.flash_names.specs.declared.place.ItemId.{ItemId}
use Rattle.flash_lru.specs.declared.segment.Segment.{Segment}
use Rattle.flash_lru.specs.declared.segment.Segment.TheVariants.{Hot, Warm, Cold}
use Rattle.flash_lru.specs.declared.card.Card.{Card}
use Rattle.flash_lru.specs.declared.node.Node.{Node}
use Rattle.flash_lru.specs.declared.node.Home.{Home}
use Rattle.flash_lru.specs.declared.node.Home.TheVariants.{InHot, InWarm, InCold, Nowhere}
use Rattle.flash_lru.specs.Card.{idle}
use Rattle.flash_lru.specs.Lists.{cards_of}
use Rattle.flash_lru.specs.Moves.{put_front}
use Rattle.flash_lru.specs.Ring.{node_at, next_of, home_of, size_of, card_at, cards_at, lists_at, count_of, weight, in_hot, in_warm, in_cold, home_in, end_of, linked, IsRing, Links}
use Rattle.flash_lru.proofs.Nodes.{linked_long, linked_else, linked_there}
use Rattle.flash_lru.proofs.Cards.{cards_same}
use Rattle.flash_lru.proofs.Sums.{weight_same}
use Rattle.flash_lru.proofs.Joins.{into_hot, into_warm, into_cold, ring_join}
use Rattle.flash_lru.proofs.Sound.{Closed, closed_of, same_lists_of, cards_by_home}

idle_card : (k key s size : ℕ) (a : Bool) → k ≡ key → s ≡ size → a ≡ false → (let c : Card = record { item = record { key = k }; size = s; active = a } in c) ≡ idle (record { key = key }) size
idle_card k key s size a ek es ea = cc

nowhere_of : (h : Home) → in_hot h + in_warm h + in_cold h ≡ 0 → h ≡ Nowhere
nowhere_of InHot e = absurd (omega arith)
nowhere_of InWarm e = absurd (omega arith)
nowhere_of InCold e = absurd (omega arith)
nowhere_of Nowhere e = refl

-- an item without a card has an unused node
pub unused_of : (nodes : List Node) (memory : ℕ) (hot warm cold : List ℕ) → IsRing nodes hot warm cold → (item : ItemId) → cards_of item (lists_at nodes memory hot warm cold) ≡ 0 → home_of nodes (item.key + 3) ≡ Nowhere
unused_of nodes memory hot warm cold ring item none = nowhere_of (home_of nodes (item.key + 3)) (sym (cards_by_home nodes memory hot warm cold ring item) ∙ none)

module _ (nodes : List Node) (hb wb cb memory : ℕ) (item : ItemId) (size : ℕ) (hot warm cold : List ℕ) (links : Links nodes hb wb cb hot warm cold) (inside : item.key + 3 < length nodes) (absent : home_of nodes (item.key + 3) ≡ Nowhere) (fits : size < 2 ^ 32) where
  end_inside : (s : ℕ) → s < 3 → s < length nodes
  end_inside s low = omega arith

  first_inside : (s : ℕ) → next_of nodes s < length nodes
  first_inside s = links.ring.next_inside s (length nodes) (omega arith) (omega arith)

  module _ (s : ℕ) (low : s < 3) (home : Home) where
    join_sizes : (u : ℕ) → (u ≡ item.key + 3 → ⊥) → size_of (linked (item.key + 3) s size home nodes) u ≡ size_of nodes u
    join_sizes = linked_else nodes (item.key + 3) s size home inside (end_inside s low) (first_inside s) (λ v. v.size) (λ _ _. refl) (λ _ _. refl)

    join_actives : (u : ℕ) → (u ≡ item.key + 3 → ⊥) → (node_at (linked (item.key + 3) s size home nodes) u).active ≡ (node_at nodes u).active
    join_actives = linked_else nodes (item.key + 3) s size home inside (end_inside s low) (first_inside s) (λ v. v.active) (λ _ _. refl) (λ _ _. refl)

    join_cards : (u : ℕ) → (u ≡ item.key + 3 → ⊥) → card_at (linked (item.key + 3) s size home nodes) u ≡ card_at nodes u
    join_cards u n = cc (join_sizes u n, join_actives u n)

    join_card : card_at (linked (item.key + 3) s size home nodes) (item.key + 3) ≡ idle item size
    join_card =
        let there = linked_there nodes (item.key + 3) s size home inside (end_inside s low) (first_inside s) in
        idle_card _ item.key _ size _ (omega arith) (ap (λ v. v.size) there) (ap (λ v. v.active) there)

    join_size : size_of (linked (item.key + 3) s size home nodes) (item.key + 3) ≡ size
    join_size = ap (λ v. v.size) (linked_there nodes (item.key + 3) s size home inside (end_inside s low) (first_inside s))

    join_long : length (linked (item.key + 3) s size home nodes) ≡ length nodes
    join_long = linked_long nodes (item.key + 3) s size home inside (end_inside s low) (first_inside s)

    -- the others of a list that hasn't the number
    join_kept : (xs : List ℕ) → count_of (item.key + 3) xs ≡ 0 → cards_at (linked (item.key + 3) s size home nodes) xs ≡ cards_at nodes xs
    join_kept xs none = cards_same nodes (linked (item.key + 3) s size home nodes) (item.key + 3) xs join_cards none

    join_weight : (xs : List ℕ) → count_of (item.key + 3) xs ≡ 0 → weight (linked (item.key + 3) s size home nodes) xs ≡ weight nodes xs
    join_weight xs none = weight_same nodes (linked (item.key + 3) s size home nodes) (item.key + 3) xs join_sizes none

  no_hot : count_of (item.key + 3) hot ≡ 0
  no_hot = links.ring.hot_count (item.key + 3) ∙ ap in_hot absent

  no_warm : count_of (item.key + 3) warm ≡ 0
  no_warm = links.ring.warm_count (item.key + 3) ∙ ap in_warm absent

  no_cold : count_of (item.key + 3) cold ≡ 0
  no_cold = links.ring.cold_count (item.key + 3) ∙ ap in_cold absent

  -- the number's new ring, with the sums that the two lists have now
  the_ring : (segment : Segment) → IsRing (linked (item.key + 3) (end_of segment) size (home_in segment) nodes) (into_hot segment (item.key + 3) hot) (into_warm segment (item.key + 3) warm) (into_cold segment (item.key + 3) cold)
  the_ring segment = ring_join segment nodes hot warm cold (item.key + 3) size links.ring (omega arith) inside absent fits

  add_hot : (hot_now warm_now cold_now : ℕ) → hot_now ≡ hb + size → warm_now ≡ wb → cold_now ≡ cb → Closed (linked (item.key + 3) 0 size InHot nodes) hot_now warm_now cold_now memory (put_front Hot (idle item size) (lists_at nodes memory hot warm cold))
  add_hot hot_now warm_now cold_now hot_is warm_is cold_is =
      let low : 0 < 3 = lit< tt in
      closed_of _ hot_now warm_now cold_now memory ((item.key + 3) ∷ hot) warm cold _
      (record {
        ring = the_ring Hot;
        hot_sum = omega (arith, hot_is, links.hot_sum, join_size 0 low InHot, join_weight 0 low InHot hot no_hot);
        warm_sum = omega (arith, warm_is, links.warm_sum, join_weight 0 low InHot warm no_warm);
        cold_sum = omega (arith, cold_is, links.cold_sum, join_weight 0 low InHot cold no_cold);
        short = omega (arith, links.short, join_long 0 low InHot);
      })
      (same_lists_of _ _ _ _ _ _ _ _ memory
      (ap (λ c. c ∷ cards_at (linked (item.key + 3) 0 size InHot nodes) hot) (join_card 0 low InHot) ∙ ap (λ l. idle item size ∷ l) (join_kept 0 low InHot hot no_hot))
      (join_kept 0 low InHot warm no_warm) (join_kept 0 low InHot cold no_cold) (ap (λ k. k - 3) (join_long 0 low InHot)))

  add_warm : (hot_now warm_now cold_now : ℕ) → hot_now ≡ hb → warm_now ≡ wb + size → cold_now ≡ cb → Closed (linked (item.key + 3) 1 size InWarm nodes) hot_now warm_now cold_now memory (put_front Warm (idle item size) (lists_at nodes memory hot warm cold))
  add_warm hot_now warm_now cold_now hot_is warm_is cold_is =
      let low : 1 < 3 = lit< tt in
      closed_of _ hot_now warm_now cold_now memory hot ((item.key + 3) ∷ warm) cold _
      (record {
        ring = the_ring Warm;
        hot_sum = omega (arith, hot_is, links.hot_sum, join_weight 1 low InWarm hot no_hot);
        warm_sum = omega (arith, warm_is, links.warm_sum, join_size 1 low InWarm, join_weight 1 low InWarm warm no_warm);
        cold_sum = omega (arith, cold_is, links.cold_sum, join_weight 1 low InWarm cold no_cold);
        short = omega (arith, links.short, join_long 1 low InWarm);
      })
      (same_lists_of _ _ _ _ _ _ _ _ memory
      (join_kept 1 low InWarm hot no_hot)
      (ap (λ c. c ∷ cards_at (linked (item.key + 3) 1 size InWarm nodes) warm) (join_card 1 low InWarm) ∙ ap (λ l. idle item size ∷ l) (join_kept 1 low InWarm warm no_warm))
      (join_kept 1 low InWarm cold no_cold) (ap (λ k. k - 3) (join_long 1 low InWarm)))

  add_cold : (hot_now warm_now cold_now : ℕ) → hot_now ≡ hb → warm_now ≡ wb → cold_now ≡ cb + size → Closed (linked (item.key + 3) 2 size InCold nodes) hot_now warm_now cold_now memory (put_front Cold (idle item size) (lists_at nodes memory hot warm cold))
  add_cold hot_now warm_now cold_now hot_is warm_is cold_is =
      let low : 2 < 3 = lit< tt in
      closed_of _ hot_now warm_now cold_now memory hot warm ((item.key + 3) ∷ cold) _
      (record {
        ring = the_ring Cold;
        hot_sum = omega (arith, hot_is, links.hot_sum, join_weight 2 low InCold hot no_hot);
        warm_sum = omega (arith, warm_is, links.warm_sum, join_weight 2 low InCold warm no_warm);
        cold_sum = omega (arith, cold_is, links.cold_sum, join_size 2 low InCold, join_weight 2 low InCold cold no_cold);
        short = omega (arith, links.short, join_long 2 low InCold);
      })
      (same_lists_of _ _ _ _ _ _ _ _ memory
      (join_kept 2 low InCold hot no_hot) (join_kept 2 low InCold warm no_warm)
      (ap (λ c. c ∷ cards_at (linked (item.key + 3) 2 size InCold nodes) cold) (join_card 2 low InCold) ∙ ap (λ l. idle item size ∷ l) (join_kept 2 low InCold cold no_cold))
      (ap (λ k. k - 3) (join_long 2 low InCold)))

-- a card is put at a segment's front
pub add_closed : (segment : Segment) (nodes : List Node) (hb wb cb memory : ℕ) (item : ItemId) (size : ℕ) (hot warm cold : List ℕ) → Links nodes hb wb cb hot warm cold → item.key + 3 < length nodes → home_of nodes (item.key + 3) ≡ Nowhere → size < 2 ^ 32 → (hot_now warm_now cold_now : ℕ) → hot_now ≡ hb + in_hot (home_in segment) * size → warm_now ≡ wb + in_warm (home_in segment) * size → cold_now ≡ cb + in_cold (home_in segment) * size → Closed (linked (item.key + 3) (end_of segment) size (home_in segment) nodes) hot_now warm_now cold_now memory (put_front segment (idle item size) (lists_at nodes memory hot warm cold))
add_closed Hot nodes hb wb cb memory item size hot warm cold links inside absent fits hot_now warm_now cold_now hot_is warm_is cold_is =
    add_hot nodes hb wb cb memory item size hot warm cold links inside absent fits hot_now warm_now cold_now (omega arith) (omega arith) (omega arith)
add_closed Warm nodes hb wb cb memory item size hot warm cold links inside absent fits hot_now warm_now cold_now hot_is warm_is cold_is =
    add_warm nodes hb wb cb memory item size hot warm cold links inside absent fits hot_now warm_now cold_now (omega arith) (omega arith) (omega arith)
add_closed Cold nodes hb wb cb memory item size hot warm cold links inside absent fits hot_now warm_now cold_now hot_is warm_is cold_is =
    add_cold nodes hb wb cb memory item size hot warm cold links inside absent fits hot_now warm_now cold_now (omega arith) (omega arith) (omega arith)
