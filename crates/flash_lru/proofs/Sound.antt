-- What `Segments` keeps, and what a contract sees of it, after each change of the nodes.
use Rattle.std.proofs.Common.{◌≡◌, ℕ, ◌+◌, ◌-◌, ◌*◌, ◌^◌, ◌<◌, ◌≤◌, List, ◌++◌, length, refl, sym, ◌∙◌, ap, subst, arith, mul-le-mul_right}
use Rattle.flash_names.specs.declared.place.ItemId.{ItemId}
use Rattle.flash_lru.specs.declared.card.Card.{Card}
use Rattle.flash_lru.specs.declared.node.Node.{Node}
use Rattle.flash_lru.specs.declared.node.Home.{Home}
use Rattle.flash_lru.specs.Lists.{SegmentLists, cards_of, HasCard}
use Rattle.flash_lru.specs.Moves.{removed, without}
use Rattle.flash_lru.specs.Ring.{node_at, next_of, prev_of, home_of, size_of, card_at, cards_at, walked, lists_at, count_of, weight, in_hot, in_warm, in_cold, unlinked, HasNode, IsRing, Links, IsSound}
use Rattle.flash_lru.proofs.Lists.{other_than, count_other_same}
use Rattle.flash_lru.proofs.Nodes.{unlinked_long, unlinked_else}
use Rattle.flash_lru.proofs.Cards.{cards_other, count_cards, cards_same}
use Rattle.flash_lru.proofs.Sums.{weight_append, weight_same, weight_other, weight_below}
use Rattle.flash_lru.proofs.Rings.{IsPresent, no_ends_hot, no_ends_warm, no_ends_cold, stored, long_all, walk_hot, walk_warm, walk_cold, counts, ring_cut}

-- what a contract sees, by the lists that the nodes link
pub view_of : (nodes : List Node) (memory : ℕ) (hot warm cold : List ℕ) → IsRing nodes hot warm cold → lists_at nodes memory (walked nodes 0) (walked nodes 1) (walked nodes 2) ≡ lists_at nodes memory hot warm cold
view_of nodes memory hot warm cold ring =
    ap (λ l. lists_at nodes memory l (walked nodes 1) (walked nodes 2)) (walk_hot nodes hot warm cold ring)
    ∙ ap (λ l. lists_at nodes memory hot l (walked nodes 2)) (walk_warm nodes hot warm cold ring)
    ∙ ap (λ l. lists_at nodes memory hot warm l) (walk_cold nodes hot warm cold ring)

-- links of any three lists are the links of those that are walked
pub sound_of : (nodes : List Node) (hb wb cb : ℕ) (hot warm cold : List ℕ) → Links nodes hb wb cb hot warm cold → IsSound nodes hb wb cb
sound_of nodes hb wb cb hot warm cold links =
    subst (λ l. Links nodes hb wb cb l (walked nodes 1) (walked nodes 2)) (sym (walk_hot nodes hot warm cold links.ring))
    (subst (λ l. Links nodes hb wb cb hot l (walked nodes 2)) (sym (walk_warm nodes hot warm cold links.ring))
    (subst (λ l. Links nodes hb wb cb hot warm l) (sym (walk_cold nodes hot warm cold links.ring)) links))

pub same_lists_of : (h h' w w' c c' : List Card) (s s' m : ℕ) → h ≡ h' → w ≡ w' → c ≡ c' → s ≡ s' → (let l : SegmentLists = record { hot = h; warm = w; cold = c; spare = s; memory = m } in l) ≡ record { hot = h'; warm = w'; cold = c'; spare = s'; memory = m }
same_lists_of h h' w w' c c' s s' m eh ew ec es = cc

module _ (nodes : List Node) (memory : ℕ) (hot warm cold : List ℕ) (ring : IsRing nodes hot warm cold) (item : ItemId) where
  -- how many cards an item has, by its number
  pub cards_counted : cards_of item (lists_at nodes memory hot warm cold) ≡ count_of (item.key + 3) hot + count_of (item.key + 3) warm + count_of (item.key + 3) cold
  cards_counted = omega (
    arith,
    count_cards nodes item hot (no_ends_hot nodes hot warm cold ring),
    count_cards nodes item warm (no_ends_warm nodes hot warm cold ring),
    count_cards nodes item cold (no_ends_cold nodes hot warm cold ring),
  )

  pub cards_by_home : cards_of item (lists_at nodes memory hot warm cold) ≡ in_hot (home_of nodes (item.key + 3)) + in_warm (home_of nodes (item.key + 3)) + in_cold (home_of nodes (item.key + 3))
  cards_by_home = cards_counted ∙ counts nodes hot warm cold ring (item.key + 3)

  pub present_of : HasCard (lists_at nodes memory hot warm cold) item → IsPresent (item.key + 3) hot warm cold
  present_of some = omega (arith, cards_counted)

  pub inside_of : HasCard (lists_at nodes memory hot warm cold) item → item.key + 3 < length nodes
  inside_of some = stored nodes hot warm cold ring (item.key + 3) (λ nowhere. omega (arith, cards_by_home, ap (λ h. in_hot h + in_warm h + in_cold h) nowhere))

-- the invariant holds, and this is what a contract sees
pub record Closed (nodes : List Node) (hb wb cb memory : ℕ) (value : SegmentLists) : Type 0 where
  pub sound : IsSound nodes hb wb cb
  pub view : lists_at nodes memory (walked nodes 0) (walked nodes 1) (walked nodes 2) ≡ value

pub closed_of : (nodes : List Node) (hb wb cb memory : ℕ) (hot warm cold : List ℕ) (value : SegmentLists) → Links nodes hb wb cb hot warm cold → lists_at nodes memory hot warm cold ≡ value → Closed nodes hb wb cb memory value
closed_of nodes hb wb cb memory hot warm cold value links is = record {
  sound = sound_of nodes hb wb cb hot warm cold links;
  view = view_of nodes memory hot warm cold links.ring ∙ is;
}

-- each number below the length has a node
pub node_in : (nodes : List Node) (hb wb cb : ℕ) → IsSound nodes hb wb cb → (x : ℕ) → 3 ≤ length nodes → x < length nodes → HasNode nodes x
node_in nodes hb wb cb sound x long inside = record {
  inside = inside;
  next = sound.ring.next_inside x (length nodes) long (omega arith);
  prev = sound.ring.prev_inside x (length nodes) long (omega arith);
  short = sound.short;
}

-- so has the item of a card
pub card_node : (nodes : List Node) (hb wb cb memory : ℕ) (item : ItemId) → IsSound nodes hb wb cb → HasCard (lists_at nodes memory (walked nodes 0) (walked nodes 1) (walked nodes 2)) item → HasNode nodes (item.key + 3)
card_node nodes hb wb cb memory item sound some =
    let inside : item.key + 3 < length nodes = inside_of nodes memory (walked nodes 0) (walked nodes 1) (walked nodes 2) sound.ring item some in
    node_in nodes hb wb cb sound (item.key + 3) (omega arith) inside

part_of : (bit : Home → ℕ) (nodes : List Node) (x bytes : ℕ) (xs : List ℕ) → bytes ≡ weight nodes xs → count_of x xs ≡ bit (home_of nodes x) → weight nodes (other_than x xs) + bit (home_of nodes x) * size_of nodes x ≡ bytes
part_of bit nodes x bytes xs sum counted =
    let times : count_of x xs * size_of nodes x ≡ bit (home_of nodes x) * size_of nodes x = ap (λ k. k * size_of nodes x) counted in
    omega (arith, weight_other nodes x xs, times)

-- the bytes of a list contain the number's, and have room for another size
pub hot_part : (nodes : List Node) (hb wb cb x : ℕ) → IsSound nodes hb wb cb → in_hot (home_of nodes x) * size_of nodes x ≤ hb
hot_part nodes hb wb cb x sound = omega (arith, part_of in_hot nodes x hb (walked nodes 0) sound.hot_sum (sound.ring.hot_count x))

pub warm_part : (nodes : List Node) (hb wb cb x : ℕ) → IsSound nodes hb wb cb → in_warm (home_of nodes x) * size_of nodes x ≤ wb
warm_part nodes hb wb cb x sound = omega (arith, part_of in_warm nodes x wb (walked nodes 1) sound.warm_sum (sound.ring.warm_count x))

pub cold_part : (nodes : List Node) (hb wb cb x : ℕ) → IsSound nodes hb wb cb → in_cold (home_of nodes x) * size_of nodes x ≤ cb
cold_part nodes hb wb cb x sound = omega (arith, part_of in_cold nodes x cb (walked nodes 2) sound.cold_sum (sound.ring.cold_count x))

small_sum : (n bytes : ℕ) → n ≤ 2 ^ 32 → bytes ≤ n * (2 ^ 32 - 1) → bytes ≤ 2 ^ 64 - 2 ^ 32
small_sum n bytes few sum = omega (arith, mul-le-mul_right (2 ^ 32 - 1) few)

-- the sizes of all cards, with another one, are below 2^64
pub room : (nodes : List Node) (hb wb cb : ℕ) → IsSound nodes hb wb cb → hb + wb + cb ≤ 2 ^ 64 - 2 ^ 32
room nodes hb wb cb sound =
    let all : List ℕ = walked nodes 0 ++ (walked nodes 1 ++ walked nodes 2) in
    let long : length (walked nodes 0 ++ (walked nodes 1 ++ walked nodes 2)) ≤ length nodes = long_all nodes (walked nodes 0) (walked nodes 1) (walked nodes 2) sound.ring in
    small_sum (length (walked nodes 0 ++ (walked nodes 1 ++ walked nodes 2))) (hb + wb + cb) (omega (arith, sound.short, long))
    (omega (
      arith,
      sound.hot_sum,
      sound.warm_sum,
      sound.cold_sum,
      weight_append nodes (walked nodes 0) (walked nodes 1 ++ walked nodes 2),
      weight_append nodes (walked nodes 1) (walked nodes 2),
      weight_below nodes (2 ^ 32 - 1) (walked nodes 0 ++ (walked nodes 1 ++ walked nodes 2)) (λ u. omega (arith, sound.ring.small u)),
    ))

-- a card is taken away
module _ (nodes : List Node) (hb wb cb memory hot_left warm_left cold_left : ℕ) (item : ItemId) (hot warm cold : List ℕ) (links : Links nodes hb wb cb hot warm cold) (some : HasCard (lists_at nodes memory hot warm cold) item) (hot_is : hot_left + in_hot (home_of nodes (item.key + 3)) * size_of nodes (item.key + 3) ≡ hb) (warm_is : warm_left + in_warm (home_of nodes (item.key + 3)) * size_of nodes (item.key + 3) ≡ wb) (cold_is : cold_left + in_cold (home_of nodes (item.key + 3)) * size_of nodes (item.key + 3) ≡ cb) where
  cut_inside : item.key + 3 < length nodes
  cut_inside = inside_of nodes memory hot warm cold links.ring item some

  cut_next : next_of nodes (item.key + 3) < length nodes
  cut_next = let inside = cut_inside in links.ring.next_inside (item.key + 3) (length nodes) (omega arith) (omega arith)

  cut_prev : prev_of nodes (item.key + 3) < length nodes
  cut_prev = let inside = cut_inside in links.ring.prev_inside (item.key + 3) (length nodes) (omega arith) (omega arith)

  cut_sizes : (u : ℕ) → (u ≡ item.key + 3 → ⊥) → size_of (unlinked (item.key + 3) nodes) u ≡ size_of nodes u
  cut_sizes = unlinked_else nodes (item.key + 3) cut_inside cut_next cut_prev (λ v. v.size) (λ _ _. refl) (λ _ _. refl)

  cut_actives : (u : ℕ) → (u ≡ item.key + 3 → ⊥) → (node_at (unlinked (item.key + 3) nodes) u).active ≡ (node_at nodes u).active
  cut_actives = unlinked_else nodes (item.key + 3) cut_inside cut_next cut_prev (λ v. v.active) (λ _ _. refl) (λ _ _. refl)

  cut_cards : (u : ℕ) → (u ≡ item.key + 3 → ⊥) → card_at (unlinked (item.key + 3) nodes) u ≡ card_at nodes u
  cut_cards u n = cc (cut_sizes u n, cut_actives u n)

  cut_list : (xs : List ℕ) → ((u : ℕ) → u < 3 → count_of u xs ≡ 0) → cards_at (unlinked (item.key + 3) nodes) (other_than (item.key + 3) xs) ≡ without item (cards_at nodes xs)
  cut_list xs none = cards_same nodes (unlinked (item.key + 3) nodes) (item.key + 3) (other_than (item.key + 3) xs) cut_cards (count_other_same (item.key + 3) xs) ∙ cards_other nodes item xs none

  cut_weight : (xs : List ℕ) → weight (unlinked (item.key + 3) nodes) (other_than (item.key + 3) xs) ≡ weight nodes (other_than (item.key + 3) xs)
  cut_weight xs = weight_same nodes (unlinked (item.key + 3) nodes) (item.key + 3) (other_than (item.key + 3) xs) cut_sizes (count_other_same (item.key + 3) xs)

  cut_links : Links (unlinked (item.key + 3) nodes) hot_left warm_left cold_left (other_than (item.key + 3) hot) (other_than (item.key + 3) warm) (other_than (item.key + 3) cold)
  cut_links = record {
    ring = ring_cut nodes hot warm cold (item.key + 3) links.ring (omega arith) cut_inside (present_of nodes memory hot warm cold links.ring item some);
    hot_sum = omega (arith, hot_is, part_of in_hot nodes (item.key + 3) hb hot links.hot_sum (links.ring.hot_count (item.key + 3)), cut_weight hot);
    warm_sum = omega (arith, warm_is, part_of in_warm nodes (item.key + 3) wb warm links.warm_sum (links.ring.warm_count (item.key + 3)), cut_weight warm);
    cold_sum = omega (arith, cold_is, part_of in_cold nodes (item.key + 3) cb cold links.cold_sum (links.ring.cold_count (item.key + 3)), cut_weight cold);
    short = omega (arith, links.short, unlinked_long nodes (item.key + 3) cut_inside cut_next cut_prev);
  }

  pub cut_closed : Closed (unlinked (item.key + 3) nodes) hot_left warm_left cold_left memory (removed item (lists_at nodes memory hot warm cold))
  cut_closed = closed_of _ hot_left warm_left cold_left memory _ _ _ _ cut_links (same_lists_of _ _ _ _ _ _ _ _ memory
      (cut_list hot (no_ends_hot nodes hot warm cold links.ring))
      (cut_list warm (no_ends_warm nodes hot warm cold links.ring))
      (cut_list cold (no_ends_cold nodes hot warm cold links.ring))
      (ap (λ k. k - 3) (unlinked_long nodes (item.key + 3) cut_inside cut_next cut_prev)))
