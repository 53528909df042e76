-- What `Segments` keeps after a card is changed where it is, and after blank nodes are added.
use Rattle.std.proofs.Common.{◌≡◌, ℕ, ◌+◌, ◌-◌, ◌*◌, ◌^◌, ◌<◌, ◌≤◌, List, [], ◌∷◌, length, set, refl, sym, ◌∙◌, ap, arith, length-set}
use Rattle.flash_names.specs.declared.place.ItemId.{ItemId}
use Rattle.flash_lru.specs.declared.card.Card.{Card}
use Rattle.flash_lru.specs.declared.node.Node.{Node}
use Rattle.flash_lru.specs.declared.node.Home.{Home}
use Rattle.flash_lru.specs.Moves.{with_change, changed}
use Rattle.flash_lru.specs.Ring.{node_at, home_of, size_of, card_at, cards_at, lists_at, count_of, weight, in_hot, in_warm, in_cold, IsRing, Links}
use Rattle.flash_lru.proofs.Nodes.{node_at_same, node_at_other, field_kept, bound_kept}
use Rattle.flash_lru.proofs.Cards.{NoEnds, cards_changed}
use Rattle.flash_lru.proofs.Sums.{weight_changed}
use Rattle.flash_lru.proofs.Rings.{no_ends_hot, no_ends_warm, no_ends_cold}
use Rattle.flash_lru.proofs.Joins.{ring_same}
use Rattle.flash_lru.proofs.Sound.{Closed, closed_of, same_lists_of}

-- the new node has the links and the home of the old one
pub record SameLinks (old new : Node) : Type 0 where
  pub next : new.next ≡ old.next
  pub prev : new.prev ≡ old.prev
  pub home : new.home ≡ old.home

module _ (nodes : List Node) (hb wb cb memory hot_now warm_now cold_now : ℕ) (item : ItemId) (node : Node) (change : Card → Card) (hot warm cold : List ℕ) (links : Links nodes hb wb cb hot warm cold) (inside : item.key + 3 < length nodes) (same : SameLinks (node_at nodes (item.key + 3)) node) (fits : node.size < 2 ^ 32) where
  change_cards : (u : ℕ) → (u ≡ item.key + 3 → ⊥) → card_at (set nodes (item.key + 3) node) u ≡ card_at nodes u
  change_cards u n = let e = node_at_other nodes (item.key + 3) node u n in cc (ap (λ v. v.size) e, ap (λ v. v.active) e)

  change_sizes : (u : ℕ) → (u ≡ item.key + 3 → ⊥) → size_of (set nodes (item.key + 3) node) u ≡ size_of nodes u
  change_sizes u n = ap (λ v. v.size) (node_at_other nodes (item.key + 3) node u n)

  change_there : node_at (set nodes (item.key + 3) node) (item.key + 3) ≡ node
  change_there = node_at_same nodes (item.key + 3) node inside

  change_ring : IsRing (set nodes (item.key + 3) node) hot warm cold
  change_ring = ring_same nodes (set nodes (item.key + 3) node) hot warm cold
      (omega (arith, length-set nodes (item.key + 3) node))
      (field_kept (λ v. v.next) nodes (item.key + 3) node inside same.next)
      (field_kept (λ v. v.prev) nodes (item.key + 3) node inside same.prev)
      (field_kept (λ v. v.home) nodes (item.key + 3) node inside same.home)
      (bound_kept (λ v. v.size) (2 ^ 32) nodes (item.key + 3) node inside fits links.ring.small)
      links.ring

  change_sum : (bit : Home → ℕ) (bytes now : ℕ) (xs : List ℕ) → bytes ≡ weight nodes xs → count_of (item.key + 3) xs ≡ bit (home_of nodes (item.key + 3)) → now + bit (home_of nodes (item.key + 3)) * size_of nodes (item.key + 3) ≡ bytes + bit (home_of nodes (item.key + 3)) * node.size → now ≡ weight (set nodes (item.key + 3) node) xs
  change_sum bit bytes now xs sum counted is =
      let step : weight (set nodes (item.key + 3) node) xs + count_of (item.key + 3) xs * size_of nodes (item.key + 3) ≡ weight nodes xs + count_of (item.key + 3) xs * size_of (set nodes (item.key + 3) node) (item.key + 3) = weight_changed nodes (set nodes (item.key + 3) node) (item.key + 3) xs change_sizes in
      let was : count_of (item.key + 3) xs * size_of nodes (item.key + 3) ≡ bit (home_of nodes (item.key + 3)) * size_of nodes (item.key + 3) = ap (λ k. k * size_of nodes (item.key + 3)) counted in
      let there : count_of (item.key + 3) xs * size_of (set nodes (item.key + 3) node) (item.key + 3) ≡ count_of (item.key + 3) xs * node.size = ap (λ v. count_of (item.key + 3) xs * v.size) change_there in
      let will : count_of (item.key + 3) xs * node.size ≡ bit (home_of nodes (item.key + 3)) * node.size = ap (λ k. k * node.size) counted in
      omega (arith, step, was, there, will, sum, is)

  change_list : card_at (set nodes (item.key + 3) node) (item.key + 3) ≡ change (card_at nodes (item.key + 3)) → (xs : List ℕ) → NoEnds xs → cards_at (set nodes (item.key + 3) node) xs ≡ with_change item change (cards_at nodes xs)
  change_list is xs none = cards_changed nodes (set nodes (item.key + 3) node) item change xs change_cards is none

  -- a card is changed where it is
  pub change_closed : (now : Card) → record { item = record { key = item.key + 3 - 3 }; size = node.size; active = node.active } ≡ now → now ≡ change (card_at nodes (item.key + 3)) → hot_now + in_hot (home_of nodes (item.key + 3)) * size_of nodes (item.key + 3) ≡ hb + in_hot (home_of nodes (item.key + 3)) * node.size → warm_now + in_warm (home_of nodes (item.key + 3)) * size_of nodes (item.key + 3) ≡ wb + in_warm (home_of nodes (item.key + 3)) * node.size → cold_now + in_cold (home_of nodes (item.key + 3)) * size_of nodes (item.key + 3) ≡ cb + in_cold (home_of nodes (item.key + 3)) * node.size → Closed (set nodes (item.key + 3) node) hot_now warm_now cold_now memory (changed item change (lists_at nodes memory hot warm cold))
  change_closed now card is hot_is warm_is cold_is =
      let there : card_at (set nodes (item.key + 3) node) (item.key + 3) ≡ change (card_at nodes (item.key + 3)) =
      ap (λ (v : Node). let c : Card = record { item = record { key = item.key + 3 - 3 }; size = v.size; active = v.active } in c) change_there ∙ card ∙ is in
      closed_of _ hot_now warm_now cold_now memory hot warm cold _
      (record {
        ring = change_ring;
        hot_sum = change_sum in_hot hb hot_now hot links.hot_sum (links.ring.hot_count (item.key + 3)) hot_is;
        warm_sum = change_sum in_warm wb warm_now warm links.warm_sum (links.ring.warm_count (item.key + 3)) warm_is;
        cold_sum = change_sum in_cold cb cold_now cold links.cold_sum (links.ring.cold_count (item.key + 3)) cold_is;
        short = omega (arith, links.short, length-set nodes (item.key + 3) node);
      })
      (same_lists_of _ _ _ _ _ _ _ _ memory
      (change_list there hot (no_ends_hot nodes hot warm cold links.ring))
      (change_list there warm (no_ends_warm nodes hot warm cold links.ring))
      (change_list there cold (no_ends_cold nodes hot warm cold links.ring))
      (ap (λ k. k - 3) (length-set nodes (item.key + 3) node)))

cards_all : (old new : List Node) → ((u : ℕ) → node_at new u ≡ node_at old u) → (xs : List ℕ) → cards_at new xs ≡ cards_at old xs
cards_all old new same [] = refl
cards_all old new same (y ∷ ys) =
    let first : card_at new y ≡ card_at old y = cc (ap (λ v. v.size) (same y), ap (λ v. v.active) (same y)) in
    ap (λ c. c ∷ cards_at new ys) first ∙ ap (λ l. card_at old y ∷ l) (cards_all old new same ys)

weight_all : (old new : List Node) → ((u : ℕ) → node_at new u ≡ node_at old u) → (xs : List ℕ) → weight new xs ≡ weight old xs
weight_all old new same [] = refl
weight_all old new same (y ∷ ys) = omega (arith, ap (λ v. v.size) (same y), weight_all old new same ys)

-- blank nodes are added
pub grow_closed : (old new : List Node) (hb wb cb memory : ℕ) (hot warm cold : List ℕ) → Links old hb wb cb hot warm cold → length old ≤ length new → length new ≤ 2 ^ 32 → ((u : ℕ) → node_at new u ≡ node_at old u) → Closed new hb wb cb memory (record (lists_at old memory hot warm cold) { spare = length new - 3 })
grow_closed old new hb wb cb memory hot warm cold links long short same =
    closed_of new hb wb cb memory hot warm cold _
    (record {
      ring = ring_same old new hot warm cold long (λ u. ap (λ v. v.next) (same u)) (λ u. ap (λ v. v.prev) (same u)) (λ u. ap (λ v. v.home) (same u)) (λ u. omega (arith, ap (λ v. v.size) (same u), links.ring.small u)) links.ring;
      hot_sum = links.hot_sum ∙ sym (weight_all old new same hot);
      warm_sum = links.warm_sum ∙ sym (weight_all old new same warm);
      cold_sum = links.cold_sum ∙ sym (weight_all old new same cold);
      short = short;
    })
    (same_lists_of _ _ _ _ _ _ _ _ memory (cards_all old new same hot) (cards_all old new same warm) (cards_all old new same cold) refl)
