-- The ring after a number is taken away, and after one is put at a list's front.
use Rattle.std.proofs.Common.{◌≡◌, ℕ, ◌+◌, ◌^◌, ◌<◌, ◌≤◌, List, ◌∷◌, ◌++◌, length, refl, sym, ◌∙◌, ap, subst, inl, inr, arith, lit<, lit≤}
use Rattle.std.proofs.lemmas.Bool.{cases_eq, cases_lt}
use Rattle.std.proofs.lemmas.List.{get_or_past}
use Rattle.flash_lru.specs.declared.node.Node.{Node}
use Rattle.flash_lru.specs.declared.node.Home.{Home}
use Rattle.flash_lru.specs.declared.node.Home.TheVariants.{InHot, InWarm, InCold, Nowhere}
use Rattle.flash_lru.specs.Ring.{blank, next_of, prev_of, home_of, size_of, unlinked, count_of, walked, in_hot, in_warm, in_cold, IsRing}
use Rattle.flash_lru.proofs.Lists.{count_append, other_than, count_here, count_else, count_other, count_other_same, length_below}
use Rattle.flash_lru.proofs.Paths.{IsLinked, linked_in, cut_path, walk_is}
use Rattle.flash_lru.proofs.Nodes.{unlinked_long, unlinked_else, unlinked_there, unlinked_cut, unlinked_bound}
use Rattle.flash_lru.proofs.Cards.{NoEnds}

in_hot_small : (h : Home) → in_hot h ≤ 1
in_hot_small InHot = lit≤ tt
in_hot_small InWarm = lit≤ tt
in_hot_small InCold = lit≤ tt
in_hot_small Nowhere = lit≤ tt

in_warm_small : (h : Home) → in_warm h ≤ 1
in_warm_small InHot = lit≤ tt
in_warm_small InWarm = lit≤ tt
in_warm_small InCold = lit≤ tt
in_warm_small Nowhere = lit≤ tt

in_cold_small : (h : Home) → in_cold h ≤ 1
in_cold_small InHot = lit≤ tt
in_cold_small InWarm = lit≤ tt
in_cold_small InCold = lit≤ tt
in_cold_small Nowhere = lit≤ tt

pub one_home : (h : Home) → in_hot h + in_warm h + in_cold h ≤ 1
one_home InHot = lit≤ tt
one_home InWarm = lit≤ tt
one_home InCold = lit≤ tt
one_home Nowhere = lit≤ tt

-- the number is in one of the lists
abbrev pub IsPresent : ℕ → List ℕ → List ℕ → List ℕ → Type 0
IsPresent x hot warm cold = 0 < count_of x hot + count_of x warm + count_of x cold

module _ (nodes : List Node) (hot warm cold : List ℕ) (ring : IsRing nodes hot warm cold) where
  -- no list has an end
  pub no_ends_hot : NoEnds hot
  no_ends_hot = λ u low. ring.hot_count u ∙ ap in_hot (ring.ends u low)

  pub no_ends_warm : NoEnds warm
  no_ends_warm = λ u low. ring.warm_count u ∙ ap in_warm (ring.ends u low)

  pub no_ends_cold : NoEnds cold
  no_ends_cold = λ u low. ring.cold_count u ∙ ap in_cold (ring.ends u low)

  -- a number that is in a list has a node
  pub stored : (u : ℕ) → (home_of nodes u ≡ Nowhere → ⊥) → u < length nodes
  stored u some = elim (cases_lt u (length nodes)) [
    | inl low ↦ low
    | inr past ↦ absurd (some (ap (λ v. v.home) (get_or_past nodes u (blank u) past)))
  ]

  below_hot : (u : ℕ) → length nodes ≤ u → count_of u hot ≡ 0
  below_hot u past = ring.hot_count u ∙ ap (λ v. in_hot v.home) (get_or_past nodes u (blank u) past)

  below_warm : (u : ℕ) → length nodes ≤ u → count_of u warm ≡ 0
  below_warm u past = ring.warm_count u ∙ ap (λ v. in_warm v.home) (get_or_past nodes u (blank u) past)

  below_cold : (u : ℕ) → length nodes ≤ u → count_of u cold ≡ 0
  below_cold u past = ring.cold_count u ∙ ap (λ v. in_cold v.home) (get_or_past nodes u (blank u) past)

  pub long_hot : length hot ≤ length nodes
  long_hot = length_below (length nodes) hot (λ u. omega (arith, ring.hot_count u, in_hot_small (home_of nodes u))) below_hot

  pub long_warm : length warm ≤ length nodes
  long_warm = length_below (length nodes) warm (λ u. omega (arith, ring.warm_count u, in_warm_small (home_of nodes u))) below_warm

  pub long_cold : length cold ≤ length nodes
  long_cold = length_below (length nodes) cold (λ u. omega (arith, ring.cold_count u, in_cold_small (home_of nodes u))) below_cold

  -- the three lists together have no more numbers than there are nodes
  pub long_all : length (hot ++ (warm ++ cold)) ≤ length nodes
  long_all = length_below (length nodes) (hot ++ (warm ++ cold))
      (λ u. omega (arith, count_append u hot (warm ++ cold), count_append u warm cold, ring.hot_count u, ring.warm_count u, ring.cold_count u, one_home (home_of nodes u)))
      (λ u past. omega (arith, count_append u hot (warm ++ cold), count_append u warm cold, below_hot u past, below_warm u past, below_cold u past))

  -- the walks give the lists
  pub walk_hot : walked nodes 0 ≡ hot
  walk_hot = walk_is (next_of nodes) (prev_of nodes) (length nodes) 0 hot 1 (lit< tt) no_ends_hot long_hot ring.hot_path

  pub walk_warm : walked nodes 1 ≡ warm
  walk_warm = walk_is (next_of nodes) (prev_of nodes) (length nodes) 1 warm 2 (lit< tt) no_ends_warm long_warm ring.warm_path

  pub walk_cold : walked nodes 2 ≡ cold
  walk_cold = walk_is (next_of nodes) (prev_of nodes) (length nodes) 2 cold 0 (lit< tt) no_ends_cold long_cold ring.cold_path

  pub counts : (x : ℕ) → count_of x hot + count_of x warm + count_of x cold ≡ in_hot (home_of nodes x) + in_warm (home_of nodes x) + in_cold (home_of nodes x)
  counts x = omega (arith, ring.hot_count x, ring.warm_count x, ring.cold_count x)

  pub ring_link : (x : ℕ) → 3 ≤ x → IsPresent x hot warm cold → IsLinked (next_of nodes) (prev_of nodes) x
  ring_link x above some = elim (cases_lt 0 (count_of x hot)) [
    | inl h ↦ linked_in (next_of nodes) (prev_of nodes) x 0 hot 1 (λ e. omega arith) h ring.hot_path
    | inr h ↦ elim (cases_lt 0 (count_of x warm)) [
      | inl w ↦ linked_in (next_of nodes) (prev_of nodes) x 1 warm 2 (λ e. omega arith) w ring.warm_path
      | inr w ↦ linked_in (next_of nodes) (prev_of nodes) x 2 cold 0 (λ e. omega arith) (omega arith) ring.cold_path
    ]
  ]

-- what is counted of a list, where the number is taken away from it
count_cut : (bit : Home → ℕ) (old new : List Node) (x : ℕ) (xs : List ℕ) → ((u : ℕ) → count_of u xs ≡ bit (home_of old u)) → bit Nowhere ≡ 0 → home_of new x ≡ Nowhere → ((u : ℕ) → (u ≡ x → ⊥) → home_of new u ≡ home_of old u) → (u : ℕ) → count_of u (other_than x xs) ≡ bit (home_of new u)
count_cut bit old new x xs counted none there same u = elim (cases_eq u x) [
  | inl e ↦ subst (λ k. count_of k (other_than x xs) ≡ bit (home_of new k)) (sym e) (count_other_same x xs ∙ sym none ∙ sym (ap bit there))
  | inr n ↦ count_other x u xs n ∙ counted u ∙ sym (ap bit (same u n))
]

-- what is counted of a list, where the number is put in another, and where it is put at its front
pub count_aside : (bit : Home → ℕ) (old new : List Node) (x : ℕ) (xs : List ℕ) → ((u : ℕ) → count_of u xs ≡ bit (home_of old u)) → bit (home_of old x) ≡ 0 → bit (home_of new x) ≡ 0 → ((u : ℕ) → (u ≡ x → ⊥) → home_of new u ≡ home_of old u) → (u : ℕ) → count_of u xs ≡ bit (home_of new u)
count_aside bit old new x xs counted was is same u = elim (cases_eq u x) [
  | inl e ↦ subst (λ k. count_of k xs ≡ bit (home_of new k)) (sym e) (counted x ∙ was ∙ sym is)
  | inr n ↦ counted u ∙ sym (ap bit (same u n))
]

pub count_front : (bit : Home → ℕ) (old new : List Node) (x : ℕ) (xs : List ℕ) → ((u : ℕ) → count_of u xs ≡ bit (home_of old u)) → bit (home_of old x) ≡ 0 → bit (home_of new x) ≡ 1 → ((u : ℕ) → (u ≡ x → ⊥) → home_of new u ≡ home_of old u) → (u : ℕ) → count_of u (x ∷ xs) ≡ bit (home_of new u)
count_front bit old new x xs counted was is same u = elim (cases_eq u x) [
  | inl e ↦ subst (λ k. count_of k (x ∷ xs) ≡ bit (home_of new k)) (sym e) (omega (arith, count_here x x xs refl, counted x, was, is))
  | inr n ↦ count_else u x xs (λ e. n (sym e)) ∙ counted u ∙ sym (ap bit (same u n))
]

pub ends_kept : (old new : List Node) (x : ℕ) → 3 ≤ x → ((u : ℕ) → u < 3 → home_of old u ≡ Nowhere) → ((u : ℕ) → (u ≡ x → ⊥) → home_of new u ≡ home_of old u) → (u : ℕ) → u < 3 → home_of new u ≡ Nowhere
ends_kept old new x above ends same u low = same u (λ e. omega arith) ∙ ends u low

-- a number of a list is taken away
pub ring_cut : (nodes : List Node) (hot warm cold : List ℕ) (x : ℕ) → IsRing nodes hot warm cold → 3 ≤ x → x < length nodes → IsPresent x hot warm cold → IsRing (unlinked x nodes) (other_than x hot) (other_than x warm) (other_than x cold)
ring_cut nodes hot warm cold x ring above inside some =
    let long : 3 ≤ length nodes = omega arith in
    let next_in : next_of nodes x < length nodes = ring.next_inside x (length nodes) long (omega arith) in
    let prev_in : prev_of nodes x < length nodes = ring.prev_inside x (length nodes) long (omega arith) in
    let cut = unlinked_cut nodes x inside next_in prev_in (ring_link nodes hot warm cold ring x above some) in
    let same = unlinked_else nodes x inside next_in prev_in (λ v. v.home) (λ _ _. refl) (λ _ _. refl) in
    let there : home_of (unlinked x nodes) x ≡ Nowhere = ap (λ v. v.home) (unlinked_there nodes x inside next_in prev_in) in
    let keeps : length (unlinked x nodes) ≡ length nodes = unlinked_long nodes x inside next_in prev_in in
    record {
      hot_path = cut_path _ _ _ _ x cut 0 hot 1 (λ e. omega arith) (λ e. omega arith) ring.hot_path;
      warm_path = cut_path _ _ _ _ x cut 1 warm 2 (λ e. omega arith) (λ e. omega arith) ring.warm_path;
      cold_path = cut_path _ _ _ _ x cut 2 cold 0 (λ e. omega arith) (λ e. omega arith) ring.cold_path;
      hot_count = count_cut in_hot nodes (unlinked x nodes) x hot ring.hot_count refl there same;
      warm_count = count_cut in_warm nodes (unlinked x nodes) x warm ring.warm_count refl there same;
      cold_count = count_cut in_cold nodes (unlinked x nodes) x cold ring.cold_count refl there same;
      ends = ends_kept nodes (unlinked x nodes) x above ring.ends same;
      next_inside = λ u b three within. unlinked_bound nodes x inside next_in prev_in (λ v. v.next) b (omega arith) (λ _ _ low _. low) (λ _ _ _ low. low) (omega arith) (omega arith) (λ k. ring.next_inside k b three (omega arith)) u;
      prev_inside = λ u b three within. unlinked_bound nodes x inside next_in prev_in (λ v. v.prev) b (omega arith) (λ _ _ _ low. low) (λ _ _ low _. low) (omega arith) (omega arith) (λ k. ring.prev_inside k b three (omega arith)) u;
      small = λ u. elim (cases_eq u x) [
        | inl e ↦ subst (λ k. size_of (unlinked x nodes) k < 2 ^ 32) (sym e) (subst (λ v. v.size < 2 ^ 32) (sym (unlinked_there nodes x inside next_in prev_in)) (lit< tt))
        | inr n ↦ subst (λ k. k < 2 ^ 32) (sym (unlinked_else nodes x inside next_in prev_in (λ v. v.size) (λ _ _. refl) (λ _ _. refl) u n)) (ring.small u)
      ];
    }
