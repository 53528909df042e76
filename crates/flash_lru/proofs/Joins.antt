-- The ring after a number is put at a list's front, and after a number's node is changed without its links.
use Rattle.std.proofs.Common.{◌≡◌, ℕ, ◌^◌, ◌<◌, ◌≤◌, List, ◌∷◌, length, refl, sym, ◌∙◌, ap, subst, inl, inr, arith, lit<}
use Rattle.std.proofs.lemmas.Bool.{cases_eq}
use Rattle.flash_lru.specs.declared.segment.Segment.{Segment}
use Rattle.flash_lru.specs.declared.segment.Segment.TheVariants.{Hot, Warm, Cold}
use Rattle.flash_lru.specs.declared.node.Node.{Node}
use Rattle.flash_lru.specs.declared.node.Home.{Home}
use Rattle.flash_lru.specs.declared.node.Home.TheVariants.{InHot, InWarm, InCold, Nowhere}
use Rattle.flash_lru.specs.Ring.{next_of, prev_of, home_of, size_of, linked, count_of, Path, in_hot, in_warm, in_cold, home_in, end_of, IsRing}
use Rattle.flash_lru.proofs.Paths.{Joint, kept_path, joint_path, head_back, first_other, path_same}
use Rattle.flash_lru.proofs.Nodes.{linked_long, linked_else, linked_there, linked_joint, linked_bound}
use Rattle.flash_lru.proofs.Rings.{no_ends_hot, no_ends_warm, no_ends_cold, count_aside, count_front, ends_kept}

-- the list with the number at its front, where it is the segment's
abbrev pub into_hot : Segment → ℕ → List ℕ → List ℕ
into_hot Hot x xs = x ∷ xs
into_hot Warm x xs = xs
into_hot Cold x xs = xs

abbrev pub into_warm : Segment → ℕ → List ℕ → List ℕ
into_warm Hot x xs = xs
into_warm Warm x xs = x ∷ xs
into_warm Cold x xs = xs

abbrev pub into_cold : Segment → ℕ → List ℕ → List ℕ
into_cold Hot x xs = xs
into_cold Warm x xs = xs
into_cold Cold x xs = x ∷ xs

module _ (nodes : List Node) (hot warm cold : List ℕ) (x size : ℕ) (ring : IsRing nodes hot warm cold) (above : 3 ≤ x) (inside : x < length nodes) (absent : home_of nodes x ≡ Nowhere) (fits : size < 2 ^ 32) where
  none_hot : count_of x hot ≡ 0
  none_hot = ring.hot_count x ∙ ap in_hot absent

  none_warm : count_of x warm ≡ 0
  none_warm = ring.warm_count x ∙ ap in_warm absent

  none_cold : count_of x cold ≡ 0
  none_cold = ring.cold_count x ∙ ap in_cold absent

  other_end : (s : ℕ) → s < 3 → s ≡ x → ⊥
  other_end s low e = omega arith

  after_end : (s : ℕ) → next_of nodes s < length nodes
  after_end s = ring.next_inside s (length nodes) (omega arith) (omega arith)

  -- what is the same for each of the three lists
  module _ (s : ℕ) (low : s < 3) (home : Home) where
    end_in : s < length nodes
    end_in = omega arith

    else_home : (u : ℕ) → (u ≡ x → ⊥) → home_of (linked x s size home nodes) u ≡ home_of nodes u
    else_home = linked_else nodes x s size home inside end_in (after_end s) (λ v. v.home) (λ _ _. refl) (λ _ _. refl)

    there_home : home_of (linked x s size home nodes) x ≡ home
    there_home = ap (λ v. v.home) (linked_there nodes x s size home inside end_in (after_end s))

    ends_after : (u : ℕ) → u < 3 → home_of (linked x s size home nodes) u ≡ Nowhere
    ends_after = ends_kept nodes (linked x s size home nodes) x above ring.ends else_home

    next_after : (u b : ℕ) → 3 ≤ b → length (linked x s size home nodes) ≤ b → next_of (linked x s size home nodes) u < b
    next_after u b three within =
        let long = linked_long nodes x s size home inside end_in (after_end s) in
        let first : next_of nodes s < length nodes = after_end s in
        linked_bound nodes x s size home inside end_in (after_end s) (λ v. v.next) b (omega arith) (λ _ _ small _. small) (λ _ _ _ small. small) (omega arith) (λ k. ring.next_inside k b three (omega arith)) u

    prev_after : (u b : ℕ) → 3 ≤ b → length (linked x s size home nodes) ≤ b → prev_of (linked x s size home nodes) u < b
    prev_after u b three within =
        let long = linked_long nodes x s size home inside end_in (after_end s) in
        linked_bound nodes x s size home inside end_in (after_end s) (λ v. v.prev) b (omega arith) (λ _ _ _ small. small) (λ _ _ small _. small) (omega arith) (λ k. ring.prev_inside k b three (omega arith)) u

    small_after : (u : ℕ) → size_of (linked x s size home nodes) u < 2 ^ 32
    small_after u = elim (cases_eq u x) [
      | inl e ↦ subst (λ k. size_of (linked x s size home nodes) k < 2 ^ 32) (sym e) (subst (λ v. v.size < 2 ^ 32) (sym (linked_there nodes x s size home inside end_in (after_end s))) fits)
      | inr n ↦ subst (λ k. k < 2 ^ 32) (sym (linked_else nodes x s size home inside end_in (after_end s) (λ v. v.size) (λ _ _. refl) (λ _ _. refl) u n)) (ring.small u)
    ]

    aside : (bit : Home → ℕ) (xs : List ℕ) → ((u : ℕ) → count_of u xs ≡ bit (home_of nodes u)) → bit Nowhere ≡ 0 → bit home ≡ 0 → (u : ℕ) → count_of u xs ≡ bit (home_of (linked x s size home nodes) u)
    aside bit xs counted none is = count_aside bit nodes (linked x s size home nodes) x xs counted (ap bit absent ∙ none) (ap bit there_home ∙ is) else_home

    front : (bit : Home → ℕ) (xs : List ℕ) → ((u : ℕ) → count_of u xs ≡ bit (home_of nodes u)) → bit Nowhere ≡ 0 → bit home ≡ 1 → (u : ℕ) → count_of u (x ∷ xs) ≡ bit (home_of (linked x s size home nodes) u)
    front bit xs counted none is = count_front bit nodes (linked x s size home nodes) x xs counted (ap bit absent ∙ none) (ap bit there_home ∙ is) else_home

    joint : (xs : List ℕ) (z : ℕ) → z < 3 → count_of x xs ≡ 0 → Path (next_of nodes) (prev_of nodes) s xs z → Joint (next_of nodes) (prev_of nodes) (next_of (linked x s size home nodes)) (prev_of (linked x s size home nodes)) s x
    joint xs z end none path = linked_joint nodes x s size home inside end_in (after_end s) (other_end s low) (first_other _ _ s x xs z (other_end z end) none path) (head_back _ _ s xs z path)

  no_hot : (u : ℕ) → u < 3 → count_of u hot ≡ 0
  no_hot = no_ends_hot nodes hot warm cold ring

  no_warm : (u : ℕ) → u < 3 → count_of u warm ≡ 0
  no_warm = no_ends_warm nodes hot warm cold ring

  no_cold : (u : ℕ) → u < 3 → count_of u cold ≡ 0
  no_cold = no_ends_cold nodes hot warm cold ring

  join_hot : IsRing (linked x 0 size InHot nodes) (x ∷ hot) warm cold
  join_hot =
      let low : 0 < 3 = lit< tt in
      let j = joint 0 low InHot hot 1 (lit< tt) none_hot ring.hot_path in
      record {
        hot_path = joint_path _ _ _ _ 0 x j hot 1 (other_end 1 (lit< tt)) (no_hot 0 low) none_hot ring.hot_path;
        warm_path = kept_path _ _ _ _ 0 x j 1 warm 2 (λ e. omega arith) (other_end 1 (lit< tt)) (other_end 2 (lit< tt)) (no_warm 0 low) none_warm ring.warm_path;
        cold_path = kept_path _ _ _ _ 0 x j 2 cold 0 (λ e. omega arith) (other_end 2 (lit< tt)) (other_end 0 (lit< tt)) (no_cold 0 low) none_cold ring.cold_path;
        hot_count = front 0 low InHot in_hot hot ring.hot_count refl refl;
        warm_count = aside 0 low InHot in_warm warm ring.warm_count refl refl;
        cold_count = aside 0 low InHot in_cold cold ring.cold_count refl refl;
        ends = ends_after 0 low InHot;
        next_inside = next_after 0 low InHot;
        prev_inside = prev_after 0 low InHot;
        small = small_after 0 low InHot;
      }

  join_warm : IsRing (linked x 1 size InWarm nodes) hot (x ∷ warm) cold
  join_warm =
      let low : 1 < 3 = lit< tt in
      let j = joint 1 low InWarm warm 2 (lit< tt) none_warm ring.warm_path in
      record {
        hot_path = kept_path _ _ _ _ 1 x j 0 hot 1 (λ e. omega arith) (other_end 0 (lit< tt)) (other_end 1 (lit< tt)) (no_hot 1 low) none_hot ring.hot_path;
        warm_path = joint_path _ _ _ _ 1 x j warm 2 (other_end 2 (lit< tt)) (no_warm 1 low) none_warm ring.warm_path;
        cold_path = kept_path _ _ _ _ 1 x j 2 cold 0 (λ e. omega arith) (other_end 2 (lit< tt)) (other_end 0 (lit< tt)) (no_cold 1 low) none_cold ring.cold_path;
        hot_count = aside 1 low InWarm in_hot hot ring.hot_count refl refl;
        warm_count = front 1 low InWarm in_warm warm ring.warm_count refl refl;
        cold_count = aside 1 low InWarm in_cold cold ring.cold_count refl refl;
        ends = ends_after 1 low InWarm;
        next_inside = next_after 1 low InWarm;
        prev_inside = prev_after 1 low InWarm;
        small = small_after 1 low InWarm;
      }

  join_cold : IsRing (linked x 2 size InCold nodes) hot warm (x ∷ cold)
  join_cold =
      let low : 2 < 3 = lit< tt in
      let j = joint 2 low InCold cold 0 (lit< tt) none_cold ring.cold_path in
      record {
        hot_path = kept_path _ _ _ _ 2 x j 0 hot 1 (λ e. omega arith) (other_end 0 (lit< tt)) (other_end 1 (lit< tt)) (no_hot 2 low) none_hot ring.hot_path;
        warm_path = kept_path _ _ _ _ 2 x j 1 warm 2 (λ e. omega arith) (other_end 1 (lit< tt)) (other_end 2 (lit< tt)) (no_warm 2 low) none_warm ring.warm_path;
        cold_path = joint_path _ _ _ _ 2 x j cold 0 (other_end 0 (lit< tt)) (no_cold 2 low) none_cold ring.cold_path;
        hot_count = aside 2 low InCold in_hot hot ring.hot_count refl refl;
        warm_count = aside 2 low InCold in_warm warm ring.warm_count refl refl;
        cold_count = front 2 low InCold in_cold cold ring.cold_count refl refl;
        ends = ends_after 2 low InCold;
        next_inside = next_after 2 low InCold;
        prev_inside = prev_after 2 low InCold;
        small = small_after 2 low InCold;
      }

-- an unused number is put at a segment's front
pub ring_join : (segment : Segment) (nodes : List Node) (hot warm cold : List ℕ) (x size : ℕ) → IsRing nodes hot warm cold → 3 ≤ x → x < length nodes → home_of nodes x ≡ Nowhere → size < 2 ^ 32 → IsRing (linked x (end_of segment) size (home_in segment) nodes) (into_hot segment x hot) (into_warm segment x warm) (into_cold segment x cold)
ring_join Hot = join_hot
ring_join Warm = join_warm
ring_join Cold = join_cold

-- other nodes with the same links and homes
pub ring_same : (old new : List Node) (hot warm cold : List ℕ) → length old ≤ length new → ((u : ℕ) → next_of new u ≡ next_of old u) → ((u : ℕ) → prev_of new u ≡ prev_of old u) → ((u : ℕ) → home_of new u ≡ home_of old u) → ((u : ℕ) → size_of new u < 2 ^ 32) → IsRing old hot warm cold → IsRing new hot warm cold
ring_same old new hot warm cold long next prev home small ring = record {
  hot_path = path_same _ _ _ _ next prev 0 hot 1 ring.hot_path;
  warm_path = path_same _ _ _ _ next prev 1 warm 2 ring.warm_path;
  cold_path = path_same _ _ _ _ next prev 2 cold 0 ring.cold_path;
  hot_count = λ u. ring.hot_count u ∙ sym (ap in_hot (home u));
  warm_count = λ u. ring.warm_count u ∙ sym (ap in_warm (home u));
  cold_count = λ u. ring.cold_count u ∙ sym (ap in_cold (home u));
  ends = λ u low. home u ∙ ring.ends u low;
  next_inside = λ u b three within. omega (arith, next u, ring.next_inside u b three (omega arith));
  prev_inside = λ u b three within. omega (arith, prev u, ring.prev_inside u b three (omega arith));
  small = small;
}
