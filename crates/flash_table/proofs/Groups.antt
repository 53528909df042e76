-- The entries of a group, whose tags, ids and items lie apart, and the mask of a tag.
use Rattle.std.proofs.Common.{◌≡◌, ℕ, zero, suc, ◌+◌, ◌*◌, ◌/◌, ◌%◌, ◌^◌, ◌<◌, cond, nat_eq, List, [], ◌∷◌, length, get_or, set, ◌⊎◌, inl, inr, refl, sym, ap, ◌∙◌, arith, w16}
use Rattle.std.specs.Int.{bit_at}
use Rattle.std.specs.Int.Count.{count_trailing_zeros, trailing_of_zero}
use Rattle.std.proofs.lemmas.Bool.Decides.{nat_tests}
use Rattle.std.proofs.lemmas.Nat.{trailing_le}
use Rattle.std.proofs.lemmas.Nat.Bits.{bit_at-zero, bit_at-trailing_zeros}
use Rattle.flash_lanes.specs.Tags.{has_tag}
use Rattle.flash_keys.specs.declared.key_id.KeyId.{KeyId}
use Rattle.flash_table.specs.declared.entry.Entry.{Entry}
use Rattle.flash_table.specs.Entries.{vacant, entry_at, joined}
use Rattle.flash_table.specs.Flat.{flat, AreWhole}
use Rattle.flash_table.proofs.Flat.{offset, flat_at, flat_set, whole_offset, whole_at, whole_length}

pub joined_at : (tags : List ℕ) (ids : List KeyId) (items : List ℕ) (i : ℕ) → i < length tags → length ids ≡ length tags → length items ≡ length tags
    → entry_at (joined tags ids items) i ≡ record { tag = get_or tags i 0; id = get_or ids i (record { number = 0 }); item = get_or items i 0 }
joined_at [] ids items i inside ids_long items_long = absurd (omega arith)
joined_at (tag ∷ tags) [] items i inside ids_long items_long = absurd (omega arith)
joined_at (tag ∷ tags) (id ∷ ids) [] i inside ids_long items_long = absurd (omega arith)
joined_at (tag ∷ tags) (id ∷ ids) (item ∷ items) zero inside ids_long items_long = refl
joined_at (tag ∷ tags) (id ∷ ids) (item ∷ items) (suc i) inside ids_long items_long = joined_at tags ids items i (omega arith) (omega arith) (omega arith)

pub joined_set : (tags : List ℕ) (ids : List KeyId) (items : List ℕ) (i : ℕ) (e : Entry) → length ids ≡ length tags → length items ≡ length tags
    → joined (set tags i e.tag) (set ids i e.id) (set items i e.item) ≡ set (joined tags ids items) i e
joined_set [] ids items i e ids_long items_long = refl
joined_set (tag ∷ tags) [] items i e ids_long items_long = absurd (omega arith)
joined_set (tag ∷ tags) (id ∷ ids) [] i e ids_long items_long = absurd (omega arith)
joined_set (tag ∷ tags) (id ∷ ids) (item ∷ items) zero e ids_long items_long = refl
joined_set (tag ∷ tags) (id ∷ ids) (item ∷ items) (suc i) e ids_long items_long =
    ap (λ (es : List Entry). record { tag = tag; id = id; item = item } ∷ es) (joined_set tags ids items i e (omega arith) (omega arith))

pub joined_length : (tags : List ℕ) (ids : List KeyId) (items : List ℕ) → length ids ≡ length tags → length items ≡ length tags → length (joined tags ids items) ≡ length tags
joined_length [] ids items ids_long items_long = refl
joined_length (tag ∷ tags) [] items ids_long items_long = absurd (omega arith)
joined_length (tag ∷ tags) (id ∷ ids) [] ids_long items_long = absurd (omega arith)
joined_length (tag ∷ tags) (id ∷ ids) (item ∷ items) ids_long items_long = omega (arith, joined_length tags ids items (omega arith) (omega arith))

-- ---- the lowest bit of a mask is the first slot with the tag

one_is : (x tag : ℕ) → ◌≡◌ {A = ℕ} (cond (nat_eq x tag) 1 0) 1 → x ≡ tag
one_is x tag one = grind (arith, nat_tests)

zero_is : (x tag : ℕ) → ◌≡◌ {A = ℕ} (cond (nat_eq x tag) 1 0) 0 → x ≡ tag → ⊥
zero_is x tag none is = grind (arith, nat_tests)

zero_or_more : (n : ℕ) → (n ≡ 0) ⊎ (0 < n)
zero_or_more zero = inl refl
zero_or_more (suc n) = inr (omega arith)

module _ (mask tag : ℕ) (tags : List ℕ) (fits : mask < 2 ^ 16) (bits : (i : ℕ) → i < 16 → bit_at mask i ≡ has_tag tags tag i) where
  pub none_before : (i : ℕ) → i < count_trailing_zeros 16 mask → get_or tags i 0 ≡ tag → ⊥
  none_before i below is =
      let inside : i < 16 = omega (arith, trailing_le 16 mask) in
      elim (zero_or_more mask) [
        | inl none ↦ zero_is (get_or tags i 0) tag (sym (bits i inside) ∙ ap (λ (m : ℕ). bit_at m i) none ∙ bit_at-zero i) is
        | inr some ↦ zero_is (get_or tags i 0) tag (sym (bits i inside) ∙ (bit_at-trailing_zeros w16 mask some fits).2 i below) is
      ]

  pub tag_found : count_trailing_zeros 16 mask < 16 → get_or tags (count_trailing_zeros 16 mask) 0 ≡ tag
  tag_found inside =
      elim (zero_or_more mask) [
        | inl none ↦ absurd (omega (arith, ap (count_trailing_zeros 16) none, trailing_of_zero 16))
        | inr some ↦ one_is (get_or tags (count_trailing_zeros 16 mask) 0) tag (sym (bits (count_trailing_zeros 16 mask) inside) ∙ (bit_at-trailing_zeros w16 mask some fits).1)
      ]

-- ---- a slot of a chain is in one of its groups

module _ (gs : List (List Entry)) (slot : ℕ) (whole : AreWhole gs) (inside : slot < length (flat gs)) where
  group_inside : slot / 16 < length gs
  group_inside = omega (arith, whole_length gs whole, inside)

  within : slot % 16 < length (get_or gs (slot / 16) [])
  within = omega (arith, whole_at gs (slot / 16) whole group_inside)

  index_is : offset gs (slot / 16) + slot % 16 ≡ slot
  index_is = omega (arith, whole_offset gs (slot / 16) whole (omega (arith, group_inside)))

  pub chain_at : entry_at (flat gs) slot ≡ entry_at (get_or gs (slot / 16) []) (slot % 16)
  chain_at = ap (entry_at (flat gs)) (sym index_is) ∙ flat_at gs (slot / 16) (slot % 16) vacant group_inside within

  pub chain_set : (e : Entry) → flat (set gs (slot / 16) (set (get_or gs (slot / 16) []) (slot % 16) e)) ≡ set (flat gs) slot e
  chain_set e = flat_set gs (slot / 16) (slot % 16) e group_inside within ∙ ap (λ (k : ℕ). set (flat gs) k e) index_is

-- the index of a slot of a group in its chain
pub slot_at : (gs : List (List Entry)) (g s : ℕ) → AreWhole gs → g < length gs → s < 16 → entry_at (flat gs) (g * 16 + s) ≡ entry_at (get_or gs g []) s
slot_at gs g s whole inside small =
    let at : offset gs g + s ≡ g * 16 + s = omega (arith, whole_offset gs g whole (omega (arith, inside))) in
    ap (entry_at (flat gs)) (sym at) ∙ flat_at gs g s vacant inside (omega (arith, whole_at gs g whole inside))
