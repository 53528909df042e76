-- What the ten rules say where none is broken, and that none is where they hold.
use Rattle.std.proofs.Common.{◌≡◌, ℕ, ◌+◌, ◌%◌, ◌≤◌, Bool, true, false, ◌&&◌, nat_eq, nat_le, List, [], ◌∷◌, None, refl, arith}
use Rattle.std.proofs.lemmas.Bool.Decides.{nat_tests}
use Rattle.flash_names.specs.declared.geometry.Geometry.{Geometry}
use Rattle.flash_names.specs.Geometry.{rules_of, first_broken, whole_blocks, Passes}

-- each test passes
AllTrue : List Bool → Type 0
AllTrue [] = Unit {0}
AllTrue (kept ∷ rest) = (kept ≡ true) × AllTrue rest

all_true : (n : ℕ) (rules : List Bool) → first_broken n rules ≡ None → AllTrue rules
unfolding AllTrue
all_true n [] none = tt
all_true n (true ∷ rest) none = (refl, all_true (n + 1) rest none)
all_true n (false ∷ rest) none = absurd (cc none)

kept_le : (a b : ℕ) → nat_le a b ≡ true → a ≤ b
kept_le a b kept = grind (arith, nat_tests)

both : (a b : Bool) → a && b ≡ true → (a ≡ true) × (b ≡ true)
both true b kept = (refl, kept)
both false b kept = absurd (cc kept)

between : (a b c d : ℕ) → (nat_le a b && nat_le c d) ≡ true → (a ≤ b) × (c ≤ d)
between a b c d kept =
    let parts = both (nat_le a b) (nat_le c d) kept in (kept_le a b parts.0, kept_le c d parts.1)

blocks : (page_size buffer_size : ℕ) → whole_blocks page_size buffer_size ≡ true → (page_size % buffer_size ≡ 0) × (buffer_size ≤ page_size) × (page_size ≤ 67108864)
blocks page_size buffer_size kept = grind (arith, nat_tests, both)

pub all_kept : (g : Geometry) → first_broken 1 (rules_of g) ≡ None → Passes g
unfolding rules_of AllTrue
all_kept g none =
    let kept = all_true 1 (rules_of g) none in
    record {
      item_size = kept_le _ _ kept.0;
      buffer_size = between _ _ _ _ kept.1.0;
      page_size = blocks _ _ kept.1.1.0;
      pages = between _ _ _ _ kept.1.1.1.0;
      buffers = between _ _ _ _ kept.1.1.1.1.0;
      item_max = between _ _ _ _ kept.1.1.1.1.1.0;
      memory = kept_le _ _ kept.1.1.1.1.1.1.0;
      compact_under = kept_le _ _ kept.1.1.1.1.1.1.1.0;
      drop_under = kept_le _ _ kept.1.1.1.1.1.1.1.1.0;
      max_frag = kept_le _ _ kept.1.1.1.1.1.1.1.1.1.0;
    }

none_broken : (n : ℕ) (rules : List Bool) → AllTrue rules → first_broken n rules ≡ None
unfolding AllTrue
none_broken n [] kept = refl
none_broken n (true ∷ rest) kept = none_broken (n + 1) rest kept.1
none_broken n (false ∷ rest) kept = absurd (cc kept.0)

le_kept : (a b : ℕ) → a ≤ b → nat_le a b ≡ true
le_kept a b le = grind (arith, nat_tests)

both_kept : (a b : Bool) → a ≡ true → b ≡ true → a && b ≡ true
both_kept true b one other = other
both_kept false b one other = absurd (cc one)

between_kept : (a b c d : ℕ) → (a ≤ b) × (c ≤ d) → (nat_le a b && nat_le c d) ≡ true
between_kept a b c d parts = both_kept (nat_le a b) (nat_le c d) (le_kept a b parts.0) (le_kept c d parts.1)

blocks_kept : (page_size buffer_size : ℕ) → 1 ≤ buffer_size → (page_size % buffer_size ≡ 0) × (buffer_size ≤ page_size) × (page_size ≤ 67108864) → whole_blocks page_size buffer_size ≡ true
blocks_kept page_size buffer_size some parts =
    let whole : nat_eq (page_size % buffer_size) 0 ≡ true = rw parts.0 refl in
    both_kept _ _ (both_kept _ _ (both_kept _ _ (le_kept _ _ some) whole) (le_kept _ _ parts.1)) (le_kept _ _ parts.2)

pub kept_all : (g : Geometry) → Passes g → first_broken 1 (rules_of g) ≡ None
unfolding rules_of AllTrue
kept_all g passes =
    none_broken 1 (rules_of g) (
      le_kept _ _ passes.item_size,
      (
        between_kept _ _ _ _ passes.buffer_size,
        (
          blocks_kept _ _ (omega (arith, passes.buffer_size.0)) passes.page_size,
          (
            between_kept _ _ _ _ passes.pages,
            (
              between_kept _ _ _ _ passes.buffers,
              (
                between_kept _ _ _ _ passes.item_max,
                (
                  le_kept _ _ passes.memory,
                  (
                    le_kept _ _ passes.compact_under,
                    (
                      le_kept _ _ passes.drop_under,
                      (le_kept _ _ passes.max_frag, tt),
                    ),
                  ),
                ),
              ),
            ),
          ),
        ),
      ),
    )
