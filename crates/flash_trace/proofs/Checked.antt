-- The geometry of a script that was read keeps its rules.
use Rattle.std.proofs.Common.{◌≡◌, ℕ, ◌+◌, ◌%◌, ◌≤◌, Bool, true, false, ◌&&◌, nat_eq, nat_le, List, [], ◌∷◌, length, Option, None, Some, Result, Ok, Err, if◌then◌else◌, refl, subst, arith}
use Rattle.std.specs.Prelude.{codes}
use Rattle.std.specs.Option.{option_and_then}
use Rattle.std.specs.Result.{result_map_both}
use Rattle.std.specs.Str.{bytes_eq}
use Rattle.std.proofs.lemmas.Bool.Decides.{nat_tests}
use Rattle.flash_names.specs.Geometry.{rules_of, first_broken, result_of_rule, whole_blocks, Passes}
use Rattle.flash_names.specs.declared.geometry.Geometry.{Geometry}
use Rattle.flash_names.specs.Words.{words}
use Rattle.flash_entry.specs.GeometryLine.{geometry_from, numbers_of, geometry_by_rules, checked_geometry, geometry_of_words, geometry_of_line}
use Rattle.flash_entry.specs.declared.geometry_line.HeadFault.{HeadFault}
use Rattle.flash_entry.specs.declared.geometry_line.HeadFault.TheVariants.{BadWord}
use Rattle.flash_script.specs.Scripts.{why_of, geometry_of}

-- each test passes
AllTrue : List Bool → Type 0
AllTrue [] = Unit {0}
AllTrue (kept ∷ rest) = (kept ≡ true) × AllTrue rest

all_true : (n : ℕ) (rules : List Bool) → first_broken n rules ≡ None → AllTrue rules
unfolding AllTrue
all_true n [] none = tt
all_true n (true ∷ rest) none = (refl, all_true (n + 1) rest none)
all_true n (false ∷ rest) none = absurd (cc none)

kept_le : (a b : ℕ) → nat_le a b ≡ true → a ≤ b
kept_le a b kept = grind (arith, nat_tests)

both : (a b : Bool) → a && b ≡ true → (a ≡ true) × (b ≡ true)
both true b kept = (refl, kept)
both false b kept = absurd (cc kept)

between : (a b c d : ℕ) → (nat_le a b && nat_le c d) ≡ true → (a ≤ b) × (c ≤ d)
between a b c d kept =
    let parts = both (nat_le a b) (nat_le c d) kept in (kept_le a b parts.0, kept_le c d parts.1)

blocks : (page_size buffer_size : ℕ) → whole_blocks page_size buffer_size ≡ true → (page_size % buffer_size ≡ 0) × (buffer_size ≤ page_size) × (page_size ≤ 67108864)
blocks page_size buffer_size kept = grind (arith, nat_tests, both)

all_kept : (g : Geometry) → first_broken 1 (rules_of g) ≡ None → Passes g
unfolding rules_of AllTrue
all_kept g none =
    let kept = all_true 1 (rules_of g) none in
    record {
      item_size = kept_le _ _ kept.0;
      buffer_size = between _ _ _ _ kept.1.0;
      page_size = blocks _ _ kept.1.1.0;
      pages = between _ _ _ _ kept.1.1.1.0;
      buffers = between _ _ _ _ kept.1.1.1.1.0;
      item_max = between _ _ _ _ kept.1.1.1.1.1.0;
      memory = kept_le _ _ kept.1.1.1.1.1.1.0;
      compact_under = kept_le _ _ kept.1.1.1.1.1.1.1.0;
      drop_under = kept_le _ _ kept.1.1.1.1.1.1.1.1.0;
      max_frag = kept_le _ _ kept.1.1.1.1.1.1.1.1.1.0;
    }

-- by the first rule that is broken, where there is one
by_rule : (read g : Geometry) (rule : Option ℕ) → first_broken 1 (rules_of read) ≡ rule → geometry_by_rules read (result_of_rule rule) ≡ Ok g → Passes g
by_rule read g None none is = let same : read ≡ g = cc is in subst Passes same (all_kept read none)
by_rule read g (Some rule) some is = absurd (cc is)

-- by the numbers of the line
by_numbers : (read : Option Geometry) (g : Geometry) → checked_geometry read ≡ Ok g → Passes g
by_numbers None g is = absurd (cc is)
by_numbers (Some read) g is = by_rule read g (first_broken 1 (rules_of read)) refl is

-- by its words
by_test : (test : Bool) (read : Option Geometry) (g : Geometry) → (if test then checked_geometry read else Err BadWord) ≡ Ok g → Passes g
by_test true read g is = by_numbers read g is
by_test false read g is = absurd (cc is)

by_words : (ws : List (List ℕ)) (g : Geometry) → geometry_of_words ws ≡ Ok g → Passes g
by_words [] g is = absurd (cc is)
by_words (w ∷ ws) g is =
    by_test (bytes_eq w (codes "store") && nat_eq (length ws) 11) (option_and_then geometry_from (numbers_of ws)) g is

-- by how the line was read
by_line : (r : Result Geometry HeadFault) (g : Geometry) → ((h : Geometry) → r ≡ Ok h → Passes h) → result_map_both (λ (h : Geometry). h) why_of r ≡ Ok g → Passes g
by_line (Ok h) g each is = let same : h ≡ g = cc is in subst Passes same (each h refl)
by_line (Err fault) g each is = absurd (cc is)

-- a first line that was read
pub line_passes : (line : List ℕ) (g : Geometry) → geometry_of line ≡ Ok g → Passes g
line_passes line g is = by_line (geometry_of_line line) g (λ h read. by_words (words line) h read) is
