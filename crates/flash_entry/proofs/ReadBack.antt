-- The head that is printed is read back.
use Rattle.std.proofs.Common.{◌≡◌, ℕ, ◌^◌, List, [], ◌∷◌, map, Some, codes, decimal, refl, ◌∙◌, ap, arith}
use Rattle.std.specs.Option.{option_and_then}
use Rattle.flash_names.specs.declared.geometry.Geometry.{Geometry}
use Rattle.flash_names.specs.Words.{words}
use Rattle.flash_entry.specs.GeometryLine.{geometry_of_words, geometry_words, geometry_from, geometry_by_rules, checked_geometry}
use Rattle.flash_entry.specs.GeometryLineLaws.{FitsFields, GeometryLinesAreReadBack}
use Rattle.flash_entry.proofs.GeometryLineWords.{AllBelow, words-with_numbers, numbers_of-decimals, if_below-small}

-- the numbers of a geometry in the order of its fields
abbrev fields : Geometry → List ℕ
fields g =
    g.memory ∷ g.item_size ∷ g.item_max ∷ g.pages ∷ g.page_size ∷ g.buffer_size ∷ g.buffers ∷ g.compact_under ∷ g.drop_under ∷ g.max_frag ∷ g.recache ∷ []

fields_below : (g : Geometry) → FitsFields g → AllBelow (2 ^ 64) (fields g)
fields_below g fits = (
  fits.memory,
  (
    omega (arith, fits.item_size),
    (
      omega (arith, fits.item_max),
      (
        omega (arith, fits.pages),
        (
          omega (arith, fits.page_size),
          (
            omega (arith, fits.buffer_size),
            (
              omega (arith, fits.buffers),
              (
                omega (arith, fits.compact_under),
                (
                  omega (arith, fits.drop_under),
                  (
                    omega (arith, fits.max_frag),
                    (omega (arith, fits.recache), tt),
                  ),
                ),
              ),
            ),
          ),
        ),
      ),
    ),
  ),
)

words_of_head : (g : Geometry) → FitsFields g → words (geometry_words g) ≡ codes "store" ∷ map decimal (fields g)
words_of_head g fits = words-with_numbers (codes "store") (fields g) (fields_below g fits)

geometry_of_fields : (g : Geometry) → FitsFields g → geometry_from (fields g) ≡ Some g
unfolding geometry_from
geometry_of_fields g fits =
    let below = if_below-small (2 ^ 32) in
    rw (
      below g.item_size fits.item_size,
      below g.item_max fits.item_max,
      below g.pages fits.pages,
      below g.page_size fits.page_size,
      below g.buffer_size fits.buffer_size,
      below g.buffers fits.buffers,
      below g.compact_under fits.compact_under,
      below g.drop_under fits.drop_under,
      below g.max_frag fits.max_frag,
      below g.recache fits.recache,
    ) refl

pub read_back : GeometryLinesAreReadBack
read_back g fits passes =
    ap geometry_of_words (words_of_head g fits)
    ∙ ap (λ ns. checked_geometry (option_and_then geometry_from ns)) (numbers_of-decimals (fields g) (fields_below g fits))
    ∙ ap checked_geometry (geometry_of_fields g fits)
    ∙ ap (geometry_by_rules g) passes
