-- Each run is orderly.
use Rattle.std.proofs.Common.{List, [], ◌∷◌, ◌++◌}
use Rattle.std.proofs.lemmas.Bool.{and_parts}
use Rattle.flash_names.specs.declared.geometry.Geometry.{Geometry}
use Rattle.flash_entry.specs.declared.entry.Entry.{Entry}
use Rattle.flash_entry.specs.declared.entry.Entry.TheVariants as entries
use Rattle.flash_machine.specs.Cache.{Cache, first_cache}
use Rattle.flash_machine.specs.Steps.{next}
use Rattle.flash_machine.specs.Rules.{may_be_read}
use Rattle.flash_machine.specs.Legal.{Meets, LegalFrom, Legal}
use Rattle.flash_machine.specs.Orderly.{IsOrderly, OrderlyFrom, Orderly}

pub meets_is_orderly : (g : Geometry) (h : List Entry) (c : Cache) (e : Entry) → Meets g h c e → IsOrderly g h e
meets_is_orderly g h c (entries.ReadBegan id place reader) meets = (and_parts (may_be_read h id place) _ meets.0).0
meets_is_orderly g h c (entries.ReadEnded id outcome) meets = meets.0
meets_is_orderly g h c (entries.WriteBegan place) meets = meets.0
meets_is_orderly g h c (entries.WriteEnded place outcome) meets = meets.0
meets_is_orderly g h c (entries.Opened label) meets = meets.0
meets_is_orderly g h c (entries.Ended label cause) meets = meets.0
meets_is_orderly g h c (entries.Freed label) meets = meets.0
meets_is_orderly g h c _ meets = tt

pub orderly_from : (g : Geometry) (h : List Entry) (c : Cache) (es : List Entry) → LegalFrom g h c es → OrderlyFrom g h es
orderly_from g h c [] legal = tt
orderly_from g h c (e ∷ es) legal = (meets_is_orderly g h c e legal.0, orderly_from g (h ++ e ∷ []) (next g h c e) es legal.1)

pub run_is_orderly : (g : Geometry) (h : List Entry) → Legal g h → Orderly g h
run_is_orderly g h run = orderly_from g [] first_cache h run
