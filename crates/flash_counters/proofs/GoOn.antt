-- Counters go on with the journal that is counted.
use Rattle.std.proofs.Common.{◌≡◌, List, refl, arith}
use Rattle.std.specs.Prelude.{Option, Some, None}
use Rattle.std.specs.Option.{ForSome}
use Rattle.std.proofs.lemmas.Grind.{common_steps}
use Rattle.flash_names.specs.Told.{with_more}
use Rattle.flash_entry.specs.declared.entry.Entry.{Entry}
use Rattle.flash_counters.specs.declared.counters.Counters.{Counters}
use Rattle.flash_counters.specs.Counters.{counters_of, sums}
use Rattle.flash_counters.specs.CountersGoOn.{CountersGoOn}

pub go-on : CountersGoOn
go-on h es = grind (arith, common_steps)

-- the counters of a journal with more entries, by those before
pub counted-more :
    (c : Counters) (es : List Entry) (told after : Option (List Entry)) (new : Counters)
    → ForSome told (λ h. c ≡ counters_of h) → after ≡ with_more es told → new ≡ sums c (counters_of es)
    → ForSome after (λ h. new ≡ counters_of h)
counted-more c es None after new counted more is h e = grind (arith, common_steps)
counted-more c es (Some before) after new counted more is h e =
    let old = counted before refl in let all = go-on before es in grind (arith, common_steps)
