use Rattle.std.proofs.Common.{sym, subst}
use Rattle.flash_meta.specs.MetaLaws.{IsItsKey}
use Rattle.flash_meta.proofs.KeyLemmas.{its_key}
use Rattle.flash_meta.proofs.MetaRead.{read_from}
use Rattle.flash_meta.proofs.laws.each_key_is_that_of_its_word.Goals as goal

pub returns : goal.returns
returns c = λ item_max line said found.
    let read = read_from item_max line said found in
    let is = its_key read.flags.base64 read.parts.word read.key read.has_key in
    subst IsItsKey (sym read.is) (record { some = is.0; plain = is.1; encoded = is.2 })
