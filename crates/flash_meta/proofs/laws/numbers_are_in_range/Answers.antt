use Rattle.std.proofs.Common.{sym, subst}
use Rattle.flash_text.specs.Words.{without_return, spaced_words}
use Rattle.flash_meta.specs.MetaLaws.{IsInRange}
use Rattle.flash_meta.proofs.FlagRanges.{found_in_range}
use Rattle.flash_meta.proofs.MetaRead.{read_from, read_parts}
use Rattle.flash_meta.proofs.laws.numbers_are_in_range.Goals as goal

pub returns : goal.returns
returns c = λ item_max line said found.
    let read = read_from item_max line said found in
    let parts = read_parts item_max (without_return line) said read in
    let are = found_in_range read.parts.verb (spaced_words read.parts.asked) read.flags read.has_flags in
    subst (IsInRange item_max) (sym read.is) (record {
      length = parts.length;
      allowed = read.allowed;
      exptime = are.exptime;
      flags = are.flags;
      compare = are.compare;
      delta = are.delta;
      create = are.create;
      start = are.start;
    })
