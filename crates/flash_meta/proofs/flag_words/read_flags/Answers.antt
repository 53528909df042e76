use Rattle.std.proofs.Common.{[], ap}
use Rattle.flash_text.specs.Words.{spaced_words}
use Rattle.flash_meta.specs.declared.flags.Flags.{Flags}
use Rattle.flash_meta.specs.FlagReading.{read_words, flags_in}
use Rattle.flash_meta.proofs.flag_words.read_flags.Goals as goal

pub flags-init : goal.flags-init
unfolding flags_in
flags-init c =
    ([], c.no_letters-given.ensures, ap (λ (flags : Flags). read_words c.args.verb [] (spaced_words c.args.asked.now) flags) c.no_flags-flags.ensures)
