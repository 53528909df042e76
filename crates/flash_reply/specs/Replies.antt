-- The reply to each step of a command, and to a command that makes none.
use Rattle.std.specs.Prelude.{ℕ, List, []}
use Rattle.flash_entry.specs.declared.found.Told.{Told}
use Rattle.flash_reply.specs.declared.command.Command.{Command}
use Rattle.flash_reply.specs.declared.command.Command.TheVariants as commands
use Rattle.flash_reply.specs.Lines.{unless_quiet}
use Rattle.flash_reply.specs.MetaReplies.{meta_of_step}
use Rattle.flash_reply.specs.TextReplies.{text_of_step, plain_line}

-- the reply to a step of a command, by what it is told; the steps of a command are counted from 1
abbrev pub text : Command → ℕ → Told → List ℕ
text (commands.Text said) step answer = text_of_step said step answer
text (commands.Meta meta) step answer = meta_of_step meta answer

-- the reply to `flush_all`, `verbosity`, `version` or `mn`; no other command has one of this kind
abbrev pub plain_text : Command → List ℕ
plain_text (commands.Text said) = unless_quiet said.quiet (plain_line said.verb)
plain_text (commands.Meta meta) = []
