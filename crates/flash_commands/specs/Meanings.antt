-- What a line means, by either protocol.
use Rattle.std.specs.Prelude.{ℕ, List, if◌then◌else◌}
use Rattle.flash_text.specs.Said.{Said}
use Rattle.flash_text.specs.declared.text.Verb.{Verb}
use Rattle.flash_text.specs.declared.text.Verb.TheVariants as verbs
use Rattle.flash_text.specs.declared.text.Line.{Line}
use Rattle.flash_text.specs.declared.text.Line.TheVariants as lines
use Rattle.flash_text.specs.Lines.{line_of}
use Rattle.flash_meta.specs.declared.meta.MetaLine.{MetaLine}
use Rattle.flash_meta.specs.declared.meta.MetaLine.TheVariants as metas
use Rattle.flash_meta.specs.MetaLines.{meta_of, is_meta_line}
use Rattle.flash_reply.specs.declared.command.Command.TheVariants.{Text, Meta}
use Rattle.flash_commands.specs.Parts.{Meaning, Plain, Block, Skips, Quits}

-- a command without data, but for `quit`
abbrev pub plain_of : Verb → Said → Meaning
plain_of verbs.Quit said = Quits
plain_of _ said = Plain (Text said)

-- a line of the text protocol
abbrev pub text_meaning : Line → Meaning
text_meaning (lines.Command said) = plain_of said.verb said
text_meaning (lines.Data said length) = Block (Text said) length
text_meaning (lines.Bad refusal skip) = Skips refusal skip

-- a line of the meta protocol
abbrev pub meta_meaning : MetaLine → Meaning
meta_meaning (metas.Command said) = Plain (Meta said)
meta_meaning (metas.Data said length) = Block (Meta said) length
meta_meaning (metas.Bad refusal skip) = Skips refusal skip

-- a line without its line feed, where a value has at most this many bytes
unfoldable pub meaning_of : ℕ → List ℕ → Meaning
meaning_of item_max line =
    if is_meta_line line then meta_meaning (meta_of item_max line) else text_meaning (line_of item_max line)
