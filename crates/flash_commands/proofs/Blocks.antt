-- How long the block of data is that a line announces.
use Rattle.std.proofs.Common.{◌≡◌, ℕ, ◌≤◌, Bool, true, false, Some, if◌then◌else◌, refl, arith}
use Rattle.flash_text.specs.Said.{Said}
use Rattle.flash_text.specs.declared.text.Verb.{Verb}
use Rattle.flash_text.specs.declared.text.Verb.TheVariants as verbs
use Rattle.flash_text.specs.declared.text.Line.{Line}
use Rattle.flash_text.specs.declared.text.Line.TheVariants as lines
use Rattle.flash_text.specs.Lines.{line_of}
use Rattle.flash_text.specs.LineLaws.{said_in, IsInRange, NumbersAreInRange, DataFollows, DataFollowsStorageLines}
use Rattle.flash_meta.specs.MetaSaid.{MetaSaid}
use Rattle.flash_meta.specs.declared.meta.MetaLine.{MetaLine}
use Rattle.flash_meta.specs.declared.meta.MetaLine.TheVariants as metas
use Rattle.flash_meta.specs.MetaLines.{meta_of, is_meta_line}
use Rattle.flash_meta.specs.MetaLaws.{DataIsWithin}
use Rattle.flash_reply.specs.declared.command.Command.{Command}
use Rattle.flash_commands.specs.Parts.{Meaning, Block}
use Rattle.flash_commands.specs.Meanings.{plain_of, text_meaning, meta_meaning, meaning_of}
use Rattle.flash_commands.specs.Laws.{BlocksAreWithin}

-- a block has at most so many bytes
abbrev pub IsWithin : ℕ → Meaning → Type 0
IsWithin item_max meaning = (command : Command) (size : ℕ) → meaning ≡ Block command size → size ≤ item_max

plain_within : (item_max : ℕ) (verb : Verb) (said : Said) → IsWithin item_max (plain_of verb said)
plain_within item_max verbs.Quit said command size is = absurd (cc is)
plain_within item_max _ said command size is = absurd (cc is)

text_within : (item_max : ℕ) (line : Line) → DataFollows line → ((said : Said) → said_in line ≡ Some said → IsInRange item_max said) → IsWithin item_max (text_meaning line)
text_within item_max (lines.Command said) follows ranges command size is = plain_within item_max said.verb said command size is
text_within item_max (lines.Data said n) follows ranges command size is =
    let same : n ≡ size = cc is in
    let lengths = follows.storage said n refl in
    let range = ranges said refl in omega (arith, same, lengths.1, range.allowed)
text_within item_max (lines.Bad refusal skip) follows ranges command size is = absurd (cc is)

meta_within : (item_max : ℕ) (line : MetaLine) → ((said : MetaSaid) (n : ℕ) → line ≡ metas.Data said n → n ≤ item_max) → IsWithin item_max (meta_meaning line)
meta_within item_max (metas.Command said) within command size is = absurd (cc is)
meta_within item_max (metas.Data said n) within command size is =
    let same : n ≡ size = cc is in
    let less = within said n refl in omega (arith, same, less)
meta_within item_max (metas.Bad refusal skip) within command size is = absurd (cc is)

either_within : (item_max : ℕ) (test : Bool) (one other : Meaning) → IsWithin item_max one → IsWithin item_max other → IsWithin item_max (if test then one else other)
either_within item_max true one other within others = within
either_within item_max false one other within others = others

-- by the laws of both protocols
pub blocks_within : NumbersAreInRange → DataFollowsStorageLines → DataIsWithin → BlocksAreWithin
unfolding meaning_of
blocks_within ranges follows lengths item_max line =
    either_within item_max (is_meta_line line) (meta_meaning (meta_of item_max line)) (text_meaning (line_of item_max line))
    (meta_within item_max (meta_of item_max line) (lengths item_max line))
    (text_within item_max (line_of item_max line) (follows item_max line) (ranges item_max line))
