-- The commands of a session's bytes, by cases on their front.
use Rattle.std.specs.Prelude.{ℕ, zero, suc, ◌+◌, ◌-◌, ◌&&◌, ◌==◌, List, [], ◌∷◌, ◌++◌, length, take, drop, if◌then◌else◌}
use Rattle.flash_text.specs.declared.text.Refusal.TheVariants.{BadChunk}
use Rattle.flash_reply.specs.declared.command.Command.{Command}
use Rattle.flash_commands.specs.Parts.{Asked, Asks, Refused, Meaning, Plain, Block, Skips, Quits, Cut, Feed, Lacking, Over, Front, Takes, Rest, Read}
use Rattle.flash_commands.specs.declared.place.Place.{Place}
use Rattle.flash_commands.specs.declared.place.Place.TheVariants.{InLine, InSkip, AtQuit, TooLong}
use Rattle.flash_commands.specs.Meanings.{meaning_of}

-- how many bytes a line may have, with its line feed
abbrev pub line_limit : ℕ
line_limit = 65536

abbrev pub after_byte : ℕ → Cut → Cut
after_byte b (Feed line behind) = Feed (b ∷ line) behind
after_byte b Lacking = Lacking
after_byte b Over = Over

-- the line feed among the first bytes, at most so many
abbrev pub cut_within : ℕ → List ℕ → Cut
cut_within zero bytes = Over
cut_within (suc limit) [] = Lacking
cut_within (suc limit) (b ∷ bytes) = if b == 10 then Feed [] bytes else after_byte b (cut_within limit bytes)

-- a line of n bytes whose block has so many, the block, and the bytes after it: two have to be there, `\r\n`
abbrev pub with_block : Command → ℕ → ℕ → List ℕ → List ℕ → Front
with_block command n size block (a ∷ b ∷ _) =
    if (a == 13) && (b == 10) then Takes (Asks command block ∷ []) (n + size + 2) InLine
    else Takes (Refused BadChunk ∷ []) (n + size) InSkip
with_block command n size block _ = Rest

-- a line of n bytes with its line feed, and the bytes after it
abbrev pub with_meaning : Meaning → ℕ → List ℕ → Front
with_meaning (Plain command) n behind = Takes (Asks command [] ∷ []) n InLine
with_meaning (Block command size) n behind = with_block command n size (take size behind) (drop size behind)
with_meaning (Skips refusal skip) n behind = Takes (Refused refusal ∷ []) (n + skip) InLine
with_meaning Quits n behind = Takes [] n AtQuit

module _ (item_max limit : ℕ) where
  -- the front where a line is next
  abbrev pub line_front : Cut → Front
  line_front (Feed line behind) = with_meaning (meaning_of item_max line) (length line + 1) behind
  line_front Lacking = Rest
  line_front Over = Takes [] limit TooLong

  -- the front where bytes are skipped up to a line feed
  abbrev pub skip_front : Cut → Front
  skip_front (Feed line behind) = Takes [] (length line + 1) InLine
  skip_front Lacking = Rest
  skip_front Over = Takes [] limit TooLong

  -- the front of the bytes at a place
  abbrev pub front_at : Place → Cut → Front
  front_at InLine cut = line_front cut
  front_at InSkip cut = skip_front cut
  front_at AtQuit cut = Rest
  front_at TooLong cut = Rest

  abbrev pub front_of : Place → List ℕ → Front
  front_of place bytes = front_at place (cut_within limit bytes)

-- what is read, with this asked before it
abbrev pub with_asked : List Asked → Read → Read
with_asked asked read = record read { asked = asked ++ read.asked }

-- a front, and what is read of the bytes after its first one, where so many are skipped; or nothing
abbrev pub after_front : Front → (ℕ → Place → Read) → Read → Read
after_front (Takes asked n place) after nothing = with_asked asked (after (n - 1) place)
after_front Rest after nothing = nothing

module _ (item_max limit : ℕ) where
  -- what is read of bytes at a place, where so many of them are skipped first
  abbrev pub read_from : ℕ → Place → List ℕ → Read
  read_from skip place [] = record { asked = []; skip = skip; place = place; rest = [] }
  read_from (suc skip) place (b ∷ bytes) = read_from skip place bytes
  read_from zero place (b ∷ bytes) =
      after_front (front_of item_max limit place (b ∷ bytes)) (λ skip next. read_from skip next bytes)
      (record { asked = []; skip = 0; place = place; rest = b ∷ bytes })

-- what is read of all bytes of a session, where a value has at most this many bytes
abbrev pub commands_of : ℕ → List ℕ → Read
commands_of item_max bytes = read_from item_max line_limit 0 InLine bytes
