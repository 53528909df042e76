-- How a reader passes over bytes, and takes its front.
use Rattle.std.proofs.Common.{◌≡◌, ℕ, zero, suc, ◌+◌, ◌-◌, ◌<◌, ◌≤◌, Bool, true, false, ◌&&◌, ◌==◌, List, [], ◌∷◌, ◌++◌, length, if◌then◌else◌, refl, ◌∙◌, ap, subst, arith}
use Rattle.std.specs.Prelude.{take, drop}
use Rattle.std.proofs.lemmas.List.{append-nil}
use Rattle.flash_text.specs.declared.text.Refusal.TheVariants.{BadChunk}
use Rattle.flash_reply.specs.declared.command.Command.{Command}
use Rattle.flash_commands.specs.Parts.{Asked, Asks, Refused, Meaning, Plain, Block, Skips, Quits, Cut, Feed, Lacking, Over, Front, Takes, Rest, Read}
use Rattle.flash_commands.specs.declared.place.Place.{Place}
use Rattle.flash_commands.specs.declared.place.Place.TheVariants.{InLine, InSkip, AtQuit, TooLong}
use Rattle.flash_commands.specs.Meanings.{meaning_of}
use Rattle.flash_commands.specs.Commands.{line_limit, cut_within, with_block, with_meaning, line_front, skip_front, front_at, front_of, with_asked, after_front, read_from, commands_of}
use Rattle.flash_commands.specs.Reading.{Reader, HasRead}
use Rattle.flash_commands.proofs.Going.{asked_twice, unread}

-- a front that is taken has a byte
abbrev TakesSome : Front → Type 0
TakesSome (Takes asked n place) = 0 < n
TakesSome Rest = Unit {0}

either : (test : Bool) (one other : Front) → TakesSome one → TakesSome other → TakesSome (if test then one else other)
either true one other some more = some
either false one other some more = more

block_some : (command : Command) (n size : ℕ) (block behind : List ℕ) → 0 < n → TakesSome (with_block command n size block behind)
block_some command n size block [] some = tt
block_some command n size block (a ∷ []) some = tt
block_some command n size block (a ∷ b ∷ _) some =
    either ((a == 13) && (b == 10)) (Takes (Asks command block ∷ []) (n + size + 2) InLine) (Takes (Refused BadChunk ∷ []) (n + size) InSkip) (omega arith) (omega arith)

meaning_some : (meaning : Meaning) (n : ℕ) (behind : List ℕ) → 0 < n → TakesSome (with_meaning meaning n behind)
meaning_some (Plain command) n behind some = some
meaning_some (Block command size) n behind some = block_some command n size (take size behind) (drop size behind) some
meaning_some (Skips refusal skip) n behind some = omega arith
meaning_some Quits n behind some = some

module _ (item_max limit : ℕ) (some : 0 < limit) where
  line_some : (cut : Cut) → TakesSome (line_front item_max limit cut)
  line_some (Feed line behind) = meaning_some (meaning_of item_max line) (length line + 1) behind (omega arith)
  line_some Lacking = tt
  line_some Over = some

  skip_some : (cut : Cut) → TakesSome (skip_front item_max limit cut)
  skip_some (Feed line behind) = omega arith
  skip_some Lacking = tt
  skip_some Over = some

  front_some : (place : Place) (cut : Cut) → TakesSome (front_at item_max limit place cut)
  front_some InLine cut = line_some cut
  front_some InSkip cut = skip_some cut
  front_some AtQuit cut = tt
  front_some TooLong cut = tt

  -- without bytes more are needed
  none_lack : (most : ℕ) → 0 < most → cut_within most [] ≡ Lacking
  none_lack zero one = absurd (omega arith)
  none_lack (suc most) one = refl

  lacking_rests : (place : Place) → front_at item_max limit place Lacking ≡ Rest
  lacking_rests InLine = refl
  lacking_rests InSkip = refl
  lacking_rests AtQuit = refl
  lacking_rests TooLong = refl

  none_rests : (place : Place) → front_of item_max limit place [] ≡ Rest
  none_rests place = ap (front_at item_max limit place) (none_lack limit some) ∙ lacking_rests place

  -- the first byte of a front is passed
  passed : (n : ℕ) (place : Place) (b : ℕ) (bytes : List ℕ) → 0 < n → read_from item_max limit (n - 1) place bytes ≡ read_from item_max limit n place (b ∷ bytes)
  passed zero place b bytes one = absurd (omega arith)
  passed (suc n) place b bytes one = let less : suc n - 1 ≡ n = omega arith in ap (λ (k : ℕ). read_from item_max limit k place bytes) less

  -- what a front asks, and what is read after its bytes
  front_read : (n : ℕ) (asked : List Asked) (place next : Place) (bytes : List ℕ) → front_of item_max limit place bytes ≡ Takes asked n next
      → read_from item_max limit 0 place bytes ≡ with_asked asked (read_from item_max limit n next bytes)
  front_read n asked place next [] front = absurd (cc (front, none_rests place))
  front_read n asked place next (b ∷ bytes) front =
      ap (λ (f : Front). after_front f (λ skip p. read_from item_max limit skip p bytes) (unread item_max limit place (b ∷ bytes))) front
      ∙ ap (with_asked asked) (passed n next b bytes (subst TakesSome front (front_some place (cut_within limit (b ∷ bytes)))))

  -- a front has a byte, and so do the bytes that it begins
  pub has_a_byte : (n : ℕ) (asked : List Asked) (place next : Place) (bytes : List ℕ) → front_of item_max limit place bytes ≡ Takes asked n next → (1 ≤ n) × (1 ≤ length bytes)
  has_a_byte n asked place next [] front = absurd (cc (front, none_rests place))
  has_a_byte n asked place next (b ∷ bytes) front = (subst TakesSome front (front_some place (cut_within limit (b ∷ bytes))), omega arith)

  -- a rest asks nothing
  rest_asks_none : (place : Place) (bytes : List ℕ) → front_of item_max limit place bytes ≡ Rest → (read_from item_max limit 0 place bytes).asked ≡ []
  rest_asks_none place [] rest = refl
  rest_asks_none place (b ∷ bytes) rest =
      ap (λ (f : Front). (after_front f (λ skip p. read_from item_max limit skip p bytes) (unread item_max limit place (b ∷ bytes))).asked) rest

module _ (item_max : ℕ) where
  -- bytes that are skipped
  skipped : (n skip : ℕ) (place : Place) (bytes : List ℕ) → n ≤ skip → n ≤ length bytes → read_from item_max line_limit skip place bytes ≡ read_from item_max line_limit (skip - n) place (drop n bytes)
  skipped zero skip place bytes least there = let same : skip ≡ skip - 0 = omega arith in ap (λ (k : ℕ). read_from item_max line_limit k place bytes) same
  skipped (suc n) skip place [] least there = absurd (omega arith)
  skipped (suc n) zero place (b ∷ bytes) least there = absurd (omega arith)
  skipped (suc n) (suc skip) place (b ∷ bytes) least there =
      let same : skip - n ≡ suc skip - suc n = omega arith in
      skipped n skip place bytes (omega arith) (omega arith) ∙ ap (λ (k : ℕ). read_from item_max line_limit k place (drop n bytes)) same

  pub skips : (n : ℕ) (bytes : List ℕ) (given : List Asked) (reader : Reader) → n ≤ reader.skip → n ≤ length reader.unread
      → HasRead item_max bytes given reader → HasRead item_max bytes given (record reader { skip = reader.skip - n; unread = drop n reader.unread })
  skips n bytes given reader least there has = has ∙ ap (with_asked given) (skipped n reader.skip reader.place reader.unread least there)

  pub takes : (n : ℕ) (bytes : List ℕ) (given asked : List Asked) (next : Place) (reader : Reader) → reader.skip ≡ 0
      → front_of item_max line_limit reader.place reader.unread ≡ Takes asked n next → HasRead item_max bytes given reader
      → HasRead item_max bytes (given ++ asked) (record { skip = n; place = next; unread = reader.unread })
  takes n bytes given asked next reader none front has =
      has
      ∙ ap (λ (k : ℕ). with_asked given (read_from item_max line_limit k reader.place reader.unread)) none
      ∙ ap (with_asked given) (front_read item_max line_limit (omega arith) n asked reader.place next reader.unread front)
      ∙ asked_twice given asked (read_from item_max line_limit n next reader.unread)

  pub rest_is_all : (bytes : List ℕ) (given : List Asked) (reader : Reader) → reader.skip ≡ 0 → front_of item_max line_limit reader.place reader.unread ≡ Rest
      → HasRead item_max bytes given reader → (commands_of item_max bytes).asked ≡ given
  rest_is_all bytes given reader none rest has =
      ap (λ (read : Read). read.asked) has
      ∙ ap (λ (k : ℕ). given ++ (read_from item_max line_limit k reader.place reader.unread).asked) none
      ∙ ap (λ (asked : List Asked). given ++ asked) (rest_asks_none item_max line_limit (omega arith) reader.place reader.unread rest)
      ∙ append-nil given
