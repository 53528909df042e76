-- How many bytes there are where more are needed.
use Rattle.std.proofs.Common.{◌≡◌, ℕ, zero, suc, ◌+◌, ◌<◌, ◌≤◌, Bool, true, false, ◌&&◌, ◌==◌, List, [], ◌∷◌, ◌++◌, length, if◌then◌else◌, refl, ◌∙◌, ap, subst, arith}
use Rattle.std.specs.Prelude.{take, drop}
use Rattle.flash_text.specs.declared.text.Refusal.TheVariants.{BadChunk}
use Rattle.flash_reply.specs.declared.command.Command.{Command}
use Rattle.flash_commands.specs.Parts.{Asked, Asks, Refused, Meaning, Plain, Block, Skips, Quits, Cut, Feed, Lacking, Over, Takes, Rest}
use Rattle.flash_commands.specs.declared.place.Place.{Place}
use Rattle.flash_commands.specs.declared.place.Place.TheVariants.{InLine, InSkip, AtQuit, TooLong}
use Rattle.flash_commands.specs.Meanings.{meaning_of}
use Rattle.flash_commands.specs.Commands.{line_limit, after_byte, cut_within, with_block, with_meaning, line_front, skip_front, front_of}
use Rattle.flash_commands.specs.Laws.{IsEnd, BlocksAreWithin, ARestIsShort, ABlockIsAwaited}
use Rattle.flash_commands.proofs.Blocks.{IsWithin}
use Rattle.flash_commands.proofs.Cuts.{CutStays, cut_stays}

-- what a search for a line feed says of the number of bytes
abbrev Sized : ℕ → ℕ → Cut → Type 0
Sized limit n (Feed line behind) = (n ≡ length line + 1 + length behind) × (length line < limit)
Sized limit n Lacking = n < limit
Sized limit n Over = limit ≤ n

byte_sized : (limit n b : ℕ) (cut : Cut) → Sized limit n cut → Sized (suc limit) (suc n) (after_byte b cut)
byte_sized limit n b (Feed line behind) sized = (omega (arith, sized.0), omega (arith, sized.1))
byte_sized limit n b Lacking sized = omega (arith, sized)
byte_sized limit n b Over sized = omega (arith, sized)

test_sized : (limit b : ℕ) (bytes : List ℕ) (feed : Bool) (cut : Cut) → Sized limit (length bytes) cut → Sized (suc limit) (suc (length bytes)) (if feed then Feed [] bytes else after_byte b cut)
test_sized limit b bytes true cut sized = (omega arith, omega arith)
test_sized limit b bytes false cut sized = byte_sized limit (length bytes) b cut sized

cut_sized : (limit : ℕ) (bytes : List ℕ) → Sized limit (length bytes) (cut_within limit bytes)
cut_sized zero bytes = omega arith
cut_sized (suc limit) [] = omega arith
cut_sized (suc limit) (b ∷ bytes) = test_sized limit b bytes (b == 10) (cut_within limit bytes) (cut_sized limit bytes)

-- one of two fronts that are taken isn't a rest
one_taken : {A : Type 0} (test : Bool) (n m : ℕ) (place next : Place) (asked other : List Asked) → (if test then Takes asked n place else Takes other m next) ≡ Rest → A
one_taken true n m place next asked other rest = absurd (cc rest)
one_taken false n m place next asked other rest = absurd (cc rest)

-- the end of a block that is awaited has fewer than two bytes
end_short : (command : Command) (n size : ℕ) (block behind : List ℕ) → with_block command n size block behind ≡ Rest → length behind < 2
end_short command n size block [] rest = omega arith
end_short command n size block (a ∷ []) rest = omega arith
end_short command n size block (a ∷ b ∷ behind) rest =
    one_taken ((a == 13) && (b == 10)) (n + size + 2) (n + size) InLine InSkip (Asks command block ∷ []) (Refused BadChunk ∷ []) rest

-- what is left after k bytes are dropped
dropped : (k : ℕ) (bytes : List ℕ) (most : ℕ) → length (drop k bytes) < most → length bytes < k + most
dropped zero bytes most less = omega (arith, less)
dropped (suc k) [] most less = omega (arith, less)
dropped (suc k) (b ∷ bytes) most less = let one = dropped k bytes most less in omega (arith, one)

meaning_short : (meaning : Meaning) (n item_max : ℕ) (behind : List ℕ) → IsWithin item_max meaning → with_meaning meaning n behind ≡ Rest → length behind < item_max + 2
meaning_short (Plain command) n item_max behind within rest = absurd (cc rest)
meaning_short (Block command size) n item_max behind within rest =
    let size_within = within command size refl in
    let less = dropped size behind 2 (end_short command n size (take size behind) (drop size behind) rest) in
    omega (arith, size_within, less)
meaning_short (Skips refusal skip) n item_max behind within rest = absurd (cc rest)
meaning_short Quits n item_max behind within rest = absurd (cc rest)

module _ (within : BlocksAreWithin) (item_max limit : ℕ) where
  line_short : (n : ℕ) (cut : Cut) → Sized limit n cut → line_front item_max limit cut ≡ Rest → n < limit + item_max + 2
  line_short n (Feed line behind) sized rest =
      let less = meaning_short (meaning_of item_max line) (length line + 1) item_max behind (within item_max line) rest in omega (arith, sized.0, sized.1, less)
  line_short n Lacking sized rest = omega (arith, sized)
  line_short n Over sized rest = absurd (cc rest)

  skip_short : (n : ℕ) (cut : Cut) → Sized limit n cut → skip_front item_max limit cut ≡ Rest → n < limit + item_max + 2
  skip_short n (Feed line behind) sized rest = absurd (cc rest)
  skip_short n Lacking sized rest = omega (arith, sized)
  skip_short n Over sized rest = absurd (cc rest)

  front_short : (place : Place) (bytes : List ℕ) → (IsEnd place → ⊥) → front_of item_max limit place bytes ≡ Rest → length bytes < limit + item_max + 2
  front_short InLine bytes going rest = line_short (length bytes) (cut_within limit bytes) (cut_sized limit bytes) rest
  front_short InSkip bytes going rest = skip_short (length bytes) (cut_within limit bytes) (cut_sized limit bytes) rest
  front_short AtQuit bytes going rest = absurd (going tt)
  front_short TooLong bytes going rest = absurd (going tt)

pub rest_is_short : BlocksAreWithin → ARestIsShort
rest_is_short within item_max place bytes going rest = front_short within item_max line_limit place bytes going rest

-- a block whose end isn't there
end_awaited : (command : Command) (n size : ℕ) (block behind : List ℕ) → length behind < 2 → with_block command n size block behind ≡ Rest
end_awaited command n size block [] less = refl
end_awaited command n size block (a ∷ []) less = refl
end_awaited command n size block (a ∷ b ∷ behind) less = absurd (omega (arith, less))

left_short : (k : ℕ) (bytes : List ℕ) (most : ℕ) → length bytes < k + most → 0 < most → length (drop k bytes) < most
left_short zero bytes most less some = omega (arith, less)
left_short (suc k) [] most less some = omega (arith, some)
left_short (suc k) (b ∷ bytes) most less some = left_short k bytes most (omega (arith, less)) some

pub block_is_awaited : ABlockIsAwaited
block_is_awaited item_max size bytes more line behind command cut means less =
    let stays : CutStays more (Feed line behind) (cut_within line_limit (bytes ++ more)) =
    subst (λ (c : Cut). CutStays more c (cut_within line_limit (bytes ++ more))) cut (cut_stays line_limit bytes more) in
    ap (line_front item_max line_limit) stays
    ∙ ap (λ (m : Meaning). with_meaning m (length line + 1) (behind ++ more)) means
    ∙ end_awaited command (length line + 1) size (take size (behind ++ more)) (drop size (behind ++ more)) (left_short size (behind ++ more) 2 less (omega arith))
