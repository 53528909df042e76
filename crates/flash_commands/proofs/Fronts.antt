-- The front of bytes, with more bytes after them.
use Rattle.std.proofs.Common.{◌≡◌, ℕ, zero, suc, ◌+◌, List, [], ◌∷◌, ◌++◌, length, refl, sym, ap, subst}
use Rattle.std.specs.Prelude.{take, drop}
use Rattle.flash_reply.specs.declared.command.Command.{Command}
use Rattle.flash_commands.specs.Parts.{Meaning, Plain, Block, Skips, Quits, Cut, Feed, Lacking, Over, Front, Takes, Rest}
use Rattle.flash_commands.specs.declared.place.Place.{Place}
use Rattle.flash_commands.specs.declared.place.Place.TheVariants.{InLine, InSkip, AtQuit, TooLong}
use Rattle.flash_commands.specs.Meanings.{meaning_of}
use Rattle.flash_commands.specs.Commands.{cut_within, with_block, with_meaning, line_front, skip_front, front_of}
use Rattle.flash_commands.proofs.Cuts.{CutStays, cut_stays}

-- a front that is taken is taken with more bytes after it
abbrev pub FrontStays : Front → Front → Type 0
FrontStays (Takes asked n place) longer = longer ≡ Takes asked n place
FrontStays Rest longer = Unit {0}

itself : (front : Front) → FrontStays front front
itself (Takes asked n place) = refl
itself Rest = tt

end_stays : (command : Command) (n size : ℕ) (block behind more : List ℕ) → FrontStays (with_block command n size block behind) (with_block command n size block (behind ++ more))
end_stays command n size block [] more = tt
end_stays command n size block (a ∷ []) more = tt
end_stays command n size block (a ∷ b ∷ behind) more = itself (with_block command n size block (a ∷ b ∷ behind))

-- of a block the first bytes were passed, and k are left
block_stays : (command : Command) (n size k : ℕ) (behind more : List ℕ) (passed : List ℕ → List ℕ)
    → FrontStays (with_block command n size (passed (take k behind)) (drop k behind)) (with_block command n size (passed (take k (behind ++ more))) (drop k (behind ++ more)))
block_stays command n size zero behind more passed = end_stays command n size (passed []) behind more
block_stays command n size (suc k) [] more passed = tt
block_stays command n size (suc k) (x ∷ behind) more passed = block_stays command n size k behind more (λ block. passed (x ∷ block))

meaning_stays : (meaning : Meaning) (n : ℕ) (behind more : List ℕ) → FrontStays (with_meaning meaning n behind) (with_meaning meaning n (behind ++ more))
meaning_stays (Plain command) n behind more = refl
meaning_stays (Block command size) n behind more = block_stays command n size size behind more (λ block. block)
meaning_stays (Skips refusal skip) n behind more = refl
meaning_stays Quits n behind more = refl

module _ (item_max limit : ℕ) where
  line_stays : (more : List ℕ) (cut longer : Cut) → CutStays more cut longer → FrontStays (line_front item_max limit cut) (line_front item_max limit longer)
  line_stays more (Feed line behind) longer stays =
      subst (λ (c : Cut). FrontStays (with_meaning (meaning_of item_max line) (length line + 1) behind) (line_front item_max limit c)) (sym stays)
      (meaning_stays (meaning_of item_max line) (length line + 1) behind more)
  line_stays more Lacking longer stays = tt
  line_stays more Over longer stays = ap (line_front item_max limit) stays

  skip_stays : (more : List ℕ) (cut longer : Cut) → CutStays more cut longer → FrontStays (skip_front item_max limit cut) (skip_front item_max limit longer)
  skip_stays more (Feed line behind) longer stays = ap (skip_front item_max limit) stays
  skip_stays more Lacking longer stays = tt
  skip_stays more Over longer stays = ap (skip_front item_max limit) stays

  pub front_stays : (place : Place) (bytes more : List ℕ) → FrontStays (front_of item_max limit place bytes) (front_of item_max limit place (bytes ++ more))
  front_stays InLine bytes more = line_stays more (cut_within limit bytes) (cut_within limit (bytes ++ more)) (cut_stays limit bytes more)
  front_stays InSkip bytes more = skip_stays more (cut_within limit bytes) (cut_within limit (bytes ++ more)) (cut_stays limit bytes more)
  front_stays AtQuit bytes more = tt
  front_stays TooLong bytes more = tt
