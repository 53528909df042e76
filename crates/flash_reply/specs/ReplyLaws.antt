-- What is true of every reply.
use Rattle.std.specs.Prelude.{◌≡◌, ◌⊎◌, ℕ, ◌+◌, ◌<◌, false, List, [], ◌∷◌, ◌++◌, length, codes}
use Rattle.flash_entry.specs.declared.found.LookAnswer.{LookAnswer}
use Rattle.flash_entry.specs.declared.found.Told.{Told}
use Rattle.flash_entry.specs.declared.found.Told.TheVariants.{Found}
use Rattle.flash_text.specs.declared.text.Verb.{Verb}
use Rattle.flash_text.specs.Said.{Said}
use Rattle.flash_text.specs.Words.{spaced_words}
use Rattle.flash_reply.specs.declared.command.Command.{Command}
use Rattle.flash_reply.specs.declared.command.Command.TheVariants as commands
use Rattle.flash_reply.specs.Lines.{reply_line}
use Rattle.flash_reply.specs.Replies.{text}
use Rattle.flash_reply.specs.TextReplies.{block}

-- the bytes end with a line end
pub record EndsWithALine (bytes : List ℕ) : Type 0 where
  pub front : List ℕ
  pub parts : bytes ≡ reply_line front

-- a reply is empty, or ends with a line end
abbrev pub EachReplyIsWholeLines : Type 0
EachReplyIsWholeLines =
    (to : Command) (step : ℕ) (answer : Told) → (text to step answer ≡ []) ⊎ EndsWithALine (text to step answer)

-- the blocks of the items that were found under these keys, in order
abbrev pub blocks : Verb → List (List ℕ) → List LookAnswer → List ℕ
blocks verb (key ∷ keys) (answer ∷ answers) = block verb key answer ++ blocks verb keys answers
blocks verb _ _ = []

-- the replies to the steps of a lookup from this one on
abbrev pub lookup_texts : Said → ℕ → List LookAnswer → List ℕ
lookup_texts said step [] = []
lookup_texts said step (answer ∷ answers) =
    text (commands.Text said) step (Found answer) ++ lookup_texts said (step + 1) answers

-- a lookup whose keys are all answered is replied the blocks of what was found, and then `END` once
abbrev pub EachLookupEndsOnce : Type 0
EachLookupEndsOnce =
    (said : Said) (answers : List LookAnswer) → said.quiet ≡ false → 0 < length answers
    → length answers ≡ length (spaced_words said.keys)
    → lookup_texts said 1 answers ≡ blocks said.verb (spaced_words said.keys) answers ++ reply_line (codes "END")
