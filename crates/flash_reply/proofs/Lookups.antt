-- The replies to all steps of a lookup.
use Rattle.std.proofs.Common.{◌≡◌, ℕ, ◌+◌, ◌-◌, ◌<◌, Bool, false, List, [], ◌∷◌, ◌++◌, codes, drop, length, refl, sym, ◌∙◌, ap, arith, append_assoc, drop-drop}
use Rattle.std.proofs.lemmas.List.{append-nil}
use Rattle.flash_entry.specs.declared.found.LookAnswer.{LookAnswer}
use Rattle.flash_entry.specs.declared.found.Told.TheVariants.{Found}
use Rattle.flash_text.specs.Said.{Said}
use Rattle.flash_text.specs.Words.{spaced_words}
use Rattle.flash_reply.specs.declared.command.Command.TheVariants as commands
use Rattle.flash_reply.specs.Lines.{reply_line, unless_quiet}
use Rattle.flash_reply.specs.Replies.{text}
use Rattle.flash_reply.specs.ReplyLaws.{blocks, lookup_texts, EachLookupEndsOnce}
use Rattle.flash_reply.specs.TextReplies.{block, first_text}

module _ (said : Said) (loud : said.quiet ≡ false) where
  -- the reply to a step, by the keys from its own on
  step_text : (n : ℕ) (keys : List (List ℕ)) (answer : LookAnswer) → drop n (spaced_words said.keys) ≡ keys
      → text (commands.Text said) (n + 1) (Found answer) ≡ first_text said.verb keys answer
  step_text n keys answer left =
      let same : n + 1 - 1 ≡ n = omega arith in
      ap (λ (quiet : Bool). unless_quiet quiet (first_text said.verb (drop (n + 1 - 1) (spaced_words said.keys)) answer)) loud
      ∙ ap (λ (k : ℕ). first_text said.verb (drop k (spaced_words said.keys)) answer) same
      ∙ ap (λ (l : List (List ℕ)). first_text said.verb l answer) left

  -- the replies from a step on, by the keys that are left
  texts_from : (n : ℕ) (keys : List (List ℕ)) (answers : List LookAnswer) → drop n (spaced_words said.keys) ≡ keys
      → 0 < length answers → length answers ≡ length keys
      → lookup_texts said (n + 1) answers ≡ blocks said.verb keys answers ++ reply_line (codes "END")
  texts_from n keys [] left some same = absurd (omega arith)
  texts_from n [] (answer ∷ answers) left some same = absurd (omega arith)
  texts_from n (key ∷ []) (answer ∷ []) left some same =
      let first = block said.verb key answer in
      append-nil (text (commands.Text said) (n + 1) (Found answer)) ∙ step_text n (key ∷ []) answer left
      ∙ ap (λ (l : List ℕ). l ++ reply_line (codes "END")) (sym (append-nil first))
  texts_from n (key ∷ []) (answer ∷ second ∷ answers) left some same = absurd (omega arith)
  texts_from n (key ∷ next ∷ keys) (answer ∷ []) left some same = absurd (omega arith)
  texts_from n (key ∷ next ∷ keys) (answer ∷ second ∷ answers) left some same =
      let first = block said.verb key answer in
      let later = blocks said.verb (next ∷ keys) (second ∷ answers) in
      let rest : drop (n + 1) (spaced_words said.keys) ≡ next ∷ keys = sym (drop-drop 1 n (spaced_words said.keys)) ∙ ap (drop 1) left in
      let more = texts_from (n + 1) (next ∷ keys) (second ∷ answers) rest (omega arith) (omega (arith, same)) in
      ap (λ (l : List ℕ). l ++ lookup_texts said (n + 1 + 1) (second ∷ answers)) (step_text n (key ∷ next ∷ keys) answer left ∙ append-nil first)
      ∙ ap (λ (l : List ℕ). first ++ l) more ∙ sym (append_assoc first later (reply_line (codes "END")))

pub ends_once : EachLookupEndsOnce
ends_once said answers loud some same = texts_from said loud 0 (spaced_words said.keys) answers refl some same
