-- The step of a line of at least three words, as the code cuts it.
use Rattle.std.proofs.Common.{◌≡◌, ℕ, List, [], ◌∷◌, Option, None, Some, Result, Ok, Err, option_map, refl, sym, ◌∙◌, ap, subst}
use Rattle.std.specs.Prelude.{MatchResult}
use Rattle.std.specs.Result.{result_map_both}
use Rattle.std.specs.Option.{ok_or}
use denote.Ref.{Bor}
use Rattle.flash_names.specs.Words.{words, words_if}
use Rattle.flash_script.specs.declared.fault.Why.{Why}
use Rattle.flash_script.specs.declared.fault.Why.TheVariants.{BadWord, BadNumber}
use Rattle.flash_script.specs.declared.step_line.StepWord.{StepWord}
use Rattle.flash_script.specs.declared.step_line.StepWord.TheVariants as begins
use Rattle.flash_script.specs.declared.step.Step as code_step
use Rattle.flash_script.specs.CodeScripts.{step_meant}
use Rattle.flash_script.specs.Steps.{Step, Say}
use Rattle.flash_script.specs.Scripts.{behind_word, two_of, session_of, step_word, step_of_word, step_of_words, step_of}
use Rattle.flash_script.proofs.Scripts.Words.{no_words, behind_first, IsEnd, end_twice}

-- words that have a word more
has_more : (begin : StepWord) (number text input : List ℕ) (ws : List (List ℕ)) (r : Result Step Why) → words input ≡ ws
    → ((word : List ℕ) (more : List (List ℕ)) → step_of_word begin (number ∷ word ∷ more) text ≡ r) → step_of_word begin (number ∷ ws) text ≡ r
has_more begin number text input [] r here each = absurd (no_words input here)
has_more begin number text input (w ∷ ws) r here each = each w ws

-- the words of a part after a space
behind_space : (bytes word : List ℕ) (rest : Option (Bor (List ℕ))) (r : Bor (List ℕ)) → words bytes ≡ word ∷ words_if (option_map (λ x. x.now) rest) → rest ≡ Some r
    → words bytes ≡ word ∷ words r.now
behind_space bytes word rest r is here = is ∙ ap (λ (o : Option (Bor (List ℕ))). word ∷ words_if (option_map (λ x. x.now) o)) here

-- three words or more aren't two
not_two : (one two : List ℕ) (rest : List ℕ) (ws : List (List ℕ)) → words rest ≡ ws → None ≡ two_of (one ∷ two ∷ ws)
not_two one two rest [] here = absurd (no_words rest here)
not_two one two rest (w ∷ ws) here = refl

-- what is after two words and a space has a word more
pub three_words : (rest : Option (Bor (List ℕ))) (r m x : Bor (List ℕ)) (one two : List ℕ) (more third : Option (Bor (List ℕ))) → rest ≡ Some r
    → words r.now ≡ one ∷ words_if (option_map (λ x. x.now) more) → more ≡ Some m
    → words m.now ≡ two ∷ words_if (option_map (λ x. x.now) third) → third ≡ Some x → None ≡ two_of (words_if (option_map (λ x. x.now) rest))
three_words rest r m x one two more third has_rest cut has_more cut_more has_third =
    not_two one two x.now (words x.now) refl
    ∙ ap (λ (ws : List (List ℕ)). two_of (one ∷ ws)) (sym (behind_space m.now two third x cut_more has_third))
    ∙ ap two_of (sym (behind_space r.now one more m cut has_more))
    ∙ ap (λ (o : Option (Bor (List ℕ))). two_of (words_if (option_map (λ x. x.now) o))) (sym has_rest)

module _ (line word number : List ℕ) (second third : Option (Bor (List ℕ))) (rest input : Bor (List ℕ))
    (cut : words line ≡ word ∷ words_if (option_map (λ x. x.now) second)) (has_rest : second ≡ Some rest)
    (cut_rest : words rest.now ≡ number ∷ words_if (option_map (λ x. x.now) third)) (has_input : third ≡ Some input) where
  words_line : words line ≡ word ∷ words rest.now
  words_line = behind_space line word second rest cut has_rest

  words_rest : words rest.now ≡ number ∷ words input.now
  words_rest = behind_space rest.now number third input cut_rest has_input

  input_is : behind_word (behind_word line) ≡ input.now
  input_is = ap behind_word (behind_first line word rest.now words_line) ∙ behind_first rest.now number input.now words_rest

  -- what is input ends the line
  pub ends_line : IsEnd input.now line
  ends_line = subst (λ (l : List ℕ). IsEnd l line) input_is (end_twice line)

  step_is : (begin : StepWord) → step_word word ≡ Some begin → step_of line ≡ step_of_word begin (number ∷ words input.now) input.now
  step_is begin is =
      ap (λ (l : List ℕ). step_of_words (words line) l) input_is ∙ ap (λ (ws : List (List ℕ)). step_of_words ws input.now) words_line
      ∙ ap (λ (b : Option StepWord). elim b [ None ↦ Err BadWord | Some begin ↦ step_of_word begin (words rest.now) input.now ]) is
      ∙ ap (λ (ws : List (List ℕ)). step_of_word begin ws input.now) words_rest

  pub say_is : step_word word ≡ Some begins.Say → step_of line ≡ ok_or (option_map (λ session. Say session input.now) (session_of number)) BadNumber
  say_is is = step_is begins.Say is ∙ has_more begins.Say number input.now input.now (words input.now) (ok_or (option_map (λ session. Say session input.now) (session_of number)) BadNumber) refl (λ w ws. refl)

  -- the other steps have no third word
  pub clock_is : step_word word ≡ Some begins.Clock → step_of line ≡ Err BadWord
  clock_is is = step_is begins.Clock is ∙ has_more begins.Clock number input.now input.now (words input.now) (Err BadWord) refl (λ w ws. refl)

  pub turn_is : step_word word ≡ Some begins.Turn → step_of line ≡ Err BadWord
  turn_is is = step_is begins.Turn is ∙ has_more begins.Turn number input.now input.now (words input.now) (Err BadWord) refl (λ w ws. refl)

  pub run_is : step_word word ≡ Some begins.Run → step_of line ≡ Err BadWord
  run_is is = step_is begins.Run is ∙ has_more begins.Run number input.now input.now (words input.now) (Err BadWord) refl (λ w ws. refl)

-- a step of one word reads no text
no_text : (begin : StepWord) (text : List ℕ) → step_of_word begin [] text ≡ step_of_word begin [] []
no_text begins.Clock text = refl
no_text begins.Turn text = refl
no_text begins.Run text = refl
no_text begins.Say text = refl
no_text (begins.Keep kind) text = refl

-- the step of a line of one word
pub one_word_is : (line word : List ℕ) (second : Option (Bor (List ℕ))) → words line ≡ word ∷ words_if (option_map (λ x. x.now) second) → second ≡ None → (begin : StepWord) → step_word word ≡ Some begin
    → step_of line ≡ step_of_word begin [] []
one_word_is line word second cut none begin is =
    let text = behind_word (behind_word line) in
    ap (λ (ws : List (List ℕ)). step_of_words ws text) (cut ∙ ap (λ (o : Option (Bor (List ℕ))). word ∷ words_if (option_map (λ x. x.now) o)) none)
    ∙ ap (λ (b : Option StepWord). elim b [ None ↦ Err BadWord | Some begin ↦ step_of_word begin [] text ]) is ∙ no_text begin text

-- what was read, or why it wasn't, as the code's step means
pub match_read : (bytes : List ℕ) (r : Result code_step.Step Why) (e : Result Step Why) → result_map_both (step_meant bytes) (λ why. why) r ≡ e → MatchResult r (λ step. e ≡ Ok (step_meant bytes step)) (λ why. e ≡ Err why)
match_read bytes (Ok step) e is = sym is
match_read bytes (Err why) e is = sym is
