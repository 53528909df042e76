use Rattle.std.proofs.Common.{◌≡◌, None, Some, sym, ◌∙◌, ap, rules}
use Rattle.std.specs.Prelude.{slice_get}
use Rattle.flash_text.specs.Words.{spaced_words}
use Rattle.flash_commands.specs.Asks.{key_ask, whole_ask}
use Rattle.flash_session.proofs.Uniform.{ask_of_word, at_key, at_whole}
use Rattle.flash_session.proofs.steps.text_ask_at.Goals as goal

pub returns-in_default-word_at : goal.returns-in_default-word_at
returns-in_default-word_at c =
    let said = c.args.text.now in
    let none : whole_ask said.verb said.exptime ≡ None = sym c.whole_ask.ensures ∙ c.in_default.is in
    let word : slice_get (spaced_words said.keys) c.args.step ≡ None = search rules in
    sym (at_key said c.args.block.now none c.args.step ∙ ap (ask_of_word (λ key. key_ask said key c.args.block.now)) word)

pub returns : goal.returns
returns c =
    let said = c.args.text.now in
    let none : whole_ask said.verb said.exptime ≡ None = sym c.whole_ask.ensures ∙ c.in_default.is in
    let word : slice_get (spaced_words said.keys) c.args.step ≡ Some c.in-Some-word_at.word.now = search rules in
    let asked : c.key_ask.result ≡ key_ask said c.in-Some-word_at.word.now c.args.block.now = search rules in
    asked ∙ sym (at_key said c.args.block.now none c.args.step ∙ ap (ask_of_word (λ key. key_ask said key c.args.block.now)) word)

pub returns-in-Some : goal.returns-in-Some
returns-in-Some c = c.only.ensures ∙ sym (at_whole c.args.text.now c.args.block.now c.in-Some.whole (sym c.whole_ask.ensures ∙ c.in-Some.is) c.args.step)
