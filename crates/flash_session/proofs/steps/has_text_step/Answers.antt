use Rattle.std.proofs.Common.{◌≡◌, ℕ, List, sym, ◌∙◌, rules}
use Rattle.std.specs.Prelude.{is_some, slice_get}
use Rattle.flash_text.specs.Words.{spaced_words}
use Rattle.flash_commands.specs.Asks.{key_ask}
use Rattle.flash_session.proofs.Uniform.{whole_step, key_step, no_step}
use Rattle.flash_session.proofs.steps.has_text_step.Goals as goal

pub returns-then-is_some : goal.returns-then-is_some
returns-then-is_some c = λ block. whole_step c.args.text.now block c.whole_ask.result c.whole_ask.ensures (sym c.is_some.ensures ∙ c.if-is_some.true) c.args.step

pub returns-then-asks_at_keys : goal.returns-then-asks_at_keys
returns-then-asks_at_keys c = λ block.
    let said = c.args.text.now in
    let all : (key : List ℕ) → c.asks_at_keys.result ≡ is_some (key_ask said key block) = (λ key. let has = c.asks_at_keys.ensures said key block in search (rules, has)) in
    let found : c.is_some-then-asks_at_keys.result ≡ is_some (slice_get (spaced_words said.keys) c.args.step) = search rules in
    found ∙ key_step said block c.whole_ask.result c.whole_ask.ensures (sym c.is_some.ensures ∙ c.if-is_some.false) c.asks_at_keys.result all c.if-asks_at_keys.true c.args.step

pub returns-else-asks_at_keys : goal.returns-else-asks_at_keys
returns-else-asks_at_keys c = λ block.
    let said = c.args.text.now in
    let all : (key : List ℕ) → c.asks_at_keys.result ≡ is_some (key_ask said key block) = (λ key. let has = c.asks_at_keys.ensures said key block in search (rules, has)) in
    no_step said block c.whole_ask.result c.whole_ask.ensures (sym c.is_some.ensures ∙ c.if-is_some.false) c.asks_at_keys.result all c.if-asks_at_keys.false c.args.step
