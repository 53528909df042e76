-- Which steps commands have.
use Rattle.std.proofs.Common.{◌≡◌, ℕ, List, [], ◌∷◌, ◌++◌, Option, None, Some, refl, ◌∙◌, ap}
use Rattle.std.specs.Prelude.{map}
use Rattle.std.specs.Option.{option_to_list}
use Rattle.std.specs.List.{filter_map}
use Rattle.std.proofs.lemmas.List.{append-nil}
use Rattle.flash_entry.specs.declared.ask.Ask.{Ask}
use Rattle.flash_entry.specs.declared.ask.Ask.TheVariants as asks
use Rattle.flash_entry.specs.declared.ask.Look.{Look}
use Rattle.flash_text.specs.Said.{Said}
use Rattle.flash_text.specs.Words.{spaced_words}
use Rattle.flash_text.specs.declared.text.Verb.{Verb}
use Rattle.flash_text.specs.declared.text.Verb.TheVariants as verbs
use Rattle.flash_commands.specs.Asks.{look_of, look_or_change, key_ask, whole_ask}
use Rattle.flash_commands.specs.AskLaws.{ALookupAsksAtEachKey, AOneKeyCommandAsksOnce}

-- a command that asks at a key asks nothing without one
none_by : (verb : Verb) (said : Said) (key block : List ℕ) (ask : Ask) → look_or_change (look_of verb said.exptime) (record said { verb = verb }) key block ≡ Some ask → whole_ask verb said.exptime ≡ None
none_by verbs.FlushAll said key block ask is = absurd (cc is)
none_by verbs.Stats said key block ask is = absurd (cc is)
none_by _ said key block ask is = refl

none_whole : (said : Said) (key block : List ℕ) (ask : Ask) → key_ask said key block ≡ Some ask → whole_ask said.verb said.exptime ≡ None
none_whole said key block ask is = none_by said.verb said key block ask is

-- each key is asked of by the same look
each_key : (said : Said) (look : Look) (block : List ℕ) (words : List (List ℕ)) → look_of said.verb said.exptime ≡ Some look
    → filter_map (λ key. key_ask said key block) words ≡ map (λ key. asks.Look key look) words
each_key said look block [] is = refl
each_key said look block (word ∷ words) is =
    let one : key_ask said word block ≡ Some (asks.Look word look) = ap (λ (l : Option Look). look_or_change l said word block) is in
    let rest = each_key said look block words is in rw one (ap (λ (more : List Ask). asks.Look word look ∷ more) rest)

pub lookup_asks : ALookupAsksAtEachKey
lookup_asks said block look is =
    let none : whole_ask said.verb said.exptime ≡ None = none_whole said [] block (asks.Look [] look) (ap (λ (l : Option Look). look_or_change l said [] block) is) in
    ap (λ (l : List Ask). l ++ option_to_list (whole_ask said.verb said.exptime)) (each_key said look block (spaced_words said.keys) is)
    ∙ ap (λ (w : Option Ask). map (λ key. asks.Look key look) (spaced_words said.keys) ++ option_to_list w) none
    ∙ append-nil (map (λ key. asks.Look key look) (spaced_words said.keys))

pub one_key_asks : AOneKeyCommandAsksOnce
one_key_asks said key block ask keys is =
    ap (λ (words : List (List ℕ)). filter_map (λ key. key_ask said key block) words ++ option_to_list (whole_ask said.verb said.exptime)) keys
    ∙ ap (λ (w : Option Ask). filter_map (λ key. key_ask said key block) (key ∷ []) ++ option_to_list w) (none_whole said key block ask is)
    ∙ append-nil (filter_map (λ key. key_ask said key block) (key ∷ [])) ∙ rw is refl
