-- What a command asks of the store, step by step.
use Rattle.std.specs.Prelude.{ℕ, ℤ, pos, Bool, true, false, List, [], ◌∷◌, ◌++◌, Option, None, Some, unwrap_or}
use Rattle.std.specs.Option.{option_map, option_to_list}
use Rattle.std.specs.List.{filter_map}
use Rattle.flash_entry.specs.declared.ask.Ask.{Ask}
use Rattle.flash_entry.specs.declared.ask.Ask.TheVariants as asks
use Rattle.flash_entry.specs.declared.ask.Look.{Look}
use Rattle.flash_entry.specs.declared.ask.Mode.{Mode}
use Rattle.flash_entry.specs.declared.ask.Mode.TheVariants.{Set}
use Rattle.flash_text.specs.Said.{Said}
use Rattle.flash_text.specs.Words.{spaced_words}
use Rattle.flash_text.specs.declared.text.Verb.{Verb}
use Rattle.flash_text.specs.declared.text.Verb.TheVariants as verbs
use Rattle.flash_meta.specs.MetaSaid.{MetaSaid}
use Rattle.flash_meta.specs.declared.meta.MetaVerb.{MetaVerb}
use Rattle.flash_meta.specs.declared.meta.MetaVerb.TheVariants as metas
use Rattle.flash_reply.specs.declared.command.Command.{Command}
use Rattle.flash_reply.specs.declared.command.Command.TheVariants.{Text, Meta}

-- how `get`, `gets`, `gat` and `gats` look a key up: with its value, and the last two renew its exptime
abbrev pub look_of : Verb → ℤ → Option Look
look_of verbs.Get exptime = Some (record { value = true; renew = None })
look_of verbs.Gets exptime = Some (record { value = true; renew = None })
look_of verbs.Gat exptime = Some (record { value = true; renew = Some exptime })
look_of verbs.Gats exptime = Some (record { value = true; renew = Some exptime })
look_of _ exptime = None

-- a store of the block under the key
abbrev pub put_of : Said → Mode → Option ℕ → List ℕ → List ℕ → Ask
put_of said mode compare key block = asks.Store (record {
  key = key;
  mode = mode;
  flags = said.flags;
  exptime = said.exptime;
  compare = compare;
  value = block;
})

-- arithmetic on the key's number
abbrev pub sum_of : Said → Bool → List ℕ → Ask
sum_of said down key = asks.Sum (record {
  key = key;
  down = down;
  delta = said.number;
  compare = None;
  renew = None;
  create = None;
})

-- what a command of the text protocol that looks nothing up asks at its key
abbrev pub change_of : Verb → Said → List ℕ → List ℕ → Option Ask
change_of (verbs.Store mode) said key block = Some (put_of said mode None key block)
change_of verbs.Cas said key block = Some (put_of said Set (Some said.number) key block)
change_of verbs.Delete said key block = Some (asks.Delete key None)
change_of verbs.Incr said key block = Some (sum_of said false key)
change_of verbs.Decr said key block = Some (sum_of said true key)
change_of verbs.Touch said key block = Some (asks.Touch key said.exptime)
change_of _ said key block = None

-- what a lookup asks at a key, or else a change
abbrev pub look_or_change : Option Look → Said → List ℕ → List ℕ → Option Ask
look_or_change (Some look) said key block = Some (asks.Look key look)
look_or_change None said key block = change_of said.verb said key block

-- what a command of the text protocol asks at one of its keys
abbrev pub key_ask : Said → List ℕ → List ℕ → Option Ask
key_ask said key block = look_or_change (look_of said.verb said.exptime) said key block

-- what a command of the text protocol without a key asks
abbrev pub whole_ask : Verb → ℤ → Option Ask
whole_ask verbs.FlushAll exptime = Some (asks.Flush exptime)
whole_ask verbs.Stats exptime = Some asks.Stats
whole_ask _ exptime = None

-- the steps of a command of the text protocol: one for each key, or one without a key
abbrev pub text_asks : Said → List ℕ → List Ask
text_asks said block =
    filter_map (λ key. key_ask said key block) (spaced_words said.keys)
    ++ option_to_list (whole_ask said.verb said.exptime)

-- the step of a command of the meta protocol
abbrev pub meta_ask : MetaVerb → MetaSaid → List ℕ → Ask
meta_ask metas.Get said block = asks.Look said.key (record { value = said.value; renew = said.exptime })
meta_ask metas.Set said block = asks.Store (record {
  key = said.key;
  mode = said.mode;
  flags = said.flags;
  exptime = unwrap_or said.exptime (pos 0);
  compare = said.compare;
  value = block;
})
meta_ask metas.Delete said block = asks.Delete said.key said.compare
meta_ask metas.Arith said block = asks.Sum (record {
  key = said.key;
  down = said.down;
  delta = said.delta;
  compare = said.compare;
  renew = said.exptime;
  create = option_map (λ exptime. record { exptime = exptime; start = said.start }) said.create;
})

-- the steps of a command with its block
abbrev pub asks_of : Command → List ℕ → List Ask
asks_of (Text said) block = text_asks said block
asks_of (Meta said) block = meta_ask said.verb said block ∷ []
