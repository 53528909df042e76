-- How many steps commands have, and which.
use Rattle.std.specs.Prelude.{◌≡◌, ℕ, List, [], ◌∷◌, map, Some}
use Rattle.flash_entry.specs.declared.ask.Ask.{Ask}
use Rattle.flash_entry.specs.declared.ask.Ask.TheVariants as asks
use Rattle.flash_entry.specs.declared.ask.Look.{Look}
use Rattle.flash_text.specs.Said.{Said}
use Rattle.flash_text.specs.Words.{spaced_words}
use Rattle.flash_reply.specs.declared.command.Command.TheVariants.{Text}
use Rattle.flash_commands.specs.Asks.{look_of, key_ask, asks_of}

-- a lookup asks at each of its keys, in their order
abbrev pub ALookupAsksAtEachKey : Type 0
ALookupAsksAtEachKey = (said : Said) (block : List ℕ) (look : Look) → look_of said.verb said.exptime ≡ Some look
    → asks_of (Text said) block ≡ map (λ key. asks.Look key look) (spaced_words said.keys)

-- a command of one key that asks something there asks that alone
abbrev pub AOneKeyCommandAsksOnce : Type 0
AOneKeyCommandAsksOnce = (said : Said) (key block : List ℕ) (ask : Ask) → spaced_words said.keys ≡ key ∷ []
    → key_ask said key block ≡ Some ask → asks_of (Text said) block ≡ ask ∷ []
