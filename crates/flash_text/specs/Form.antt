-- The form of the line of each command: what stands behind the command's word.
use Rattle.std.specs.Prelude.{ℕ, List, [], ◌∷◌, Option, None, Some, Bool, true, false, codes, if◌then◌else◌}
use Rattle.std.specs.Option.{option_or}
use Rattle.std.specs.Str.{bytes_eq}
use Rattle.flash_entry.specs.declared.ask.Mode.TheVariants as modes
use Rattle.flash_text.specs.declared.text.Verb.{Verb}
use Rattle.flash_text.specs.declared.text.Verb.TheVariants as verbs

-- what a word stands for
pub data Place : Type 0 where
  Key : Place
  Flags : Place
  Exptime : Place
  Length : Place
  Number : Place

-- a word that may be left out
pub data Optional : Type 0 where
  Zero : Optional
  Delay : Optional
  Noreply : Optional

-- what ends a line: one key or more, or optional words, each once at most and in this order
pub data Ending : Type 0 where
  KeyWords : Ending
  OptionalWords : List Optional → Ending

-- the places of the words behind the command, and what ends the line
pub record Form : Type 0 where
  pub places : List Place
  pub ending : Ending

-- `<key>` once or more
abbrev pub keys_form : Form
keys_form = record { places = []; ending = KeyWords }

-- `<exptime> <key>`, the key once or more
abbrev pub renewal_form : Form
renewal_form = record { places = Exptime ∷ []; ending = KeyWords }

-- `<key> <flags> <exptime> <length>`
abbrev pub value_form : Form
value_form = record { places = Key ∷ Flags ∷ Exptime ∷ Length ∷ []; ending = OptionalWords (Noreply ∷ []) }

-- `<key> <flags> <exptime> <length> <cas>`
abbrev pub compare_form : Form
compare_form = record { places = Key ∷ Flags ∷ Exptime ∷ Length ∷ Number ∷ []; ending = OptionalWords (Noreply ∷ []) }

-- `<key>`, then `0`
abbrev pub delete_form : Form
delete_form = record { places = Key ∷ []; ending = OptionalWords (Zero ∷ Noreply ∷ []) }

-- `<key> <delta>`
abbrev pub delta_form : Form
delta_form = record { places = Key ∷ Number ∷ []; ending = OptionalWords (Noreply ∷ []) }

-- `<key> <exptime>`
abbrev pub touch_form : Form
touch_form = record { places = Key ∷ Exptime ∷ []; ending = OptionalWords (Noreply ∷ []) }

-- nothing, then a delay
abbrev pub flush_form : Form
flush_form = record { places = []; ending = OptionalWords (Delay ∷ Noreply ∷ []) }

-- `<n>`
abbrev pub verbosity_form : Form
verbosity_form = record { places = Number ∷ []; ending = OptionalWords (Noreply ∷ []) }

-- nothing
abbrev pub bare_form : Form
bare_form = record { places = []; ending = OptionalWords [] }

-- the form of each command
abbrev pub form_of : Verb → Form
form_of verbs.Get = keys_form
form_of verbs.Gets = keys_form
form_of verbs.Gat = renewal_form
form_of verbs.Gats = renewal_form
form_of (verbs.Store mode) = value_form
form_of verbs.Cas = compare_form
form_of verbs.Delete = delete_form
form_of verbs.Incr = delta_form
form_of verbs.Decr = delta_form
form_of verbs.Touch = touch_form
form_of verbs.FlushAll = flush_form
form_of verbs.Verbosity = verbosity_form
form_of verbs.Stats = bare_form
form_of verbs.Version = bare_form
form_of verbs.Quit = bare_form
form_of verbs.Mn = bare_form

-- whether data follows the line
abbrev pub is_storage : Verb → Bool
is_storage (verbs.Store mode) = true
is_storage verbs.Cas = true
is_storage _ = false

-- whether its number is a delta
abbrev pub takes_delta : Verb → Bool
takes_delta verbs.Incr = true
takes_delta verbs.Decr = true
takes_delta _ = false

-- the commands that look keys up
unfoldable pub lookup_verb : List ℕ → Option Verb
lookup_verb word =
    if bytes_eq word (codes "get") then Some verbs.Get
    else if bytes_eq word (codes "gets") then Some verbs.Gets
    else if bytes_eq word (codes "gat") then Some verbs.Gat
    else if bytes_eq word (codes "gats") then Some verbs.Gats
    else None

-- the commands with a value
unfoldable pub storage_verb : List ℕ → Option Verb
storage_verb word =
    if bytes_eq word (codes "set") then Some (verbs.Store modes.Set)
    else if bytes_eq word (codes "add") then Some (verbs.Store modes.Add)
    else if bytes_eq word (codes "replace") then Some (verbs.Store modes.Replace)
    else if bytes_eq word (codes "append") then Some (verbs.Store modes.Append)
    else if bytes_eq word (codes "prepend") then Some (verbs.Store modes.Prepend)
    else if bytes_eq word (codes "cas") then Some verbs.Cas
    else None

-- the commands that change one item
unfoldable pub change_verb : List ℕ → Option Verb
change_verb word =
    if bytes_eq word (codes "delete") then Some verbs.Delete
    else if bytes_eq word (codes "incr") then Some verbs.Incr
    else if bytes_eq word (codes "decr") then Some verbs.Decr
    else if bytes_eq word (codes "touch") then Some verbs.Touch
    else None

-- the commands of no key
unfoldable pub keyless_verb : List ℕ → Option Verb
keyless_verb word =
    if bytes_eq word (codes "flush_all") then Some verbs.FlushAll
    else if bytes_eq word (codes "verbosity") then Some verbs.Verbosity
    else if bytes_eq word (codes "stats") then Some verbs.Stats
    else if bytes_eq word (codes "version") then Some verbs.Version
    else if bytes_eq word (codes "quit") then Some verbs.Quit
    else if bytes_eq word (codes "mn") then Some verbs.Mn
    else None

-- the command of a word, in lower case
unfoldable pub verb_of : List ℕ → Option Verb
verb_of word =
    option_or (lookup_verb word) (option_or (storage_verb word) (option_or (change_verb word) (keyless_verb word)))
