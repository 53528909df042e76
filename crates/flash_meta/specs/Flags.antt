-- The flags of each command of the meta protocol.
use Rattle.std.specs.Prelude.{ℕ, List, Bool, true, false, ◌==◌, Option, None, Some, find, codes, if◌then◌else◌, ◌++◌, map}
use Rattle.std.specs.Option.{option_map}
use Rattle.std.specs.Str.{bytes_eq}
use Rattle.flash_meta.specs.declared.meta.MetaVerb.{MetaVerb}
use Rattle.flash_meta.specs.declared.meta.MetaVerb.TheVariants as verbs
use Rattle.flash_meta.specs.declared.flags.Flag.{Flag}
use Rattle.flash_meta.specs.declared.flags.Flag.TheVariants.{Base64, Quiet, Value, Shown, Opaque, Exptime, ClientFlags, Compare, StoreMode, Direction, Delta, Create, Start}

-- the command of a word
abbrev pub verb_of : List ℕ → Option MetaVerb
verb_of word =
    if bytes_eq word (codes "mg") then Some verbs.Get
    else if bytes_eq word (codes "ms") then Some verbs.Set
    else if bytes_eq word (codes "md") then Some verbs.Delete
    else if bytes_eq word (codes "ma") then Some verbs.Arith
    else None

-- these letters, each with this meaning
abbrev pub meaning : Flag → List ℕ → List (ℕ × Flag)
meaning flag letters = map (λ letter. (letter, flag)) letters

-- the letters that each command has, with what they mean
abbrev pub flags_of : MetaVerb → List (ℕ × Flag)
flags_of verbs.Get =
    meaning Base64 (codes "b") ++ meaning Quiet (codes "q") ++ meaning Value (codes "v")
    ++ meaning Shown (codes "kcfshlt") ++ meaning Opaque (codes "O") ++ meaning Exptime (codes "T")
flags_of verbs.Set =
    meaning Base64 (codes "b") ++ meaning Quiet (codes "q") ++ meaning Shown (codes "kc") ++ meaning Opaque (codes "O")
    ++ meaning Exptime (codes "T") ++ meaning ClientFlags (codes "F") ++ meaning Compare (codes "C")
    ++ meaning StoreMode (codes "M")
flags_of verbs.Delete =
    meaning Base64 (codes "b") ++ meaning Quiet (codes "q") ++ meaning Shown (codes "k") ++ meaning Opaque (codes "O")
    ++ meaning Compare (codes "C")
flags_of verbs.Arith =
    meaning Base64 (codes "b") ++ meaning Quiet (codes "q") ++ meaning Value (codes "v") ++ meaning Shown (codes "kct")
    ++ meaning Opaque (codes "O") ++ meaning Exptime (codes "T") ++ meaning Compare (codes "C")
    ++ meaning Direction (codes "M") ++ meaning Delta (codes "D") ++ meaning Create (codes "N")
    ++ meaning Start (codes "J")

-- what a letter means to a command, where it has it
unfoldable pub flag_of : MetaVerb → ℕ → Option Flag
flag_of verb letter = option_map (λ row. row.1) (find (λ row. row.0 == letter) (flags_of verb))

-- whether nothing may be behind the letter
abbrev pub is_bare : Flag → Bool
is_bare Base64 = true
is_bare Quiet = true
is_bare Value = true
is_bare Shown = true
is_bare _ = false
