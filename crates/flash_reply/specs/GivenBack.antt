-- The flags that a meta reply gives back, in the order asked (memcached's doc/protocol.txt, "Meta Commands").
use Rattle.std.specs.Prelude.{ℕ, Bool, List, [], ◌∷◌, ◌++◌, ◌==◌, Option, None, Some, codes, decimal, if◌then◌else◌}
use Rattle.std.specs.Fmt.{signed_decimal}
use Rattle.std.specs.Option.{option_map}
use Rattle.std.specs.List.{flat_map}
use Rattle.flash_entry.specs.declared.answer.Summed.{Summed}
use Rattle.flash_entry.specs.declared.found.Head.{Head}
use Rattle.flash_meta.specs.MetaSaid.{MetaSaid}
use Rattle.flash_reply.specs.declared.facts.Facts.{Facts}
use Rattle.flash_text.specs.Words.{spaced_words}

-- nothing of an item
abbrev pub no_facts : Facts
no_facts = record { cas = None; flags = None; size = None; left = None; before = None; idle = None }

-- what is told of an item that was found
abbrev pub head_facts : Head → Facts
head_facts head = record {
  cas = Some head.cas;
  flags = Some head.flags;
  size = Some head.size;
  left = Some head.left;
  before = Some head.before;
  idle = Some head.idle;
}

-- what is told of a value that was stored
abbrev pub stored_facts : ℕ → Facts
stored_facts cas = record { cas = Some cas; flags = None; size = None; left = None; before = None; idle = None }

-- what is told of a number that was changed or created
abbrev pub sum_facts : Summed → Facts
sum_facts summed =
    record { cas = Some summed.cas; flags = None; size = None; left = Some summed.left; before = None; idle = None }

-- 1 or 0
abbrev pub bit : Bool → ℕ
bit is = if is then 1 else 0

-- the number of the flag `c`, `f`, `s`, `h` or `l`, where it is told
abbrev pub count_of : Facts → ℕ → Option ℕ
count_of facts letter =
    if letter == 99 then facts.cas
    else if letter == 102 then facts.flags
    else if letter == 115 then facts.size
    else if letter == 104 then option_map bit facts.before
    else if letter == 108 then facts.idle
    else None

-- the digits of a flag's number, where it is told; that of `t` may have a sign
abbrev pub digits_of : Facts → ℕ → Option (List ℕ)
digits_of facts letter =
    if letter == 116 then option_map signed_decimal facts.left else option_map decimal (count_of facts letter)

-- a flag with its number, where it is told
abbrev pub number_flag : Facts → ℕ → List ℕ
number_flag facts letter = elim (digits_of facts letter) [ None ↦ [] | Some digits ↦ 32 ∷ letter ∷ digits ]

-- `k` with the key's word as it was sent, and ` b` behind it where that is base64
abbrev pub key_flag : MetaSaid → List ℕ
key_flag meta = 32 ∷ 107 ∷ meta.word ++ (if meta.base64 then codes " b" else [])

-- what a flag's word gives back: `O` and its token as sent, `k` the key, and another letter its number
abbrev pub flag_text : MetaSaid → Facts → List ℕ → List ℕ
flag_text meta facts [] = []
flag_text meta facts (letter ∷ token) =
    if letter == 79 then 32 ∷ letter ∷ token
    else if letter == 107 then key_flag meta
    else number_flag facts letter

-- all that is given back
abbrev pub given_back : MetaSaid → Facts → List ℕ
given_back meta facts = flat_map (flag_text meta facts) (spaced_words meta.asked)
