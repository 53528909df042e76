-- The words of a line of the journal.
use Rattle.std.specs.Prelude.{ℕ, ℤ, List, [], ◌∷◌, ◌++◌, Option, None, Some, codes, decimal}
use Rattle.std.specs.Fmt.{signed_decimal}
use Rattle.hex.specs.Hex.{encode_lower}
use Rattle.flash_names.specs.declared.place.Label.{Label}
use Rattle.flash_names.specs.declared.place.Place.{Place}
use Rattle.flash_names.specs.declared.place.Id.{Id}

-- a word with the space before it
abbrev pub word : List ℕ → List ℕ
word bytes = 32 ∷ bytes

-- a decimal number
abbrev pub number : ℕ → List ℕ
number n = word (decimal n)

-- a decimal number that may be negative
abbrev pub signed : ℤ → List ℕ
signed n = word (signed_decimal n)

-- a number, or a dash where there is none
abbrev pub number_if : Option ℕ → List ℕ
number_if None = word (codes "-")
number_if (Some n) = number n

-- a number that may be negative, or a dash where there is none
abbrev pub signed_if : Option ℤ → List ℕ
signed_if None = word (codes "-")
signed_if (Some n) = signed n

-- bytes as lower-case hexadecimal digits, or a dash where there are none
abbrev pub hexadecimal : List ℕ → List ℕ
hexadecimal [] = word (codes "-")
hexadecimal (b ∷ bytes) = word (encode_lower (b ∷ bytes))

-- the pass and the step's number in it
abbrev pub id_text : Id → List ℕ
id_text id = number id.pass ++ number id.seq

-- the page and its version
abbrev pub label_text : Label → List ℕ
label_text label = number label.page ++ number label.version

-- the label, the offset and the length
abbrev pub place_text : Place → List ℕ
place_text place = label_text place.label ++ number place.offset ++ number place.length

-- a line feed
abbrev pub line_end : List ℕ
line_end = 10 ∷ []
