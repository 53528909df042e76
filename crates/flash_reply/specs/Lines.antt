-- The lines of fixed words that a session is answered with (memcached's doc/protocol.txt).
use Rattle.std.specs.Prelude.{ℕ, Bool, List, [], ◌∷◌, ◌++◌, codes, if◌then◌else◌}
use Rattle.flash_text.specs.declared.text.Refusal.{Refusal}
use Rattle.flash_text.specs.declared.text.Refusal.TheVariants as refusals

-- a line with its end
abbrev pub reply_line : List ℕ → List ℕ
reply_line text = text ++ 13 ∷ 10 ∷ []

-- a reply where it is shown: nothing of it where the command asked for quiet
abbrev pub unless_quiet : Bool → List ℕ → List ℕ
unless_quiet quiet text = if quiet then [] else text

-- the line of each refusal
abbrev pub refusal_line : Refusal → List ℕ
refusal_line refusals.Unknown = reply_line (codes "ERROR")
refusal_line refusals.BadFormat = reply_line (codes "CLIENT_ERROR bad command line format")
refusal_line refusals.BadDelta = reply_line (codes "CLIENT_ERROR invalid numeric delta argument")
refusal_line refusals.TooLarge = reply_line (codes "SERVER_ERROR object too large for cache")
refusal_line refusals.BadChunk = reply_line (codes "CLIENT_ERROR bad data chunk")
refusal_line refusals.BadFlag = reply_line (codes "CLIENT_ERROR invalid flag")
refusal_line refusals.DuplicateFlag = reply_line (codes "CLIENT_ERROR duplicate flag")
refusal_line refusals.BadToken = reply_line (codes "CLIENT_ERROR bad token in command line format")
refusal_line refusals.NoMemory = reply_line (codes "SERVER_ERROR out of memory")

-- the last CAS number was given out
abbrev pub no_number_line : List ℕ
no_number_line = reply_line (codes "SERVER_ERROR numbers used up")

-- arithmetic on a value that is no number
abbrev pub non_numeric_line : List ℕ
non_numeric_line = reply_line (codes "CLIENT_ERROR cannot increment or decrement non-numeric value")
