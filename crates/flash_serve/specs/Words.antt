-- What the words of a command line give to an option.
use Rattle.std.specs.Prelude.{◌≡◌, ℕ, Bool, false, ◌||◌, ◌&&◌, ◌==◌, List, [], ◌∷◌, Option, None, Some, codes, take, drop, length, nat_le, option_and_then, string_bytes, if◌then◌else◌}
use Rattle.std.specs.Str.{bytes_eq}
use Rattle.flash_names.specs.declared.geometry.Geometry.{Geometry}
use Rattle.flash_serve.specs.declared.options.Options.{Options}
use Rattle.flash_serve.specs.declared.options.Numbers.{Numbers}
use Rattle.flash_serve.specs.declared.options.Reading.{Reading}
use Rattle.flash_serve.specs.declared.options.Reading.TheVariants as readings
use Rattle.flash_serve.specs.Numbers.{number_within}

-- the word is among these
abbrev pub has_word : List ℕ → List (List ℕ) → Bool
has_word name [] = false
has_word name (word ∷ words) = bytes_eq word name || has_word name words

-- what is behind this start in a word, where it begins so
abbrev pub behind : List ℕ → List ℕ → Option (List ℕ)
behind start word = if nat_le (length start) (length word) && bytes_eq (take (length start) word) start
    then Some (drop (length start) word) else None

-- the first word, where there is one
abbrev pub first_word : List (List ℕ) → Option (List ℕ)
first_word [] = None
first_word (word ∷ words) = Some word

-- what is behind the option's name in a word that begins with it
abbrev pub behind_name : List ℕ → List ℕ → Option (List ℕ)
behind_name name word = option_and_then (behind name) (behind (codes "--") word)

-- an option's value, by what is behind its name in a word, by the next word, and by what the later words give: the next
-- word where the word is the name alone, and else what is behind an equals sign
abbrev pub value_at : Option (List ℕ) → Option (List ℕ) → Option (List ℕ) → Option (List ℕ)
value_at None next later = later
value_at (Some []) next later = next
value_at (Some (byte ∷ value)) next later = if byte == 61 then Some value else later

-- the value that the words give to the option of this name, the first of them
abbrev pub value_of : List ℕ → List (List ℕ) → Option (List ℕ)
value_of name [] = None
value_of name (word ∷ words) = value_at (behind_name name word) (first_word words) (value_of name words)

-- so, or the option's default
abbrev pub word_or : List ℕ → Option (List ℕ) → List ℕ
word_or default (Some word) = word
word_or default None = default

abbrev pub text_given : List ℕ → List ℕ → List (List ℕ) → List ℕ
text_given name default words = word_or default (value_of name words)

-- the number that the words give to the option of this name and default, if it is one of this range
abbrev pub number_given : List ℕ → List ℕ → ℕ → ℕ → List (List ℕ) → Option ℕ
number_given name default least most words = number_within least most (text_given name default words)

-- how many connections are served: without a limit under `--forever`
abbrev pub connections_of : List (List ℕ) → Option ℕ
connections_of words = if has_word (codes "--forever") words then None
    else number_given (codes "connections") (codes "1000000") 1 1000000 words

-- how many connections are served at once: as many as there are workers where the option isn't given
abbrev pub sessions_by : Option (List ℕ) → List (List ℕ) → Option ℕ
sessions_by (Some word) words = number_within 1 4096 word
sessions_by None words = number_given (codes "workers") (codes "4") 1 16 words

abbrev pub sessions_of : List (List ℕ) → Option ℕ
sessions_of words = sessions_by (value_of (codes "sessions") words) words

-- the greatest number of 32 bits
abbrev pub most_u32 : ℕ
most_u32 = 4294967295

-- the sizes of the store are given by these words
pub record AreSizes (words : List (List ℕ)) (g : Geometry) : Type 0 where
  pub memory : number_given (codes "memory") (codes "67108864") 0 18446744073709551615 words ≡ Some g.memory
  pub item_size : number_given (codes "item-size") (codes "512") 0 most_u32 words ≡ Some g.item_size
  pub item_max : number_given (codes "item-max") (codes "1047552") 0 most_u32 words ≡ Some g.item_max
  pub pages : number_given (codes "pages") (codes "64") 0 most_u32 words ≡ Some g.pages
  pub page_size : number_given (codes "page-size") (codes "4194304") 0 most_u32 words ≡ Some g.page_size
  pub buffer_size : number_given (codes "buffer-size") (codes "1048576") 0 most_u32 words ≡ Some g.buffer_size
  pub buffers : number_given (codes "buffers") (codes "8") 0 most_u32 words ≡ Some g.buffers
  pub compact_under : number_given (codes "compact-under") (codes "16") 0 most_u32 words ≡ Some g.compact_under
  pub drop_under : number_given (codes "drop-under") (codes "4") 0 most_u32 words ≡ Some g.drop_under
  pub max_frag : number_given (codes "max-frag") (codes "80") 0 most_u32 words ≡ Some g.max_frag
  pub recache : number_given (codes "recache") (codes "2000") 0 most_u32 words ≡ Some g.recache

-- these numbers are given by these words
pub record AreNumbers (words : List (List ℕ)) (numbers : Numbers) : Type 0 where
  pub port : number_given (codes "port") (codes "11211") 0 65535 words ≡ Some numbers.port
  pub connections : numbers.connections ≡ connections_of words
  pub sessions : sessions_of words ≡ Some numbers.sessions
  pub idle_timeout : number_given (codes "idle-timeout") (codes "0") 0 most_u32 words ≡ Some numbers.idle_timeout
  pub sizes : AreSizes words numbers.geometry

-- these options are given by these words
pub record AreGiven (words : List (List ℕ)) (options : Options) : Type 0 where
  pub path : value_of (codes "path") words ≡ Some (string_bytes options.path)
  pub listen : text_given (codes "listen") (codes "127.0.0.1") words ≡ string_bytes options.listen
  pub port : number_given (codes "port") (codes "11211") 0 65535 words ≡ Some options.port
  pub connections : options.connections ≡ connections_of words
  pub sessions : sessions_of words ≡ Some options.sessions
  pub idle_timeout : number_given (codes "idle-timeout") (codes "0") 0 most_u32 words ≡ Some options.idle_timeout
  pub sizes : AreSizes words options.geometry
  pub journal : options.journal ≡ has_word (codes "--journal") words

-- what was read of these words
abbrev pub IsReadingOf : List (List ℕ) → Reading → Type 0
IsReadingOf words (readings.Options options) = AreGiven words options
IsReadingOf words (readings.Shown text) = Unit {0}
IsReadingOf words (readings.Refused line) = Unit {0}
