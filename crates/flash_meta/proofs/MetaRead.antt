-- What a line is read from.
use Rattle.std.proofs.Common.{◌≡◌, ℕ, ◌<◌, ◌≤◌, ◌^◌, Bool, true, false, nat_lt, List, [], ◌∷◌, Option, None, Some, Result, Ok, Err, IfSome, refl, sym, ◌∙◌, ap, subst, arith}
use Rattle.std.proofs.lemmas.Bool.Decides.{nat_tests}
use Rattle.flash_text.specs.declared.text.Refusal.{Refusal}
use Rattle.flash_text.specs.declared.text.Refusal.TheVariants.{BadFormat}
use Rattle.flash_text.specs.Words.{without_return, spaced_words, behind_word, behind_words, trimmed}
use Rattle.flash_text.specs.Numbers.{number_below}
use Rattle.flash_text.proofs.KeySpans.{trimmed_words, behind_words_of}
use Rattle.flash_text.proofs.Ranges.{below_limit}
use Rattle.flash_names.specs.Numbers.{number_of}
use Rattle.flash_meta.specs.declared.meta.MetaVerb.{MetaVerb}
use Rattle.flash_meta.specs.declared.meta.MetaVerb.TheVariants as verbs
use Rattle.flash_meta.specs.declared.meta.MetaLine.{MetaLine}
use Rattle.flash_meta.specs.declared.meta.MetaLine.TheVariants.{Data, Bad}
use Rattle.flash_meta.specs.declared.flags.Flags.{Flags}
use Rattle.flash_meta.specs.MetaParts.{MetaParts}
use Rattle.flash_meta.specs.MetaSaid.{MetaSaid}
use Rattle.flash_meta.specs.FlagReading.{flags_in}
use Rattle.flash_meta.specs.Keys.{key_of}
use Rattle.flash_meta.specs.MetaLines.{length_of, said_of, accepted, answer_with_key, answer_of, parts_of, answer_behind, verb_of_words, answer_if, meta_of}
use Rattle.flash_meta.specs.MetaLaws.{said_in, HasWords, DataIsWithin}
use Rattle.flash_meta.proofs.Order.{answer_with_flags, answer_by_length, comes_first}

-- a line was read from these words and flags, and this key
pub record IsRead (item_max : ℕ) (line : List ℕ) (said : MetaSaid) : Type 0 where
  pub verb : MetaVerb
  pub parts : MetaParts
  pub flags : Flags
  pub key : List ℕ
  pub has_verb : verb_of_words (spaced_words line) ≡ Some verb
  pub has_parts : parts_of verb (spaced_words (behind_words 1 line)) (behind_words 1 line) ≡ Some parts
  pub has_flags : flags_in parts.verb (spaced_words parts.asked) ≡ Ok flags
  pub has_key : key_of flags.base64 parts.word ≡ Some key
  pub allowed : length_of parts.length ≤ item_max
  pub is : said ≡ said_of parts flags key

accepted_says : (length : Option ℕ) (said other : MetaSaid) → said_in (accepted length other) ≡ Some said → said ≡ other
accepted_says None said other is = cc
accepted_says (Some n) said other is = cc

length_by : (item_max : ℕ) (parts : MetaParts) (said other : MetaSaid) (test : Bool) → nat_lt item_max (length_of parts.length) ≡ test → said_in (answer_by_length parts other test) ≡ Some said
    → (length_of parts.length ≤ item_max) × (said ≡ other)
length_by item_max parts said other true is read = absurd (cc read)
length_by item_max parts said other false is read = (grind (arith, nat_tests), accepted_says parts.length said other read)

by_key : (item_max : ℕ) (line : List ℕ) (said : MetaSaid) (verb : MetaVerb) (parts : MetaParts) (flags : Flags) (key : Option (List ℕ))
    → verb_of_words (spaced_words line) ≡ Some verb → parts_of verb (spaced_words (behind_words 1 line)) (behind_words 1 line) ≡ Some parts
    → flags_in parts.verb (spaced_words parts.asked) ≡ Ok flags → key_of flags.base64 parts.word ≡ key
    → said_in (answer_with_key item_max parts flags key) ≡ Some said → IsRead item_max line said
by_key item_max line said verb parts flags None has_verb has_parts has_flags has_key read = absurd (cc read)
by_key item_max line said verb parts flags (Some key) has_verb has_parts has_flags has_key read =
    let both = length_by item_max parts said (said_of parts flags key) (nat_lt item_max (length_of parts.length)) refl read in
    record {
      verb = verb;
      parts = parts;
      flags = flags;
      key = key;
      has_verb = has_verb;
      has_parts = has_parts;
      has_flags = has_flags;
      has_key = has_key;
      allowed = both.0;
      is = both.1;
    }

by_flags : (item_max : ℕ) (line : List ℕ) (said : MetaSaid) (verb : MetaVerb) (parts : MetaParts) (found : Result Flags Refusal)
    → verb_of_words (spaced_words line) ≡ Some verb → parts_of verb (spaced_words (behind_words 1 line)) (behind_words 1 line) ≡ Some parts
    → flags_in parts.verb (spaced_words parts.asked) ≡ found
    → said_in (answer_with_flags item_max parts found) ≡ Some said → IsRead item_max line said
by_flags item_max line said verb parts (Err refusal) has_verb has_parts has_flags read = absurd (cc read)
by_flags item_max line said verb parts (Ok flags) has_verb has_parts has_flags read =
    by_key item_max line said verb parts flags (key_of flags.base64 parts.word) has_verb has_parts has_flags refl read

-- the answer by the words behind the command
abbrev answer_with_parts : ℕ → Option MetaParts → MetaLine
answer_with_parts item_max found = elim found [ None ↦ Bad BadFormat 0 | Some parts ↦ answer_of item_max parts ]

by_parts : (item_max : ℕ) (line : List ℕ) (said : MetaSaid) (verb : MetaVerb) (found : Option MetaParts)
    → verb_of_words (spaced_words line) ≡ Some verb → parts_of verb (spaced_words (behind_words 1 line)) (behind_words 1 line) ≡ found
    → said_in (answer_with_parts item_max found) ≡ Some said → IsRead item_max line said
unfolding answer_of
by_parts item_max line said verb None has_verb has_parts read = absurd (cc read)
by_parts item_max line said verb (Some parts) has_verb has_parts read =
    by_flags item_max line said verb parts (flags_in parts.verb (spaced_words parts.asked)) has_verb has_parts refl read

by_verb : (item_max : ℕ) (line : List ℕ) (said : MetaSaid) (found : Option MetaVerb) → verb_of_words (spaced_words line) ≡ found
    → said_in (answer_if item_max found (behind_words 1 line)) ≡ Some said → IsRead item_max line said
unfolding answer_behind
by_verb item_max line said None has_verb read = absurd (cc read)
by_verb item_max line said (Some verb) has_verb read = by_parts item_max line said verb _ has_verb refl read

-- what each line that is read was read from
pub read_from : (item_max : ℕ) (line : List ℕ) (said : MetaSaid) → said_in (meta_of item_max line) ≡ Some said → IsRead item_max (without_return line) said
unfolding meta_of
read_from item_max line said read = by_verb item_max (without_return line) said _ refl read

-- the answer to a line that is read
answer_is : (item_max : ℕ) (line : List ℕ) (said : MetaSaid) (read : IsRead item_max line said) → answer_if item_max (verb_of_words (spaced_words line)) (behind_words 1 line) ≡ accepted read.parts.length said
unfolding answer_behind
answer_is item_max line said read =
    ap (λ (verb : Option MetaVerb). answer_if item_max verb (behind_words 1 line)) read.has_verb
    ∙ ap (answer_with_parts item_max) read.has_parts
    ∙ (comes_first item_max read.parts).read read.flags read.key read.has_flags read.has_key read.allowed
    ∙ ap (accepted read.parts.length) (sym read.is)

size_by : (length : Option ℕ) (said other : MetaSaid) (size : ℕ) → accepted length said ≡ Data other size → length_of length ≡ size
size_by None said other size is = absurd (cc is)
size_by (Some n) said other size is = cc is

-- the data that follows a line is within what is allowed
pub data_within : DataIsWithin
unfolding meta_of
data_within item_max line said size is =
    let read = read_from item_max line said (ap said_in is) in
    let answer = answer_is item_max (without_return line) said read in
    let same = size_by read.parts.length said said size (sym answer ∙ is) in
    omega (arith, same, read.allowed)

-- the words behind a command are the key, the length where it is `ms`, and the flags
abbrev BehindVerb : MetaVerb → List (List ℕ) → MetaParts → Type 0
BehindVerb verbs.Set words parts = (length : List ℕ) × (words ≡ parts.word ∷ length ∷ spaced_words parts.asked)
BehindVerb verb words parts = words ≡ parts.word ∷ spaced_words parts.asked

-- the verb stays, the length is below its limit, and the words are those of the line
pub record PartsAre (verb : MetaVerb) (words : List (List ℕ)) (parts : MetaParts) : Type 0 where
  pub same : parts.verb ≡ verb
  pub words_back : BehindVerb verb words parts
  pub length : length_of parts.length < 2 ^ 31

with_length : (rest : List ℕ) (words : List (List ℕ)) (word length : List ℕ) (flags : List (List ℕ)) (n : Option ℕ) (parts : MetaParts)
    → words ≡ word ∷ length ∷ flags → words ≡ spaced_words rest → IfSome n (λ m. m < 2 ^ 31)
    → elim n [
      | None ↦ None
      | Some n ↦ Some (record { verb = verbs.Set; word = word; length = Some n; asked = trimmed (behind_words 2 rest) })
    ] ≡ Some parts → PartsAre verbs.Set words parts
with_length rest words word length flags None parts are is small read = absurd (cc read)
with_length rest words word length flags (Some n) parts are is small read =
    let behind_key = behind_words_of rest word (length ∷ flags) (sym is ∙ are) in
    let behind_length = behind_words_of (behind_word rest) length flags behind_key in
    let asked : spaced_words (trimmed (behind_words 2 rest)) ≡ flags = trimmed_words (behind_words 2 rest) ∙ behind_length in
    let same : record { verb = verbs.Set; word = word; length = Some n; asked = trimmed (behind_words 2 rest) } ≡ parts = cc read in
    subst (PartsAre verbs.Set words) same (record {
      same = refl;
      words_back = (length, are ∙ ap (λ (ws : List (List ℕ)). word ∷ length ∷ ws) (sym asked));
      length = small;
    })

without_length : (verb : MetaVerb) (rest : List ℕ) (words : List (List ℕ)) (word : List ℕ) (flags : List (List ℕ)) → words ≡ word ∷ flags → words ≡ spaced_words rest
    → words ≡ word ∷ spaced_words (trimmed (behind_words 1 rest))
without_length verb rest words word flags are is =
    are ∙ ap (λ (ws : List (List ℕ)). word ∷ ws) (sym (trimmed_words (behind_words 1 rest) ∙ behind_words_of rest word flags (sym is ∙ are)))

some_positive : 0 < 2 ^ 31
some_positive = grind arith

parts_are : (verb : MetaVerb) (rest : List ℕ) (words : List (List ℕ)) (parts : MetaParts) → words ≡ spaced_words rest → parts_of verb words rest ≡ Some parts → PartsAre verb words parts
parts_are verbs.Set rest [] parts is read = absurd (cc read)
parts_are verbs.Set rest (word ∷ []) parts is read = absurd (cc read)
parts_are verbs.Set rest (word ∷ length ∷ flags) parts is read =
    with_length rest (word ∷ length ∷ flags) word length flags (number_below (2 ^ 31) length) parts refl is (below_limit (2 ^ 31) (number_of length)) read
parts_are verbs.Get rest [] parts is read = absurd (cc read)
parts_are verbs.Get rest (word ∷ flags) parts is read =
    let same : record { verb = verbs.Get; word = word; length = None; asked = trimmed (behind_words 1 rest) } ≡ parts = cc read in
    subst (PartsAre verbs.Get (word ∷ flags)) same (record { same = refl; words_back = without_length verbs.Get rest _ word flags refl is; length = some_positive })
parts_are verbs.Delete rest [] parts is read = absurd (cc read)
parts_are verbs.Delete rest (word ∷ flags) parts is read =
    let same : record { verb = verbs.Delete; word = word; length = None; asked = trimmed (behind_words 1 rest) } ≡ parts = cc read in
    subst (PartsAre verbs.Delete (word ∷ flags)) same (record { same = refl; words_back = without_length verbs.Delete rest _ word flags refl is; length = some_positive })
parts_are verbs.Arith rest [] parts is read = absurd (cc read)
parts_are verbs.Arith rest (word ∷ flags) parts is read =
    let same : record { verb = verbs.Arith; word = word; length = None; asked = trimmed (behind_words 1 rest) } ≡ parts = cc read in
    subst (PartsAre verbs.Arith (word ∷ flags)) same (record { same = refl; words_back = without_length verbs.Arith rest _ word flags refl is; length = some_positive })

-- what the words of a line that is read are
pub read_parts : (item_max : ℕ) (line : List ℕ) (said : MetaSaid) (read : IsRead item_max line said) → PartsAre read.verb (spaced_words (behind_words 1 line)) read.parts
read_parts item_max line said read = parts_are read.verb (behind_words 1 line) _ read.parts refl read.has_parts

has_words_by : (verb : MetaVerb) (command : List ℕ) (words : List (List ℕ)) (parts : MetaParts) (flags : Flags) (key : List ℕ) → BehindVerb verb words parts → HasWords verb (command ∷ words) (said_of parts flags key)
has_words_by verbs.Set command words parts flags key back = (command, back.0, ap (λ (ws : List (List ℕ)). command ∷ ws) back.1)
has_words_by verbs.Get command words parts flags key back = (command, ap (λ (ws : List (List ℕ)). command ∷ ws) back)
has_words_by verbs.Delete command words parts flags key back = (command, ap (λ (ws : List (List ℕ)). command ∷ ws) back)
has_words_by verbs.Arith command words parts flags key back = (command, ap (λ (ws : List (List ℕ)). command ∷ ws) back)

whole_words : (line : List ℕ) (verb : MetaVerb) (words : List (List ℕ)) (parts : MetaParts) (flags : Flags) (key : List ℕ) → spaced_words line ≡ words → verb_of_words words ≡ Some verb
    → BehindVerb verb (spaced_words (behind_words 1 line)) parts → HasWords verb words (said_of parts flags key)
whole_words line verb [] parts flags key is found back = absurd (cc found)
whole_words line verb (command ∷ words) parts flags key is found back =
    has_words_by verb command words parts flags key (subst (λ (ws : List (List ℕ)). BehindVerb verb ws parts) (behind_words_of line command words is) back)

-- a line that is read gives its words back
pub words_back : (item_max : ℕ) (line : List ℕ) (said : MetaSaid) → IsRead item_max line said → HasWords said.verb (spaced_words line) said
words_back item_max line said read =
    let parts = read_parts item_max line said read in
    let whole = whole_words line read.verb (spaced_words line) read.parts read.flags read.key refl read.has_verb parts.words_back in
    let verb : read.verb ≡ said.verb = sym (ap (λ (s : MetaSaid). s.verb) read.is ∙ parts.same) in
    subst (λ (s : MetaSaid). HasWords s.verb (spaced_words line) s) (sym read.is)
    (subst (λ (v : MetaVerb). HasWords v (spaced_words line) (said_of read.parts read.flags read.key)) (sym parts.same) whole)
