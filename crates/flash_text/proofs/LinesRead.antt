-- What is true of each line, by its command and its fields.
use Rattle.std.proofs.Common.{◌≡◌, ℕ, List, [], ◌∷◌, Option, None, Some, refl}
use Rattle.flash_text.specs.declared.text.Verb.{Verb}
use Rattle.flash_text.specs.declared.text.Refusal.TheVariants.{Unknown}
use Rattle.flash_text.specs.declared.text.Line.{Line}
use Rattle.flash_text.specs.declared.text.Line.TheVariants.{Bad}
use Rattle.flash_text.specs.Said.{FieldValues}
use Rattle.flash_text.specs.Words.{without_return, spaced_words, behind_word}
use Rattle.flash_text.specs.Form.{verb_of, form_of}
use Rattle.flash_text.specs.Fields.{fields_of}
use Rattle.flash_text.specs.Lines.{answer_of, answer_behind, answer_by_words, line_of}

-- what is true of a line that isn't read, and of each answer to fields, is true of a line
pub record OfEach (P : Line → Type 0) (item_max : ℕ) : Type 0 where
  pub unknown : P (Bad Unknown 0)
  pub answered : (verb : Verb) (rest : List ℕ) (fields : FieldValues) → fields_of (form_of verb) rest ≡ Some fields → P (answer_of item_max verb fields)

by_fields : (P : Line → Type 0) (item_max : ℕ) (verb : Verb) (rest : List ℕ) (fields : Option FieldValues) → OfEach P item_max → fields_of (form_of verb) rest ≡ fields
    → P (elim fields [ None ↦ Bad Unknown 0 | Some fields ↦ answer_of item_max verb fields ])
by_fields P item_max verb rest None each is = each.unknown
by_fields P item_max verb rest (Some fields) each is = each.answered verb rest fields is

by_verb : (P : Line → Type 0) (item_max : ℕ) (verb : Option Verb) (rest : List ℕ) → OfEach P item_max → P (answer_behind item_max verb rest)
by_verb P item_max None rest each = each.unknown
by_verb P item_max (Some verb) rest each = by_fields P item_max verb rest (fields_of (form_of verb) rest) each refl

by_words : (P : Line → Type 0) (item_max : ℕ) (words : List (List ℕ)) (rest : List ℕ) → OfEach P item_max → P (answer_by_words item_max words rest)
by_words P item_max [] rest each = each.unknown
by_words P item_max (word ∷ words) rest each = by_verb P item_max (verb_of word) rest each

pub of_line : (P : Line → Type 0) (item_max : ℕ) (line : List ℕ) → OfEach P item_max → P (line_of item_max line)
unfolding line_of
of_line P item_max line each = by_words P item_max (spaced_words (without_return line)) (behind_word (without_return line)) each
