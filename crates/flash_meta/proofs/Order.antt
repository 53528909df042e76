-- The refusals of a line that has its words come in order.
use Rattle.std.proofs.Common.{◌≡◌, ℕ, ◌<◌, ◌≤◌, Bool, true, false, nat_lt, List, Option, None, Some, Result, Ok, Err, if◌then◌else◌, ◌∙◌, ap, arith}
use Rattle.std.proofs.lemmas.Bool.Decides.{nat_tests}
use Rattle.flash_text.specs.declared.text.Refusal.{Refusal}
use Rattle.flash_text.specs.declared.text.Refusal.TheVariants.{TooLarge}
use Rattle.flash_text.specs.Words.{spaced_words}
use Rattle.flash_meta.specs.declared.meta.MetaLine.{MetaLine}
use Rattle.flash_meta.specs.declared.meta.MetaLine.TheVariants.{Bad}
use Rattle.flash_meta.specs.declared.flags.Flags.{Flags}
use Rattle.flash_meta.specs.MetaParts.{MetaParts}
use Rattle.flash_meta.specs.MetaSaid.{MetaSaid}
use Rattle.flash_meta.specs.FlagReading.{flags_in}
use Rattle.flash_meta.specs.Keys.{key_of}
use Rattle.flash_meta.specs.MetaLines.{data_bytes, length_of, said_of, accepted, answer_with_key, answer_of}
use Rattle.flash_meta.specs.MetaLaws.{ComesFirst}

-- the answer by what the flags give
abbrev pub answer_with_flags : ℕ → MetaParts → Result Flags Refusal → MetaLine
answer_with_flags item_max parts read =
    elim read [
      | Err refusal ↦ Bad refusal (data_bytes parts.length)
      | Ok flags ↦ answer_with_key item_max parts flags (key_of flags.base64 parts.word)
    ]

-- and by whether the length is above the one that is allowed
abbrev pub answer_by_length : MetaParts → MetaSaid → Bool → MetaLine
answer_by_length parts said above = if above then Bad TooLarge (data_bytes parts.length) else accepted parts.length said

by_key : (item_max : ℕ) (parts : MetaParts) (flags : Flags) (key : Option (List ℕ)) → flags_in parts.verb (spaced_words parts.asked) ≡ Ok flags → key_of flags.base64 parts.word ≡ key
    → answer_of item_max parts ≡ answer_with_key item_max parts flags key
unfolding answer_of
by_key item_max parts flags key read is =
    ap (answer_with_flags item_max parts) read ∙ ap (answer_with_key item_max parts flags) is

by_flags : (item_max : ℕ) (parts : MetaParts) (refusal : Refusal) → flags_in parts.verb (spaced_words parts.asked) ≡ Err refusal → answer_of item_max parts ≡ Bad refusal (data_bytes parts.length)
unfolding answer_of
by_flags item_max parts refusal read = ap (answer_with_flags item_max parts) read

above : (item_max n : ℕ) → item_max < n → nat_lt item_max n ≡ true
above item_max n more = grind (arith, nat_tests)

within : (item_max n : ℕ) → n ≤ item_max → nat_lt item_max n ≡ false
within item_max n few = grind (arith, nat_tests)

pub comes_first : (item_max : ℕ) (parts : MetaParts) → ComesFirst item_max parts
comes_first item_max parts = record {
  bad_flags = λ refusal read. by_flags item_max parts refusal read;
  bad_key = λ flags read key. by_key item_max parts flags None read key;
  too_large = λ flags key read is more.
      by_key item_max parts flags (Some key) read is ∙ ap (answer_by_length parts (said_of parts flags key)) (above item_max (length_of parts.length) more);
  read = λ flags key read is few.
      by_key item_max parts flags (Some key) read is ∙ ap (answer_by_length parts (said_of parts flags key)) (within item_max (length_of parts.length) few);
}
