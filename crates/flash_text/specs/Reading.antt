-- What a line is read as: the first refusal that applies, or else what it says.
use Rattle.std.specs.Prelude.{ℕ, pos, ◌+◌, Bool, ◌&&◌, ◌||◌, is_none, unwrap_or, nat_lt, List, [], ◌∷◌, Option, None, Some, if◌then◌else◌}
use Rattle.flash_text.specs.declared.text.Verb.{Verb}
use Rattle.flash_text.specs.declared.text.Refusal.{Refusal}
use Rattle.flash_text.specs.declared.text.Refusal.TheVariants.{BadFormat, BadDelta, TooLarge}
use Rattle.flash_text.specs.Said.{Said, FieldValues}
use Rattle.flash_text.specs.Form.{is_storage, takes_delta}

-- a refusal, whether it applies, and how many bytes are skipped after the line
pub record Cause : Type 0 where
  pub applies : Bool
  pub refusal : Refusal
  pub skip : ℕ

-- a key or a number can't be read
abbrev pub lacks_a_field : FieldValues → Bool
lacks_a_field fields = is_none fields.keys || is_none fields.flags || is_none fields.exptime || is_none fields.number

-- the data of a storage line and its line end
abbrev pub data_bytes : Verb → FieldValues → ℕ
data_bytes verb fields = if is_storage verb then unwrap_or fields.length 0 + 2 else 0

-- the length can't be read
abbrev pub no_length : FieldValues → Cause
no_length fields = record { applies = is_none fields.length; refusal = BadFormat; skip = 0 }

-- a delta can't be read
abbrev pub no_delta : Verb → FieldValues → Cause
no_delta verb fields = record { applies = takes_delta verb && is_none fields.number; refusal = BadDelta; skip = 0 }

-- a key or another number can't be read
abbrev pub no_field : Verb → FieldValues → Cause
no_field verb fields = record { applies = lacks_a_field fields; refusal = BadFormat; skip = data_bytes verb fields }

-- the length is above the one that is allowed
abbrev pub too_large : ℕ → Verb → FieldValues → Cause
too_large item_max verb fields = record {
  applies = nat_lt item_max (unwrap_or fields.length 0);
  refusal = TooLarge;
  skip = data_bytes verb fields;
}

-- the refusals of a line that has the words of its form, in order
abbrev pub causes : ℕ → Verb → FieldValues → List Cause
causes item_max verb fields =
    no_length fields ∷ no_delta verb fields ∷ no_field verb fields ∷ too_large item_max verb fields ∷ []

-- what a line says whose fields can all be read
abbrev pub said_of : Verb → FieldValues → Said
said_of verb fields = record {
  verb = verb;
  keys = unwrap_or fields.keys [];
  flags = unwrap_or fields.flags 0;
  exptime = unwrap_or fields.exptime (pos 0);
  length = unwrap_or fields.length 0;
  number = unwrap_or fields.number 0;
  quiet = fields.quiet;
}

-- the same, and none where one can't be read
abbrev pub said_if_read : Verb → FieldValues → Option Said
said_if_read verb fields =
    if lacks_a_field fields || is_none fields.length then None else Some (said_of verb fields)
