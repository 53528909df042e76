-- A command's step and its answer are spelled by their words.
use Rattle.std.proofs.Common.{ℕ, ℤ, Bool, List, Option, None, Some, IfSome, codes, sym}
use Rattle.flash_entry.specs.declared.entry_fault.EntryFault.TheVariants.{BadWord}
use Rattle.flash_entry.specs.declared.ask.Mode.{Mode}
use Rattle.flash_entry.specs.declared.kinds.Verb.{Verb}
use Rattle.flash_entry.specs.declared.kinds.Verb.TheVariants as verbs
use Rattle.flash_entry.specs.Text.{word, signed_if}
use Rattle.flash_entry.specs.EntryText.{mode_word, direction_word, stored_text, summed_text, sum_text, create_text, done_text}
use Rattle.flash_entry.specs.FixedWords as fixed
use Rattle.flash_entry.specs.Readings.{Left}
use Rattle.flash_entry.specs.EntryReading.{stored, stored_of, summed, sum, sum_of, create_of, create_if, store, delete, arithmetic, touch, flush, stats, step_of, step}
use Rattle.flash_entry.specs.IsEntry.{IsSigned, IsCreate, IsStored, IsSummed, IsSum, IsDone}
use Rattle.flash_entry.proofs.FixedLemmas.{verb_text, refusal-spelled, sum_refusal-spelled}
use Rattle.flash_entry.proofs.Sound.{Begin, Sound, IsSound, goes_on, given, at_start, begin_as, sound_or, sound_if, next_word-sound}
use Rattle.flash_entry.proofs.SoundFields.{number-sound, narrow-sound, signed-sound, number_if-sound, signed_if-sound, key-sound, value-sound, verb-sound, equality-sound, dash-sound, done-sound, gone-sound, touched-sound}

stored-sound : IsSound stored_text IsStored stored
unfolding stored stored_of
stored-sound =
    record {
      from = λ left.
          goes_on next_word-sound (at_start left) (λ w left at _.
          sound_if stored_text IsStored _ w (codes "stored") _ _ left at
          (λ at. goes_on number-sound at (λ cas left at is_cas. given at is_cas))
          (sound_or stored_text IsStored _ (fixed.refusal w) BadWord left (λ v is.
          let spelled = refusal-spelled w v is in
          (begin_as (sym spelled.0) at, spelled.1))));
    }

summed-sound : IsSound summed_text IsSummed summed
unfolding summed
summed-sound =
    record {
      from = λ left.
          goes_on number-sound (at_start left) (λ number left at is_number.
          goes_on number-sound at (λ cas left at is_cas.
          goes_on signed-sound at (λ seconds left at is_left.
          given at (record { number = is_number; cas = is_cas; left = is_left }))));
    }

sum-sound : IsSound sum_text IsSum sum
unfolding sum sum_of
sum-sound =
    record {
      from = λ left.
          goes_on next_word-sound (at_start left) (λ w left at _.
          sound_if sum_text IsSum _ w (codes "now") _ _ left at
          (λ at. goes_on summed-sound at (λ summed left at is_summed. given at is_summed))
          (sound_if sum_text IsSum _ w (codes "created") _ _ left at
          (λ at. goes_on summed-sound at (λ summed left at is_summed. given at is_summed))
          (sound_or sum_text IsSum _ (fixed.sum_refusal w) BadWord left (λ v is.
          let spelled = sum_refusal-spelled w v is in
          (begin_as (sym spelled.0) at, spelled.1)))));
    }

create_of-sound : (exptime : Option ℤ) (bytes : List ℕ) (left : Left) → Begin bytes (signed_if exptime) left
    → IfSome exptime IsSigned
    → Sound create_text (λ o. IfSome o IsCreate) bytes (create_of exptime left)
unfolding create_of
create_of-sound None bytes left at is_exptime = goes_on dash-sound at (λ _ left at _. given at tt)
create_of-sound (Some exptime) bytes left at is_exptime =
    goes_on number-sound at (λ start left at is_start. given at (record { exptime = is_exptime; start = is_start }))

create-sound : IsSound create_text (λ o. IfSome o IsCreate) create_if
unfolding create_if
create-sound =
    record {
      from = λ left.
          goes_on signed_if-sound (at_start left) (λ exptime left at is_exptime.
          create_of-sound exptime _ left at is_exptime);
    }

store-sound : (mode : Mode) (bytes : List ℕ) (left : Left) → Begin bytes (word (mode_word mode)) left
    → Sound done_text IsDone bytes (store mode left)
unfolding store
store-sound mode bytes left at =
    goes_on key-sound at (λ key left at is_key.
    goes_on narrow-sound at (λ flags left at is_flags.
    goes_on signed-sound at (λ exptime left at is_exptime.
    goes_on number_if-sound at (λ compare left at is_compare.
    goes_on value-sound at (λ value left at is_value.
    goes_on equality-sound at (λ _ left at _.
    goes_on stored-sound at (λ answer left at is_answer.
    given at (record { key = is_key; flags = is_flags; exptime = is_exptime; compare = is_compare; value = is_value }, is_answer))))))))

delete-sound : (bytes : List ℕ) (left : Left) → Begin bytes (word (codes "delete")) left
    → Sound done_text IsDone bytes (delete left)
unfolding delete
delete-sound bytes left at =
    goes_on key-sound at (λ key left at is_key.
    goes_on number_if-sound at (λ compare left at is_compare.
    goes_on equality-sound at (λ _ left at _.
    goes_on gone-sound at (λ answer left at _.
    given at (is_key, is_compare)))))

arithmetic-sound : (down : Bool) (bytes : List ℕ) (left : Left) → Begin bytes (word (direction_word down)) left
    → Sound done_text IsDone bytes (arithmetic down left)
unfolding arithmetic
arithmetic-sound down bytes left at =
    goes_on key-sound at (λ key left at is_key.
    goes_on number-sound at (λ delta left at is_delta.
    goes_on number_if-sound at (λ compare left at is_compare.
    goes_on signed_if-sound at (λ renew left at is_renew.
    goes_on create-sound at (λ create left at is_create.
    goes_on equality-sound at (λ _ left at _.
    goes_on sum-sound at (λ answer left at is_answer.
    given at (record { key = is_key; delta = is_delta; compare = is_compare; renew = is_renew; create = is_create }, is_answer))))))))

touch-sound : (bytes : List ℕ) (left : Left) → Begin bytes (word (codes "touch")) left
    → Sound done_text IsDone bytes (touch left)
unfolding touch
touch-sound bytes left at =
    goes_on key-sound at (λ key left at is_key.
    goes_on signed-sound at (λ exptime left at is_exptime.
    goes_on equality-sound at (λ _ left at _.
    goes_on touched-sound at (λ answer left at _.
    given at (is_key, is_exptime)))))

flush-sound : (bytes : List ℕ) (left : Left) → Begin bytes (word (codes "flush")) left
    → Sound done_text IsDone bytes (flush left)
unfolding flush
flush-sound bytes left at =
    goes_on signed-sound at (λ delay left at is_delay.
    goes_on equality-sound at (λ _ left at _.
    goes_on done-sound at (λ _ left at _.
    given at is_delay)))

stats-sound : (bytes : List ℕ) (left : Left) → Begin bytes (word (codes "stats")) left
    → Sound done_text IsDone bytes (stats left)
unfolding stats
stats-sound bytes left at =
    goes_on equality-sound at (λ _ left at _.
    goes_on number-sound at (λ items left at is_items.
    goes_on number-sound at (λ load left at is_load.
    goes_on number-sound at (λ last_cas left at is_last_cas.
    goes_on number-sound at (λ now left at is_now.
    goes_on number-sound at (λ free_pages left at is_free_pages.
    given at (record { items = is_items; load = is_load; last_cas = is_last_cas; now = is_now; free_pages = is_free_pages })))))))

step_of-sound : (verb : Verb) (bytes : List ℕ) (left : Left) → Begin bytes (word (verb_text verb)) left
    → Sound done_text IsDone bytes (step_of verb left)
unfolding step_of
step_of-sound (verbs.Store mode) bytes left at = store-sound mode bytes left at
step_of-sound verbs.Delete bytes left at = delete-sound bytes left at
step_of-sound (verbs.Sum down) bytes left at = arithmetic-sound down bytes left at
step_of-sound verbs.Touch bytes left at = touch-sound bytes left at
step_of-sound verbs.Flush bytes left at = flush-sound bytes left at
step_of-sound verbs.Stats bytes left at = stats-sound bytes left at

pub step-sound : IsSound done_text IsDone step
unfolding step
step-sound =
    record { from = λ left. goes_on verb-sound (at_start left) (λ verb left at _. step_of-sound verb _ left at) }
