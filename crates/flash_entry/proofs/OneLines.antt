-- No part of an entry's line is a line feed.
use Rattle.std.proofs.Common.{◌≡◌, ℕ, ℤ, pos, negsuc, suc, ◌+◌, ◌/◌, ◌%◌, ◌^◌, ◌<◌, Bool, true, false, ◌==◌, not, ◌&&◌, List, [], ◌∷◌, ◌++◌, get_or, Option, None, Some, IfSome, codes, decimal, refl, ◌∙◌, ap, subst, arith}
use Rattle.std.specs.Fmt.{signed_decimal}
use Rattle.std.specs.List.{list_all}
use Rattle.std.proofs.lemmas.Bool.Decides.{nat_tests}
use Rattle.std.proofs.lemmas.Fmt.{decimal_by_steps}
use Rattle.std.proofs.lemmas.List.{append_cancel_right}
use Rattle.std.proofs.lemmas.List.Folds.{list_all-append}
use Rattle.std.proofs.lemmas.List.Sums.{AllPass-from_list_all}
use Rattle.hex.specs.Hex.{IsBytes, encode_lower, encode_with, lower_digits}
use Rattle.flash_names.specs.declared.place.Id.{Id}
use Rattle.flash_names.specs.declared.place.Label.{Label}
use Rattle.flash_names.specs.declared.place.Place.{Place}
use Rattle.flash_entry.specs.declared.ask.Mode.{Mode}
use Rattle.flash_entry.specs.declared.ask.Mode.TheVariants as modes
use Rattle.flash_entry.specs.declared.ask.Create.{Create}
use Rattle.flash_entry.specs.declared.answer.Stored.{Stored}
use Rattle.flash_entry.specs.declared.answer.Stored.TheVariants as stores
use Rattle.flash_entry.specs.declared.answer.Gone.{Gone}
use Rattle.flash_entry.specs.declared.answer.Gone.TheVariants as gone
use Rattle.flash_entry.specs.declared.answer.Summed.{Summed}
use Rattle.flash_entry.specs.declared.answer.Sum.{Sum}
use Rattle.flash_entry.specs.declared.answer.Sum.TheVariants as sums
use Rattle.flash_entry.specs.declared.answer.Touched.{Touched}
use Rattle.flash_entry.specs.declared.answer.Touched.TheVariants as touched
use Rattle.flash_entry.specs.declared.found.Cause.{Cause}
use Rattle.flash_entry.specs.declared.found.Cause.TheVariants as causes
use Rattle.flash_entry.specs.declared.entry.Done.{Done}
use Rattle.flash_entry.specs.declared.entry.Done.TheVariants as deeds
use Rattle.flash_entry.specs.declared.entry.Residence.{Residence}
use Rattle.flash_entry.specs.declared.entry.Residence.TheVariants as residences
use Rattle.flash_entry.specs.declared.entry.Close.{Close}
use Rattle.flash_entry.specs.declared.entry.Close.TheVariants as closes
use Rattle.flash_entry.specs.declared.entry.DropCause.{DropCause}
use Rattle.flash_entry.specs.declared.entry.DropCause.TheVariants as drops
use Rattle.flash_entry.specs.declared.entry.EndCause.{EndCause}
use Rattle.flash_entry.specs.declared.entry.EndCause.TheVariants as ends
use Rattle.flash_entry.specs.declared.entry.Entry.{Entry}
use Rattle.flash_entry.specs.declared.entry.Entry.TheVariants as entries
use Rattle.flash_entry.specs.EntryLaws.{EachEntryIsOneLine}
use Rattle.flash_entry.specs.EntryText.{mode_word, stored_text, gone_word, summed_text, sum_text, touched_word, create_text, direction_word, done_text, wanted_word, residence_text, cause_word, close_text, drop_word, end_word, bytes_text, kind_word, entry_rest}
use Rattle.flash_entry.specs.IsEntry.{IsNumber, IsNarrow, IsSigned, IsKey, IsId, IsLabel, IsPlace, IsCreate, IsSummed, IsStored, IsSum, IsDone, IsResidence, IsClose, IsEntry}
use Rattle.flash_entry.specs.OneLine.{IsOneLine}
use Rattle.flash_entry.specs.Text.{word, number, number_if, signed, signed_if, hexadecimal, id_text, label_text, place_text, line_end}

-- bytes of one line, as a record, so that its bytes are found
record OneLine (bytes : List ℕ) : Type 0 where
  is : IsOneLine bytes

fixed : (w : List ℕ) → list_all (λ b. not (b == 10)) w ≡ true → OneLine w
fixed w is = record { is = is }

infixl 10 ◌+++◌
◌+++◌ : {xs ys : List ℕ} → OneLine xs → OneLine ys → OneLine (xs ++ ys)
◌+++◌ {xs} {ys} first next = record {
  is = list_all-append (λ b. not (b == 10)) xs ys ∙ ap (λ t. t && list_all (λ b. not (b == 10)) ys) first.is ∙ next.is;
}

spaced : {w : List ℕ} → OneLine w → OneLine (word w)
spaced one = record { is = one.is }

digit_after : (n : ℕ) (w : List ℕ) → OneLine w → OneLine (w ++ (48 + n) ∷ [])
digit_after n w one =
    let other : not (48 + n == 10) ≡ true = grind (arith, nat_tests) in
    one +++ fixed ((48 + n) ∷ []) (ap (λ t. t && true) other)

decimal-one : (n : ℕ) → n < 2 ^ 64 → OneLine (decimal n)
decimal-one n small =
    decimal_by_steps (λ n ds. OneLine ds) (λ n digit. digit_after n [] (fixed [] refl)) (λ n ds large front. digit_after (n % 10) ds front) n small

number-one : (n : ℕ) → IsNumber n → OneLine (number n)
number-one n is = spaced (decimal-one n is)

narrow-one : (n : ℕ) → IsNarrow n → OneLine (number n)
narrow-one n is = number-one n (omega arith)

signed_decimal-one : (z : ℤ) → IsSigned z → OneLine (signed_decimal z)
signed_decimal-one (pos n) fits = let small : n < 2 ^ 63 = fits.sfits in decimal-one n (omega arith)
signed_decimal-one (negsuc n) fits =
    let small : n < 2 ^ 63 = fits.sfits in
    let one = decimal-one (suc n) (omega arith) in
    record { is = one.is }

signed-one : (z : ℤ) → IsSigned z → OneLine (signed z)
signed-one z is = spaced (signed_decimal-one z is)

number_if-one : (o : Option ℕ) → IfSome o IsNumber → OneLine (number_if o)
number_if-one None is = fixed (word (codes "-")) refl
number_if-one (Some n) is = number-one n is

signed_if-one : (o : Option ℤ) → IfSome o IsSigned → OneLine (signed_if o)
signed_if-one None is = fixed (word (codes "-")) refl
signed_if-one (Some z) is = signed-one z is

digit-other : (value : ℕ) → value < 16 → not (get_or lower_digits value 0 == 10) ≡ true
digit-other value small = AllPass-from_list_all (λ b. not (b == 10)) lower_digits refl value 0 small

encode-one : (bytes : List ℕ) → IsBytes bytes → OneLine (encode_lower bytes)
unfolding encode_with
encode-one [] are_bytes = fixed [] refl
encode-one (b ∷ bytes) are_bytes =
    let small : b < 256 = are_bytes 0 in
    let high = digit-other (b / 16) (omega arith) in
    let low = digit-other (b % 16) (omega arith) in
    let rest = encode-one bytes (λ i. are_bytes (suc i)) in
    record { is = rw (high, low) rest.is }

bytes-one : (bytes : List ℕ) → IsBytes bytes → OneLine (hexadecimal bytes)
bytes-one [] are_bytes = fixed (word (codes "-")) refl
bytes-one (b ∷ bytes) are_bytes = spaced (encode-one (b ∷ bytes) are_bytes)

key-one : (key : List ℕ) → IsKey key → OneLine (hexadecimal key)
key-one key is = bytes-one key is.bytes

outcome-one : (o : Option (List ℕ)) → IfSome o IsBytes → OneLine (bytes_text o)
outcome-one None is = fixed (word (codes "failed")) refl
outcome-one (Some bytes) is = bytes-one bytes is

id-one : (id : Id) → IsId id → OneLine (id_text id)
id-one id is = narrow-one id.pass is.pass +++ number-one id.seq is.seq

label-one : (label : Label) → IsLabel label → OneLine (label_text label)
label-one label is = narrow-one label.page is.page +++ number-one label.version is.version

place-one : (place : Place) → IsPlace place → OneLine (place_text place)
place-one place is =
    label-one place.label is.label +++ narrow-one place.offset is.offset +++ narrow-one place.length is.length

-- ---- the words

equality-one : OneLine (word (codes "="))
equality-one = fixed (word (codes "=")) refl

mode-one : (mode : Mode) → OneLine (word (mode_word mode))
mode-one modes.Set = fixed (word (codes "set")) refl
mode-one modes.Add = fixed (word (codes "add")) refl
mode-one modes.Replace = fixed (word (codes "replace")) refl
mode-one modes.Append = fixed (word (codes "append")) refl
mode-one modes.Prepend = fixed (word (codes "prepend")) refl

stored-one : (answer : Stored) → IsStored answer → OneLine (stored_text answer)
stored-one (stores.Stored cas) is = fixed (word (codes "stored")) refl +++ number-one cas is
stored-one stores.NotStored is = fixed (word (codes "not-stored")) refl
stored-one stores.Exists is = fixed (word (codes "exists")) refl
stored-one stores.NotFound is = fixed (word (codes "not-found")) refl
stored-one stores.TooLarge is = fixed (word (codes "too-large")) refl
stored-one stores.NoNumber is = fixed (word (codes "no-number")) refl

gone-one : (answer : Gone) → OneLine (word (gone_word answer))
gone-one gone.Deleted = fixed (word (codes "deleted")) refl
gone-one gone.NotFound = fixed (word (codes "not-found")) refl
gone-one gone.Exists = fixed (word (codes "exists")) refl

summed-one : (summed : Summed) → IsSummed summed → OneLine (summed_text summed)
summed-one summed is =
    number-one summed.number is.number +++ number-one summed.cas is.cas +++ signed-one summed.left is.left

sum-one : (answer : Sum) → IsSum answer → OneLine (sum_text answer)
sum-one (sums.Now summed) is = fixed (word (codes "now")) refl +++ summed-one summed is
sum-one (sums.Created summed) is = fixed (word (codes "created")) refl +++ summed-one summed is
sum-one sums.NotFound is = fixed (word (codes "not-found")) refl
sum-one sums.NonNumeric is = fixed (word (codes "non-numeric")) refl
sum-one sums.Exists is = fixed (word (codes "exists")) refl
sum-one sums.NoNumber is = fixed (word (codes "no-number")) refl

touched-one : (answer : Touched) → OneLine (word (touched_word answer))
touched-one touched.Touched = fixed (word (codes "touched")) refl
touched-one touched.NotFound = fixed (word (codes "not-found")) refl

create-one : (create : Option Create) → IfSome create IsCreate → OneLine (create_text create)
create-one None is = fixed (word (codes "-") ++ word (codes "-")) refl
create-one (Some create) is = signed-one create.exptime is.exptime +++ number-one create.start is.start

direction-one : (down : Bool) → OneLine (word (direction_word down))
direction-one true = fixed (word (codes "down")) refl
direction-one false = fixed (word (codes "up")) refl

wanted-one : (value : Bool) → OneLine (word (wanted_word value))
wanted-one true = fixed (word (codes "v")) refl
wanted-one false = fixed (word (codes "h")) refl

cause-one : (cause : Cause) → OneLine (word (cause_word cause))
cause-one causes.Ended = fixed (word (codes "ended")) refl
cause-one causes.Fault = fixed (word (codes "fault")) refl
cause-one causes.Damaged = fixed (word (codes "damaged")) refl

drop-one : (cause : DropCause) → OneLine (word (drop_word cause))
drop-one drops.Dead = fixed (word (codes "dead")) refl
drop-one drops.Evict = fixed (word (codes "evict")) refl
drop-one drops.Ended = fixed (word (codes "ended")) refl
drop-one drops.Damaged = fixed (word (codes "damaged")) refl

end-one : (cause : EndCause) → OneLine (word (end_word cause))
end-one ends.Compacted = fixed (word (codes "compacted")) refl
end-one ends.Evict = fixed (word (codes "evict")) refl
end-one ends.Fault = fixed (word (codes "fault")) refl

-- ---- the parts of an entry

done-one : (done : Done) → IsDone done → OneLine (done_text done)
done-one (deeds.Store put answer) is =
    mode-one put.mode +++ key-one put.key is.0.key +++ narrow-one put.flags is.0.flags
    +++ signed-one put.exptime is.0.exptime +++ number_if-one put.compare is.0.compare
    +++ bytes-one put.value is.0.value +++ equality-one +++ stored-one answer is.1
done-one (deeds.Delete key compare answer) is =
    fixed (word (codes "delete")) refl +++ key-one key is.0 +++ number_if-one compare is.1 +++ equality-one
    +++ gone-one answer
done-one (deeds.Sum ask answer) is =
    direction-one ask.down +++ key-one ask.key is.0.key +++ number-one ask.delta is.0.delta
    +++ number_if-one ask.compare is.0.compare +++ signed_if-one ask.renew is.0.renew
    +++ create-one ask.create is.0.create +++ equality-one +++ sum-one answer is.1
done-one (deeds.Touch key exptime answer) is =
    fixed (word (codes "touch")) refl +++ key-one key is.0 +++ signed-one exptime is.1 +++ equality-one
    +++ touched-one answer
done-one (deeds.Flush delay) is =
    fixed (word (codes "flush")) refl +++ signed-one delay is +++ equality-one +++ fixed (word (codes "ok")) refl
done-one (deeds.Stats tally) is =
    fixed (word (codes "stats")) refl +++ equality-one +++ number-one tally.items is.items
    +++ number-one tally.load is.load +++ number-one tally.last_cas is.last_cas +++ number-one tally.now is.now
    +++ number-one tally.free_pages is.free_pages

residence-one : (residence : Residence) → IsResidence residence → OneLine (residence_text residence)
residence-one residences.Nothing is = fixed (word (codes "none")) refl
residence-one (residences.Here cas) is = number-one cas is +++ fixed (word (codes "here")) refl
residence-one (residences.Away cas label) is = number-one cas is.0 +++ label-one label is.1

close-one : (close : Close) → IsClose close → OneLine (close_text close)
close-one (closes.Hit flags cas value) is =
    fixed (word (codes "hit")) refl +++ narrow-one flags is.0 +++ number-one cas is.1 +++ bytes-one value is.2
close-one (closes.Lost cause) is = fixed (word (codes "lost")) refl +++ cause-one cause

kind-one : (entry : Entry) → OneLine (kind_word entry)
kind-one (entries.Clock _) = fixed (codes "clock") refl
kind-one (entries.Did _ _) = fixed (codes "did") refl
kind-one (entries.Looked _ _ _ _) = fixed (codes "looked") refl
kind-one (entries.FromBuffer _ _) = fixed (codes "buffered") refl
kind-one (entries.ReadBegan _ _ _) = fixed (codes "read-began") refl
kind-one (entries.ReadEnded _ _) = fixed (codes "read-ended") refl
kind-one (entries.Closed _ _) = fixed (codes "closed") refl
kind-one (entries.Moved _ _ _) = fixed (codes "moved") refl
kind-one (entries.Recached _ _) = fixed (codes "recached") refl
kind-one (entries.Dropped _ _) = fixed (codes "dropped") refl
kind-one (entries.WriteBegan _) = fixed (codes "write-began") refl
kind-one (entries.WriteEnded _ _) = fixed (codes "write-ended") refl
kind-one (entries.Opened _) = fixed (codes "opened") refl
kind-one (entries.Ended _ _) = fixed (codes "ended") refl
kind-one (entries.Freed _) = fixed (codes "freed") refl

rest-one : (entry : Entry) → IsEntry entry → OneLine (entry_rest entry)
rest-one (entries.Clock moment) is = number-one moment is
rest-one (entries.Did id done) is = id-one id is.0 +++ done-one done is.1
rest-one (entries.Looked id key look residence) is =
    id-one id is.0 +++ key-one key is.1 +++ wanted-one look.value +++ signed_if-one look.renew is.2
    +++ equality-one +++ residence-one residence is.3
rest-one (entries.FromBuffer id place) is = id-one id is.0 +++ place-one place is.1
rest-one (entries.ReadBegan id place reader) is = id-one id is.0 +++ place-one place is.1 +++ narrow-one reader is.2
rest-one (entries.ReadEnded id bytes) is = id-one id is.0 +++ outcome-one bytes is.1
rest-one (entries.Closed id close) is = id-one id is.0 +++ close-one close is.1
rest-one (entries.Moved key cas label) is = key-one key is.0 +++ number-one cas is.1 +++ label-one label is.2
rest-one (entries.Recached key cas) is = key-one key is.0 +++ number-one cas is.1
rest-one (entries.Dropped key cause) is = key-one key is +++ drop-one cause
rest-one (entries.WriteBegan place) is = place-one place is
rest-one (entries.WriteEnded place bytes) is = place-one place is.0 +++ outcome-one bytes is.1
rest-one (entries.Opened label) is = label-one label is
rest-one (entries.Ended label cause) is = label-one label is +++ end-one cause
rest-one (entries.Freed label) is = label-one label is

pub entry_one_line : EachEntryIsOneLine
entry_one_line entry line is same =
    let one = kind-one entry +++ rest-one entry is in
    let text : kind_word entry ++ entry_rest entry ≡ line =
    append_cancel_right (kind_word entry ++ entry_rest entry) line line_end same in
    subst IsOneLine text one.is
