-- The rules of the one-thread cache, by the kind of entry. Each is a test over the journal and the cache before it.
use Rattle.std.specs.Prelude.{ℕ, ◌+◌, ◌%◌, Bool, true, false, ◌&&◌, ◌||◌, not, nat_eq, nat_le, nat_lt, List, [], ◌∷◌, length, Option, None, Some, is_none, is_some, if◌then◌else◌}
use Rattle.std.specs.List.{list_any}
use Rattle.std.specs.Str.{bytes_eq}
use Rattle.std.specs.FinMap as map
use Rattle.flash_names.specs.declared.place.Id.{Id}
use Rattle.flash_names.specs.declared.place.Label.{Label}
use Rattle.flash_names.specs.declared.place.Place.{Place}
use Rattle.flash_names.specs.declared.geometry.Geometry.{Geometry}
use Rattle.flash_names.specs.Labels.{same_label}
use Rattle.flash_entry.specs.declared.found.Cause.TheVariants as causes
use Rattle.flash_entry.specs.declared.entry.Close.{Close}
use Rattle.flash_entry.specs.declared.entry.Close.TheVariants as closes
use Rattle.flash_entry.specs.declared.entry.Done.{Done}
use Rattle.flash_entry.specs.declared.entry.Done.TheVariants as deeds
use Rattle.flash_entry.specs.declared.entry.DropCause.{DropCause}
use Rattle.flash_entry.specs.declared.entry.DropCause.TheVariants as drops
use Rattle.flash_entry.specs.declared.entry.EndCause.{EndCause}
use Rattle.flash_entry.specs.declared.entry.EndCause.TheVariants as ends
use Rattle.flash_entry.specs.declared.entry.Residence.{Residence}
use Rattle.flash_entry.specs.declared.entry.Entry.{Entry}
use Rattle.flash_entry.specs.declared.entry.Entry.TheVariants as entries
use Rattle.flash_machine.specs.Item.{Item}
use Rattle.flash_machine.specs.Cache.{Cache}
use Rattle.flash_machine.specs.Moments.{last_moment}
use Rattle.flash_machine.specs.NewSteps.{is_new_step}
use Rattle.flash_machine.specs.Live.{label_has_ended, is_expired_item, live_item}
use Rattle.flash_machine.specs.Storing.{last_number, store_step}
use Rattle.flash_machine.specs.Looking.{residence_of}
use Rattle.flash_machine.specs.Deleting.{delete_step}
use Rattle.flash_machine.specs.Summing.{sum_step}
use Rattle.flash_machine.specs.Touching.{touch_step}
use Rattle.flash_machine.specs.Load.{load_of, tally_of}
use Rattle.flash_machine.specs.Same.{same_stored, same_gone, same_sum, same_touched, same_tally, same_residence}
use Rattle.flash_machine.specs.Places.{overlaps, same_place}
use Rattle.flash_machine.specs.PageLabels.{page_label, last_version, free_pages, is_label, is_in_use, is_over}
use Rattle.flash_machine.specs.Writes.{open_write, last_write, is_written}
use Rattle.flash_machine.specs.Lookups.{Lookup, open_lookup, closings, was_from_buffer}
use Rattle.flash_machine.specs.DeviceReads.{DeviceRead, read_of}
use Rattle.flash_machine.specs.Records.{whole_record, is_of, has_content}

-- a rule: its number, and whether it holds
pub record Rule : Type 0 where
  pub number : ℕ
  pub holds : Bool

abbrev pub rule : ℕ → Bool → Rule
rule number holds = record { number = number; holds = holds }

-- rule 1: the moment rises, to 2^62 at most
abbrev pub moment_rises : Cache → ℕ → Bool
moment_rises c moment = nat_lt c.now moment && nat_le moment last_moment

-- rule 3: the answer is that of the step
abbrev pub has_step_answer : Geometry → List Entry → Cache → Done → Bool
has_step_answer g journal c (deeds.Store put answer) =
    same_stored answer (store_step g c put (live_item journal c put.key)).0
has_step_answer g journal c (deeds.Delete key compare answer) =
    same_gone answer (delete_step c key compare (live_item journal c key)).0
has_step_answer g journal c (deeds.Sum ask answer) = same_sum answer (sum_step c ask (live_item journal c ask.key)).0
has_step_answer g journal c (deeds.Touch key exptime answer) =
    same_touched answer (touch_step c key exptime (live_item journal c key)).0
has_step_answer g journal c (deeds.Flush delay) = true
has_step_answer g journal c (deeds.Stats tally) = same_tally tally (tally_of g journal c)

-- rule 4: what was found is the live item under the key
abbrev pub is_found : List Entry → Cache → List ℕ → Residence → Bool
is_found journal c key residence = same_residence residence (residence_of (live_item journal c key))

-- whether a lookup is open, of an item with this label
abbrev pub is_lookup_of : Label → Option Lookup → Bool
is_lookup_of label None = false
is_lookup_of label (Some lookup) = same_label lookup.label label

-- whether the entry ends a good write of the place's label over some of its bytes
abbrev pub ends_write_over : Place → Entry → Bool
ends_write_over place (entries.WriteEnded other (Some bytes)) =
    same_label other.label place.label && overlaps other place
ends_write_over place _ = false

-- rule 5: the lookup is open, its item has the place's label, which hasn't ended, and no good write of it overlaps
abbrev pub may_be_buffered : Geometry → List Entry → Id → Place → Bool
may_be_buffered g journal id place =
    is_lookup_of place.label (open_lookup g id journal)
    && not (label_has_ended journal (Some place.label))
    && not (list_any (ends_write_over place) journal)

-- the place's label is in use, and the step has no read yet
abbrev pub may_be_read : List Entry → Id → Place → Bool
may_be_read journal id place = is_in_use journal place.label && is_none (read_of id journal)

-- rule 6: so, and the read is of an open lookup of that label, or of pass 0
abbrev pub may_read_begin : Geometry → List Entry → Id → Place → Bool
may_read_begin g journal id place =
    may_be_read journal id place && (is_lookup_of place.label (open_lookup g id journal) || nat_eq id.pass 0)

-- whether the bytes, where there are some, are so many
abbrev pub has_length : ℕ → Option (List ℕ) → Bool
has_length n None = true
has_length n (Some bytes) = nat_eq (length bytes) n

-- whether a read is under way that may end so
abbrev pub is_open_read : Option (List ℕ) → Option DeviceRead → Bool
is_open_read outcome None = false
is_open_read outcome (Some read) = is_none read.outcome && has_length read.place.length outcome

-- rule 7: the read has begun and not ended, and the bytes have the place's length
abbrev pub may_read_end : List Entry → Id → Option (List ℕ) → Bool
may_read_end journal id outcome = is_open_read outcome (read_of id journal)

-- whether an outcome is of bytes that pass the test
abbrev pub has_bytes : (List ℕ → Bool) → Option (Option (List ℕ)) → Bool
has_bytes test (Some (Some bytes)) = test bytes
has_bytes test _ = false

-- whether there is an outcome, and it is a failure
abbrev pub is_failure : Option (Option (List ℕ)) → Bool
is_failure (Some None) = true
is_failure _ = false

-- whether a read has ended well, and its bytes pass the test
abbrev pub has_read : (List ℕ → Bool) → Option DeviceRead → Bool
has_read test None = false
has_read test (Some read) = has_bytes test read.outcome

-- whether a read has failed
abbrev pub has_failed : Option DeviceRead → Bool
has_failed None = false
has_failed (Some read) = is_failure read.outcome

-- whether bytes are a record of a lookup's key, CAS number and version
abbrev pub is_record_for : Lookup → List ℕ → Bool
is_record_for lookup bytes = is_of lookup.key lookup.item.cas lookup.label.version (whole_record bytes)

-- whether bytes are the record of a lookup's item
abbrev pub is_item_record : Lookup → List ℕ → Bool
is_item_record lookup bytes =
    is_record_for lookup bytes && has_content lookup.item.flags lookup.item.value (whole_record bytes)

-- rule 8: flags, CAS number and value are those of the lookup's item, which came from a buffer or was read
abbrev pub is_hit_of : List Entry → Id → ℕ → ℕ → List ℕ → Lookup → Bool
is_hit_of journal id flags cas value lookup =
    nat_eq flags lookup.item.flags && nat_eq cas lookup.item.cas && bytes_eq value lookup.item.value
    && (was_from_buffer id journal || has_read (is_item_record lookup) (read_of id journal))

-- rule 9: the label of the lookup has ended, and it has no read
abbrev pub is_lost_by_end : List Entry → Id → Lookup → Bool
is_lost_by_end journal id lookup = label_has_ended journal (Some lookup.label) && is_none (read_of id journal)

-- rule 10: the read of the lookup has failed
abbrev pub is_lost_by_fault : List Entry → Id → Lookup → Bool
is_lost_by_fault journal id lookup = has_failed (read_of id journal)

-- rule 11: what was read is no record of the lookup's key, CAS number and version
abbrev pub is_lost_by_damage : List Entry → Id → Lookup → Bool
is_lost_by_damage journal id lookup = has_read (λ bytes. not (is_record_for lookup bytes)) (read_of id journal)

-- whether the lookup is open and passes the test
abbrev pub is_open_and : (Lookup → Bool) → Option Lookup → Bool
is_open_and test None = false
is_open_and test (Some lookup) = test lookup

abbrev pub close_rule : Geometry → List Entry → Id → Close → Rule
close_rule g journal id (closes.Hit flags cas value) =
    rule 8 (is_open_and (is_hit_of journal id flags cas value) (open_lookup g id journal))
close_rule g journal id (closes.Lost causes.Ended) =
    rule 9 (is_open_and (is_lost_by_end journal id) (open_lookup g id journal))
close_rule g journal id (closes.Lost causes.Fault) =
    rule 10 (is_open_and (is_lost_by_fault journal id) (open_lookup g id journal))
close_rule g journal id (closes.Lost causes.Damaged) =
    rule 11 (is_open_and (is_lost_by_damage journal id) (open_lookup g id journal))

-- whether there is an item, of this CAS number
abbrev pub has_cas : ℕ → Option Item → Bool
has_cas cas None = false
has_cas cas (Some item) = nat_eq item.cas cas

-- rule 12: the key has a live item of that CAS number, and the label is in use
abbrev pub may_be_moved : List Entry → Cache → List ℕ → ℕ → Label → Bool
may_be_moved journal c key cas label = has_cas cas (live_item journal c key) && is_in_use journal label

-- whether a lookup is of the key and the CAS number
abbrev pub is_lookup_on : List ℕ → ℕ → Lookup → Bool
is_lookup_on key cas lookup = bytes_eq lookup.key key && nat_eq lookup.item.cas cas

abbrev pub is_hit : Close → Bool
is_hit (closes.Hit flags cas value) = true
is_hit (closes.Lost cause) = false

abbrev pub is_damage : Close → Bool
is_damage (closes.Lost causes.Damaged) = true
is_damage _ = false

-- whether a closed lookup is of the key and the CAS number, and was a hit
abbrev pub is_hit_on : List ℕ → ℕ → Lookup × Close → Bool
is_hit_on key cas closing = is_lookup_on key cas closing.0 && is_hit closing.1

-- whether a closed lookup is of the key, the CAS number and the label, and was lost as damaged
abbrev pub is_damage_on : List ℕ → ℕ → Label → Lookup × Close → Bool
is_damage_on key cas label closing =
    is_lookup_on key cas closing.0 && same_label closing.0.label label && is_damage closing.1

-- whether there is an item, and it has a label
abbrev pub has_label : Option Item → Bool
has_label None = false
has_label (Some item) = is_some item.label

-- rule 13: the key has a live item of that CAS number with a label, and a lookup of both was a hit
abbrev pub may_be_recached : Geometry → List Entry → Cache → List ℕ → ℕ → Bool
may_be_recached g journal c key cas =
    has_cas cas (live_item journal c key) && has_label (live_item journal c key)
    && list_any (is_hit_on key cas) (closings g journal)

-- whether a lookup of the key, the CAS number and the label, if there is one, was lost as damaged
abbrev pub was_damaged : Geometry → List Entry → List ℕ → ℕ → Option Label → Bool
was_damaged g journal key cas None = false
was_damaged g journal key cas (Some label) = list_any (is_damage_on key cas label) (closings g journal)

-- rules 15 to 18: the item is dead, the load exceeds the memory, its label has ended, or it was read as damaged
abbrev pub drop_rule : Geometry → List Entry → Cache → List ℕ → Item → DropCause → Rule
drop_rule g journal c key item drops.Dead = rule 15 (is_expired_item c item)
drop_rule g journal c key item drops.Evict = rule 16 (nat_lt g.memory (load_of c.items))
drop_rule g journal c key item drops.Ended = rule 17 (label_has_ended journal item.label)
drop_rule g journal c key item drops.Damaged = rule 18 (was_damaged g journal key item.cas item.label)

-- rule 14: the key has an item; and then it has the cause to be dropped
abbrev pub drop_rules : Geometry → List Entry → Cache → List ℕ → DropCause → Option Item → List Rule
drop_rules g journal c key cause None = rule 14 false ∷ []
drop_rules g journal c key cause (Some item) = rule 14 true ∷ drop_rule g journal c key item cause ∷ []

-- whether a place is one block of a page
abbrev pub is_block : Geometry → Place → Bool
is_block g place =
    nat_eq place.length g.buffer_size && nat_eq (place.offset % g.buffer_size) 0
    && nat_le (place.offset + place.length) g.page_size

-- whether there is no place, or it is this one
abbrev pub is_none_or : Place → Option Place → Bool
is_none_or place None = true
is_none_or place (Some other) = same_place other place

-- rule 19: the label is in use, the place is one block, and no write of another place is open
abbrev pub may_write_begin : Geometry → List Entry → Place → Bool
may_write_begin g journal place =
    is_in_use journal place.label && is_block g place && is_none_or place (open_write journal)

-- whether there is a place, and it is this one
abbrev pub is_place : Place → Option Place → Bool
is_place place None = false
is_place place (Some other) = same_place other place

-- rule 20: the open write is of that place, and the bytes have its length
abbrev pub may_write_end : List Entry → Place → Option (List ℕ) → Bool
may_write_end journal place outcome = is_place place (open_write journal) && has_length place.length outcome

-- rule 21: the version is the next one, at most 2^63, and the page is free
abbrev pub may_be_opened : Geometry → List Entry → Label → Bool
may_be_opened g journal label =
    nat_eq label.version (last_version journal + 1) && nat_le label.version last_number
    && nat_lt label.page g.pages && is_none (page_label label.page journal)

-- whether an item has this label
abbrev pub is_labelled : Label → List ℕ × Item → Bool
is_labelled label entry = is_label label entry.1.label

-- rules 23 to 25: no item has the label, pages are short and each block of it is written, or its last write failed
abbrev pub end_rule : Geometry → List Entry → Cache → Label → EndCause → Rule
end_rule g journal c label ends.Compacted = rule 23 (not (list_any (is_labelled label) (map.entries c.items)))
end_rule g journal c label ends.Evict =
    rule 24 (nat_le (free_pages g journal) g.drop_under && is_written g label journal)
end_rule g journal c label ends.Fault = rule 25 (is_failure (last_write label journal))

-- the rules of an entry, those of lower number first; rule 2 is that a step is new, rule 22 that an ended label
-- was in use, rule 26 that a freed one has ended and wasn't freed
abbrev pub rules : Geometry → List Entry → Cache → Entry → List Rule
rules g journal c (entries.Clock moment) = rule 1 (moment_rises c moment) ∷ []
rules g journal c (entries.Did id done) =
    rule 2 (is_new_step journal id) ∷ rule 3 (has_step_answer g journal c done) ∷ []
rules g journal c (entries.Looked id key look residence) =
    rule 2 (is_new_step journal id) ∷ rule 4 (is_found journal c key residence) ∷ []
rules g journal c (entries.FromBuffer id place) = rule 5 (may_be_buffered g journal id place) ∷ []
rules g journal c (entries.ReadBegan id place reader) = rule 6 (may_read_begin g journal id place) ∷ []
rules g journal c (entries.ReadEnded id outcome) = rule 7 (may_read_end journal id outcome) ∷ []
rules g journal c (entries.Closed id close) = close_rule g journal id close ∷ []
rules g journal c (entries.Moved key cas label) = rule 12 (may_be_moved journal c key cas label) ∷ []
rules g journal c (entries.Recached key cas) = rule 13 (may_be_recached g journal c key cas) ∷ []
rules g journal c (entries.Dropped key cause) = drop_rules g journal c key cause (map.get c.items key)
rules g journal c (entries.WriteBegan place) = rule 19 (may_write_begin g journal place) ∷ []
rules g journal c (entries.WriteEnded place outcome) = rule 20 (may_write_end journal place outcome) ∷ []
rules g journal c (entries.Opened label) = rule 21 (may_be_opened g journal label) ∷ []
rules g journal c (entries.Ended label cause) =
    rule 22 (is_in_use journal label) ∷ end_rule g journal c label cause ∷ []
rules g journal c (entries.Freed label) = rule 26 (is_over journal label) ∷ []

-- the number of the lowest rule that is broken
abbrev pub broken : List Rule → Option ℕ
broken [] = None
broken (first ∷ rest) = if first.holds then broken rest else Some first.number
