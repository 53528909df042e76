-- Steps over the heads of a cache.
use Rattle.std.proofs.Common.{◌≡◌, ℕ, ◌+◌, Bool, true, false, List, Option, None, Some, if◌then◌else◌, inl, inr, refl, sym, ◌∙◌, ap}
use Rattle.std.specs.Prelude.{is_none, nat_le, not}
use Rattle.std.specs.Option.{option_map, option_or}
use Rattle.std.specs.FinMap as finite
use Rattle.flash_names.specs.Numbers.{number_of}
use Rattle.flash_names.specs.declared.place.Label.{Label}
use Rattle.flash_names.specs.declared.geometry.Geometry.{Geometry}
use Rattle.flash_entry.specs.declared.ask.Arith.{Arith}
use Rattle.flash_entry.specs.declared.ask.Create.{Create}
use Rattle.flash_entry.specs.declared.ask.Look.{Look}
use Rattle.flash_entry.specs.declared.ask.Mode.{Mode}
use Rattle.flash_entry.specs.declared.ask.Mode.TheVariants as modes
use Rattle.flash_entry.specs.declared.ask.Put.{Put}
use Rattle.flash_entry.specs.declared.answer.Gone.{Gone}
use Rattle.flash_entry.specs.declared.answer.Gone.TheVariants as gone
use Rattle.flash_entry.specs.declared.answer.Stored.{Stored}
use Rattle.flash_entry.specs.declared.answer.Stored.TheVariants as stored
use Rattle.flash_entry.specs.declared.answer.Sum.{Sum}
use Rattle.flash_entry.specs.declared.answer.Sum.TheVariants as sums
use Rattle.flash_entry.specs.declared.answer.Touched.TheVariants as touches
use Rattle.flash_machine.specs.Item.{Item}
use Rattle.flash_machine.specs.Cache.{Cache, Items}
use Rattle.flash_machine.specs.Moments.{deadline, is_reached}
use Rattle.flash_machine.specs.Storing.{last_number, mode_fails, compare_refusal, size_refusal, stored_value, stored_item, with_stored, refusal, store_outcome, store_step}
use Rattle.flash_machine.specs.Looking.{residence_of, fetched_item, look_next, head_of_item}
use Rattle.flash_machine.specs.Deleting.{compare_fails, without_item}
use Rattle.flash_machine.specs.Summing.{number_in, changed_number, number_item, changed_item, summed_of, sum_created, sum_changed}
use Rattle.flash_machine.specs.Touching.{flush_at, flushed}
use Rattle.flash_heads.specs.Heads.{hidden_value, hidden, hidden_items, heads}
use Rattle.flash_heads.specs.StepLaws.{with_heads, EachStoreIsThatOfTheHeads, NoValueOnFlashIsJoined, NoValueOnFlashIsANumber, EachLookupIsThatOfTheHeads, EachDropIsThatOfTheHeads, EachDeleteIsThatOfTheHeads, EachHeadHasItsNumber, EachSumIsThatOfTheHeads, EachTouchIsThatOfTheHeads, EachFlushIsThatOfTheHeads, EachClockIsThatOfTheHeads}
use Rattle.flash_heads.proofs.Hiding.{value_length, here_is, put_hidden, cut_hidden}

-- a cache with an item put in
put_in : (c : Cache) (key : List ℕ) (item : Item) → record (heads c) { items = finite.insert (heads c).items key (hidden item) } ≡ heads (record c { items = finite.insert c.items key item })
put_in c key item = ap (λ (items : Items). record c { items = items }) (sym (put_hidden c.items key item))

-- a lookup
pub looked : (c : Cache) (key : List ℕ) (look : Look) (live : Option Item) → look_next (heads c) key look (option_map hidden live) ≡ heads (look_next c key look live)
looked c key look None = refl
looked c key look (Some item) = put_in c key (fetched_item c look item)

told : (c : Cache) (look : Look) (item : Item) → head_of_item (heads c) look (hidden item) ≡ head_of_item c look item
told c look item = ap (λ (n : ℕ). record (head_of_item c look item) { size = n }) (value_length item.label item.value)

pub same_residence_of : (live : Option Item) → residence_of (option_map hidden live) ≡ residence_of live
same_residence_of None = refl
same_residence_of (Some item) = refl

pub looks : EachLookupIsThatOfTheHeads
looks c key look live = record { found = same_residence_of live; told = told c look; next = looked c key look live }

-- a drop
pub dropped : EachDropIsThatOfTheHeads
dropped c key = ap (λ (items : Items). record c { items = items }) (sym (cut_hidden c.items key))

-- a delete
deleted_by : (fails : Bool) (c : Cache) (key : List ℕ) → let step : Cache → Gone × Cache = λ c. if fails then (gone.Exists, c) else (gone.Deleted, without_item c key) in
    step (heads c) ≡ with_heads (step c)
deleted_by true c key = refl
deleted_by false c key = ap (λ (d : Cache). (gone.Deleted, d)) (dropped c key)

pub deleted : EachDeleteIsThatOfTheHeads
deleted c key compare None = refl
deleted c key compare (Some item) = deleted_by (compare_fails compare item.cas) c key

-- a touch
pub touched : EachTouchIsThatOfTheHeads
touched c key exptime None = refl
touched c key exptime (Some item) = ap (λ (d : Cache). (touches.Touched, d)) (put_in c key (record item { deadline = deadline exptime c.now }))

-- a flush
flushed_by : (reached : Bool) (c : Cache) (moment : ℕ) → let step : Cache → Cache = λ c. if reached then flushed c else record c { pending_flush = Some moment } in
    step (heads c) ≡ heads (step c)
flushed_by true c moment = refl
flushed_by false c moment = refl

flushed_at : (c : Cache) (when : Option ℕ) → flush_at (heads c) when ≡ heads (flush_at c when)
flushed_at c None = refl
flushed_at c (Some moment) = flushed_by (nat_le moment c.now) c moment

pub flush : EachFlushIsThatOfTheHeads
flush c delay = flushed_at c (deadline delay c.now)

-- the clock
clocked_by : (reached : Bool) (c : Cache) (moment : ℕ) → let step : Cache → Cache = λ c. if reached then record c { now = moment; flush_mark = c.last_cas; pending_flush = None } else record c { now = moment } in
    step (heads c) ≡ heads (step c)
clocked_by true c moment = refl
clocked_by false c moment = refl

pub clocked : EachClockIsThatOfTheHeads
clocked c moment = clocked_by (is_reached c.pending_flush moment) c moment

-- arithmetic
number_by : (label : Option Label) (value : List ℕ) → (if is_none label then number_of (hidden_value label value) else None) ≡ (if is_none label then number_of value else None)
number_by None value = refl
number_by (Some label) value = refl

pub number : EachHeadHasItsNumber
number item = number_by item.label item.value

pub no_number : NoValueOnFlashIsANumber
no_number item label is = ap (λ (l : Option Label). if is_none l then number_of item.value else None) is

-- a cache where an item in memory was stored
stored_in : (c : Cache) (key : List ℕ) (item : Item) → item.label ≡ None → with_stored (heads c) key item ≡ heads (with_stored c key item)
stored_in c key item here =
    ap (λ (items : Items). record c { items = items; last_cas = c.last_cas + 1 })
    (ap (λ (i : Item). finite.insert (hidden_items c.items) key i) (sym (here_is item here)) ∙ sym (put_hidden c.items key item))

numbered_by : (last : Bool) (answer : Sum) (c : Cache) (key : List ℕ) (item : Item) → item.label ≡ None
    → let step : Cache → Sum × Cache = λ c. if last then (sums.NoNumber, c) else (answer, with_stored c key item) in
    step (heads c) ≡ with_heads (step c)
numbered_by true answer c key item here = refl
numbered_by false answer c key item here = ap (λ (d : Cache). (answer, d)) (stored_in c key item here)

created_by : (c : Cache) (key : List ℕ) (create : Option Create) → sum_created (heads c) key create ≡ with_heads (sum_created c key create)
created_by c key None = refl
created_by c key (Some create) =
    let item = number_item c 0 (deadline create.exptime c.now) create.start in
    numbered_by (nat_le last_number c.last_cas) (sums.Created (summed_of c item create.start)) c key item refl

changed_by : (c : Cache) (ask : Arith) (item : Item) (found : Option ℕ) → sum_changed (heads c) ask (hidden item) found ≡ with_heads (sum_changed c ask item found)
changed_by c ask item None = refl
changed_by c ask item (Some n) =
    let changed = changed_number ask.down ask.delta n in
    let made = changed_item c ask item changed in
    numbered_by (nat_le last_number c.last_cas) (sums.Now (summed_of c made changed)) c ask.key made refl

compared_by : (fails : Bool) (c : Cache) (ask : Arith) (item : Item)
    → let step : Cache → Item → Sum × Cache = λ c i. if fails then (sums.Exists, c) else sum_changed c ask i (number_in i) in
    step (heads c) (hidden item) ≡ with_heads (step c item)
compared_by true c ask item = refl
compared_by false c ask item = ap (sum_changed (heads c) ask (hidden item)) (number item) ∙ changed_by c ask item (number_in item)

pub summed : EachSumIsThatOfTheHeads
summed c ask None = created_by c ask.key ask.create
summed c ask (Some item) = compared_by (compare_fails ask.compare item.cas) c ask item

-- a store
module _ (g : Geometry) (c : Cache) (put : Put) where
  abbrev refused_in : Cache → Mode → Option Item → Option Stored
  refused_in d mode live = if mode_fails mode live then Some stored.NotStored else option_or (compare_refusal put.compare live) (size_refusal g d (stored_value put mode live))

  compared : (compare : Option ℕ) (item : Item) → compare_refusal compare (Some (hidden item)) ≡ compare_refusal compare (Some item)
  compared None item = refl
  compared (Some cas) item = refl

  plain_refused : (fails : Bool) (item : Item) → let by : Item → Option Stored = λ i. if fails then Some stored.NotStored else option_or (compare_refusal put.compare (Some i)) (size_refusal g c put.value) in
      by (hidden item) ≡ by item
  plain_refused fails item = ap (λ r. if fails then Some stored.NotStored else option_or r (size_refusal g c put.value)) (compared put.compare item)

  -- a value on flash isn't joined to
  join_refused : (b : Bool) (one other : Option Stored) → b ≡ true → (if b then Some stored.NotStored else one) ≡ (if b then Some stored.NotStored else other)
  join_refused true one other fails = refl
  join_refused false one other fails = absurd (cc fails)

  cant_join : (item : Item) (label : Label) → item.label ≡ Some label → not (is_none item.label) ≡ true
  cant_join item label is = ap (λ (l : Option Label). not (is_none l)) is

  away_refused : (mode : Mode) (item : Item) (label : Label) → item.label ≡ Some label → refused_in (heads c) mode (Some (hidden item)) ≡ refused_in c mode (Some item)
  away_refused modes.Set item label is = plain_refused false item
  away_refused modes.Add item label is = plain_refused true item
  away_refused modes.Replace item label is = plain_refused false item
  away_refused modes.Append item label is = join_refused (not (is_none item.label)) _ _ (cant_join item label is)
  away_refused modes.Prepend item label is = join_refused (not (is_none item.label)) _ _ (cant_join item label is)

  item_refused : (mode : Mode) (item : Item) (label : Option Label) → item.label ≡ label → refused_in (heads c) mode (Some (hidden item)) ≡ refused_in c mode (Some item)
  item_refused mode item None here = ap (λ (i : Item). refused_in c mode (Some i)) (here_is item here)
  item_refused mode item (Some label) is = away_refused mode item label is

  same_refused : (live : Option Item) → refusal g (heads c) put (option_map hidden live) ≡ refusal g c put live
  same_refused None = refl
  same_refused (Some item) = item_refused put.mode item item.label refl

  -- the item that is stored
  by_cache : (mode : Mode) (live : Option Item) → stored_item (heads c) put mode live ≡ stored_item c put mode live
  by_cache modes.Set live = refl
  by_cache modes.Add live = refl
  by_cache modes.Replace live = refl
  by_cache modes.Append None = refl
  by_cache modes.Append (Some item) = refl
  by_cache modes.Prepend None = refl
  by_cache modes.Prepend (Some item) = refl

  never_joined : (b : Bool) (one : Option Stored) → b ≡ true → (if b then Some stored.NotStored else one) ≡ None → ⊥
  never_joined true one fails none = absurd (cc none)
  never_joined false one fails none = absurd (cc fails)

  away_stored : (mode : Mode) (item : Item) (label : Label) → item.label ≡ Some label → refused_in c mode (Some item) ≡ None → stored_item (heads c) put mode (Some (hidden item)) ≡ stored_item c put mode (Some item)
  away_stored modes.Set item label is none = refl
  away_stored modes.Add item label is none = refl
  away_stored modes.Replace item label is none = refl
  away_stored modes.Append item label is none = absurd (never_joined (not (is_none item.label)) _ (cant_join item label is) none)
  away_stored modes.Prepend item label is none = absurd (never_joined (not (is_none item.label)) _ (cant_join item label is) none)

  item_stored : (mode : Mode) (item : Item) (label : Option Label) → item.label ≡ label → refused_in c mode (Some item) ≡ None → stored_item (heads c) put mode (Some (hidden item)) ≡ stored_item c put mode (Some item)
  item_stored mode item None here none = ap (λ (i : Item). stored_item (heads c) put mode (Some i)) (here_is item here) ∙ by_cache mode (Some item)
  item_stored mode item (Some label) is none = away_stored mode item label is none

  same_stored : (live : Option Item) → refusal g c put live ≡ None → stored_item (heads c) put put.mode (option_map hidden live) ≡ stored_item c put put.mode live
  same_stored None none = by_cache put.mode None
  same_stored (Some item) none = item_stored put.mode item item.label refl none

  -- it is in memory
  stored_here : (mode : Mode) (live : Option Item) → (stored_item c put mode live).label ≡ None
  stored_here modes.Set live = refl
  stored_here modes.Add live = refl
  stored_here modes.Replace live = refl
  stored_here modes.Append None = refl
  stored_here modes.Append (Some item) = refl
  stored_here modes.Prepend None = refl
  stored_here modes.Prepend (Some item) = refl

  stores_by : (r : Option Stored) (one other : Item) → (r ≡ None → one ≡ other) → other.label ≡ None → store_outcome r (heads c) put.key one ≡ with_heads (store_outcome r c put.key other)
  stores_by (Some refusal) one other same here = refl
  stores_by None one other same here =
      ap (λ (d : Cache). (stored.Stored (c.last_cas + 1), d)) (ap (λ (i : Item). with_stored (heads c) put.key i) (same refl) ∙ stored_in c put.key other here)

  pub same_step : (live : Option Item) → store_step g (heads c) put (option_map hidden live) ≡ with_heads (store_step g c put live)
  same_step live =
      ap (λ (r : Option Stored). store_outcome r (heads c) put.key (stored_item (heads c) put put.mode (option_map hidden live))) (same_refused live)
      ∙ stores_by (refusal g c put live) (stored_item (heads c) put put.mode (option_map hidden live)) (stored_item c put put.mode live) (same_stored live) (stored_here put.mode live)

pub stores : EachStoreIsThatOfTheHeads
stores g c put live = record { refused = same_refused g c put live; stored = same_stored g c put live; step = same_step g c put live }

joined_by : (g : Geometry) (c : Cache) (put : Put) (item : Item) (label : Label) → item.label ≡ Some label → (mode : Mode) → put.mode ≡ mode → mode_fails mode (Some item) ≡ true → refusal g c put (Some item) ≡ Some stored.NotStored
joined_by g c put item label is mode same fails =
    ap (λ (m : Mode). refused_in g c put c m (Some item)) same
    ∙ ap (λ b. if b then Some stored.NotStored else option_or (compare_refusal put.compare (Some item)) (size_refusal g c (stored_value put mode (Some item)))) fails

pub not_joined : NoValueOnFlashIsJoined
not_joined g c put item label is (inl same) = joined_by g c put item label is modes.Append same (cant_join g c put item label is)
not_joined g c put item label is (inr same) = joined_by g c put item label is modes.Prepend same (cant_join g c put item label is)
