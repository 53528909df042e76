-- What a step keeps of the moment and of the CAS numbers.
use Rattle.std.proofs.Common.{◌≡◌, ℕ, ℤ, ◌+◌, ◌<◌, ◌≤◌, Bool, true, false, List, [], ◌∷◌, ◌++◌, Option, None, Some, cond, refl, sym, ◌∙◌, ap, subst, arith}
use Rattle.std.specs.Prelude.{nat_le}
use Rattle.std.specs.Ordering.{nat_cmp, eq_by_cmp}
use Rattle.std.specs.Cmp.Lexicographic.{slice_cmp, nat_list_cmp_total}
use Rattle.std.specs.FinMap as map
use Rattle.std.proofs.lemmas.Bool.{cond_both}
use Rattle.std.proofs.lemmas.Slice.Eq.{bytes_eq-Decides}
use Rattle.std.proofs.lemmas.Map.Text.{is_eq-slice_cmp}
use Rattle.flash_names.specs.declared.place.Label.{Label}
use Rattle.flash_names.specs.declared.geometry.Geometry.{Geometry}
use Rattle.flash_entry.specs.declared.ask.Mode.{Mode}
use Rattle.flash_entry.specs.declared.ask.Mode.TheVariants.{Append, Prepend}
use Rattle.flash_entry.specs.declared.ask.Put.{Put}
use Rattle.flash_entry.specs.declared.ask.Look.{Look}
use Rattle.flash_entry.specs.declared.ask.Arith.{Arith}
use Rattle.flash_entry.specs.declared.ask.Create.{Create}
use Rattle.flash_entry.specs.declared.answer.Stored.{Stored}
use Rattle.flash_entry.specs.declared.answer.Gone.{Gone}
use Rattle.flash_entry.specs.declared.answer.Summed.{Summed}
use Rattle.flash_entry.specs.declared.answer.Sum.{Sum}
use Rattle.flash_entry.specs.declared.answer.Sum.TheVariants as sums
use Rattle.flash_entry.specs.declared.entry.Done.{Done}
use Rattle.flash_entry.specs.declared.entry.Done.TheVariants as deeds
use Rattle.flash_entry.specs.declared.entry.Entry.{Entry}
use Rattle.flash_entry.specs.declared.entry.Entry.TheVariants as entries
use Rattle.flash_machine.specs.Moments.{is_reached, deadline}
use Rattle.flash_machine.specs.Item.{Item}
use Rattle.flash_machine.specs.Cache.{Items, Cache, first_cache}
use Rattle.flash_machine.specs.Live.{is_live, passing_item, live_item}
use Rattle.flash_machine.specs.Storing.{last_number, stored_item, with_stored, store_outcome, refusal}
use Rattle.flash_machine.specs.Looking.{fetched_item, look_next}
use Rattle.flash_machine.specs.Deleting.{compare_fails, without_item, delete_step}
use Rattle.flash_machine.specs.Summing.{number_in, changed_number, number_item, changed_item, number_stored, sum_created, sum_changed, sum_step}
use Rattle.flash_machine.specs.Touching.{touch_step, flushed, flush_at}
use Rattle.flash_machine.specs.Steps.{clock_next, done_next, labelled, next, cache_from, cache_of}
use Rattle.flash_machine.specs.Legal.{Meets, LegalFrom}
use Rattle.flash_machine.specs.Rising.{AreNumbered, AreApart}
use Rattle.flash_machine.proofs.Meeting.{clock_above}

-- an item that passes a test is the one that was there
passed_step : (b : Bool) (old item : Item) → cond b (Some old) None ≡ Some item → Some old ≡ Some item
passed_step true old item is = is
passed_step false old item is = absurd (cc is)

pub passed : (test : Item → Bool) (found : Option Item) (item : Item) → passing_item test found ≡ Some item → found ≡ Some item
passed test None item is = absurd (cc is)
passed test (Some old) item is = passed_step (test old) old item is

-- the item that a store stores has the next CAS number
pub stored_cas : (c : Cache) (put : Put) (mode : Mode) (live : Option Item) → (stored_item c put mode live).cas ≡ c.last_cas + 1
stored_cas c put Append (Some item) = refl
stored_cas c put Prepend (Some item) = refl
stored_cas c put _ _ = refl

-- the moment rises with the clock, and no other step changes it
rises_to : (c : Cache) (moment : ℕ) → c.now ≤ moment → c.now ≤ (clock_next c moment).now
rises_to c moment rises = cond_both (is_reached c.pending_flush moment) _ _ (λ (d : Cache). c.now ≤ d.now) (λ _. rises) (λ _. rises)

stored_moment : (r : Option Stored) (c : Cache) (key : List ℕ) (item : Item) → c.now ≤ (store_outcome r c key item).1.now
stored_moment None c key item = omega arith
stored_moment (Some refusal) c key item = omega arith

number_moment : (answer : Summed → Sum) (c : Cache) (key : List ℕ) (item : Item) (number : ℕ) → c.now ≤ (number_stored answer c key item number).1.now
number_moment answer c key item number =
    cond_both (nat_le last_number c.last_cas) _ _ (λ (step : Sum × Cache). c.now ≤ step.1.now) (λ _. omega arith) (λ _. omega arith)

sum_moment : (c : Cache) (ask : Arith) (live : Option Item) → c.now ≤ (sum_step c ask live).1.now
sum_moment c ask None = created ask.create
  where
    created : (create : Option Create) → c.now ≤ (sum_created c ask.key create).1.now
    created None = omega arith
    created (Some create) = number_moment sums.Created c ask.key (number_item c 0 (deadline create.exptime c.now) create.start) create.start
sum_moment c ask (Some item) =
    cond_both (compare_fails ask.compare item.cas) _ _ (λ (step : Sum × Cache). c.now ≤ step.1.now) (λ _. omega arith) (λ _. changed (number_in item))
  where
    changed : (number : Option ℕ) → c.now ≤ (sum_changed c ask item number).1.now
    changed None = omega arith
    changed (Some number) =
        let after = changed_number ask.down ask.delta number in number_moment sums.Now c ask.key (changed_item c ask item after) after

delete_moment : (c : Cache) (key : List ℕ) (compare : Option ℕ) (live : Option Item) → c.now ≤ (delete_step c key compare live).1.now
delete_moment c key compare None = omega arith
delete_moment c key compare (Some item) =
    cond_both (compare_fails compare item.cas) _ _ (λ (step : Gone × Cache). c.now ≤ step.1.now) (λ _. omega arith) (λ _. omega arith)

touch_moment : (c : Cache) (key : List ℕ) (exptime : ℤ) (live : Option Item) → c.now ≤ (touch_step c key exptime live).1.now
touch_moment c key exptime None = omega arith
touch_moment c key exptime (Some item) = omega arith

flush_moment : (c : Cache) (moment : Option ℕ) → c.now ≤ (flush_at c moment).now
flush_moment c None = omega arith
flush_moment c (Some moment) = cond_both (nat_le moment c.now) _ _ (λ (d : Cache). c.now ≤ d.now) (λ _. omega arith) (λ _. omega arith)

done_moment : (g : Geometry) (h : List Entry) (c : Cache) (done : Done) → c.now ≤ (done_next g h c done).now
done_moment g h c (deeds.Store put answer) = stored_moment (refusal g c put (live_item h c put.key)) c put.key (stored_item c put put.mode (live_item h c put.key))
done_moment g h c (deeds.Delete key compare answer) = delete_moment c key compare (live_item h c key)
done_moment g h c (deeds.Sum ask answer) = sum_moment c ask (live_item h c ask.key)
done_moment g h c (deeds.Touch key exptime answer) = touch_moment c key exptime (live_item h c key)
done_moment g h c (deeds.Flush delay) = flush_moment c (deadline delay c.now)
done_moment g h c (deeds.Stats tally) = omega arith

looked_moment : (c : Cache) (key : List ℕ) (look : Look) (live : Option Item) → c.now ≤ (look_next c key look live).now
looked_moment c key look None = omega arith
looked_moment c key look (Some item) = omega arith

labelled_moment : (c : Cache) (key : List ℕ) (label : Option Label) (found : Option Item) → c.now ≤ (labelled c key label found).now
labelled_moment c key label None = omega arith
labelled_moment c key label (Some item) = omega arith

next_moment : (g : Geometry) (h : List Entry) (c : Cache) (e : Entry) → Meets g h c e → c.now ≤ (next g h c e).now
next_moment g h c (entries.Clock moment) meets = rises_to c moment (omega (arith, clock_above c moment meets.0))
next_moment g h c (entries.Did id done) meets = done_moment g h c done
next_moment g h c (entries.Looked id key look residence) meets = looked_moment c key look (live_item h c key)
next_moment g h c (entries.Moved key cas label) meets = labelled_moment c key (Some label) (map.get c.items key)
next_moment g h c (entries.Recached key cas) meets = labelled_moment c key None (map.get c.items key)
next_moment g h c _ meets = omega arith

pub moment_from : (g : Geometry) (h : List Entry) (c : Cache) (es : List Entry) → LegalFrom g h c es → c.now ≤ (cache_from g h c es).now
moment_from g h c [] legal = omega arith
moment_from g h c (e ∷ es) legal =
    omega (arith, next_moment g h c e legal.0, moment_from g (h ++ e ∷ []) (next g h c e) es legal.1)

-- each item and the flush mark have numbers up to the last one, and no two items have one
pub record HasNumbers (c : Cache) : Type 0 where
  pub mark : c.flush_mark ≤ c.last_cas
  pub items : AreNumbered c.last_cas c.items
  pub own : AreApart c.items

-- what a step makes of the last number and of those of the items
record GoesUp (c after : Cache) : Type 0 where
  rises : c.last_cas ≤ after.last_cas
  numbers : HasNumbers c → HasNumbers after

stays : (c : Cache) → GoesUp c c
stays c = record { rises = omega arith; numbers = λ was. was }

-- the items with one put in
inserted_step : (last : ℕ) (new item : Item) (b : Bool) (found : Option Item) → (1 ≤ new.cas) × (new.cas ≤ last) → (found ≡ Some item → (1 ≤ item.cas) × (item.cas ≤ last))
    → cond b (Some new) found ≡ Some item → (1 ≤ item.cas) × (item.cas ≤ last)
inserted_step last new item true found numbered rest is = let same : new ≡ item = cc in subst (λ (i : Item). (1 ≤ i.cas) × (i.cas ≤ last)) same numbered
inserted_step last new item false found numbered rest is = rest is

numbered_insert : (last : ℕ) (items : Items) (key : List ℕ) (new : Item) → (1 ≤ new.cas) × (new.cas ≤ last) → AreNumbered last items → AreNumbered last (map.insert items key new)
numbered_insert last items key new numbered was q item is =
    inserted_step last new item (eq_by_cmp (slice_cmp nat_cmp) q key) (map.get items q) numbered (was q item) (sym (map.get-insert nat_list_cmp_total items key new q) ∙ is)

removed_step : (last : ℕ) (item : Item) (b : Bool) (found : Option Item) → (found ≡ Some item → (1 ≤ item.cas) × (item.cas ≤ last)) → cond b None found ≡ Some item → (1 ≤ item.cas) × (item.cas ≤ last)
removed_step last item true found rest is = absurd (cc is)
removed_step last item false found rest is = rest is

numbered_remove : (last : ℕ) (items : Items) (key : List ℕ) → AreNumbered last items → AreNumbered last (map.remove items key)
numbered_remove last items key was q item is =
    removed_step last item (eq_by_cmp (slice_cmp nat_cmp) q key) (map.get items q) (was q item) (sym (map.get-remove nat_list_cmp_total items key q) ∙ is)

numbered_more : (last more : ℕ) (items : Items) → last ≤ more → AreNumbered last items → AreNumbered more items
numbered_more last more items rises was q item is = let one = was q item is in (one.0, omega (arith, one.1, rises))

-- the number of a new item under a key is no other key's
abbrev IsOwn : Items → List ℕ → Item → Type 0
IsOwn items key new = (other : List ℕ) (another : Item) → map.get items other ≡ Some another → another.cas ≡ new.cas → key ≡ other

same_key : (a b : List ℕ) → eq_by_cmp (slice_cmp nat_cmp) a b ≡ true → a ≡ b
same_key a b same = (bytes_eq-Decides a b).0 (sym (is_eq-slice_cmp a b) ∙ same)

module _ (items : Items) (key : List ℕ) (new : Item) (is_own : IsOwn items key new) (was : AreApart items) (q r : List ℕ) (item another : Item) where
  own_step : (a b : Bool) → eq_by_cmp (slice_cmp nat_cmp) q key ≡ a → eq_by_cmp (slice_cmp nat_cmp) r key ≡ b
      → cond a (Some new) (map.get items q) ≡ Some item → cond b (Some new) (map.get items r) ≡ Some another → item.cas ≡ another.cas → q ≡ r
  own_step true true qk rk is other same = same_key q key qk ∙ sym (same_key r key rk)
  own_step true false qk rk is other same =
      let one : new ≡ item = cc is in same_key q key qk ∙ is_own r another other (sym same ∙ ap (λ (i : Item). i.cas) (sym one))
  own_step false true qk rk is other same =
      let one : new ≡ another = cc other in sym (is_own q item is (same ∙ ap (λ (i : Item). i.cas) (sym one))) ∙ sym (same_key r key rk)
  own_step false false qk rk is other same = was q r item another is other same

module _ (items : Items) (was : AreApart items) (q r : List ℕ) (item another : Item) where
  removed_own : (a b : Bool) → cond a None (map.get items q) ≡ Some item → cond b None (map.get items r) ≡ Some another → item.cas ≡ another.cas → q ≡ r
  removed_own true b is other same = absurd (cc is)
  removed_own false true is other same = absurd (cc other)
  removed_own false false is other same = was q r item another is other same

own_insert : (items : Items) (key : List ℕ) (new : Item) → IsOwn items key new → AreApart items → AreApart (map.insert items key new)
own_insert items key new is_own was q r item another is other same =
    own_step items key new is_own was q r item another (eq_by_cmp (slice_cmp nat_cmp) q key) (eq_by_cmp (slice_cmp nat_cmp) r key) refl refl
    (sym (map.get-insert nat_list_cmp_total items key new q) ∙ is) (sym (map.get-insert nat_list_cmp_total items key new r) ∙ other) same

own_remove : (items : Items) (key : List ℕ) → AreApart items → AreApart (map.remove items key)
own_remove items key was q r item another is other same =
    removed_own items was q r item another (eq_by_cmp (slice_cmp nat_cmp) q key) (eq_by_cmp (slice_cmp nat_cmp) r key)
    (sym (map.get-remove nat_list_cmp_total items key q) ∙ is) (sym (map.get-remove nat_list_cmp_total items key r) ∙ other) same

-- a number above the last one is new
new_own : (last : ℕ) (items : Items) (key : List ℕ) (new : Item) → last < new.cas → AreNumbered last items → IsOwn items key new
new_own last items key new above was other another is same = absurd (omega (arith, above, (was other another is).1, same))

-- a flush at this moment, and one that waits
flushed_up : (c : Cache) → GoesUp c (flushed c)
flushed_up c = record { rises = omega arith; numbers = λ was. record { mark = omega arith; items = was.items; own = was.own } }

pending_up : (c : Cache) (moment : ℕ) → GoesUp c (record c { pending_flush = Some moment })
pending_up c moment = record { rises = omega arith; numbers = λ was. record { mark = was.mark; items = was.items; own = was.own } }

clock_up : (c : Cache) (moment : ℕ) → GoesUp c (clock_next c moment)
clock_up c moment =
    cond_both (is_reached c.pending_flush moment) _ _ (GoesUp c) (λ _. record { rises = omega arith; numbers = λ was. record { mark = omega arith; items = was.items; own = was.own } })
    (λ _. record { rises = omega arith; numbers = λ was. record { mark = was.mark; items = was.items; own = was.own } })

-- a new item under the next number
new_up : (c : Cache) (key : List ℕ) (item : Item) → item.cas ≡ c.last_cas + 1 → GoesUp c (with_stored c key item)
new_up c key item number = record {
  rises = omega arith;
  numbers = λ was. record {
    mark = omega (arith, was.mark);
    items = numbered_insert (c.last_cas + 1) c.items key item (omega (arith, number), omega (arith, number)) (numbered_more c.last_cas (c.last_cas + 1) c.items (omega arith) was.items);
    own = own_insert c.items key item (new_own c.last_cas c.items key item (omega (arith, number)) was.items) was.own;
  };
}

-- another item of the same number in the place of the one under the key
changed_up : (c : Cache) (key : List ℕ) (item changed : Item) → map.get c.items key ≡ Some item → changed.cas ≡ item.cas → GoesUp c (record c { items = map.insert c.items key changed })
changed_up c key item changed there same = record {
  rises = omega arith;
  numbers = λ was. record {
    mark = was.mark;
    items = numbered_insert c.last_cas c.items key changed (subst (λ (n : ℕ). (1 ≤ n) × (n ≤ c.last_cas)) (sym same) (was.items key item there)) was.items;
    own = own_insert c.items key changed (λ other another is equal. was.own key other item another there is (sym (equal ∙ same))) was.own;
  };
}

without_up : (c : Cache) (key : List ℕ) → GoesUp c (without_item c key)
without_up c key = record {
  rises = omega arith;
  numbers = λ was. record { mark = was.mark; items = numbered_remove c.last_cas c.items key was.items; own = own_remove c.items key was.own };
}

stored_up : (r : Option Stored) (c : Cache) (key : List ℕ) (item : Item) → item.cas ≡ c.last_cas + 1 → GoesUp c (store_outcome r c key item).1
stored_up (Some refusal) c key item number = stays c
stored_up None c key item number = new_up c key item number

number_up : (answer : Summed → Sum) (c : Cache) (key : List ℕ) (item : Item) (number : ℕ) → item.cas ≡ c.last_cas + 1 → GoesUp c (number_stored answer c key item number).1
number_up answer c key item number next =
    cond_both (nat_le last_number c.last_cas) _ _ (λ (step : Sum × Cache). GoesUp c step.1) (λ _. stays c) (λ _. new_up c key item next)

sum_up : (c : Cache) (ask : Arith) (live : Option Item) → GoesUp c (sum_step c ask live).1
sum_up c ask None = created ask.create
  where
    created : (create : Option Create) → GoesUp c (sum_created c ask.key create).1
    created None = stays c
    created (Some create) = number_up sums.Created c ask.key (number_item c 0 (deadline create.exptime c.now) create.start) create.start refl
sum_up c ask (Some item) =
    cond_both (compare_fails ask.compare item.cas) _ _ (λ (step : Sum × Cache). GoesUp c step.1) (λ _. stays c) (λ _. changed (number_in item))
  where
    changed : (number : Option ℕ) → GoesUp c (sum_changed c ask item number).1
    changed None = stays c
    changed (Some number) =
        let after = changed_number ask.down ask.delta number in number_up sums.Now c ask.key (changed_item c ask item after) after refl

delete_up : (c : Cache) (key : List ℕ) (compare : Option ℕ) (live : Option Item) → GoesUp c (delete_step c key compare live).1
delete_up c key compare None = stays c
delete_up c key compare (Some item) =
    cond_both (compare_fails compare item.cas) _ _ (λ (step : Gone × Cache). GoesUp c step.1) (λ _. stays c) (λ _. without_up c key)

flush_up : (c : Cache) (moment : Option ℕ) → GoesUp c (flush_at c moment)
flush_up c None = flushed_up c
flush_up c (Some moment) = cond_both (nat_le moment c.now) _ _ (GoesUp c) (λ _. flushed_up c) (λ _. pending_up c moment)

module _ (c : Cache) (key : List ℕ) where
  -- the live item is the one under the key
  abbrev IsUnder : Option Item → Type 0
  IsUnder live = (item : Item) → live ≡ Some item → map.get c.items key ≡ Some item

  touch_up : (exptime : ℤ) (live : Option Item) → IsUnder live → GoesUp c (touch_step c key exptime live).1
  touch_up exptime None there = stays c
  touch_up exptime (Some item) there = changed_up c key item _ (there item refl) refl

  looked_up : (look : Look) (live : Option Item) → IsUnder live → GoesUp c (look_next c key look live)
  looked_up look None there = stays c
  looked_up look (Some item) there = changed_up c key item (fetched_item c look item) (there item refl) refl

  labelled_up : (label : Option Label) (found : Option Item) → map.get c.items key ≡ found → GoesUp c (labelled c key label found)
  labelled_up label None there = stays c
  labelled_up label (Some item) there = changed_up c key item _ there refl

done_up : (g : Geometry) (h : List Entry) (c : Cache) (done : Done) → GoesUp c (done_next g h c done)
done_up g h c (deeds.Store put answer) =
    let live = live_item h c put.key in stored_up (refusal g c put live) c put.key (stored_item c put put.mode live) (stored_cas c put put.mode live)
done_up g h c (deeds.Delete key compare answer) = delete_up c key compare (live_item h c key)
done_up g h c (deeds.Sum ask answer) = sum_up c ask (live_item h c ask.key)
done_up g h c (deeds.Touch key exptime answer) = touch_up c key exptime (live_item h c key) (passed (is_live h c) (map.get c.items key))
done_up g h c (deeds.Flush delay) = flush_up c (deadline delay c.now)
done_up g h c (deeds.Stats tally) = stays c

step_up : (g : Geometry) (h : List Entry) (c : Cache) (e : Entry) → GoesUp c (next g h c e)
step_up g h c (entries.Clock moment) = clock_up c moment
step_up g h c (entries.Did id done) = done_up g h c done
step_up g h c (entries.Looked id key look residence) = looked_up c key look (live_item h c key) (passed (is_live h c) (map.get c.items key))
step_up g h c (entries.Moved key cas label) = labelled_up c key (Some label) (map.get c.items key) refl
step_up g h c (entries.Recached key cas) = labelled_up c key None (map.get c.items key) refl
step_up g h c (entries.Dropped key cause) = without_up c key
step_up g h c _ = stays c

pub last_from : (g : Geometry) (h : List Entry) (c : Cache) (es : List Entry) → c.last_cas ≤ (cache_from g h c es).last_cas
last_from g h c [] = omega arith
last_from g h c (e ∷ es) = omega (arith, (step_up g h c e).rises, last_from g (h ++ e ∷ []) (next g h c e) es)

numbers_from : (g : Geometry) (h : List Entry) (c : Cache) (es : List Entry) → HasNumbers c → HasNumbers (cache_from g h c es)
numbers_from g h c [] was = was
numbers_from g h c (e ∷ es) was = numbers_from g (h ++ e ∷ []) (next g h c e) es ((step_up g h c e).numbers was)

first_numbers : HasNumbers first_cache
first_numbers = record {
  mark = omega arith;
  items = λ key item is. absurd (cc (sym (map.get-empty (slice_cmp nat_cmp) key) ∙ is));
  own = λ key other item another is at same. absurd (cc (sym (map.get-empty (slice_cmp nat_cmp) key) ∙ is));
}

pub has_numbers : (g : Geometry) (h : List Entry) → HasNumbers (cache_of g h)
has_numbers g h = numbers_from g [] first_cache h first_numbers
