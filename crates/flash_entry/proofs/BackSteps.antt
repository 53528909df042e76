-- A command's step and its answer are read back.
use Rattle.std.proofs.Common.{ℕ, ℤ, List, Option, None, Some, IfSome, codes, refl}
use Rattle.flash_entry.specs.declared.ask.Put.{Put}
use Rattle.flash_entry.specs.declared.ask.Create.{Create}
use Rattle.flash_entry.specs.declared.ask.Arith.{Arith}
use Rattle.flash_entry.specs.declared.answer.Stored.{Stored}
use Rattle.flash_entry.specs.declared.answer.Stored.TheVariants as stores
use Rattle.flash_entry.specs.declared.answer.Gone.{Gone}
use Rattle.flash_entry.specs.declared.answer.Summed.{Summed}
use Rattle.flash_entry.specs.declared.answer.Sum.{Sum}
use Rattle.flash_entry.specs.declared.answer.Sum.TheVariants as sums
use Rattle.flash_entry.specs.declared.answer.Touched.{Touched}
use Rattle.flash_entry.specs.declared.answer.Tally.{Tally}
use Rattle.flash_entry.specs.declared.entry.Done.{Done}
use Rattle.flash_entry.specs.declared.entry.Done.TheVariants as deeds
use Rattle.flash_entry.specs.declared.kinds.Verb.TheVariants as verbs
use Rattle.flash_entry.specs.EntryText.{stored_text, summed_text, sum_text, create_text, done_text}
use Rattle.flash_entry.specs.FixedWords as fixed
use Rattle.flash_entry.specs.EntryReading.{stored, stored_of, summed, sum, sum_of, create_of, create_if, store, delete, arithmetic, touch, flush, stats, step_of, step}
use Rattle.flash_entry.specs.IsEntry.{IsNumber, IsSigned, IsKey, IsPut, IsCreate, IsArith, IsStored, IsSummed, IsSum, IsTally, IsDone}
use Rattle.flash_entry.proofs.FixedLemmas.{no_space}
use Rattle.flash_entry.proofs.Back.{ReadsBack, also, nothing, in_order, next_word-back}
use Rattle.flash_entry.proofs.BackFields.{number-back, narrow-back, signed-back, number_if-back, signed_if-back, key-back, value-back, verb-back, equality-back, dash-back, done-back, gone-back, touched-back}

stored-back : (answer : Stored) → IsStored answer → ReadsBack stored (stored_text answer) answer
unfolding stored stored_of fixed.refusal
stored-back (stores.Stored cas) is =
    in_order (also _ (next_word-back (codes "stored") (no_space (codes "stored") refl)) (also _ (number-back cas is) nothing))
stored-back stores.NotStored is =
    in_order (also _ (next_word-back (codes "not-stored") (no_space (codes "not-stored") refl)) nothing)
stored-back stores.Exists is =
    in_order (also _ (next_word-back (codes "exists") (no_space (codes "exists") refl)) nothing)
stored-back stores.NotFound is =
    in_order (also _ (next_word-back (codes "not-found") (no_space (codes "not-found") refl)) nothing)
stored-back stores.TooLarge is =
    in_order (also _ (next_word-back (codes "too-large") (no_space (codes "too-large") refl)) nothing)
stored-back stores.NoNumber is =
    in_order (also _ (next_word-back (codes "no-number") (no_space (codes "no-number") refl)) nothing)

summed-back : (summed_up : Summed) → IsSummed summed_up → ReadsBack summed (summed_text summed_up) summed_up
unfolding summed
summed-back summed_up is =
    in_order
    (also _ (number-back summed_up.number is.number)
    (also _ (number-back summed_up.cas is.cas)
    (also _ (signed-back summed_up.left is.left) nothing)))

sum-back : (answer : Sum) → IsSum answer → ReadsBack sum (sum_text answer) answer
unfolding sum sum_of fixed.sum_refusal
sum-back (sums.Now summed) is =
    in_order (also _ (next_word-back (codes "now") (no_space (codes "now") refl)) (also _ (summed-back summed is) nothing))
sum-back (sums.Created summed) is =
    in_order (also _ (next_word-back (codes "created") (no_space (codes "created") refl)) (also _ (summed-back summed is) nothing))
sum-back sums.NotFound is =
    in_order (also _ (next_word-back (codes "not-found") (no_space (codes "not-found") refl)) nothing)
sum-back sums.NonNumeric is =
    in_order (also _ (next_word-back (codes "non-numeric") (no_space (codes "non-numeric") refl)) nothing)
sum-back sums.Exists is =
    in_order (also _ (next_word-back (codes "exists") (no_space (codes "exists") refl)) nothing)
sum-back sums.NoNumber is =
    in_order (also _ (next_word-back (codes "no-number") (no_space (codes "no-number") refl)) nothing)

create-back : (create : Option Create) → IfSome create IsCreate → ReadsBack create_if (create_text create) create
unfolding create_if create_of
create-back None is = in_order (also _ (signed_if-back None tt) (also _ dash-back nothing))
create-back (Some create) is =
    in_order (also _ (signed_if-back (Some create.exptime) is.exptime) (also _ (number-back create.start is.start) nothing))

store-back : (put : Put) (answer : Stored) → IsPut put → IsStored answer
    → ReadsBack step (done_text (deeds.Store put answer)) (deeds.Store put answer)
unfolding step step_of store
store-back put answer is is_answer =
    in_order
    (also _ (verb-back (verbs.Store put.mode))
    (also _ (key-back put.key is.key)
    (also _ (narrow-back put.flags is.flags)
    (also _ (signed-back put.exptime is.exptime)
    (also _ (number_if-back put.compare is.compare)
    (also _ (value-back put.value is.value)
    (also _ equality-back
    (also _ (stored-back answer is_answer) nothing))))))))

delete-back : (key : List ℕ) (compare : Option ℕ) (answer : Gone) → IsKey key → IfSome compare IsNumber
    → ReadsBack step (done_text (deeds.Delete key compare answer)) (deeds.Delete key compare answer)
unfolding step step_of delete
delete-back key compare answer is_key is_compare =
    in_order
    (also _ (verb-back verbs.Delete)
    (also _ (key-back key is_key)
    (also _ (number_if-back compare is_compare)
    (also _ equality-back
    (also _ (gone-back answer) nothing)))))

arithmetic-back : (ask : Arith) (answer : Sum) → IsArith ask → IsSum answer
    → ReadsBack step (done_text (deeds.Sum ask answer)) (deeds.Sum ask answer)
unfolding step step_of arithmetic
arithmetic-back ask answer is is_answer =
    in_order
    (also _ (verb-back (verbs.Sum ask.down))
    (also _ (key-back ask.key is.key)
    (also _ (number-back ask.delta is.delta)
    (also _ (number_if-back ask.compare is.compare)
    (also _ (signed_if-back ask.renew is.renew)
    (also _ (create-back ask.create is.create)
    (also _ equality-back
    (also _ (sum-back answer is_answer) nothing))))))))

touch-back : (key : List ℕ) (exptime : ℤ) (answer : Touched) → IsKey key → IsSigned exptime
    → ReadsBack step (done_text (deeds.Touch key exptime answer)) (deeds.Touch key exptime answer)
unfolding step step_of touch
touch-back key exptime answer is_key is_exptime =
    in_order
    (also _ (verb-back verbs.Touch)
    (also _ (key-back key is_key)
    (also _ (signed-back exptime is_exptime)
    (also _ equality-back
    (also _ (touched-back answer) nothing)))))

flush-back : (delay : ℤ) → IsSigned delay → ReadsBack step (done_text (deeds.Flush delay)) (deeds.Flush delay)
unfolding step step_of flush
flush-back delay is =
    in_order
    (also _ (verb-back verbs.Flush)
    (also _ (signed-back delay is)
    (also _ equality-back
    (also _ done-back nothing))))

stats-back : (tally : Tally) → IsTally tally → ReadsBack step (done_text (deeds.Stats tally)) (deeds.Stats tally)
unfolding step step_of stats
stats-back tally is =
    in_order
    (also _ (verb-back verbs.Stats)
    (also _ equality-back
    (also _ (number-back tally.items is.items)
    (also _ (number-back tally.load is.load)
    (also _ (number-back tally.last_cas is.last_cas)
    (also _ (number-back tally.now is.now)
    (also _ (number-back tally.free_pages is.free_pages) nothing)))))))

pub step-back : (done : Done) → IsDone done → ReadsBack step (done_text done) done
step-back (deeds.Store put answer) is = store-back put answer is.0 is.1
step-back (deeds.Delete key compare answer) is = delete-back key compare answer is.0 is.1
step-back (deeds.Sum ask answer) is = arithmetic-back ask answer is.0 is.1
step-back (deeds.Touch key exptime answer) is = touch-back key exptime answer is.0 is.1
step-back (deeds.Flush delay) is = flush-back delay is
step-back (deeds.Stats tally) is = stats-back tally is
