-- The read of a step, from its begin on.
use Rattle.std.proofs.Common.{◌≡◌, ℕ, Bool, true, false, cond, List, [], ◌∷◌, ◌++◌, length, Option, None, Some, refl, sym, ◌∙◌, ap, subst, append_assoc}
use Rattle.std.specs.Prelude.{is_none}
use Rattle.std.specs.Option.{option_map}
use Rattle.std.specs.List.{AllByRecursion}
use Rattle.std.proofs.lemmas.Bool.{false≢true}
use Rattle.flash_names.specs.declared.place.Id.{Id}
use Rattle.flash_names.specs.declared.place.Place.{Place}
use Rattle.flash_names.specs.declared.geometry.Geometry.{Geometry}
use Rattle.flash_entry.specs.declared.entry.Entry.{Entry}
use Rattle.flash_entry.specs.declared.entry.Entry.TheVariants as entries
use Rattle.flash_machine.specs.Lookups.{same_id}
use Rattle.flash_machine.specs.DeviceReads.{DeviceRead, with_outcome, read_step, read_of}
use Rattle.flash_machine.specs.Written.{IsWritten}
use Rattle.flash_machine.specs.Honest.{Honest}
use Rattle.flash_machine.specs.HonestLaws.{BeginsNoWriteOver, read_journal}
use Rattle.flash_machine.specs.Orderly.{IsOrderly, OrderlyFrom, Orderly}
use Rattle.flash_machine.specs.Splits.{journal_of_two}
use Rattle.flash_machine.proofs.Same.{id_itself, equal_ids}
use Rattle.flash_machine.proofs.EntrySteps.{read_off-one}
use Rattle.flash_machine.proofs.HonestReads.{each_read_agrees, read_is_written}
use Rattle.flash_machine.proofs.RuleMeanings.{may_read, may_end_read}
use Rattle.flash_machine.proofs.Onward.{EachFrom-keeps, EachFrom-split}

-- the step has a read, which is so
abbrev pub ReadIs : (DeviceRead → Type 0) → Option DeviceRead → Type 0
ReadIs Is None = ⊥
ReadIs Is (Some read) = Is read

-- what holds of a read however it ends, holds of the read of a step from then on
module _ (id : Id) (Is : DeviceRead → Type 0) (kept : (outcome : Option (List ℕ)) (read : DeviceRead) → Is read → Is (with_outcome outcome read)) where
  ended_is : (b : Bool) (outcome : Option (List ℕ)) (found : Option DeviceRead) → ReadIs Is found → ReadIs Is (cond b (option_map (with_outcome outcome) found) found)
  ended_is true outcome (Some read) is = kept outcome read is
  ended_is true outcome None is = is
  ended_is false outcome found is = is

  module _ (g : Geometry) where
    -- no other read of the step begins
    began_is : (h : List Entry) (other : Id) (at : Place) (b : Bool) → same_id other id ≡ b → read_of other h ≡ None → ReadIs Is (read_of id h)
        → ReadIs Is (cond b (Some (record { place = at; outcome = None })) (read_of id h))
    began_is h other at false same none is = is
    began_is h other at true same none is = absurd (subst (ReadIs Is) (ap (λ (i : Id). read_of i h) (sym (equal_ids other id same)) ∙ none) is)

    step_is : (h : List Entry) (e : Entry) → IsOrderly g h e → ReadIs Is (read_of id h) → ReadIs Is (read_step id (read_of id h) e)
    step_is h (entries.ReadBegan other at reader) orderly is = began_is h other at (same_id other id) refl (may_read h other at orderly).first is
    step_is h (entries.ReadEnded other outcome) orderly is = ended_is (same_id other id) outcome (read_of id h) is
    step_is h _ orderly is = is

    one_is : (h : List Entry) (e : Entry) → IsOrderly g h e → ReadIs Is (read_of id h) → ReadIs Is (read_of id (h ++ e ∷ []))
    one_is h e orderly is = subst (ReadIs Is) (sym (read_off-one (read_step id) None h e)) (step_is h e orderly is)

    pub read_since : (before since : List Entry) (e : Entry) → OrderlyFrom g before (e ∷ since) → ReadIs Is (read_step id (read_of id before) e) → ReadIs Is (read_of id (before ++ e ∷ since))
    read_since before since e orderly is =
        subst (λ (j : List Entry). ReadIs Is (read_of id j)) (append_assoc before (e ∷ []) since)
        (EachFrom-keeps (IsOrderly g) (λ (j : List Entry). ReadIs Is (read_of id j)) one_is (before ++ e ∷ []) since orderly.1
        (subst (ReadIs Is) (sym (read_off-one (read_step id) None before e)) is))

module _ (g : Geometry) (id : Id) where
  -- a read that began is of its place
  abbrev IsAt : Place → DeviceRead → Type 0
  IsAt place read = read.place ≡ place

  at_kept : (place : Place) (outcome : Option (List ℕ)) (read : DeviceRead) → IsAt place read → IsAt place (with_outcome outcome read)
  at_kept place outcome read is = is

  abbrev pub ReadsPlace : Place → Option DeviceRead → Type 0
  ReadsPlace place found = ReadIs (IsAt place) found

  pub reads_since : (before since : List Entry) (place : Place) (reader : ℕ) → Orderly g (before ++ entries.ReadBegan id place reader ∷ since)
      → ReadsPlace place (read_of id (before ++ entries.ReadBegan id place reader ∷ since))
  reads_since before since place reader orderly =
      read_since id (IsAt place) (at_kept place) g before since (entries.ReadBegan id place reader) (EachFrom-split (IsOrderly g) before (entries.ReadBegan id place reader ∷ since) orderly).1
      (subst (λ (b : Bool). ReadsPlace place (cond b (Some (record { place = place; outcome = None })) (read_of id before))) (sym (id_itself id)) refl)

  -- a read that ended has an outcome
  abbrev HasOutcome : DeviceRead → Type 0
  HasOutcome read = is_none read.outcome ≡ false

  outcome_kept : (outcome : Option (List ℕ)) (read : DeviceRead) → HasOutcome read → HasOutcome (with_outcome outcome read)
  outcome_kept outcome read is = refl

  abbrev pub HasEnded : Option DeviceRead → Type 0
  HasEnded found = ReadIs HasOutcome found

  just_ended : (outcome : Option (List ℕ)) (place : Place) (found : Option DeviceRead) → found ≡ Some (record { place = place; outcome = None }) → HasEnded (option_map (with_outcome outcome) found)
  just_ended outcome place found is = subst (λ (read : Option DeviceRead). HasEnded (option_map (with_outcome outcome) read)) (sym is) refl

  pub ended_since : (before since : List Entry) (outcome : Option (List ℕ)) → Orderly g (before ++ entries.ReadEnded id outcome ∷ since)
      → HasEnded (read_of id (before ++ entries.ReadEnded id outcome ∷ since))
  ended_since before since outcome orderly =
      let parts = EachFrom-split (IsOrderly g) before (entries.ReadEnded id outcome ∷ since) orderly in
      let may = may_end_read before id outcome parts.1.0 in
      read_since id HasOutcome outcome_kept g before since (entries.ReadEnded id outcome) parts.1
      (subst (λ (b : Bool). HasEnded (cond b (option_map (with_outcome outcome) (read_of id before)) (read_of id before))) (sym (id_itself id)) (just_ended outcome may.0 (read_of id before) may.1))

  pub begins_once : (before between after : List Entry) (first second : Place) (reader other : ℕ)
      → Orderly g (journal_of_two before (entries.ReadBegan id first reader) between (entries.ReadBegan id second other) after) → ⊥
  begins_once before between after first second reader other orderly =
      let h = before ++ entries.ReadBegan id first reader ∷ between in
      let parts = EachFrom-split (IsOrderly g) h (entries.ReadBegan id second other ∷ after) orderly in
      subst (ReadsPlace first) (may_read h id second parts.1.0).first (reads_since before between first reader parts.0)

  pub ends_once : (before between after : List Entry) (first second : Option (List ℕ))
      → Orderly g (journal_of_two before (entries.ReadEnded id first) between (entries.ReadEnded id second) after) → ⊥
  ends_once before between after first second orderly =
      let h = before ++ entries.ReadEnded id first ∷ between in
      let parts = EachFrom-split (IsOrderly g) h (entries.ReadEnded id second ∷ after) orderly in
      let none : true ≡ false = subst HasEnded (may_end_read h id second parts.1.0).1 (ended_since before between first parts.0) in
      absurd (false≢true (sym none))

  -- a good end of a read has as many bytes as its place
  pub read_length : (before since after : List Entry) (place : Place) (reader : ℕ) (bytes : List ℕ)
      → Orderly g (journal_of_two before (entries.ReadBegan id place reader) since (entries.ReadEnded id (Some bytes)) after) → length bytes ≡ place.length
  read_length before since after place reader bytes orderly =
      let h = before ++ entries.ReadBegan id place reader ∷ since in
      let parts = EachFrom-split (IsOrderly g) h (entries.ReadEnded id (Some bytes) ∷ after) orderly in
      let may = may_end_read h id (Some bytes) parts.1.0 in
      let same : may.0 ≡ place = subst (ReadsPlace place) may.1 (reads_since before since place reader parts.0) in
      may.2 ∙ ap (λ (p : Place). p.length) same

-- a read of an orderly and honest journal gives what was written
pub read_gives_written : (g : Geometry) (before since after : List Entry) (id : Id) (place : Place) (reader : ℕ) (was bytes : List ℕ)
    → Orderly g (read_journal before id place reader since bytes after) → Honest (read_journal before id place reader since bytes after)
    → IsWritten before place was → AllByRecursion (BeginsNoWriteOver place) since → bytes ≡ was
read_gives_written g before since after id place reader was bytes orderly honest is apart =
    let agrees = each_read_agrees (read_journal before id place reader since bytes after) honest (before ++ entries.ReadBegan id place reader ∷ since) after id bytes refl in
    read_is_written before since id place reader was bytes agrees (read_length g id before since after place reader bytes orderly) is apart
