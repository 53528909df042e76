-- Numbers of steps, labels, places and answers that pass the test of being the same are equal, and each passes it with itself.
use Rattle.std.proofs.Common.{◌≡◌, ℕ, true, refl, ap, arith}
use Rattle.std.specs.Prelude.{nat_eq}
use Rattle.std.proofs.lemmas.Bool.{and_parts, and_from}
use Rattle.std.proofs.lemmas.Bool.Decides.{nat_tests}
use Rattle.flash_names.specs.declared.place.Id.{Id}
use Rattle.flash_names.specs.declared.place.Label.{Label}
use Rattle.flash_names.specs.declared.place.Place.{Place}
use Rattle.flash_names.specs.Labels.{same_label}
use Rattle.flash_entry.specs.declared.answer.Stored.{Stored}
use Rattle.flash_entry.specs.declared.answer.Stored.TheVariants as stored
use Rattle.flash_entry.specs.declared.entry.Residence.{Residence}
use Rattle.flash_entry.specs.declared.entry.Residence.TheVariants as residence
use Rattle.flash_machine.specs.Places.{same_place}
use Rattle.flash_machine.specs.Lookups.{same_id}
use Rattle.flash_machine.specs.Same.{same_stored, same_residence}

pub number_itself : (n : ℕ) → nat_eq n n ≡ true
number_itself n = grind (arith, nat_tests)

equal_numbers : (one other : ℕ) → nat_eq one other ≡ true → one ≡ other
equal_numbers one other same = grind (arith, nat_tests)

pub label_itself : (label : Label) → same_label label label ≡ true
label_itself label = grind (arith, nat_tests)

same_labels : (page version other last : ℕ) → page ≡ other → version ≡ last
    → ◌≡◌ {A = Label} (record { page = page; version = version }) (record { page = other; version = last })
same_labels page version other last one two = cc

pub equal_labels : (one other : Label) → same_label one other ≡ true → one ≡ other
equal_labels one other same =
    same_labels one.page one.version other.page other.version (grind (arith, nat_tests)) (grind (arith, nat_tests))

pub id_itself : (id : Id) → same_id id id ≡ true
id_itself id = grind (arith, nat_tests)

same_ranges : (label other : Label) (offset first length last : ℕ) → label ≡ other → offset ≡ first → length ≡ last
    → ◌≡◌ {A = Place} (record { label = label; offset = offset; length = length }) (record { label = other; offset = first; length = last })
same_ranges label other offset first length last one two three = cc

pub place_itself : (place : Place) → same_place place place ≡ true
place_itself place = and_from _ _ (and_from _ _ (label_itself place.label) (number_itself place.offset)) (number_itself place.length)

pub equal_places : (one other : Place) → same_place one other ≡ true → one ≡ other
equal_places one other same =
    let label : same_label one.label other.label ≡ true = (and_parts _ _ (and_parts _ _ same).0).0 in
    same_ranges one.label other.label one.offset other.offset one.length other.length (equal_labels one.label other.label label) (grind (arith, nat_tests)) (grind (arith, nat_tests))

same_ids : (pass seq other last : ℕ) → pass ≡ other → seq ≡ last
    → ◌≡◌ {A = Id} (record { pass = pass; seq = seq }) (record { pass = other; seq = last })
same_ids pass seq other last one two = cc

pub equal_ids : (one other : Id) → same_id one other ≡ true → one ≡ other
equal_ids one other same = same_ids one.pass one.seq other.pass other.seq (grind (arith, nat_tests)) (grind (arith, nat_tests))

pub equal_stored : (one other : Stored) → same_stored one other ≡ true → one ≡ other
equal_stored (stored.Stored one) (stored.Stored other) same = ap stored.Stored (equal_numbers one other same)
equal_stored stored.NotStored stored.NotStored same = refl
equal_stored stored.Exists stored.Exists same = refl
equal_stored stored.NotFound stored.NotFound same = refl
equal_stored stored.TooLarge stored.TooLarge same = refl
equal_stored stored.NoNumber stored.NoNumber same = refl
equal_stored _ _ same = absurd (cc same)

pub stored_itself : (answer : Stored) → same_stored answer answer ≡ true
stored_itself (stored.Stored cas) = number_itself cas
stored_itself stored.NotStored = refl
stored_itself stored.Exists = refl
stored_itself stored.NotFound = refl
stored_itself stored.TooLarge = refl
stored_itself stored.NoNumber = refl

pub residence_itself : (found : Residence) → same_residence found found ≡ true
residence_itself residence.Nothing = refl
residence_itself (residence.Here cas) = number_itself cas
residence_itself (residence.Away cas label) = grind (arith, nat_tests)

-- what is the same as nothing is nothing
pub equal_nothing : (found : Residence) → same_residence residence.Nothing found ≡ true → residence.Nothing ≡ found
equal_nothing residence.Nothing same = refl
equal_nothing (residence.Here cas) same = absurd (cc same)
equal_nothing (residence.Away cas label) same = absurd (cc same)
