-- Answers that are the same.
use Rattle.std.specs.Prelude.{Bool, true, false, ◌&&◌, nat_eq}
use Rattle.std.specs.Ordering.{int_eq}
use Rattle.flash_names.specs.Labels.{same_label}
use Rattle.flash_entry.specs.declared.answer.Stored.{Stored}
use Rattle.flash_entry.specs.declared.answer.Stored.TheVariants as stored
use Rattle.flash_entry.specs.declared.answer.Gone.{Gone}
use Rattle.flash_entry.specs.declared.answer.Gone.TheVariants as gone
use Rattle.flash_entry.specs.declared.answer.Summed.{Summed}
use Rattle.flash_entry.specs.declared.answer.Sum.{Sum}
use Rattle.flash_entry.specs.declared.answer.Sum.TheVariants as sums
use Rattle.flash_entry.specs.declared.answer.Touched.{Touched}
use Rattle.flash_entry.specs.declared.answer.Touched.TheVariants as touched
use Rattle.flash_entry.specs.declared.answer.Tally.{Tally}
use Rattle.flash_entry.specs.declared.entry.Residence.{Residence}
use Rattle.flash_entry.specs.declared.entry.Residence.TheVariants as residence

abbrev pub same_stored : Stored → Stored → Bool
same_stored (stored.Stored one) (stored.Stored other) = nat_eq one other
same_stored stored.NotStored stored.NotStored = true
same_stored stored.Exists stored.Exists = true
same_stored stored.NotFound stored.NotFound = true
same_stored stored.TooLarge stored.TooLarge = true
same_stored stored.NoNumber stored.NoNumber = true
same_stored _ _ = false

abbrev pub same_gone : Gone → Gone → Bool
same_gone gone.Deleted gone.Deleted = true
same_gone gone.NotFound gone.NotFound = true
same_gone gone.Exists gone.Exists = true
same_gone _ _ = false

abbrev pub same_summed : Summed → Summed → Bool
same_summed one other =
    nat_eq one.number other.number && nat_eq one.cas other.cas && int_eq one.left other.left

abbrev pub same_sum : Sum → Sum → Bool
same_sum (sums.Now one) (sums.Now other) = same_summed one other
same_sum (sums.Created one) (sums.Created other) = same_summed one other
same_sum sums.NotFound sums.NotFound = true
same_sum sums.NonNumeric sums.NonNumeric = true
same_sum sums.Exists sums.Exists = true
same_sum sums.NoNumber sums.NoNumber = true
same_sum _ _ = false

abbrev pub same_touched : Touched → Touched → Bool
same_touched touched.Touched touched.Touched = true
same_touched touched.NotFound touched.NotFound = true
same_touched _ _ = false

abbrev pub same_tally : Tally → Tally → Bool
same_tally one other =
    nat_eq one.items other.items && nat_eq one.load other.load && nat_eq one.last_cas other.last_cas
    && nat_eq one.now other.now && nat_eq one.free_pages other.free_pages

abbrev pub same_residence : Residence → Residence → Bool
same_residence residence.Nothing residence.Nothing = true
same_residence (residence.Here one) (residence.Here other) = nat_eq one other
same_residence (residence.Away one label) (residence.Away other another) = nat_eq one other && same_label label another
same_residence _ _ = false
