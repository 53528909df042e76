-- The step of a command that deletes a key's item.
use Rattle.std.specs.Prelude.{ℕ, Bool, false, not, nat_eq, List, Option, None, Some, if◌then◌else◌}
use Rattle.std.specs.FinMap as map
use Rattle.flash_entry.specs.declared.answer.Gone.{Gone}
use Rattle.flash_entry.specs.declared.answer.Gone.TheVariants as answers
use Rattle.flash_machine.specs.Item.{Item}
use Rattle.flash_machine.specs.Cache.{Cache}

-- whether an item's CAS number isn't the one that was given, where one was
abbrev pub compare_fails : Option ℕ → ℕ → Bool
compare_fails None cas = false
compare_fails (Some compare) cas = not (nat_eq cas compare)

-- the cache without the item under the key
abbrev pub without_item : Cache → List ℕ → Cache
without_item c key = record c { items = map.remove c.items key }

-- the answer and the next cache, by the live item under the key
abbrev pub delete_step : Cache → List ℕ → Option ℕ → Option Item → Gone × Cache
delete_step c key compare None = (answers.NotFound, c)
delete_step c key compare (Some item) =
    if compare_fails compare item.cas then (answers.Exists, c) else (answers.Deleted, without_item c key)
