-- What each entry makes of the cache.
use Rattle.std.specs.Prelude.{ℕ, List, [], ◌∷◌, ◌++◌, Option, None, Some, if◌then◌else◌}
use Rattle.std.specs.FinMap as map
use Rattle.flash_names.specs.declared.geometry.Geometry.{Geometry}
use Rattle.flash_names.specs.declared.place.Label.{Label}
use Rattle.flash_entry.specs.declared.entry.Done.{Done}
use Rattle.flash_entry.specs.declared.entry.Done.TheVariants as deeds
use Rattle.flash_entry.specs.declared.entry.Entry.{Entry}
use Rattle.flash_entry.specs.declared.entry.Entry.TheVariants as entries
use Rattle.flash_machine.specs.Moments.{is_reached}
use Rattle.flash_machine.specs.Item.{Item}
use Rattle.flash_machine.specs.Cache.{Cache, first_cache}
use Rattle.flash_machine.specs.Live.{live_item}
use Rattle.flash_machine.specs.Storing.{store_step}
use Rattle.flash_machine.specs.Looking.{look_next}
use Rattle.flash_machine.specs.Deleting.{delete_step, without_item}
use Rattle.flash_machine.specs.Summing.{sum_step}
use Rattle.flash_machine.specs.Touching.{touch_step, flush_next}

-- the cache at a new moment: a pending flush that is reached takes effect
abbrev pub clock_next : Cache → ℕ → Cache
clock_next c moment =
    if is_reached c.pending_flush moment then record c { now = moment; flush_mark = c.last_cas; pending_flush = None }
    else record c { now = moment }

-- the cache after a command's step
abbrev pub done_next : Geometry → List Entry → Cache → Done → Cache
done_next g journal c (deeds.Store put answer) = (store_step g c put (live_item journal c put.key)).1
done_next g journal c (deeds.Delete key compare answer) = (delete_step c key compare (live_item journal c key)).1
done_next g journal c (deeds.Sum ask answer) = (sum_step c ask (live_item journal c ask.key)).1
done_next g journal c (deeds.Touch key exptime answer) = (touch_step c key exptime (live_item journal c key)).1
done_next g journal c (deeds.Flush delay) = flush_next c delay
done_next g journal c (deeds.Stats tally) = c

-- the cache where the item under the key, if there is one, has this label, or none
abbrev pub labelled : Cache → List ℕ → Option Label → Option Item → Cache
labelled c key label None = c
labelled c key label (Some item) = record c { items = map.insert c.items key (record item { label = label }) }

-- the cache after an entry, by the journal before it; reads, writes and pages leave it
abbrev pub next : Geometry → List Entry → Cache → Entry → Cache
next g journal c (entries.Clock moment) = clock_next c moment
next g journal c (entries.Did id done) = done_next g journal c done
next g journal c (entries.Looked id key look residence) = look_next c key look (live_item journal c key)
next g journal c (entries.Moved key cas label) = labelled c key (Some label) (map.get c.items key)
next g journal c (entries.Recached key cas) = labelled c key None (map.get c.items key)
next g journal c (entries.Dropped key cause) = without_item c key
next g journal c _ = c

-- the cache after more entries
abbrev pub cache_from : Geometry → List Entry → Cache → List Entry → Cache
cache_from g journal c [] = c
cache_from g journal c (e ∷ es) = cache_from g (journal ++ e ∷ []) (next g journal c e) es

-- the cache that a journal makes
abbrev pub cache_of : Geometry → List Entry → Cache
cache_of g journal = cache_from g [] first_cache journal
