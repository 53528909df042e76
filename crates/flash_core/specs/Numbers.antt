-- The numbers of a store, and the cache of its items with them.
use Rattle.flash_machine.specs.Cache.{Items, Cache}
use Rattle.flash_core.specs.declared.numbers.Numbers.{Numbers}

-- the cache of these items and numbers
abbrev pub cache_of_items : Items → Numbers → Cache
cache_of_items items numbers = record {
  items = items;
  now = numbers.moment;
  last_cas = numbers.last_cas;
  flush_mark = numbers.flush_mark;
  pending_flush = numbers.pending_flush;
}
