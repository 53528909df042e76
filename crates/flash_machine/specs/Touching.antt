-- The steps of the commands that change no value: a new deadline, and a flush.
use Rattle.std.specs.Prelude.{ℕ, ℤ, List, Option, None, Some, nat_le, if◌then◌else◌}
use Rattle.std.specs.FinMap as map
use Rattle.flash_entry.specs.declared.answer.Touched.{Touched}
use Rattle.flash_entry.specs.declared.answer.Touched.TheVariants as answers
use Rattle.flash_machine.specs.Moments.{deadline}
use Rattle.flash_machine.specs.Item.{Item}
use Rattle.flash_machine.specs.Cache.{Cache}

-- the cache where the item under the key has the deadline of this exptime
abbrev pub with_deadline : Cache → List ℕ → Item → ℤ → Cache
with_deadline c key item exptime =
    record c { items = map.insert c.items key (record item { deadline = deadline exptime c.now }) }

-- the answer and the next cache, by the live item under the key
abbrev pub touch_step : Cache → List ℕ → ℤ → Option Item → Touched × Cache
touch_step c key exptime None = (answers.NotFound, c)
touch_step c key exptime (Some item) = (answers.Touched, with_deadline c key item exptime)

-- the cache whose items are all flushed
abbrev pub flushed : Cache → Cache
flushed c = record c { flush_mark = c.last_cas; pending_flush = None }

-- the cache after a flush at a moment, or at once where there is none
abbrev pub flush_at : Cache → Option ℕ → Cache
flush_at c None = flushed c
flush_at c (Some moment) = if nat_le moment c.now then flushed c else record c { pending_flush = Some moment }

-- the cache after a flush with this delay: its moment is the deadline of the same exptime
abbrev pub flush_next : Cache → ℤ → Cache
flush_next c delay = flush_at c (deadline delay c.now)
