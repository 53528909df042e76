-- What a flush makes of the items.
use Rattle.std.specs.Prelude.{◌≡◌, ◌<◌, ◌≤◌, ℕ, ℤ, pos, true, false, Some}
use Rattle.flash_machine.specs.Item.{Item}
use Rattle.flash_machine.specs.Cache.{Cache}
use Rattle.flash_machine.specs.Live.{is_expired_item}
use Rattle.flash_machine.specs.Moments.{deadline, is_reached}
use Rattle.flash_machine.specs.Steps.{clock_next}
use Rattle.flash_machine.specs.Touching.{flush_next}

-- after a flush without delay each item is dead that was stored before it
abbrev pub AFlushEndsEachOlderItem : Type 0
AFlushEndsEachOlderItem =
    (c : Cache) (item : Item) → item.cas ≤ c.last_cas → is_expired_item (flush_next c (pos 0)) item ≡ true

-- and no item that is stored after it is dead by it
abbrev pub AFlushSparesEachLaterItem : Type 0
AFlushSparesEachLaterItem = (c later : Cache) (item : Item) → later.flush_mark ≡ (flush_next c (pos 0)).flush_mark
    → c.last_cas < item.cas → is_reached item.deadline later.now ≡ false → is_expired_item later item ≡ false

-- a flush with a delay does nothing to the items until a clock's reading reaches its moment, and then ends each item
-- that is there
pub record IsPending (c : Cache) (moment : ℕ) (pending : Cache) : Type 0 where
  pub waits : pending ≡ record c { pending_flush = Some moment }
  pub before : (reading : ℕ) → reading < moment
      → clock_next pending reading ≡ record c { now = reading; pending_flush = Some moment }
  pub ends : (later : Cache) (reading : ℕ) (item : Item) → later.pending_flush ≡ Some moment → moment ≤ reading
      → item.cas ≤ later.last_cas → is_expired_item (clock_next later reading) item ≡ true

-- a delayed flush waits for its moment
abbrev pub ADelayedFlushWaits : Type 0
ADelayedFlushWaits = (c : Cache) (delay : ℤ) (moment : ℕ) → deadline delay c.now ≡ Some moment → c.now < moment
    → IsPending c moment (flush_next c delay)
