-- What a flush makes of the items.
use Rattle.std.proofs.Common.{◌≡◌, ◌<◌, ◌≤◌, ℕ, Bool, true, false, ◌||◌, Option, Some, refl, sym, ◌∙◌, ap, subst, arith}
use Rattle.std.specs.Prelude.{nat_le}
use Rattle.std.proofs.lemmas.Bool.Decides.{nat_tests}
use Rattle.flash_machine.specs.Item.{Item}
use Rattle.flash_machine.specs.Cache.{Cache}
use Rattle.flash_machine.specs.Live.{is_expired_item}
use Rattle.flash_machine.specs.Moments.{is_reached}
use Rattle.flash_machine.specs.Steps.{clock_next}
use Rattle.flash_machine.specs.Touching.{flush_at, flush_next}
use Rattle.flash_steps.specs.Flushed.{AFlushEndsEachOlderItem, AFlushSparesEachLaterItem, IsPending, ADelayedFlushWaits}

-- an item whose number is at most the mark is dead
marked : (reached : Bool) (cas mark : ℕ) → cas ≤ mark → (reached || nat_le cas mark) ≡ true
marked true cas mark below = refl
marked false cas mark below = grind (arith, nat_tests)

pub ended : AFlushEndsEachOlderItem
ended c item below = marked (is_reached item.deadline c.now) item.cas c.last_cas below

-- and one whose number is above the mark isn't
unmarked : (reached : Bool) (cas mark : ℕ) → reached ≡ false → mark < cas → (reached || nat_le cas mark) ≡ false
unmarked true cas mark is above = absurd (cc is)
unmarked false cas mark is above = grind (arith, nat_tests)

pub spared : AFlushSparesEachLaterItem
spared c later item same above alive =
    unmarked (is_reached item.deadline later.now) item.cas later.flush_mark alive (subst (λ (n : ℕ). n < item.cas) (sym same) above)

module _ (c : Cache) (moment : ℕ) where
  waits_by : (reached : Bool) → nat_le moment c.now ≡ reached → c.now < moment → flush_at c (Some moment) ≡ record c { pending_flush = Some moment }
  waits_by true is after = absurd (let reached : moment ≤ c.now = grind (arith, nat_tests) in omega (arith, reached, after))
  waits_by false is after = rw is refl

  before_by : (reading : ℕ) (reached : Bool) → nat_le moment reading ≡ reached → reading < moment
      → clock_next (record c { pending_flush = Some moment }) reading ≡ record c { now = reading; pending_flush = Some moment }
  before_by reading true is before = absurd (let reached : moment ≤ reading = grind (arith, nat_tests) in omega (arith, reached, before))
  before_by reading false is before = rw is refl

  ends_by : (later : Cache) (reading : ℕ) (item : Item) (reached : Bool) → is_reached later.pending_flush reading ≡ reached → reached ≡ true → item.cas ≤ later.last_cas
      → is_expired_item (clock_next later reading) item ≡ true
  ends_by later reading item true is has below = rw is (marked (is_reached item.deadline reading) item.cas later.last_cas below)
  ends_by later reading item false is has below = absurd (cc has)

  reached_at : (reading : ℕ) → moment ≤ reading → nat_le moment reading ≡ true
  reached_at reading most = grind (arith, nat_tests)

  -- by the flush's cache, which waits
  pending_by : (pending : Cache) → pending ≡ record c { pending_flush = Some moment } → IsPending c moment pending
  pending_by pending is = record {
    waits = is;
    before = λ reading below. ap (λ (d : Cache). clock_next d reading) is ∙ before_by reading (nat_le moment reading) refl below;
    ends = λ later reading item at most below. ends_by later reading item (is_reached later.pending_flush reading) refl (ap (λ (p : Option ℕ). is_reached p reading) at ∙ reached_at reading most) below;
  }

pub waits : ADelayedFlushWaits
waits c delay moment at after = pending_by c moment (flush_next c delay) (ap (flush_at c) at ∙ waits_by c moment (nat_le moment c.now) refl after)
