-- What each step tells the pass that makes it: what it was before, what the step found, and what it is after.
use Rattle.std.specs.Prelude.{◌≡◌, ◌≢◌, ℕ, ◌%◌, ◌^◌, ◌<◌, ◌≤◌, true, false, List, [], ◌∷◌, ◌++◌, Option, Some, None, Box, nat_lt, if◌then◌else◌, MatchOption}
use Rattle.atomic_table.specs.Table.{Me}
use Rattle.flash_names.specs.Shared.{Begins, told_length, own_of}
use Rattle.flash_turn.specs.declared.view.View.{View}
use Rattle.std.specs.Option.{unwrap_or}
use Rattle.flash_turn.specs.Counts.{times}
use Rattle.flash_turn.specs.Next.{IsNext}
use Rattle.flash_turn.specs.Numbered.{limit}
use Rattle.flash_turn.specs.Rule.{things_left}

-- the first pass: number 1, which has seen the value
abbrev pub first_view : {T : Type 0} → T → View T
first_view value =
    record { numbers = 1 ∷ []; draws = []; pending = None; over = false; ticket = None; has = false; seen = Some value; met = None; took = None; left = None }

-- a pass that was split off under the number n, and has seen what the other had seen
abbrev pub new_view : {T : Type 0} → ℕ → Option T → View T
new_view n seen =
    record { numbers = n ∷ []; draws = []; pending = None; over = false; ticket = None; has = false; seen = seen; met = None; took = None; left = None }

-- the number that a pass had drawn went to the pass that was split off
abbrev pub split_left : {T : Type 0} → View T → View T
split_left v = record v { pending = None }

abbrev pub split_right : {T : Type 0} → View T → View T
split_right v = new_view (unwrap_or v.pending 0) v.seen

-- a pass that was joined to another
abbrev pub spent_view : {T : Type 0} → View T
spent_view =
    record { numbers = []; draws = []; pending = None; over = false; ticket = None; has = false; seen = None; met = None; took = None; left = None }

-- the pass that joins another has its numbers too, and has met what that one had seen
abbrev pub joined_view : {T : Type 0} → View T → View T → View T
joined_view v w = record v { numbers = v.numbers ++ w.numbers; draws = v.draws ++ w.draws; met = w.seen }

-- the value with the longer story
abbrev pub with_longer : {T E : Type 0} → (T → Option (List E)) → Option T → Option T → Option T
with_longer story None b = b
with_longer story (Some x) None = Some x
with_longer story (Some x) (Some y) = if nat_lt (told_length (story x)) (told_length (story y)) then Some y else Some x

-- what a pass knows of the lock, and the slots that it holds
abbrev pub Self : Type 0 → Type 0 → Type 0
Self T A = Me (Option (Box T A)) (View T)

module _ {T A : Type 0} where
  -- a ticket was drawn: the number found is the ticket's remainder
  abbrev pub Draws : Self T A → ℕ → Self T A → Type 0
  Draws before found after = (k : ℕ) × (found ≡ k % 2 ^ 64) × (after ≡ (record before.0 { ticket = Some k }, before.1))

  -- the same where there is a ticket, and else nothing changed
  abbrev pub MayDraw : Self T A → Option ℕ → Self T A → Type 0
  MayDraw before ticket after = MatchOption ticket (after ≡ before) (λ found. Draws before found after)

  -- a ticket was drawn, if the number found is `first`, and else nothing changed
  abbrev pub DrawsAt : ℕ → Self T A → ℕ → Self T A → Type 0
  DrawsAt first before found after = (found ≡ first → Draws before found after) × (found ≢ first → after ≡ before)

  -- the value in the slot was given back, and the next ticket is served
  abbrev pub Serves : Self T A → ℕ → Self T A → Type 0
  Serves before found after = (b : Box T A) → before.1 ≡ (0, Some b) ∷ []
      → after ≡ (record before.0 { ticket = None; has = false; seen = Some b.value; left = Some b.value }, [])

  -- a number that was too large was put back
  abbrev pub PutsBack : Self T A → ℕ → Self T A → Type 0
  PutsBack before found after = after ≡ (record before.0 { over = false }, before.1)

module _ {T E O F A : Type 0} (story : T → Option (List E)) (own : T → List (ℕ × O)) (fixed : T → F) where
  -- the value was taken: its story begins with what was seen, its fixed part is known, and the things of the pass are
  -- as it left them
  abbrev pub Takes : Self T A → Self T A → Type 0
  Takes before after = (b : Box T A) × (after ≡ (record before.0 { has = true; took = Some b.value }, (0, Some b) ∷ []))
      × ((x : T) → before.0.seen ≡ Some x → Begins (story x) (story b.value) × (fixed b.value ≡ fixed x))
      × ((k : ℕ) (joined : List ℕ) → before.0.numbers ≡ k ∷ joined
      → (0 < k) × (own_of k (own b.value) ≡ things_left own k before.0.left))

  -- a number was drawn: below the limit it is for a new pass, else it has to be put back
  abbrev pub Numbers : Self T A → ℕ → Self T A → Type 0
  Numbers before found after = let drawn = record before.0 { draws = found ∷ before.0.draws } in
      (found < limit → after ≡ (record drawn { pending = Some found }, before.1))
      × (limit ≤ found → after ≡ (record drawn { over = true }, before.1))
      × IsNext story own fixed A before.0 found

  -- where its ticket is served the value was taken, and else nothing changed
  abbrev pub Looks : Self T A → ℕ → Self T A → Type 0
  Looks before found after = (k : ℕ) → before.0.ticket ≡ Some k
      → (found ≡ k % 2 ^ 64 → Takes before after) × (found ≢ k % 2 ^ 64 → after ≡ before)

  -- of what was seen and what was met the longer story is seen, and begins with both; and no number is twice among
  -- the pass's
  abbrev pub Compares : Self T A → ℕ → Self T A → Type 0
  Compares before found after = (after
      ≡ (record before.0 { seen = with_longer story before.0.seen before.0.met; met = None }, before.1))
      × ((x y : T) → before.0.seen ≡ Some x → before.0.met ≡ Some y
      → (z : T) × (with_longer story before.0.seen before.0.met ≡ Some z) × Begins (story x) (story z)
      × Begins (story y) (story z) × (fixed z ≡ fixed x))
      × ((k : ℕ) → times k before.0.numbers ≤ 1)
