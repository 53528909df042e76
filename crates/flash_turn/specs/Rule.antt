-- The rule that holds between any two steps of the lock.
use Rattle.std.specs.Prelude.{◌≡◌, ℕ, ◌%◌, ◌^◌, true, List, [], ◌∷◌, Option, Some, None, Box}
use mathlib.Core.Option.{some}
use lib.ListN.{get_elem?}
use Rattle.atomic_table.specs.Table.{State}
use Rattle.flash_names.specs.Shared.{Begins, own_of}
use Rattle.flash_turn.specs.declared.view.View.{View}
use Rattle.flash_turn.specs.Counts.{total, holds_value, given}
use Rattle.flash_turn.specs.Queue.{Queue}
use Rattle.flash_turn.specs.Numbered.{Numbered}

-- the things of the number n, as the pass left them in its last lock turn; none before the first
abbrev pub things_left : {T O : Type 0} → (T → List (ℕ × O)) → ℕ → Option T → List O
things_left own n None = []
things_left own n (Some left) = own_of n (own left)

module _ {T E O F : Type 0} (story : T → Option (List E)) (own : T → List (ℕ × O)) (fixed : T → F) where
  -- what a pass knows of the value, which is at home or out: its story begins with what was seen, its fixed part is
  -- known, and the things of the pass are as it left them
  pub record Knows (served : ℕ) (value : T) (v : View T) : Type 0 where
    pub seen : (x : T) → v.seen ≡ Some x → Begins (story x) (story value) × (fixed value ≡ fixed x)
    pub met : (x : T) → v.met ≡ Some x → Begins (story x) (story value) × (fixed value ≡ fixed x)
    pub left : (n : ℕ) (joined : List ℕ) → v.numbers ≡ n ∷ joined → own_of n (own value) ≡ things_left own n v.left
    pub out : v.has ≡ true → (v.ticket ≡ Some served) × (v.took ≡ Some value)

  -- Word 0 counts the tickets drawn, word 1 those served, and word 2 is the next number. There is one value: at home
  -- where no pass has it, and else as the pass took it whose ticket is served. A number that was never given owns
  -- nothing
  pub record LockRule {A : Type 0} (s : State (Option (Box T A)) (View T)) : Type 0 where
    pub drawn : ℕ
    pub served : ℕ
    pub next : ℕ
    pub value : T
    pub words : s.words ≡ drawn % 2 ^ 64 ∷ served % 2 ^ 64 ∷ next ∷ []
    pub queue : Queue drawn served s.views
    pub numbered : Numbered next s.views
    pub home : total holds_value s.views ≡ 0 → (b : Box T A) × (s.homes ≡ some (Some b) ∷ []) × (b.value ≡ value)
    pub known : (j : ℕ) (v : View T) → get_elem? s.views j ≡ some v → Knows served value v
    pub unknown : (x : ℕ) → total (given x) s.views ≡ 0 → own_of x (own value) ≡ []
