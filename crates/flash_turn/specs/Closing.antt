-- What closing a lock answers.
use Rattle.std.specs.Prelude.{◌≡◌, ◌≢◌, ℕ, List, Option, Box, slice_index}
use mathlib.Core.Option.{some}
use lib.ListN.{get_elem?}
use Rattle.atomic_table.specs.Table.{State, Final, Seen}
use Rattle.std.specs.Global.{Global}
use Rattle.flash_turn.specs.declared.close.Closing.{Closing}
use Rattle.flash_turn.specs.declared.close.Closing.TheVariants.{Value, Out}
use Rattle.flash_turn.specs.declared.pass.Pass.{Pass}
use Rattle.flash_turn.specs.declared.turn.Turn.{Turn}
use Rattle.flash_turn.specs.declared.view.View.{View}
use Rattle.flash_turn.specs.Rule.{LockRule}
use Rattle.flash_turn.specs.Passes.{view_of, FitsPass}

-- the lock's last moment, in which the pass's seat has the pass's view, the word of the tickets is `tickets` and that
-- of the served ones `served`
pub record IsLast {T E O F : Type 0} (story : T → Option (List E)) (own : T → List (ℕ × O)) (fixed : T
    → F) (A : Type 0) (pass : Pass T)
    (tickets served : ℕ) : Type 0 where
  pub moment : State (Option (Box T A)) (View T)
  pub kept : LockRule story own fixed moment
  pub there : get_elem? moment.views pass.seat.id ≡ some (view_of pass)
  pub tickets_word : slice_index moment.words 0 ≡ tickets
  pub served_word : slice_index moment.words 1 ≡ served

-- what is left of the lock's table at its end: its last state meets the rule, has the pass's view in the pass's seat,
-- and its words of the tickets and of the served ones differ
pub record IsOut {T E O F : Type 0} (story : T → Option (List E)) (own : T → List (ℕ × O)) (fixed : T
    → F) (A : Type 0) (pass : Pass T)
    (words : List ℕ) (slots : List (Option (Box T A))) : Type 0 where
  pub last : Final (Seen (LockRule story own fixed) pass.seat.id (view_of pass)) words slots
  pub tickets : ℕ
  pub served : ℕ
  pub tickets_word : get_elem? words 0 ≡ some tickets
  pub served_word : get_elem? words 1 ≡ some served
  pub differ : tickets ≢ served

-- The value, as the pass would find it, where both words are one. `Out` where the words of the table that was closed
-- differ, as then a pass holds a ticket
abbrev pub Closes : {T E O F : Type 0} → (T → Option (List E)) → (T → List (ℕ × O)) → (T → F) → Turn T → Pass T
    → Closing T → Type 0
Closes story own fixed turn pass (Value value) =
    FitsPass story own fixed turn pass value × ((tickets : ℕ) × IsLast story own fixed Global pass tickets tickets)
Closes story own fixed turn pass (Out at_end) =
    IsOut story own fixed Global pass at_end.value.words.items at_end.value.slots.items
