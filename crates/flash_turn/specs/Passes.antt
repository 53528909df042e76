-- What contracts say of a pass and of the lock that it belongs to.
use Rattle.std.specs.Prelude.{◌≡◌, ◌<◌, ℕ, false, List, [], ◌∷◌, Option, Some, None, option_and_then, option_map}
use Rattle.flash_names.specs.Shared.{Begins, own_of}
use Rattle.flash_turn.specs.Rule.{things_left}
use Rattle.flash_turn.specs.declared.view.View.{View}
use Rattle.flash_turn.specs.declared.pass.Pass.{Pass}
use Rattle.flash_turn.specs.declared.turn.Turn.{Turn}

module _ {T : Type 0} where
  abbrev pub view_of : Pass T → View T
  view_of pass = pass.seat.me.0

  abbrev pub number_of : Pass T → ℕ
  number_of pass = pass.number

  -- the pass waits for nothing: it has a number, no ticket and no number drawn for another pass, and has seen a value
  pub record IsIdle (number : ℕ) (v : View T) : Type 0 where
    pub joined : List ℕ
    pub numbers : v.numbers ≡ number ∷ joined
    pub pending : v.pending ≡ None
    pub over : v.over ≡ false
    pub ticket : v.ticket ≡ None
    pub has : v.has ≡ false
    pub met : v.met ≡ None
    pub last : T
    pub seen : v.seen ≡ Some last

  -- all that the pass has seen of the story
  abbrev pub seen : {E : Type 0} → (T → Option (List E)) → Pass T → Option (List E)
  seen story pass = option_and_then story (view_of pass).seen

  -- the pass is one of this lock, knows its fixed part, and has no value out
  pub record IsPassOf {F : Type 0} (fixed : T → F) (turn : Turn T) (pass : Pass T) : Type 0 where
    pub table : pass.seat.table_id ≡ turn.table.shared.table_id
    pub slots : pass.seat.me.1 ≡ []
    pub idle : IsIdle pass.number (view_of pass)
    pub knows : fixed idle.last ≡ fixed turn.table.shared.key.value

  -- the story that its last lock turn took
  abbrev pub took_story : {E : Type 0} → (T → Option (List E)) → Pass T → Option (List E)
  took_story story pass = option_and_then story (view_of pass).took

  -- the face that its last lock turn took; none before the first
  abbrev pub took_face : {X : Type 0} → (T → X) → Pass T → Option X
  took_face face pass = option_map face (view_of pass).took

  -- the face that it left; none before the first
  abbrev pub left_face : {X : Type 0} → (T → X) → Pass T → Option X
  left_face face pass = option_map face (view_of pass).left

  -- the things that the pass left for its number; none before its first lock turn
  abbrev pub left_own : {O : Type 0} → (T → List (ℕ × O)) → Pass T → List O
  left_own own pass = things_left own pass.number (view_of pass).left

  -- the fixed part of the value that the lock was made of
  abbrev pub fixed_of : {F : Type 0} → (T → F) → Turn T → F
  fixed_of fixed turn = fixed turn.table.shared.key.value

  -- what the pass, whose number is above 0, finds in its turn: a story that begins with all that it had seen, its own
  -- things as it left them, and the fixed part of the lock
  pub record FitsPass {E O F : Type 0} (story : T → Option (List E)) (own : T → List (ℕ × O)) (fixed : T
      → F) (turn : Turn T) (pass : Pass T) (value : T) : Type 0 where
    pub begins : Begins (seen story pass) (story value)
    pub numbered : 0 < pass.number
    pub as_left : own_of pass.number (own value) ≡ left_own own pass
    pub same_fixed : fixed value ≡ fixed_of fixed turn
