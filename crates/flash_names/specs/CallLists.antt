-- Lists of calls that change a state, one after the other.
use Rattle.std.specs.Prelude.{List, [], ◌∷◌}

-- the state after the calls, the first one first
abbrev pub state_after : {S C : Type 0} → (C → S → S) → List C → S → S
state_after after [] state = state
state_after after (call ∷ calls) state = state_after after calls (after call state)

-- each of the calls may be made when it comes
abbrev pub AreAllowed : {S C : Type 0} → (S → C → Type 0) → (C → S → S) → S → List C → Type 0
AreAllowed Allowed after state [] = Unit {0}
AreAllowed Allowed after state (call ∷ calls) = Allowed state call × AreAllowed Allowed after (after call state) calls
