-- What may be handed to a thread is what a lock asks of a pass.
use Rattle.std.proofs.Common.{◌≡◌, false, true, List, [], ◌∷◌, length, refl, arith}
use Rattle.std.specs.Prelude.{Option, Some, None, is_some, option_map, drop}
use Rattle.flash_names.specs.declared.geometry.Geometry.{Geometry}
use Rattle.flash_calls.specs.Store.{Store}
use Rattle.flash_core.specs.SharedStore.{geometry_of}
use Rattle.flash_turn.specs.declared.pass.Pass.{Pass}
use Rattle.flash_turn.specs.declared.turn.Turn.{Turn}
use Rattle.flash_turn.specs.Passes.{view_of, fixed_of, IsPassOf}
use Rattle.flash_serve.specs.Ready.{IsReady}

abbrev pub none_of : {A : Type 0} (o : Option A) → is_some o ≡ false → o ≡ None
none_of None e = refl
none_of (Some x) e = let both : true ≡ false = e in absurd (cc both)

abbrev pub empty_of : {A : Type 0} (xs : List A) → length xs ≡ 0 → xs ≡ []
empty_of [] e = refl
empty_of (x ∷ xs) e = absurd (omega (arith, e))

pub same_some : (g h : Geometry) → Some g ≡ Some h → g ≡ h
same_some g h e = cc e

abbrev pub some_of : (o : Option Store) (g : Geometry) → option_map geometry_of o ≡ Some g
    → (s : Store) × (o ≡ Some s) × (geometry_of s ≡ g)
some_of None g e = absurd (cc e)
some_of (Some s) g e = (s, refl, same_some _ _ e)

pub passes : (turn : Turn Store) (pass : Pass Store) → IsReady turn pass → IsPassOf geometry_of turn pass
passes turn pass ready =
    let found = some_of (view_of pass).seen (fixed_of geometry_of turn) ready.8 in
    record {
      table = ready.0;
      slots = ready.1;
      idle = record {
        joined = drop 1 (view_of pass).numbers;
        numbers = ready.2;
        pending = none_of _ ready.3;
        over = ready.4;
        ticket = none_of _ ready.5;
        has = ready.6;
        met = none_of _ ready.7;
        last = found.0;
        seen = found.1;
      };
      knows = found.2;
    }
