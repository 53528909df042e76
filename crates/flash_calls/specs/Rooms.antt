-- What a store does to stay within its memory.
use Rattle.std.specs.Prelude.{ℕ, Bool, List, [], Option, None, Some, nat_lt, is_some, option_map, if◌then◌else◌}
use Rattle.std.specs.Option.{option_or}
use Rattle.flash_names.specs.declared.geometry.Geometry.{Geometry}
use Rattle.flash_entry.specs.declared.entry.DropCause.{DropCause}
use Rattle.flash_entry.specs.declared.entry.DropCause.TheVariants as causes
use Rattle.flash_machine.specs.Cache.{Cache}
use Rattle.flash_machine.specs.Load.{load_of}
use Rattle.flash_index.specs.KeyEnds.{last_key, last_out}
use Rattle.flash_index.specs.KeyJuggle.{next_move, with_move}
use Rattle.flash_calls.specs.Store.{Desk, Call, idle_call}
use Rattle.flash_calls.specs.Sweeps.{drop_call, sweep_cause}

-- a key whose item is to be dropped, and why
pub record Leaver : Type 0 where
  pub key : List ℕ
  pub cause : DropCause

-- its item is dropped, where there is one
abbrev pub drop_if : Cache → Desk → Option Leaver → Call (Option (List ℕ))
drop_if c desk None = idle_call c desk None
drop_if c desk (Some leaver) = drop_call c desk leaver.key leaver.cause (Some leaver.key)

-- the key that leaves memory next, where the items take more than the memory
abbrev pub to_evict : Geometry → Cache → Desk → Option Leaver
to_evict g c desk =
    if nat_lt g.memory (load_of c.items) then option_map
    (λ key. record { key = key; cause = causes.Evict }) (last_out desk.lists) else None

-- what making room does
abbrev pub room_call : Geometry → Cache → Desk → Call (Option (List ℕ))
room_call g c desk = drop_if c desk (to_evict g c desk)

-- the key, where a sweep of it drops its item
abbrev pub if_swept : Cache → Desk → Option (List ℕ) → Option Leaver
if_swept c desk None = None
if_swept c desk (Some key) = option_map (λ cause. record { key = key; cause = cause }) (sweep_cause c desk key)

-- the first of the last keys of COLD, WARM and HOT that is so
abbrev pub to_reap : Cache → Desk → Option Leaver
to_reap c desk =
    option_or (if_swept c desk (last_key desk.lists.cold))
    (option_or (if_swept c desk (last_key desk.lists.warm)) (if_swept c desk (last_key desk.lists.hot)))

-- what reaping does
abbrev pub reap_call : Cache → Desk → Call (Option (List ℕ))
reap_call c desk = drop_if c desk (to_reap c desk)

-- what juggling does: the first move between the three lists that applies
abbrev pub juggle_call : Geometry → Cache → Desk → Call Bool
juggle_call g c desk =
    let move = next_move g.memory desk.lists in record {
      entries = [];
      cache = c;
      desk = record desk { lists = with_move move desk.lists };
      answer = is_some move;
    }
