-- What a table is seen as, and what is true of each table.
use Rattle.std.specs.Prelude.{◌≡◌, ◌≢◌, ℕ, ◌-◌, ◌^◌, ◌<◌, ◌≤◌, List, length, refl, Some, ◌+◌, ◌*◌, nat_le, nat_lt, ◌&&◌, if◌then◌else◌, IsSome}
use Rattle.std.specs.Coded.{Coded, code_by, coded×, coded_ℕ, coded_list, coded_option}
use Rattle.std.specs.FinMap.{code, len, get, remove}
use Rattle.flash_keys.specs.Classes.{Classes}
use Rattle.flash_keys.specs.Room.{HasRoom}
use Rattle.flash_names.specs.KeyHash.{hash_of}
use Rattle.flash_table.specs.declared.entry.Entry.{Entry}
use Rattle.flash_table.specs.Chains.{chain_of, HasEmpty, AreChains}
use Rattle.flash_table.specs.Flat.{flat}
use Rattle.flash_table.specs.Home.{home, power}
use Rattle.flash_table.specs.Slots.{Slot, slots_in, Empties}
use Rattle.flash_table.specs.Maps.{Items, Keys, items_in, keys_in}

-- each key's item, each id's key, how many keys fit with no memory taken, the number of homes, and the slots of the
-- chain of each home
pub record TableState : Type 0 where
  pub map : Items
  pub keys : Keys
  pub spare : ℕ
  pub homes : ℕ
  pub chains : List (List Slot)

-- the slots of chains are stored as lists of pairs
abbrev slots_code : Coded (List (List Slot))
slots_code = coded_list (coded_list (coded_option (coded× (coded_list coded_ℕ) coded_ℕ)))

-- a state is stored as the tuple of its fields
abbrev pub state_code : Coded TableState
state_code =
    code_by
    (Items × (Keys × (ℕ × (ℕ × List (List Slot)))))
    (coded×
    (code (coded_list coded_ℕ) coded_ℕ)
    (coded× (code coded_ℕ (coded_list coded_ℕ)) (coded× coded_ℕ (coded× coded_ℕ slots_code))))
    (λ s. (s.map, (s.keys, (s.spare, (s.homes, s.chains)))))
    (λ p. record { map = p.0; keys = p.1.0; spare = p.1.1.0; homes = p.1.1.1.0; chains = p.1.1.1.1 })
    (λ _. refl)

-- the home of a key among the homes of a table
abbrev pub home_in : TableState → List ℕ → ℕ
home_in t key = home t.homes (hash_of key)

-- the id of a key is no longer there, and the others are
pub record Forgets (old new : Keys) (key : List ℕ) : Type 0 where
  pub id : ℕ
  pub named : get old id ≡ Some key
  pub removed : new ≡ remove old id

-- the key that an id named is taken away, and this was its item
pub record Takes (old new : TableState) (id item : ℕ) : Type 0 where
  pub key : List ℕ
  pub named : get old.keys id ≡ Some key
  pub had : get old.map key ≡ Some item
  pub removed : new.map ≡ remove old.map key
  pub emptied : Empties old.chains new.chains (home_in old key) key item

-- the key of each id is in the table
abbrev pub IdsHaveKeys : TableState → Type 0
IdsHaveKeys t = (id : ℕ) (key : List ℕ) → get t.keys id ≡ Some key → IsSome (get t.map key)

-- one id names this key, and no other does
pub record HasOneId (keys : Keys) (key : List ℕ) : Type 0 where
  pub id : ℕ
  pub named : get keys id ≡ Some key
  pub only : (other : ℕ) → get keys other ≡ Some key → other ≡ id

-- the state of these parts
abbrev pub state_of : Classes → List (List Entry) → ℕ → TableState
state_of store chains spare = record {
  map = items_in store (flat chains);
  keys = keys_in store (flat chains);
  spare = spare;
  homes = length chains;
  chains = slots_in store chains;
}

-- one key more fits: the chain of the last insert has an empty slot, and the keys have room
pub record IsReady (store : Classes) (chain : List Entry) (count : ℕ) : Type 0 where
  pub empty : HasEmpty chain
  pub room : HasRoom store
  pub low : count < 2 ^ 64 - 1

-- the parts of a table: each chain but that of the last insert has an empty slot
pub record IsTable (store : Classes) (chains : List (List Entry)) (power_now last spare count : ℕ) : Type 0 where
  pub chained : AreChains store chains
  pub powered : power_now ≡ power (length chains)
  pub last_inside : last < length chains
  pub counted : count ≡ len (items_in store (flat chains))
  pub one_spare : spare ≤ 1
  pub empties : (h : ℕ) → h < length chains → h ≢ last → HasEmpty (chain_of chains h)
  pub ready : 1 ≤ spare → IsReady store (chain_of chains last) count

-- the homes after a reservation: one more where the keys are at least 14 times the homes, up to 2^32 - 1 homes
abbrev pub homes_after : TableState → ℕ
homes_after t = if nat_le (14 * t.homes) (len t.map) && nat_lt t.homes 4294967295 then t.homes + 1 else t.homes
