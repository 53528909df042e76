-- How a home is divided: its keys that have the last home among one home more go there.
use Rattle.std.specs.Prelude.{◌≡◌, ◌≢◌, ℕ, ◌+◌, ◌<◌, ◌^◌, Bool, false, nat_eq, List, [], ◌∷◌, map, length, Option, None, Some, if◌then◌else◌}
use Rattle.flash_keys.specs.Classes.{Classes}
use Rattle.flash_names.specs.KeyHash.{hash_of}
use Rattle.flash_table.specs.declared.entry.Entry.{Entry}
use Rattle.flash_table.specs.Chains.{chain_of, HasEmpty, AreChains, IsHomed}
use Rattle.flash_table.specs.Entries.{entry_at}
use Rattle.flash_table.specs.Flat.{flat}
use Rattle.flash_table.specs.Held.{key_and_item, IsSound}
use Rattle.flash_table.specs.Home.{home, split_home}
use Rattle.flash_table.specs.Maps.{items_in, keys_in}

-- whether the key of a pair has the home h among n homes
abbrev pub pair_goes : ℕ → ℕ → Option (List ℕ × ℕ) → Bool
pair_goes n h None = false
pair_goes n h (Some pair) = nat_eq (home n (hash_of pair.0)) h

-- whether the key of an entry has the home h among n homes
unfoldable pub goes : Classes → ℕ → ℕ → Entry → Bool
goes store n h e = pair_goes n h (key_and_item store e)

-- how many of these entries have a key of the home h among n homes
abbrev pub going : Classes → ℕ → ℕ → List Entry → ℕ
going store n h [] = 0
going store n h (e ∷ rest) = (if goes store n h e then 1 else 0) + going store n h rest

-- which of these entries have a key of the home h among n homes
abbrev pub going_of : Classes → ℕ → ℕ → List Entry → List Bool
going_of store n h es = map (goes store n h) es

-- which slots of a home have a key that leaves it when a home is added
abbrev pub leaving_of : Classes → List (List Entry) → ℕ → List Bool
leaving_of store chains from = going_of store (length chains + 1) (length chains) (chain_of chains from)

-- how many keys of a home leave it when a home is added
abbrev pub leaving : Classes → List (List Entry) → ℕ → ℕ
leaving store chains from = going store (length chains + 1) (length chains) (chain_of chains from)

-- chains to which an empty last one is added, before the home is divided
pub record IsToDivide (store : Classes) (chains : List (List Entry)) (last from : ℕ) : Type 0 where
  pub many : length chains ≡ last + 1
  pub few : length chains < 2 ^ 32
  pub some : 0 < last
  pub split : from ≡ split_home last
  pub sound : IsSound store (flat chains)
  pub homed : IsHomed last store chains
  pub free : (i : ℕ) → (entry_at (chain_of chains last) i).tag ≡ 0
  pub room : going store (last + 1) last (chain_of chains from) < length (chain_of chains last)
  pub empty : HasEmpty (chain_of chains from)

-- the chains after the home is divided: they hold the same keys, each at home now, and the other chains are unchanged
pub record IsDivided (store : Classes) (old now : List (List Entry)) (last from : ℕ) : Type 0 where
  pub chained : AreChains store now
  pub many : length now ≡ length old
  pub items : items_in store (flat now) ≡ items_in store (flat old)
  pub keys : keys_in store (flat now) ≡ keys_in store (flat old)
  pub empty_from : HasEmpty (chain_of now from)
  pub empty_last : HasEmpty (chain_of now last)
  pub others : (h : ℕ) → h ≢ from → h ≢ last → chain_of now h ≡ chain_of old h
