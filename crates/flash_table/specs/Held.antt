-- What entries stand for, by the keys that their ids name.
use Rattle.std.specs.Prelude.{◌≡◌, ℕ, ◌⊎◌, nat_eq, List, Option, None, if◌then◌else◌, Some}
use Rattle.std.specs.Option.{option_map}
use Rattle.flash_keys.specs.Classes.{Classes}
use Rattle.flash_keys.specs.Names.{named}
use Rattle.flash_names.specs.KeyHash.{hash_of}
use Rattle.flash_table.specs.declared.entry.Entry.{Entry}
use Rattle.flash_table.specs.Entries.{entry_at}
use Rattle.flash_table.specs.Home.{tag}

-- the key and the item of an entry, where its slot isn't empty
unfoldable pub key_and_item : Classes → Entry → Option (List ℕ × ℕ)
key_and_item store e = if nat_eq e.tag 0 then None else option_map (λ key. (key, e.item)) (named store e.id.number)

-- the id and the key of an entry, where its slot isn't empty
unfoldable pub id_and_key : Classes → Entry → Option (ℕ × List ℕ)
id_and_key store e = if nat_eq e.tag 0 then None else option_map (λ key. (e.id.number, key)) (named store e.id.number)

-- the entry's id names a key, and its tag is the tag of that key
pub record HasKey (store : Classes) (e : Entry) (key : List ℕ) : Type 0 where
  pub names : named store e.id.number ≡ Some key
  pub tagged : e.tag ≡ tag (hash_of key)

-- the slot is empty, or has a key
abbrev pub IsRight : Classes → Entry → Type 0
IsRight store e = (e.tag ≡ 0) ⊎ ((key : List ℕ) × HasKey store e key)

-- each slot is empty or has a key, and no key is in two slots
pub record IsSound (store : Classes) (es : List Entry) : Type 0 where
  pub right : (i : ℕ) → IsRight store (entry_at es i)
  pub once :
      (i j : ℕ) (key : List ℕ) (one other : ℕ) → key_and_item store (entry_at es i) ≡ Some (key, one)
      → key_and_item store (entry_at es j) ≡ Some (key, other) → i ≡ j
