-- Which items are live, by the heads of a cache.
use Rattle.std.proofs.Common.{◌≡◌, ℕ, Bool, true, false, ◌&&◌, cond, List, [], ◌∷◌, map, Option, None, Some, refl, ◌∙◌, ap}
use Rattle.std.specs.Option.{option_map}
use Rattle.std.specs.List.{find}
use Rattle.std.specs.FinMap as finite
use Rattle.flash_entry.specs.declared.entry.Entry.{Entry}
use Rattle.flash_machine.specs.Item.{Item}
use Rattle.flash_machine.specs.Cache.{Cache}
use Rattle.flash_machine.specs.Live.{is_live, passing_item, is_behind, next_live_key}
use Rattle.flash_heads.specs.Heads.{hidden, heads}
use Rattle.flash_heads.specs.Living.{EachItemLivesAlike, EachLiveItemIsHidden, TheNextLiveKeyIsTheSame}
use Rattle.flash_heads.proofs.Hiding.{head, Entries, entries_hidden, get_hidden}

pub lives : EachItemLivesAlike
lives h c item = record { dead = refl; live = refl }

passes_by : (b : Bool) (item : Item) → cond b (Some (hidden item)) None ≡ option_map hidden (cond b (Some item) None)
passes_by true item = refl
passes_by false item = refl

passes : (h : List Entry) (c : Cache) (found : Option Item) → passing_item (is_live h (heads c)) (option_map hidden found) ≡ option_map hidden (passing_item (is_live h c) found)
passes h c None = refl
passes h c (Some item) = passes_by (is_live h c item) item

pub live_hidden : EachLiveItemIsHidden
live_hidden h c key = ap (passing_item (is_live h (heads c))) (get_hidden c.items key) ∙ passes h c (finite.get c.items key)

module _ (h : List Entry) (c : Cache) (after : Option (List ℕ)) where
  abbrev comes : List ℕ × Item → Bool
  comes entry = is_behind after entry.0 && is_live h c entry.1

  key_by : (b : Bool) (e : List ℕ × Item) (one other : Option (List ℕ × Item)) → option_map (λ entry. entry.0) one ≡ option_map (λ entry. entry.0) other
      → option_map (λ entry. entry.0) (cond b (Some (head e)) one) ≡ option_map (λ entry. entry.0) (cond b (Some e) other)
  key_by true e one other is = refl
  key_by false e one other is = is

  key_of : (es : Entries) → option_map (λ entry. entry.0) (find comes (map head es)) ≡ option_map (λ entry. entry.0) (find comes es)
  key_of [] = refl
  key_of (e ∷ es) = key_by (comes e) e (find comes (map head es)) (find comes es) (key_of es)

  pub next_key : next_live_key h (heads c) after ≡ next_live_key h c after
  next_key = ap (λ (es : Entries). option_map (λ entry. entry.0) (find comes es)) (entries_hidden c.items) ∙ key_of (finite.entries c.items)

pub next_keys : TheNextLiveKeyIsTheSame
next_keys h c after = next_key h c after
