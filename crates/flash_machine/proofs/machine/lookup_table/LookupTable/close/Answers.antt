use Rattle.std.proofs.Common.{◌≡◌, Bool, true, false, List, ℕ, [], ◌∷◌, ◌||◌, ◌&&◌, Option, Some, None, cond, refl, sym, ◌∙◌, ap}
use Rattle.std.specs.List.{list_any}
use Rattle.std.specs.HashMap as hash
use Rattle.std.specs.HashSet as set
use Rattle.std.specs.Option.{option_map, option_to_list}
use Rattle.std.proofs.lemmas.List.Folds.{list_any-append}
use Rattle.flash_names.specs.Labels.{same_label}
use Rattle.flash_names.specs.declared.place.Label.{Label}
use Rattle.flash_entry.specs.declared.entry.Close.{Close}
use Rattle.flash_entry.specs.declared.entry.Entry.TheVariants as entries
use Rattle.flash_machine.specs.Lookups.{Lookup, same_id, is_from_buffer, was_from_buffer, open_lookup, closings}
use Rattle.flash_machine.specs.Rules.{is_lookup_on, is_hit, is_damage, is_hit_on, is_damage_on}
use Rattle.flash_machine.specs.Followed.{same_pair, same_value, same_damage, is_found_on, is_found_at}
use Rattle.flash_machine.proofs.Closings.{open_lookup-more, any_closing, or_false}
use Rattle.flash_machine.proofs.machine.lookup_table.LookupTable.close.Goals as goal

-- the tests of one closing, turned round
turned : (a b : Bool) → ((a && b) || false) ≡ (b && a)
turned true true = refl
turned true false = refl
turned false true = refl
turned false false = refl

turned_three : (a b d : Bool) → ((a && b && d) || false) ≡ (d && (a && b))
turned_three true true true = refl
turned_three true true false = refl
turned_three true false true = refl
turned_three true false false = refl
turned_three false true true = refl
turned_three false true false = refl
turned_three false false true = refl
turned_three false false false = refl

none_found : (b : Bool) → false ≡ (b && false)
none_found true = refl
none_found false = refl

abbrev closed_as : Close → Option Lookup → List (Lookup × Close)
closed_as close found = option_to_list (option_map (λ lookup. (lookup, close)) found)

hit_closed : (key : List ℕ) (cas : ℕ) (close : Close) (found : Option Lookup) → list_any (is_hit_on key cas) (closed_as close found) ≡ (is_hit close && is_found_on key cas found)
hit_closed key cas close None = none_found (is_hit close)
hit_closed key cas close (Some lookup) = turned (is_lookup_on key cas lookup) (is_hit close)

damage_closed : (key : List ℕ) (cas : ℕ) (label : Label) (close : Close) (found : Option Lookup)
    → list_any (is_damage_on key cas label) (closed_as close found) ≡ (is_damage close && is_found_at key cas label found)
damage_closed key cas label close None = none_found (is_damage close)
damage_closed key cas label close (Some lookup) = turned_three (is_lookup_on key cas lookup) (same_label lookup.label label) (is_damage close)

pub returns-clause-closed : goal.returns-clause-closed
returns-clause-closed c = λ g h was.
    let id = c.args.id in
    let close = c.args.close.now in
    let e = entries.Closed id close in
    let noted = c.in_ok-note_closing.ensures in
    let now = was.open_ id in
    record {
      open_ = λ other.
          open_lookup-more g other h e
          ∙ ap (cond (same_id id other) None) (was.open_ other ∙ ap (λ t. hash.get same_pair t (other.pass, other.seq)) (sym noted.«open»))
          ∙ sym (c.remove.ensures.updates.0 (other.pass, other.seq));
      buffered = λ other.
          list_any-append (is_from_buffer other) h (e ∷ [])
          ∙ or_false g (was_from_buffer other h) ∙ was.buffered other ∙ ap (λ t. set.contains same_pair t (other.pass, other.seq)) (sym noted.buffered);
      hits = λ key cas.
          any_closing g (is_hit_on key cas) h e
          ∙ ap (λ b. list_any (is_hit_on key cas) (closings g h) || b) (hit_closed key cas close (open_lookup g id h))
          ∙ ap (λ b. b || (is_hit close && is_found_on key cas (open_lookup g id h))) (was.hits key cas)
          ∙ ap (λ found. set.contains same_value c.args.self.now.hits (key, cas) || (is_hit close && is_found_on key cas found)) now
          ∙ sym (noted.hits key cas);
      damaged = λ key cas label.
          any_closing g (is_damage_on key cas label) h e
          ∙ ap (λ b. list_any (is_damage_on key cas label) (closings g h) || b) (damage_closed key cas label close (open_lookup g id h))
          ∙ ap (λ b. b || (is_damage close && is_found_at key cas label (open_lookup g id h))) (was.damaged key cas label)
          ∙ ap (λ found. set.contains same_damage c.args.self.now.damaged ((key, cas), (label.page, label.version)) || (is_damage close && is_found_at key cas label found)) now
          ∙ sym (noted.damaged key cas label);
    }
