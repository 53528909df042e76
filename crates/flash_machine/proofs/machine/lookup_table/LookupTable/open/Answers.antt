use Rattle.std.proofs.Common.{◌≡◌, Bool, true, false, ◌||◌, Option, Some, refl, sym, ◌∙◌, ap, if◌then◌else◌}
use Rattle.std.specs.Option.{option_or}
use Rattle.flash_names.specs.declared.place.Id.{Id}
use Rattle.flash_entry.specs.declared.entry.Entry.{Entry}
use Rattle.flash_entry.specs.declared.entry.Entry.TheVariants as entries
use Rattle.flash_machine.specs.Lookups.{Lookup, same_id, is_from_buffer, was_from_buffer, open_lookup}
use Rattle.flash_machine.specs.Rules.{is_hit_on, is_damage_on}
use Rattle.flash_machine.specs.Followed.{ClosesNone}
use Rattle.flash_machine.proofs.EntrySteps.{is_read_off}
use Rattle.flash_machine.proofs.Closings.{open_lookup-more, same_closings, or_false}
use Rattle.flash_machine.proofs.machine.lookup_table.LookupTable.open.Goals as goal

not_buffered : (id : Id) (e : Entry) → ClosesNone e → is_from_buffer id e ≡ false
not_buffered id (entries.FromBuffer other place) none = absurd none
not_buffered id _ none = refl

unchanged : (b : Bool) (found : Option Lookup) → (if b then found else found) ≡ found
unchanged true found = refl
unchanged false found = refl

pub returns-in-Some : goal.returns-in-Some
returns-in-Some c = λ g h e was opens none.
    let lookup = c.in-Some.lookup in
    record {
      open_ = λ id.
          open_lookup-more g id h e
          ∙ opens id (open_lookup g id h)
          ∙ ap (λ (given : Option Lookup). if same_id c.args.id id then option_or given (open_lookup g id h) else open_lookup g id h) c.in-Some.is
          ∙ ap (λ (found : Option Lookup). if same_id c.args.id id then Some lookup else found) (was.open_ id)
          ∙ sym (c.insert.ensures id);
      buffered = λ id. (is_read_off g h e).buffer id ∙ ap (λ b. was_from_buffer id h || b) (not_buffered id e none) ∙ or_false g (was_from_buffer id h) ∙ was.buffered id;
      hits = λ key cas. same_closings g (is_hit_on key cas) h e none ∙ was.hits key cas;
      damaged = λ key cas label. same_closings g (is_damage_on key cas label) h e none ∙ was.damaged key cas label;
    }

pub returns-in_default : goal.returns-in_default
returns-in_default c = λ g h e was opens none.
    record {
      open_ = λ id.
          open_lookup-more g id h e
          ∙ opens id (open_lookup g id h)
          ∙ ap (λ (given : Option Lookup). if same_id c.args.id id then option_or given (open_lookup g id h) else open_lookup g id h) c.in_default.is
          ∙ unchanged (same_id c.args.id id) (open_lookup g id h)
          ∙ was.open_ id;
      buffered = λ id. (is_read_off g h e).buffer id ∙ ap (λ b. was_from_buffer id h || b) (not_buffered id e none) ∙ or_false g (was_from_buffer id h) ∙ was.buffered id;
      hits = λ key cas. same_closings g (is_hit_on key cas) h e none ∙ was.hits key cas;
      damaged = λ key cas label. same_closings g (is_damage_on key cas label) h e none ∙ was.damaged key cas label;
    }
