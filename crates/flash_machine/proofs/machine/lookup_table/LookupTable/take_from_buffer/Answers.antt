use Rattle.std.proofs.Common.{◌≡◌, Bool, true, false, [], ◌∷◌, ◌||◌, cond, refl, sym, ◌∙◌, ap}
use Rattle.std.proofs.lemmas.List.Folds.{list_any-append}
use Rattle.flash_entry.specs.declared.entry.Entry.TheVariants as entries
use Rattle.flash_machine.specs.Lookups.{same_id, is_from_buffer, was_from_buffer}
use Rattle.flash_machine.specs.Rules.{is_hit_on, is_damage_on}
use Rattle.flash_machine.proofs.Closings.{open_lookup-more, any_closing, or_false}
use Rattle.flash_machine.proofs.machine.lookup_table.LookupTable.take_from_buffer.Goals as goal

joined : (old b : Bool) → (old || (b || false)) ≡ cond b true old
joined true true = refl
joined true false = refl
joined false true = refl
joined false false = refl

pub returns-clause-taken : goal.returns-clause-taken
returns-clause-taken c = λ g h place was.
    let e = entries.FromBuffer c.args.id place in
    record {
      open_ = λ id. open_lookup-more g id h e ∙ was.open_ id;
      buffered = λ id.
          list_any-append (is_from_buffer id) h (e ∷ [])
          ∙ joined (was_from_buffer id h) (same_id c.args.id id)
          ∙ ap (cond (same_id c.args.id id) true) (was.buffered id)
          ∙ sym (c.in_ok-insert.ensures.updates.0 (id.pass, id.seq));
      hits = λ key cas. any_closing g (is_hit_on key cas) h e ∙ or_false g _ ∙ was.hits key cas;
      damaged = λ key cas label. any_closing g (is_damage_on key cas label) h e ∙ or_false g _ ∙ was.damaged key cas label;
    }
