use Rattle.std.proofs.Common.{◌≡◌, ℕ, [], ◌∷◌, List, Option, Some, refl, sym, ◌∙◌, ap, subst, rules}
use Rattle.std.specs.Option.{option_map}
use Rattle.flash_names.specs.Told.{with_more}
use Rattle.flash_entry.specs.declared.entry.DropCause.{DropCause}
use Rattle.flash_entry.specs.declared.entry.Entry.TheVariants as entries
use Rattle.flash_calls.specs.Rooms.{Leaver}
use Rattle.flash_core.specs.declared.room.Leaver as code
use Rattle.flash_core.specs.Rooms.{AreLeavers, HasDropped}
use Rattle.flash_core.proofs.There.{IsNamedLeaver, named_leaver}
use Rattle.flash_core.proofs.room.drop_item.Goals as goal

module _ (g : _) (c : goal.After-take_out g) (leaver : Option Leaver) (are : AreLeavers c.args.index.now c.args.leaver leaver) where
  abbrev one : code.Leaver
  one = c.in-Some.field-0

  one_is : ◌≡◌ {A = Option code.Leaver} c.args.leaver (Some one)
  one_is = search rules

  named : IsNamedLeaver c.args.index.now one leaver
  named = named_leaver c.args.index.now one leaver (subst (λ (l : Option code.Leaver). AreLeavers c.args.index.now l leaver) one_is are)

  same : c.in-Some-from_bytes.key ≡ named.it.key
  same = c.in-Some-from_bytes.ensures.same ∙ c.item.ensures.key named.it.key named.leaves.named

pub returns-clause-dropped : goal.returns-clause-dropped
returns-clause-dropped g c = λ leaver are.
    let s = c.args.index.now in
    let t = c.args.blocks.now in
    let told = g.J.Journal.told c.args.journal.now in
    let told_after = g.J.Journal.told c.note.new.self in
    let is = named g c leaver are in
    let noted : told_after ≡ with_more (entries.Dropped c.in-Some-from_bytes.key c.in-Some.field-0.cause ∷ []) told = c.in_ok-note.ensures.noted in
    subst (λ (l : Option Leaver). HasDropped l told told_after s t c.take_out.new.index c.take_out.new.blocks) (sym is.is)
    (record {
      noted = noted
          ∙ ap (λ (k : List ℕ). with_more (entries.Dropped k c.in-Some.field-0.cause ∷ []) told) (same g c leaver are)
          ∙ ap (λ (cause : DropCause). with_more (entries.Dropped is.it.key cause ∷ []) told) is.leaves.cause;
      left = c.take_out.ensures is.it.key is.leaves.named;
    })

pub returns-clause-answer : goal.returns-clause-answer
returns-clause-answer g c = λ leaver are.
    let is = named g c leaver are in
    ap (λ (k : List ℕ). Some k) (same g c leaver are) ∙ ap (λ (l : Option Leaver). option_map (λ (one : Leaver). one.key) l) (sym is.is)
