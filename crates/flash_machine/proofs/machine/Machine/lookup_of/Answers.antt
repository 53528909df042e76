use Rattle.std.proofs.Common.{◌≡◌, Option, None, sym, ◌∙◌, ap, true, ℕ}
use Rattle.std.specs.Prelude.{option_copied}
use Rattle.flash_entry.specs.declared.entry.Residence.{Residence}
use Rattle.flash_entry.specs.declared.entry.Residence.TheVariants as residence
use Rattle.flash_names.specs.declared.place.Label.{Label}
use Rattle.flash_machine.specs.Item.{Item}
use Rattle.flash_machine.specs.Looking.{residence_of}
use Rattle.flash_machine.specs.Live.{live_item}
use Rattle.flash_machine.specs.Same.{same_residence}
use Rattle.flash_machine.proofs.machine.Machine.lookup_of.Goals as goal

-- an item on flash isn't found where no live item is there
not_found : (found : Residence) (cas : ℕ) (label : Label) (live : Option Item) → found ≡ residence.Away cas label → live ≡ None
    → same_residence found (residence_of live) ≡ true → ⊥
not_found found cas label live away none same =
    let both = ap (λ (r : Residence). same_residence r (residence_of live)) (sym away) ∙ same in
    let nothing = ap (λ (l : Option Item). same_residence (residence.Away cas label) (residence_of l)) (sym none) ∙ both in cc nothing

pub returns-in_default-live : goal.returns-in_default-live
returns-in_default-live c = λ g h d pages was is found.
    let none = sym (c.live.ensures g h d pages was) ∙ ap option_copied c.in_default-live.is in
    absurd (not_found c.args.residence c.in-Away.field-0 c.in-Away.label (live_item h d c.args.key.now) c.in-Away.is none is)
