use Rattle.std.proofs.Common.{Bool, true, false, if◌then◌else◌, ◌&&◌, ◌≡◌, List, Option, ℕ, refl}
use Rattle.flash_entry.specs.declared.entry.Entry.TheVariants as entries
use Rattle.flash_machine.specs.Steps.{cache_of}
use Rattle.flash_machine.proofs.Passing.{cache_on, pages_on, reads_on, writes_on}
use Rattle.flash_machine.proofs.machine.Machine.note_look.Goals as goal
use Rattle.std.specs.Option.{option_or}
use Rattle.flash_entry.specs.declared.entry.Residence.{Residence}
use Rattle.flash_entry.specs.declared.entry.Residence.TheVariants as residence
use Rattle.flash_machine.specs.Item.{Item}
use Rattle.flash_machine.specs.Live.{live_item}
use Rattle.flash_machine.specs.Lookups.{Lookup, same_id, opened_by}

opens_none : (key : List ℕ) (live : Option Item) (found : Residence) (lookup : Option Lookup) → opened_by false key live found lookup ≡ lookup
opens_none key live residence.Nothing lookup = refl
opens_none key live (residence.Here cas) lookup = refl
opens_none key live (residence.Away cas label) lookup = refl

opens_by : (b wanted : Bool) (key : List ℕ) (live : Option Item) (found : Residence) (given lookup : Option Lookup)
    → opened_by wanted key live found lookup ≡ option_or given lookup → opened_by (b && wanted) key live found lookup ≡ (if b then option_or given lookup else lookup)
opens_by true wanted key live found given lookup is = is
opens_by false wanted key live found given lookup is = opens_none key live found lookup

pub returns-clause-noted : goal.returns-clause-noted
returns-clause-noted c = λ g h stands meets.
    let key = c.args.key.now in
    let look = c.args.look in
    let e = entries.Looked c.args.id key look c.args.residence in
    let d = cache_of g h in
    let opens = c.in_ok-lookup.ensures g h d stands.pages stands.cache meets.1.0 in
    record {
      geometry = stands.geometry;
      cache = cache_on g c.look.new.self h e (c.in_ok-look.ensures.looked g h d stands.pages stands.cache);
      pages = pages_on g c.args.self.now.pages h e tt stands.pages;
      steps = c.note.ensures h e (c.in_ok-reserve.ensures.same h stands.steps) refl meets.0;
      lookups = c.open.ensures g h e (c.in_ok-reserve-2.ensures.same g h stands.lookups)
          (λ other found. opens_by (same_id c.args.id other) look.value key (live_item h d key) c.args.residence c.in_ok-lookup.lookup found (opens found)) tt;
      reads = reads_on g c.args.self.now.reads h e tt stands.reads;
      writes = writes_on g c.args.self.now.writes h e tt stands.writes;
    }
