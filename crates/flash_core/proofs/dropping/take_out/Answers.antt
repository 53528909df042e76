use Rattle.std.proofs.Common.{◌≡◌, ℕ, List, Option, Some, sym, ◌∙◌, ap}
use Rattle.std.specs.FinMap as map
use Rattle.flash_names.specs.declared.place.Place.{Place}
use Rattle.flash_blocks.specs.BlockTable.{BlockTable}
use Rattle.flash_index.specs.IndexState.{Names}
use Rattle.flash_calls.specs.Places.{given_back}
use Rattle.flash_core.proofs.dropping.take_out.Goals as goal

pub give_back-requires : goal.give_back-requires
give_back-requires c = λ place at. c.requires.fit.given c.requires.id.0 place (sym (c.place-place.ensures c.requires.id.0 c.requires.id.1) ∙ at)

pub returns : goal.returns
returns c = λ key named.
    let place : c.place-place.result ≡ map.get c.args.index.now.places key = c.place-place.ensures key named in
    record {
      items_are = c.remove.ensures.items key named;
      desk_is = λ j. record {
        lists = c.remove.ensures.lists key named j;
        places = c.remove.ensures.places key named j;
        blocks = (c.give_back.ensures ∙ ap (λ (p : Option Place). given_back p c.args.blocks.now) place) j;
      };
      memory_is = c.remove.ensures.memory;
    }
