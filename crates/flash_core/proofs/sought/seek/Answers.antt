use Rattle.std.proofs.Common.{sym, ◌∙◌, ap}
use Rattle.std.specs.Prelude.{is_some, option_map}
use Rattle.std.specs.FinMap as map
use Rattle.flash_names.specs.declared.place.ItemId.{ItemId}
use Rattle.flash_core.proofs.There.{item_there}
use Rattle.flash_core.proofs.sought.seek.Goals as goal

pub returns-in-None-leaving_cause : goal.returns-in-None-leaving_cause
returns-in-None-leaving_cause c =
    let named = sym c.find.ensures.id ∙ ap (option_map (λ (i : ItemId). i.key)) c.in-Some.is in
    record {
      id = sym named;
      there = λ i at. item_there (map.get c.args.index.now.items c.args.key.now) (sym c.find.ensures.there ∙ ap is_some c.in-Some.is);
      absent = λ is. absurd (cc is);
      cause = sym c.in-None-leaving_cause.is ∙ c.leaving_cause.ensures c.args.key.now named;
    }

pub returns-in-Some-leaving_cause : goal.returns-in-Some-leaving_cause
returns-in-Some-leaving_cause c =
    let named = sym c.find.ensures.id ∙ ap (option_map (λ (i : ItemId). i.key)) c.in-Some.is in
    record {
      id = sym named;
      there = λ i at. item_there (map.get c.args.index.now.items c.args.key.now) (sym c.find.ensures.there ∙ ap is_some c.in-Some.is);
      absent = λ is. absurd (cc is);
      cause = sym c.in-Some-leaving_cause.is ∙ c.leaving_cause.ensures c.args.key.now named;
    }
