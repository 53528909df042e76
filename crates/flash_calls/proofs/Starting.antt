-- What a store keeps is so at first.
use Rattle.std.proofs.Common.{◌≡◌, ℕ, ◌≤◌, List, [], replicate, get_or, Option, None, Some, inl, inr, refl, sym, ◌∙◌, ap, subst}
use Rattle.std.specs.FinMap as finite
use Rattle.std.proofs.lemmas.Bool.{cases_lt}
use Rattle.std.proofs.lemmas.List.{get_or-replicate, get_or_past, length-replicate}
use Rattle.flash_names.specs.declared.place.Label.{Label}
use Rattle.flash_names.specs.declared.place.Place.{Place}
use Rattle.flash_names.specs.declared.geometry.Geometry.{Geometry}
use Rattle.flash_names.specs.Geometry.{Passes}
use Rattle.flash_pages.specs.declared.page_row.PageRow.{PageRow}
use Rattle.flash_pages.specs.PageTable.{blank_row, first_table}
use Rattle.flash_machine.specs.Item.{Item}
use Rattle.flash_machine.specs.Cache.{first_cache}
use Rattle.flash_machine.specs.Followed.{one_if_labelled}
use Rattle.flash_machine.proofs.Totals.{order, total_none}
use Rattle.flash_calls.specs.Below.{Below}
use Rattle.flash_calls.specs.Counted.{bytes_if_labelled, IsCounted}
use Rattle.flash_calls.specs.Paged.{IsRowOf, ArePaged}
use Rattle.flash_calls.specs.Placed.{IsPlaced, ArePlaced}
use Rattle.flash_calls.specs.Running.{IsRunning}
use Rattle.flash_calls.specs.Store.{first_desk}

none_under : {X : Type 0} (key : List ℕ) → finite.get (finite.empty {X = X} {R = order}) key ≡ None
none_under key = finite.get-empty order key

nothing_placed : (found : Option Item) (place : Option Place) (key : List ℕ) → found ≡ None → place ≡ None → IsPlaced key found place
nothing_placed None None key missing unplaced = tt
nothing_placed None (Some place) key missing unplaced = absurd (cc unplaced)
nothing_placed (Some item) place key missing unplaced = absurd (cc missing)

first_placed : ArePlaced finite.empty finite.empty
first_placed key = nothing_placed _ _ key (none_under key) (none_under key)

module _ (g : Geometry) where
  blank : (page : ℕ) → get_or (replicate g.pages blank_row) page blank_row ≡ blank_row
  blank page = elim (cases_lt page g.pages) [
    | inl below ↦ get_or-replicate g.pages page blank_row blank_row below
    | inr past ↦ get_or_past (replicate g.pages blank_row) page blank_row (subst (λ (n : ℕ). n ≤ page) (sym (length-replicate g.pages blank_row)) past)
  ]

  first_paged : ArePaged g [] (first_table g)
  first_paged = record {
    rows = length-replicate g.pages blank_row;
    last = refl;
    each = λ page. subst (λ (row : PageRow). IsRowOf [] page row) (sym (blank page)) (record { label = refl; ended = refl });
  }

  first_counted : (label : Label) → IsCounted finite.empty (first_table g) label
  first_counted label = record {
    records = ap (λ (row : PageRow). row.live) (blank label.page) ∙ sym (total_none (one_if_labelled label));
    bytes = ap (λ (row : PageRow). row.live_bytes) (blank label.page) ∙ sym (total_none (bytes_if_labelled label));
  }

  pub first_runs : Below → Passes g → IsRunning g [] first_cache (first_desk g)
  first_runs below passes = record {
    run = below.heads.first g;
    listed = below.lists.none;
    placed = first_placed;
    opened = λ key place there. absurd (cc (sym (none_under {X = Place} key) ∙ there));
    paged = first_paged;
    counted = λ label unended. first_counted label;
    order = below.blocks.first g passes;
    size = refl;
    held = λ key item place there at unended. absurd (cc (sym (none_under {X = Place} key) ∙ at));
    unwritten = tt;
  }
