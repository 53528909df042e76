use Rattle.std.proofs.Common.{◌≡◌, ℕ, List, [], Option, None, Some, refl, sym, ◌∙◌, subst, rules}
use Rattle.std.specs.Ordering.{nat_cmp}
use Rattle.std.specs.Cmp.Lexicographic.{slice_cmp}
use Rattle.std.specs.FinMap as map
use Rattle.flash_blocks.specs.BlockTable.{BlockTable}
use Rattle.flash_index.specs.IndexState.{IndexState}
use Rattle.flash_index.specs.KeyLists.{empty_lists}
use Rattle.flash_machine.specs.Cache.{Items, first_cache}
use Rattle.flash_machine.specs.Item.{Item}
use Rattle.flash_calls.specs.Store.{Desk}
use Rattle.flash_core.specs.declared.numbers.Numbers.{Numbers}
use Rattle.flash_core.specs.Desks.{desk_of}
use Rattle.flash_core.specs.Numbers.{cache_of_items}
use Rattle.flash_core.specs.Sound.{IsSound}
use Rattle.flash_core.proofs.state.Core.open.Goals as goal

none_there : (key : List ℕ) (item : Item) → map.get (let none : Items = map.empty in none) key ≡ Some item → ⊥
none_there key item there = let none = sym there ∙ map.get-empty (slice_cmp nat_cmp) key in cc

pub invariant_of-result : goal.invariant_of-result
invariant_of-result g c =
    let told = g.J.Journal.told c.args.journal in
    let numbers : Numbers = record { moment = 0; last_cas = 0; flush_mark = 0; pending_flush = None } in
    subst (λ (s : IndexState). IsSound c.args.geometry s.memory (cache_of_items s.items numbers) (desk_of s c.in-Ok.blocks) told) (sym c.in-Ok.ensures.index)
    (subst (λ (t : BlockTable). IsSound c.args.geometry c.args.geometry.memory first_cache (let desk : Desk = record { lists = empty_lists; places = map.empty; blocks = t } in desk) told) (sym c.in-Ok.ensures.blocks)
    (record {
      passes = c.in_default.ensures.passes.0 refl;
      kept = λ key item there. absurd (none_there key item there);
      within = search rules;
      shares = refl;
      runs = record { run = []; runs = c.the_first_run.ensures c.args.geometry (c.in_default.ensures.passes.0 refl); is_told = c.requires };
    }))
