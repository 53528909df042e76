use Rattle.std.proofs.Common.{List, ℕ, Option, Some, sym, ◌∙◌, ap}
use Rattle.std.specs.Option.{option_copied, option_map}
use Rattle.std.specs.List.{find}
use Rattle.std.specs.FinMap as map
use Rattle.flash_machine.specs.Item.{Item}
use Rattle.flash_machine.specs.Live.{is_live, is_behind}
use Rattle.flash_machine.proofs.Behind.{found_among, found_first, found_later}
use Rattle.flash_machine.proofs.machine.cache_table.CacheTable.next_live.Goals as goal

abbrev key_of : List ℕ × Item → List ℕ
key_of entry = entry.0

pub items-init : goal.items-init
items-init c = λ g h cache pages follows.
    let live = λ (entry : List ℕ × Item). is_live h cache entry.1 in
    ap (option_map key_of)
    (found_among (λ entry. is_behind (option_copied c.args.after) entry.0) live (map.entries cache.items)
    ∙ ap (find live) (sym (c.into_iter-key-iterator.ensures.into_iter_gives ∙ c.behind-key-items.ensures cache.items follows.items)))

pub returns-then-is_live : goal.returns-then-is_live
returns-then-is_live c = λ g h cache pages follows.
    let live = λ (entry : List ℕ × Item). is_live h cache entry.1 in
    let passes = sym (c.is_live.ensures g h cache pages follows) ∙ c.if-is_live.true in
    ap {B = Option (List ℕ)} (λ k. Some k) c.key.ensures
    ∙ sym (ap (option_map key_of) (ap (find live) c.in-Some.ensures.steps ∙ found_first live (c.in-Some.key.now, c.in-Some.item.now) c.next.new.self passes))
    ∙ sym (c.items.invariant g h cache pages follows)

pub items-preserved : goal.items-preserved
items-preserved c = λ g h cache pages follows.
    let live = λ (entry : List ℕ × Item). is_live h cache entry.1 in
    let fails = sym (c.is_live.ensures g h cache pages follows) ∙ c.if-is_live.false in
    c.items.invariant g h cache pages follows
    ∙ ap (option_map key_of) (ap (find live) c.in-Some.ensures.steps ∙ found_later live (c.in-Some.key.now, c.in-Some.item.now) c.next.new.self fails)

pub returns : goal.returns
returns c = λ g h cache pages follows.
    let live = λ (entry : List ℕ × Item). is_live h cache entry.1 in
    sym (ap (option_map key_of) (ap (find live) c.in-None.ensures.steps.0)) ∙ sym (c.items.invariant g h cache pages follows)
