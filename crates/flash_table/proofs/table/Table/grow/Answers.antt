use Rattle.std.proofs.Common.{◌≡◌, ◌+◌, ◌-◌, ◌<◌, ◌≤◌, ℕ, List, [], ◌∷◌, ◌++◌, length, ap, sym, subst, ◌∙◌, arith}
use Rattle.std.proofs.Math.ListN.{get_or-append}
use Rattle.flash_table.specs.declared.entry.Entry.{Entry}
use Rattle.flash_table.specs.AtHome.{DividesOne}
use Rattle.flash_table.specs.Chains.{chain_of}
use Rattle.flash_table.specs.Growth.{going, going_of, IsToDivide, IsDivided}
use Rattle.flash_table.specs.Home.{split_home, power}
use Rattle.flash_table.specs.Table.{TableState, state_of}
use Rattle.flash_table.proofs.Homes.{power_fits}
use Rattle.flash_table.proofs.TableGrown.{to_divide, items_kept, keys_kept, others_kept, one_more, table_now}
use Rattle.flash_table.proofs.table.Table.grow.Goals as goal

pub overflow_sub-from : goal.overflow_sub-from
overflow_sub-from c = let fits = power_fits (length c.self.inside.chains.items) c.self.invariant.chained.some in omega (arith, fits.0, c.self.invariant.powered)

pub leaving_from-requires-clause-from : goal.leaving_from-requires-clause-from
leaving_from-requires-clause-from c =
    let fits = power_fits (length c.self.inside.chains.items) c.self.invariant.chained.some in omega (arith, fits.0, fits.1, c.self.invariant.powered)

pub divide-requires-clause-divide : goal.divide-requires-clause-divide
divide-requires-clause-divide c =
    let store = c.self.inside.keys in
    let chains = c.self.inside.chains.items in
    let from = c.len-homes.result - c.self.inside.power in
    let fits = power_fits (length chains) c.self.invariant.chained.some in
    let long : length chains ≡ c.len-homes.result = omega arith in
    let some : 1 ≤ c.self.inside.spare = subst (λ (s : TableState). 1 ≤ s.spare) (sym c.self.view_is) c.requires.spare in
    let few : length chains < 4294967295 = subst (λ (s : TableState). s.homes < 4294967295) (sym c.self.view_is) c.requires.few in
    let split : from ≡ split_home (length chains) = omega (arith, c.self.invariant.powered) in
    let room : going store (length chains + 1) (length chains) (chain_of chains from) < length c.in_ok-fresh.fresh = omega (arith, c.in_ok-leaving.ensures.count, c.in_ok-fresh.ensures.long) in
    subst (λ (m : ℕ). IsToDivide store c.push.new.self.items m from) long
    (subst (λ (cs : List (List Entry)). IsToDivide store cs (length chains) from) (sym c.in_ok-push.ensures.items)
    (to_divide store chains c.self.inside.power c.self.inside.last c.self.inside.spare c.self.inside.count c.self.invariant some few c.in_ok-fresh.fresh c.in_ok-fresh.ensures.free from split room))

pub divide-requires-clause-marked : goal.divide-requires-clause-marked
divide-requires-clause-marked c =
    let store = c.self.inside.keys in
    let chains = c.self.inside.chains.items in
    let from = c.len-homes.result - c.self.inside.power in
    let long : length chains ≡ c.len-homes.result = omega arith in
    let fits = power_fits (length chains) c.self.invariant.chained.some in
    let low : from < length chains = omega (arith, fits.0, fits.1, c.self.invariant.powered) in
    let same : chain_of c.push.new.self.items from ≡ chain_of chains from =
    ap (λ (cs : List (List Entry)). chain_of cs from) c.in_ok-push.ensures.items ∙ get_or-append chains (c.in_ok-fresh.fresh ∷ []) [] from low in
    c.deref.ensures.value
    ∙ c.in_ok-leaving.ensures.slots
    ∙ ap (λ (n : ℕ). going_of store (n + 1) n (chain_of chains from)) long
    ∙ ap (going_of store (c.len-homes.result + 1) c.len-homes.result) (sym same)

pub invariant_of-self-2 : goal.invariant_of-self-2
invariant_of-self-2 c =
    let store = c.self.inside.keys in
    let chains = c.self.inside.chains.items in
    let from = c.len-homes.result - c.self.inside.power in
    let fits = power_fits (length chains) c.self.invariant.chained.some in
    let long : length chains ≡ c.len-homes.result = omega arith in
    let some : 1 ≤ c.self.inside.spare = subst (λ (s : TableState). 1 ≤ s.spare) (sym c.self.view_is) c.requires.spare in
    let few : length chains < 4294967295 = subst (λ (s : TableState). s.homes < 4294967295) (sym c.self.view_is) c.requires.few in
    let split : from ≡ split_home (length chains) = omega (arith, c.self.invariant.powered) in
    let room : going store (length chains + 1) (length chains) (chain_of chains from) < length c.in_ok-fresh.fresh = omega (arith, c.in_ok-leaving.ensures.count, c.in_ok-fresh.ensures.long) in
    let divided : IsDivided store (chains ++ c.in_ok-fresh.fresh ∷ []) c.divide.new.chains.items (length chains) from =
    subst (λ (m : ℕ). IsDivided store (chains ++ c.in_ok-fresh.fresh ∷ []) c.divide.new.chains.items m from) (sym long)
    (subst (λ (cs : List (List Entry)). IsDivided store cs c.divide.new.chains.items c.len-homes.result from) c.in_ok-push.ensures.items c.divide.ensures) in
    table_now store chains c.self.inside.power c.self.inside.last c.self.inside.spare c.self.inside.count c.self.invariant some few c.in_ok-fresh.fresh c.in_ok-fresh.ensures.free from split room c.divide.new.chains.items divided c.power_after-power.result
    (c.power_after-power.ensures ∙ ap (λ (m : ℕ). power (m + 1)) (sym long))

pub returns-clause-map : goal.returns-clause-map
returns-clause-map c =
    let store = c.self.inside.keys in
    let chains = c.self.inside.chains.items in
    let from = c.len-homes.result - c.self.inside.power in
    let fits = power_fits (length chains) c.self.invariant.chained.some in
    let long : length chains ≡ c.len-homes.result = omega arith in
    let some : 1 ≤ c.self.inside.spare = subst (λ (s : TableState). 1 ≤ s.spare) (sym c.self.view_is) c.requires.spare in
    let few : length chains < 4294967295 = subst (λ (s : TableState). s.homes < 4294967295) (sym c.self.view_is) c.requires.few in
    let split : from ≡ split_home (length chains) = omega (arith, c.self.invariant.powered) in
    let room : going store (length chains + 1) (length chains) (chain_of chains from) < length c.in_ok-fresh.fresh = omega (arith, c.in_ok-leaving.ensures.count, c.in_ok-fresh.ensures.long) in
    let divided : IsDivided store (chains ++ c.in_ok-fresh.fresh ∷ []) c.divide.new.chains.items (length chains) from =
    subst (λ (m : ℕ). IsDivided store (chains ++ c.in_ok-fresh.fresh ∷ []) c.divide.new.chains.items m from) (sym long)
    (subst (λ (cs : List (List Entry)). IsDivided store cs c.divide.new.chains.items c.len-homes.result from) c.in_ok-push.ensures.items c.divide.ensures) in
    items_kept store chains c.self.inside.power c.self.inside.last c.self.inside.spare c.self.inside.count c.self.invariant some few c.in_ok-fresh.fresh c.in_ok-fresh.ensures.free from split room c.divide.new.chains.items divided ∙ ap (λ (s : TableState). s.map) c.self.view_is

pub returns-clause-keys : goal.returns-clause-keys
returns-clause-keys c =
    let store = c.self.inside.keys in
    let chains = c.self.inside.chains.items in
    let from = c.len-homes.result - c.self.inside.power in
    let fits = power_fits (length chains) c.self.invariant.chained.some in
    let long : length chains ≡ c.len-homes.result = omega arith in
    let some : 1 ≤ c.self.inside.spare = subst (λ (s : TableState). 1 ≤ s.spare) (sym c.self.view_is) c.requires.spare in
    let few : length chains < 4294967295 = subst (λ (s : TableState). s.homes < 4294967295) (sym c.self.view_is) c.requires.few in
    let split : from ≡ split_home (length chains) = omega (arith, c.self.invariant.powered) in
    let room : going store (length chains + 1) (length chains) (chain_of chains from) < length c.in_ok-fresh.fresh = omega (arith, c.in_ok-leaving.ensures.count, c.in_ok-fresh.ensures.long) in
    let divided : IsDivided store (chains ++ c.in_ok-fresh.fresh ∷ []) c.divide.new.chains.items (length chains) from =
    subst (λ (m : ℕ). IsDivided store (chains ++ c.in_ok-fresh.fresh ∷ []) c.divide.new.chains.items m from) (sym long)
    (subst (λ (cs : List (List Entry)). IsDivided store cs c.divide.new.chains.items c.len-homes.result from) c.in_ok-push.ensures.items c.divide.ensures) in
    keys_kept store chains c.self.inside.power c.self.inside.last c.self.inside.spare c.self.inside.count c.self.invariant some few c.in_ok-fresh.fresh c.in_ok-fresh.ensures.free from split room c.divide.new.chains.items divided ∙ ap (λ (s : TableState). s.keys) c.self.view_is

pub returns-clause-slots : goal.returns-clause-slots
returns-clause-slots c =
    let store = c.self.inside.keys in
    let chains = c.self.inside.chains.items in
    let from = c.len-homes.result - c.self.inside.power in
    let fits = power_fits (length chains) c.self.invariant.chained.some in
    let long : length chains ≡ c.len-homes.result = omega arith in
    let some : 1 ≤ c.self.inside.spare = subst (λ (s : TableState). 1 ≤ s.spare) (sym c.self.view_is) c.requires.spare in
    let few : length chains < 4294967295 = subst (λ (s : TableState). s.homes < 4294967295) (sym c.self.view_is) c.requires.few in
    let split : from ≡ split_home (length chains) = omega (arith, c.self.invariant.powered) in
    let room : going store (length chains + 1) (length chains) (chain_of chains from) < length c.in_ok-fresh.fresh = omega (arith, c.in_ok-leaving.ensures.count, c.in_ok-fresh.ensures.long) in
    let divided : IsDivided store (chains ++ c.in_ok-fresh.fresh ∷ []) c.divide.new.chains.items (length chains) from =
    subst (λ (m : ℕ). IsDivided store (chains ++ c.in_ok-fresh.fresh ∷ []) c.divide.new.chains.items m from) (sym long)
    (subst (λ (cs : List (List Entry)). IsDivided store cs c.divide.new.chains.items c.len-homes.result from) c.in_ok-push.ensures.items c.divide.ensures) in
    let new : TableState = state_of store c.divide.new.chains.items c.self.inside.spare in
    subst (λ (s : TableState). DividesOne s new) c.self.view_is
    (record {
      others = others_kept store chains c.self.inside.power c.self.inside.last c.self.inside.spare c.self.inside.count c.self.invariant some few c.in_ok-fresh.fresh c.in_ok-fresh.ensures.free from split room c.divide.new.chains.items divided;
      kept = λ same. absurd (omega (arith, same, one_more store chains c.self.inside.power c.self.inside.last c.self.inside.spare c.self.inside.count c.self.invariant some few c.in_ok-fresh.fresh c.in_ok-fresh.ensures.free from split room c.divide.new.chains.items divided));
    })
