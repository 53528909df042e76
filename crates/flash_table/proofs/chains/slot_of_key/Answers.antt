use Rattle.std.proofs.Common.{◌≡◌, ◌<◌, ℕ, List, [], length, get_or, ap, sym, subst, ◌∙◌, arith}
use Rattle.flash_names.specs.KeyHash.{hash_of}
use Rattle.flash_table.specs.declared.entry.Entry.{Entry}
use Rattle.flash_table.specs.Entries.{entry_at, IsFor}
use Rattle.flash_table.specs.Home.{home, tag}
use Rattle.flash_table.proofs.ChainSlots.{nowhere}
use Rattle.flash_table.proofs.Flat.{any_default}
use Rattle.flash_table.proofs.chains.slot_of_key.Goals as goal

pub returns-in-None-clause-none : goal.returns-in-None-clause-none
returns-in-None-clause-none c =
    let store = c.args.keys.now in
    let chains = c.args.chains.now.items in
    let key = c.args.key.now in
    let h = c.home_of-home.result in
    let chain = c.index-chain.result.now in
    let inside : h < length chains = omega arith in
    let chain_is : chain ≡ get_or chains h [] = c.index-chain.ensures ∙ any_default chains h chain [] inside in
    let tag_is : c.tag_of.result ≡ tag (hash_of key) = c.tag_of.ensures ∙ ap tag c.hash_of-hash.ensures in
    let long : length chains ≡ c.len.result = omega arith in
    let at_home : home (length chains) (hash_of key) ≡ h = ap (home (length chains)) (sym c.hash_of-hash.ensures) ∙ ap (λ (n : ℕ). home n c.hash_of-hash.result) long ∙ sym c.home_of-home.ensures.same in
    let P : List Entry → Type 0 = λ es. (i : ℕ) → i < length es → IsFor store c.tag_of.result key (entry_at es i) → ⊥ in
    let none = subst P chain_is c.in-None.ensures.none in
    nowhere store chains c.requires.chained key h at_home (λ i within is. none i within (record { tagged = is.tagged ∙ sym tag_is; names = is.names }))
