-- What an entry stands for.
use Rattle.std.proofs.Common.{◌≡◌, ◌≢◌, ℕ, Bool, true, false, cond, nat_eq, List, length, set, ◌<◌, ◌⊎◌, inl, inr, Option, Some, None, refl, sym, ap, subst, ◌∙◌, arith}
use Rattle.std.specs.Option.{option_map, unwrap_or}
use Rattle.std.proofs.lemmas.Bool.Decides.{nat_tests}
use Rattle.std.proofs.lemmas.Bool.{ne_eqb}
use Rattle.std.proofs.Common.{eq-eqb}
use Rattle.std.proofs.lemmas.List.{get_or-set_other}
use Rattle.std.proofs.lemmas.Grind.{get_or-set_at}
use Rattle.flash_keys.specs.Classes.{Classes}
use Rattle.flash_keys.specs.Names.{named}
use Rattle.flash_table.specs.declared.entry.Entry.{Entry}
use Rattle.flash_table.specs.Entries.{vacant, entry_at}
use Rattle.flash_table.specs.Held.{key_and_item, id_and_key, HasKey, IsRight}

pub equal_or_not : (a b : ℕ) → (a ≡ b) ⊎ (a ≢ b)
equal_or_not a b = grind (arith, nat_tests)

pub empty_pair : (store : Classes) (e : Entry) → e.tag ≡ 0 → (key_and_item store e ≡ None) × (id_and_key store e ≡ None)
unfolding key_and_item id_and_key
empty_pair store e none =
    let test : nat_eq e.tag 0 ≡ true = eq-eqb e.tag 0 none in (
      ap (λ (b : Bool). cond b None (option_map (λ key. (key, e.item)) (named store e.id.number))) test,
      ap (λ (b : Bool). cond b None (option_map (λ key. (e.id.number, key)) (named store e.id.number))) test,
    )

pub vacant_pair : (store : Classes) → (key_and_item store vacant ≡ None) × (id_and_key store vacant ≡ None)
vacant_pair store = empty_pair store vacant refl

pub full_pair : (store : Classes) (e : Entry) (key : List ℕ) → HasKey store e key → (key_and_item store e ≡ Some (key, e.item)) × (id_and_key store e ≡ Some (e.id.number, key))
unfolding key_and_item id_and_key
full_pair store e key has =
    let test : nat_eq e.tag 0 ≡ false = ne_eqb e.tag 0 (λ is. omega (arith, is, has.tagged)) in (
      ap (λ (b : Bool). cond b None (option_map (λ key. (key, e.item)) (named store e.id.number))) test ∙ ap (option_map (λ key. (key, e.item))) has.names,
      ap (λ (b : Bool). cond b None (option_map (λ key. (e.id.number, key)) (named store e.id.number))) test ∙ ap (option_map (λ key. (e.id.number, key))) has.names,
    )

-- what a pair of an entry tells, where the entry is right
pub pair_is : (store : Classes) (e : Entry) (key : List ℕ) (item : ℕ) → IsRight store e → key_and_item store e ≡ Some (key, item) → HasKey store e key × (e.item ≡ item)
pair_is store e key item (inl none) is = let no = (empty_pair store e none).0 in cc
pair_is store e key item (inr has) is =
    let both : ◌≡◌ {A = Option (List ℕ × ℕ)} (Some (has.0, e.item)) (Some (key, item)) = sym (full_pair store e has.0 has.1).0 ∙ is in
    let keys : has.0 ≡ key = ap (λ (o : Option (List ℕ × ℕ)). (unwrap_or o (key, item)).0) both in
    let items : e.item ≡ item = ap (λ (o : Option (List ℕ × ℕ)). (unwrap_or o (key, item)).1) both in
    (subst (HasKey store e) keys has.1, items)

pub id_is : (store : Classes) (e : Entry) (id : ℕ) (key : List ℕ) → IsRight store e → id_and_key store e ≡ Some (id, key) → HasKey store e key × (e.id.number ≡ id)
id_is store e id key (inl none) is = let no = (empty_pair store e none).1 in cc
id_is store e id key (inr has) is =
    let both : ◌≡◌ {A = Option (ℕ × List ℕ)} (Some (e.id.number, has.0)) (Some (id, key)) = sym (full_pair store e has.0 has.1).1 ∙ is in
    let keys : has.0 ≡ key = ap (λ (o : Option (ℕ × List ℕ)). (unwrap_or o (id, key)).1) both in
    let ids : e.id.number ≡ id = ap (λ (o : Option (ℕ × List ℕ)). (unwrap_or o (id, key)).0) both in
    (subst (HasKey store e) keys has.1, ids)

-- another store in which the entry's id names the same
pub same_pair : (store next : Classes) (e : Entry) → named next e.id.number ≡ named store e.id.number → (key_and_item next e ≡ key_and_item store e) × (id_and_key next e ≡ id_and_key store e)
unfolding key_and_item id_and_key
same_pair store next e is = (
  ap (λ (o : Option (List ℕ)). cond (nat_eq e.tag 0) None (option_map (λ key. (key, e.item)) o)) is,
  ap (λ (o : Option (List ℕ)). cond (nat_eq e.tag 0) None (option_map (λ key. (e.id.number, key)) o)) is,
)

-- an entry of a list of which one is set
pub updated : (es : List Entry) (k : ℕ) (e : Entry) (i : ℕ) → k < length es → ((i ≡ k) × (entry_at (set es k e) i ≡ e)) ⊎ ((i ≢ k) × (entry_at (set es k e) i ≡ entry_at es i))
updated es k e i inside =
    elim (equal_or_not i k) [
      | inl here ↦ inl (here, get_or-set_at es k i e vacant here inside)
      | inr away ↦ inr (away, get_or-set_other es k i e vacant away)
    ]

-- an id that names nothing has no pair
pub unnamed_pair : (store : Classes) (e : Entry) → named store e.id.number ≡ None → key_and_item store e ≡ None
unfolding key_and_item
unnamed_pair store e none =
    ap (λ (o : Option (List ℕ)). cond (nat_eq e.tag 0) None (option_map (λ key. (key, e.item)) o)) none
    ∙ elim (nat_eq e.tag 0) as (λ b. ◌≡◌ {A = Option (List ℕ × ℕ)} (cond b None None) None) [ true ↦ refl | false ↦ refl ]

-- the pair of an entry whose slot isn't empty
pub named_pair : (store : Classes) (e : Entry) (key : List ℕ) → e.tag ≢ 0 → named store e.id.number ≡ Some key → key_and_item store e ≡ Some (key, e.item)
unfolding key_and_item
named_pair store e key some is =
    ap (λ (b : Bool). cond b None (option_map (λ key. (key, e.item)) (named store e.id.number))) (ne_eqb e.tag 0 some) ∙ ap (option_map (λ key. (key, e.item))) is
