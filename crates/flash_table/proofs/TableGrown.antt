-- A table after a home is added.
use Rattle.std.proofs.Common.{◌≡◌, ◌≢◌, ℕ, zero, suc, ◌+◌, ◌<◌, ◌≤◌, List, [], ◌∷◌, ◌++◌, length, length-append, inl, inr, refl, sym, ap, subst, ◌∙◌, arith}
use Rattle.std.specs.Cmp.{nat_cmp_total}
use Rattle.std.specs.Cmp.Lexicographic.{nat_list_cmp_total}
use Rattle.std.specs.FinMap as finite
use Rattle.std.specs.FinMap.{nat_cmp-IsAntisymmetric}
use Rattle.std.proofs.Math.ListN.{get_or-append}
use Rattle.std.proofs.Math.Seq.{get_or-append_seam}
use Rattle.flash_keys.specs.Classes.{Classes}
use Rattle.flash_table.specs.declared.entry.Entry.{Entry}
use Rattle.flash_table.specs.Chains.{chain_of, HasEmpty}
use Rattle.flash_table.specs.Entries.{vacant, entry_at}
use Rattle.flash_table.specs.Flat.{flat}
use Rattle.flash_table.specs.Growth.{going, IsToDivide, IsDivided}
use Rattle.flash_table.specs.Held.{key_and_item, id_and_key, IsRight}
use Rattle.flash_table.specs.Home.{split_home, power as power_of}
use Rattle.flash_table.specs.Maps.{items_in, keys_in}
use Rattle.flash_table.specs.Slots.{slots_in, slot_at}
use Rattle.flash_table.specs.Table.{IsTable}
use Rattle.flash_table.proofs.Dividing.{from_inside}
use Rattle.flash_table.proofs.Flat.{flat_push}
use Rattle.flash_table.proofs.Held.{equal_or_not, vacant_pair}
use Rattle.flash_table.proofs.Look.{look_blank}
use Rattle.flash_table.proofs.Maps.{bytes_same, get_items, get_keys}
use Rattle.flash_table.proofs.Slots.{slot_seen}
use Rattle.flash_table.proofs.TableInserted.{each_empty}
use Rattle.flash_table.proofs.Widened.{blank_at}

-- an empty chain behind the others changes no entry
push_at : (chains : List (List Entry)) (fresh : List Entry) → ((i : ℕ) → entry_at fresh i ≡ vacant) → (h i : ℕ) → entry_at (chain_of (chains ++ fresh ∷ []) h) i ≡ entry_at (chain_of chains h) i
push_at [] fresh none zero i = none i
push_at [] fresh none (suc h) i = refl
push_at (c ∷ chains) fresh none zero i = refl
push_at (c ∷ chains) fresh none (suc h) i = push_at chains fresh none h i

module _ (store : Classes) (chains : List (List Entry)) (power last spare count : ℕ) (table : IsTable store chains power last spare count) (some : 1 ≤ spare) (few : length chains < 4294967295)
    (fresh : List Entry) (none : (i : ℕ) → entry_at fresh i ≡ vacant) (from : ℕ) (split : from ≡ split_home (length chains))
    (room : going store (length chains + 1) (length chains) (chain_of chains from) < length fresh) where
  n : ℕ
  n = length chains

  abbrev pub pushed : List (List Entry)
  pushed = chains ++ fresh ∷ []

  flat_is : flat pushed ≡ flat chains ++ fresh
  flat_is = flat_push chains fresh

  entries : (k : ℕ) → entry_at (flat pushed) k ≡ entry_at (flat chains) k
  entries k = ap (λ (es : List Entry). entry_at es k) flat_is ∙ blank_at (flat chains) fresh none k

  pub pushed_items : items_in store (flat pushed) ≡ items_in store (flat chains)
  pushed_items =
      ap (items_in store) flat_is
      ∙ finite.same_map nat_list_cmp_total bytes_same (items_in store (flat chains ++ fresh)) (items_in store (flat chains))
      (λ q. get_items store (flat chains ++ fresh) q
      ∙ look_blank nat_list_cmp_total bytes_same (key_and_item store) vacant (flat chains) fresh q (λ i. ap (key_and_item store) (none i) ∙ (vacant_pair store).0)
      ∙ sym (get_items store (flat chains) q))

  pub pushed_keys : keys_in store (flat pushed) ≡ keys_in store (flat chains)
  pushed_keys =
      ap (keys_in store) flat_is
      ∙ finite.same_map nat_cmp_total nat_cmp-IsAntisymmetric (keys_in store (flat chains ++ fresh)) (keys_in store (flat chains))
      (λ q. get_keys store (flat chains ++ fresh) q
      ∙ look_blank nat_cmp_total nat_cmp-IsAntisymmetric (id_and_key store) vacant (flat chains) fresh q (λ i. ap (id_and_key store) (none i) ∙ (vacant_pair store).1)
      ∙ sym (get_keys store (flat chains) q))

  pub low : from < length chains
  low = from_inside (length chains) from table.chained.some split

  from_is : chain_of pushed from ≡ chain_of chains from
  from_is = get_or-append chains (fresh ∷ []) [] from low

  last_is : chain_of pushed (length chains) ≡ fresh
  last_is = get_or-append_seam chains fresh [] []

  pub to_divide : IsToDivide store pushed (length chains) from
  to_divide = record {
    many = length-append chains (fresh ∷ []);
    few = omega (arith, length-append chains (fresh ∷ []), few);
    some = table.chained.some;
    split = split;
    sound = record {
      right = λ i. subst (IsRight store) (sym (entries i)) (table.chained.sound.right i);
      once = λ i j key x y one other. table.chained.sound.once i j key x y (ap (key_and_item store) (sym (entries i)) ∙ one) (ap (key_and_item store) (sym (entries j)) ∙ other);
    };
    homed = λ h i key item is. table.chained.homed h i key item (ap (key_and_item store) (sym (push_at chains fresh none h i)) ∙ is);
    free = λ i. ap (λ (e : Entry). e.tag) (ap (λ (c : List Entry). entry_at c i) last_is ∙ none i);
    room = omega (arith, room, ap (going store (length chains + 1) (length chains)) from_is, ap length last_is);
    empty = subst HasEmpty (sym from_is) (each_empty store chains power last spare count from table some low);
  }

  module _ (now : List (List Entry)) (divided : IsDivided store pushed now (length chains) from) where
    pub items_kept : items_in store (flat now) ≡ items_in store (flat chains)
    items_kept = divided.items ∙ pushed_items

    pub keys_kept : keys_in store (flat now) ≡ keys_in store (flat chains)
    keys_kept = divided.keys ∙ pushed_keys

    pub one_more : length now ≡ length chains + 1
    one_more = divided.many ∙ length-append chains (fresh ∷ [])

    each : (h : ℕ) → h < length now → HasEmpty (chain_of now h)
    each h inside =
        elim (equal_or_not h from) [
          | inl one ↦ subst (λ (g : ℕ). HasEmpty (chain_of now g)) (sym one) divided.empty_from
          | inr away ↦ elim (equal_or_not h (length chains)) [
            | inl end ↦ subst (λ (g : ℕ). HasEmpty (chain_of now g)) (sym end) divided.empty_last
            | inr other ↦
                let less : h < length chains = omega (arith, inside, one_more, other) in
                subst HasEmpty (sym (divided.others h away other ∙ get_or-append chains (fresh ∷ []) [] h less)) (each_empty store chains power last spare count h table some less)
          ]
        ]

    pub table_now : (next_power : ℕ) → next_power ≡ power_of (length chains + 1) → IsTable store now next_power last spare count
    table_now next_power is = record {
      chained = divided.chained;
      powered = is ∙ ap power_of (sym one_more);
      last_inside = omega (arith, table.last_inside, one_more);
      counted = table.counted ∙ ap finite.len (sym items_kept);
      one_spare = table.one_spare;
      empties = λ h inside away. each h inside;
      ready = λ more. let was = table.ready more in record { empty = each last (omega (arith, table.last_inside, one_more)); room = was.room; low = was.low };
    }

    pub others_kept : (h i : ℕ) → h ≢ split_home (length chains) → h ≢ length chains → slot_at (slots_in store now) h i ≡ slot_at (slots_in store chains) h i
    others_kept h i away other =
        slot_seen store now h i
        ∙ ap (λ (c : List Entry). key_and_item store (entry_at c i)) (divided.others h (λ is. away (is ∙ split)) other)
        ∙ ap (key_and_item store) (push_at chains fresh none h i)
        ∙ sym (slot_seen store chains h i)
