-- Rules over the heads of a cache.
use Rattle.std.proofs.Common.{◌≡◌, ℕ, true, ◌&&◌, ◌||◌, not, List, [], ◌∷◌, map, Option, None, Some, refl, sym, ◌∙◌, ap, subst}
use Rattle.std.specs.Prelude.{nat_lt}
use Rattle.std.specs.Option.{option_map}
use Rattle.std.specs.List.{list_any}
use Rattle.std.specs.FinMap as finite
use Rattle.flash_names.specs.declared.place.Label.{Label}
use Rattle.flash_names.specs.declared.geometry.Geometry.{Geometry}
use Rattle.flash_entry.specs.declared.answer.Tally.{Tally}
use Rattle.flash_entry.specs.declared.entry.Done.TheVariants as deeds
use Rattle.flash_entry.specs.declared.entry.DropCause.{DropCause}
use Rattle.flash_entry.specs.declared.entry.DropCause.TheVariants as drops
use Rattle.flash_entry.specs.declared.entry.EndCause.{EndCause}
use Rattle.flash_entry.specs.declared.entry.EndCause.TheVariants as ends
use Rattle.flash_entry.specs.declared.entry.Residence.{Residence}
use Rattle.flash_entry.specs.declared.entry.Entry.{Entry}
use Rattle.flash_entry.specs.declared.entry.Entry.TheVariants as entries
use Rattle.flash_machine.specs.Item.{Item}
use Rattle.flash_machine.specs.Cache.{Cache}
use Rattle.flash_machine.specs.Live.{live_item}
use Rattle.flash_machine.specs.Storing.{store_step}
use Rattle.flash_machine.specs.Looking.{residence_of}
use Rattle.flash_machine.specs.Deleting.{delete_step}
use Rattle.flash_machine.specs.Summing.{sum_step}
use Rattle.flash_machine.specs.Touching.{touch_step}
use Rattle.flash_machine.specs.Same.{same_stored, same_gone, same_sum, same_touched, same_tally, same_residence}
use Rattle.flash_machine.specs.PageLabels.{is_in_use}
use Rattle.flash_machine.specs.Lookups.{closings}
use Rattle.flash_machine.specs.NewSteps.{is_new_step}
use Rattle.flash_machine.specs.Rules.{Rule, rule, has_cas, has_label, is_hit_on, drop_rules, is_labelled, end_rule, rules}
use Rattle.flash_machine.specs.Legal.{AllHold}
use Rattle.flash_heads.specs.Heads.{hidden, heads}
use Rattle.flash_heads.specs.RuleLaws.{EachAnswerIsThatOfTheHeads, EachFindIsThatOfTheHeads, EachRuleIsThatOfTheHeads, EachEntryMeetsAlike}
use Rattle.flash_heads.proofs.Hiding.{head, Entries, entries_hidden, get_hidden}
use Rattle.flash_heads.proofs.Keeping.{same_load, tallied}
use Rattle.flash_heads.proofs.Lives.{live_hidden}
use Rattle.flash_heads.proofs.Stepping.{same_step, same_residence_of, deleted, summed, touched}

pub answers : EachAnswerIsThatOfTheHeads
answers g h c (deeds.Store put answer) =
    ap (λ (live : Option Item). same_stored answer (store_step g (heads c) put live).0) (live_hidden h c put.key)
    ∙ ap (λ step. same_stored answer step.0) (same_step g c put (live_item h c put.key))
answers g h c (deeds.Delete key compare answer) =
    ap (λ (live : Option Item). same_gone answer (delete_step (heads c) key compare live).0) (live_hidden h c key)
    ∙ ap (λ step. same_gone answer step.0) (deleted c key compare (live_item h c key))
answers g h c (deeds.Sum ask answer) =
    ap (λ (live : Option Item). same_sum answer (sum_step (heads c) ask live).0) (live_hidden h c ask.key)
    ∙ ap (λ step. same_sum answer step.0) (summed c ask (live_item h c ask.key))
answers g h c (deeds.Touch key exptime answer) =
    ap (λ (live : Option Item). same_touched answer (touch_step (heads c) key exptime live).0) (live_hidden h c key)
    ∙ ap (λ step. same_touched answer step.0) (touched c key exptime (live_item h c key))
answers g h c (deeds.Flush delay) = refl
answers g h c (deeds.Stats tally) = ap (λ (t : Tally). same_tally tally t) (tallied g h c)

pub finds : EachFindIsThatOfTheHeads
finds h c key found =
    ap (λ (live : Option Item). same_residence found (residence_of live)) (live_hidden h c key)
    ∙ ap (λ (r : Residence). same_residence found r) (same_residence_of (live_item h c key))

-- an item's CAS number, and whether it has a label
numbered : (cas : ℕ) (found : Option Item) → has_cas cas (option_map hidden found) ≡ has_cas cas found
numbered cas None = refl
numbered cas (Some item) = refl

labelled : (found : Option Item) → has_label (option_map hidden found) ≡ has_label found
labelled None = refl
labelled (Some item) = refl

live_numbered : (h : List Entry) (c : Cache) (key : List ℕ) (cas : ℕ) → has_cas cas (live_item h (heads c) key) ≡ has_cas cas (live_item h c key)
live_numbered h c key cas = ap (has_cas cas) (live_hidden h c key) ∙ numbered cas (live_item h c key)

live_labelled : (h : List Entry) (c : Cache) (key : List ℕ) → has_label (live_item h (heads c) key) ≡ has_label (live_item h c key)
live_labelled h c key = ap (λ (live : Option Item). has_label live) (live_hidden h c key) ∙ labelled (live_item h c key)

-- whether some item has the label
any_labelled : (label : Label) (es : Entries) → list_any (is_labelled label) (map head es) ≡ list_any (is_labelled label) es
any_labelled label [] = refl
any_labelled label (e ∷ es) = ap (λ b. is_labelled label e || b) (any_labelled label es)

module _ (g : Geometry) (h : List Entry) (c : Cache) where
  dropped : (key : List ℕ) (cause : DropCause) (found : Option Item) → drop_rules g h (heads c) key cause (option_map hidden found) ≡ drop_rules g h c key cause found
  dropped key cause None = refl
  dropped key drops.Dead (Some item) = refl
  dropped key drops.Evict (Some item) = ap (λ (load : ℕ). rule 14 true ∷ rule 16 (nat_lt g.memory load) ∷ []) (same_load c.items)
  dropped key drops.Ended (Some item) = refl
  dropped key drops.Damaged (Some item) = refl

  ended : (label : Label) (cause : EndCause) → end_rule g h (heads c) label cause ≡ end_rule g h c label cause
  ended label ends.Compacted =
      ap (λ (es : Entries). rule 23 (not (list_any (is_labelled label) es))) (entries_hidden c.items)
      ∙ ap (λ b. rule 23 (not b)) (any_labelled label (finite.entries c.items))
  ended label ends.Evict = refl
  ended label ends.Fault = refl

  pub same_rules : (e : Entry) → rules g h (heads c) e ≡ rules g h c e
  same_rules (entries.Did id d) = ap (λ b. rule 2 (is_new_step h id) ∷ rule 3 b ∷ []) (answers g h c d)
  same_rules (entries.Looked id key look found) = ap (λ b. rule 2 (is_new_step h id) ∷ rule 4 b ∷ []) (finds h c key found)
  same_rules (entries.Moved key cas label) = ap (λ b. rule 12 (b && is_in_use h label) ∷ []) (live_numbered h c key cas)
  same_rules (entries.Recached key cas) =
      ap (λ b. rule 13 (b && has_label (live_item h (heads c) key) && list_any (is_hit_on key cas) (closings g h)) ∷ []) (live_numbered h c key cas)
      ∙ ap (λ b. rule 13 (has_cas cas (live_item h c key) && b && list_any (is_hit_on key cas) (closings g h)) ∷ []) (live_labelled h c key)
  same_rules (entries.Dropped key cause) =
      ap (drop_rules g h (heads c) key cause) (get_hidden c.items key) ∙ dropped key cause (finite.get c.items key)
  same_rules (entries.Ended label cause) = ap (λ (r : Rule). rule 22 (is_in_use h label) ∷ r ∷ []) (ended label cause)
  same_rules _ = refl

pub ruled : EachRuleIsThatOfTheHeads
ruled = same_rules

pub meets : EachEntryMeetsAlike
meets g h c e = (subst AllHold (same_rules g h c e), subst AllHold (sym (same_rules g h c e)))
