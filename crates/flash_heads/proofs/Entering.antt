-- What entries make of the heads of a cache.
use Rattle.std.proofs.Common.{◌≡◌, List, [], ◌∷◌, ◌++◌, Option, Some, refl, sym, ◌∙◌, ap}
use Rattle.std.specs.List.{AllByRecursion}
use Rattle.std.specs.FinMap as finite
use Rattle.flash_names.specs.declared.geometry.Geometry.{Geometry}
use Rattle.flash_entry.specs.declared.entry.Done.{Done}
use Rattle.flash_entry.specs.declared.entry.Done.TheVariants as deeds
use Rattle.flash_entry.specs.declared.entry.Entry.{Entry}
use Rattle.flash_entry.specs.declared.entry.Entry.TheVariants as entries
use Rattle.flash_machine.specs.Item.{Item}
use Rattle.flash_machine.specs.Cache.{Cache, Items}
use Rattle.flash_machine.specs.Live.{live_item}
use Rattle.flash_machine.specs.Storing.{store_step}
use Rattle.flash_machine.specs.Looking.{look_next}
use Rattle.flash_machine.specs.Deleting.{delete_step}
use Rattle.flash_machine.specs.Summing.{sum_step}
use Rattle.flash_machine.specs.Touching.{touch_step}
use Rattle.flash_machine.specs.Steps.{done_next, labelled, next, cache_from}
use Rattle.flash_heads.specs.Heads.{heads}
use Rattle.flash_heads.specs.EntryLaws.{BringsNoValue, MovesNoValue, EachEntryIsThatOfTheHeads, EachEntryLeavesItsHeads, EachRunIsThatOfTheHeads, EachRunLeavesItsHeads}
use Rattle.flash_heads.proofs.Hiding.{get_hidden, items_once}
use Rattle.flash_heads.proofs.Lives.{live_hidden}
use Rattle.flash_heads.proofs.Stepping.{same_step, looked, dropped, deleted, summed, touched, flush, clocked}
use Rattle.flash_heads.proofs.Moving.{same_move}

module _ (g : Geometry) (h : List Entry) (c : Cache) where
  done : (d : Done) → done_next g h (heads c) d ≡ heads (done_next g h c d)
  done (deeds.Store put answer) =
      ap (λ (live : Option Item). (store_step g (heads c) put live).1) (live_hidden h c put.key)
      ∙ ap (λ step. step.1) (same_step g c put (live_item h c put.key))
  done (deeds.Delete key compare answer) =
      ap (λ (live : Option Item). (delete_step (heads c) key compare live).1) (live_hidden h c key)
      ∙ ap (λ step. step.1) (deleted c key compare (live_item h c key))
  done (deeds.Sum ask answer) =
      ap (λ (live : Option Item). (sum_step (heads c) ask live).1) (live_hidden h c ask.key)
      ∙ ap (λ step. step.1) (summed c ask (live_item h c ask.key))
  done (deeds.Touch key exptime answer) =
      ap (λ (live : Option Item). (touch_step (heads c) key exptime live).1) (live_hidden h c key)
      ∙ ap (λ step. step.1) (touched c key exptime (live_item h c key))
  done (deeds.Flush delay) = flush c delay
  done (deeds.Stats tally) = refl

  pub entered : (e : Entry) → MovesNoValue e → next g h (heads c) e ≡ heads (next g h c e)
  entered (entries.Clock moment) still = clocked c moment
  entered (entries.Did id d) still = done d
  entered (entries.Looked id key look residence) still =
      ap (look_next (heads c) key look) (live_hidden h c key) ∙ looked c key look (live_item h c key)
  entered (entries.Moved key cas label) still = absurd still
  entered (entries.Recached key cas) still = absurd still
  entered (entries.Dropped key cause) still = dropped c key
  entered _ still = refl

  again : (d e : Cache) → d ≡ heads e → heads e ≡ heads d
  again d e is = sym (ap (λ (x : Cache). heads x) is ∙ ap (λ (items : Items). record e { items = items }) (items_once e.items))

  pub left : (e : Entry) → BringsNoValue e → heads (next g h c e) ≡ heads (next g h (heads c) e)
  left (entries.Moved key cas label) still =
      same_move c key label (finite.get c.items key)
      ∙ ap (λ (found : Option Item). heads (labelled (heads c) key (Some label) found)) (sym (get_hidden c.items key))
  left (entries.Recached key cas) still = absurd still
  left (entries.Clock moment) still = again _ _ (entered (entries.Clock moment) tt)
  left (entries.Did id d) still = again _ _ (entered (entries.Did id d) tt)
  left (entries.Looked id key look residence) still = again _ _ (entered (entries.Looked id key look residence) tt)
  left (entries.Dropped key cause) still = again _ _ (entered (entries.Dropped key cause) tt)
  left _ still = again (heads c) c refl

pub entry : EachEntryIsThatOfTheHeads
entry = entered

pub entry_left : EachEntryLeavesItsHeads
entry_left = left

module _ (g : Geometry) where
  pub run : (h : List Entry) (c : Cache) (es : List Entry) → AllByRecursion MovesNoValue es → cache_from g h (heads c) es ≡ heads (cache_from g h c es)
  run h c [] still = refl
  run h c (e ∷ es) still =
      ap (λ (d : Cache). cache_from g (h ++ e ∷ []) d es) (entered g h c e still.0) ∙ run (h ++ e ∷ []) (next g h c e) es still.1

  pub run_left : (h : List Entry) (c : Cache) (es : List Entry) → AllByRecursion BringsNoValue es → heads (cache_from g h c es) ≡ heads (cache_from g h (heads c) es)
  run_left h c [] still = again g h c (heads c) c refl
  run_left h c (e ∷ es) still =
      run_left (h ++ e ∷ []) (next g h c e) es still.1
      ∙ ap (λ (d : Cache). heads (cache_from g (h ++ e ∷ []) d es)) (left g h c e still.0)
      ∙ sym (run_left (h ++ e ∷ []) (next g h (heads c) e) es still.1)

pub runs : EachRunIsThatOfTheHeads
runs = run

pub runs_left : EachRunLeavesItsHeads
runs_left = run_left
