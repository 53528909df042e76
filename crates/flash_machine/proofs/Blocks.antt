-- Blocks that were written, and the places that they overlap.
use Rattle.std.proofs.Common.{◌≡◌, ℕ, zero, suc, ◌+◌, ◌*◌, ◌/◌, ◌%◌, ◌<◌, ◌≤◌, Bool, true, false, ◌&&◌, List, [], ◌∷◌, ◌++◌, Option, None, Some, cond, if◌then◌else◌, refl, ◌∙◌, ap, subst, arith}
use Rattle.std.specs.Prelude.{nat_eq}
use Rattle.std.specs.List.{AllByRecursion, list_any}
use Rattle.std.proofs.lemmas.Bool.Decides.{nat_tests}
use Rattle.std.proofs.lemmas.Nat.{div-add-mod', le-div}
use Rattle.flash_names.specs.declared.place.Label.{Label}
use Rattle.flash_names.specs.declared.place.Place.{Place}
use Rattle.flash_names.specs.declared.geometry.Geometry.{Geometry}
use Rattle.flash_names.specs.Labels.{same_label}
use Rattle.flash_entry.specs.declared.entry.Entry.{Entry}
use Rattle.flash_entry.specs.declared.entry.Entry.TheVariants as entries
use Rattle.flash_machine.specs.Writes.{ends_good_write, has_good_write, are_written}
use Rattle.flash_machine.specs.Rules.{is_block, is_failure, ends_write_over}
use Rattle.flash_machine.specs.Followed.{EndsBlock, is_reached}

-- one fact more at the end
pub all_more : (P : Entry → Type 0) (h : List Entry) (e : Entry) → AllByRecursion P h → P e → AllByRecursion P (h ++ e ∷ [])
all_more P [] e all one = (one, tt)
all_more P (x ∷ h) e all one = (all.0, all_more P h e all.1 one)

-- whether the last write failed, after one that did
pub failed_by : (b : Bool) (last : Option (Option (List ℕ))) → is_failure (if b then Some None else last) ≡ cond b true (is_failure last)
failed_by true last = refl
failed_by false last = refl

-- and after one that didn't
pub good_by : (b : Bool) (bytes : List ℕ) (last : Option (Option (List ℕ))) → is_failure (if b then Some (Some bytes) else last) ≡ cond b false (is_failure last)
good_by true bytes last = refl
good_by false bytes last = refl

-- where one of the first blocks isn't written, not all are
pub missing : (size n index : ℕ) (label : Label) (h : List Entry) → index < n → has_good_write label (index * size) h ≡ false → are_written size n label h ≡ false
missing size zero index label h below none = absurd (omega (arith, below))
missing size (suc n) index label h below none = by_last (nat_eq index n) refl (λ less. missing size n index label h less none)
  where
    by_last : (b : Bool) → nat_eq index n ≡ b → (index < n → are_written size n label h ≡ false) → are_written size (suc n) label h ≡ false
    by_last true same rest =
        let last : index ≡ n = grind (arith, nat_tests) in
        let gone : has_good_write label (n * size) h ≡ false = subst (λ (i : ℕ). has_good_write label (i * size) h ≡ false) last none in
        grind (arith, gone)
    by_last false apart rest = let less : index < n = grind (arith, nat_tests) in let front = rest less in grind (arith, front)

-- which block it is
module _ (g : Geometry) (w : Place) (is : is_block g w ≡ true) (some : 0 < g.buffer_size) where
  pub long : w.length ≡ g.buffer_size
  long = grind (arith, nat_tests)

  inside : w.offset + w.length ≤ g.page_size
  inside = grind (arith, nat_tests)

  whole : w.offset % g.buffer_size ≡ 0
  whole = grind (arith, nat_tests)

  pub at_index : w.offset / g.buffer_size * g.buffer_size ≡ w.offset
  at_index = let parts = div-add-mod' w.offset g.buffer_size in let rest = whole in omega (arith, parts, rest)

  pub index_below : w.offset / g.buffer_size < g.page_size / g.buffer_size
  index_below =
      let at = at_index in let within = inside in let size = long in
      le-div (suc (w.offset / g.buffer_size)) g.page_size g.buffer_size some (omega (arith, at, within, size))

module _ (g : Geometry) (place : Place) (some : 0 < place.length) (block : 0 < g.buffer_size) where
  -- a block of the label overlaps the place exactly where it has bytes of it
  overlap_is : (w : Place) → is_block g w ≡ true → ends_write_over place (entries.WriteEnded w (Some [])) ≡ (same_label w.label place.label && is_reached g.buffer_size place w.offset)
  overlap_is w is = let size = long g w is block in grind (arith, nat_tests, size)

  over_step : (e : Entry) (offset : ℕ) → EndsBlock g e → is_reached g.buffer_size place offset ≡ true → ends_good_write place.label offset e ≡ true → ends_write_over place e ≡ true
  over_step (entries.WriteEnded w (Some bytes)) offset is reached good =
      let one = overlap_is w is in grind (arith, nat_tests, one)
  over_step (entries.WriteEnded w None) offset is reached good = absurd (cc good)
  over_step _ offset is reached good = absurd (cc good)

  -- a written block that has bytes of the place overlaps it
  pub written_over : (offset : ℕ) (h : List Entry) → AllByRecursion (EndsBlock g) h → is_reached g.buffer_size place offset ≡ true
      → has_good_write place.label offset h ≡ true → list_any (ends_write_over place) h ≡ true
  written_over offset [] all reached good = absurd (cc good)
  written_over offset (e ∷ h) all reached good = by_head (ends_good_write place.label offset e) refl (written_over offset h all.1 reached)
    where
      by_head : (b : Bool) → ends_good_write place.label offset e ≡ b → (has_good_write place.label offset h ≡ true → list_any (ends_write_over place) h ≡ true)
          → list_any (ends_write_over place) (e ∷ h) ≡ true
      by_head true head rest = let one = over_step e offset all.0 reached head in grind (arith, one)
      by_head false head rest = let tail = rest (grind (arith, head, good)) in grind (arith, tail)

  none_step : (e : Entry) → EndsBlock g e → ((index : ℕ) → index < g.page_size / g.buffer_size → is_reached g.buffer_size place (index * g.buffer_size) ≡ true
      → ends_good_write place.label (index * g.buffer_size) e ≡ false) → ends_write_over place e ≡ false
  none_step (entries.WriteEnded w (Some bytes)) is none = by_over (same_label w.label place.label && is_reached g.buffer_size place w.offset) refl
    where
      by_over : (b : Bool) → (same_label w.label place.label && is_reached g.buffer_size place w.offset) ≡ b → ends_write_over place (entries.WriteEnded w (Some bytes)) ≡ false
      by_over false over = overlap_is w is ∙ over
      by_over true over =
          let at = at_index g w is block in
          let reached : is_reached g.buffer_size place (w.offset / g.buffer_size * g.buffer_size) ≡ true = ap (is_reached g.buffer_size place) at ∙ grind (arith, over) in
          let gone = none (w.offset / g.buffer_size) (index_below g w is block) reached in
          let same : same_label w.label place.label ≡ true = grind (arith, over) in
          absurd (grind (arith, nat_tests, gone, same, at))
  none_step (entries.WriteEnded w None) is none = refl
  none_step _ is none = refl

  -- where no written block has bytes of the place, none overlaps it
  pub none_over : (h : List Entry) → AllByRecursion (EndsBlock g) h → ((index : ℕ) → index < g.page_size / g.buffer_size
      → is_reached g.buffer_size place (index * g.buffer_size) ≡ true → has_good_write place.label (index * g.buffer_size) h ≡ false) → list_any (ends_write_over place) h ≡ false
  none_over [] all none = refl
  none_over (e ∷ h) all none =
      let head = none_step e all.0 (λ index below reached. let one = none index below reached in grind (arith, one)) in
      let tail = none_over h all.1 (λ index below reached. let one = none index below reached in grind (arith, one)) in
      grind (arith, head, tail)

-- an empty place has bytes of no block
pub empty_over : (place : Place) (h : List Entry) → place.length ≡ 0 → list_any (ends_write_over place) h ≡ false
empty_over place [] none = refl
empty_over place (e ∷ h) none = let tail = empty_over place h none in let head = head_over e in grind (arith, tail, head)
  where
    head_over : (e : Entry) → ends_write_over place e ≡ false
    head_over (entries.WriteEnded w (Some bytes)) = grind (arith, nat_tests)
    head_over (entries.WriteEnded w None) = refl
    head_over _ = refl
