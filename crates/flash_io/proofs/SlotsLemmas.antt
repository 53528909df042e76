-- The tickets of a slab: what is found in a slot, and after a change of one.
use Rattle.std.proofs.Common.{◌≡◌, ◌≢◌, ℕ, zero, suc, ◌+◌, ◌<◌, Bool, true, false, cond, eqb, List, [], ◌∷◌, length, Option, None, Some, sym, ap, ◌∙◌, refl, arith, get_or-set_same, get_or-set_other, eq-eqb}
use Rattle.std.specs.Prelude.{slice_index_or}
use Rattle.std.specs.Ordering.{nat_cmp, eq_by_cmp}
use Rattle.std.specs.Cmp.{nat_cmp_total, unsigned_tied}
use Rattle.std.specs.FinMap.{get, find, same_map, get-from_entries, get-insert, get-remove, nat_cmp-IsAntisymmetric}
use Rattle.std.proofs.lemmas.Bool.Decides.{nat_tests}
use borrow.Author.Tests.{eqb-true}
use Rattle.slab.specs.Slab.{Slab, entries, entries_from, with_value, Updates}
use Rattle.slab.specs.Slab as slab
use Rattle.flash_io.specs.Row.{Row}
use Rattle.flash_io.specs.Slots.{rows_of, put, changed, Changes}

-- below the first key nothing is found
pub find-below : (slots : List (Option Row)) (first key : ℕ) → key < first → find nat_cmp key (entries_from first slots) ≡ None
find-below [] first key low = refl
find-below (None ∷ rest) first key low = find-below rest (first + 1) key (omega arith)
find-below (Some row ∷ rest) first key low =
    let other : eq_by_cmp nat_cmp key first ≡ false = unsigned_tied key first ∙ grind (arith, nat_tests) in
    let later : find nat_cmp key (entries_from (first + 1) rest) ≡ None = find-below rest (first + 1) key (omega arith) in
    rw other later

-- from the first key on, what is in the slot is found
pub find-entries : (slots : List (Option Row)) (first n key : ℕ) → key ≡ first + n → find nat_cmp key (entries_from first slots) ≡ slice_index_or slots n None
find-entries [] first n key e = refl
find-entries (None ∷ rest) first zero key e = find-below rest (first + 1) key (omega arith)
find-entries (None ∷ rest) first (suc n) key e = find-entries rest (first + 1) n key (omega arith)
find-entries (Some row ∷ rest) first zero key e =
    let same : eq_by_cmp nat_cmp key first ≡ true = unsigned_tied key first ∙ eq-eqb key first (omega arith) in
    rw same refl
find-entries (Some row ∷ rest) first (suc n) key e =
    let other : eq_by_cmp nat_cmp key first ≡ false = unsigned_tied key first ∙ grind (arith, nat_tests) in
    let later : find nat_cmp key (entries_from (first + 1) rest) ≡ slice_index_or rest n None = find-entries rest (first + 1) n key (omega arith) in
    rw other later

-- what is kept in the slot is what the slab has there
pub get-rows_of : (s : Slab Row) (slot : ℕ) → get (rows_of s) slot ≡ slab.get s slot
get-rows_of s slot = get-from_entries nat_cmp_total (entries s) slot ∙ find-entries s.slots 0 slot slot (omega arith)

-- at each slot, after a change of one
at_slot : (s s' : Slab Row) (slot : ℕ) (o : Option Row) → Updates s s' slot o → (q : ℕ) (b : Bool) → eqb q slot ≡ b → slab.get s' q ≡ cond b o (get (rows_of s) q)
at_slot s s' slot o u q true e =
    let same : q ≡ slot = eqb-true q slot e in
    ap (slab.get s') same ∙ u.changed
at_slot s s' slot o u q false e =
    let other : q ≢ slot = λ same. absurd (grind (arith, nat_tests)) in
    u.others q other ∙ sym (get-rows_of s q)

by_order : (s s' : Slab Row) (slot : ℕ) (o : Option Row) → Updates s s' slot o → (q : ℕ) → get (rows_of s') q ≡ cond (eq_by_cmp nat_cmp q slot) o (get (rows_of s) q)
by_order s s' slot o u q =
    get-rows_of s' q ∙ at_slot s s' slot o u q _ refl ∙ ap (λ b. cond b o (get (rows_of s) q)) (sym (unsigned_tied q slot))

-- the tickets of a slab after a change of one slot
pub rows_of-updates : (s s' : Slab Row) (slot : ℕ) (o : Option Row) → Updates s s' slot o → rows_of s' ≡ put slot o (rows_of s)
rows_of-updates s s' slot None u =
    same_map nat_cmp_total nat_cmp-IsAntisymmetric _ _ (λ q. by_order s s' slot None u q ∙ sym (get-remove nat_cmp_total (rows_of s) slot q))
rows_of-updates s s' slot (Some row) u =
    same_map nat_cmp_total nat_cmp-IsAntisymmetric _ _ (λ q. by_order s s' slot (Some row) u q ∙ sym (get-insert nat_cmp_total (rows_of s) slot row q))

-- a slot that has something is one of the slab's
inside : (slots : List (Option Row)) (slot : ℕ) (row : Row) → slice_index_or slots slot None ≡ Some row → slot < length slots
inside [] slot row e = absurd (cc)
inside (x ∷ xs) zero row e = omega arith
inside (x ∷ xs) (suc n) row e = let h = inside xs n row e in omega (arith, h)

-- a write through a reference to what is in the slot is a change of that slot
pub updates-with_value : (s : Slab Row) (slot : ℕ) (old row : Row) → slab.get s slot ≡ Some old → Updates s (with_value s slot row) slot (Some row)
updates-with_value s slot old row e = record {
  changed = let within : slot < length s.slots = inside s.slots slot old e in get_or-set_same s.slots slot (Some row) None within;
  others = λ other ne. get_or-set_other s.slots slot other (Some row) None ne;
}

-- what `Changes` says of the tickets
pub rows_of-changes : (change : Row → Option Row) (slot : ℕ) (s s' : Slab Row) (old : Row) → get (rows_of s) slot ≡ Some old → Changes change slot s s' → rows_of s' ≡ changed change slot (rows_of s) (get (rows_of s) slot)
rows_of-changes change slot s s' old there u =
    rows_of-updates s s' slot (change old) (u old (sym (get-rows_of s slot) ∙ there))
    ∙ ap (changed change slot (rows_of s)) (sym there)

-- a row that was written through a reference
pub changes-with_value : (change : Row → Option Row) (slot : ℕ) (s : Slab Row) (old row : Row) → slab.get s slot ≡ Some old → change old ≡ Some row → Changes change slot s (with_value s slot row)
changes-with_value change slot s old row e f other there =
    let same : old ≡ other = cc in
    let next : change other ≡ Some row = ap change (sym same) ∙ f in
    rw next (updates-with_value s slot old row e)

-- a row that was taken out
pub changes-removed : (change : Row → Option Row) (slot : ℕ) (s s' : Slab Row) (old : Row) → slab.get s slot ≡ Some old → change old ≡ None → Updates s s' slot None → Changes change slot s s'
changes-removed change slot s s' old e f u other there =
    let same : old ≡ other = cc in
    let next : change other ≡ None = ap change (sym same) ∙ f in
    rw next u
