-- The victims are the stated pages.
use Rattle.std.proofs.Common.{◌≡◌, ℕ, ◌+◌, ◌*◌, ◌<◌, Bool, true, false, not, ◌&&◌, cond, nat_le, length, get_or, Option, None, Some, MatchOption, option_map, refl, sym, subst, arith}
use Rattle.std.proofs.lemmas.Bool.Decides.{nat_tests}
use Rattle.std.proofs.lemmas.Bool.{leb-true, le-leb}
use Rattle.flash_names.specs.declared.place.Label.{Label}
use Rattle.flash_pages.specs.declared.page_row.PageRow.{PageRow}
use Rattle.flash_pages.specs.declared.victims.Candidate.{Candidate}
use Rattle.flash_pages.specs.States.{is_full}
use Rattle.flash_pages.specs.PageTable.{PageTable, blank_row, free_count, row_of, IsAt}
use Rattle.flash_pages.specs.Least.{least_from}
use Rattle.flash_pages.specs.Victims.{to_evict, to_compact, is_under, MayEvict, IsOldest, NoneToEvict, MayCompact, IsEmptiest, NoneToCompact, victim_evict, victim_compact}
use Rattle.flash_pages.proofs.LeastLemmas.{Chosen, IsFirstLeast, least_is}

-- the candidate of a page that is chosen
abbrev as_candidate : ℕ → ℕ → ℕ → Candidate
as_candidate number version weight = record { label = record { page = number; version = version }; weight = weight }

-- what a page is that is a candidate
record Tells (number version weight : ℕ) (test : Bool) (chosen : Candidate) : Type 0 where
  passes : test ≡ true
  page_is : number ≡ chosen.label.page
  version_is : version ≡ chosen.label.version
  weight_is : weight ≡ chosen.weight

tells : (number version weight : ℕ) (test : Bool) (chosen : Candidate) → cond test (Some (as_candidate number version weight)) None ≡ Some chosen → Tells number version weight test chosen
tells number version weight true chosen is =
    let same : as_candidate number version weight ≡ chosen = cc in
    subst (λ (c : Candidate). Tells number version weight true c) same (record { passes = refl; page_is = refl; version_is = refl; weight_is = refl })
tells number version weight false chosen is = absurd (cc is)

told : (number version weight : ℕ) (test : Bool) (chosen : Candidate) → Tells number version weight test chosen → cond test (Some (as_candidate number version weight)) None ≡ Some chosen
told number version weight test chosen is =
    let first : Option Candidate = Some (as_candidate number version weight) in
    let same : first ≡ Some chosen = rw (is.page_is, is.version_is, is.weight_is) refl in
    subst (λ (b : Bool). cond b (Some (as_candidate number version weight)) None ≡ Some chosen) (sym is.passes) same

two : (a b : Bool) → a && not b ≡ true → (a ≡ true) × (b ≡ false)
two true false both = (refl, refl)
two true true both = absurd (cc both)
two false b both = absurd (cc both)

three : (a b c : Bool) → a && not b && c ≡ true → (a ≡ true) × (b ≡ false) × (c ≡ true)
three true false true all = (refl, refl, refl)
three true false false all = absurd (cc all)
three true true c all = absurd (cc all)
three false b c all = absurd (cc all)

-- the test of a page to evict
abbrev evict_test : Option Label → ℕ → PageRow → Bool
evict_test under number row = is_full row.state && not (is_under under (record { page = number; version = row.version }))

may_evict : (t : PageTable) (label : Label) → MayEvict t label → (k : ℕ) → k ≡ 0 + label.page → to_evict t.under k (get_or t.rows label.page blank_row) ≡ Some (record { label = label; weight = label.version })
may_evict t label may k at =
    let row : PageRow = row_of t label in
    let page : k ≡ label.page = omega (arith, at) in
    let full : is_full row.state ≡ true = may.at.state in
    let other : is_under t.under (record { page = label.page; version = label.version }) ≡ false = may.other in
    let passes : evict_test t.under k row ≡ true = rw (full, page, may.at.version, other) refl in
    told k row.version row.version (evict_test t.under k row) (record { label = label; weight = label.version }) (record { passes = passes; page_is = page; version_is = may.at.version; weight_is = may.at.version })

-- a candidate to evict is such a page
evicts : (t : PageTable) (number : ℕ) (chosen : Candidate) → number < length t.rows → to_evict t.under number (get_or t.rows number blank_row) ≡ Some chosen → (number ≡ chosen.label.page) × (chosen.weight ≡ chosen.label.version) × MayEvict t chosen.label
evicts t number chosen inside is =
    let row : PageRow = get_or t.rows number blank_row in
    let parts : Tells number row.version row.version (evict_test t.under number row) chosen = tells number row.version row.version (evict_test t.under number row) chosen is in
    let both = two (is_full row.state) (is_under t.under (record { page = number; version = row.version })) parts.passes in
    let other : is_under t.under (record { page = chosen.label.page; version = chosen.label.version }) ≡ false = rw (← parts.page_is, ← parts.version_is) both.1 in
    let at : IsAt is_full t (record { page = number; version = chosen.label.version }) = record { inside = inside; version = parts.version_is; state = both.0 } in
    (parts.page_is, cc, record { at = subst (λ (n : ℕ). IsAt is_full t (record { page = n; version = chosen.label.version })) parts.page_is at; other = other })

evicted_of : (t : PageTable) (least : Option Candidate) → Chosen (to_evict t.under) 0 t.rows least → (few : Bool) → nat_le (free_count t) t.drop_under ≡ few → MatchOption (cond few (option_map (λ c. c.label) least) None) (NoneToEvict t) (IsOldest t)
evicted_of t None chosen true few = λ under label may.
    (let none : to_evict t.under label.page (get_or t.rows label.page blank_row) ≡ None = chosen label.page may.at.inside label.page (omega arith) in
    let some : to_evict t.under label.page (get_or t.rows label.page blank_row) ≡ Some (record { label = label; weight = label.version }) = may_evict t label may label.page (omega arith) in
    cc)
evicted_of t (Some c) chosen true few =
    let least : IsFirstLeast (to_evict t.under) 0 t.rows c chosen.0 = chosen.1 in
    let parts = evicts t chosen.0 c least.inside (least.is chosen.0 (omega arith)) in
    record {
      few = leb-true _ _ few;
      may = parts.2;
      oldest = λ other may. omega (arith, parts.1, least.least other.page (record { label = other; weight = other.version }) may.at.inside (may_evict t other may));
    }
evicted_of t None chosen false few = λ under. absurd (grind (arith, nat_tests, under, few))
evicted_of t (Some c) chosen false few = λ under. absurd (grind (arith, nat_tests, under, few))

-- the page to evict is the oldest
pub evicted : (t : PageTable) → MatchOption (victim_evict t) (NoneToEvict t) (IsOldest t)
evicted t = evicted_of t (least_from (to_evict t.under) 0 t.rows) (least_is (to_evict t.under) 0 t.rows) (nat_le (free_count t) t.drop_under) refl

-- the test of a page to compact
abbrev compact_test : ℕ → PageRow → Bool
compact_test most row = is_full row.state && not row.spared && nat_le (100 * row.live_bytes) most

-- the most that 100 times the live bytes of a page to compact are
abbrev most_of : PageTable → ℕ
most_of t = t.max_frag * t.page_size

may_compact : (t : PageTable) (label : Label) → MayCompact t label → (k : ℕ) → k ≡ 0 + label.page → to_compact (most_of t) k (get_or t.rows label.page blank_row) ≡ Some (record { label = label; weight = (row_of t label).live_bytes })
may_compact t label may k at =
    let row : PageRow = row_of t label in
    let page : k ≡ label.page = omega (arith, at) in
    let full : is_full row.state ≡ true = may.at.state in
    let little : nat_le (100 * row.live_bytes) (most_of t) ≡ true = le-leb _ _ may.fragmented in
    let passes : compact_test (most_of t) row ≡ true = rw (full, may.unspared, little) refl in
    told k row.version row.live_bytes (compact_test (most_of t) row) (record { label = label; weight = row.live_bytes }) (record { passes = passes; page_is = page; version_is = may.at.version; weight_is = refl })

-- a candidate to compact is such a page
compacts : (t : PageTable) (number : ℕ) (chosen : Candidate) → number < length t.rows → to_compact (most_of t) number (get_or t.rows number blank_row) ≡ Some chosen → (number ≡ chosen.label.page) × ((row_of t chosen.label).live_bytes ≡ chosen.weight) × MayCompact t chosen.label
compacts t number chosen inside is =
    let row : PageRow = get_or t.rows number blank_row in
    let parts : Tells number row.version row.live_bytes (compact_test (most_of t) row) chosen = tells number row.version row.live_bytes (compact_test (most_of t) row) chosen is in
    let all = three (is_full row.state) row.spared (nat_le (100 * row.live_bytes) (most_of t)) parts.passes in
    let may : MayCompact t (record { page = number; version = chosen.label.version }) = record {
      at = record { inside = inside; version = parts.version_is; state = all.0 };
      unspared = all.1;
      fragmented = leb-true _ _ all.2;
    } in (
      parts.page_is,
      subst (λ (n : ℕ). (get_or t.rows n blank_row).live_bytes ≡ chosen.weight) parts.page_is parts.weight_is,
      subst (λ (n : ℕ). MayCompact t (record { page = n; version = chosen.label.version })) parts.page_is may,
    )

compacted_of : (t : PageTable) (least : Option Candidate) → Chosen (to_compact (most_of t)) 0 t.rows least → (few : Bool) → nat_le (free_count t) t.compact_under ≡ few → MatchOption (cond few (option_map (λ c. c.label) least) None) (NoneToCompact t) (IsEmptiest t)
compacted_of t None chosen true few = λ under label may.
    (let none : to_compact (most_of t) label.page (get_or t.rows label.page blank_row) ≡ None = chosen label.page may.at.inside label.page (omega arith) in
    let some : to_compact (most_of t) label.page (get_or t.rows label.page blank_row) ≡ Some (record { label = label; weight = (row_of t label).live_bytes }) = may_compact t label may label.page (omega arith) in
    cc)
compacted_of t (Some c) chosen true few =
    let least : IsFirstLeast (to_compact (most_of t)) 0 t.rows c chosen.0 = chosen.1 in
    let parts = compacts t chosen.0 c least.inside (least.is chosen.0 (omega arith)) in
    record {
      few = leb-true _ _ few;
      may = parts.2;
      fewest = λ other may. omega (arith, parts.1, least.least other.page (record { label = other; weight = (row_of t other).live_bytes }) may.at.inside (may_compact t other may));
      first = λ other may before. omega (arith, parts.1, least.first other.page (record { label = other; weight = (row_of t other).live_bytes }) (omega (arith, parts.0, before)) (may_compact t other may));
    }
compacted_of t None chosen false few = λ under. absurd (grind (arith, nat_tests, under, few))
compacted_of t (Some c) chosen false few = λ under. absurd (grind (arith, nat_tests, under, few))

-- the page to compact is the emptiest
pub compacted : (t : PageTable) → MatchOption (victim_compact t) (NoneToCompact t) (IsEmptiest t)
compacted t = compacted_of t (least_from (to_compact (most_of t)) 0 t.rows) (least_is (to_compact (most_of t)) 0 t.rows) (nat_le (free_count t) t.compact_under) refl
