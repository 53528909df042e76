-- What a change of the pages leaves of those that are Open.
use Rattle.std.proofs.Common.{◌≡◌, ◌≢◌, ℕ, ◌+◌, ◌-◌, ◌≤◌, Bool, true, false, cond, get_or, set, refl, sym, ap, ◌∙◌, subst, arith, inl, inr}
use Rattle.std.proofs.lemmas.Bool.Decides.{eqb_tells}
use Rattle.std.proofs.lemmas.List.{get_or-set_other, get_or-set_same, length-set}
use Rattle.flash_names.specs.declared.place.Label.{Label}
use Rattle.flash_pages.specs.declared.page_row.PageRow.{PageRow}
use Rattle.flash_pages.specs.declared.page_row.Bucket.{Bucket}
use Rattle.flash_pages.specs.declared.page_row.State.{State}
use Rattle.flash_pages.specs.declared.page_row.State.TheVariants.{Free, Open, Full, Ended}
use Rattle.flash_pages.specs.declared.pages.Opened.{Opened}
use Rattle.flash_pages.specs.declared.pages.Opened.TheVariants.{Page, NoPage}
use Rattle.flash_pages.specs.States.{is_free, is_open, is_full, is_ended}
use Rattle.flash_pages.specs.PageTable.{PageTable, IsAt, row_of, blank_row}
use Rattle.flash_pages.specs.Opening.{WasFree, next_opening, with_page_opened, open_row}
use Rattle.flash_pages.specs.Calls.{table_after, takes_live, HasLive, pins, unpins, ends, frees, opens, CanFree, has_ended}
use Rattle.flash_pages.proofs.LawLemmas.{Above, above, opened_free}

-- the label's page is Open still, with no more live records and bytes
pub record IsNoWorse (old new : PageTable) (label : Label) : Type 0 where
  pub at : IsAt is_open new label
  pub live : (row_of new label).live ≤ (row_of old label).live
  pub live_bytes : (row_of new label).live_bytes ≤ (row_of old label).live_bytes

-- each page that is Open is so still, but those of these labels
pub record KeepsOpen (but : Label → Bool) (old new : PageTable) : Type 0 where
  pub size : new.page_size ≡ old.page_size
  pub last : old.last_version ≤ new.last_version
  pub kept : (label : Label) → but label ≡ false → IsAt is_open old label → IsNoWorse old new label

-- no label
abbrev pub none : Label → Bool
none label = false

-- a row stays Open, with its version and no more live records and bytes
pub record RowKept (old new : PageRow) : Type 0 where
  pub version : new.version ≡ old.version
  pub state : is_open new.state ≡ true
  pub live : new.live ≤ old.live
  pub live_bytes : new.live_bytes ≤ old.live_bytes

row_same : (t : PageTable) (n : ℕ) (row : PageRow) (last : ℕ) (label : Label) → n ≢ label.page → IsAt is_open t label → IsNoWorse t (record t { rows = set t.rows n row; last_version = last }) label
row_same t n row last label other at =
    let same : get_or (set t.rows n row) label.page blank_row ≡ row_of t label = get_or-set_other t.rows n label.page row blank_row (λ is. other (sym is)) in
    record {
      at = record {
        inside = omega (arith, at.inside, length-set t.rows n row);
        version = ap (λ (r : PageRow). r.version) same ∙ at.version;
        state = subst (λ (r : PageRow). is_open r.state ≡ true) (sym same) at.state;
      };
      live = omega (arith, ap (λ (r : PageRow). r.live) same);
      live_bytes = omega (arith, ap (λ (r : PageRow). r.live_bytes) same);
    }

row_changed : (t : PageTable) (row : PageRow) (last : ℕ) (label : Label) → RowKept (row_of t label) row → IsAt is_open t label → IsNoWorse t (record t { rows = set t.rows label.page row; last_version = last }) label
row_changed t row last label kept at =
    let same : get_or (set t.rows label.page row) label.page blank_row ≡ row = get_or-set_same t.rows label.page row blank_row at.inside in
    record {
      at = record {
        inside = omega (arith, at.inside, length-set t.rows label.page row);
        version = ap (λ (r : PageRow). r.version) same ∙ kept.version ∙ at.version;
        state = subst (λ (r : PageRow). is_open r.state ≡ true) (sym same) kept.state;
      };
      live = omega (arith, ap (λ (r : PageRow). r.live) same, kept.live);
      live_bytes = omega (arith, ap (λ (r : PageRow). r.live_bytes) same, kept.live_bytes);
    }

-- where a row is put in the place of another, that of an Open page of these labels alone may change
pub set_keeps : (but : Label → Bool) (t : PageTable) (n : ℕ) (row : PageRow) (last : ℕ) → t.last_version ≤ last
    → ((label : Label) → n ≡ label.page → but label ≡ false → IsAt is_open t label → RowKept (row_of t label) row)
    → KeepsOpen but t (record t { rows = set t.rows n row; last_version = last })
set_keeps but t n row last higher here = record {
  size = refl;
  last = higher;
  kept = λ label other at.
      elim (eqb_tells n label.page) [
        | inl same ↦ subst (λ (k : ℕ). IsNoWorse t (record t { rows = set t.rows k row; last_version = last }) label) (sym same.1) (row_changed t row last label (here label same.1 other at) at)
        | inr differ ↦ row_same t n row last label differ.1 at
      ];
}

-- a page isn't Open where it is in another state
pub not_open : (row : PageRow) (passes : State → Bool) → ((state : State) → passes state ≡ true → is_open state ≡ false) → passes row.state ≡ true → is_open row.state ≡ true → ⊥
not_open row passes differ is other = let no : is_open row.state ≡ false = differ row.state is in cc

full_differs : (state : State) → is_full state ≡ true → is_open state ≡ false
full_differs Free is = refl
full_differs Open is = absurd (cc is)
full_differs Full is = refl
full_differs Ended is = refl

ended_differs : (state : State) → is_ended state ≡ true → is_open state ≡ false
ended_differs Free is = refl
ended_differs Open is = absurd (cc is)
ended_differs Full is = refl
ended_differs Ended is = refl

free_differs : (state : State) → is_free state ≡ true → is_open state ≡ false
free_differs Free is = refl
free_differs Open is = absurd (cc is)
free_differs Full is = refl
free_differs Ended is = refl

-- what stays the same keeps all
pub same_keeps : (but : Label → Bool) (t : PageTable) → KeepsOpen but t t
same_keeps but t = record {
  size = refl;
  last = omega arith;
  kept = λ label other at. record { at = at; live = omega arith; live_bytes = omega arith };
}

pub taken_keeps : (t : PageTable) (label : Label) (bytes : ℕ) → HasLive t label bytes → KeepsOpen none t (table_after (takes_live label bytes) t)
taken_keeps t label bytes has =
    set_keeps none t label.page _ t.last_version (omega arith) (λ other same _ at.
    subst (λ (k : ℕ). RowKept (row_of t other) (let row : PageRow = get_or t.rows k blank_row in record row { live = row.live - 1; live_bytes = row.live_bytes - bytes })) (sym same)
    (record { version = refl; state = at.state; live = omega arith; live_bytes = omega arith }))

pub unpinned_keeps : (t : PageTable) (label : Label) → KeepsOpen none t (table_after (unpins label) t)
unpinned_keeps t label =
    set_keeps none t label.page _ t.last_version (omega arith) (λ other same _ at.
    subst (λ (k : ℕ). RowKept (row_of t other) (let row : PageRow = get_or t.rows k blank_row in record row { pins = row.pins - 1 })) (sym same)
    (record { version = refl; state = at.state; live = omega arith; live_bytes = omega arith }))

pub pinned_keeps : (t : PageTable) (label : Label) → KeepsOpen none t (table_after (pins label) t)
pinned_keeps t label = either (has_ended t label) where
  either : (ended : Bool) → KeepsOpen none t (cond ended t (record t { rows = set t.rows label.page (let row : PageRow = row_of t label in record row { pins = row.pins + 1 }) }))
  either true = same_keeps none t
  either false =
      set_keeps none t label.page _ t.last_version (omega arith) (λ other same _ at.
      subst (λ (k : ℕ). RowKept (row_of t other) (let row : PageRow = get_or t.rows k blank_row in record row { pins = row.pins + 1 })) (sym same)
      (record { version = refl; state = at.state; live = omega arith; live_bytes = omega arith }))

-- a change of a page that isn't Open keeps all that are
pub other_keeps : (but : Label → Bool) (t : PageTable) (n : ℕ) (row : PageRow) (last : ℕ) (passes : State → Bool) → ((state : State) → passes state ≡ true → is_open state ≡ false) → t.last_version ≤ last → passes (get_or t.rows n blank_row).state ≡ true → KeepsOpen but t (record t { rows = set t.rows n row; last_version = last })
other_keeps but t n row last passes differ higher is =
    set_keeps but t n row last higher (λ other same _ at.
    absurd (not_open (row_of t other) passes differ (subst (λ (k : ℕ). passes (get_or t.rows k blank_row).state ≡ true) same is) at.state))

pub ended_keeps : (t : PageTable) (label : Label) → IsAt is_full t label → KeepsOpen none t (table_after (ends label) t)
ended_keeps t label at = other_keeps none t label.page _ t.last_version is_full full_differs (omega arith) at.state

pub freed_keeps : (t : PageTable) (label : Label) → CanFree t label → KeepsOpen none t (table_after (frees label) t)
freed_keeps t label may = other_keeps none t label.page _ t.last_version is_ended ended_differs (omega arith) may.at.state

opened_by : (t : PageTable) (bucket : Bucket) (opened : Opened) → WasFree t opened → Above t.last_version opened → KeepsOpen none t (with_page_opened t bucket opened)
unfolding Above
opened_by t bucket NoPage free high = same_keeps none t
opened_by t bucket (Page label) free high =
    other_keeps none t label.page (open_row bucket label.version) label.version is_free free_differs (omega (arith, high)) free.1

pub opened_keeps : (t : PageTable) (bucket : Bucket) → KeepsOpen none t (table_after (opens bucket) t)
opened_keeps t bucket = opened_by t bucket (next_opening t bucket) (opened_free t bucket) (above t bucket)
