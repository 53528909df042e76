-- A script that was played, from its opening to its output.
use Rattle.std.proofs.Common.{◌≡◌, ℕ, ◌+◌, ◌<◌, suc, Bool, List, [], ◌∷◌, length, get_or, drop, Option, None, Some, IsTrue, is_some, refl, sym, ◌∙◌, ap, subst, arith}
use Rattle.std.specs.Prelude.{Result, Ok, Err, IfOk, OnOk, replicate}
use Rattle.std.proofs.Math.Seq.{drop-cons}
use Rattle.flash_names.specs.declared.geometry.Geometry.{Geometry}
use Rattle.flash_entry.specs.declared.entry.Entry.{Entry}
use Rattle.flash_machine.specs.Cache.{Cache, first_cache}
use Rattle.flash_calls.specs.Store.{Store, Desk, first_desk}
use Rattle.flash_play.specs.Numbers.{IsNumbered}
use Rattle.flash_play.specs.Playing.{StoreState, first_play, play_of}
use Rattle.flash_seats.specs.declared.seat.Seat as code
use Rattle.flash_seats.specs.Seats.{entries_of, kept_of}
use Rattle.flash_trace.specs.Output.{journal_if, play_text, answered, output}
use Rattle.flash_script.specs.Scripts.{Script}
use Rattle.flash_trace.specs.Seats.{AreSeats, IsPlay, TraceGoesOn, shown}
use Rattle.flash_trace.specs.declared.play.Play as code_play
use Rattle.flash_trace.proofs.Playing.SeatLists.{none_made, all_shown}

-- what follows from an answer's Ok
pub if_ok : {T E : Type 0} (r : Result T E) (P Q : T → Type 0) → ((x : T) → P x → Q x) → IfOk r P → IfOk r Q
if_ok (Ok x) P Q follows holds = follows x holds
if_ok (Err e) P Q follows holds = tt

pub on_ok : {T E : Type 0} (r : Result T E) (P Q : Type 0) → (P → Q) → OnOk r P → OnOk r Q
on_ok (Ok x) P Q follows holds = follows holds
on_ok (Err e) P Q follows holds = tt

pub both_ok : {T E : Type 0} (r : Result T E) (P Q : Type 0) → OnOk r P → OnOk r Q → OnOk r (P × Q)
both_ok (Ok x) P Q first second = (first, second)
both_ok (Err e) P Q first second = tt

-- what is left of a list begins with the item at that place
pub front_item : {A : Type 0} (all : List A) (i : ℕ) (item : A) → i < length all → item ≡ get_or all i item → drop i all ≡ item ∷ drop (i + 1) all
front_item all i item within is =
    let next : suc i ≡ i + 1 = omega arith in
    drop-cons all i item within ∙ ap (λ x. x ∷ drop (suc i) all) (sym is) ∙ ap (λ n. item ∷ drop n all) next

-- the entries of a journal that tells them
pub told_entries : (journal : List Entry) (told : Option (List Entry)) → Some journal ≡ told → journal ≡ entries_of told
told_entries journal told is = ap entries_of is

-- a store that was opened and no session, before the first step
module _ (g : Geometry) (s : Store) (p : code_play.Play) (told : s.told ≡ Some []) (cache : s.cache ≡ first_cache) (desk : s.desk ≡ first_desk g) (printed : p.printed.items ≡ []) (seats : p.seats.items ≡ replicate 16 None) where
  first_kept : kept_of s ≡ (first_play g).kept
  first_kept =
      let by : Option (List Entry) → Cache → Desk → StoreState = λ t c d. record { journal = entries_of t; cache = c; desk = d } in
      ap (λ (t : Option (List Entry)). by t s.cache s.desk) told ∙ ap (λ (c : Cache). by (Some []) c s.desk) cache ∙ ap (λ (d : Desk). by (Some []) first_cache d) desk

  pub first_is : IsPlay (first_play g) s p
  first_is = record {
    kept = sym first_kept;
    printed = sym printed;
    sixteen = refl;
    seats = subst (AreSeats s.geometry.item_max 1 (first_play g).seats) (sym seats) (none_made s.geometry.item_max 1 16);
  }

  first_numbered : IsNumbered (first_play g)
  first_numbered session is = record { pass = is.some; seq = tt }

  pub first_goes_on : TraceGoesOn s p
  first_goes_on = record {
    tells = subst (λ (t : Option (List Entry)). IsTrue (is_some t)) (sym told) refl;
    places = ap (λ (l : List (Option code.Seat)). length l) seats;
    play = first_play g;
    is = first_is;
    numbered = first_numbered;
  }

-- what the code prints of a play is the output of the script that leads to it
pub output_is : (script : Script) (with_journal : Bool) (s : Store) (p : code_play.Play) (journal : List Entry) (count : ℕ) (out : List ℕ)
    → out ≡ play_text p.printed.items (shown p.seats.items) (journal_if with_journal script.first_line journal) count
    → journal ≡ entries_of s.told → count ≡ length script.steps → IsPlay (play_of script.geometry script.steps) s p → out ≡ output script with_journal
output_is script with_journal s p journal count out printed told counted is =
    let play = play_of script.geometry script.steps in
    let by : List ℕ → List (Option (List ℕ)) → List Entry → ℕ → List ℕ = λ l a j n. play_text l a (journal_if with_journal script.first_line j) n in
    printed
    ∙ ap (λ (l : List ℕ). by l (shown p.seats.items) journal count) (sym is.printed)
    ∙ ap (λ (a : List (Option (List ℕ))). by play.printed a journal count) (all_shown s.geometry.item_max 1 play.seats p.seats.items is.seats)
    ∙ ap (λ (j : List Entry). by play.printed (answered play.seats) j count) (told ∙ sym (ap (λ (k : StoreState). k.journal) is.kept))
    ∙ ap (by play.printed (answered play.seats) play.kept.journal) counted
