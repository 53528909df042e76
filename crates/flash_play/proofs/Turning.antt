-- A session's single turn leaves it up to its bytes.
use Rattle.std.proofs.Common.{◌≡◌, ℕ, ◌-◌, Bool, true, false, List, [], ◌∷◌, ◌++◌, length, Option, None, Some, refl, sym, ◌∙◌, ap, subst, arith, append_assoc, if◌then◌else◌}
use Rattle.std.specs.Prelude.{nat_lt, slice_get, drop}
use Rattle.std.proofs.lemmas.Bool.Decides.{nat_tests}
use Rattle.std.proofs.lemmas.List.{append-nil}
use Rattle.flash_names.specs.declared.geometry.Geometry.{Geometry}
use Rattle.flash_entry.specs.declared.ask.Ask.{Ask}
use Rattle.flash_entry.specs.declared.entry.Entry.{Entry}
use Rattle.flash_entry.specs.declared.found.Told.{Told}
use Rattle.flash_commands.specs.declared.place.Place.{Place}
use Rattle.flash_commands.specs.declared.place.Place.TheVariants.{InLine, InSkip, AtQuit, TooLong}
use Rattle.flash_commands.specs.Commands.{commands_of}
use Rattle.flash_commands.specs.Laws.{IsEnd, joined}
use Rattle.flash_session.specs.Pieces.{piece_after, next_piece}
use Rattle.flash_session.proofs.Pieces.{joined_both, piece_behind}
use Rattle.flash_play.specs.Playing.{Seat, Writes, Does, Ends, Rests, need_by, is_end}
use Rattle.flash_play.proofs.Serving.{IsServed}
use Rattle.flash_play.proofs.UpTo.{ByteLaws, IsUpTo, steps_in, at_end}

-- what is next, by what was found
pub writes_a_piece : (piece : Option (List ℕ)) (ask : Option Ask) (end : Bool) (p : List ℕ) → need_by piece ask end ≡ Writes p → piece ≡ Some p
writes_a_piece (Some q) ask end p is = let same : q ≡ p = cc is in ap Some same
writes_a_piece None (Some a) end p is = absurd (cc is)
writes_a_piece None None true p is = absurd (cc is)
writes_a_piece None None false p is = absurd (cc is)

pub does_an_ask : (piece : Option (List ℕ)) (ask : Option Ask) (end : Bool) (a : Ask) → need_by piece ask end ≡ Does a → ask ≡ Some a
does_an_ask (Some q) ask end a is = absurd (cc is)
does_an_ask None (Some b) end a is = let same : b ≡ a = cc is in ap Some same
does_an_ask None None true a is = absurd (cc is)
does_an_ask None None false a is = absurd (cc is)

pub ends_there : (piece : Option (List ℕ)) (ask : Option Ask) (end : Bool) → need_by piece ask end ≡ Ends → end ≡ true
ends_there (Some q) ask end is = absurd (cc is)
ends_there None (Some b) end is = absurd (cc is)
ends_there None None true is = refl
ends_there None None false is = absurd (cc is)

pub rests_there : (piece : Option (List ℕ)) (ask : Option Ask) (end : Bool) → need_by piece ask end ≡ Rests → end ≡ false
rests_there (Some q) ask end is = absurd (cc is)
rests_there None (Some b) end is = absurd (cc is)
rests_there None None true is = absurd (cc is)
rests_there None None false is = refl

-- what is found of pieces: some that are empty are before it
record IsFound (piece : List ℕ) (pieces : List (List ℕ)) : Type 0 where
  passed : List (List ℕ)
  behind : List (List ℕ)
  parts : pieces ≡ passed ++ piece ∷ behind
  nothing : joined passed ≡ []

found_in : (pieces : List (List ℕ)) (piece : List ℕ) → piece_after 0 pieces ≡ Some piece → IsFound piece pieces
found_in [] piece is = absurd (cc is)
found_in ([] ∷ pieces) piece is =
    let rest = found_in pieces piece is in
    record { passed = [] ∷ rest.passed; behind = rest.behind; parts = ap (λ (l : List (List ℕ)). [] ∷ l) rest.parts; nothing = rest.nothing }
found_in ((b ∷ bytes) ∷ pieces) piece is =
    let some : nat_lt 0 (length (b ∷ bytes)) ≡ true = grind (arith, nat_tests) in
    let found : Some (b ∷ bytes) ≡ Some piece = sym (ap (λ t. if t then Some (drop 0 (b ∷ bytes)) else piece_after (0 - length (b ∷ bytes)) pieces) some) ∙ is in
    let same : b ∷ bytes ≡ piece = cc found in
    record { passed = []; behind = pieces; parts = ap (λ (p : List ℕ). p ∷ pieces) same; nothing = refl }

-- what is at the seam of two lists begins the second
begins_second : (xs ys : List Ask) (n : ℕ) (ask : Ask) → n ≡ length xs → slice_get (xs ++ ys) n ≡ Some ask → (more : List Ask) × (ys ≡ ask ∷ more)
begins_second xs ys n ask is found = at_seam xs (ap (λ (k : ℕ). slice_get (xs ++ ys) k) (sym is) ∙ found)
  where
    first_is : (l : List Ask) → slice_get l 0 ≡ Some ask → (more : List Ask) × (l ≡ ask ∷ more)
    first_is [] found = absurd (cc found)
    first_is (a ∷ l) found = let same : a ≡ ask = cc found in (l, ap (λ (x : Ask). x ∷ l) same)

    at_seam : (l : List Ask) → slice_get (l ++ ys) (length l) ≡ Some ask → (more : List Ask) × (ys ≡ ask ∷ more)
    at_seam [] found = first_is ys found
    at_seam (x ∷ l) found = at_seam l found

-- a place isn't an end and no end
pub not_both : (place : Place) → IsEnd place → is_end place ≡ false → ⊥
not_both AtQuit end free = cc free
not_both TooLong end free = cc free
not_both InLine end free = end
not_both InSkip end free = end

module _ (laws : ByteLaws) (g : Geometry) (session : ℕ) (given turned : List ℕ) (since : Bool) (journal : List Entry) (seat : Seat) (up : IsUpTo g session given turned since journal seat) where
  -- after a piece of its replies is written
  pub wrote : (piece : List ℕ) → next_piece g.item_max seat.given seat.told seat.replies ≡ Some piece → IsUpTo g session given turned true journal (record seat { replies = seat.replies ++ piece })
  wrote piece next =
      let there : piece_after (length seat.replies) (up.said ++ up.unsaid) ≡ Some piece = ap (piece_after (length seat.replies)) (sym up.unsaid_are) ∙ next in
      let behind : piece_after (length (joined up.said)) (up.said ++ up.unsaid) ≡ Some piece = subst (λ (l : List ℕ). piece_after (length l) (up.said ++ up.unsaid) ≡ Some piece) up.replied there in
      let found = found_in up.unsaid piece (sym (piece_behind up.said up.unsaid) ∙ behind) in
      record {
        has = up.has;
        alike = up.alike;
        ended = up.ended;
        done = up.done;
        later = up.later;
        later_are = up.later_are;
        served = up.served;
        said = up.said ++ (found.passed ++ piece ∷ []);
        unsaid = found.behind;
        unsaid_are =
            up.unsaid_are ∙ ap (λ (l : List (List ℕ)). up.said ++ l) (found.parts ∙ sym (append_assoc found.passed (piece ∷ []) found.behind))
            ∙ sym (append_assoc up.said (found.passed ++ piece ∷ []) found.behind);
        replied =
            let last : joined (found.passed ++ piece ∷ []) ≡ piece = joined_both found.passed (piece ∷ []) ∙ ap (λ (l : List ℕ). l ++ joined (piece ∷ [])) found.nothing ∙ append-nil piece in
            ap (λ (l : List ℕ). l ++ piece) up.replied ∙ ap (λ (l : List ℕ). joined up.said ++ l) (sym last) ∙ sym (joined_both up.said (found.passed ++ piece ∷ []));
        exact = λ none. absurd (cc none);
      }

  -- after its next step is done, which was served
  pub did : (journal2 : List Entry) (ask : Ask) (answer : Told) → slice_get (steps_in g seat.given) (length seat.told) ≡ Some ask
      → IsServed g session journal2 (up.done ++ ask ∷ []) (seat.told ++ answer ∷ []) → IsUpTo g session given turned true journal2 (record seat { told = seat.told ++ answer ∷ [] })
  did journal2 ask answer next served =
      let later = begins_second up.done up.later (length seat.told) ask up.served.count (ap (λ (l : List Ask). slice_get l (length seat.told)) (sym up.later_are) ∙ next) in
      let pieces = laws.pieces.told (commands_of g.item_max seat.given).asked seat.told (answer ∷ []) in
      record {
        has = up.has;
        alike = up.alike;
        ended = up.ended;
        done = up.done ++ ask ∷ [];
        later = later.0;
        later_are = up.later_are ∙ ap (λ (l : List Ask). up.done ++ l) later.1 ∙ sym (append_assoc up.done (ask ∷ []) later.0);
        served = served;
        said = up.said;
        unsaid = up.unsaid ++ pieces.more;
        unsaid_are = pieces.parts ∙ ap (λ (l : List (List ℕ)). l ++ pieces.more) up.unsaid_are ∙ append_assoc up.said up.unsaid pieces.more;
        replied = up.replied;
        exact = λ none. absurd (cc none);
      }

  -- where its bytes have an end
  pub ended : is_end (commands_of g.item_max seat.given).place ≡ true → IsUpTo g session given turned true journal (record seat { closed = true })
  ended end = record {
    has = λ free. absurd (cc free);
    alike = up.alike;
    ended = λ closed. at_end (commands_of g.item_max seat.given).place end;
    done = up.done;
    later = up.later;
    later_are = up.later_are;
    served = up.served;
    said = up.said;
    unsaid = up.unsaid;
    unsaid_are = up.unsaid_are;
    replied = up.replied;
    exact = λ none. absurd (cc none);
  }

  -- and where they have none
  has_all : is_end (commands_of g.item_max seat.given).place ≡ false → (closed : Bool) → seat.closed ≡ closed → seat.given ≡ given
  has_all free false is_open = up.has is_open
  has_all free true is_closed = absurd (not_both (commands_of g.item_max seat.given).place (up.ended is_closed) free)

  pub rested : is_end (commands_of g.item_max seat.given).place ≡ false → IsUpTo g session given turned true journal (record seat { closed = false })
  rested free = record {
    has = λ is_open. has_all free seat.closed refl;
    alike = up.alike;
    ended = λ closed. absurd (cc closed);
    done = up.done;
    later = up.later;
    later_are = up.later_are;
    served = up.served;
    said = up.said;
    unsaid = up.unsaid;
    unsaid_are = up.unsaid_are;
    replied = up.replied;
    exact = λ none. absurd (cc none);
  }
