-- What is read of bytes with more bytes after them.
use Rattle.std.proofs.Common.{◌≡◌, ℕ, zero, suc, ◌-◌, List, [], ◌∷◌, ◌++◌, refl, sym, ◌∙◌, ap, append_assoc}
use Rattle.std.proofs.lemmas.List.{append-nil}
use Rattle.flash_commands.specs.Parts.{Asked, Front, Takes, Rest, Read}
use Rattle.flash_commands.specs.declared.place.Place.{Place}
use Rattle.flash_commands.specs.declared.place.Place.TheVariants.{InLine, AtQuit, TooLong, InSkip}
use Rattle.flash_commands.specs.Commands.{line_limit, front_of, with_asked, after_front, read_from, commands_of}
use Rattle.flash_commands.specs.Reading.{Reader, HasRead}
use Rattle.flash_commands.specs.Laws.{read_on, joined, read_pieces, IsEnd, EndsAlike}
use Rattle.flash_commands.proofs.Fronts.{FrontStays, front_stays}

pub asked_twice : (one two : List Asked) (read : Read) → with_asked one (with_asked two read) ≡ with_asked (one ++ two) read
asked_twice one two read = ap (λ (asked : List Asked). record read { asked = asked }) (sym (append_assoc one two read.asked))

module _ (item_max limit : ℕ) where
  -- what is read of more bytes after a reading
  abbrev reads_on : Read → List ℕ → Read
  reads_on read more = with_asked read.asked (read_from item_max limit read.skip read.place (read.rest ++ more))

  -- nothing is read of these bytes
  abbrev pub unread : Place → List ℕ → Read
  unread place bytes = record { asked = []; skip = 0; place = place; rest = bytes }

  round_goes_on : (front longer : Front) (place : Place) (b : ℕ) (bytes more : List ℕ) → FrontStays front longer → front_of item_max limit place (b ∷ bytes ++ more) ≡ longer
      → ((skip : ℕ) (next : Place) → read_from item_max limit skip next (bytes ++ more) ≡ reads_on (read_from item_max limit skip next bytes) more)
      → read_from item_max limit 0 place (b ∷ bytes ++ more)
      ≡ reads_on (after_front front (λ skip next. read_from item_max limit skip next bytes) (unread place (b ∷ bytes))) more
  round_goes_on (Takes asked n next) longer place b bytes more stays is rest =
      ap (λ (f : Front). after_front f (λ skip next. read_from item_max limit skip next (bytes ++ more)) (unread place (b ∷ bytes ++ more))) (is ∙ stays)
      ∙ ap (with_asked asked) (rest (n - 1) next)
      ∙ asked_twice asked (read_from item_max limit (n - 1) next bytes).asked _
  round_goes_on Rest longer place b bytes more stays is rest = refl

  pub goes_on : (skip : ℕ) (place : Place) (bytes more : List ℕ) → read_from item_max limit skip place (bytes ++ more) ≡ reads_on (read_from item_max limit skip place bytes) more
  goes_on skip place [] more = refl
  goes_on (suc skip) place (b ∷ bytes) more = goes_on skip place bytes more
  goes_on zero place (b ∷ bytes) more =
      round_goes_on (front_of item_max limit place (b ∷ bytes)) (front_of item_max limit place (b ∷ bytes ++ more)) place b bytes more
      (front_stays item_max limit place (b ∷ bytes) more) refl (λ skip next. goes_on skip next bytes more)

  -- nothing is read at an end
  pub record Still (place : Place) (read : Read) : Type 0 where
    pub asked : read.asked ≡ []
    pub place_is : read.place ≡ place

  pub still : (skip : ℕ) (place : Place) (bytes : List ℕ) → IsEnd place → Still place (read_from item_max limit skip place bytes)
  still skip place [] end = record { asked = refl; place_is = refl }
  still (suc skip) place (b ∷ bytes) end = still skip place bytes end
  still zero AtQuit (b ∷ bytes) end = record { asked = refl; place_is = refl }
  still zero TooLong (b ∷ bytes) end = record { asked = refl; place_is = refl }
  still zero InLine (b ∷ bytes) end = absurd end
  still zero InSkip (b ∷ bytes) end = absurd end

module _ (item_max : ℕ) where
  pub pieces_read : (bytes : List ℕ) (pieces : List (List ℕ)) → read_pieces item_max (commands_of item_max bytes) pieces ≡ commands_of item_max (bytes ++ joined pieces)
  pieces_read bytes [] = ap (commands_of item_max) (sym (append-nil bytes))
  pieces_read bytes (piece ∷ pieces) =
      ap (λ (read : Read). read_pieces item_max read pieces) (sym (goes_on item_max line_limit 0 InLine bytes piece))
      ∙ pieces_read (bytes ++ piece) pieces ∙ ap (commands_of item_max) (append_assoc bytes piece (joined pieces))

  pub ends_alike : (bytes more : List ℕ) → IsEnd (commands_of item_max bytes).place → EndsAlike (commands_of item_max bytes) (commands_of item_max (bytes ++ more))
  ends_alike bytes more end =
      let short = commands_of item_max bytes in
      let on = goes_on item_max line_limit 0 InLine bytes more in
      let none = still item_max line_limit short.skip short.place (short.rest ++ more) end in
      record {
        asked = ap (λ (read : Read). read.asked) on ∙ ap (λ (asked : List Asked). short.asked ++ asked) none.asked ∙ append-nil short.asked;
        place = ap (λ (read : Read). read.place) on ∙ none.place_is;
      }

  pub is_fed : (bytes more : List ℕ) (given : List Asked) (reader : Reader) → HasRead item_max bytes given reader → HasRead item_max (bytes ++ more) given (record reader { unread = reader.unread ++ more })
  is_fed bytes more given reader has =
      goes_on item_max line_limit 0 InLine bytes more
      ∙ ap (λ (read : Read). read_on item_max read more) has
      ∙ sym (asked_twice given (read_from item_max line_limit reader.skip reader.place reader.unread).asked _)
      ∙ ap (with_asked given) (sym (goes_on item_max line_limit reader.skip reader.place reader.unread more))
