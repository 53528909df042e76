-- The step that a session asks.
use Rattle.std.proofs.Common.{◌≡◌, ℕ, zero, suc, ◌+◌, ◌<◌, false, List, [], ◌∷◌, ◌++◌, length, Some, refl, sym, ◌∙◌, ap, subst, append_assoc, arith}
use Rattle.std.specs.Prelude.{slice_get}
use Rattle.std.specs.List.{AllByRecursion}
use Rattle.std.proofs.lemmas.List.{length-append}
use Rattle.std.proofs.lemmas.Option.{slice_get_within}
use Rattle.flash_entry.specs.declared.ask.Ask.{Ask}
use Rattle.flash_entry.specs.declared.found.Told.{Told}
use Rattle.flash_reply.specs.declared.command.Command.{Command}
use Rattle.flash_commands.specs.declared.place.Place.{Place}
use Rattle.flash_commands.specs.Parts.{Asked, Asks, Front, Takes, Read}
use Rattle.flash_commands.specs.Commands.{commands_of}
use Rattle.flash_commands.specs.Reading.{left_of}
use Rattle.flash_commands.specs.Asks.{asks_of}
use Rattle.flash_commands.proofs.Taking.{takes}
use Rattle.flash_session.specs.Talks.{Talk, then_talk, ends_command, talk_steps, talk_of}
use Rattle.flash_session.specs.States.{Session, front_now, ask_at}
use Rattle.flash_session.specs.Stands.{Stands}
use Rattle.flash_session.proofs.Talking.{after_whole, whole_count}

-- the step after those that were answered is the next of the command
next_step : (command : Command) (after : List Told → Talk) (step : ℕ) (asks : List Ask) (here : List Told) → AllByRecursion (λ answer. ends_command answer ≡ false) here → length here < length asks
    → slice_get (talk_steps command step asks here after).asks (length here) ≡ slice_get asks (length here)
next_step command after step [] here going within = absurd (omega (arith, within))
next_step command after step (ask ∷ asks) [] going within = refl
next_step command after step (ask ∷ asks) (first ∷ here) going within = rw going.0 (next_step command after (step + 1) asks here going.1 (omega (arith, within)))

-- a place after the first list is one of the second
place_after : (one other : List Ask) (k : ℕ) → slice_get (one ++ other) (length one + k) ≡ slice_get other k
place_after [] other k = let same : zero + k ≡ k = omega arith in ap (λ (i : ℕ). slice_get other i) same
place_after (ask ∷ one) other k = let more : suc (length one) + k ≡ suc (length one + k) = omega arith in ap (λ (i : ℕ). slice_get (ask ∷ one ++ other) i) more ∙ place_after one other k

-- what is read behind a front of so many bytes
abbrev pub behind : Session → ℕ → Place → List Asked
behind s n next = (left_of s.reads.item_max (record { skip = n; place = next; unread = s.reads.reader.unread })).asked

-- all that the bytes ask is what is done, the front's, and what is behind it
pub asked_is : (bytes : List ℕ) (told : List Told) (gone : List ℕ) (s : Session) (stands : Stands bytes told gone s) → s.reads.reader.skip ≡ 0 → (asked : List Asked) (n : ℕ) (next : Place) → front_now s ≡ Takes asked n next
    → (commands_of s.reads.item_max bytes).asked ≡ stands.done ++ (asked ++ behind s n next)
asked_is bytes told gone s stands none asked n next front =
    ap (λ (read : Read). read.asked) (takes s.reads.item_max n bytes stands.done asked next s.reads.reader none front stands.reads) ∙ append_assoc stands.done asked (behind s n next)

module _ (bytes : List ℕ) (told : List Told) (gone : List ℕ) (s : Session) (ask : Ask) (stands : Stands bytes told gone s) (none : s.reads.reader.skip ≡ 0) where
  module _ (command : Command) (block : List ℕ) (n : ℕ) (next : Place) (front : front_now s ≡ Takes (Asks command block ∷ []) n next) (is : slice_get (asks_of command block) s.step ≡ Some ask) where
    abbrev more : List Asked
    more = behind s n next

    talk_is : talk_of (commands_of s.reads.item_max bytes).asked told ≡ then_talk (talk_of stands.done stands.before) (talk_of (Asks command block ∷ more) stands.here)
    talk_is =
        ap (λ (asked : List Asked). talk_of asked told) (asked_is bytes told gone s stands none (Asks command block ∷ []) n next front) ∙ ap (talk_of (stands.done ++ (Asks command block ∷ more))) stands.told_is
        ∙ after_whole stands.done (Asks command block ∷ more) stands.before stands.here stands.whole

    next_is : slice_get (talk_of (commands_of s.reads.item_max bytes).asked told).asks (length told) ≡ Some ask
    next_is =
        let step_is = stands.step in
        let number : length told ≡ length (talk_of stands.done stands.before).asks + length stands.here =
        (ap (λ (l : List Told). length l) stands.told_is ∙ length-append stands.before stands.here ∙ ap (λ (k : ℕ). k + length stands.here) (sym (whole_count stands.done stands.before stands.whole))) in
        let within : length stands.here < length (asks_of command block) = subst (λ (k : ℕ). k < length (asks_of command block)) step_is (slice_get_within (asks_of command block) s.step ask is) in
        ap (λ (t : Talk). slice_get t.asks (length told)) talk_is
        ∙ ap (λ (k : ℕ). slice_get ((talk_of stands.done stands.before).asks ++ (talk_of (Asks command block ∷ more) stands.here).asks) k) number
        ∙ place_after (talk_of stands.done stands.before).asks (talk_of (Asks command block ∷ more) stands.here).asks (length stands.here)
        ∙ next_step command (λ left. talk_of more left) 1 (asks_of command block) stands.here stands.going within
        ∙ ap (λ (k : ℕ). slice_get (asks_of command block) k) (sym step_is) ∙ is

  pub next_asked : (front : Front) → front_now s ≡ front → ask_at s.step front ≡ Some ask → slice_get (talk_of (commands_of s.reads.item_max bytes).asked told).asks (length told) ≡ Some ask
  next_asked (Takes (Asks command block ∷ []) n next) front is = next_is command block n next front is
  next_asked _ front is = absurd (cc is)
