use Rattle.std.proofs.Common.{◌≡◌, ℕ, List, [], ◌++◌, length, sym, ◌∙◌, ap}
use Rattle.std.proofs.lemmas.List.{append-nil}
use Rattle.flash_entry.specs.declared.found.Told.{Told}
use Rattle.flash_commands.specs.Parts.{Asked, Read}
use Rattle.flash_commands.specs.Commands.{commands_of}
use Rattle.flash_session.specs.Talks.{Talk, talk_of}
use Rattle.flash_session.specs.States.{front_now}
use Rattle.flash_session.specs.Stands.{front_replies}
use Rattle.flash_session.proofs.Reading.{none_replied, no_answers}
use Rattle.flash_session.proofs.Resting.{rest_read, rest_step}
use Rattle.flash_session.proofs.Talking.{whole_count}
use Rattle.flash_session.proofs.laws.all_is_said.Goals as goal

pub returns : goal.returns
returns c = λ bytes told gone s empty rest stands.
    let here : stands.here ≡ [] = no_answers stands.here (sym stands.step ∙ rest_step bytes told gone s stands rest) in
    let before : told ≡ stands.before = stands.told_is ∙ ap (λ (h : List Told). stands.before ++ h) here ∙ append-nil stands.before in
    let left = rest_read s.reads.item_max s.reads.reader.skip s.reads.reader.place s.reads.reader.unread stands.held rest in
    let all : (commands_of s.reads.item_max bytes).asked ≡ stands.done =
    ap (λ (read : Read). read.asked) stands.reads ∙ ap (λ (asked : List Asked). stands.done ++ asked) left.asked ∙ append-nil stands.done in
    let talk = ap (λ (asked : List Asked). talk_of asked told) all ∙ ap (talk_of stands.done) before in
    let said : gone ≡ (talk_of stands.done stands.before).replies =
    sym (append-nil gone) ∙ ap (λ (out : List ℕ). gone ++ out) (sym empty) ∙ stands.replies
    ∙ ap (λ (h : List Told). (talk_of stands.done stands.before).replies ++ front_replies (front_now s) h) here
    ∙ ap (λ (r : List ℕ). (talk_of stands.done stands.before).replies ++ r) (none_replied (front_now s)) ∙ append-nil (talk_of stands.done stands.before).replies in
    record {
      asks = ap (λ (t : Talk). length t.asks) talk ∙ whole_count stands.done stands.before stands.whole ∙ sym (ap (λ (l : List Told). length l) before);
      replies = ap (λ (t : Talk). t.replies) talk ∙ sym said;
      place = ap (λ (read : Read). read.place) stands.reads ∙ left.stays;
    }
