use Rattle.std.proofs.Common.{◌≡◌, List, map, Some, sym, ◌∙◌, ap, subst}
use Rattle.std.proofs.lemmas.List.{length-map}
use Rattle.flash_names.specs.declared.geometry.Geometry.{Geometry}
use Rattle.flash_calls.specs.Store.{Store}
use Rattle.flash_script.specs.declared.step.Step.{Step}
use Rattle.flash_play.specs.Playing.{first_play, play_from, play_of}
use Rattle.flash_script.specs.CodeScripts.{script_meant, step_meant}
use Rattle.flash_trace.specs.Seats.{IsPlay}
use Rattle.flash_trace.proofs.Playing.Played.{first_is, first_goes_on, output_is, if_ok, told_entries}
use Rattle.flash_trace.proofs.run.play_script.Goals as goal

pub play_steps-requires-clause-going : goal.play_steps-requires-clause-going
play_steps-requires-clause-going c =
    let opened = c.in-Ok.ensures.opened in
    first_goes_on c.args.script.now.geometry c.in-Ok.core c.in_ok-play.play (ap (λ (s : Store). s.told) opened ∙ ap (λ es. Some es) c.new.ensures) (ap (λ (s : Store). s.cache) opened) (ap (λ (s : Store). s.desk) opened)
    c.in_ok-play.ensures.printed c.in_ok-play.ensures.seats

pub returns : goal.returns
returns c =
    let bytes = c.args.bytes.now in
    let script = c.args.script.now in
    let core = c.in-Ok.core in
    let meant = script_meant bytes script in
    let play = c.in_ok-play.play in
    let opened = c.in-Ok.ensures.opened in
    let first = first_is script.geometry core play (ap (λ (s : Store). s.told) opened ∙ ap (λ es. Some es) c.new.ensures) (ap (λ (s : Store). s.cache) opened) (ap (λ (s : Store). s.desk) opened) c.in_ok-play.ensures.printed c.in_ok-play.ensures.seats in
    let core2 = c.play_steps.new.core in
    let play2 = c.play_steps.new.play in
    let same : core.geometry ≡ script.geometry = ap (λ (s : Store). s.geometry) opened in
    let played : IsPlay (play_from core.geometry (first_play script.geometry) 2 (map (step_meant bytes) c.deref.result.now)) core2 play2 = c.in_ok-play_steps.ensures.done (first_play script.geometry) first in
    let is : IsPlay (play_of script.geometry (map (step_meant bytes) script.steps.items)) core2 play2 =
    subst (λ (l : List Step). IsPlay (play_of script.geometry (map (step_meant bytes) l)) core2 play2) c.deref.ensures.value
    (subst (λ (g : Geometry). IsPlay (play_from g (first_play script.geometry) 2 (map (step_meant bytes) c.deref.result.now)) core2 play2) same played) in
    if_ok c.play_output.result _ _ (λ out. λ printed. output_is meant c.args.with_journal core2 play2 c.entries.result.now c.len.result out.items
    printed
    (c.entries.ensures ∙ told_entries c.journal.result.now core2.told c.journal.ensures.told)
    (c.len.ensures ∙ script.steps.ok.0 ∙ sym (length-map script.steps.items (step_meant bytes)))
    is) c.play_output.ensures
