use Rattle.std.proofs.Common.{◌≡◌, ◌^◌, ◌<◌, ◌≤◌, Bool, refl, sym, ◌∙◌, ap, subst, arith, rules}
use Rattle.std.specs.Prelude.{min}
use Rattle.flash_calls.specs.Calls.{clock_to, clock_call}
use Rattle.flash_calls.specs.Running.{LeavesARun}
use Rattle.flash_calls.specs.Store.{Call}
use Rattle.flash_core.specs.Desks.{desk_of}
use Rattle.flash_core.specs.Numbers.{cache_of_items}
use Rattle.flash_core.proofs.Clocked.{risen, clock_rises, clock_keeps}
use Rattle.flash_core.proofs.Closing.{keeps_of, sound_after}
use Rattle.flash_core.proofs.state.Core.clock.Goals as goal

pub invariant_of-self-2 : goal.invariant_of-self-2
invariant_of-self-2 g c =
    let f = c.self.inside in
    let s = f.index in
    let moment = c.min-moment.result in
    let before = cache_of_items s.items f.numbers in
    let desk = desk_of s f.blocks in
    let told = g.J.Journal.told f.journal in
    let above : f.numbers.moment < moment = omega arith in
    let within : moment ≤ 2 ^ 62 = omega arith in
    let least : moment ≡ min c.args.reading (2 ^ 62) = search rules in
    let call : clock_call before desk c.args.reading ≡ risen before desk moment = ap (clock_to before desk) (sym least) ∙ clock_rises before desk moment above in
    sound_after f.geometry s.memory before desk told c.self.invariant (risen before desk moment)
    (λ h is. subst (λ (k : Call Bool). LeavesARun f.geometry h k) call (c.each_clock_goes_on.ensures f.geometry before h desk c.args.reading is))
    s.memory (cache_of_items s.items c.at_moment-self-inside.result) desk (g.J.Journal.told c.note.new.self)
    (record { cache_is = c.at_moment-self-inside.ensures s.items; desk_is = refl; noted = c.in_ok-note.ensures.noted; memory_is = refl })
    (clock_keeps f.geometry.item_max before moment within (keeps_of f.geometry s.memory before desk told c.self.invariant))
