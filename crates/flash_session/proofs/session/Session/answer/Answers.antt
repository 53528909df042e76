use Rattle.std.proofs.Common.{rules, ◌≡◌, ℕ, ◌+◌, [], ◌++◌, Option, true, false, sym, ◌∙◌, ap, subst}
use Rattle.flash_text.specs.Said.{Said}
use Rattle.flash_reply.specs.declared.command.Command.TheVariants.{Text}
use Rattle.flash_reply.specs.Replies.{text}
use Rattle.flash_commands.specs.Asks.{asks_of}
use Rattle.flash_session.specs.contracts.session.Session.{the_view}
use Rattle.flash_session.specs.declared.lookup.Lookup.{Lookup}
use Rattle.flash_session.specs.Lookups.{IsKept, IsAtFront, IsOneOn, rest_said}
use Rattle.flash_session.specs.States.{Session, front_now, is_done, told_at}
use Rattle.flash_session.proofs.Lookups.{told_by, one_on, is_after, is_between}
use Rattle.flash_session.proofs.session.Session.answer.Goals as goal

pub invariant_of-self-else-is_done : goal.invariant_of-self-else-is_done
invariant_of-self-else-is_done c =
    let f = c.self.inside in
    let keys = f.keys.items in
    let lookup = c.in-Some.lookup in
    let at : IsAtFront f.reader f.step lookup keys = subst (λ (kept : Option Lookup). IsKept f.reader f.step kept keys) c.in-Some.is c.self.invariant in
    let step : c.in_ok-step.step ≡ f.step + 1 = search rules in
    let on : IsOneOn lookup c.after_key.result keys = subst (IsOneOn lookup c.after_key.result) c.deref-else-is_done.ensures.value c.after_key.ensures in
    subst (λ (n : ℕ). IsAtFront f.reader n c.after_key.result keys) (sym step)
    (one_on c.a_lookup_asks_at_each_key.ensures (the_view f) lookup keys at c.after_key.result on)

pub returns-then-is_done-clause-told : goal.returns-then-is_done-clause-told
returns-then-is_done-clause-told c =
    let f = c.self.inside in
    let keys = f.keys.items in
    let lookup = c.in-Some.lookup in
    let told = c.args.told.now in
    let at : IsAtFront f.reader f.step lookup keys = subst (λ (kept : Option Lookup). IsKept f.reader f.step kept keys) c.in-Some.is c.self.invariant in
    let short : c.rest.result ≡ rest_said lookup keys = c.rest.ensures ∙ ap (rest_said lookup) c.deref.ensures.value in
    let done : is_done told 1 (asks_of (Text (rest_said lookup keys)) []) ≡ true =
    ap (λ (said : Said). is_done told 1 (asks_of (Text said) [])) (sym short) ∙ sym (c.is_done.ensures []) ∙ c.if-is_done.true in
    let out : c.reply_step.new.out.items ≡ f.out.items ++ text (Text (rest_said lookup keys)) 1 told =
    c.in_ok-reply_step.ensures.appended ∙ ap (λ (said : Said). f.out.items ++ text (Text said) 1 told) short in
    let after = is_after (the_view f) c.take.new.self c.reply_step.new.out.items (text (Text (rest_said lookup keys)) 1 told) lookup.bytes lookup.next c.take.ensures out in
    subst (λ (s : Session). record (the_view f) { reads = c.take.new.self; step = 0; owed = false; out = c.reply_step.new.out.items } ≡ told_at s (front_now s) told) c.self.view_is
    (after ∙ sym (told_by c.a_lookup_asks_at_each_key.ensures (the_view f) lookup keys at told [] true done))

pub returns-else-is_done-clause-told : goal.returns-else-is_done-clause-told
returns-else-is_done-clause-told c =
    let f = c.self.inside in
    let keys = f.keys.items in
    let lookup = c.in-Some.lookup in
    let told = c.args.told.now in
    let at : IsAtFront f.reader f.step lookup keys = subst (λ (kept : Option Lookup). IsKept f.reader f.step kept keys) c.in-Some.is c.self.invariant in
    let short : c.rest.result ≡ rest_said lookup keys = c.rest.ensures ∙ ap (rest_said lookup) c.deref.ensures.value in
    let step : c.in_ok-step.step ≡ f.step + 1 = search rules in
    let goes : is_done told 1 (asks_of (Text (rest_said lookup keys)) []) ≡ false =
    ap (λ (said : Said). is_done told 1 (asks_of (Text said) [])) (sym short) ∙ sym (c.is_done.ensures []) ∙ c.if-is_done.false in
    let out : c.reply_step.new.out.items ≡ f.out.items ++ text (Text (rest_said lookup keys)) 1 told =
    c.in_ok-reply_step.ensures.appended ∙ ap (λ (said : Said). f.out.items ++ text (Text said) 1 told) short in
    let between = is_between (the_view f) c.in_ok-step.step c.reply_step.new.out.items (text (Text (rest_said lookup keys)) 1 told) step out in
    subst (λ (s : Session). record (the_view f) { owed = false; step = c.in_ok-step.step; out = c.reply_step.new.out.items } ≡ told_at s (front_now s) told) c.self.view_is
    (between ∙ sym (told_by c.a_lookup_asks_at_each_key.ensures (the_view f) lookup keys at told [] false goes))
