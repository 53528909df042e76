use Rattle.std.proofs.Common.{◌≡◌, List, ℕ, ◌<◌, length, drop, Option, None, Some, refl, sym, ◌∙◌, ap, subst, arith}
use Rattle.std.specs.Prelude.{IsNone}
use Rattle.flash_commands.specs.Parts.{Rest}
use Rattle.flash_commands.specs.Commands.{front_of, line_limit}
use Rattle.flash_reader.specs.declared.front.Front.{Front}
use Rattle.flash_reader.specs.Fronts.{front_said}
use Rattle.flash_reader.specs.Readers.{Reads}
use Rattle.flash_reader.proofs.Awaited.{not_yet}
use Rattle.flash_reader.proofs.reader.Reader.front.Goals as goal

pub returns-clause-front : goal.returns-clause-front
returns-clause-front c =
    let f = c.self.inside in
    let back : c.split_at.result.1.now ≡ drop f.start f.bytes.items = c.split_at.ensures.back ∙ ap (drop f.start) c.deref.ensures.value in
    subst (λ (s : Reads). front_said c.read_front.result ≡ front_of s.item_max line_limit s.reader.place s.reader.unread) c.self.view_is
    (c.read_front.ensures ∙ ap (λ (bytes : List ℕ). front_of f.item_max line_limit f.place bytes) back)

-- with fewer bytes than are wanted
pub returns-then-unread-self-clause-front : goal.returns-then-unread-self-clause-front
returns-then-unread-self-clause-front c =
    let f = c.self.inside in
    let back : c.split_at.result.1.now ≡ drop f.start f.bytes.items = c.split_at.ensures.back ∙ ap (drop f.start) c.deref.ensures.value in
    let less : length (drop f.start f.bytes.items) < f.wanted = subst (λ (bytes : List ℕ). length bytes < f.wanted) back c.if-unread-self.true in
    subst (λ (s : Reads). Rest ≡ front_of s.item_max line_limit s.reader.place s.reader.unread) c.self.view_is
    (sym (not_yet f.item_max f.wanted f.place (drop f.start f.bytes.items) c.self.invariant.3 less))

-- where there is no front, more bytes are needed
no_front : (front : Option Front) → IsNone front → front_said front ≡ Rest
no_front None none = refl
no_front (Some front) none = absurd (cc none)

pub returns-clause-room : goal.returns-clause-room
returns-clause-room c = λ none going.
    let reads = c.args.self.now in
    let rest = sym (returns-clause-front c) ∙ no_front c.read_front.result none in
    let less = c.a_rest_is_short.ensures reads.item_max reads.reader.place reads.reader.unread going rest in
    omega (arith, less)
