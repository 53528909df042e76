use Rattle.std.proofs.Common.{◌≡◌, drop, ◌∙◌, ap, subst, refl}
use Rattle.flash_reader.specs.Remembered.{IsScanned}
use Rattle.flash_reader.proofs.Scans.{scanned_all}
use Rattle.flash_reader.proofs.reader.Reader.look.Goals as goal

pub invariant_of-self : goal.invariant_of-self
invariant_of-self c =
    let f = c.self.inside in
    let back : c.split_at.result.1.now ≡ drop f.start f.bytes.items = c.split_at.ensures.back ∙ ap (drop f.start) c.deref.ensures.value in
    let none = c.in-None.ensures.feedless refl in
    let all = scanned_all c.min-self-inside.result c.split_at.result.1.now c.min-self-inside.ensures none in
    (c.self.invariant.0, c.self.invariant.1, subst (IsScanned c.min-self-inside.result) back all, c.self.invariant.3)
