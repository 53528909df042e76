use Rattle.std.proofs.Common.{◌≡◌, ◌-◌, List, ℕ, length, take, drop, Some, ap, ◌∙◌, arith, length-drop, length-take}
use Rattle.std.proofs.lemmas.List.{take_all}
use Rattle.flash_names.proofs.Taken.{taken}
use Rattle.flash_names.proofs.memory_source.MemorySourceSource.read.Goals as goal

pub returns-clause-taken : goal.returns-clause-taken
returns-clause-taken c =
    let bytes = c.args.self.now.bytes.items in
    let at = c.args.self.now.at in
    let n = c.min-n.result in
    let same : c.deref.result.now ≡ bytes = c.deref.ensures.value in
    let rest : take (length c.deref.result.now - at) (drop at c.deref.result.now) ≡ drop at bytes = ap (λ (l : List ℕ). take (length l - at) (drop at l)) same ∙ take_all (length bytes - at) (drop at bytes) (omega (arith, length-drop at bytes)) in
    let front : c.copy_from_slice.new.self ≡ take n (drop at bytes) = c.copy_from_slice.ensures.after ∙ ap (λ (l : List ℕ). take n l) rest in
    let size : length c.copy_from_slice.new.self ≡ n = omega (arith, c.copy_from_slice.ensures.len, length-take n c.args.into.now) in
    ap Some (taken bytes c.args.into.now c.copy_from_slice.new.self at n size front)
