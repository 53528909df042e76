use Rattle.std.proofs.Common.{◌≡◌, length, take, ap, sym, ◌∙◌, arith}
use Rattle.std.proofs.lemmas.List.{take_all}
use Rattle.flash_lanes.proofs.Masks.{same_from, same_to}
use Rattle.flash_lanes.proofs.same.same_block.Goals as goal

pub returns : goal.returns
returns c =
    let a = c.args.a.now in
    let b = c.args.b.now in
    let one : take 16 a ≡ a = take_all 16 a (omega arith) in
    let two : take 16 b ≡ b = take_all 16 b (omega arith) in
    let one_long : length (take 16 a) ≡ 16 = ap length one ∙ c.requires.a_block in
    let two_long : length (take 16 b) ≡ 16 = ap length two ∙ c.requires.b_block in (
      λ none. sym one ∙ same_from (take 16 a) (take 16 b) one_long two_long none ∙ two,
      λ same. same_to (take 16 a) (take 16 b) one_long two_long (one ∙ same ∙ sym two),
    )
