use Rattle.std.proofs.Common.{◌≡◌, ◌≤◌, ◌+◌, ℕ, List, length, take, drop, min, Option, None, Some, sym, ◌∙◌, ap, arith}
use Rattle.std.specs.Option.{option_map}
use Rattle.std.proofs.lemmas.List.{length-take}
use Rattle.flash_names.specs.Cut.{cut_at}
use Rattle.flash_reader.specs.declared.front.TheConstants.{LINE_LIMIT}
use Rattle.flash_reader.proofs.LineCuts.{cut_by, cut_length, cut_is}
use Rattle.flash_reader.proofs.Scans.{scanned_cut, no_length}
use Rattle.flash_reader.proofs.front.line_length.Goals as goal

pub split_at-requires : goal.split_at-requires
split_at-requires c =
    let bytes = c.args.bytes.now in
    let len : length c.window.result.now ≡ min LINE_LIMIT (length bytes) = ap length c.window.ensures.front ∙ length-take LINE_LIMIT bytes in
    let there : c.args.scanned ≤ length bytes = c.requires.there in
    let within : c.args.scanned ≤ LINE_LIMIT = c.requires.within in omega (arith, len, there, within)

-- no line feed is found among the bytes in which a line has to end
none_found : (n : ℕ) (bytes searched : List ℕ) → n ≤ length bytes → n ≤ LINE_LIMIT → cut_at 10 (take n bytes) ≡ None
    → searched ≡ drop n (take LINE_LIMIT bytes) → None ≡ cut_at 10 searched → cut_length (cut_at 10 (take LINE_LIMIT bytes)) ≡ None
none_found n bytes searched there within feedless is none =
    scanned_cut n LINE_LIMIT bytes there within feedless
    ∙ ap (λ (found : Option (List ℕ × List ℕ)). option_map (λ k. n + k) (cut_length found)) (sym (none ∙ ap (cut_at 10) is))

-- the line feed is found after the bytes that were scanned
one_found : (n : ℕ) (bytes searched line behind : List ℕ) → n ≤ length bytes → n ≤ LINE_LIMIT → cut_at 10 (take n bytes) ≡ None
    → searched ≡ drop n (take LINE_LIMIT bytes) → Some (line, behind) ≡ cut_at 10 searched → cut_length (cut_at 10 (take LINE_LIMIT bytes)) ≡ Some (n + length line + 1)
one_found n bytes searched line behind there within feedless is one =
    let sum : n + (length line + 1) ≡ n + length line + 1 = omega arith in
    scanned_cut n LINE_LIMIT bytes there within feedless
    ∙ ap (λ (found : Option (List ℕ × List ℕ)). option_map (λ k. n + k) (cut_length found)) (sym (one ∙ ap (cut_at 10) is))
    ∙ ap (λ (k : ℕ). Some k) sum

pub returns-in-None-clause-cut : goal.returns-in-None-clause-cut
returns-in-None-clause-cut c =
    let bytes = c.args.bytes.now in
    let back : c.split_at.result.1.now ≡ drop c.args.scanned (take LINE_LIMIT bytes) = c.split_at.ensures.back ∙ ap (drop c.args.scanned) c.window.ensures.front in
    let none = none_found c.args.scanned bytes c.split_at.result.1.now c.requires.there c.requires.within c.requires.feedless back c.in-None.ensures.parts in
    ap (cut_by LINE_LIMIT bytes) (sym none) ∙ sym (cut_is LINE_LIMIT bytes)

pub returns-in-None-clause-feedless : goal.returns-in-None-clause-feedless
returns-in-None-clause-feedless c = λ _.
    let bytes = c.args.bytes.now in
    let back : c.split_at.result.1.now ≡ drop c.args.scanned (take LINE_LIMIT bytes) = c.split_at.ensures.back ∙ ap (drop c.args.scanned) c.window.ensures.front in
    no_length (cut_at 10 (take LINE_LIMIT bytes))
    (none_found c.args.scanned bytes c.split_at.result.1.now c.requires.there c.requires.within c.requires.feedless back c.in-None.ensures.parts)

pub returns-in-Some-clause-cut : goal.returns-in-Some-clause-cut
returns-in-Some-clause-cut c =
    let bytes = c.args.bytes.now in
    let back : c.split_at.result.1.now ≡ drop c.args.scanned (take LINE_LIMIT bytes) = c.split_at.ensures.back ∙ ap (drop c.args.scanned) c.window.ensures.front in
    let one =
    one_found c.args.scanned bytes c.split_at.result.1.now c.in-Some.line.now c.in-Some.field-0-1.now c.requires.there c.requires.within c.requires.feedless back
    c.in-Some.ensures.parts in
    ap (cut_by LINE_LIMIT bytes) (sym one) ∙ sym (cut_is LINE_LIMIT bytes)
