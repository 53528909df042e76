-- What is found where the first bytes are known to have no line feed.
use Rattle.std.proofs.Common.{◌≡◌, ℕ, zero, suc, ◌+◌, ◌≤◌, Bool, true, false, ◌==◌, List, [], ◌∷◌, ◌++◌, length, take, drop, min, Option, None, Some, if◌then◌else◌, refl, ◌∙◌, ap, arith}
use Rattle.std.specs.Option.{option_map}
use Rattle.std.proofs.lemmas.List.{length-append, take-append-le, take_min}
use Rattle.flash_names.specs.Cut.{cut_at}
use Rattle.flash_commands.specs.Commands.{line_limit}
use Rattle.flash_reader.specs.Remembered.{IsScanned}
use Rattle.flash_reader.proofs.LineCuts.{cut_length}

-- a cut before the first byte
abbrev cut_here : List ℕ → Option (List ℕ × List ℕ)
cut_here bytes = Some ([], bytes)

-- a cut with a byte before those that were cut
abbrev cut_after : ℕ → Option (List ℕ × List ℕ) → Option (List ℕ × List ℕ)
cut_after b cut = option_map (λ parts. (b ∷ parts.0, parts.1)) cut

-- with a byte before them the line is a byte longer
after_length : (b : ℕ) (cut : Option (List ℕ × List ℕ)) → cut_length (cut_after b cut) ≡ option_map suc (cut_length cut)
after_length b None = refl
after_length b (Some parts) = let one : suc (length parts.0) + 1 ≡ suc (length parts.0 + 1) = omega arith in ap (λ (m : ℕ). Some m) one

-- with a byte before them nothing else is cut
no_cut_after : (b : ℕ) (cut : Option (List ℕ × List ℕ)) → cut_after b cut ≡ None → cut ≡ None
no_cut_after b None none = refl
no_cut_after b (Some parts) none = absurd (cc none)

-- what is found n bytes later is found a byte later yet with one more before it
later : (n : ℕ) (found : Option ℕ) → option_map suc (option_map (λ k. n + k) found) ≡ option_map (λ k. suc n + k) found
later n None = refl
later n (Some k) = let one : suc (n + k) ≡ suc n + k = omega arith in ap (λ (m : ℕ). Some m) one

-- where nothing was scanned, the search finds what it finds
at_once : (found : Option ℕ) → found ≡ option_map (λ k. 0 + k) found
at_once None = refl
at_once (Some k) = let one : k ≡ 0 + k = omega arith in ap (λ (m : ℕ). Some m) one

-- one byte more that was scanned
test_scanned : (b n : ℕ) (short long : List ℕ) (feed : Bool) (first whole : Option (List ℕ × List ℕ)) (found : Option ℕ)
    → (if feed then cut_here short else cut_after b first) ≡ None → (first ≡ None → cut_length whole ≡ option_map (λ k. n + k) found)
    → cut_length (if feed then cut_here long else cut_after b whole) ≡ option_map (λ k. suc n + k) found
test_scanned b n short long true first whole found none is = absurd (cc none)
test_scanned b n short long false first whole found none is =
    after_length b whole ∙ ap (option_map suc) (is (no_cut_after b first none)) ∙ later n found

-- the search goes on after the bytes that have no line feed
pub scanned_cut : (n limit : ℕ) (bytes : List ℕ) → n ≤ length bytes → n ≤ limit → cut_at 10 (take n bytes) ≡ None
    → cut_length (cut_at 10 (take limit bytes)) ≡ option_map (λ k. n + k) (cut_length (cut_at 10 (drop n (take limit bytes))))
scanned_cut zero limit bytes there within none = at_once (cut_length (cut_at 10 (take limit bytes)))
scanned_cut (suc n) limit [] there within none = absurd (omega (arith, there))
scanned_cut (suc n) zero (b ∷ bytes) there within none = absurd (omega (arith, within))
scanned_cut (suc n) (suc limit) (b ∷ bytes) there within none =
    test_scanned b n (take n bytes) (take limit bytes) (b == 10) (cut_at 10 (take n bytes)) (cut_at 10 (take limit bytes)) (cut_length (cut_at 10 (drop n (take limit bytes)))) none
    (λ first. scanned_cut n limit bytes (omega (arith, there)) (omega (arith, within)) first)

-- where there is no length of a line, there is no line feed
pub no_length : (cut : Option (List ℕ × List ℕ)) → cut_length cut ≡ None → cut ≡ None
no_length None none = refl
no_length (Some parts) none = absurd (cc none)

-- what is scanned stays so with more bytes
pub scanned_more : (n : ℕ) (bytes more : List ℕ) → IsScanned n bytes → IsScanned n (bytes ++ more)
scanned_more n bytes more scanned = record {
  there = let sum = length-append bytes more in let some = scanned.there in omega (arith, sum, some);
  within = scanned.within;
  feedless = ap (cut_at 10) (take-append-le n bytes more scanned.there) ∙ scanned.feedless;
}

-- where no line feed is found, all bytes are scanned that a line may have
pub scanned_all : (n : ℕ) (bytes : List ℕ) → n ≡ min (length bytes) line_limit → cut_at 10 (take line_limit bytes) ≡ None → IsScanned n bytes
scanned_all n bytes is none = record {
  there = omega (arith, is);
  within = omega (arith, is);
  feedless = let turned : n ≡ min line_limit (length bytes) = omega (arith, is) in
      ap (λ (k : ℕ). cut_at 10 (take k bytes)) turned ∙ ap (cut_at 10) (take_min line_limit bytes) ∙ none;
}
