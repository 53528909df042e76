-- The search for a line feed, as the code does it: among the bytes in which a line has to end.
use Rattle.std.proofs.Common.{◌≡◌, ℕ, zero, suc, ◌+◌, ◌-◌, Bool, true, false, ◌==◌, nat_lt, List, [], ◌∷◌, length, take, drop, Option, None, Some, if◌then◌else◌, refl, sym, ◌∙◌, ap, arith}
use Rattle.std.specs.Option.{option_map}
use Rattle.std.proofs.lemmas.Bool.Decides.{nat_tests}
use Rattle.flash_names.specs.Cut.{cut_at}
use Rattle.flash_commands.specs.Parts.{Cut, Feed, Lacking, Over, Takes, Rest}
use Rattle.flash_commands.specs.declared.place.Place.TheVariants.{TooLong}
use Rattle.flash_commands.specs.Meanings.{meaning_of, meta_meaning, text_meaning}
use Rattle.flash_commands.specs.Commands.{after_byte, cut_within, line_front, skip_front}
use Rattle.flash_text.specs.Lines.{line_of}
use Rattle.flash_meta.specs.MetaLines.{meta_of, is_meta_line}

-- the cut of bytes by the length of their first line, where a line has at most so many bytes
abbrev pub cut_by : ℕ → List ℕ → Option ℕ → Cut
cut_by limit bytes (Some n) = Feed (take (n - 1) bytes) (drop n bytes)
cut_by limit bytes None = if nat_lt (length bytes) limit then Lacking else Over

-- the length of a line that was cut off, with its line feed
abbrev pub cut_length : Option (List ℕ × List ℕ) → Option ℕ
cut_length cut = option_map (λ parts. length parts.0 + 1) cut

either_after : (b : ℕ) (one other : Bool) → one ≡ other → after_byte b (if one then Lacking else Over) ≡ (if other then Lacking else Over)
either_after b true other same = ap (λ (t : Bool). if t then Lacking else Over) same
either_after b false other same = ap (λ (t : Bool). if t then Lacking else Over) same

feed_after : (b n : ℕ) (bytes : List ℕ) → after_byte b (Feed (take (n + 1 - 1) bytes) (drop (n + 1) bytes)) ≡ Feed (take (suc n + 1 - 1) (b ∷ bytes)) (drop (suc n + 1) (b ∷ bytes))
feed_after b n bytes =
    let less : n + 1 - 1 ≡ n = omega arith in
    let one : suc n + 1 - 1 ≡ suc n = omega arith in
    let more : suc n + 1 ≡ suc (n + 1) = omega arith in
    ap (λ (k : ℕ). Feed (b ∷ take k bytes) (drop (n + 1) bytes)) less
    ∙ sym (ap (λ (k : ℕ). Feed (take k (b ∷ bytes)) (drop (n + 1) bytes)) one)
    ∙ sym (ap (λ (k : ℕ). Feed (take (suc n + 1 - 1) (b ∷ bytes)) (drop k (b ∷ bytes))) more)

after_cut : (limit b : ℕ) (bytes : List ℕ) (cut : Option (List ℕ × List ℕ))
    → after_byte b (cut_by limit bytes (cut_length cut)) ≡ cut_by (suc limit) (b ∷ bytes) (cut_length (option_map (λ parts. (b ∷ parts.0, parts.1)) cut))
after_cut limit b bytes (Some parts) = feed_after b (length parts.0) bytes
after_cut limit b bytes None = either_after b (nat_lt (length bytes) limit) (nat_lt (suc (length bytes)) (suc limit)) (grind (arith, nat_tests))

test_cut : (limit b : ℕ) (bytes window : List ℕ) (feed : Bool) (found : Cut) (cut : Option (List ℕ × List ℕ)) → found ≡ cut_by limit bytes (cut_length cut)
    → (if feed then Feed [] bytes else after_byte b found)
    ≡ cut_by (suc limit) (b ∷ bytes) (cut_length (if feed then Some ([], window) else option_map (λ parts. (b ∷ parts.0, parts.1)) cut))
test_cut limit b bytes window true found cut is = refl
test_cut limit b bytes window false found cut is = ap (after_byte b) is ∙ after_cut limit b bytes cut

pub cut_is : (limit : ℕ) (bytes : List ℕ) → cut_within limit bytes ≡ cut_by limit bytes (cut_length (cut_at 10 (take limit bytes)))
cut_is zero bytes = let low : false ≡ nat_lt (length bytes) 0 = grind (arith, nat_tests) in ap (λ (t : Bool). if t then Lacking else Over) low
cut_is (suc limit) [] = let low : true ≡ nat_lt 0 (suc limit) = grind (arith, nat_tests) in ap (λ (t : Bool). if t then Lacking else Over) low
cut_is (suc limit) (b ∷ bytes) = test_cut limit b bytes (take limit bytes) (b == 10) (cut_within limit bytes) (cut_at 10 (take limit bytes)) (cut_is limit bytes)

-- without a line feed both kinds of front are the same
pub skip_either : (item_max limit : ℕ) (test : Bool) → (if test then Rest else Takes [] limit TooLong) ≡ skip_front item_max limit (if test then Lacking else Over)
skip_either item_max limit true = refl
skip_either item_max limit false = refl

pub line_either : (item_max limit : ℕ) (test : Bool) → (if test then Rest else Takes [] limit TooLong) ≡ line_front item_max limit (if test then Lacking else Over)
line_either item_max limit true = refl
line_either item_max limit false = refl

-- the meaning of a line by either protocol
pub meta_means : (item_max : ℕ) (line : List ℕ) → is_meta_line line ≡ true → meaning_of item_max line ≡ meta_meaning (meta_of item_max line)
unfolding meaning_of
meta_means item_max line is = rw is refl

pub text_means : (item_max : ℕ) (line : List ℕ) → is_meta_line line ≡ false → meaning_of item_max line ≡ text_meaning (line_of item_max line)
unfolding meaning_of
text_means item_max line is = rw is refl
