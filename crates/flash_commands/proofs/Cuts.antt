-- The search for a line feed, with more bytes after those that are searched.
use Rattle.std.proofs.Common.{◌≡◌, ℕ, zero, suc, Bool, true, false, ◌==◌, List, [], ◌∷◌, ◌++◌, if◌then◌else◌, refl, ap}
use Rattle.flash_commands.specs.Parts.{Cut, Feed, Lacking, Over}
use Rattle.flash_commands.specs.Commands.{after_byte, cut_within}

-- what was found is found with more bytes after it
abbrev pub CutStays : List ℕ → Cut → Cut → Type 0
CutStays more (Feed line behind) longer = longer ≡ Feed line (behind ++ more)
CutStays more Lacking longer = Unit {0}
CutStays more Over longer = longer ≡ Over

byte_stays : (more : List ℕ) (b : ℕ) (cut longer : Cut) → CutStays more cut longer → CutStays more (after_byte b cut) (after_byte b longer)
byte_stays more b (Feed line behind) longer stays = ap (after_byte b) stays
byte_stays more b Lacking longer stays = tt
byte_stays more b Over longer stays = ap (after_byte b) stays

test_stays : (more bytes : List ℕ) (b : ℕ) (feed : Bool) (cut longer : Cut) → CutStays more cut longer
    → CutStays more (if feed then Feed [] bytes else after_byte b cut) (if feed then Feed [] (bytes ++ more) else after_byte b longer)
test_stays more bytes b true cut longer stays = refl
test_stays more bytes b false cut longer stays = byte_stays more b cut longer stays

pub cut_stays : (limit : ℕ) (bytes more : List ℕ) → CutStays more (cut_within limit bytes) (cut_within limit (bytes ++ more))
cut_stays zero bytes more = refl
cut_stays (suc limit) [] more = tt
cut_stays (suc limit) (b ∷ bytes) more = test_stays more bytes b (b == 10) (cut_within limit bytes) (cut_within limit (bytes ++ more)) (cut_stays limit bytes more)
