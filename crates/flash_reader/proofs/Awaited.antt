-- How many bytes are awaited, with more bytes after those that were read.
use Rattle.std.proofs.Common.{◌≡◌, ℕ, ◌+◌, ◌-◌, ◌<◌, ◌≤◌, List, [], ◌++◌, length, take, drop, Some, sym, ap, subst, arith}
use Rattle.std.proofs.lemmas.List.{append_assoc, append-nil, length-append, length-drop}
use Rattle.flash_reply.specs.declared.command.Command.{Command}
use Rattle.flash_commands.specs.declared.place.Place.{Place}
use Rattle.flash_commands.specs.declared.place.Place.TheVariants.{InLine}
use Rattle.flash_commands.specs.Parts.{Meaning, Plain, Block, Skips, Quits, Rest}
use Rattle.flash_commands.specs.Meanings.{meaning_of}
use Rattle.flash_commands.specs.Commands.{line_limit, cut_within, front_of}
use Rattle.flash_commands.specs.Laws.{ABlockIsAwaited}
use Rattle.flash_reader.specs.Fronts.{line_cut}
use Rattle.flash_reader.specs.Remembered.{IsWanted, announced}

-- as many bytes are wanted with more bytes
pub wanted_more : (item_max n : ℕ) (place : Place) (bytes more : List ℕ) → IsWanted item_max place n bytes → IsWanted item_max place n (bytes ++ more)
wanted_more item_max n place bytes more wanted rest less =
    let joined = append_assoc bytes more rest in
    subst (λ (all : List ℕ). front_of item_max line_limit place all ≡ Rest) (sym joined) (wanted (more ++ rest) (subst (λ (all : List ℕ). length all < n) joined less))

-- with fewer bytes than are wanted, more are needed
pub not_yet : (item_max n : ℕ) (place : Place) (bytes : List ℕ) → IsWanted item_max place n bytes → length bytes < n → front_of item_max line_limit place bytes ≡ Rest
not_yet item_max n place bytes wanted less =
    let all = append-nil bytes in
    subst (λ (these : List ℕ). front_of item_max line_limit place these ≡ Rest) all (wanted [] (subst (λ (these : List ℕ). length these < n) (sym all) less))

-- without a line of n bytes there are n bytes fewer
without_line : (n most : ℕ) (bytes more : List ℕ) → n ≤ length bytes → length (bytes ++ more) < n + most → length (drop n bytes ++ more) < most
without_line n most bytes more there less =
    let whole = length-append bytes more in
    let rest = length-append (drop n bytes) more in
    let behind = length-drop n bytes in omega (arith, there, less, whole, rest, behind)

-- a line that announces a block of so many bytes means one
block_of : (size : ℕ) (meaning : Meaning) → announced meaning ≡ Some size → (command : Command) × (meaning ≡ Block command size)
block_of size (Block command most) is = let same : most ≡ size = cc is in (command, ap (Block command) same)
block_of size (Plain command) is = absurd (cc is)
block_of size (Skips refusal skip) is = absurd (cc is)
block_of size Quits is = absurd (cc is)

-- the line, the block and its end are wanted
pub block_wanted : ABlockIsAwaited → (item_max n size : ℕ) (bytes : List ℕ) → n ≤ length bytes → line_cut bytes (Some n) ≡ cut_within line_limit bytes
    → announced (meaning_of item_max (take (n - 1) bytes)) ≡ Some size → IsWanted item_max InLine (n + size + 2) bytes
block_wanted law item_max n size bytes there cut block more less =
    let means = block_of size (meaning_of item_max (take (n - 1) bytes)) block in
    law item_max size bytes more (take (n - 1) bytes) (drop n bytes) means.0 (sym cut) means.1 (without_line n (size + 2) bytes more there (omega (arith, less)))
