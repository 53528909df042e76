-- What a place is read as, where one buffer alone covers it.
use Rattle.std.proofs.Common.{◌≡◌, ℕ, zero, suc, ◌+◌, ◌-◌, ◌<◌, ◌≤◌, Bool, true, false, cond, ◌&&◌, nat_eq, nat_le, List, [], ◌∷◌, ◌++◌, length, get_or, take, drop, replicate, Option, None, Some, refl, sym, ap, ◌∙◌, subst, arith, length-drop}
use Rattle.std.proofs.lemmas.Bool.Decides.{nat_tests}
use Rattle.std.proofs.lemmas.Bool.{and_parts, leb-true, le-leb, eqb-true}
use Rattle.std.proofs.lemmas.List.{drop-append-le, take-append-le}
use Rattle.flash_names.specs.declared.place.Label.{Label}
use Rattle.flash_names.specs.declared.place.Place.{Place}
use Rattle.flash_names.specs.Labels.{same_label}
use Rattle.flash_buffers.specs.Block.{Block}
use Rattle.flash_buffers.specs.Covering.{covers, bytes_in, read_in}

-- two labels that the test takes for one are one
pub label_is : (one other : Label) → same_label one other ≡ true → one ≡ other
label_is one other same =
    let parts = and_parts (nat_eq one.page other.page) (nat_eq one.version other.version) same in
    let page : one.page ≡ other.page = eqb-true _ _ parts.0 in
    let version : one.version ≡ other.version = eqb-true _ _ parts.1 in
    let first : one ≡ record { page = other.page; version = one.version } = ap (λ (n : ℕ). record { page = n; version = one.version }) page in
    first ∙ ap (λ (n : ℕ). record { page = other.page; version = n }) version

pub same_self : (label : Label) → same_label label label ≡ true
same_self label = grind (arith, nat_tests)

-- what a buffer that covers a place says
pub record Covering (size : ℕ) (place : Place) (block : Block) : Type 0 where
  pub label : same_label block.label place.label ≡ true
  pub low : block.offset ≤ place.offset
  pub high : place.offset + place.length ≤ block.offset + size

pub covering : (size : ℕ) (place : Place) (block : Block) → covers size place (Some block) ≡ true → Covering size place block
covering size place block is =
    let outer = and_parts (same_label block.label place.label && nat_le block.offset place.offset) (nat_le (place.offset + place.length) (block.offset + size)) is in
    let inner = and_parts (same_label block.label place.label) (nat_le block.offset place.offset) outer.0 in
    record { label = inner.0; low = leb-true _ _ inner.1; high = leb-true _ _ outer.1 }

pub covers_is : (size : ℕ) (place : Place) (block : Block) → Covering size place block → covers size place (Some block) ≡ true
covers_is size place block is = rw (is.label, le-leb _ _ is.low, le-leb _ _ is.high) refl

-- a place that has a byte is covered as its first byte is
pub first_byte : (size : ℕ) (place : Place) (block : Option Block) → 0 < place.length → covers size place block ≡ true → covers size (record { label = place.label; offset = place.offset; length = 1 }) block ≡ true
first_byte size place None some is = absurd (cc is)
first_byte size place (Some block) some is =
    let parts = covering size place block is in
    covers_is size _ block (record { label = parts.label; low = parts.low; high = omega (arith, parts.high, some) })

-- the first buffer that covers a place is the only one
pub read_only : (size : ℕ) (place : Place) (blocks : List (Option Block)) (n : ℕ) (block : Block) → get_or blocks n None ≡ Some block → covers size place (Some block) ≡ true → ((m : ℕ) → covers size place (get_or blocks m None) ≡ true → m ≡ n) → read_in size place blocks ≡ Some (bytes_in size place (Some block))
read_only size place [] n block is covers_it only = absurd (cc is)
read_only size place (first ∷ rest) n block is covers_it only = read_next size place first rest n block (covers size place first) refl is covers_it only (λ k. read_only size place rest k block) where
  read_next : (size : ℕ) (place : Place) (first : Option Block) (rest : List (Option Block)) (n : ℕ) (block : Block) (here : Bool) → covers size place first ≡ here → get_or (first ∷ rest) n None ≡ Some block → covers size place (Some block) ≡ true → ((m : ℕ) → covers size place (get_or (first ∷ rest) m None) ≡ true → m ≡ n)
      → ((k : ℕ) → get_or rest k None ≡ Some block → covers size place (Some block) ≡ true → ((m : ℕ) → covers size place (get_or rest m None) ≡ true → m ≡ k) → read_in size place rest ≡ Some (bytes_in size place (Some block))) → cond here (Some (bytes_in size place first)) (read_in size place rest) ≡ Some (bytes_in size place (Some block))
  read_next size place first rest n block true here is covers_it only later =
      let at : zero ≡ n = only zero here in
      let same : first ≡ Some block = subst (λ (m : ℕ). get_or (first ∷ rest) m None ≡ Some block) (sym at) is in
      ap (λ (b : Option Block). Some (bytes_in size place b)) same
  read_next size place first rest zero block false here is covers_it only later =
      absurd (let both : covers size place (Some block) ≡ false = subst (λ (b : Option Block). covers size place b ≡ false) is here in cc)
  read_next size place first rest (suc n) block false here is covers_it only later =
      later n is covers_it (λ m at. omega (arith, only (suc m) at))

-- the bytes of records are read with no regard to the zeros after them
pub in_records : (place : Place) (size : ℕ) (block : Block) → block.offset ≤ place.offset → place.offset + place.length ≤ block.offset + length block.records → bytes_in size place (Some block) ≡ take place.length (drop (place.offset - block.offset) block.records)
in_records place size block low high =
    let start : ℕ = place.offset - block.offset in
    let zeros : List ℕ = replicate (size - length block.records) 0 in
    let block_without : drop start (block.records ++ zeros) ≡ drop start block.records ++ zeros = drop-append-le start block.records zeros (omega (arith, low, high)) in
    ap (λ (l : List ℕ). take place.length l) block_without ∙ take-append-le place.length (drop start block.records) zeros (omega (arith, low, high, length-drop start block.records))
