use Rattle.std.proofs.Common.{◌≡◌, drop}
use Rattle.flash_pages.specs.Freeable.{first_freeable}
use Rattle.flash_pages.proofs.pages.first_freeable.Given as goal

-- the first page that may be freed is among those that are left
abbrev pub invariant-rows : goal.invariant-rows
invariant-rows l = record {
  counted : l.page ≡ l.row-index;
  left : first_freeable 0 l.rows ≡ first_freeable l.page (drop l.row-index l.rows);
}
