use Rattle.std.proofs.Common.{◌≡◌, drop, count_by}
use Rattle.std.specs.List.{position_from}
use Rattle.flash_pages.specs.States.{is_free}
use Rattle.flash_pages.proofs.pages.first_free.Given as goal

-- the first free page is among those that are left
abbrev pub invariant-rows : goal.invariant-rows
invariant-rows l = record {
  counted : l.number ≡ l.row-index;
  left : position_from (λ row. is_free row.state) 0 l.rows ≡ position_from (λ row. is_free row.state) l.number (drop l.row-index l.rows);
  none : count_by (λ row. is_free row.state) l.rows ≡ count_by (λ row. is_free row.state) (drop l.row-index l.rows);
}
