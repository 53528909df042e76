use Rattle.std.proofs.Common.{◌≡◌, drop}
use Rattle.flash_pages.specs.Least.{least_from, lesser}
use Rattle.flash_pages.specs.Victims.{to_compact}
use Rattle.flash_pages.proofs.victims.least_to_compact.Given as goal

-- the best of those before, beside the least of those that are left, is the least of all
abbrev pub invariant-rows : goal.invariant-rows
invariant-rows l = record {
  counted : l.number ≡ l.row-index;
  least : least_from (to_compact l.most) 0 l.rows ≡ lesser l.best (least_from (to_compact l.most) l.number (drop l.row-index l.rows));
}
