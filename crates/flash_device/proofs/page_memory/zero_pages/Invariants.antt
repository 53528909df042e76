use Rattle.std.proofs.Common.{◌≡◌, replicate}
use Rattle.flash_device.proofs.page_memory.zero_pages.Given as goal

-- as many pages of zeros as were counted
abbrev pub invariant-pages : goal.invariant-pages
invariant-pages l = l.all.items ≡ replicate l.counter (replicate l.page_size 0)
