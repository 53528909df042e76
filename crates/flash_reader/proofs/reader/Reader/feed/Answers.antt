use Rattle.std.proofs.Common.{rules, arith, ◌≡◌, ◌++◌, ◌-◌, length, drop, sym, subst}
use Rattle.flash_reader.specs.Remembered.{IsScanned, IsWanted}
use Rattle.flash_reader.proofs.Scans.{scanned_more}
use Rattle.flash_reader.proofs.Skips.{skip_kept, skip_passed}
use Rattle.flash_reader.proofs.Awaited.{wanted_more}
use Rattle.flash_reader.proofs.reader.Reader.feed.Goals as goal

pub invariant_of-self : goal.invariant_of-self
invariant_of-self c =
    let f = c.self.inside in
    let unread = drop f.start f.bytes.items in
    let kept : drop c.replace-start.new.dest c.put_behind.new.bytes.items ≡ unread = search rules in (
      search rules,
      skip_kept f.skip f.start c.replace-start.new.dest f.bytes.items c.put_behind.new.bytes.items c.self.invariant.1 c.replace-start.ensures.after kept,
      subst (IsScanned f.scanned) (sym kept) c.self.invariant.2,
      subst (IsWanted f.item_max f.place f.wanted) (sym kept) c.self.invariant.3,
    )

pub invariant_of-self-2 : goal.invariant_of-self-2
invariant_of-self-2 c =
    let f = c.self.inside in
    let unread = drop f.start f.bytes.items in
    let more = c.split_at-2.result.1.now in
    let kept : drop c.replace-start.new.dest c.put_behind.new.bytes.items ≡ unread ++ more = search rules in
    let left : length more ≡ c.min-n.result - c.min-passed.result = let front = c.split_at.ensures.front_len in let back = c.split_at-2.ensures.back_len in omega (arith, front, back) in (
      search rules,
      skip_passed f.skip c.min-n.result c.min-passed.result f.start c.replace-start.new.dest f.bytes.items c.put_behind.new.bytes.items more c.self.invariant.1
          c.replace-start.ensures.after kept c.min-passed.ensures left,
      subst (IsScanned f.scanned) (sym kept) (scanned_more f.scanned unread more c.self.invariant.2),
      subst (IsWanted f.item_max f.place f.wanted) (sym kept) (wanted_more f.item_max f.wanted f.place unread more c.self.invariant.3),
    )
