use Rattle.std.proofs.Common.{◌++◌, codes}
use Rattle.flash_reply.specs.Lines.{reply_line}
use Rattle.flash_reply.specs.TextReplies.{stat_line}
use Rattle.flash_reply.proofs.Queue.{behind, behind_same}
use Rattle.flash_reply.proofs.text_replies.append_tally.Goals as goal

pub returns-clause-appended : goal.returns-clause-appended
returns-clause-appended c =
    let tally = c.args.tally.now in
    let items = stat_line (codes "curr_items") tally.items in
    let load = stat_line (codes "bytes") tally.load in
    let total = stat_line (codes "total_items") tally.last_cas in
    let time = stat_line (codes "time") tally.now in
    let pages = stat_line (codes "extstore_pages_free") tally.free_pages in
    let end = reply_line (codes "END") in
    let one = behind_same _ _ _ items c.reserve.ensures.items c.append_stat.ensures.appended in
    let two = behind _ _ _ items load one c.append_stat-2.ensures.appended in
    let three = behind _ _ _ (items ++ load) total two c.append_stat-3.ensures.appended in
    let four = behind _ _ _ (items ++ load ++ total) time three c.append_stat-4.ensures.appended in
    let five = behind _ _ _ (items ++ load ++ total ++ time) pages four c.append_stat-5.ensures.appended in
    behind _ _ _ (items ++ load ++ total ++ time ++ pages) end five c.extend_reserved.ensures.items
