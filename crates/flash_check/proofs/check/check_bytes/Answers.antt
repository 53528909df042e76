use Rattle.std.proofs.Common.{arith}
use Rattle.flash_check.proofs.FirstLine.{on_no_line, on_bad_first_line, on_entries}
use Rattle.flash_check.proofs.Results.{ok_as}
use Rattle.flash_check.proofs.check.check_bytes.Goals as goal

pub returns-in_default : goal.returns-in_default
returns-in_default c = on_no_line c.args.bytes.now (omega arith) c.in_default.ensures.parts

pub returns-in_default-read_head : goal.returns-in_default-read_head
returns-in_default-read_head c =
    on_bad_first_line c.args.bytes.now c.in-Some.first_line.now c.in-Some.rest.now (omega arith) c.in-Some.ensures.parts c.in_default-read_head.field-0 c.in_default-read_head.ensures

pub returns : goal.returns
returns c =
    ok_as c.check_entries.result _ _ c.check_entries.ensures
    (on_entries c.args.bytes.now c.in-Some.first_line.now c.in-Some.rest.now (omega arith) c.in-Some.ensures.parts c.in-Ok.geometry c.in-Ok.ensures)
