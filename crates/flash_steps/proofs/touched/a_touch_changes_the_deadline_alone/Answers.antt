use Rattle.std.proofs.Common.{refl}
use Rattle.flash_machine.specs.Item.{Item}
use Rattle.flash_machine.specs.Moments.{deadline}
use Rattle.flash_index.proofs.Lookups.{put_here}
use Rattle.flash_steps.proofs.Others.{others_inserted}
use Rattle.flash_steps.proofs.touched.a_touch_changes_the_deadline_alone.Goals as goal

pub returns : goal.returns
returns _ = λ c key exptime item.
    let renewed : Item = record item { deadline = deadline exptime c.now } in
    record {
      there = put_here c.items key renewed;
      others = others_inserted key renewed c.items;
      numbers = refl;
    }
