use Rattle.std.proofs.Common.{refl}
use Rattle.flash_calls.specs.Rooms.{to_evict, to_reap}
use Rattle.flash_answers.proofs.Moments.{drop_leaves, clock_moment}
use Rattle.flash_answers.proofs.Recorded.{drop_unasked, clock_unasked}
use Rattle.flash_answers.proofs.laws.calls_of_no_session_record_no_step.Goals as goal

pub returns : goal.returns
returns c = λ g cache desk.
    let evicted = to_evict g cache desk in
    let reaped = to_reap cache desk in
    record {
      clock = clock_unasked cache desk;
      room = drop_unasked cache desk evicted;
      reap = drop_unasked cache desk reaped;
      juggle = tt;
      moment = clock_moment cache desk;
      room_moment = drop_leaves cache desk evicted;
      reap_moment = drop_leaves cache desk reaped;
      juggle_moment = refl;
    }
