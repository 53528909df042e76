use Rattle.std.proofs.Common.{[], ◌∷◌}
use Rattle.flash_machine.proofs.HonestReads.{Honest-append, not_asked}
use Rattle.flash_machine.proofs.honest.honest_goes_on.Goals as goal

pub returns : goal.returns
returns c = record {
  by_an_honest_entry = λ h e honest fits. Honest-append h (e ∷ []) honest (fits, tt);
  only_bytes_are_asked = λ h e other. not_asked h e other;
}
