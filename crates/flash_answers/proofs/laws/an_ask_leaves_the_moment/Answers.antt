use Rattle.flash_answers.proofs.Moments.{ask_leaves}
use Rattle.flash_answers.proofs.laws.an_ask_leaves_the_moment.Goals as goal

pub returns : goal.returns
returns c = ask_leaves
