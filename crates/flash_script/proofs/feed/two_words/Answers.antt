use Rattle.flash_script.proofs.Scripts.StepWords.{three_words}
use Rattle.flash_script.proofs.feed.two_words.Goals as goal

pub returns-in-Some : goal.returns-in-Some
returns-in-Some c =
    three_words c.args.rest c.in_ok-rest.field-0 c.in_ok-more.field-0 c.in-Some.field-0 c.split_word.result.0.now c.split_word-2.result.0.now c.split_word.result.1 c.split_word-2.result.1
    c.in_ok-rest.was c.split_word.ensures c.in_ok-more.was c.split_word-2.ensures c.in-Some.is
