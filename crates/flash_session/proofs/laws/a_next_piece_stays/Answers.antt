use Rattle.std.proofs.Common.{◌++◌, length, ◌∙◌, ap}
use Rattle.flash_commands.specs.declared.place.Place.TheVariants.{InLine}
use Rattle.flash_commands.specs.Parts.{Read}
use Rattle.flash_commands.specs.Commands.{line_limit, read_from, commands_of}
use Rattle.flash_commands.proofs.Going.{goes_on}
use Rattle.flash_session.specs.Pieces.{pieces_of, piece_after}
use Rattle.flash_session.proofs.Pieces.{go_on, piece_stays}
use Rattle.flash_session.proofs.laws.a_next_piece_stays.Goals as goal

pub returns : goal.returns
returns c = λ item_max bytes more told gone piece is.
    let short = commands_of item_max bytes in
    let later = (read_from item_max line_limit short.skip short.place (short.rest ++ more)).asked in
    let on = go_on.asked short.asked later told in
    ap (λ (read : Read). piece_after (length gone) (pieces_of read.asked told)) (goes_on item_max line_limit 0 InLine bytes more)
    ∙ ap (piece_after (length gone)) on.parts ∙ piece_stays (length gone) (pieces_of short.asked told) on.more piece is
