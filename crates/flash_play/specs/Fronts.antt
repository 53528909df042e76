-- What the front of a script does to the whole of it.
use Rattle.std.specs.Prelude.{◌≡◌, List, ◌++◌}
use Rattle.flash_names.specs.declared.geometry.Geometry.{Geometry}
use Rattle.flash_entry.specs.declared.entry.Entry.{Entry}
use Rattle.flash_play.specs.Playing.{play_of}
use Rattle.flash_script.specs.Steps.{Step}

-- a journal goes on from another
pub record GoesOnFrom (front whole : List Entry) : Type 0 where
  pub more : List Entry
  pub parts : whole ≡ front ++ more

-- the steps in front make the journal that the whole script goes on from
abbrev pub EachFrontMakesAFront : Type 0
EachFrontMakesAFront =
    (g : Geometry) (steps more : List Step)
    → GoesOnFrom (play_of g steps).kept.journal (play_of g (steps ++ more)).kept.journal
