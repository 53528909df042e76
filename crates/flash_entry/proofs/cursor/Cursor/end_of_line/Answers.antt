use Rattle.std.proofs.Common.{◌≡◌, ℕ, ◌+◌, ◌≤◌, List, [], ◌∷◌, length, Err, Option, Some, option_map, refl, sym, ◌∙◌, ap, arith, rules}
use denote.Ref.{Bor}
use Rattle.flash_names.specs.Words.{words_if}
use Rattle.flash_entry.specs.declared.entry_fault.EntryFault.TheVariants.{BadWord}
use Rattle.flash_entry.specs.Readings.{no_more, end_of_line}
use Rattle.flash_entry.proofs.WordLemmas.{length-words}
use Rattle.flash_entry.proofs.cursor.Cursor.end_of_line.Goals as goal
use Rattle.flash_entry.proofs.cursor.Cursor.end_of_line.Goals.{in-None, in-Some}

no_more-some : (ws : List (List ℕ)) (place : ℕ) → 1 ≤ length ws → no_more ws place ≡ Err (BadWord (place + 1))
no_more-some [] place some = absurd (omega arith)
no_more-some (w ∷ ws) place some = refl

pub overflow_add-result : goal.overflow_add-result
overflow_add-result c =
    let counted = rw c.in-Some.is at c.self.invariant in
    omega (arith, length-words c.in-Some.field-0.now)

pub returns : goal.returns
unfolding end_of_line
returns c =
    elim c.match-self.branch [
      | in-None w ↦ search rules
      | in-Some w ↦
          let place = c.self.inside.place in
          let word = length-words w.in-Some.field-0.now in
          rw w.result-is
          (ap end_of_line (sym c.self.view_is)
          ∙ ap (λ (rest : Option (Bor (List ℕ))). no_more (words_if (option_map (λ r. r.now) rest)) place) w.in-Some.is
          ∙ no_more-some (words_if (option_map (λ r. r.now) (Some w.in-Some.field-0))) place (omega arith))
    ]
