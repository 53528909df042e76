use Rattle.std.proofs.Common.{List, [], ◌∷◌, ◌++◌, Option, sym, subst, ℕ}
use Rattle.std.proofs.lemmas.Result.{IfOk-weaker}
use Rattle.flash_entry.specs.declared.entry.Entry.TheVariants as entries
use Rattle.flash_machine.specs.Followed.{FollowsWrites}
use Rattle.flash_machine.proofs.machine.write_table.WriteTable.end.Goals as goal

pub returns-in-None-clause-ended : goal.returns-in-None-clause-ended
returns-in-None-clause-ended c = IfOk-weaker c.fail.result _ _ (λ _ ended g h was begun.
    subst (λ (o : Option (List ℕ)). FollowsWrites c.fail.new.self g (h ++ entries.WriteEnded c.args.place o ∷ [])) (sym c.in-None.is) (ended g h was)) c.fail.ensures.ended

pub returns-in-Some-clause-ended : goal.returns-in-Some-clause-ended
returns-in-Some-clause-ended c = IfOk-weaker c.succeed.result _ _ (λ _ ended g h was begun.
    subst (λ (o : Option (List ℕ)). FollowsWrites c.succeed.new.self g (h ++ entries.WriteEnded c.args.place o ∷ [])) (sym c.in-Some.is) (ended g h c.in-Some.field-0 was begun)) c.succeed.ensures.ended
