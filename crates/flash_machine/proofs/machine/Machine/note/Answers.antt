use Rattle.std.proofs.Common.{sym, subst}
use Rattle.std.proofs.lemmas.Result.{IfOk-weaker}
use Rattle.flash_entry.specs.declared.entry.Entry.{Entry}
use Rattle.flash_machine.specs.Stands.{Takes}
use Rattle.flash_machine.proofs.machine.Machine.note.Goals as goal

pub returns-in-ReadBegan-clause-noted : goal.returns-in-ReadBegan-clause-noted
returns-in-ReadBegan-clause-noted c = IfOk-weaker c.note_read_begin.result _ _ (λ _ noted.
    subst (λ (e : Entry). Takes c.args.self.now e c.note_read_begin.new.self) (sym c.in-ReadBegan.is) (noted c.in-ReadBegan.field-2)) c.note_read_begin.ensures.noted

pub returns-in-Moved-clause-noted : goal.returns-in-Moved-clause-noted
returns-in-Moved-clause-noted c = IfOk-weaker c.note_move.result _ _ (λ _ noted.
    subst (λ (e : Entry). Takes c.args.self.now e c.note_move.new.self) (sym c.in-Moved.is) (noted c.in-Moved.field-1)) c.note_move.ensures.noted

pub returns-in-Recached-clause-noted : goal.returns-in-Recached-clause-noted
returns-in-Recached-clause-noted c = IfOk-weaker c.note_recache.result _ _ (λ _ noted.
    subst (λ (e : Entry). Takes c.args.self.now e c.note_recache.new.self) (sym c.in-Recached.is) (noted c.in-Recached.field-1)) c.note_recache.ensures.noted

pub returns-in-Ended-clause-noted : goal.returns-in-Ended-clause-noted
returns-in-Ended-clause-noted c = IfOk-weaker c.note_end.result _ _ (λ _ noted.
    subst (λ (e : Entry). Takes c.args.self.now e c.note_end.new.self) (sym c.in-Ended.is) (noted c.in-Ended.field-1)) c.note_end.ensures.noted

pub returns-in-Dropped-clause-noted : goal.returns-in-Dropped-clause-noted
returns-in-Dropped-clause-noted c =
    subst (λ (e : Entry). Takes c.args.self.now e c.note_drop.new.self) (sym c.in-Dropped.is) (c.note_drop.ensures c.in-Dropped.field-1)

pub returns-in-FromBuffer-clause-noted : goal.returns-in-FromBuffer-clause-noted
returns-in-FromBuffer-clause-noted c = IfOk-weaker c.note_buffer.result _ _ (λ _ noted.
    subst (λ (e : Entry). Takes c.args.self.now e c.note_buffer.new.self) (sym c.in-FromBuffer.is) noted) c.note_buffer.ensures.noted
