use Rattle.std.proofs.Common.{◌≡◌, ℕ, ◌+◌, ◌*◌, ◌<◌, ◌≤◌, ◌/◌, Bool, true, false, ◌&&◌, refl, sym, ◌∙◌, ap, subst, arith}
use Rattle.std.specs.Prelude.{nat_eq}
use Rattle.std.proofs.lemmas.Bool.Decides.{nat_tests}
use Rattle.flash_machine.specs.Writes.{has_good_write}
use Rattle.flash_machine.specs.Followed.{is_reached}
use Rattle.flash_machine.proofs.Blocks.{empty_over, written_over, none_over}
use Rattle.flash_machine.proofs.machine.write_table.WriteTable.is_written_over.Goals as goal

pub returns-then-place-eq0 : goal.returns-then-place-eq0
returns-then-place-eq0 c = λ g h was size. sym (empty_over c.args.place h c.if-place-eq0.true)

pub scan-init : goal.scan-init
scan-init c = λ g h was index below. absurd (omega (arith, below))

-- of two that hold, each
first : (a b : Bool) → (a && b) ≡ true → a ≡ true
first true b both = refl
first false b both = both

second : (a b : Bool) → (a && b) ≡ true → b ≡ true
second true b both = both
second false b both = absurd (cc both)

other : (a b : Bool) → (a && b) ≡ false → a ≡ true → b ≡ false
other true b none one = none
other false b none one = absurd (cc one)

-- one index more
by_index : (reaches holds : ℕ → Bool) (index now : ℕ) (b : Bool) → nat_eq index now ≡ b → index < now + 1 → (index < now → reaches index ≡ true → holds index ≡ false)
    → (reaches now && holds now) ≡ false → reaches index ≡ true → holds index ≡ false
by_index reaches holds index now true same below rest none reached =
    let last : index ≡ now = grind (arith, nat_tests) in
    ap holds last ∙ other (reaches now) (holds now) none (ap reaches (sym last) ∙ reached)
by_index reaches holds index now false apart below rest none reached = rest (grind (arith, nat_tests)) reached

pub returns-then-overlaps : goal.returns-then-overlaps
returns-then-overlaps c = λ g h was size.
    let place = c.args.place in
    let index = c.scan.index in
    let some : 0 < place.length = grind (arith, nat_tests) in
    let block : 0 < g.buffer_size = subst (λ (n : ℕ). 0 < n) (sym was.block) was.some in
    let both = sym (c.overlaps.ensures g h was) ∙ c.if-overlaps.true in
    let reached = first (is_reached g.buffer_size place (index * g.buffer_size)) (has_good_write place.label (index * g.buffer_size) h) both in
    let written = second (is_reached g.buffer_size place (index * g.buffer_size)) (has_good_write place.label (index * g.buffer_size) h) both in
    sym (written_over g place some block (index * g.buffer_size) h was.blocks reached written)

pub scan-preserved : goal.scan-preserved
scan-preserved c = λ g h was index below reached.
    let place = c.args.place in
    let none = sym (c.overlaps.ensures g h was) ∙ c.if-overlaps.false in
    by_index (λ (n : ℕ). is_reached g.buffer_size place (n * g.buffer_size)) (λ (n : ℕ). has_good_write place.label (n * g.buffer_size) h) index c.scan.index (nat_eq index c.scan.index) refl
    below (c.scan.invariant g h was index) none reached

pub returns : goal.returns
returns c = λ g h was size.
    let place = c.args.place in
    let some : 0 < place.length = grind (arith, nat_tests) in
    let block : 0 < g.buffer_size = subst (λ (n : ℕ). 0 < n) (sym was.block) was.some in
    let blocks : g.page_size / g.buffer_size ≡ c.blocks-index-end.result =
    ap (λ (n : ℕ). n / g.buffer_size) size ∙ ap (λ (n : ℕ). c.args.page_size / n) was.block ∙ sym (c.blocks-index-end.ensures was.some) in
    let all : c.blocks-index-end.result ≤ c.scan.index = c.scan-test.false in
    sym (none_over g place some block h was.blocks (λ index below reached. c.scan.invariant g h was index (omega (arith, below, blocks, all)) reached))
