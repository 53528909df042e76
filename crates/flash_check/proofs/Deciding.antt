-- The answer on the lines that are left, line by line.
use Rattle.std.proofs.Common.{◌≡◌, ℕ, ◌+◌, ◌<◌, List, [], ◌∷◌, ◌++◌, length, Option, None, Some, Result, Ok, Err, refl, sym, ◌∙◌, ap, arith}
use Rattle.std.specs.Option.{option_map}
use Rattle.std.specs.Result.{result_ok}
use Rattle.flash_names.specs.declared.geometry.Geometry.{Geometry}
use Rattle.flash_names.specs.Cut.{cut_at}
use Rattle.flash_entry.specs.declared.entry.Entry.{Entry}
use Rattle.flash_entry.specs.declared.entry_fault.EntryFault.{EntryFault}
use Rattle.flash_entry.specs.EntryReading.{reading}
use Rattle.flash_machine.specs.Stands.{StandsFor, verdict_of}
use Rattle.flash_machine.specs.declared.machine.Machine.{Machine}
use Rattle.flash_machine.specs.declared.machine.Verdict.TheVariants as verdicts
use Rattle.flash_check.specs.declared.status.CheckStatus.{CheckStatus}
use Rattle.flash_check.specs.declared.status.CheckStatus.TheVariants.{Legal, Illegal, BadLine}
use Rattle.flash_streams.specs.Lines.{Lines, lines_of}
use Rattle.flash_check.specs.LineVerdicts.{line_verdict, StandsWith}
use Rattle.flash_check.specs.Verdicts.{broken_by, next_line, by_rule, by_reading, entries_verdict}
use Rattle.flash_streams.proofs.LineCuts.{lines_cut, lines-cut}

-- the answer on these bytes after a journal
abbrev pub on_bytes : Geometry → List Entry → List ℕ → CheckStatus
on_bytes g h bytes = entries_verdict g h (lines_of bytes).whole (lines_of bytes).rest

-- where the lines that are left are decided as all lines are: the machine stands for a journal of so many entries
pub record Decides (machine : Machine) (g : Geometry) (entries : ℕ) (left all : List ℕ) : Type 0 where
  pub journal : List Entry
  pub stands : StandsFor machine g journal
  pub count : length journal ≡ entries
  pub answer : on_bytes g journal left ≡ on_bytes g [] all

-- nothing is left
pub at_end : {machine : Machine} {g : Geometry} {entries : ℕ} {left all : List ℕ} → Decides machine g entries left all → left ≡ [] → Legal entries ≡ on_bytes g [] all
at_end {g} going none =
    sym (ap (λ n. Legal n) going.count) ∙ sym (ap (on_bytes g going.journal) none) ∙ going.answer

no_line : (g : Geometry) (h : List Entry) (bytes : List ℕ) → 0 < length bytes → entries_verdict g h [] bytes ≡ BadLine (next_line h)
no_line g h [] some = absurd (omega arith)
no_line g h (b ∷ bytes) some = refl

-- no line feed ends what is left
pub at_short_line : {machine : Machine} {g : Geometry} {entries : ℕ} {left all : List ℕ} → Decides machine g entries left all → 0 < length left
    → None ≡ cut_at 10 left → BadLine (entries + 2) ≡ on_bytes g [] all
at_short_line {g = g} {left = left} going some cut =
    let lines : lines_of left ≡ record { whole = []; rest = left } = lines-cut left ∙ ap (lines_cut left) (sym cut) in
    sym (ap (λ n. BadLine (n + 2)) going.count) ∙ sym (no_line g going.journal left some)
    ∙ sym (ap (λ (l : Lines). entries_verdict g going.journal l.whole l.rest) lines) ∙ going.answer

-- the answer on bytes by their first line
by_line : (g : Geometry) (h : List Entry) (left line rest : List ℕ) → Some (line, rest) ≡ cut_at 10 left
    → on_bytes g h left ≡ by_reading g h (reading line) (λ e. on_bytes g (h ++ e ∷ []) rest)
by_line g h left line rest cut =
    let lines : lines_of left ≡ record { whole = line ∷ (lines_of rest).whole; rest = (lines_of rest).rest } = lines-cut left ∙ ap (lines_cut left) (sym cut) in
    ap (λ (l : Lines). entries_verdict g h l.whole l.rest) lines

-- a line that isn't read
bad_by : (g : Geometry) (h : List Entry) (r : Result Entry EntryFault) (later : Entry → CheckStatus) → None ≡ option_map (λ e. verdict_of (broken_by g h e)) (result_ok r)
    → by_reading g h r later ≡ BadLine (next_line h)
bad_by g h (Ok e) later none = absurd (cc none)
bad_by g h (Err fault) later none = refl

pub at_bad_line : {machine : Machine} {g : Geometry} {entries : ℕ} {left all : List ℕ} (line rest : List ℕ) → Decides machine g entries left all
    → Some (line, rest) ≡ cut_at 10 left → ((h : List Entry) → StandsFor machine g h → None ≡ line_verdict g h line) → BadLine (entries + 2) ≡ on_bytes g [] all
at_bad_line {g = g} {left = left} line rest going cut none =
    let h = going.journal in
    sym (ap (λ n. BadLine (n + 2)) going.count)
    ∙ sym (bad_by g h (reading line) (λ e. on_bytes g (h ++ e ∷ []) rest) (none h going.stands))
    ∙ sym (by_line g h left line rest cut) ∙ going.answer

-- an entry that breaks a rule
illegal_at : (line rule : ℕ) (found : Option ℕ) (later : CheckStatus) → verdicts.Illegal rule ≡ verdict_of found → by_rule line found later ≡ Illegal line rule
illegal_at line rule None later is = absurd (cc is)
illegal_at line rule (Some other) later is = let same : other ≡ rule = cc is in ap (λ r. Illegal line r) same

illegal_by : (g : Geometry) (h : List Entry) (rule : ℕ) (r : Result Entry EntryFault) (later : Entry → CheckStatus)
    → Some (verdicts.Illegal rule) ≡ option_map (λ e. verdict_of (broken_by g h e)) (result_ok r) → by_reading g h r later ≡ Illegal (next_line h) rule
illegal_by g h rule (Err fault) later is = absurd (cc is)
illegal_by g h rule (Ok e) later is = illegal_at (next_line h) rule (broken_by g h e) (later e) (cc is)

pub at_illegal_line : {machine : Machine} {g : Geometry} {entries : ℕ} {left all : List ℕ} (line rest : List ℕ) (rule : ℕ) → Decides machine g entries left all
    → Some (line, rest) ≡ cut_at 10 left → ((h : List Entry) → StandsFor machine g h → Some (verdicts.Illegal rule) ≡ line_verdict g h line) → Illegal (entries + 2) rule ≡ on_bytes g [] all
at_illegal_line {g = g} {left = left} line rest rule going cut is =
    let h = going.journal in
    sym (ap (λ n. Illegal (n + 2) rule) going.count)
    ∙ sym (illegal_by g h rule (reading line) (λ e. on_bytes g (h ++ e ∷ []) rest) (is h going.stands))
    ∙ sym (by_line g h left line rest cut) ∙ going.answer

-- a line that is read as an entry that breaks no rule
record IsGood (g : Geometry) (h : List Entry) (r : Result Entry EntryFault) : Type 0 where
  entry : Entry
  read : r ≡ Ok entry
  keeps : broken_by g h entry ≡ None

none_broken : (found : Option ℕ) → verdicts.Legal ≡ verdict_of found → found ≡ None
none_broken None is = refl
none_broken (Some rule) is = absurd (cc is)

good_by : (g : Geometry) (h : List Entry) (r : Result Entry EntryFault) → Some verdicts.Legal ≡ option_map (λ e. verdict_of (broken_by g h e)) (result_ok r) → IsGood g h r
good_by g h (Err fault) is = absurd (cc is)
good_by g h (Ok e) is = record { entry = e; read = refl; keeps = none_broken (broken_by g h e) (cc is) }

pub length-push : (h : List Entry) (e : Entry) → length (h ++ e ∷ []) ≡ length h + 1
length-push [] e = refl
length-push (x ∷ h) e = omega (arith, length-push h e)

pub at_good_line : {before after : Machine} {g : Geometry} {entries : ℕ} {left all : List ℕ} (line rest : List ℕ) → Decides before g entries left all
    → Some (line, rest) ≡ cut_at 10 left → ((h : List Entry) → StandsFor before g h → Some verdicts.Legal ≡ line_verdict g h line)
    → ((h : List Entry) → StandsFor before g h → StandsWith after g h line) → Decides after g (entries + 1) rest all
at_good_line {g = g} {left = left} line rest going cut is with =
    let h = going.journal in
    let good = good_by g h (reading line) (is h going.stands) in
    let e = good.entry in
    record {
      journal = h ++ e ∷ [];
      stands = with h going.stands e good.read good.keeps;
      count = length-push h e ∙ ap (λ n. n + 1) going.count;
      answer =
          sym (ap (λ (found : Option ℕ). by_rule (next_line h) found (on_bytes g (h ++ e ∷ []) rest)) good.keeps)
          ∙ sym (ap (λ (r : Result Entry EntryFault). by_reading g h r (λ x. on_bytes g (h ++ x ∷ []) rest)) good.read)
          ∙ sym (by_line g h left line rest cut) ∙ going.answer;
    }
