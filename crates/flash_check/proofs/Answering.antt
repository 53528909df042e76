-- What a check writes, and what it says of all that was read.
use Rattle.std.proofs.Common.{◌≡◌, ◌≢◌, ℕ, ◌<◌, Bool, true, false, nat_lt, List, [], ◌∷◌, ◌++◌, length, Option, None, Some, Result, Ok, Err, ◌⊎◌, inl, inr, if◌then◌else◌, refl, sym, ◌∙◌, ap, subst, arith, length-append}
use Rattle.std.proofs.lemmas.List.{append-nil}
use Rattle.flash_names.specs.declared.geometry.Geometry.{Geometry}
use Rattle.flash_names.specs.Source.{IsAtEnd}
use Rattle.flash_entry.specs.declared.entry.Entry.{Entry}
use Rattle.flash_entry.specs.declared.entry_fault.EntryFault.{EntryFault}
use Rattle.flash_entry.specs.declared.geometry_line.HeadFault.{HeadFault}
use Rattle.flash_entry.specs.GeometryLine.{geometry_of_line}
use Rattle.flash_entry.specs.EntryReading.{reading}
use Rattle.flash_check.specs.declared.status.CheckStatus.{CheckStatus}
use Rattle.flash_check.specs.declared.status.CheckStatus.TheVariants as statuses
use Rattle.flash_streams.specs.Reading.{HasRead}
use Rattle.flash_streams.proofs.Left.{Leaves, leaves}
use Rattle.flash_streams.specs.Writing.{IsWritten}
use Rattle.flash_check.specs.Ends.{IsAnswered, IsChecked, IsSaid, writes_nothing}
use Rattle.flash_streams.specs.Lines.{lines_of}
use Rattle.flash_check.specs.Outside.{Outside}
use Rattle.flash_check.specs.Texts.{answer_text}
use Rattle.flash_check.specs.Verdicts.{broken_by, next_line, by_rule, by_reading, entries_verdict, by_geometry, lines_verdict, verdict_on}
use Rattle.flash_check.proofs.FirstLine.{on_long}

-- whether a check that ends so has written a line
abbrev pub is_answer : CheckStatus → Bool
is_answer (statuses.Legal entries) = true
is_answer (statuses.Illegal line rule) = true
is_answer (statuses.BadLine line) = true
is_answer _ = false

rule_answers : (line : ℕ) (found : Option ℕ) (later : CheckStatus) → is_answer later ≡ true → is_answer (by_rule line found later) ≡ true
rule_answers line None later is = is
rule_answers line (Some rule) later is = refl

reading_answers : (g : Geometry) (h : List Entry) (r : Result Entry EntryFault) (later : Entry → CheckStatus) → ((e : Entry) → is_answer (later e) ≡ true) → is_answer (by_reading g h r later) ≡ true
reading_answers g h (Err fault) later are = refl
reading_answers g h (Ok e) later are = rule_answers (next_line h) (broken_by g h e) (later e) (are e)

entries_answer : (g : Geometry) (h : List Entry) (lines : List (List ℕ)) (rest : List ℕ) → is_answer (entries_verdict g h lines rest) ≡ true
entries_answer g h [] [] = refl
entries_answer g h [] (b ∷ rest) = refl
entries_answer g h (line ∷ more) rest =
    reading_answers g h (reading line) (λ e. entries_verdict g (h ++ e ∷ []) more rest) (λ e. entries_answer g (h ++ e ∷ []) more rest)

geometry_answers : (r : Result Geometry HeadFault) (more : List (List ℕ)) (rest : List ℕ) → is_answer (by_geometry r more rest) ≡ true
geometry_answers (Err fault) more rest = refl
geometry_answers (Ok g) more rest = entries_answer g [] more rest

lines_answer : (lines : List (List ℕ)) (rest : List ℕ) → is_answer (lines_verdict lines rest) ≡ true
lines_answer [] rest = refl
lines_answer (first ∷ more) rest = geometry_answers (geometry_of_line first) more rest

-- what is decided on bytes has a line
verdict_answers : (bytes : List ℕ) (many : Bool) → nat_lt 16777216 (length bytes) ≡ many → is_answer (verdict_on bytes) ≡ true
verdict_answers bytes true is = subst (λ (v : CheckStatus). is_answer v ≡ true) (sym (ap (λ t. if t then statuses.BadLine 0 else lines_verdict (lines_of bytes).whole (lines_of bytes).rest) is)) refl
verdict_answers bytes false is = subst (λ (v : CheckStatus). is_answer v ≡ true) (sym (ap (λ t. if t then statuses.BadLine 0 else lines_verdict (lines_of bytes).whole (lines_of bytes).rest) is)) (lines_answer (lines_of bytes).whole (lines_of bytes).rest)

pub is_one : (answer : CheckStatus) (bytes : List ℕ) → answer ≡ verdict_on bytes → is_answer answer ≡ true
is_one answer bytes is = ap is_answer is ∙ verdict_answers bytes (nat_lt 16777216 (length bytes)) refl

-- an answer writes
pub writes : (answer : CheckStatus) → is_answer answer ≡ true → writes_nothing answer ≡ true → ⊥
writes (statuses.Legal entries) is none = absurd (cc none)
writes (statuses.Illegal line rule) is none = absurd (cc none)
writes (statuses.BadLine line) is none = absurd (cc none)
writes statuses.Usage is none = absurd (cc is)
writes statuses.SourceFault is none = absurd (cc is)
writes statuses.SinkFault is none = absurd (cc is)
writes statuses.NoMemory is none = absurd (cc is)

-- an answer whose line was written
pub said : (bytes : List ℕ) (held held_after : Option (List ℕ)) (faults faults_after : ℕ) (answer : CheckStatus) → is_answer answer ≡ true → answer ≡ verdict_on bytes
    → IsWritten (answer_text answer) held held_after → IsSaid bytes held held_after faults faults_after answer
said bytes held held_after faults faults_after (statuses.Legal entries) is same written = (sym same, written)
said bytes held held_after faults faults_after (statuses.Illegal line rule) is same written = (sym same, written)
said bytes held held_after faults faults_after (statuses.BadLine line) is same written = (sym same, written)
said bytes held held_after faults faults_after statuses.Usage is same written = absurd (cc is)
said bytes held held_after faults faults_after statuses.SourceFault is same written = absurd (cc is)
said bytes held held_after faults faults_after statuses.SinkFault is same written = absurd (cc is)
said bytes held held_after faults faults_after statuses.NoMemory is same written = absurd (cc is)

-- the answer on what was read is that on all that the source tells
of_all : (all bytes : List ℕ) (left_after : Option (List ℕ)) → Leaves all bytes left_after → IsAtEnd left_after ⊎ (16777216 < length bytes) → verdict_on all ≡ verdict_on bytes
of_all all bytes left_after left (inl end) =
    let none : left.rest ≡ [] = end left.rest left.tells in
    ap verdict_on (left.parts ∙ ap (λ (l : List ℕ). bytes ++ l) none ∙ append-nil bytes)
of_all all bytes left_after left (inr long) =
    let longer : 16777216 < length all = omega (arith, long, ap length left.parts, length-append bytes left.rest) in
    on_long all longer ∙ sym (on_long bytes long)

-- nothing is left, unless the bytes were too many
ended : (bytes : List ℕ) (left_after : Option (List ℕ)) (status : CheckStatus) → verdict_on bytes ≡ status → IsAtEnd left_after ⊎ (16777216 < length bytes) → status ≢ statuses.BadLine 0 → IsAtEnd left_after
ended bytes left_after status is (inl end) other = end
ended bytes left_after status is (inr long) other = absurd (other (sym is ∙ on_long bytes long))

module _ (bytes : List ℕ) (told : Outside) (read : HasRead 16777216 bytes told.left told.left_after) where
  answered : (status : CheckStatus) → verdict_on bytes ≡ status → IsWritten (answer_text status) told.held told.held_after → IsAnswered status told
  answered status is written = record {
    bytes = bytes;
    read = read;
    answer = is;
    of_all = λ all tells. of_all all bytes told.left_after (leaves all bytes told.left_after (sym tells ∙ read.taken)) read.whole ∙ is;
    at_end = ended bytes told.left_after status is read.whole;
    written = written;
  }

  pub is_checked : (status : CheckStatus) → IsSaid bytes told.held told.held_after told.sink_faults told.sink_faults_after status → IsChecked told status
  is_checked (statuses.Legal entries) said = answered (statuses.Legal entries) said.0 said.1
  is_checked (statuses.Illegal line rule) said = answered (statuses.Illegal line rule) said.0 said.1
  is_checked (statuses.BadLine line) said = answered (statuses.BadLine line) said.0 said.1
  is_checked statuses.Usage said = tt
  is_checked statuses.SourceFault said = tt
  is_checked statuses.SinkFault said = record { bytes = bytes; read = read; begun = said.1 }
  is_checked statuses.NoMemory said = tt
