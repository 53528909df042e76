-- The bytes of a journal that is a run, and those that a checker answers `Legal`.
use Rattle.std.proofs.Common.{◌≡◌, ℕ, ◌+◌, ◌≤◌, Bool, true, false, ◌==◌, nat_lt, not, ◌&&◌, List, [], ◌∷◌, ◌++◌, length, Option, None, Some, Result, Ok, Err, if◌then◌else◌, refl, sym, ◌∙◌, ap, subst, arith, append_assoc}
use Rattle.std.specs.List.{flat_map, list_all, AllByRecursion}
use Rattle.std.proofs.lemmas.Bool.Decides.{nat_tests}
use Rattle.flash_names.specs.declared.geometry.Geometry.{Geometry}
use Rattle.flash_entry.specs.declared.entry.Entry.{Entry}
use Rattle.flash_entry.specs.declared.entry_fault.EntryFault.{EntryFault}
use Rattle.flash_entry.specs.declared.geometry_line.HeadFault.{HeadFault}
use Rattle.flash_entry.specs.EntryLaws.{EachEntryIsOneLine, EachEntryIsReadBack, WhatIsReadIsAnEntry, WhatIsReadIsItsLine}
use Rattle.flash_entry.specs.EntryReading.{reading}
use Rattle.flash_entry.specs.EntryText.{entry_line, kind_word, entry_rest}
use Rattle.flash_entry.specs.GeometryLine.{geometry_of_line}
use Rattle.flash_entry.specs.IsEntry.{IsEntry}
use Rattle.flash_entry.specs.OneLine.{IsOneLine}
use Rattle.flash_machine.specs.Cache.{Cache}
use Rattle.flash_machine.specs.Laws.{EachEntryIsAStep}
use Rattle.flash_machine.specs.Legal.{LegalFrom}
use Rattle.flash_machine.specs.Steps.{cache_of}
use Rattle.flash_machine.specs.Deciding.{RulesDecide}
use Rattle.flash_check.specs.declared.status.CheckStatus.{CheckStatus}
use Rattle.flash_check.specs.declared.status.CheckStatus.TheVariants.{Legal, BadLine}
use Rattle.flash_check.specs.JournalLaws.{IsRun, EachRunIsLegal}
use Rattle.flash_streams.specs.Lines.{Lines, lines_of, in_first_line}
use Rattle.flash_check.specs.Verdicts.{broken_by, next_line, by_rule, by_reading, entries_verdict, by_geometry, lines_verdict, verdict_on}
use Rattle.flash_check.proofs.Deciding.{on_bytes, length-push}
use Rattle.flash_check.proofs.FirstLine.{on_long, by_lines}

-- ---- bytes and their lines

-- lines, each with a line feed, and what is after them
abbrev joined : List (List ℕ) → List ℕ → List ℕ
joined [] rest = rest
joined (line ∷ more) rest = line ++ 10 ∷ joined more rest

-- no byte of the first line, or of what is after all lines, is a line feed
abbrev FirstIsOne : List (List ℕ) → Type 0
FirstIsOne [] = Unit {0}
FirstIsOne (line ∷ more) = IsOneLine line

join_front : (b : ℕ) (whole : List (List ℕ)) (rest : List ℕ) → let lines = in_first_line b (record { whole = whole; rest = rest }) in joined lines.whole lines.rest ≡ b ∷ joined whole rest
join_front b [] rest = refl
join_front b (line ∷ more) rest = refl

join_by : (b : ℕ) (bytes : List ℕ) (feed : Bool) → (b == 10) ≡ feed → joined (lines_of bytes).whole (lines_of bytes).rest ≡ bytes
    → let lines = if feed then record { whole = [] ∷ (lines_of bytes).whole; rest = (lines_of bytes).rest } else in_first_line b (lines_of bytes) in joined lines.whole lines.rest ≡ b ∷ bytes
join_by b bytes true is same = let feed : b ≡ 10 = grind (arith, nat_tests) in ap (λ (l : List ℕ). 10 ∷ l) same ∙ ap (λ (n : ℕ). n ∷ bytes) (sym feed)
join_by b bytes false is same = join_front b (lines_of bytes).whole (lines_of bytes).rest ∙ ap (λ (l : List ℕ). b ∷ l) same

-- bytes are their lines
join : (bytes : List ℕ) → joined (lines_of bytes).whole (lines_of bytes).rest ≡ bytes
join [] = refl
join (b ∷ bytes) = join_by b bytes (b == 10) refl (join bytes)

one_front : (b : ℕ) (lines : Lines) → not (b == 10) ≡ true → FirstIsOne lines.whole → FirstIsOne (in_first_line b lines).whole
one_front b lines other first = front lines.whole lines.rest first where
  front : (whole : List (List ℕ)) (rest : List ℕ) → FirstIsOne whole → FirstIsOne (in_first_line b (record { whole = whole; rest = rest })).whole
  front [] rest first = tt
  front (line ∷ more) rest first = ap (λ t. t && list_all (λ x. not (x == 10)) line) other ∙ first

one_by : (b : ℕ) (bytes : List ℕ) (feed : Bool) → (b == 10) ≡ feed → FirstIsOne (lines_of bytes).whole
    → FirstIsOne (if feed then record { whole = [] ∷ (lines_of bytes).whole; rest = (lines_of bytes).rest } else in_first_line b (lines_of bytes)).whole
one_by b bytes true is first = refl
one_by b bytes false is first = one_front b (lines_of bytes) (ap not is) first

first_is_one : (bytes : List ℕ) → FirstIsOne (lines_of bytes).whole
first_is_one [] = tt
first_is_one (b ∷ bytes) = one_by b bytes (b == 10) refl (first_is_one bytes)

both : (a b : Bool) → (a && b) ≡ true → (a ≡ true) × (b ≡ true)
both true b is = (refl, is)
both false b is = absurd (cc is)

-- the lines of a line with a line feed, and of more bytes
lines-line : (line rest : List ℕ) → IsOneLine line → lines_of (line ++ 10 ∷ rest) ≡ record { whole = line ∷ (lines_of rest).whole; rest = (lines_of rest).rest }
lines-line [] rest one = refl
lines-line (b ∷ line) rest one =
    let at = both (not (b == 10)) (list_all (λ x. not (x == 10)) line) one in
    let other : (b == 10) ≡ false = grind (arith, nat_tests, at.0) in
    ap (λ t. if t then record { whole = [] ∷ (lines_of (line ++ 10 ∷ rest)).whole; rest = (lines_of (line ++ 10 ∷ rest)).rest } else in_first_line b (lines_of (line ++ 10 ∷ rest))) other
    ∙ ap (in_first_line b) (lines-line line rest at.1)

-- ---- one way

-- the line of an entry without its line feed
abbrev text_of : Entry → List ℕ
text_of e = kind_word e ++ entry_rest e

module _ (one_line : EachEntryIsOneLine) (read_back : EachEntryIsReadBack) (is_an_entry : WhatIsReadIsAnEntry) (its_line : WhatIsReadIsItsLine) (step : EachEntryIsAStep) (decide : RulesDecide) where
  -- entries that go on as a run are answered by their number
  legal_on : (g : Geometry) (h es : List Entry) → AllByRecursion IsEntry es → LegalFrom g h (cache_of g h) es → on_bytes g h (flat_map entry_line es) ≡ Legal (length h + length es)
  legal_on g h [] fit legal = ap (λ n. Legal n) (omega arith)
  legal_on g h (e ∷ es) fit legal =
      let line = text_of e in
      let rest = flat_map entry_line es in
      let one : IsOneLine line = one_line e line fit.0 refl in
      let cut : flat_map entry_line (e ∷ es) ≡ line ++ 10 ∷ rest = append_assoc line (10 ∷ []) rest in
      let read : reading line ≡ Ok e = read_back e line fit.0 refl in
      let keeps : broken_by g h e ≡ None = (decide g h (cache_of g h) e).1 legal.0 in
      let later : LegalFrom g (h ++ e ∷ []) (cache_of g (h ++ e ∷ [])) es =
      subst (λ (c : Cache). LegalFrom g (h ++ e ∷ []) c es) (sym (step g h e)) legal.1 in
      ap (λ (l : Lines). entries_verdict g h l.whole l.rest) (ap lines_of cut ∙ lines-line line rest one)
      ∙ ap (λ (r : Result Entry EntryFault). by_reading g h r (λ x. on_bytes g (h ++ x ∷ []) rest)) read
      ∙ ap (λ (found : Option ℕ). by_rule (next_line h) found (on_bytes g (h ++ e ∷ []) rest)) keeps
      ∙ legal_on g (h ++ e ∷ []) es fit.1 later
      ∙ ap (λ n. Legal n) (omega (arith, length-push h e))

  -- the bytes of a run are answered so
  run_is_legal : (bytes : List ℕ) (entries : ℕ) → IsRun entries bytes → verdict_on bytes ≡ Legal entries
  run_is_legal bytes entries run =
      let rest = flat_map entry_line run.journal in
      let lines = ap lines_of run.bytes_are ∙ lines-line run.first_line rest run.one_line in
      by_lines bytes run.few
      ∙ ap (λ (l : Lines). lines_verdict l.whole l.rest) lines
      ∙ ap (λ (r : Result Geometry HeadFault). by_geometry r (lines_of rest).whole (lines_of rest).rest) run.store_line
      ∙ legal_on run.geometry [] run.journal run.fit run.legal
      ∙ ap (λ n. Legal n) (omega (arith, run.count))

  -- ---- and the other

  -- the entries of lines that are answered so
  record Entries (g : Geometry) (h : List Entry) (lines : List (List ℕ)) (rest : List ℕ) (entries : ℕ) : Type 0 where
    journal : List Entry
    fit : AllByRecursion IsEntry journal
    text : joined lines rest ≡ flat_map entry_line journal
    legal : LegalFrom g h (cache_of g h) journal
    count : length h + length journal ≡ entries

  same_legal : (m n : ℕ) → Legal m ≡ Legal n → m ≡ n
  same_legal m n is = cc is

  rule_none : (line : ℕ) (found : Option ℕ) (later : CheckStatus) (entries : ℕ) → by_rule line found later ≡ Legal entries → (found ≡ None) × (later ≡ Legal entries)
  rule_none line None later entries is = (refl, is)
  rule_none line (Some rule) later entries is = absurd (cc is)

  entry_of : (g : Geometry) (h : List Entry) (line : List ℕ) (more : List (List ℕ)) (rest : List ℕ) (entries : ℕ) (r : Result Entry EntryFault) → reading line ≡ r
      → ((h : List Entry) → entries_verdict g h more rest ≡ Legal entries → Entries g h more rest entries)
      → by_reading g h r (λ e. entries_verdict g (h ++ e ∷ []) more rest) ≡ Legal entries → Entries g h (line ∷ more) rest entries
  entry_of g h line more rest entries (Err fault) read on is = absurd (cc is)
  entry_of g h line more rest entries (Ok e) read on is =
      let none = rule_none (next_line h) (broken_by g h e) (entries_verdict g (h ++ e ∷ []) more rest) entries is in
      let later = on (h ++ e ∷ []) none.1 in
      record {
        journal = e ∷ later.journal;
        fit = (is_an_entry e line read, later.fit);
        text = ap (λ (l : List ℕ). line ++ 10 ∷ l) later.text ∙ sym (append_assoc line (10 ∷ []) (flat_map entry_line later.journal))
            ∙ ap (λ (l : List ℕ). l ++ flat_map entry_line later.journal) (sym (its_line e line read));
        legal = ((decide g h (cache_of g h) e).0 none.0, subst (λ (c : Cache). LegalFrom g (h ++ e ∷ []) c later.journal) (step g h e) later.legal);
        count = omega (arith, later.count, length-push h e);
      }

  entries_of : (g : Geometry) (h : List Entry) (lines : List (List ℕ)) (rest : List ℕ) (entries : ℕ) → entries_verdict g h lines rest ≡ Legal entries → Entries g h lines rest entries
  entries_of g h [] [] entries is = record { journal = []; fit = tt; text = refl; legal = tt; count = let same = same_legal (length h) entries is in omega (arith, same) }
  entries_of g h [] (b ∷ rest) entries is = absurd (cc is)
  entries_of g h (line ∷ more) rest entries is = entry_of g h line more rest entries (reading line) refl (λ k. entries_of g k more rest entries) is

  geometry_by : (bytes : List ℕ) (entries : ℕ) (first : List ℕ) (more : List (List ℕ)) (rest : List ℕ) (r : Result Geometry HeadFault) → geometry_of_line first ≡ r
      → length bytes ≤ 16777216 → joined (first ∷ more) rest ≡ bytes → IsOneLine first → by_geometry r more rest ≡ Legal entries → IsRun entries bytes
  geometry_by bytes entries first more rest (Err fault) read few same one is = absurd (cc is)
  geometry_by bytes entries first more rest (Ok g) read few same one is =
      let noted = entries_of g [] more rest entries is in
      record {
        geometry = g;
        first_line = first;
        journal = noted.journal;
        bytes_are = sym same ∙ ap (λ (l : List ℕ). first ++ 10 ∷ l) noted.text;
        few = few;
        one_line = one;
        store_line = read;
        fit = noted.fit;
        legal = noted.legal;
        count = omega (arith, noted.count);
      }

  -- the run of lines that are answered so
  run_of : (bytes : List ℕ) (entries : ℕ) (whole : List (List ℕ)) (rest : List ℕ) → length bytes ≤ 16777216 → joined whole rest ≡ bytes → FirstIsOne whole → lines_verdict whole rest ≡ Legal entries → IsRun entries bytes
  run_of bytes entries [] rest few same one is = absurd (cc is)
  run_of bytes entries (first ∷ more) rest few same one is = geometry_by bytes entries first more rest (geometry_of_line first) refl few same one is

  not_many : (bytes : List ℕ) (entries : ℕ) (many : Bool) → nat_lt 16777216 (length bytes) ≡ many → verdict_on bytes ≡ Legal entries → length bytes ≤ 16777216
  not_many bytes entries true many is = let clash : BadLine 0 ≡ Legal entries = sym (on_long bytes (grind (arith, nat_tests))) ∙ is in absurd (cc clash)
  not_many bytes entries false many is = grind (arith, nat_tests)

  legal_is_run : (bytes : List ℕ) (entries : ℕ) → verdict_on bytes ≡ Legal entries → IsRun entries bytes
  legal_is_run bytes entries is =
      let few = not_many bytes entries (nat_lt 16777216 (length bytes)) refl is in
      run_of bytes entries (lines_of bytes).whole (lines_of bytes).rest few (join bytes) (first_is_one bytes) (sym (by_lines bytes few) ∙ is)

  pub each_run : EachRunIsLegal
  each_run bytes entries = (legal_is_run bytes entries, run_is_legal bytes entries)
