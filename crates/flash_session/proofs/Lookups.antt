-- A lookup that is under way, and the command at the front.
use Rattle.std.proofs.Common.{◌≡◌, ℕ, zero, suc, ◌+◌, ◌-◌, ◌≤◌, Bool, true, false, ◌==◌, List, [], ◌∷◌, ◌++◌, length, drop, map, Option, None, Some, if◌then◌else◌, refl, sym, ◌∙◌, ap, subst, arith, length-drop, drop-drop}
use Rattle.std.specs.Prelude.{is_some, nat_le, slice_get, min, Result, Ok, Err, OnOk, OnErr, IfSome}
use Rattle.std.specs.declared.alloc.AllocError.{AllocError}
use Rattle.std.proofs.lemmas.Bool.Decides.{nat_tests}
use Rattle.std.proofs.lemmas.List.{drop-map}
use Rattle.flash_entry.specs.declared.ask.Ask.{Ask}
use Rattle.flash_entry.specs.declared.ask.Ask.TheVariants as asks
use Rattle.flash_entry.specs.declared.ask.Look.{Look}
use Rattle.flash_entry.specs.declared.found.Told.{Told}
use Rattle.flash_entry.specs.declared.found.Told.TheVariants as told
use Rattle.flash_text.specs.Said.{Said}
use Rattle.flash_text.specs.Words.{spaced_words, from_word, behind_space, behind_word}
use Rattle.flash_text.specs.declared.text.Verb.{Verb}
use Rattle.flash_reply.specs.declared.command.Command.{Command}
use Rattle.flash_reply.specs.declared.command.Command.TheVariants.{Text}
use Rattle.flash_reply.specs.Lines.{unless_quiet}
use Rattle.flash_reply.specs.Replies.{text}
use Rattle.flash_reply.specs.TextReplies.{first_text, loud_text, plain_line}
use Rattle.flash_commands.specs.declared.place.Place.{Place}
use Rattle.flash_commands.specs.AskLaws.{ALookupAsksAtEachKey}
use Rattle.flash_commands.specs.Asks.{look_of, asks_of}
use Rattle.flash_commands.specs.Parts.{Asks, Front, Takes}
use Rattle.flash_commands.specs.Commands.{line_limit, front_of}
use Rattle.flash_commands.proofs.Fronts.{FrontStays, front_stays}
use Rattle.flash_reader.specs.Readers.{Reads, fed, taken}
use Rattle.flash_session.specs.declared.lookup.Lookup.{Lookup}
use Rattle.flash_session.specs.Lookups.{Keeps, rest_said, IsLeftOf, IsAtFront, IsKept, IsOneOn}
use Rattle.flash_session.specs.States.{Session, front_now, after_front, ask_at, is_done, told_at}
use Rattle.flash_session.specs.Talks.{ends_command}

-- what stands at the end of a line
abbrev EndsWith : List ℕ → List ℕ → Type 0
EndsWith line part = (n : ℕ) × (n ≤ length line) × (part ≡ drop n line)

one_more : (b : ℕ) (line part : List ℕ) → EndsWith line part → EndsWith (b ∷ line) part
one_more b line part ends = (suc ends.0, omega (arith, ends.1), ends.2)

from_by : (b : ℕ) (line : List ℕ) (space : Bool) → EndsWith line (from_word line) → EndsWith (b ∷ line) (if space then from_word line else b ∷ line)
from_by b line true ends = one_more b line (from_word line) ends
from_by b line false ends = (0, omega arith, refl)

from_ends : (line : List ℕ) → EndsWith line (from_word line)
from_ends [] = (0, omega arith, refl)
from_ends (b ∷ line) = from_by b line (b == 32) (from_ends line)

behind_by : (b : ℕ) (line : List ℕ) (space : Bool) → EndsWith line (behind_space line) → EndsWith (b ∷ line) (if space then line else behind_space line)
behind_by b line true ends = (1, omega arith, refl)
behind_by b line false ends = one_more b line (behind_space line) ends

behind_ends : (line : List ℕ) → EndsWith line (behind_space line)
behind_ends [] = (0, omega arith, refl)
behind_ends (b ∷ line) = behind_by b line (b == 32) (behind_ends line)

-- a part at the end of a line stands where its length says
at_end : (line part : List ℕ) (n : ℕ) → n ≤ length line → part ≡ drop n line → part ≡ drop (length line - length part) line
at_end line part n within is =
    let left : length part ≡ length line - n = ap (λ (l : List ℕ). length l) is ∙ length-drop n line in
    let same : n ≡ length line - length part = omega (arith, left, within) in
    is ∙ ap (λ (k : ℕ). drop k line) same

-- what is behind the first word of a line
pub behind_is : (line : List ℕ) → behind_word line ≡ drop (length line - length (behind_word line)) line
behind_is line =
    let first = from_ends line in
    let second = behind_ends (from_word line) in
    let is : behind_word line ≡ drop (first.0 + second.0) line = second.2 ∙ ap (drop second.0) first.2 ∙ drop-drop second.0 first.0 line in
    let left : length (from_word line) ≡ length line - first.0 = ap (λ (l : List ℕ). length l) first.2 ∙ length-drop first.0 line in
    let least : first.0 ≤ length line = first.1 in
    let more : second.0 ≤ length (from_word line) = second.1 in
    at_end line (behind_word line) (first.0 + second.0) (omega (arith, left, least, more)) is

-- a lookup stays at the front where more bytes come
pub kept_over : (reads : Reads) (step : ℕ) (kept : Option Lookup) (keys more : List ℕ) → IsKept reads step kept keys → IsKept (record reads { reader = fed reads.reader more }) step kept keys
kept_over reads step None keys more is = tt
kept_over reads step (Some lookup) keys more is =
    let same : min reads.reader.skip (length (reads.reader.unread ++ more)) ≡ 0 = (let none = is.none_skipped in omega (arith, none)) in
    let front = ap (λ (k : ℕ). front_of reads.item_max line_limit reads.reader.place (drop k (reads.reader.unread ++ more))) same in
    let stays = subst (λ (f : Front). FrontStays f (front_of reads.item_max line_limit reads.reader.place (reads.reader.unread ++ more))) is.front
    (front_stays reads.item_max line_limit reads.reader.place reads.reader.unread more) in
    record {
      said = is.said;
      block = is.block;
      none_skipped = (let none = is.none_skipped in omega (arith, same, none));
      front = front ∙ stays;
      left = is.left;
    }

pub kept_by : (r : Result ℕ AllocError) (old new : Reads) (step : ℕ) (kept : Option Lookup) (keys more : List ℕ) → OnOk r (new ≡ record old { reader = fed old.reader more }) → OnErr r (new ≡ old)
    → IsKept old step kept keys → IsKept new step kept keys
kept_by (Ok n) old new step kept keys more went failed is = subst (λ (reads : Reads). IsKept reads step kept keys) (sym went) (kept_over old step kept keys more is)
kept_by (Err e) old new step kept keys more went failed is = subst (λ (reads : Reads). IsKept reads step kept keys) (sym failed) is

-- a lookup whose first step is asked is kept
pub kept_at : (reads : Reads) (step n : ℕ) (found : Option Lookup) (keys block : List ℕ) (command : Command) (next : Place) → step ≡ 0 → reads.reader.skip ≡ 0
    → front_of reads.item_max line_limit reads.reader.place reads.reader.unread ≡ Takes (Asks command block ∷ []) n next → IfSome found (λ lookup. Keeps lookup keys command n next)
    → IsKept reads step found keys
kept_at reads step n None keys block command next first none front keeps = tt
kept_at reads step n (Some lookup) keys block command next first none front keeps = record {
  said = keeps.said;
  block = block;
  none_skipped = none;
  front =
      front ∙ ap (λ (to : Command). Takes (Asks to block ∷ []) n next) keeps.is
      ∙ ap (λ (k : ℕ). Takes (Asks (Text keeps.said) block ∷ []) k next) (sym keeps.bytes_are)
      ∙ ap (λ (p : Place). Takes (Asks (Text keeps.said) block ∷ []) lookup.bytes p) (sym keeps.next_is);
  left = subst (λ (k : ℕ). IsLeftOf keeps.said k lookup keys) (sym first) keeps.left;
}

look_there : (found : Option Look) → is_some found ≡ true → (look : Look) × (found ≡ Some look)
look_there None is = absurd (cc is)
look_there (Some look) is = (look, refl)

slice_get-drop : {A : Type 0} (n k : ℕ) (xs : List A) → slice_get (drop n xs) k ≡ slice_get xs (n + k)
slice_get-drop zero k xs = let same : k ≡ 0 + k = omega arith in ap (λ (j : ℕ). slice_get xs j) same
slice_get-drop (suc n) k [] = refl
slice_get-drop (suc n) k (x ∷ xs) = let same : suc (n + k) ≡ suc n + k = omega arith in slice_get-drop n k xs ∙ ap (λ (j : ℕ). slice_get (x ∷ xs) j) same

-- a command with fewer keys, and the same verb, is replied to as the step at its first key
module _ (said short : Said) (step : ℕ) (verb : short.verb ≡ said.verb) (quiet : short.quiet ≡ said.quiet) (words : spaced_words short.keys ≡ drop step (spaced_words said.keys)) where
  loud_alike : (answer : Told) → loud_text short 1 answer ≡ loud_text said (step + 1) answer
  loud_alike (told.Found answer) =
      let same : step ≡ step + 1 - 1 = omega arith in
      ap (λ (v : Verb). first_text v (spaced_words short.keys) answer) verb
      ∙ ap (λ (keys : List (List ℕ)). first_text said.verb keys answer) (words ∙ ap (λ (k : ℕ). drop k (spaced_words said.keys)) same)
  loud_alike told.Flushed = ap plain_line verb
  loud_alike (told.Stored answer) = refl
  loud_alike (told.Gone answer) = refl
  loud_alike (told.Sum answer) = refl
  loud_alike (told.Touched answer) = refl
  loud_alike (told.Tally answer) = refl
  loud_alike told.NoMemory = refl

  text_alike : (answer : Told) → text (Text short) 1 answer ≡ text (Text said) (step + 1) answer
  text_alike answer = ap (λ (q : Bool). unless_quiet q (loud_text short 1 answer)) quiet ∙ ap (unless_quiet said.quiet) (loud_alike answer)

module _ (law : ALookupAsksAtEachKey) (said : Said) (step : ℕ) (lookup : Lookup) (keys : List ℕ) (left : IsLeftOf said step lookup keys) where
  abbrev short : Said
  short = rest_said lookup keys

  -- what is left of its steps
  rest_asks : (block other : List ℕ) → asks_of (Text short) other ≡ drop step (asks_of (Text said) block)
  rest_asks block other =
      let look = look_there (look_of said.verb said.exptime) left.looks in
      let same : look_of short.verb short.exptime ≡ Some look.0 = ap (λ (v : Verb). look_of v short.exptime) left.verb ∙ ap (look_of said.verb) left.exptime ∙ look.1 in
      law short other look.0 same
      ∙ ap (map (λ key. asks.Look key look.0)) left.words
      ∙ sym (drop-map (λ key. asks.Look key look.0) step (spaced_words said.keys))
      ∙ sym (ap (drop step) (law said block look.0 look.1))

  -- its next step is the first one that is left
  pub first_is_next : (block other : List ℕ) → slice_get (asks_of (Text short) other) 0 ≡ slice_get (asks_of (Text said) block) step
  first_is_next block other =
      let same : step + 0 ≡ step = omega arith in
      ap (λ (l : List Ask). slice_get l 0) (rest_asks block other) ∙ slice_get-drop step 0 (asks_of (Text said) block)
      ∙ ap (λ (k : ℕ). slice_get (asks_of (Text said) block) k) same

  -- it is done where the step was its last one
  done_alike : (answer : Told) (block other : List ℕ) → is_done answer 1 (asks_of (Text short) other) ≡ is_done answer (step + 1) (asks_of (Text said) block)
  done_alike answer block other =
      let all = asks_of (Text said) block in
      let count = length-drop step all in
      let last : nat_le (length (drop step all)) 1 ≡ nat_le (length all) (step + 1) = grind (arith, nat_tests, count) in
      ap (λ (l : List Ask). is_done answer 1 l) (rest_asks block other) ∙ ap (λ (b : Bool). if ends_command answer then true else b) last

module _ (law : ALookupAsksAtEachKey) (s : Session) (lookup : Lookup) (keys : List ℕ) (at : IsAtFront s.reads s.step lookup keys) where
  abbrev rest : Said
  rest = rest_said lookup keys

  -- the step that is next
  pub asked_next : (other : List ℕ) → slice_get (asks_of (Text rest) other) 0 ≡ ask_at s.step (front_now s)
  asked_next other = first_is_next law at.said s.step lookup keys at.left at.block other ∙ sym (ap (ask_at s.step) at.front)

  module _ (answer : Told) (other : List ℕ) where
    abbrev reply : List ℕ
    reply = text (Text rest) 1 answer

    abbrev either : Bool → List ℕ → Session
    either done said =
        if done then record (after_front s lookup.bytes lookup.next said) { owed = false }
        else record s { owed = false; step = s.step + 1; out = s.out ++ said }

    pub told_by : (done : Bool) → is_done answer 1 (asks_of (Text rest) other) ≡ done → told_at s (front_now s) answer ≡ either done reply
    told_by done is =
        ap (λ (f : Front). told_at s f answer) at.front
        ∙ ap (λ (b : Bool). either b (text (Text at.said) (s.step + 1) answer)) (sym (done_alike law at.said s.step lookup keys at.left answer at.block other) ∙ is)
        ∙ ap (either done) (sym (text_alike at.said rest s.step at.left.verb at.left.quiet at.left.words answer))

  -- the lookup that is left after the step
  pub one_on : (new : Lookup) → IsOneOn lookup new keys → IsAtFront s.reads (s.step + 1) new keys
  one_on new on = subst (λ (l : Lookup). IsAtFront s.reads (s.step + 1) l keys) (sym on.1) (record {
    said = at.said;
    block = at.block;
    none_skipped = at.none_skipped;
    front = at.front;
    left = record {
      looks = at.left.looks;
      verb = at.left.verb;
      exptime = at.left.exptime;
      quiet = at.left.quiet;
      within = (let all = at.left.within in let some = on.2.within in let count = length-drop lookup.at keys in omega (arith, all, some, count));
      words =
          ap (λ (l : List ℕ). spaced_words l) (sym (drop-drop on.0 lookup.at keys))
          ∙ on.2.words ∙ ap (drop 1) at.left.words ∙ drop-drop 1 s.step (spaced_words at.said.keys);
    };
  })

-- a session after its lookup's last step, by what its parts are
pub is_after : (s : Session) (reads : Reads) (out said : List ℕ) (n : ℕ) (next : Place) → reads ≡ record s.reads { reader = taken s.reads.reader n next } → out ≡ s.out ++ said
    → record s { reads = reads; step = 0; owed = false; out = out } ≡ record (after_front s n next said) { owed = false }
is_after s reads out said n next took more =
    ap (λ (r : Reads). record s { reads = r; step = 0; owed = false; out = out }) took
    ∙ ap (λ (o : List ℕ). record s { reads = record s.reads { reader = taken s.reads.reader n next }; step = 0; owed = false; out = o }) more

-- and after another one
pub is_between : (s : Session) (step : ℕ) (out said : List ℕ) → step ≡ s.step + 1 → out ≡ s.out ++ said
    → record s { owed = false; step = step; out = out } ≡ record s { owed = false; step = s.step + 1; out = s.out ++ said }
is_between s step out said next more =
    ap (λ (k : ℕ). record s { owed = false; step = k; out = out }) next ∙ ap (λ (o : List ℕ). record s { owed = false; step = s.step + 1; out = o }) more
