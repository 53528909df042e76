-- Which refusal applies first.
use Rattle.std.proofs.Common.{◌≡◌, ℕ, ◌<◌, ◌≤◌, Bool, true, false, cond, ◌&&◌, ◌||◌, is_none, nat_lt, Option, None, Some, refl, sym, ◌∙◌, ap, arith, find, if◌then◌else◌}
use Rattle.std.specs.Option.{unwrap_or}
use Rattle.std.proofs.lemmas.Bool.Decides.{nat_tests}
use Rattle.flash_text.specs.declared.text.Verb.{Verb}
use Rattle.flash_text.specs.declared.text.Refusal.{Refusal}
use Rattle.flash_text.specs.declared.text.Line.{Line}
use Rattle.flash_text.specs.declared.text.Line.TheVariants.{Command, Data, Bad}
use Rattle.flash_text.specs.Said.{Said, FieldValues}
use Rattle.flash_text.specs.Form.{is_storage, takes_delta}
use Rattle.flash_text.specs.Reading.{Cause, causes, no_length, no_delta, no_field, too_large, lacks_a_field, said_of}
use Rattle.flash_text.specs.Lines.{accepted, answer_of}
use Rattle.flash_text.specs.LineLaws.{ComesFirst, DataFollows, said_in}

-- the answer by the first cause, where there is one
abbrev answer : Said → Option Cause → Line
answer said None = accepted said
answer said (Some cause) = Bad cause.refusal cause.skip

-- four tests in order
abbrev first : {A : Type 0} → (a b c d : Bool) → (w x y z : A) → Option A
first a b c d w x y z = cond a (Some w) (cond b (Some x) (cond c (Some y) (cond d (Some z) None)))

none_applies : {A : Type 0} → (a b c d : Bool) (w x y z : A) → first a b c d w x y z ≡ None → d ≡ false
none_applies true b c d w x y z is = absurd (cc is)
none_applies false true c d w x y z is = absurd (cc is)
none_applies false false true d w x y z is = absurd (cc is)
none_applies false false false true w x y z is = absurd (cc is)
none_applies false false false false w x y z is = refl

accepted_says : (said : Said) (test : Bool) → said_in (if test then Data said said.length else Command said) ≡ Some said
accepted_says said true = refl
accepted_says said false = refl

said_by : (said other : Said) (cause : Option Cause) → said_in (answer other cause) ≡ Some said → (cause ≡ None) × (said ≡ other)
said_by said other None is = let same : Some said ≡ Some other = sym is ∙ accepted_says other (is_storage other.verb) in (refl, cc same)
said_by said other (Some cause) is = absurd (cc is)

-- what an answer says is what the fields say, and its length is allowed
pub said_is : (item_max : ℕ) (verb : Verb) (fields : FieldValues) (said : Said) → said_in (answer_of item_max verb fields) ≡ Some said
    → (said ≡ said_of verb fields) × (unwrap_or fields.length 0 ≤ item_max)
unfolding answer_of
said_is item_max verb fields said is =
    let found = said_by said (said_of verb fields) (find (λ cause. cause.applies) (causes item_max verb fields)) is in
    let within : nat_lt item_max (unwrap_or fields.length 0) ≡ false = none_applies (is_none fields.length) (takes_delta verb && is_none fields.number) (lacks_a_field fields) (nat_lt item_max (unwrap_or fields.length 0)) _ _ _ _ found.0 in
    (found.1, grind (arith, nat_tests))

by_first : (said : Said) (a b c d : Bool) (w x y z : Cause) → a ≡ true → answer said (first a b c d w x y z) ≡ Bad w.refusal w.skip
by_first said true b c d w x y z is = refl
by_first said false b c d w x y z is = absurd (cc is)

by_second : (said : Said) (a b c d : Bool) (w x y z : Cause) → a ≡ false → b ≡ true → answer said (first a b c d w x y z) ≡ Bad x.refusal x.skip
by_second said true b c d w x y z not_a is = absurd (cc not_a)
by_second said false b c d w x y z not_a is = by_first said b c d false x y z z is

by_third : (said : Said) (a b c d : Bool) (w x y z : Cause) → a ≡ false → b ≡ false → c ≡ true → answer said (first a b c d w x y z) ≡ Bad y.refusal y.skip
by_third said true b c d w x y z not_a not_b is = absurd (cc not_a)
by_third said false b c d w x y z not_a not_b is = by_second said b c d false x y z z not_b is

by_fourth : (said : Said) (a b c d : Bool) (w x y z : Cause) → a ≡ false → b ≡ false → c ≡ false → d ≡ true → answer said (first a b c d w x y z) ≡ Bad z.refusal z.skip
by_fourth said true b c d w x y z not_a not_b not_c is = absurd (cc not_a)
by_fourth said false b c d w x y z not_a not_b not_c is = by_third said b c d false x y z z not_b not_c is

by_none : (said : Said) (a b c d : Bool) (w x y z : Cause) → a ≡ false → b ≡ false → c ≡ false → d ≡ false → answer said (first a b c d w x y z) ≡ accepted said
by_none said true b c d w x y z not_a not_b not_c not_d = absurd (cc not_a)
by_none said false true c d w x y z not_a not_b not_c not_d = absurd (cc not_b)
by_none said false false true d w x y z not_a not_b not_c not_d = absurd (cc not_c)
by_none said false false false true w x y z not_a not_b not_c not_d = absurd (cc not_d)
by_none said false false false false w x y z not_a not_b not_c not_d = refl

last_false : (a b : Bool) → (a || b) ≡ false → b ≡ false
last_false true b is = absurd (cc is)
last_false false b is = is

none_with : (a b : Bool) → b ≡ false → (a && b) ≡ false
none_with true b is = is
none_with false b is = refl

no_delta_lacks : (verb : Verb) (fields : FieldValues) → lacks_a_field fields ≡ false → (takes_delta verb && is_none fields.number) ≡ false
no_delta_lacks verb fields is = none_with (takes_delta verb) (is_none fields.number) (last_false _ (is_none fields.number) is)

above : (item_max n : ℕ) (length : Option ℕ) → length ≡ Some n → item_max < n → nat_lt item_max (unwrap_or length 0) ≡ true
above item_max n length is more = ap (λ (l : Option ℕ). nat_lt item_max (unwrap_or l 0)) is ∙ grind (arith, nat_tests)

within : (item_max n : ℕ) (length : Option ℕ) → length ≡ Some n → n ≤ item_max → nat_lt item_max (unwrap_or length 0) ≡ false
within item_max n length is few = ap (λ (l : Option ℕ). nat_lt item_max (unwrap_or l 0)) is ∙ grind (arith, nat_tests)

-- the refusals come in their order
pub comes_first : (item_max : ℕ) (verb : Verb) (fields : FieldValues) → ComesFirst item_max verb fields
unfolding answer_of
comes_first item_max verb fields =
    let said = said_of verb fields in
    let a = is_none fields.length in
    let b = takes_delta verb && is_none fields.number in
    let c = lacks_a_field fields in
    let d = nat_lt item_max (unwrap_or fields.length 0) in
    let w = no_length fields in
    let x = no_delta verb fields in
    let y = no_field verb fields in
    let z = too_large item_max verb fields in
    record {
      no_length = λ none. by_first said a b c d w x y z (ap is_none none);
      no_delta = λ length is takes none.
          by_second said a b c d w x y z (ap is_none is) (ap (λ (t : Bool). t && is_none fields.number) takes ∙ ap is_none none);
      no_field = λ length is other lacks. by_third said a b c d w x y z (ap is_none is) other lacks;
      too_large = λ length is lacks more.
          by_fourth said a b c d w x y z (ap is_none is) (no_delta_lacks verb fields lacks) lacks (above item_max length fields.length is more);
      read = λ length is lacks few.
          by_none said a b c d w x y z (ap is_none is) (no_delta_lacks verb fields lacks) lacks (within item_max length fields.length is few);
    }

follows_by : (said : Said) (test : Bool) → is_storage said.verb ≡ test → DataFollows (if test then Data said said.length else Command said)
follows_by said true is = record {
  storage = λ other n same. let one : said ≡ other = cc same in let length : said.length ≡ n = cc same in
      (ap (λ (s : Said). is_storage s.verb) (sym one) ∙ is, sym length ∙ ap (λ (s : Said). s.length) one);
  other = λ other same. absurd (cc same);
}
follows_by said false is = record {
  storage = λ other n same. absurd (cc same);
  other = λ other same. let one : said ≡ other = cc same in ap (λ (s : Said). is_storage s.verb) (sym one) ∙ is;
}

-- nothing follows a line that is refused
pub refused_follows : (refusal : Refusal) (skip : ℕ) → DataFollows (Bad refusal skip)
refused_follows refusal skip = record { storage = λ said n same. absurd (cc same); other = λ said same. absurd (cc same) }

follows : (said : Said) (cause : Option Cause) → DataFollows (answer said cause)
follows said None = follows_by said (is_storage said.verb) refl
follows said (Some cause) = refused_follows cause.refusal cause.skip

-- data follows a storage line that is read
pub answer_follows : (item_max : ℕ) (verb : Verb) (fields : FieldValues) → DataFollows (answer_of item_max verb fields)
unfolding answer_of
answer_follows item_max verb fields = follows (said_of verb fields) _
