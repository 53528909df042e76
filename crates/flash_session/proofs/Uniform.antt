-- A command asks something at each of its keys, or at none.
use Rattle.std.proofs.Common.{◌≡◌, ℕ, ℤ, zero, suc, Bool, true, false, List, [], ◌∷◌, ◌++◌, Option, None, Some, refl, sym, ◌∙◌, ap, arith}
use Rattle.std.specs.Prelude.{is_some, nat_eq, slice_get}
use Rattle.std.specs.Option.{option_to_list}
use Rattle.std.specs.List.{filter_map}
use Rattle.std.proofs.lemmas.List.{append-nil}
use Rattle.std.proofs.lemmas.Bool.Decides.{nat_tests}
use Rattle.std.proofs.lemmas.Option.{slice_get_past}
use Rattle.flash_entry.specs.declared.ask.Ask.{Ask}
use Rattle.flash_text.specs.Said.{Said}
use Rattle.flash_text.specs.Words.{spaced_words}
use Rattle.flash_text.specs.declared.text.Verb.{Verb}
use Rattle.flash_text.specs.declared.text.Verb.TheVariants as verbs
use Rattle.flash_commands.specs.Asks.{look_of, look_or_change, key_ask, whole_ask, text_asks}

-- what is asked at the key of this number, if there is one
abbrev pub ask_of_word : (List ℕ → Option Ask) → Option (List ℕ) → Option Ask
ask_of_word f None = None
ask_of_word f (Some word) = f word

module _ (f : List ℕ → Option Ask) where
  some_by : (found : Option Ask) → is_some found ≡ true → (ask : Ask) × (found ≡ Some ask)
  some_by None is = absurd (cc is)
  some_by (Some ask) is = (ask, refl)

  none_by : (found : Option Ask) → is_some found ≡ false → found ≡ None
  none_by None is = refl
  none_by (Some ask) is = absurd (cc is)

  pub all_none : ((word : List ℕ) → is_some (f word) ≡ false) → (words : List (List ℕ)) → filter_map f words ≡ []
  all_none none [] = refl
  all_none none (word ∷ words) = let one : f word ≡ None = none_by (f word) (none word) in rw one (all_none none words)

  pub all_some : ((word : List ℕ) → is_some (f word) ≡ true) → (words : List (List ℕ)) (n : ℕ) → slice_get (filter_map f words) n ≡ ask_of_word f (slice_get words n)
  all_some some [] n = refl
  all_some some (word ∷ words) zero = let one = some_by (f word) (some word) in rw one.1 refl
  all_some some (word ∷ words) (suc n) = let one = some_by (f word) (some word) in rw one.1 (all_some some words n)

-- whether a command asks at its keys
abbrev keyed : Verb → Bool
keyed verbs.FlushAll = false
keyed verbs.Verbosity = false
keyed verbs.Stats = false
keyed verbs.Version = false
keyed verbs.Quit = false
keyed verbs.Mn = false
keyed _ = true

keyed_by : (verb : Verb) (said : Said) (key block : List ℕ) → is_some (look_or_change (look_of verb said.exptime) (record said { verb = verb }) key block) ≡ keyed verb
keyed_by verbs.FlushAll said key block = refl
keyed_by verbs.Verbosity said key block = refl
keyed_by verbs.Stats said key block = refl
keyed_by verbs.Version said key block = refl
keyed_by verbs.Quit said key block = refl
keyed_by verbs.Mn said key block = refl
keyed_by _ said key block = refl

whole_keyless : (verb : Verb) (exptime : ℤ) (ask : Ask) → whole_ask verb exptime ≡ Some ask → keyed verb ≡ false
whole_keyless verbs.FlushAll exptime ask is = refl
whole_keyless verbs.Stats exptime ask is = refl
whole_keyless _ exptime ask is = absurd (cc is)

module _ (said : Said) (block : List ℕ) where
  abbrev f : List ℕ → Option Ask
  f key = key_ask said key block

  is_keyed : (key : List ℕ) → is_some (f key) ≡ keyed said.verb
  is_keyed key = keyed_by said.verb said key block

  nothing_of : (found : Option (List ℕ)) → keyed said.verb ≡ false → ask_of_word f found ≡ None
  nothing_of None is = refl
  nothing_of (Some word) is = none_by f (f word) (is_keyed word ∙ is)

  by_keyed : (b : Bool) → keyed said.verb ≡ b → (step : ℕ) → slice_get (filter_map f (spaced_words said.keys)) step ≡ ask_of_word f (slice_get (spaced_words said.keys) step)
  by_keyed true is step = all_some f (λ word. is_keyed word ∙ is) (spaced_words said.keys) step
  by_keyed false is step = ap (λ (l : List Ask). slice_get l step) (all_none f (λ word. is_keyed word ∙ is) (spaced_words said.keys)) ∙ sym (nothing_of (slice_get (spaced_words said.keys) step) is)

  -- without a step for the whole, the steps are those at the keys
  pub at_key : whole_ask said.verb said.exptime ≡ None → (step : ℕ) → slice_get (text_asks said block) step ≡ ask_of_word f (slice_get (spaced_words said.keys) step)
  at_key none step =
      ap (λ (w : Option Ask). slice_get (filter_map f (spaced_words said.keys) ++ option_to_list w) step) none
      ∙ ap (λ (l : List Ask). slice_get l step) (append-nil (filter_map f (spaced_words said.keys))) ∙ by_keyed (keyed said.verb) refl step

  -- and else there is that step alone
  pub at_whole : (ask : Ask) → whole_ask said.verb said.exptime ≡ Some ask → (step : ℕ) → slice_get (text_asks said block) step ≡ slice_get (ask ∷ []) step
  at_whole ask is step =
      let keyless : keyed said.verb ≡ false = whole_keyless said.verb said.exptime ask is in
      ap (λ (l : List Ask). slice_get (l ++ option_to_list (whole_ask said.verb said.exptime)) step) (all_none f (λ word. is_keyed word ∙ keyless) (spaced_words said.keys))
      ∙ ap (λ (w : Option Ask). slice_get (option_to_list w) step) is

  -- whether there is a step of this number
  one_step : (ask : Ask) (step : ℕ) → nat_eq step 0 ≡ is_some (slice_get (ask ∷ []) step)
  one_step ask zero = refl
  one_step ask (suc step) =
      let no : nat_eq (suc step) 0 ≡ false = grind (arith, nat_tests) in no ∙ ap (λ (a : Option Ask). is_some a) (sym (slice_get_past (ask ∷ []) (suc step) (omega arith)))

  pub whole_step : (found : Option Ask) → found ≡ whole_ask said.verb said.exptime → is_some found ≡ true → (step : ℕ) → nat_eq step 0 ≡ is_some (slice_get (text_asks said block) step)
  whole_step None is some step = absurd (cc some)
  whole_step (Some ask) is some step = one_step ask step ∙ sym (ap (λ (a : Option Ask). is_some a) (at_whole ask (sym is) step))

  found_is : (b : Bool) → ((key : List ℕ) → b ≡ is_some (f key)) → b ≡ true → (found : Option (List ℕ)) → is_some found ≡ is_some (ask_of_word f found)
  found_is b all holds None = refl
  found_is b all holds (Some word) = sym holds ∙ all word

  pub key_step : (whole : Option Ask) → whole ≡ whole_ask said.verb said.exptime → is_some whole ≡ false → (b : Bool) → ((key : List ℕ) → b ≡ is_some (f key)) → b ≡ true → (step : ℕ)
      → is_some (slice_get (spaced_words said.keys) step) ≡ is_some (slice_get (text_asks said block) step)
  key_step whole is none b all holds step =
      found_is b all holds (slice_get (spaced_words said.keys) step) ∙ sym (ap (λ (a : Option Ask). is_some a) (at_key (sym is ∙ none_by f whole none) step))

  pub no_step : (whole : Option Ask) → whole ≡ whole_ask said.verb said.exptime → is_some whole ≡ false → (b : Bool) → ((key : List ℕ) → b ≡ is_some (f key)) → b ≡ false → (step : ℕ)
      → b ≡ is_some (slice_get (text_asks said block) step)
  no_step whole is none b all never step =
      never ∙ sym (ap (λ (a : Option Ask). is_some a) (at_key (sym is ∙ none_by f whole none) step ∙ nothing_of (slice_get (spaced_words said.keys) step) (sym (is_keyed []) ∙ sym (all []) ∙ never)))
