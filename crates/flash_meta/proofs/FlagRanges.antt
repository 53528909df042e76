-- The numbers that flags give are in their ranges, and the key is that of its word.
use Rattle.std.proofs.Common.{◌≡◌, ℕ, ◌<◌, ◌^◌, Bool, true, false, ◌==◌, ◌&&◌, nat_lt, List, [], ◌∷◌, length, Option, None, Some, Result, Ok, Err, IfSome, IfOk, if◌then◌else◌, subst, arith}
use Rattle.std.specs.Option.{option_map}
use Rattle.std.specs.List.{list_any}
use Rattle.flash_names.specs.Numbers.{number_of}
use Rattle.flash_text.specs.Numbers.{number_below, exptime_of}
use Rattle.flash_text.specs.LineLaws.{IsExptime}
use Rattle.flash_text.specs.declared.text.Refusal.{Refusal}
use Rattle.flash_text.specs.declared.text.Refusal.TheVariants.{BadFlag, DuplicateFlag, BadToken}
use Rattle.flash_text.proofs.Ranges.{below_limit, number_fits, exptime_fits}
use Rattle.flash_meta.specs.declared.meta.MetaVerb.{MetaVerb}
use Rattle.flash_meta.specs.declared.flags.Flag.{Flag}
use Rattle.flash_meta.specs.declared.flags.Flag.TheVariants.{Base64, Quiet, Value, Shown, Opaque, Exptime, ClientFlags, Compare, StoreMode, Direction, Delta, Create, Start}
use Rattle.flash_meta.specs.declared.flags.Flags.{Flags}
use Rattle.flash_meta.specs.Flags.{is_bare}
use Rattle.flash_meta.specs.FlagReading.{no_flags, mode_of, down_of, with_flag, or_refusal, read_known, read_word, given_with, read_words, flags_in}

-- each number is in its range
pub record AreInRange (f : Flags) : Type 0 where
  pub exptime : IfSome f.exptime IsExptime
  pub flags : f.flags < 2 ^ 32
  pub compare : IfSome f.compare (λ n. n < 2 ^ 64)
  pub delta : f.delta < 2 ^ 64
  pub create : IfSome f.create IsExptime
  pub start : f.start < 2 ^ 64

at_first : AreInRange no_flags
at_first = record { exptime = tt; flags = grind arith; compare = tt; delta = grind arith; create = tt; start = grind arith }

with_found : {A : Type 0} (P : A → Type 0) (set : A → Flags) (found : Option A) → IfSome found P → ((x : A) → P x → AreInRange (set x)) → IfSome (option_map set found) AreInRange
with_found P set None all here = tt
with_found P set (Some x) all here = here x all

any : {A : Type 0} (found : Option A) → IfSome found (λ (x : A). Unit {0})
any None = tt
any (Some x) = tt

kept : (flags : Flags) (test : Bool) → AreInRange flags → IfSome (if test then Some flags else None) AreInRange
kept flags true are = are
kept flags false are = tt

at_flag : (flag : Flag) (token : List ℕ) (flags : Flags) → AreInRange flags → IfSome (with_flag flag token flags) AreInRange
at_flag Base64 token flags are = record { exptime = are.exptime; flags = are.flags; compare = are.compare; delta = are.delta; create = are.create; start = are.start }
at_flag Quiet token flags are = record { exptime = are.exptime; flags = are.flags; compare = are.compare; delta = are.delta; create = are.create; start = are.start }
at_flag Value token flags are = record { exptime = are.exptime; flags = are.flags; compare = are.compare; delta = are.delta; create = are.create; start = are.start }
at_flag Shown token flags are = are
at_flag Opaque token flags are = kept flags _ are
at_flag Exptime token flags are = with_found IsExptime (λ e. record flags { exptime = Some e }) (exptime_of token) (exptime_fits token)
    (λ e fits. record { exptime = fits; flags = are.flags; compare = are.compare; delta = are.delta; create = are.create; start = are.start })
at_flag ClientFlags token flags are = with_found (λ n. n < 2 ^ 32) (λ n. record flags { flags = n }) (number_below (2 ^ 32) token) (below_limit (2 ^ 32) (number_of token))
    (λ n fits. record { exptime = are.exptime; flags = fits; compare = are.compare; delta = are.delta; create = are.create; start = are.start })
at_flag Compare token flags are = with_found (λ n. n < 2 ^ 64) (λ n. record flags { compare = Some n }) (number_of token) (number_fits token)
    (λ n fits. record { exptime = are.exptime; flags = are.flags; compare = fits; delta = are.delta; create = are.create; start = are.start })
at_flag StoreMode token flags are = with_found (λ _. Unit {0}) (λ m. record flags { mode = m }) (mode_of token) (any (mode_of token))
    (λ m fits. record { exptime = are.exptime; flags = are.flags; compare = are.compare; delta = are.delta; create = are.create; start = are.start })
at_flag Direction token flags are = with_found (λ _. Unit {0}) (λ d. record flags { down = d }) (down_of token) (any (down_of token))
    (λ d fits. record { exptime = are.exptime; flags = are.flags; compare = are.compare; delta = are.delta; create = are.create; start = are.start })
at_flag Delta token flags are = with_found (λ n. n < 2 ^ 64) (λ n. record flags { delta = n }) (number_of token) (number_fits token)
    (λ n fits. record { exptime = are.exptime; flags = are.flags; compare = are.compare; delta = fits; create = are.create; start = are.start })
at_flag Create token flags are = with_found IsExptime (λ e. record flags { create = Some e }) (exptime_of token) (exptime_fits token)
    (λ e fits. record { exptime = are.exptime; flags = are.flags; compare = are.compare; delta = are.delta; create = fits; start = are.start })
at_flag Start token flags are = with_found (λ n. n < 2 ^ 64) (λ n. record flags { start = n }) (number_of token) (number_fits token)
    (λ n fits. record { exptime = are.exptime; flags = are.flags; compare = are.compare; delta = are.delta; create = are.create; start = fits })

read_ok : (refusal : Refusal) (found : Option Flags) → IfSome found AreInRange → IfOk (or_refusal refusal found) AreInRange
read_ok refusal None all = tt
read_ok refusal (Some flags) all = all

tested : (a b : Bool) (x y : Refusal) (found : Result Flags Refusal) → IfOk found AreInRange → IfOk (if a then Err x else if b then Err y else found) AreInRange
tested true b x y found all = tt
tested false true x y found all = tt
tested false false x y found all = all

at_known : (flag : Option Flag) (letter : ℕ) (token given : List ℕ) (flags : Flags) → AreInRange flags → IfOk (read_known flag letter token given flags) AreInRange
at_known None letter token given flags are = tt
at_known (Some flag) letter token given flags are =
    tested (is_bare flag && nat_lt 0 (length token)) (list_any (λ other. other == letter) given) BadFlag DuplicateFlag
    (or_refusal BadToken (with_flag flag token flags)) (read_ok BadToken (with_flag flag token flags) (at_flag flag token flags are))

at_word : (verb : MetaVerb) (given word : List ℕ) (flags : Flags) → AreInRange flags → IfOk (read_word verb given word flags) AreInRange
at_word verb given [] flags are = are
at_word verb given (letter ∷ token) flags are = at_known _ letter token given flags are

and_then : (found : Result Flags Refusal) (next : Flags → Result Flags Refusal) → IfOk found AreInRange → ((more : Flags) → AreInRange more → IfOk (next more) AreInRange)
    → IfOk (elim found [ Err refusal ↦ Err refusal | Ok more ↦ next more ]) AreInRange
and_then (Err refusal) next all here = tt
and_then (Ok more) next all here = here more all

at_words : (verb : MetaVerb) (given : List ℕ) (words : List (List ℕ)) (flags : Flags) → AreInRange flags → IfOk (read_words verb given words flags) AreInRange
at_words verb given [] flags are = are
at_words verb given (word ∷ words) flags are =
    and_then (read_word verb given word flags) (λ more. read_words verb (given_with given word) words more) (at_word verb given word flags are)
    (λ more all. at_words verb (given_with given word) words more all)

flags_are : (verb : MetaVerb) (words : List (List ℕ)) → IfOk (flags_in verb words) AreInRange
unfolding flags_in
flags_are verb words = at_words verb [] words no_flags at_first

-- the numbers of flags that were read are in their ranges
pub found_in_range : (verb : MetaVerb) (words : List (List ℕ)) (flags : Flags) → flags_in verb words ≡ Ok flags → AreInRange flags
found_in_range verb words flags is = subst (λ (found : Result Flags Refusal). IfOk found AreInRange) is (flags_are verb words)
