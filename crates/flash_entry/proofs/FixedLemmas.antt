-- The fixed words, as they are printed and as they are read.
use Rattle.std.proofs.Common.{◌≡◌, ℕ, Bool, true, false, ◌==◌, ◌&&◌, not, List, [], ◌∷◌, Option, None, Some, codes, if◌then◌else◌, refl, sym, ap, subst}
use Rattle.std.proofs.lemmas.Slice.Eq.{bytes_eq-Decides}
use Rattle.std.specs.Option.{option_or, option_map}
use Rattle.std.specs.List.{list_all}
use Rattle.std.specs.Str.{bytes_eq}
use Rattle.flash_entry.specs.declared.ask.Mode.{Mode}
use Rattle.flash_entry.specs.declared.ask.Mode.TheVariants as modes
use Rattle.flash_entry.specs.declared.answer.Stored.{Stored}
use Rattle.flash_entry.specs.declared.answer.Stored.TheVariants as stores
use Rattle.flash_entry.specs.declared.answer.Gone.{Gone}
use Rattle.flash_entry.specs.declared.answer.Gone.TheVariants as goings
use Rattle.flash_entry.specs.declared.answer.Sum.{Sum}
use Rattle.flash_entry.specs.declared.answer.Sum.TheVariants as sums
use Rattle.flash_entry.specs.declared.answer.Touched.{Touched}
use Rattle.flash_entry.specs.declared.answer.Touched.TheVariants as touches
use Rattle.flash_entry.specs.declared.found.Cause.{Cause}
use Rattle.flash_entry.specs.declared.found.Cause.TheVariants as causes
use Rattle.flash_entry.specs.declared.entry.DropCause.{DropCause}
use Rattle.flash_entry.specs.declared.entry.DropCause.TheVariants as drops
use Rattle.flash_entry.specs.declared.entry.EndCause.{EndCause}
use Rattle.flash_entry.specs.declared.entry.EndCause.TheVariants as ends
use Rattle.flash_entry.specs.declared.kinds.Kind.{Kind}
use Rattle.flash_entry.specs.declared.kinds.Kind.TheVariants as kinds
use Rattle.flash_entry.specs.declared.kinds.StepKind.{StepKind}
use Rattle.flash_entry.specs.declared.kinds.StepKind.TheVariants as steps
use Rattle.flash_entry.specs.declared.kinds.LookupKind.{LookupKind}
use Rattle.flash_entry.specs.declared.kinds.LookupKind.TheVariants as lookups
use Rattle.flash_entry.specs.declared.kinds.ItemKind.{ItemKind}
use Rattle.flash_entry.specs.declared.kinds.ItemKind.TheVariants as items
use Rattle.flash_entry.specs.declared.kinds.PageKind.{PageKind}
use Rattle.flash_entry.specs.declared.kinds.PageKind.TheVariants as pages
use Rattle.flash_entry.specs.declared.kinds.Verb.{Verb}
use Rattle.flash_entry.specs.declared.kinds.Verb.TheVariants as verbs
use Rattle.flash_entry.specs.EntryText.{mode_word, stored_text, gone_word, sum_text, touched_word, direction_word, wanted_word, cause_word, drop_word, end_word}
use Rattle.flash_entry.specs.FixedWords.{step_kind, lookup_kind, item_kind, page_kind, kind, mode, other_verb, verb, only, refusal, gone, sum_refusal, touched, wanted, cause, drop_cause, end_cause}
use Rattle.flash_entry.specs.IsEntry.{IsStored, IsSum}
use Rattle.flash_entry.proofs.GeometryLineWords.{IsOneWord}

pub same_bytes : (w c : List ℕ) → bytes_eq w c ≡ true → w ≡ c
same_bytes w c is = (bytes_eq-Decides w c).0 is

pick_at : {A : Type 0} (P : A → Type 0) (w c : List ℕ) (test : Bool) (v x : A) (rest : Option A) → bytes_eq w c ≡ test
    → (w ≡ c → P v) → (rest ≡ Some x → P x)
    → (if test then Some v else rest) ≡ Some x → P x
pick_at P w c true v x rest at first more is = let same : v ≡ x = cc is in subst P same (first (same_bytes w c at))
pick_at P w c false v x rest at first more is = more is

-- the first word of a table, or another one
pick : {A : Type 0} (P : A → Type 0) (w c : List ℕ) (v x : A) (rest : Option A) → (w ≡ c → P v) → (rest ≡ Some x → P x)
    → (if bytes_eq w c then Some v else rest) ≡ Some x → P x
pick P w c v x rest first more is = pick_at P w c (bytes_eq w c) v x rest refl first more is

-- no word of a table is left
no_other : {A : Type 0} (P : A → Type 0) (x : A) → None ≡ Some x → P x
no_other P x is = absurd (cc is)

no_space_at : (b : ℕ) (space rest : Bool) → (b == 32) ≡ space → (not space && rest) ≡ true
    → ((b == 32) ≡ false) × (rest ≡ true)
no_space_at b true rest at is = absurd (cc is)
no_space_at b false rest at is = (at, is)

pub no_space : (w : List ℕ) → list_all (λ b. not (b == 32)) w ≡ true → IsOneWord w
no_space [] is = tt
no_space (b ∷ bytes) is =
    let at = no_space_at b (b == 32) (list_all (λ c. not (c == 32)) bytes) refl is in (at.0, no_space bytes at.1)

-- the first words
abbrev pub step_text : StepKind → List ℕ
step_text steps.Clock = codes "clock"
step_text steps.Did = codes "did"

-- those of lookups
abbrev pub lookup_text : LookupKind → List ℕ
lookup_text lookups.Looked = codes "looked"
lookup_text lookups.FromBuffer = codes "buffered"
lookup_text lookups.ReadBegan = codes "read-began"
lookup_text lookups.ReadEnded = codes "read-ended"
lookup_text lookups.Closed = codes "closed"

-- those of items
abbrev pub item_text : ItemKind → List ℕ
item_text items.Moved = codes "moved"
item_text items.Recached = codes "recached"
item_text items.Dropped = codes "dropped"

-- those of pages
abbrev pub page_text : PageKind → List ℕ
page_text pages.WriteBegan = codes "write-began"
page_text pages.WriteEnded = codes "write-ended"
page_text pages.Opened = codes "opened"
page_text pages.Ended = codes "ended"
page_text pages.Freed = codes "freed"

-- the first word of an entry
abbrev pub kind_text : Kind → List ℕ
kind_text (kinds.Step k) = step_text k
kind_text (kinds.Lookup k) = lookup_text k
kind_text (kinds.Item k) = item_text k
kind_text (kinds.Page k) = page_text k

pub step_kind-spelled : (w : List ℕ) (x : StepKind) → step_kind w ≡ Some x → step_text x ≡ w
unfolding step_kind
step_kind-spelled w x is =
    let P : StepKind → Type 0 = λ v. step_text v ≡ w in
    pick P w (codes "clock") steps.Clock x _ sym
    (pick P w (codes "did") steps.Did x _ sym
    (no_other P x)) is

pub lookup_kind-spelled : (w : List ℕ) (x : LookupKind) → lookup_kind w ≡ Some x → lookup_text x ≡ w
unfolding lookup_kind
lookup_kind-spelled w x is =
    let P : LookupKind → Type 0 = λ v. lookup_text v ≡ w in
    pick P w (codes "looked") lookups.Looked x _ sym
    (pick P w (codes "buffered") lookups.FromBuffer x _ sym
    (pick P w (codes "read-began") lookups.ReadBegan x _ sym
    (pick P w (codes "read-ended") lookups.ReadEnded x _ sym
    (pick P w (codes "closed") lookups.Closed x _ sym
    (no_other P x))))) is

pub item_kind-spelled : (w : List ℕ) (x : ItemKind) → item_kind w ≡ Some x → item_text x ≡ w
unfolding item_kind
item_kind-spelled w x is =
    let P : ItemKind → Type 0 = λ v. item_text v ≡ w in
    pick P w (codes "moved") items.Moved x _ sym
    (pick P w (codes "recached") items.Recached x _ sym
    (pick P w (codes "dropped") items.Dropped x _ sym
    (no_other P x))) is

pub page_kind-spelled : (w : List ℕ) (x : PageKind) → page_kind w ≡ Some x → page_text x ≡ w
unfolding page_kind
page_kind-spelled w x is =
    let P : PageKind → Type 0 = λ v. page_text v ≡ w in
    pick P w (codes "write-began") pages.WriteBegan x _ sym
    (pick P w (codes "write-ended") pages.WriteEnded x _ sym
    (pick P w (codes "opened") pages.Opened x _ sym
    (pick P w (codes "ended") pages.Ended x _ sym
    (pick P w (codes "freed") pages.Freed x _ sym
    (no_other P x))))) is

-- one of two readings of a word
either : {A B : Type 0} (P : B → Type 0) (make : A → B) (first : Option A) (rest : Option B) (x : B)
    → ((v : A) → first ≡ Some v → P (make v)) → (rest ≡ Some x → P x)
    → option_or (option_map make first) rest ≡ Some x → P x
either P make None rest x here more is = more is
either P make (Some v) rest x here more is = let same : make v ≡ x = cc is in subst P same (here v refl)

last : {A B : Type 0} (P : B → Type 0) (make : A → B) (first : Option A) (x : B)
    → ((v : A) → first ≡ Some v → P (make v)) → option_map make first ≡ Some x → P x
last P make None x here is = absurd (cc is)
last P make (Some v) x here is = let same : make v ≡ x = cc is in subst P same (here v refl)

pub kind-spelled : (w : List ℕ) (x : Kind) → kind w ≡ Some x → kind_text x ≡ w
unfolding kind
kind-spelled w x is =
    let P : Kind → Type 0 = λ k. kind_text k ≡ w in
    either P (λ k. kinds.Step k) (step_kind w) _ x (step_kind-spelled w)
    (either P (λ k. kinds.Lookup k) (lookup_kind w) _ x (lookup_kind-spelled w)
    (either P (λ k. kinds.Item k) (item_kind w) _ x (item_kind-spelled w)
    (last P (λ k. kinds.Page k) (page_kind w) x (page_kind-spelled w)))) is

pub kind-back : (x : Kind) → kind (kind_text x) ≡ Some x
unfolding kind step_kind lookup_kind item_kind page_kind
kind-back (kinds.Step steps.Clock) = refl
kind-back (kinds.Step steps.Did) = refl
kind-back (kinds.Lookup lookups.Looked) = refl
kind-back (kinds.Lookup lookups.FromBuffer) = refl
kind-back (kinds.Lookup lookups.ReadBegan) = refl
kind-back (kinds.Lookup lookups.ReadEnded) = refl
kind-back (kinds.Lookup lookups.Closed) = refl
kind-back (kinds.Item items.Moved) = refl
kind-back (kinds.Item items.Recached) = refl
kind-back (kinds.Item items.Dropped) = refl
kind-back (kinds.Page pages.WriteBegan) = refl
kind-back (kinds.Page pages.WriteEnded) = refl
kind-back (kinds.Page pages.Opened) = refl
kind-back (kinds.Page pages.Ended) = refl
kind-back (kinds.Page pages.Freed) = refl

pub kind-word : (x : Kind) → IsOneWord (kind_text x)
kind-word (kinds.Step steps.Clock) = no_space (kind_text (kinds.Step steps.Clock)) refl
kind-word (kinds.Step steps.Did) = no_space (kind_text (kinds.Step steps.Did)) refl
kind-word (kinds.Lookup lookups.Looked) = no_space (kind_text (kinds.Lookup lookups.Looked)) refl
kind-word (kinds.Lookup lookups.FromBuffer) = no_space (kind_text (kinds.Lookup lookups.FromBuffer)) refl
kind-word (kinds.Lookup lookups.ReadBegan) = no_space (kind_text (kinds.Lookup lookups.ReadBegan)) refl
kind-word (kinds.Lookup lookups.ReadEnded) = no_space (kind_text (kinds.Lookup lookups.ReadEnded)) refl
kind-word (kinds.Lookup lookups.Closed) = no_space (kind_text (kinds.Lookup lookups.Closed)) refl
kind-word (kinds.Item items.Moved) = no_space (kind_text (kinds.Item items.Moved)) refl
kind-word (kinds.Item items.Recached) = no_space (kind_text (kinds.Item items.Recached)) refl
kind-word (kinds.Item items.Dropped) = no_space (kind_text (kinds.Item items.Dropped)) refl
kind-word (kinds.Page pages.WriteBegan) = no_space (kind_text (kinds.Page pages.WriteBegan)) refl
kind-word (kinds.Page pages.WriteEnded) = no_space (kind_text (kinds.Page pages.WriteEnded)) refl
kind-word (kinds.Page pages.Opened) = no_space (kind_text (kinds.Page pages.Opened)) refl
kind-word (kinds.Page pages.Ended) = no_space (kind_text (kinds.Page pages.Ended)) refl
kind-word (kinds.Page pages.Freed) = no_space (kind_text (kinds.Page pages.Freed)) refl

pub mode-spelled : (w : List ℕ) (x : Mode) → mode w ≡ Some x → mode_word x ≡ w
unfolding mode
mode-spelled w x is =
    let P : Mode → Type 0 = λ v. mode_word v ≡ w in
    pick P w (codes "set") modes.Set x _ sym
    (pick P w (codes "add") modes.Add x _ sym
    (pick P w (codes "replace") modes.Replace x _ sym
    (pick P w (codes "append") modes.Append x _ sym
    (pick P w (codes "prepend") modes.Prepend x _ sym
    (no_other P x))))) is

-- the verb of a command's step
abbrev pub verb_text : Verb → List ℕ
verb_text (verbs.Store mode) = mode_word mode
verb_text verbs.Delete = codes "delete"
verb_text (verbs.Sum down) = direction_word down
verb_text verbs.Touch = codes "touch"
verb_text verbs.Flush = codes "flush"
verb_text verbs.Stats = codes "stats"

pub other_verb-spelled : (w : List ℕ) (x : Verb) → other_verb w ≡ Some x → verb_text x ≡ w
unfolding other_verb
other_verb-spelled w x is =
    let P : Verb → Type 0 = λ v. verb_text v ≡ w in
    pick P w (codes "delete") verbs.Delete x _ sym
    (pick P w (codes "up") (verbs.Sum false) x _ sym
    (pick P w (codes "down") (verbs.Sum true) x _ sym
    (pick P w (codes "touch") verbs.Touch x _ sym
    (pick P w (codes "flush") verbs.Flush x _ sym
    (pick P w (codes "stats") verbs.Stats x _ sym
    (no_other P x)))))) is

pub verb-spelled : (w : List ℕ) (x : Verb) → verb w ≡ Some x → verb_text x ≡ w
unfolding verb
verb-spelled w x is =
    either (λ v. verb_text v ≡ w) (λ m. verbs.Store m) (mode w) (other_verb w) x (mode-spelled w) (other_verb-spelled w x) is

pub verb-back : (x : Verb) → verb (verb_text x) ≡ Some x
unfolding verb mode other_verb
verb-back (verbs.Store modes.Set) = refl
verb-back (verbs.Store modes.Add) = refl
verb-back (verbs.Store modes.Replace) = refl
verb-back (verbs.Store modes.Append) = refl
verb-back (verbs.Store modes.Prepend) = refl
verb-back verbs.Delete = refl
verb-back (verbs.Sum true) = refl
verb-back (verbs.Sum false) = refl
verb-back verbs.Touch = refl
verb-back verbs.Flush = refl
verb-back verbs.Stats = refl

pub verb-word : (x : Verb) → IsOneWord (verb_text x)
verb-word (verbs.Store modes.Set) = no_space (verb_text (verbs.Store modes.Set)) refl
verb-word (verbs.Store modes.Add) = no_space (verb_text (verbs.Store modes.Add)) refl
verb-word (verbs.Store modes.Replace) = no_space (verb_text (verbs.Store modes.Replace)) refl
verb-word (verbs.Store modes.Append) = no_space (verb_text (verbs.Store modes.Append)) refl
verb-word (verbs.Store modes.Prepend) = no_space (verb_text (verbs.Store modes.Prepend)) refl
verb-word verbs.Delete = no_space (verb_text verbs.Delete) refl
verb-word (verbs.Sum true) = no_space (verb_text (verbs.Sum true)) refl
verb-word (verbs.Sum false) = no_space (verb_text (verbs.Sum false)) refl
verb-word verbs.Touch = no_space (verb_text verbs.Touch) refl
verb-word verbs.Flush = no_space (verb_text verbs.Flush) refl
verb-word verbs.Stats = no_space (verb_text verbs.Stats) refl

pub only-spelled : (expected w : List ℕ) (x : Unit {0}) → only expected w ≡ Some x → expected ≡ w
unfolding only
only-spelled expected w x is = pick (λ v. expected ≡ w) w expected tt x _ sym (no_other (λ v. expected ≡ w) x) is

pub only-back : (w : List ℕ) → only w w ≡ Some tt
unfolding only
only-back w = ap (λ test. if test then Some tt else None) ((bytes_eq-Decides w w).1 refl)

pub gone-spelled : (w : List ℕ) (x : Gone) → gone w ≡ Some x → gone_word x ≡ w
unfolding gone
gone-spelled w x is =
    let P : Gone → Type 0 = λ v. gone_word v ≡ w in
    pick P w (codes "deleted") goings.Deleted x _ sym
    (pick P w (codes "not-found") goings.NotFound x _ sym
    (pick P w (codes "exists") goings.Exists x _ sym
    (no_other P x))) is

pub gone-back : (x : Gone) → gone (gone_word x) ≡ Some x
unfolding gone
gone-back goings.Deleted = refl
gone-back goings.NotFound = refl
gone-back goings.Exists = refl

pub gone-word : (x : Gone) → IsOneWord (gone_word x)
gone-word goings.Deleted = no_space (gone_word goings.Deleted) refl
gone-word goings.NotFound = no_space (gone_word goings.NotFound) refl
gone-word goings.Exists = no_space (gone_word goings.Exists) refl

pub touched-spelled : (w : List ℕ) (x : Touched) → touched w ≡ Some x → touched_word x ≡ w
unfolding touched
touched-spelled w x is =
    let P : Touched → Type 0 = λ v. touched_word v ≡ w in
    pick P w (codes "touched") touches.Touched x _ sym
    (pick P w (codes "not-found") touches.NotFound x _ sym
    (no_other P x)) is

pub touched-back : (x : Touched) → touched (touched_word x) ≡ Some x
unfolding touched
touched-back touches.Touched = refl
touched-back touches.NotFound = refl

pub touched-word : (x : Touched) → IsOneWord (touched_word x)
touched-word touches.Touched = no_space (touched_word touches.Touched) refl
touched-word touches.NotFound = no_space (touched_word touches.NotFound) refl

pub cause-spelled : (w : List ℕ) (x : Cause) → cause w ≡ Some x → cause_word x ≡ w
unfolding cause
cause-spelled w x is =
    let P : Cause → Type 0 = λ v. cause_word v ≡ w in
    pick P w (codes "ended") causes.Ended x _ sym
    (pick P w (codes "fault") causes.Fault x _ sym
    (pick P w (codes "damaged") causes.Damaged x _ sym
    (no_other P x))) is

pub cause-back : (x : Cause) → cause (cause_word x) ≡ Some x
unfolding cause
cause-back causes.Ended = refl
cause-back causes.Fault = refl
cause-back causes.Damaged = refl

pub cause-word : (x : Cause) → IsOneWord (cause_word x)
cause-word causes.Ended = no_space (cause_word causes.Ended) refl
cause-word causes.Fault = no_space (cause_word causes.Fault) refl
cause-word causes.Damaged = no_space (cause_word causes.Damaged) refl

pub drop_cause-spelled : (w : List ℕ) (x : DropCause) → drop_cause w ≡ Some x → drop_word x ≡ w
unfolding drop_cause
drop_cause-spelled w x is =
    let P : DropCause → Type 0 = λ v. drop_word v ≡ w in
    pick P w (codes "dead") drops.Dead x _ sym
    (pick P w (codes "evict") drops.Evict x _ sym
    (pick P w (codes "ended") drops.Ended x _ sym
    (pick P w (codes "damaged") drops.Damaged x _ sym
    (no_other P x)))) is

pub drop_cause-back : (x : DropCause) → drop_cause (drop_word x) ≡ Some x
unfolding drop_cause
drop_cause-back drops.Dead = refl
drop_cause-back drops.Evict = refl
drop_cause-back drops.Ended = refl
drop_cause-back drops.Damaged = refl

pub drop_cause-word : (x : DropCause) → IsOneWord (drop_word x)
drop_cause-word drops.Dead = no_space (drop_word drops.Dead) refl
drop_cause-word drops.Evict = no_space (drop_word drops.Evict) refl
drop_cause-word drops.Ended = no_space (drop_word drops.Ended) refl
drop_cause-word drops.Damaged = no_space (drop_word drops.Damaged) refl

pub end_cause-spelled : (w : List ℕ) (x : EndCause) → end_cause w ≡ Some x → end_word x ≡ w
unfolding end_cause
end_cause-spelled w x is =
    let P : EndCause → Type 0 = λ v. end_word v ≡ w in
    pick P w (codes "compacted") ends.Compacted x _ sym
    (pick P w (codes "evict") ends.Evict x _ sym
    (pick P w (codes "fault") ends.Fault x _ sym
    (no_other P x))) is

pub end_cause-back : (x : EndCause) → end_cause (end_word x) ≡ Some x
unfolding end_cause
end_cause-back ends.Compacted = refl
end_cause-back ends.Evict = refl
end_cause-back ends.Fault = refl

pub end_cause-word : (x : EndCause) → IsOneWord (end_word x)
end_cause-word ends.Compacted = no_space (end_word ends.Compacted) refl
end_cause-word ends.Evict = no_space (end_word ends.Evict) refl
end_cause-word ends.Fault = no_space (end_word ends.Fault) refl

pub wanted-spelled : (w : List ℕ) (x : Bool) → wanted w ≡ Some x → wanted_word x ≡ w
unfolding wanted
wanted-spelled w x is =
    let P : Bool → Type 0 = λ v. wanted_word v ≡ w in
    pick P w (codes "v") true x _ sym
    (pick P w (codes "h") false x _ sym
    (no_other P x)) is

pub wanted-back : (x : Bool) → wanted (wanted_word x) ≡ Some x
unfolding wanted
wanted-back true = refl
wanted-back false = refl

pub wanted-word : (x : Bool) → IsOneWord (wanted_word x)
wanted-word true = no_space (wanted_word true) refl
wanted-word false = no_space (wanted_word false) refl

pub refusal-spelled : (w : List ℕ) (x : Stored) → refusal w ≡ Some x → (stored_text x ≡ 32 ∷ w) × IsStored x
unfolding refusal
refusal-spelled w x is =
    let P : Stored → Type 0 = λ v. (stored_text v ≡ 32 ∷ w) × IsStored v in
    pick P w (codes "not-stored") stores.NotStored x _ (λ same. (ap (λ (l : List ℕ). 32 ∷ l) (sym same), tt))
    (pick P w (codes "exists") stores.Exists x _ (λ same. (ap (λ (l : List ℕ). 32 ∷ l) (sym same), tt))
    (pick P w (codes "not-found") stores.NotFound x _ (λ same. (ap (λ (l : List ℕ). 32 ∷ l) (sym same), tt))
    (pick P w (codes "too-large") stores.TooLarge x _ (λ same. (ap (λ (l : List ℕ). 32 ∷ l) (sym same), tt))
    (pick P w (codes "no-number") stores.NoNumber x _ (λ same. (ap (λ (l : List ℕ). 32 ∷ l) (sym same), tt))
    (no_other P x))))) is

pub sum_refusal-spelled : (w : List ℕ) (x : Sum) → sum_refusal w ≡ Some x → (sum_text x ≡ 32 ∷ w) × IsSum x
unfolding sum_refusal
sum_refusal-spelled w x is =
    let P : Sum → Type 0 = λ v. (sum_text v ≡ 32 ∷ w) × IsSum v in
    pick P w (codes "not-found") sums.NotFound x _ (λ same. (ap (λ (l : List ℕ). 32 ∷ l) (sym same), tt))
    (pick P w (codes "non-numeric") sums.NonNumeric x _ (λ same. (ap (λ (l : List ℕ). 32 ∷ l) (sym same), tt))
    (pick P w (codes "exists") sums.Exists x _ (λ same. (ap (λ (l : List ℕ). 32 ∷ l) (sym same), tt))
    (pick P w (codes "no-number") sums.NoNumber x _ (λ same. (ap (λ (l : List ℕ). 32 ∷ l) (sym same), tt))
    (no_other P x)))) is
