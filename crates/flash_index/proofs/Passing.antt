-- What holds of each element of a list.
use Rattle.std.proofs.Common.{◌≡◌, List, [], ◌∷◌, Option, Some, None, subst}
use Rattle.std.specs.List.{AllByRecursion, last_or}

pub all_by : {X : Type 0} (P Q : X → Type 0) → ((x : X) → P x → Q x) → (xs : List X) → AllByRecursion P xs → AllByRecursion Q xs
all_by P Q gives [] all = tt
all_by P Q gives (x ∷ xs) all = (gives x all.0, all_by P Q gives xs all.1)

last_from : {X : Type 0} (P : X → Type 0) (first : Option X) (xs : List X) (last : X) → ((x : X) → first ≡ Some x → P x) → AllByRecursion P xs → last_or first xs ≡ Some last → P last
last_from P first [] last start all is = start last is
last_from P first (x ∷ xs) last start all is =
    last_from P (Some x) xs last (λ y same. (let e : x ≡ y = cc in subst (λ z. P z) e all.0)) all.1 is

-- and of the last one
pub last_passes : {X : Type 0} (P : X → Type 0) (xs : List X) (last : X) → AllByRecursion P xs → last_or None xs ≡ Some last → P last
last_passes P xs last all is = last_from P None xs last (λ x none. absurd (cc none)) all is
