-- What a result that is Ok holds.
use Rattle.std.proofs.Common.{◌≡◌, Result, Ok, Err, IfOk, ◌∙◌}

pub ok_as : {A E : Type 0} (r : Result A E) (x y : A) → IfOk r (λ v. v ≡ x) → x ≡ y → IfOk r (λ v. v ≡ y)
ok_as (Ok v) x y is same = is ∙ same
ok_as (Err e) x y is same = tt
