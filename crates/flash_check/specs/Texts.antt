-- What a checker writes.
use Rattle.std.specs.Prelude.{ℕ, List, [], ◌∷◌, ◌++◌, codes, decimal}
use Rattle.flash_check.specs.declared.status.CheckStatus.{CheckStatus}
use Rattle.flash_check.specs.declared.status.CheckStatus.TheVariants.{Legal, Illegal, BadLine}

-- the line of an answer; every other end has none
abbrev pub answer_text : CheckStatus → List ℕ
answer_text (Legal entries) = codes "legal " ++ decimal entries ++ 10 ∷ []
answer_text (Illegal line rule) = codes "illegal " ++ decimal line ++ 32 ∷ decimal rule ++ 10 ∷ []
answer_text (BadLine line) = codes "bad " ++ decimal line ++ 10 ∷ []
answer_text _ = []
