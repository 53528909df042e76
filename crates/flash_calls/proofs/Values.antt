-- The value in the bytes of a record.
use Rattle.std.proofs.Common.{◌≡◌, ℕ, ◌+◌, ◌-◌, List, ◌++◌, length, take, drop, refl, sym, ◌∙◌, ap, arith, append_assoc}
use Rattle.std.proofs.lemmas.List.{drop-drop, take_at, drop_at}
use Rattle.flash_record.specs.Record.{Parts, content, record_bytes}
use Rattle.flash_record.proofs.Offsets.{record_bytes_length}
use Rattle.flash_calls.specs.Lookups.{value_in}

module _ (p : Parts) where
  -- behind the first 28 bytes stand the key, the value, and what is left
  record HasRest : Type 0 where
    rest : List ℕ
    is : drop 28 (record_bytes p) ≡ (p.key ++ p.value) ++ rest

  has_rest : HasRest
  unfolding record_bytes content
  has_rest = record { rest = _; is = refl }

  past_key : drop (length p.key) (drop 28 (record_bytes p)) ≡ p.value ++ has_rest.rest
  past_key =
      ap (drop (length p.key)) (has_rest.is ∙ append_assoc p.key p.value has_rest.rest)
      ∙ drop_at p.key (p.value ++ has_rest.rest) (length p.key) refl

  from_value : drop (28 + length p.key) (record_bytes p) ≡ p.value ++ has_rest.rest
  from_value = sym (drop-drop (length p.key) 28 (record_bytes p)) ∙ past_key

  long : length (record_bytes p) - (32 + length p.key) ≡ length p.value
  long = omega (arith, record_bytes_length p)

  pub value_is : value_in (length p.key) (record_bytes p) ≡ p.value
  value_is = (λ j. take (long j) (from_value j)) ∙ take_at p.value has_rest.rest (length p.value) refl
