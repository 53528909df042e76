-- What was taken from a source or written to a sink, in two parts.
use Rattle.std.proofs.Common.{◌≡◌, ℕ, List, [], ◌++◌, Option, None, Some, refl, sym, ◌∙◌, ap, append_assoc}
use Rattle.std.proofs.lemmas.List.{append-nil}
use Rattle.flash_names.specs.Told.{with_front, with_more}
use Rattle.flash_streams.specs.Writing.{IsWritten, IsBegun}

front_of-append : (xs ys : List ℕ) (told : Option (List ℕ)) → with_front xs (with_front ys told) ≡ with_front (xs ++ ys) told
front_of-append xs ys None = refl
front_of-append xs ys (Some rest) = ap (λ (l : List ℕ). Some l) (sym (append_assoc xs ys rest))

more_of-append : (xs ys : List ℕ) (told : Option (List ℕ)) → with_more ys (with_more xs told) ≡ with_more (xs ++ ys) told
more_of-append xs ys None = refl
more_of-append xs ys (Some front) = ap (λ (l : List ℕ). Some l) (append_assoc front xs ys)

more_none : (told : Option (List ℕ)) → with_more [] told ≡ told
more_none None = refl
more_none (Some front) = ap (λ (l : List ℕ). Some l) (append-nil front)

front_none : (told : Option (List ℕ)) → with_front [] told ≡ told
front_none None = refl
front_none (Some rest) = refl

-- bytes that were taken, and then others
pub taken_both : (xs ys : List ℕ) (first mid last : Option (List ℕ)) → first ≡ with_front xs mid → mid ≡ with_front ys last → first ≡ with_front (xs ++ ys) last
taken_both xs ys first mid last one other = one ∙ ap (with_front xs) other ∙ front_of-append xs ys last

-- bytes that were written, and then others
pub written_both : (xs ys : List ℕ) (first mid last : Option (List ℕ)) → IsWritten xs first mid → IsWritten ys mid last → IsWritten (xs ++ ys) first last
written_both xs ys first mid last one other = other ∙ ap (with_more ys) one ∙ more_of-append xs ys first

pub none_begun : (bytes : List ℕ) (held : Option (List ℕ)) → IsBegun bytes held held
none_begun bytes held = record { front = []; rest = bytes; parts = refl; written = sym (more_none held) }

pub none_written : (held : Option (List ℕ)) → IsWritten [] held held
none_written held = sym (more_none held)

-- a front part of the first bytes is one of all
pub begun_first : (xs ys : List ℕ) (held held_after : Option (List ℕ)) → IsBegun xs held held_after → IsBegun (xs ++ ys) held held_after
begun_first xs ys held held_after begun = record {
  front = begun.front;
  rest = begun.rest ++ ys;
  parts = ap (λ (l : List ℕ). l ++ ys) begun.parts ∙ append_assoc begun.front begun.rest ys;
  written = begun.written;
}

-- so are the first bytes, written, and a front part of those after them
pub begun_after : (xs ys : List ℕ) (first mid last : Option (List ℕ)) → IsWritten xs first mid → IsBegun ys mid last → IsBegun (xs ++ ys) first last
begun_after xs ys first mid last written begun = record {
  front = xs ++ begun.front;
  rest = begun.rest;
  parts = ap (λ (l : List ℕ). xs ++ l) begun.parts ∙ sym (append_assoc xs begun.front begun.rest);
  written = written_both xs begun.front first mid last written begun.written;
}

pub append_nothing : (xs ys : List ℕ) → ys ≡ [] → xs ≡ xs ++ ys
append_nothing xs ys none = sym (append-nil xs) ∙ ap (λ (l : List ℕ). xs ++ l) (sym none)

pub none_taken : (xs : List ℕ) (left : Option (List ℕ)) → xs ≡ [] → left ≡ with_front ([] ++ xs) left
none_taken xs left none = sym (front_none left) ∙ ap (λ (l : List ℕ). with_front l left) (sym none)
