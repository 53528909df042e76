-- A range of a page after bytes were put there, and everything else.
use Rattle.std.proofs.Common.{refl, ◌≡◌, ℕ, ◌+◌, ◌-◌, ◌<◌, ◌≤◌, ◌≢◌, ◌⊎◌, inl, inr, List, [], ◌++◌, length, take, drop, get_or, sym, ap, ◌∙◌, arith, length-append, length-take, length-drop}
use Rattle.std.proofs.lemmas.Bool.{cases_eq}
use Rattle.std.proofs.lemmas.List.{take_at, drop_at, length-set, get_or-set_same, get_or-set_other, get_or-take, get_or-drop, get_or_append_left, get_or-append_right}
use Rattle.flash_device.specs.declared.shape.Shape.{Shape}
use Rattle.flash_device.specs.Pages.{HasShape, Within, range_of, put_at, pages_with}

-- the page itself afterwards
changed : (shape : Shape) (pages : List (List ℕ)) (page offset n : ℕ) (bytes : List ℕ) → HasShape shape pages → Within page offset n shape → get_or (pages_with page offset bytes pages) page [] ≡ put_at offset bytes (get_or pages page [])
changed shape pages page offset n bytes shaped within =
    let count : length pages ≡ shape.pages = shaped.count in
    let small : page < shape.pages = within.counted in
    get_or-set_same pages page (put_at offset bytes (get_or pages page [])) [] (omega arith)

put_length : (offset : ℕ) (bytes page : List ℕ) → offset + length bytes ≤ length page → length (put_at offset bytes page) ≡ length page
put_length offset bytes page inside =
    omega (arith, length-append (take offset page) (bytes ++ drop (offset + length bytes) page), length-append bytes (drop (offset + length bytes) page), length-take offset page, length-drop (offset + length bytes) page)

in_page : (shape : Shape) (pages : List (List ℕ)) (page offset n : ℕ) → HasShape shape pages → Within page offset n shape → offset + n ≤ length (get_or pages page [])
in_page shape pages page offset n shaped within =
    let size : length (get_or pages page []) ≡ shape.page_size = shaped.size page within.counted in omega (arith, within.inside)

pub keeps_shape : (shape : Shape) (pages : List (List ℕ)) (page offset : ℕ) (bytes : List ℕ) → HasShape shape pages → Within page offset (length bytes) shape → HasShape shape (pages_with page offset bytes pages)
keeps_shape shape pages page offset bytes shaped within = record {
  count = length-set pages page (put_at offset bytes (get_or pages page [])) ∙ shaped.count;
  size = λ other small. elim (cases_eq other page) [
    | inl same ↦ ap (λ (p : ℕ). length (get_or (pages_with page offset bytes pages) p [])) same
        ∙ ap (λ (l : List ℕ). length l) (changed shape pages page offset (length bytes) bytes shaped within)
        ∙ put_length offset bytes (get_or pages page []) (in_page shape pages page offset (length bytes) shaped within)
        ∙ shaped.size page within.counted
    | inr apart ↦ ap (λ (l : List ℕ). length l) (get_or-set_other pages page other (put_at offset bytes (get_or pages page [])) [] apart) ∙ shaped.size other small
  ];
}

pub read_back : (shape : Shape) (pages : List (List ℕ)) (page offset : ℕ) (bytes : List ℕ) → HasShape shape pages → Within page offset (length bytes) shape → range_of page offset (length bytes) (pages_with page offset bytes pages) ≡ bytes
read_back shape pages page offset bytes shaped within =
    let before = get_or pages page [] in
    let back = drop (offset + length bytes) before in
    let inside : offset + length bytes ≤ length before = in_page shape pages page offset (length bytes) shaped within in
    let front : length (take offset before) ≡ offset = omega (arith, length-take offset before) in
    ap (λ (l : List ℕ). take (length bytes) (drop offset l)) (changed shape pages page offset (length bytes) bytes shaped within)
    ∙ ap (take (length bytes)) (drop_at (take offset before) (bytes ++ back) offset front)
    ∙ take_at bytes back (length bytes) refl

outside : (offset : ℕ) (bytes page : List ℕ) (other_offset : ℕ) → offset + length bytes ≤ length page → (other_offset < offset) ⊎ (offset + length bytes ≤ other_offset) → get_or (put_at offset bytes page) other_offset 0 ≡ get_or page other_offset 0
outside offset bytes page other_offset inside out =
    let back = drop (offset + length bytes) page in
    let front : length (take offset page) ≡ offset = omega (arith, length-take offset page) in
    elim out [
      | inl low ↦ get_or_append_left (take offset page) (bytes ++ back) 0 other_offset (omega arith) ∙ get_or-take offset page other_offset 0 low
      | inr high ↦
          let at : offset + length bytes + (other_offset - offset - length bytes) ≡ other_offset = omega arith in
          get_or-append_right (take offset page) (bytes ++ back) offset other_offset 0 front (omega arith)
          ∙ get_or-append_right bytes back (length bytes) (other_offset - offset) 0 refl (omega arith)
          ∙ get_or-drop (offset + length bytes) page (other_offset - offset - length bytes) 0
          ∙ ap (λ (i : ℕ). get_or page i 0) at
    ]

pub rest_stays : (shape : Shape) (pages : List (List ℕ)) (page offset : ℕ) (bytes : List ℕ) → HasShape shape pages → Within page offset (length bytes) shape
    → (other other_offset : ℕ) → (other ≢ page) ⊎ ((other_offset < offset) ⊎ (offset + length bytes ≤ other_offset))
    → get_or (get_or (pages_with page offset bytes pages) other []) other_offset 0 ≡ get_or (get_or pages other []) other_offset 0
rest_stays shape pages page offset bytes shaped within other other_offset (inl apart) =
    ap (λ (l : List ℕ). get_or l other_offset 0) (get_or-set_other pages page other (put_at offset bytes (get_or pages page [])) [] apart)
rest_stays shape pages page offset bytes shaped within other other_offset (inr out) =
    elim (cases_eq other page) [
      | inl same ↦ ap (λ (p : ℕ). get_or (get_or (pages_with page offset bytes pages) p []) other_offset 0) same
          ∙ ap (λ (l : List ℕ). get_or l other_offset 0) (changed shape pages page offset (length bytes) bytes shaped within)
          ∙ outside offset bytes (get_or pages page []) other_offset (in_page shape pages page offset (length bytes) shaped within) out
          ∙ ap (λ (p : ℕ). get_or (get_or pages p []) other_offset 0) (sym same)
      | inr apart ↦ ap (λ (l : List ℕ). get_or l other_offset 0) (get_or-set_other pages page other (put_at offset bytes (get_or pages page [])) [] apart)
    ]
