-- Paths of links: a number unlinked, a number linked in, and the walk along one.
use Rattle.std.proofs.Common.{◌≡◌, ℕ, zero, suc, ◌<◌, ◌≤◌, true, false, ltb, List, [], ◌∷◌, length, refl, sym, ◌∙◌, ap, subst, inl, inr, arith, lt-ltb, le-ltb}
use Rattle.std.proofs.lemmas.Bool.{cases_eq, cases_lt}
use Rattle.flash_lru.specs.Ring.{count_of, Path, walk}
use Rattle.flash_lru.proofs.Lists.{other_than, other_than_here, other_than_else, count_here, count_else, count_none}

-- a number of a path is linked on both sides, and to others than itself
pub record IsLinked (f g : ℕ → ℕ) (x : ℕ) : Type 0 where
  pub back : f (g x) ≡ x
  pub forth : g (f x) ≡ x
  pub prev_other : g x ≡ x → ⊥
  pub next_other : f x ≡ x → ⊥

pub head_back : (f g : ℕ → ℕ) (x : ℕ) (ys : List ℕ) (z : ℕ) → Path f g x ys z → g (f x) ≡ x
head_back f g x [] z p = ap g p.0 ∙ p.1
head_back f g x (y ∷ ys) z p = ap g p.0 ∙ p.1

pub linked_in : (f g : ℕ → ℕ) (x a : ℕ) (xs : List ℕ) (z : ℕ) → (a ≡ x → ⊥) → 0 < count_of x xs → Path f g a xs z → IsLinked f g x
linked_in f g x a [] z n some p = absurd (omega arith)
linked_in f g x a (y ∷ ys) z n some p = elim (cases_eq y x) [
  | inl e ↦
      (let to : g x ≡ a = ap g (sym e) ∙ p.1 in
      let forth : g (f x) ≡ x = subst (λ k. g (f k) ≡ k) e (head_back f g y ys z p.2) in
      record {
        back = ap f to ∙ p.0 ∙ e;
        forth = forth;
        prev_other = λ same. n (sym to ∙ same);
        next_other = λ same. n (sym to ∙ sym (ap g same) ∙ forth);
      })
  | inr m ↦ linked_in f g x y ys z m (omega (arith, count_else x y ys m)) p.2
]

-- the links after x is unlinked: the two beside it are linked to each other, and those of x itself are free
pub record Cut (f g f' g' : ℕ → ℕ) (x : ℕ) : Type 0 where
  pub linked : IsLinked f g x
  pub next_there : f' (g x) ≡ f x
  pub prev_there : g' (f x) ≡ g x
  pub next_else : (u : ℕ) → (u ≡ x → ⊥) → (u ≡ g x → ⊥) → f' u ≡ f u
  pub prev_else : (u : ℕ) → (u ≡ x → ⊥) → (u ≡ f x → ⊥) → g' u ≡ g u

next_kept : (f g f' g' : ℕ → ℕ) (x : ℕ) → Cut f g f' g' x → (u v : ℕ) → (u ≡ x → ⊥) → (v ≡ x → ⊥) → f u ≡ v → f' u ≡ v
next_kept f g f' g' x c u v nu nv is = c.next_else u nu (λ e. nv (sym is ∙ ap f e ∙ c.linked.back)) ∙ is

prev_kept : (f g f' g' : ℕ → ℕ) (x : ℕ) → Cut f g f' g' x → (u v : ℕ) → (u ≡ x → ⊥) → (v ≡ x → ⊥) → g u ≡ v → g' u ≡ v
prev_kept f g f' g' x c u v nu nv is = c.prev_else u nu (λ e. nv (sym is ∙ ap g e ∙ c.linked.forth)) ∙ is

pub cut_path : (f g f' g' : ℕ → ℕ) (x : ℕ) → Cut f g f' g' x → (a : ℕ) (xs : List ℕ) (z : ℕ) → (a ≡ x → ⊥) → (z ≡ x → ⊥) → Path f g a xs z → Path f' g' a (other_than x xs) z
cut_path f g f' g' x c a [] z na nz p = (next_kept f g f' g' x c a z na nz p.0, prev_kept f g f' g' x c z a nz na p.1)
cut_path f g f' g' x c a (y ∷ []) z na nz p = elim (cases_eq y x) [
  | inl e ↦
      (let to : f x ≡ z = ap f (sym e) ∙ p.2.0 in
      let from : g x ≡ a = ap g (sym e) ∙ p.1 in
      subst (λ l. Path f' g' a l z) (sym (other_than_here x y [] e))
      (ap f' (sym from) ∙ c.next_there ∙ to, ap g' (sym to) ∙ c.prev_there ∙ from))
  | inr m ↦
      subst (λ l. Path f' g' a l z) (sym (other_than_else x y [] m))
      (next_kept f g f' g' x c a y na m p.0, prev_kept f g f' g' x c y a m na p.1, cut_path f g f' g' x c y [] z m nz p.2)
]
cut_path f g f' g' x c a (y ∷ (w ∷ ws)) z na nz p = elim (cases_eq y x) [
  | inl e ↦
      (let to : f x ≡ w = ap f (sym e) ∙ p.2.0 in
      let from : g x ≡ a = ap g (sym e) ∙ p.1 in
      let m : w ≡ x → ⊥ = λ same. c.linked.next_other (to ∙ same) in
      subst (λ l. Path f' g' a l z) (sym (other_than_here x y (w ∷ ws) e ∙ other_than_else x w ws m))
      (ap f' (sym from) ∙ c.next_there ∙ to, ap g' (sym to) ∙ c.prev_there ∙ from, cut_path f g f' g' x c w ws z m nz p.2.2))
  | inr m ↦
      subst (λ l. Path f' g' a l z) (sym (other_than_else x y (w ∷ ws) m))
      (next_kept f g f' g' x c a y na m p.0, prev_kept f g f' g' x c y a m na p.1, cut_path f g f' g' x c y (w ∷ ws) z m nz p.2)
]

-- the links after x is linked in after the end s
pub record Joint (f g f' g' : ℕ → ℕ) (s x : ℕ) : Type 0 where
  pub next_end : f' s ≡ x
  pub prev_new : g' x ≡ s
  pub next_new : f' x ≡ f s
  pub prev_first : g' (f s) ≡ x
  pub end_back : g (f s) ≡ s
  pub next_else : (u : ℕ) → (u ≡ s → ⊥) → (u ≡ x → ⊥) → f' u ≡ f u
  pub prev_else : (u : ℕ) → (u ≡ f s → ⊥) → (u ≡ x → ⊥) → g' u ≡ g u

-- a number whose one before isn't the end isn't the end's next
not_first : (f g f' g' : ℕ → ℕ) (s x : ℕ) → Joint f g f' g' s x → (u v : ℕ) → g u ≡ v → (v ≡ s → ⊥) → u ≡ f s → ⊥
not_first f g f' g' s x j u v is n e = n (sym is ∙ ap g e ∙ j.end_back)

pub kept_path : (f g f' g' : ℕ → ℕ) (s x : ℕ) → Joint f g f' g' s x → (a : ℕ) (xs : List ℕ) (z : ℕ) → (a ≡ s → ⊥) → (a ≡ x → ⊥) → (z ≡ x → ⊥) → count_of s xs ≡ 0 → count_of x xs ≡ 0 → Path f g a xs z → Path f' g' a xs z
kept_path f g f' g' s x j a [] z ns nx nz no_s no_x p =
    (j.next_else a ns nx ∙ p.0, j.prev_else z (not_first f g f' g' s x j z a p.1 ns) nz ∙ p.1)
kept_path f g f' g' s x j a (y ∷ ys) z ns nx nz no_s no_x p =
    let far = count_none s y ys no_s in
    let new = count_none x y ys no_x in (
      j.next_else a ns nx ∙ p.0,
      j.prev_else y (not_first f g f' g' s x j y a p.1 ns) new.0 ∙ p.1,
      kept_path f g f' g' s x j y ys z far.0 new.0 nz far.1 new.1 p.2,
    )

pub joint_path : (f g f' g' : ℕ → ℕ) (s x : ℕ) → Joint f g f' g' s x → (xs : List ℕ) (z : ℕ) → (z ≡ x → ⊥) → count_of s xs ≡ 0 → count_of x xs ≡ 0 → Path f g s xs z → Path f' g' s (x ∷ xs) z
joint_path f g f' g' s x j [] z nz no_s no_x p = (j.next_end, j.prev_new, (j.next_new ∙ p.0, ap g' (sym p.0) ∙ j.prev_first))
joint_path f g f' g' s x j (y ∷ ys) z nz no_s no_x p =
    let far = count_none s y ys no_s in
    let new = count_none x y ys no_x in
    (j.next_end, j.prev_new, (j.next_new ∙ p.0, ap g' (sym p.0) ∙ j.prev_first, kept_path f g f' g' s x j y ys z far.0 new.0 nz far.1 new.1 p.2))

-- the walk from an end gives the path
pub walk_is : (f g : ℕ → ℕ) (n a : ℕ) (xs : List ℕ) (z : ℕ) → z < 3 → ((x : ℕ) → x < 3 → count_of x xs ≡ 0) → length xs ≤ n → Path f g a xs z → walk n f a ≡ xs
walk_is f g zero a [] z end above long p = refl
walk_is f g zero a (y ∷ ys) z end above long p = absurd (omega arith)
walk_is f g (suc n) a [] z end above long p =
    let e : ltb (f a) 3 ≡ true = lt-ltb (f a) 3 (omega (arith, p.0)) in rw e refl
walk_is f g (suc n) a (y ∷ ys) z end above long p =
    let e : ltb (f a) 3 ≡ false = le-ltb (f a) 3 (elim (cases_lt y 3) [
      | inl low ↦ absurd (omega (arith, above y low, count_here y y ys refl))
      | inr high ↦ omega (arith, p.0)
    ]) in
    let rest : walk n f y ≡ ys = walk_is f g n y ys z end
    (λ x low. elim (cases_eq y x) [ inl same ↦ absurd (omega (arith, above x low, count_here x y ys same)) | inr m ↦ omega (arith, above x low, count_else x y ys m) ])
    (omega arith) p.2 in
    rw e (ap (λ k. k ∷ walk n f k) p.0 ∙ ap (λ l. y ∷ l) rest)

-- a number that isn't on the path isn't its first
pub first_other : (f g : ℕ → ℕ) (s x : ℕ) (xs : List ℕ) (z : ℕ) → (z ≡ x → ⊥) → count_of x xs ≡ 0 → Path f g s xs z → f s ≡ x → ⊥
first_other f g s x [] z nz none p e = nz (sym p.0 ∙ e)
first_other f g s x (y ∷ ys) z nz none p e = (count_none x y ys none).0 (sym p.0 ∙ e)

-- a path is one of the same links
pub path_same : (f g f' g' : ℕ → ℕ) → ((u : ℕ) → f' u ≡ f u) → ((u : ℕ) → g' u ≡ g u) → (a : ℕ) (xs : List ℕ) (z : ℕ) → Path f g a xs z → Path f' g' a xs z
path_same f g f' g' sf sg a [] z p = (sf a ∙ p.0, sg z ∙ p.1)
path_same f g f' g' sf sg a (y ∷ ys) z p = (sf a ∙ p.0, sg y ∙ p.1, path_same f g f' g' sf sg y ys z p.2)
