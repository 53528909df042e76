-- The steps by which a pass joins another keep the rule.
use Rattle.std.proofs.Common.{◌≡◌, ℕ, ◌<◌, ◌≤◌, List, ◌∷◌, ◌++◌, set, sym, refl, ap, ◌∙◌, subst, arith, Option, Some, None, Box, Bool, cond, true, false, slice_index, slice_set, nat_lt, if◌then◌else◌}
use Rattle.std.proofs.lemmas.Bool.Decides.{nat_tests}
use Rattle.std.specs.Option.{option_and_then}
use Rattle.atomic_table.specs.Table.{Allows, Joins, keeps}
use Rattle.atomic_table.proofs.Lists.{set_else}
use Rattle.flash_names.specs.Shared.{Begins, told_length, longer}
use Rattle.flash_names.proofs.Stories.{begins_self, begins_shorter}
use Rattle.flash_turn.specs.declared.view.View.{View}
use Rattle.flash_turn.specs.Counts.{holds_value, claims}
use Rattle.flash_turn.specs.Rule.{Knows, LockRule}
use Rattle.flash_turn.specs.Steps.{Self, Compares, spent_view, joined_view, with_longer}
use Rattle.flash_turn.proofs.Totals.{total_same, term_le}
use Rattle.flash_turn.proofs.Lists.{each_set}
use Rattle.flash_turn.proofs.Queues.{queue_same}
use Rattle.flash_turn.proofs.Numbers.{numbered_joins, given_joins}
use Rattle.flash_turn.proofs.Entering.{quiet}

module _ {T E F : Type 0} (story : T → Option (List E)) (fixed : T → F) where
  -- the longer of two stories that begin one begins with both
  picks : (x y value : T) → Begins (story x) (story value) × (fixed value ≡ fixed x) → Begins (story y) (story value) × (fixed value ≡ fixed y) → (b : Bool) → nat_lt (told_length (story x)) (told_length (story y)) ≡ b
      → (z : T) × ((if b then Some y else Some x) ≡ Some z) × Begins (story x) (story z) × Begins (story y) (story z) × (Begins (story z) (story value) × (fixed value ≡ fixed z))
  picks x y value p q true is = (y, refl, begins_shorter (story x) (story y) (story value) p.0 q.0 (let l : told_length (story x) < told_length (story y) = grind (arith, nat_tests) in omega arith), begins_self (story y), q)
  picks x y value p q false is = (x, refl, begins_self (story x), begins_shorter (story y) (story x) (story value) q.0 p.0 (let l : told_length (story y) ≤ told_length (story x) = grind (arith, nat_tests) in l), p)

module _ {T E O F A : Type 0} (story : T → Option (List E)) (own : T → List (ℕ × O)) (fixed : T → F) where
  pub joins : (id other : ℕ) (v w : View T) (n : ℕ) (joined : List ℕ) → v.numbers ≡ n ∷ joined → w.ticket ≡ None → w.has ≡ false → w.pending ≡ None → w.over ≡ false
      → Joins {S = Option (Box T A)} (LockRule story own fixed) id v other w (joined_view v w) spent_view
  joins id other v w n joined numbers w-ticket w-has w-pending w-over s kept here apart there =
      let both : View T = joined_view v w in
      let mid : List (View T) = set s.views id both in
      let knows = kept.known id v here in
      let theirs = kept.known other w (sym (set_else s.views id other both apart) ∙ there) in
      record {
        drawn = kept.drawn;
        served = kept.served;
        next = kept.next;
        value = kept.value;
        words = kept.words;
        queue = queue_same kept.drawn kept.served mid other w spent_view there (sym w-ticket) (queue_same kept.drawn kept.served s.views id v both here refl kept.queue);
        numbered = numbered_joins kept.next s.views id other v w both here there refl refl refl refl w-pending w-over
            (kept.numbered.past other w (sym (set_else s.views id other both apart) ∙ there)) kept.numbered;
        home = λ nobody. kept.home (let a = total_same holds_value s.views id v both here refl in let b = total_same holds_value mid other w spent_view there (sym (ap (λ c. cond c 1 0) w-has)) in omega arith);
        known = each_set (Knows story own fixed kept.served kept.value) (Knows story own fixed kept.served kept.value) mid other spent_view
            (each_set (Knows story own fixed kept.served kept.value) (Knows story own fixed kept.served kept.value) s.views id both kept.known (λ j u rest there' ok. ok)
            (record {
              seen = knows.seen;
              met = theirs.seen;
              left = λ m more e. knows.left m joined (let same : n ≡ m = cc (sym (ap (λ l. l ++ w.numbers) numbers) ∙ e) in numbers ∙ ap (λ k. k ∷ joined) same);
              out = knows.out;
            }))
            (λ j u rest there' ok. ok)
            (record { seen = λ x e. absurd (cc e); met = λ x e. absurd (cc e); left = λ m more e. absurd (cc e); out = λ e. absurd (cc e) });
        unknown = λ x nobody. kept.unknown x (sym (given_joins s.views id other v w both x here there refl) ∙ nobody);
      }

  pub compares : (n id : ℕ) (v : View T) (c : List (ℕ × Option (Box T A))) (x y : T) → v.seen ≡ Some x → v.met ≡ Some y → Allows {S = Option (Box T A)} (LockRule story own fixed) n id (v, c) 0 (λ k. k) (Compares story own fixed (v, c))
  compares n id v c x y seen met s kept wide here fits =
      let w : View T = record v { seen = with_longer story v.seen v.met; met = None } in
      let knows = kept.known id v here in
      let p = picks story fixed x y kept.value (knows.seen x seen) (knows.met y met) (nat_lt (told_length (story x)) (told_length (story y))) refl in
      let is : with_longer story v.seen v.met ≡ Some p.0 = ap (λ o. with_longer story o v.met) seen ∙ (ap (λ o. with_longer story (Some x) o) met ∙ p.1) in (
        w,
        keeps,
        tt,
        quiet story own fixed s id v w (slice_set s.words 0 (slice_index s.words 0)) kept here (ap (λ l. slice_set l 0 (slice_index l 0)) kept.words ∙ sym kept.words) refl refl refl refl refl refl
            (record {
              seen = λ u e. let same : p.0 ≡ u = cc (is, e) in subst (λ z. Begins (story z) (story kept.value) × (fixed kept.value ≡ fixed z)) same p.4;
              met = λ u e. absurd (cc e);
              left = knows.left;
              out = knows.out;
            }),
        (
          refl,
          (λ x' y' seen' met'. let xx : x ≡ x' = cc (seen, seen') in let yy : y ≡ y' = cc (met, met') in
              (p.0, is, subst (λ u. Begins (story u) (story p.0)) xx p.2, subst (λ u. Begins (story u) (story p.0)) yy p.3, sym p.4.1 ∙ ((knows.seen x seen).1 ∙ ap fixed xx))),
          (λ k. let one = kept.numbered.distinct k in let mine = term_le (claims k) s.views id v here in omega arith),
        ),
      )

  -- the same for what the code holds
  pub compares_from : (slots id : ℕ) (m : Self T A) (v : View T) (c : List (ℕ × Option (Box T A))) (x y : T) → m ≡ (v, c) → v.seen ≡ Some x → v.met ≡ Some y → Allows {S = Option (Box T A)} (LockRule story own fixed) slots id m 0 (λ k. k) (Compares story own fixed m)
  compares_from slots id m v c x y is seen met = subst (λ (z : Self T A). Allows (LockRule story own fixed) slots id z 0 (λ k. k) (Compares story own fixed z)) (sym is) (compares slots id v c x y seen met)

chosen : {T E : Type 0} (story : T → Option (List E)) (x y : T) (b : Bool) → option_and_then story (if b then Some y else Some x) ≡ (if b then story y else story x)
chosen story x y true = refl
chosen story x y false = refl

-- the story of the value with the longer one is the longer story
pub longer_seen : {T E : Type 0} (story : T → Option (List E)) (a b : Option T) (x y : T) → a ≡ Some x → b ≡ Some y → option_and_then story (with_longer story a b) ≡ longer (option_and_then story a) (option_and_then story b)
longer_seen story a b x y p q =
    ap (λ o. option_and_then story (with_longer story o b)) p
    ∙ (ap (λ o. option_and_then story (with_longer story (Some x) o)) q
    ∙ (chosen story x y (nat_lt (told_length (story x)) (told_length (story y)))
    ∙ (sym (ap (λ o. longer (option_and_then story o) (story y)) p) ∙ sym (ap (λ o. longer (option_and_then story a) (option_and_then story o)) q))))
