-- The step by which a pass leaves keeps the rule.
use Rattle.std.proofs.Common.{◌≡◌, ℕ, ◌+◌, ◌≤◌, ◌%◌, ◌^◌, List, [], ◌∷◌, sym, refl, ap, ◌∙◌, subst, arith, Option, Some, None, Box, true, false, slice_index, slice_set}
use Rattle.std.proofs.Math.Nat.{mod-add-mod}
use mathlib.Core.Option.{some}
use Rattle.atomic_table.specs.Table.{Allows, gives}
use Rattle.flash_names.specs.Shared.{Begins, without}
use Rattle.flash_turn.specs.declared.view.View.{View}
use Rattle.flash_turn.specs.Counts.{total, times, one_if_at, waits_at, given, claims}
use Rattle.flash_turn.specs.Rule.{Knows, LockRule}
use Rattle.flash_turn.specs.Steps.{Self, Serves}
use Rattle.flash_turn.proofs.Totals.{first_times, total_same, term_le, terms_le, at_here}
use Rattle.flash_turn.proofs.Lists.{each_set, set_only}
use Rattle.flash_turn.proofs.Queues.{queue_serves}
use Rattle.flash_turn.proofs.Numbers.{numbered_same}
use Rattle.flash_names.proofs.Stories.{begins_self, begins_trans, own_kept}

abbrev carried : {B : Type 0} → B → List (ℕ × Option B) → Option B
carried b [] = None
carried b (x ∷ xs) = x.1

only_value : {B : Type 0} (b c : B) → ◌≡◌ {A = List (ℕ × Option B)} ((0, Some b) ∷ []) ((0, Some c) ∷ []) → b ≡ c
only_value b c e = let q : Some b ≡ Some c = ap (λ l. carried b l) e in cc q

module _ {T E O F A : Type 0} (story : T → Option (List E)) (own : T → List (ℕ × O)) (fixed : T → F) where
  pub serves : (id : ℕ) (v : View T) (b : Box T A) (t : T) (k n : ℕ) (joined : List ℕ)
      → v.ticket ≡ Some k → v.has ≡ true → v.took ≡ Some t → v.numbers ≡ n ∷ joined
      → Begins (story t) (story b.value) → without n (own b.value) ≡ without n (own t) → fixed b.value ≡ fixed t
      → Allows (LockRule story own fixed) 1 id (v, (0, Some b) ∷ []) 1 (λ x. (x + 1) % 2 ^ 64) (Serves (v, (0, Some b) ∷ []))
  serves id v b t k n joined at has took numbers grows others same s kept wide here fits =
      let w : View T = record v { ticket = None; has = false; seen = Some b.value; left = Some b.value } in
      let knows = kept.known id v here in
      let out = knows.out has in
      let is : t ≡ kept.value = cc (took, out.1) in
      let grows' : Begins (story kept.value) (story b.value) = subst (λ y. Begins (story y) (story b.value)) is grows in
      let others' : without n (own b.value) ≡ without n (own kept.value) = others ∙ ap (λ y. without n (own y)) is in
      let same' : fixed b.value ≡ fixed kept.value = same ∙ ap fixed is in
      let mine = first_times n v.numbers joined numbers in
      let mine-at : waits_at kept.served v ≡ 1 = ap (one_if_at kept.served) out.0 ∙ at_here kept.served in (
        w,
        gives,
        tt,
        record {
          drawn = kept.drawn;
          served = kept.served + 1;
          next = kept.next;
          value = b.value;
          words = ap (λ l. slice_set l 1 ((slice_index l 1 + 1) % 2 ^ 64)) kept.words ∙ ap (λ x. kept.drawn % 2 ^ 64 ∷ x ∷ kept.next ∷ []) (mod-add-mod kept.served (2 ^ 64) 1);
          queue = queue_serves kept.drawn kept.served s.views id v w here out.0 refl kept.queue;
          numbered = numbered_same kept.next s.views id v w here refl refl refl refl kept.numbered;
          home = λ _. (b, set_only s.homes (some (Some b)) wide, refl);
          known = each_set (Knows story own fixed kept.served kept.value) (Knows story own fixed (kept.served + 1) b.value) s.views id w kept.known
              (λ j u other there ok. record {
                seen = λ x e. let old = ok.seen x e in (begins_trans (story x) (story kept.value) (story b.value) old.0 grows', same' ∙ old.1);
                met = λ x e. let old = ok.met x e in (begins_trans (story x) (story kept.value) (story b.value) old.0 grows', same' ∙ old.1);
                left = λ m more e. own_kept m n (λ d. let theirs = first_times m u.numbers more e in let theirs' : times m u.numbers ≡ times n u.numbers = ap (λ x. times x u.numbers) d in
                    let two = terms_le (claims n) s.views id j v u other here there in let one = kept.numbered.distinct n in absurd (omega arith)) (own kept.value) (own b.value) others' ∙ ok.left m more e;
                out = λ e. let o = ok.out e in let theirs : waits_at kept.served u ≡ 1 = ap (one_if_at kept.served) o.0 ∙ at_here kept.served in
                    let two = terms_le (waits_at kept.served) s.views id j v u other here there in let one = kept.queue.distinct kept.served in absurd (omega arith);
              })
              (record {
                seen = λ x e. let y : b.value ≡ x = cc e in (subst (λ z. Begins (story z) (story b.value)) y (begins_self (story b.value)), ap fixed y);
                met = λ x e. let old = knows.met x e in (begins_trans (story x) (story kept.value) (story b.value) old.0 grows', same' ∙ old.1);
                left = λ m more e. refl;
                out = λ e. absurd (cc e);
              });
          unknown = λ x nobody. let before : total (given x) s.views ≡ 0 = sym (total_same (given x) s.views id v w here refl) ∙ nobody in
              own_kept x n (λ d. let some-given = term_le (given n) s.views id v here in let e : total (given x) s.views ≡ total (given n) s.views = ap (λ y. total (given y) s.views) d in absurd (omega arith)) (own kept.value) (own b.value) others' ∙ kept.unknown x before;
        },
        (λ c e. let y = only_value b c e in ap (λ (z : Box T A). (record v { ticket = None; has = false; seen = Some z.value; left = Some z.value }, [])) y),
      )

  -- the same for what the code holds
  pub serves_from : (slots id : ℕ) (m : Self T A) (v : View T) (b : Box T A) (t : T) (k n : ℕ) (joined : List ℕ) → slots ≡ 1 → m ≡ (v, (0, Some b) ∷ [])
      → v.ticket ≡ Some k → v.has ≡ true → v.took ≡ Some t → v.numbers ≡ n ∷ joined
      → Begins (story t) (story b.value) → without n (own b.value) ≡ without n (own t) → fixed b.value ≡ fixed t
      → Allows (LockRule story own fixed) slots id m 1 (λ x. (x + 1) % 2 ^ 64) (Serves m)
  serves_from slots id m v b t k n joined one is at has took numbers grows others same =
      subst (λ x. Allows (LockRule story own fixed) x id m 1 (λ y. (y + 1) % 2 ^ 64) (Serves m)) (sym one)
      (subst (λ x. Allows (LockRule story own fixed) 1 id x 1 (λ y. (y + 1) % 2 ^ 64) (Serves x)) (sym is) (serves id v b t k n joined at has took numbers grows others same))
