-- The steps by which a pass enters keep the rule.
use Rattle.std.proofs.Common.{◌≡◌, ℕ, ◌+◌, ◌≤◌, ◌==◌, eq-eqb, ne_eqb, ◌%◌, ◌^◌, List, [], ◌∷◌, set, sym, refl, ap, ◌∙◌, subst, arith, Option, Some, None, Box, Bool, cond, true, false, slice_index, slice_set}
use Rattle.std.proofs.Math.Nat.{mod-add-mod}
use mathlib.Core.Logic.{dite}
use native.Mathlib.Decide.{ℕ_discrete}
use mathlib.Core.Option.{some, none}
use lib.ListN.{get_elem?}
use prog.Atomic.{either}
use Rattle.atomic_table.specs.Table.{State, Allows, keeps, takes}
use Rattle.atomic_table.proofs.Lists.{one_turn}
use Rattle.flash_names.specs.Shared.{Begins, own_of}
use Rattle.flash_turn.specs.declared.view.View.{View}
use Rattle.flash_turn.specs.Counts.{total, one_if_at, waits, waits_at, holds_value, given, times}
use Rattle.flash_turn.specs.Rule.{Knows, LockRule}
use Rattle.flash_turn.specs.Steps.{Self, DrawsAt, Looks}
use Rattle.flash_turn.proofs.Totals.{total-set, total_same, total_lt, total_few, some_most, at_here}
use Rattle.flash_turn.proofs.Lists.{each_set}
use Rattle.flash_turn.proofs.Queues.{queue_draws, queue_same}
use Rattle.flash_turn.proofs.Numbers.{numbered_same, own_some}

-- who has the value holds the served ticket
holder_le : (served : ℕ) (b : Bool) (o : Option ℕ) → (b ≡ true → o ≡ Some served) → cond b 1 0 ≤ one_if_at served o
holder_le served true o h = let one : one_if_at served o ≡ 1 = ap (one_if_at served) (h refl) ∙ at_here served in omega arith
holder_le served false o h = omega arith

module _ {T E O F A : Type 0} (story : T → Option (List E)) (own : T → List (ℕ × O)) (fixed : T → F) where
  -- a step that changes no word and takes no slot, after which the pass still holds what it held
  pub quiet : (s : State (Option (Box T A)) (View T)) (id : ℕ) (v w : View T) (words : List ℕ) (kept : LockRule story own fixed s) → get_elem? s.views id ≡ some v → words ≡ s.words
      → w.numbers ≡ v.numbers → w.pending ≡ v.pending → w.over ≡ v.over → w.draws ≡ v.draws → w.ticket ≡ v.ticket → w.has ≡ v.has → Knows story own fixed kept.served kept.value w
      → LockRule story own fixed (record { words = words; homes = s.homes; views = set s.views id w })
  quiet s id v w words kept here same numbers pending over draws ticket has knows = record {
    drawn = kept.drawn;
    served = kept.served;
    next = kept.next;
    value = kept.value;
    words = same ∙ kept.words;
    queue = queue_same kept.drawn kept.served s.views id v w here ticket kept.queue;
    numbered = numbered_same kept.next s.views id v w here numbers pending over draws kept.numbered;
    home = λ nobody. kept.home (sym (total_same holds_value s.views id v w here (ap (λ b. cond b 1 0) has)) ∙ nobody);
    known = each_set (Knows story own fixed kept.served kept.value) (Knows story own fixed kept.served kept.value) s.views id w kept.known (λ j u other there ok. ok) knows;
    unknown = λ x nobody. kept.unknown x (sym (total_same (given x) s.views id v w here (ap (times x) numbers)) ∙ nobody);
  }

  -- a ticket was drawn by a pass that had none
  drew : (s : State (Option (Box T A)) (View T)) (id : ℕ) (v : View T) (kept : LockRule story own fixed s) → get_elem? s.views id ≡ some v → v.ticket ≡ None
      → LockRule story own fixed (record { words = slice_set s.words 0 ((slice_index s.words 0 + 1) % 2 ^ 64); homes = s.homes; views = set s.views id (record v { ticket = Some kept.drawn }) })
  drew s id v kept here empty =
      let w : View T = record v { ticket = Some kept.drawn } in
      let knows = kept.known id v here in
      record {
        drawn = kept.drawn + 1;
        served = kept.served;
        next = kept.next;
        value = kept.value;
        words = ap (λ l. slice_set l 0 ((slice_index l 0 + 1) % 2 ^ 64)) kept.words ∙ ap (λ k. k ∷ kept.served % 2 ^ 64 ∷ kept.next ∷ []) (mod-add-mod kept.drawn (2 ^ 64) 1);
        queue = queue_draws kept.drawn kept.served s.views id v w here empty refl kept.queue;
        numbered = numbered_same kept.next s.views id v w here refl refl refl refl kept.numbered;
        home = λ nobody. kept.home (sym (total_same holds_value s.views id v w here refl) ∙ nobody);
        known = each_set (Knows story own fixed kept.served kept.value) (Knows story own fixed kept.served kept.value) s.views id w kept.known (λ j u other there ok. ok)
            (record { seen = knows.seen; met = knows.met; left = knows.left; out = λ has. let o = knows.out has in absurd (cc (empty, o.0)) });
        unknown = λ x nobody. kept.unknown x (sym (total_same (given x) s.views id v w here refl) ∙ nobody);
      }

  -- a pass that has no ticket draws one where the number of those drawn is `old`
  pub draws : (slots id old : ℕ) (m : Self T A) → m.0.ticket ≡ None → Allows (LockRule story own fixed) slots id m 0 (λ k. either (k == old) ((old + 1) % 2 ^ 64) k) (DrawsAt old m)
  draws slots id old m empty s kept wide here fits =
      let x : ℕ = slice_index s.words 0 in
      let v : View T = m.0 in
      let w : View T = record v { ticket = Some kept.drawn } in
      let after : View T → ℕ → State (Option (Box T A)) (View T) = λ u k. record { words = slice_set s.words 0 k; homes = s.homes; views = set s.views id u } in
      dite (ℕ_discrete x old)
      (λ hit. (
        w,
        keeps,
        tt,
        subst (λ b. LockRule story own fixed (after w (either b ((old + 1) % 2 ^ 64) x))) (sym (eq-eqb x old hit)) (subst (λ k. LockRule story own fixed (after w ((k + 1) % 2 ^ 64))) hit (drew s id v kept here empty)),
        ((λ _. (kept.drawn, ap (λ l. slice_index l 0) kept.words, refl)), (λ miss. absurd (miss hit))),
      ))
      (λ miss. (
        v,
        keeps,
        tt,
        subst (λ b. LockRule story own fixed (after v (either b ((old + 1) % 2 ^ 64) x))) (sym (ne_eqb x old miss))
            (quiet s id v v (slice_set s.words 0 x) kept here (ap (λ l. slice_set l 0 (slice_index l 0)) kept.words ∙ sym kept.words) refl refl refl refl refl refl (kept.known id v here)),
        ((λ hit. absurd (miss hit)), (λ _. refl)),
      ))

  -- the pass whose ticket is served finds the value at home
  found : (s : State (Option (Box T A)) (View T)) (id : ℕ) (v : View T) (kept : LockRule story own fixed s) → get_elem? s.views id ≡ some v → v.ticket ≡ Some kept.served → v.has ≡ false → total holds_value s.views ≡ 0
  found s id v kept here at idle =
      let mine : waits_at kept.served v ≡ 1 = ap (one_if_at kept.served) at ∙ at_here kept.served in
      let not-mine : holds_value v ≡ 0 = ap (λ b. cond b 1 0) idle in
      let less = total_lt holds_value (waits_at kept.served) s.views id v (λ j u there. holder_le kept.served u.has u.ticket (λ has. let o = (kept.known j u there).out has in o.0)) here (omega arith) in
      let one = kept.queue.distinct kept.served in omega arith

  -- where its ticket is served, the pass takes the value
  takes_it : (s : State (Option (Box T A)) (View T)) (id : ℕ) (v : View T) (k : ℕ) (kept : LockRule story own fixed s) → get_elem? s.views id ≡ some v → v.ticket ≡ Some k → v.has ≡ false → kept.served ≡ k
      → (b : Box T A) → s.homes ≡ some (Some b) ∷ [] → b.value ≡ kept.value
      → LockRule story own fixed (record { words = slice_set s.words 1 (slice_index s.words 1); homes = slice_set s.homes 0 none; views = set s.views id (record v { has = true; took = Some b.value }) })
  takes_it s id v k kept here at idle is b home same =
      let w : View T = record v { has = true; took = Some b.value } in
      let knows = kept.known id v here in
      let more = total-set holds_value s.views id v w here in
      let before : holds_value v ≡ 0 = ap (λ b. cond b 1 0) idle in
      record {
        drawn = kept.drawn;
        served = kept.served;
        next = kept.next;
        value = kept.value;
        words = ap (λ l. slice_set l 1 (slice_index l 1)) kept.words;
        queue = queue_same kept.drawn kept.served s.views id v w here refl kept.queue;
        numbered = numbered_same kept.next s.views id v w here refl refl refl refl kept.numbered;
        home = λ nobody. absurd (omega arith);
        known = each_set (Knows story own fixed kept.served kept.value) (Knows story own fixed kept.served kept.value) s.views id w kept.known (λ j u other there ok. ok)
            (record { seen = knows.seen; met = knows.met; left = knows.left; out = λ has. (at ∙ ap Some (sym is), ap Some same) });
        unknown = λ x nobody. kept.unknown x (sym (total_same (given x) s.views id v w here refl) ∙ nobody);
      }

  served_is : (s : State (Option (Box T A)) (View T)) (id : ℕ) (v : View T) (k : ℕ) (kept : LockRule story own fixed s) → get_elem? s.views id ≡ some v → v.ticket ≡ Some k → kept.served % 2 ^ 64 ≡ k % 2 ^ 64 → kept.served ≡ k
  served_is s id v k kept here at same =
      let between = kept.queue.between id v here k at in
      let few = total_few waits s.views (λ u. some_most u.ticket) in
      let room = kept.numbered.few in
      let count = kept.queue.count in
      one_turn kept.served k (2 ^ 64) between.0 (omega arith) same

  pub looks : (id : ℕ) (v : View T) (k : ℕ) → v.ticket ≡ Some k → v.has ≡ false → Allows {S = Option (Box T A)} (LockRule story own fixed) 1 id (v, []) 1 (λ n. n) (Looks story own fixed (v, []))
  looks id v k at idle s kept wide here fits =
      let word : slice_index s.words 1 ≡ kept.served % 2 ^ 64 = ap (λ l. slice_index l 1) kept.words in
      let knows = kept.known id v here in
      dite (ℕ_discrete (kept.served % 2 ^ 64) (k % 2 ^ 64))
      (λ e. let is = served_is s id v k kept here at e in
      let home = kept.home (found s id v kept here (at ∙ ap Some (sym is)) idle) in
      let b : Box T A = home.0 in
      let w : View T = record v { has = true; took = Some b.value } in (
        w,
        takes 0 (Some b),
        ap (λ l. get_elem? l 0) home.1,
        takes_it s id v k kept here at idle is b home.1 home.2,
        λ j at'. (
          (λ _. (
            b,
            refl,
            (λ x e'. let P : T → Type 0 = λ y. Begins (story x) (story y) × (fixed y ≡ fixed x) in subst P (sym home.2) (knows.seen x e')),
            (λ n joined e'. (own_some kept.next s.views id v v n joined kept.numbered here e', ap (λ y. own_of n (own y)) home.2 ∙ knows.left n joined e')),
          )),
          (λ ne. absurd (ne (word ∙ (e ∙ (let same : k ≡ j = cc (at, at') in ap (λ x. x % 2 ^ 64) same))))),
        ),
      ))
      (λ n. (
        v,
        keeps,
        tt,
        quiet s id v v (slice_set s.words 1 (slice_index s.words 1)) kept here (ap (λ l. slice_set l 1 (slice_index l 1)) kept.words ∙ sym kept.words) refl refl refl refl refl refl knows,
        λ j at'. ((λ e. let same : k ≡ j = cc (at, at') in absurd (n (sym word ∙ (e ∙ sym (ap (λ x. x % 2 ^ 64) same))))), (λ _. refl)),
      ))

  -- the same for what the code holds
  pub looks_from : (slots id : ℕ) (m : Self T A) (v : View T) (k : ℕ) → slots ≡ 1 → m ≡ (v, []) → v.ticket ≡ Some k → v.has ≡ false
      → Allows (LockRule story own fixed) slots id m 1 (λ n. n) (Looks story own fixed m)
  looks_from slots id m v k one is at idle =
      subst (λ x. Allows (LockRule story own fixed) x id m 1 (λ n. n) (Looks story own fixed m)) (sym one)
      (subst (λ (x : Self T A). Allows (LockRule story own fixed) 1 id x 1 (λ n. n) (Looks story own fixed x)) (sym is) (looks id v k at idle))
