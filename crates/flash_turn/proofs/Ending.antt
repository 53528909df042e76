-- What is left when a lock is closed.
use Rattle.std.proofs.Common.{◌≡◌, ◌≢◌, ℕ, ◌≤◌, ◌%◌, ◌^◌, List, sym, refl, ap, ◌∙◌, subst, Option, Some, Box, Bool, true, false, cond, slice_index, arith}
use Rattle.std.specs.Option.{option_and_then}
use Rattle.std.specs.Global.{Global}
use mathlib.Core.Option.{some, some-injective}
use lib.ListN.{get_elem?}
use Rattle.atomic_table.specs.Table.{State, Final, Seen}
use Rattle.atomic_table.proofs.Lists.{one_turn}
use Rattle.flash_names.specs.Shared.{Begins, own_of}
use Rattle.flash_turn.specs.declared.view.View.{View}
use Rattle.flash_turn.specs.declared.pass.Pass.{Pass}
use Rattle.flash_turn.specs.declared.turn.Turn.{Turn}
use Rattle.flash_turn.specs.Counts.{total, one_if_some, waits, holds_value}
use Rattle.flash_turn.specs.Rule.{LockRule}
use Rattle.flash_turn.specs.Passes.{view_of, IsPassOf, FitsPass}
use Rattle.flash_turn.specs.Closing.{IsLast, IsOut}
use Rattle.flash_turn.proofs.Numbers.{own_some}
use Rattle.flash_turn.proofs.Totals.{total_le, total_few, some_most}

-- who has the value holds a ticket
holder_waits : (b : Bool) (o : Option ℕ) (k : ℕ) → (b ≡ true → o ≡ Some k) → cond b 1 0 ≤ one_if_some o
holder_waits true o k h = let one : one_if_some o ≡ 1 = ap one_if_some (h refl) in omega arith
holder_waits false o k h = omega arith

module _ {T E O F : Type 0} (story : T → Option (List E)) (own : T → List (ℕ × O)) (fixed : T → F) where
  -- both words differ at the end
  pub is_out : (turn : Turn T) (pass : Pass T) (words : List ℕ) (slots : List (Option (Box T Global))) → Final (Seen (LockRule story own fixed) pass.seat.id (view_of pass)) words slots
      → (tickets served : ℕ) → get_elem? words 0 ≡ some tickets → get_elem? words 1 ≡ some served → tickets ≢ served → IsOut story own fixed Global pass words slots
  is_out turn pass words slots final tickets served a b differ = record { last = final; tickets = tickets; served = served; tickets_word = a; served_word = b; differ = differ }

  -- where both words are one, no pass has the value
  at_home : (s : State (Option (Box T Global)) (View T)) (kept : LockRule story own fixed s) → kept.drawn % 2 ^ 64 ≡ kept.served % 2 ^ 64 → total holds_value s.views ≡ 0
  at_home s kept same =
      let few = total_few waits s.views (λ u. some_most u.ticket) in
      let room = kept.numbered.few in
      let count = kept.queue.count in
      let is : kept.served ≡ kept.drawn = one_turn kept.served kept.drawn (2 ^ 64) (omega arith) (omega arith) (sym same) in
      let fewer = total_le holds_value waits s.views (λ j u there. holder_waits u.has u.ticket kept.served (λ has. let o = (kept.known j u there).out has in o.0)) in omega arith

  module _ (turn : Turn T) (pass : Pass T) (words : List ℕ) (slots : List (Option (Box T Global))) (final : Final (Seen (LockRule story own fixed) pass.seat.id (view_of pass)) words slots) where
    word_0 : (x : ℕ) → get_elem? words 0 ≡ some x → final.1.0.drawn % 2 ^ 64 ≡ x
    word_0 x h = some-injective (final.1.0.drawn % 2 ^ 64) x (sym (ap (λ l. get_elem? l 0) (sym final.2 ∙ final.1.0.words)) ∙ h)

    word_1 : (x : ℕ) → get_elem? words 1 ≡ some x → final.1.0.served % 2 ^ 64 ≡ x
    word_1 x h = some-injective (final.1.0.served % 2 ^ 64) x (sym (ap (λ l. get_elem? l 1) (sym final.2 ∙ final.1.0.words)) ∙ h)

    pub last : (tickets served : ℕ) → get_elem? words 0 ≡ some tickets → get_elem? words 1 ≡ some served → IsLast story own fixed Global pass tickets served
    last tickets served a b = record {
      moment = final.0;
      kept = final.1.0;
      there = final.1.1;
      tickets_word = ap (λ l. slice_index l 0) final.1.0.words ∙ word_0 tickets a;
      served_word = ap (λ l. slice_index l 1) final.1.0.words ∙ word_1 served b;
    }

    -- the slot has the value, as the pass would find it
    pub left_there : (tickets served : ℕ) (slot : Option (Box T Global)) → IsPassOf fixed turn pass → get_elem? words 0 ≡ some tickets → get_elem? words 1 ≡ some served → tickets ≡ served → get_elem? slots 0 ≡ some slot
        → (b : Box T Global) × (slot ≡ Some b) × FitsPass story own fixed turn pass b.value
    left_there tickets served slot of a b same c =
        let kept = final.1.0 in
        let home = kept.home (at_home final.0 kept (word_0 tickets a ∙ (same ∙ sym (word_1 served b)))) in
        let box : Box T Global = home.0 in
        let there : get_elem? slots 0 ≡ some (Some box) = final.4 0 (Some box) (ap (λ l. get_elem? l 0) home.1) in
        let knows = kept.known pass.seat.id (view_of pass) final.1.1 in
        let seen = knows.seen of.idle.last of.idle.seen in (
          box,
          some-injective slot (Some box) (sym c ∙ there),
          record {
            begins = subst (λ o. Begins (option_and_then story o) (story box.value)) (sym of.idle.seen) (subst (λ y. Begins (story of.idle.last) (story y)) (sym home.2) seen.0);
            numbered = own_some kept.next final.0.views pass.seat.id (view_of pass) (view_of pass) pass.number of.idle.joined kept.numbered final.1.1 of.idle.numbers;
            as_left = ap (λ y. own_of pass.number (own y)) home.2 ∙ knows.left pass.number of.idle.joined of.idle.numbers;
            same_fixed = ap fixed home.2 ∙ (seen.1 ∙ of.knows);
          },
        )
