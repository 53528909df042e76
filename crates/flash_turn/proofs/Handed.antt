-- What a pass is after a step, from what the step told.
use Rattle.std.proofs.Common.{◌≡◌, ℕ, ◌∷◌, [], List, ◌%◌, ◌^◌, sym, refl, ap, ◌∙◌, subst, Option, Some, None, Box, true, false}
use Rattle.std.specs.Option.{option_and_then}
use Rattle.atomic_table.specs.Table.{rest}
use Rattle.flash_names.specs.Shared.{Begins}
use Rattle.flash_turn.specs.Rule.{things_left}
use Rattle.flash_turn.specs.declared.view.View.{View}
use Rattle.flash_turn.specs.declared.pass.Pass.{Pass}
use Rattle.flash_turn.specs.declared.turn.Turn.{Turn}
use Rattle.flash_turn.specs.Steps.{Self, new_view, first_view, Serves, Looks, Takes}
use Rattle.flash_turn.specs.Passes.{view_of, IsIdle, IsPassOf, FitsPass}
use Rattle.flash_turn.specs.HeldValues.{IsHolding}

abbrev carried : {B : Type 0} → Option B → List (ℕ × Option B) → Option B
carried b [] = b
carried b (x ∷ xs) = x.1

-- a pass whose view is idle, and that holds no slot, is one of the lock
pub pass_of : {T F : Type 0} (fixed : T → F) (turn : Turn T) (pass : Pass T) (v : View T) → pass.seat.table_id ≡ turn.table.shared.table_id → pass.seat.me ≡ (v, []) → (idle : IsIdle pass.number v) → fixed idle.last ≡ fixed turn.table.shared.key.value → IsPassOf fixed turn pass
pass_of fixed turn pass v table e idle knows = record {
  table = table;
  slots = ap (λ m. m.1) e;
  idle = record {
    joined = idle.joined;
    numbers = ap (λ m. m.0.numbers) e ∙ idle.numbers;
    pending = ap (λ m. m.0.pending) e ∙ idle.pending;
    over = ap (λ m. m.0.over) e ∙ idle.over;
    ticket = ap (λ m. m.0.ticket) e ∙ idle.ticket;
    has = ap (λ m. m.0.has) e ∙ idle.has;
    met = ap (λ m. m.0.met) e ∙ idle.met;
    last = idle.last;
    seen = ap (λ m. m.0.seen) e ∙ idle.seen;
  };
  knows = knows;
}

-- a pass that has drawn a number for another
abbrev pub drew : {T : Type 0} → View T → ℕ → View T
drew v n = record v { draws = n ∷ v.draws }

abbrev pub drew_idle : {T : Type 0} (number : ℕ) (v : View T) → IsIdle number v → (n : ℕ) → IsIdle number (drew v n)
drew_idle number v idle n = record { joined = idle.joined; numbers = idle.numbers; pending = idle.pending; over = idle.over; ticket = idle.ticket; has = idle.has; met = idle.met; last = idle.last; seen = idle.seen }

-- a pass that was split off
abbrev pub new_idle : {T : Type 0} (n : ℕ) (v : View T) (idle : IsIdle n v) (number : ℕ) → IsIdle number (new_view number v.seen)
new_idle n v idle number = record { joined = []; numbers = refl; pending = refl; over = refl; ticket = refl; has = refl; met = refl; last = idle.last; seen = idle.seen }

abbrev pub first_idle : {T : Type 0} (value : T) → IsIdle 1 (first_view value)
first_idle value = record { joined = []; numbers = refl; pending = refl; over = refl; ticket = refl; has = refl; met = refl; last = value; seen = refl }

-- a pass that has given the value back
abbrev pub left_idle : {T : Type 0} (number : ℕ) (v : View T) (value : T) → IsHolding number v → IsIdle number (record v { ticket = None; has = false; seen = Some value; left = Some value })
left_idle number v value h = record { joined = h.joined; numbers = h.numbers; pending = h.pending; over = h.over; ticket = refl; has = refl; met = h.met; last = value; seen = refl }

pub served : {T A : Type 0} (m n : Self T A) (r : ℕ) (v : View T) (b : Box T A) → m ≡ (v, (0, Some b) ∷ []) → Serves m r n → n ≡ (record v { ticket = None; has = false; seen = Some b.value; left = Some b.value }, [])
served m n r v b e tells = tells b (ap (λ x. x.1) e) ∙ ap (λ x. (record x { ticket = None; has = false; seen = Some b.value; left = Some b.value }, [])) (ap (λ x. x.0) e)

abbrev pub taken_holding : {T : Type 0} (number k : ℕ) (v : View T) (value : T) → IsIdle number v → IsHolding number (record v { ticket = Some k; has = true; took = Some value })
taken_holding number k v value h = record { joined = h.joined; ticketed = k; numbers = h.numbers; pending = h.pending; over = h.over; ticket = refl; has = refl; met = h.met }

-- the same of what the code holds
pub holding_of : {T A : Type 0} (number : ℕ) (m : Self T A) (v : View T) (c : List (ℕ × Option (Box T A))) → m ≡ (v, c) → IsHolding number v → IsHolding number m.0
holding_of number m v c e h = record {
  joined = h.joined;
  ticketed = h.ticketed;
  numbers = ap (λ x. x.0.numbers) e ∙ h.numbers;
  pending = ap (λ x. x.0.pending) e ∙ h.pending;
  over = ap (λ x. x.0.over) e ∙ h.over;
  ticket = ap (λ x. x.0.ticket) e ∙ h.ticket;
  has = ap (λ x. x.0.has) e ∙ h.has;
  met = ap (λ x. x.0.met) e ∙ h.met;
}

module _ {T E O F A : Type 0} (story : T → Option (List E)) (own : T → List (ℕ × O)) (fixed : T → F) where
  -- what the pass is once it has moved the value out of its slot
  pub taken_me : (m n p : Self T A) (v : View T) (k : ℕ) → m ≡ (record v { ticket = Some k }, []) → (t : Takes story own fixed m n) → p ≡ (n.0, (0, None) ∷ rest n.1)
      → p ≡ (record v { ticket = Some k; has = true; took = Some t.0.value }, (0, None) ∷ [])
  taken_me m n p v k is t after = after ∙ (ap (λ x. (x.0, (0, None) ∷ rest x.1)) t.1 ∙ ap (λ x. (record x.0 { has = true; took = Some t.0.value }, (0, None) ∷ [])) is)

  pub meets : (turn : Turn T) (pass : Pass T) (m n : Self T A) (k : ℕ) → IsPassOf fixed turn pass → m ≡ (record (view_of pass) { ticket = Some k }, []) → (t : Takes story own fixed m n) → FitsPass story own fixed turn pass t.0.value
  meets turn pass m n k of is t =
      let seen = t.2 of.idle.last (ap (λ x. x.0.seen) is ∙ of.idle.seen) in record {
        begins = subst (λ o. Begins (option_and_then story o) (story t.0.value)) (sym of.idle.seen) seen.0;
        numbered = (t.3 pass.number of.idle.joined (ap (λ x. x.0.numbers) is ∙ of.idle.numbers)).0;
        as_left = (t.3 pass.number of.idle.joined (ap (λ x. x.0.numbers) is ∙ of.idle.numbers)).1 ∙ ap (λ x. things_left own pass.number x.0.left) is;
        same_fixed = seen.1 ∙ of.knows;
      }

  -- the number found is the ticket's, so the value was taken
  pub found_own : (m n : Self T A) (v : View T) (k r ticket : ℕ) → m ≡ (record v { ticket = Some k }, []) → Looks story own fixed m r n → ticket ≡ k % 2 ^ 64 → r ≡ ticket → Takes story own fixed m n
  found_own m n v k r ticket is tells own-ticket same = (tells k (ap (λ x. x.0.ticket) is)).0 (same ∙ own-ticket)

  -- it is another's, so nothing changed
  pub found_other : (m n : Self T A) (v : View T) (k r ticket : ℕ) → m ≡ (record v { ticket = Some k }, []) → Looks story own fixed m r n → ticket ≡ k % 2 ^ 64 → ¬ (r ≡ ticket) → n ≡ m
  found_other m n v k r ticket is tells own-ticket other = (tells k (ap (λ x. x.0.ticket) is)).1 (λ e. other (e ∙ sym own-ticket))

  -- the slot that was taken, as a move out of it asks
  pub slot_of : (m n : Self T A) (t : Takes story own fixed m n) → n.1 ≡ (0, Some t.0) ∷ rest n.1
  slot_of m n t = let e = ap (λ x. x.1) t.1 in e ∙ ap (λ l. (0, Some t.0) ∷ rest l) (sym e)

  -- what was moved out is what was taken
  pub moved_out : (m n : Self T A) (t : Takes story own fixed m n) (found : Option (Box T A)) → n.1 ≡ (0, found) ∷ rest n.1 → found ≡ Some t.0
  moved_out m n t found e = ap (λ l. carried found l) (sym e ∙ ap (λ x. x.1) t.1)
