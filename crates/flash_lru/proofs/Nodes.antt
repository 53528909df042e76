-- The nodes after a number is unlinked, and after one is linked in.
use Rattle.std.proofs.Common.{◌≡◌, ℕ, ◌<◌, false, List, length, set, refl, sym, ◌∙◌, ap, subst, inl, inr, arith, length-set}
use Rattle.std.proofs.lemmas.Bool.{cases_eq}
use Rattle.std.proofs.lemmas.List.{get_or-set_same, get_or-set_other}
use Rattle.flash_lru.specs.declared.node.Node.{Node}
use Rattle.flash_lru.specs.declared.node.Home.{Home}
use Rattle.flash_lru.specs.Ring.{blank, node_at, next_of, prev_of, with_next, with_prev, unlinked, linked, unused}
use Rattle.flash_lru.proofs.Paths.{IsLinked, Cut, Joint}

pub node_at_same : (nodes : List Node) (x : ℕ) (node : Node) → x < length nodes → node_at (set nodes x node) x ≡ node
node_at_same nodes x node inside = get_or-set_same nodes x node (blank x) inside

pub node_at_other : (nodes : List Node) (x : ℕ) (node : Node) (u : ℕ) → (u ≡ x → ⊥) → node_at (set nodes x node) u ≡ node_at nodes u
node_at_other nodes x node u n = get_or-set_other nodes x u node (blank u) n

-- a field that the new node has from the old one is as it was
pub field_kept : {A : Type 0} (F : Node → A) (nodes : List Node) (x : ℕ) (node : Node) → x < length nodes → F node ≡ F (node_at nodes x) → (u : ℕ) → F (node_at (set nodes x node) u) ≡ F (node_at nodes u)
field_kept F nodes x node inside same u = elim (cases_eq u x) [
  | inl e ↦ subst (λ k. F (node_at (set nodes x node) k) ≡ F (node_at nodes k)) (sym e) (ap F (node_at_same nodes x node inside) ∙ same)
  | inr n ↦ ap F (node_at_other nodes x node u n)
]

-- what is changed at one number is a bound's fact everywhere, where it is one there
pub bound_kept : (F : Node → ℕ) (b : ℕ) (nodes : List Node) (x : ℕ) (node : Node) → x < length nodes → F node < b → ((u : ℕ) → F (node_at nodes u) < b) → (u : ℕ) → F (node_at (set nodes x node) u) < b
bound_kept F b nodes x node inside fits all u = elim (cases_eq u x) [
  | inl e ↦ subst (λ k. F (node_at (set nodes x node) k) < b) (sym e) (subst (λ v. F v < b) (sym (node_at_same nodes x node inside)) fits)
  | inr n ↦ subst (λ v. F v < b) (sym (node_at_other nodes x node u n)) (all u)
]

-- the number is unlinked
module _ (nodes : List Node) (x : ℕ) (inside : x < length nodes) (next_in : next_of nodes x < length nodes) (prev_in : prev_of nodes x < length nodes) where
  first_set : List Node
  first_set = with_next (prev_of nodes x) (next_of nodes x) nodes

  second_set : List Node
  second_set = with_prev (next_of nodes x) (prev_of nodes x) (with_next (prev_of nodes x) (next_of nodes x) nodes)

  first_long : length (with_next (prev_of nodes x) (next_of nodes x) nodes) ≡ length nodes
  first_long = length-set _ _ _

  second_long : length (with_prev (next_of nodes x) (prev_of nodes x) (with_next (prev_of nodes x) (next_of nodes x) nodes)) ≡ length nodes
  second_long = length-set _ _ _ ∙ first_long

  pub unlinked_long : length (unlinked x nodes) ≡ length nodes
  unlinked_long = length-set _ _ _ ∙ second_long

  -- a field that isn't a link is as it was elsewhere
  pub unlinked_else : {A : Type 0} (F : Node → A) → ((node : Node) (v : ℕ) → F (record node { next = v }) ≡ F node) → ((node : Node) (v : ℕ) → F (record node { prev = v }) ≡ F node) → (u : ℕ) → (u ≡ x → ⊥) → F (node_at (unlinked x nodes) u) ≡ F (node_at nodes u)
  unlinked_else F no_next no_prev u n =
      ap F (node_at_other _ x unused u n)
      ∙ field_kept F _ (next_of nodes x) _ (omega (arith, first_long)) (no_prev _ _) u
      ∙ field_kept F nodes (prev_of nodes x) _ prev_in (no_next _ _) u

  pub unlinked_there : node_at (unlinked x nodes) x ≡ unused
  unlinked_there = node_at_same _ x unused (omega (arith, second_long))

  unlinked_next : (u : ℕ) → (u ≡ x → ⊥) → next_of (unlinked x nodes) u ≡ next_of (with_next (prev_of nodes x) (next_of nodes x) nodes) u
  unlinked_next u n =
      ap (λ v. v.next) (node_at_other _ x unused u n)
      ∙ field_kept (λ v. v.next) _ (next_of nodes x) _ (omega (arith, first_long)) refl u

  unlinked_prev : (u : ℕ) → (u ≡ x → ⊥) → prev_of (unlinked x nodes) u ≡ prev_of (with_prev (next_of nodes x) (prev_of nodes x) (with_next (prev_of nodes x) (next_of nodes x) nodes)) u
  unlinked_prev u n = ap (λ v. v.prev) (node_at_other _ x unused u n)

  pub unlinked_cut : IsLinked (next_of nodes) (prev_of nodes) x → Cut (next_of nodes) (prev_of nodes) (next_of (unlinked x nodes)) (prev_of (unlinked x nodes)) x
  unlinked_cut is = record {
    linked = is;
    next_there = unlinked_next (prev_of nodes x) is.prev_other ∙ ap (λ v. v.next) (node_at_same nodes (prev_of nodes x) _ prev_in);
    prev_there = unlinked_prev (next_of nodes x) is.next_other ∙ ap (λ v. v.prev) (node_at_same _ (next_of nodes x) _ (omega (arith, first_long)));
    next_else = λ u nx np. unlinked_next u nx ∙ ap (λ v. v.next) (node_at_other nodes (prev_of nodes x) _ u np);
    prev_else = λ u nx nn. unlinked_prev u nx ∙ ap (λ v. v.prev) (node_at_other _ (next_of nodes x) _ u nn) ∙ field_kept (λ v. v.prev) nodes (prev_of nodes x) _ prev_in refl u;
  }

  pub unlinked_bound : (F : Node → ℕ) (b : ℕ) → F unused < b → ((node : Node) (v : ℕ) → v < b → F node < b → F (record node { next = v }) < b) → ((node : Node) (v : ℕ) → v < b → F node < b → F (record node { prev = v }) < b) → next_of nodes x < b → prev_of nodes x < b → ((u : ℕ) → F (node_at nodes u) < b) → (u : ℕ) → F (node_at (unlinked x nodes) u) < b
  unlinked_bound F b free as_next as_prev next_low prev_low all =
      let first = bound_kept F b nodes (prev_of nodes x) _ prev_in (as_next _ _ next_low (all (prev_of nodes x))) all in
      let second = bound_kept F b _ (next_of nodes x) _ (omega (arith, first_long)) (as_prev _ _ prev_low (first (next_of nodes x))) first in
      bound_kept F b _ x unused (omega (arith, second_long)) free second

-- the number is linked in after an end
module _ (nodes : List Node) (x s size : ℕ) (home : Home) (inside : x < length nodes) (end_in : s < length nodes) (next_in : next_of nodes s < length nodes) where
  head_set : List Node
  head_set = with_prev (next_of nodes s) x nodes

  new_node : Node
  new_node = record { prev = s; next = next_of nodes s; size = size; home = home; active = false }

  head_long : length (with_prev (next_of nodes s) x nodes) ≡ length nodes
  head_long = length-set _ _ _

  end_long : length (with_next s x (with_prev (next_of nodes s) x nodes)) ≡ length nodes
  end_long = length-set _ _ _ ∙ head_long

  pub linked_long : length (linked x s size home nodes) ≡ length nodes
  linked_long = length-set _ _ _ ∙ end_long

  pub linked_else : {A : Type 0} (F : Node → A) → ((node : Node) (v : ℕ) → F (record node { next = v }) ≡ F node) → ((node : Node) (v : ℕ) → F (record node { prev = v }) ≡ F node) → (u : ℕ) → (u ≡ x → ⊥) → F (node_at (linked x s size home nodes) u) ≡ F (node_at nodes u)
  linked_else F no_next no_prev u n =
      ap F (node_at_other _ x _ u n)
      ∙ field_kept F _ s _ (omega (arith, head_long)) (no_next _ _) u
      ∙ field_kept F nodes (next_of nodes s) _ next_in (no_prev _ _) u

  pub linked_there : node_at (linked x s size home nodes) x ≡ record { prev = s; next = next_of nodes s; size = size; home = home; active = false }
  linked_there = node_at_same _ x _ (omega (arith, end_long))

  linked_next : (u : ℕ) → (u ≡ x → ⊥) → next_of (linked x s size home nodes) u ≡ next_of (with_next s x (with_prev (next_of nodes s) x nodes)) u
  linked_next u n = ap (λ v. v.next) (node_at_other _ x _ u n)

  linked_prev : (u : ℕ) → (u ≡ x → ⊥) → prev_of (linked x s size home nodes) u ≡ prev_of (with_prev (next_of nodes s) x nodes) u
  linked_prev u n =
      ap (λ v. v.prev) (node_at_other _ x _ u n)
      ∙ field_kept (λ v. v.prev) _ s _ (omega (arith, head_long)) refl u

  pub linked_joint : (s ≡ x → ⊥) → (next_of nodes s ≡ x → ⊥) → prev_of nodes (next_of nodes s) ≡ s → Joint (next_of nodes) (prev_of nodes) (next_of (linked x s size home nodes)) (prev_of (linked x s size home nodes)) s x
  linked_joint s_other first_other back = record {
    next_end = linked_next s s_other ∙ ap (λ v. v.next) (node_at_same _ s _ (omega (arith, head_long)));
    prev_new = ap (λ v. v.prev) linked_there;
    next_new = ap (λ v. v.next) linked_there;
    prev_first = linked_prev (next_of nodes s) first_other ∙ ap (λ v. v.prev) (node_at_same nodes (next_of nodes s) _ next_in);
    end_back = back;
    next_else = λ u ns nx. linked_next u nx ∙ ap (λ v. v.next) (node_at_other _ s _ u ns) ∙ field_kept (λ v. v.next) nodes (next_of nodes s) _ next_in refl u;
    prev_else = λ u nf nx. linked_prev u nx ∙ ap (λ v. v.prev) (node_at_other nodes (next_of nodes s) _ u nf);
  }

  pub linked_bound : (F : Node → ℕ) (b : ℕ) → F (record { prev = s; next = next_of nodes s; size = size; home = home; active = false }) < b → ((node : Node) (v : ℕ) → v < b → F node < b → F (record node { next = v }) < b) → ((node : Node) (v : ℕ) → v < b → F node < b → F (record node { prev = v }) < b) → x < b → ((u : ℕ) → F (node_at nodes u) < b) → (u : ℕ) → F (node_at (linked x s size home nodes) u) < b
  linked_bound F b new as_next as_prev low all =
      let head = bound_kept F b nodes (next_of nodes s) _ next_in (as_prev _ _ low (all (next_of nodes s))) all in
      let ended = bound_kept F b _ s _ (omega (arith, head_long)) (as_next _ _ low (head s)) head in
      bound_kept F b _ x _ (omega (arith, end_long)) new ended
