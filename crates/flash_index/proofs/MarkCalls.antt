-- Each call keeps the marks.
use Rattle.std.proofs.Common.{◌≡◌, ℕ, ◌+◌, Bool, true, false, cond, List, [], ◌∷◌, count_by, Option, Some, None, IsSome, refl, sym, ◌∙◌, ap, subst, inl, inr, arith}
use Rattle.std.specs.Prelude.{◌<◌}
use Rattle.std.specs.FinMap.{get, insert, remove}
use Rattle.std.proofs.lemmas.Bool.{cases_eq}
use Rattle.flash_names.specs.declared.place.ItemId.{ItemId}
use Rattle.flash_names.specs.declared.place.Place.{Place}
use Rattle.flash_lru.specs.declared.segment.Segment.{Segment}
use Rattle.flash_lru.specs.declared.segment.Segment.TheVariants.{Hot, Warm, Cold}
use Rattle.flash_lru.specs.declared.card.Card.{Card}
use Rattle.flash_lru.specs.declared.card.Move.{Move}
use Rattle.flash_lru.specs.Card.{is_of}
use Rattle.flash_lru.specs.Lists.{SegmentLists, list_of, cards_of}
use Rattle.flash_lru.specs.Moves.{without, with_change, changed, moved, removed, touched, resized}
use Rattle.flash_lru.specs.Juggle.{next_move, move_item, with_move}
use Rattle.flash_items.specs.declared.item.Body.TheVariants.{Away}
use Rattle.flash_items.specs.declared.item.Item.{Item}
use Rattle.flash_items.specs.Item.{item_size}
use Rattle.flash_items.specs.ItemsState.{ItemMap, ItemsState, IsAt, item_at}
use Rattle.flash_items.specs.Calls.{IsAdded, IsTaken, with_use, use_set, with_body, body_set, replaced, with_lists}
use Rattle.flash_items.specs.Law.{IsInStep}
use Rattle.flash_index.specs.declared.marks.Marks.{Marks}
use Rattle.flash_index.specs.declared.move_rule.MoveBounds.{MoveBounds}
use Rattle.flash_index.specs.IndexState.{IndexState, HasId}
use Rattle.flash_index.specs.Seen.{seen}
use Rattle.flash_index.specs.Marking.{is_movable, IsFixed, IsMark, mark_of, AreMarks, no_marks, passed, marks_after}
use Rattle.flash_index.proofs.Lookups.{none_some, id_put_here, id_put_else, id_cut_else}
use Rattle.flash_index.proofs.Marked.{FixesMore, mark_kept, mark_passed, mark_absent, mark_else, mark_changed, mark_moved, none_without, list_removed, list_changed}

-- the item of an id
pub item_of : (s : ItemsState) (v : IndexState) → seen s ≡ v → IsInStep s → (id : ItemId) → HasId v id → (item : Item) × IsAt s id item
item_of s v is step id has =
    let found = step.item_found has.0 id.key (ap (λ (w : IndexState). get w.ids has.0) is ∙ has.1) in (found.0, found.1)

no_marks_are : (bounds : MoveBounds) (s : ItemsState) → AreMarks (no_marks bounds) s
no_marks_are bounds s Hot = tt
no_marks_are bounds s Warm = tt
no_marks_are bounds s Cold = tt

pub are_none : (marks : Marks) (bounds : MoveBounds) → marks ≡ no_marks bounds → (s : ItemsState) → AreMarks marks s
are_none marks bounds is s = subst (λ (m : Marks). AreMarks m s) (sym is) (no_marks_are bounds s)

-- another item of an id can't move where the one before it can't
fixes_more : (bounds : MoveBounds) (items : ItemMap) (n : ℕ) (was now : Item) → get items n ≡ Some was → (is_movable bounds (Some was) ≡ false → is_movable bounds (Some now) ≡ false) → FixesMore bounds items (insert items n now)
fixes_more bounds items n was now there more m fixed = elim (cases_eq m n) [
  | inl here ↦ subst (λ k. IsFixed bounds (insert items n now) k) (sym here)
      (ap (is_movable bounds) (id_put_here items n now) ∙ more (sym (ap (is_movable bounds) there) ∙ subst (λ k. IsFixed bounds items k) here fixed))
  | inr apart ↦ ap (is_movable bounds) (id_put_else items n now m apart) ∙ fixed
]

same_list : (segment : Segment) (lists : SegmentLists) (spare : ℕ) → list_of segment (record lists { spare = spare }) ≡ list_of segment lists
same_list Hot lists spare = refl
same_list Warm lists spare = refl
same_list Cold lists spare = refl

after_mark : (segment : Segment) (id : ItemId) (other : Option ItemId) (marks : Marks) → mark_of segment (marks_after (Some id) other marks) ≡ passed id other (mark_of segment marks)
after_mark Hot id other marks = refl
after_mark Warm id other marks = refl
after_mark Cold id other marks = refl

module _ (marks : Marks) (s : ItemsState) (are : AreMarks marks s) where
  abbrev bounds : MoveBounds
  bounds = marks.bounds

  pub after_reserve : (t : ItemsState) → t.items ≡ s.items → t.lists ≡ record s.lists { spare = t.lists.spare } → AreMarks marks t
  after_reserve t items lists segment =
      subst (λ (m : ItemMap). IsMark bounds m (mark_of segment marks) (list_of segment t.lists)) (sym items)
      (subst (λ l. IsMark bounds s.items (mark_of segment marks) l) (sym (ap (list_of segment) lists ∙ same_list segment s.lists t.lists.spare)) (are segment))

  pub after_use : (t : ItemsState) (id : ItemId) (item : Item) (deadline : Option ℕ) (fetched : Bool) (access : ℕ) → IsAt s id item → t ≡ use_set id item deadline fetched access s → AreMarks marks t
  after_use t id item deadline fetched access there now =
      subst (λ (u : ItemsState). AreMarks marks u) (sym now) (λ segment.
      mark_kept bounds s.items (insert s.items id.key (with_use item deadline fetched access))
      (fixes_more bounds s.items id.key item (with_use item deadline fetched access) there (λ fixed. fixed))
      (mark_of segment marks) (list_of segment s.lists) (are segment))

  pub after_body : (t : ItemsState) (id : ItemId) (item : Item) (place : Place) → IsAt s id item → t ≡ body_set id item (Away place) s → AreMarks marks t
  after_body t id item place there now =
      let new = with_body item (Away place) in
      subst (λ (u : ItemsState). AreMarks marks u) (sym now) (λ segment.
      subst (λ l. IsMark bounds (insert s.items id.key new) (mark_of segment marks) l) (sym (list_changed segment id (λ card. record card { size = item_size new }) s.lists))
      (mark_changed bounds s.items (insert s.items id.key new) (fixes_more bounds s.items id.key item new there (λ _. refl)) id (λ card. record card { size = item_size new }) (λ _. refl)
      (mark_of segment marks) (list_of segment s.lists) (are segment)))

  pub after_touch : (t : ItemsState) (id : ItemId) → t ≡ with_lists (touched id s.lists) s → AreMarks marks t
  after_touch t id now =
      subst (λ (u : ItemsState). AreMarks marks u) (sym now) (λ segment.
      subst (λ l. IsMark bounds s.items (mark_of segment marks) l) (sym (list_changed segment id (λ card. record card { active = true }) s.lists))
      (mark_changed bounds s.items s.items (λ n fixed. fixed) id (λ card. record card { active = true }) (λ _. refl)
      (mark_of segment marks) (list_of segment s.lists) (are segment)))

  -- the mark of a list that an item's card left
  passed_mark : (id : ItemId) (segment : Segment) → IsMark bounds s.items (passed id None (mark_of segment marks)) (without id (list_of segment s.lists))
  passed_mark id segment = mark_passed bounds s.items id None (mark_of segment marks) (list_of segment s.lists) (are segment) (λ _. tt)

  juggled : (o : Option Move) → AreMarks (marks_after (move_item o) None marks) (with_lists (with_move o s.lists) s)
  juggled None segment = are segment
  juggled (Some move) segment =
      subst (λ m. IsMark bounds s.items m (list_of segment (moved move.to move.card.item move.card.size s.lists))) (sym (after_mark segment move.card.item None marks))
      (mark_moved bounds s.items (passed move.card.item None (mark_of segment marks)) move.to segment move.card.item move.card.size s.lists
      (passed_mark move.card.item segment))

  pub after_juggle : (t : ItemsState) (id : Option ItemId) → id ≡ move_item (next_move s.lists) → t ≡ with_lists (with_move (next_move s.lists) s.lists) s → AreMarks (marks_after id None marks) t
  after_juggle t id is now =
      subst (λ (u : ItemsState). AreMarks (marks_after id None marks) u) (sym now)
      (subst (λ o. AreMarks (marks_after o None marks) (with_lists (with_move (next_move s.lists) s.lists) s)) (sym is) (juggled (next_move s.lists)))

  pub after_remove : (t : ItemsState) (id : ItemId) (item : Item) → IsTaken s t id item → AreMarks (marks_after (Some id) None marks) t
  after_remove t id item taken segment =
      subst (λ (m : ItemMap). IsMark bounds m (mark_of segment (marks_after (Some id) None marks)) (list_of segment t.lists)) (sym taken.items)
      (subst (λ l. IsMark bounds (remove s.items id.key) (mark_of segment (marks_after (Some id) None marks)) l) (sym (ap (list_of segment) taken.lists ∙ list_removed segment id s.lists))
      (subst (λ m. IsMark bounds (remove s.items id.key) m (without id (list_of segment s.lists))) (sym (after_mark segment id None marks))
      (mark_else bounds s.items (remove s.items id.key) id (λ n apart. id_cut_else s.items id.key n apart) (passed id None (mark_of segment marks)) (without id (list_of segment s.lists))
      (none_without id (list_of segment s.lists)) (passed_mark id segment))))

  -- an item is put at HOT's front, and its card left its list
  put_hot : (id : ItemId) (item : Item) (mark : Option ItemId) (segment : Segment) → IsMark bounds s.items mark (without id (list_of segment s.lists))
      → IsMark bounds (insert s.items id.key item) mark (list_of segment (moved Hot id (item_size item) s.lists))
  put_hot id item mark segment is =
      mark_moved bounds (insert s.items id.key item) mark Hot segment id (item_size item) s.lists
      (mark_else bounds s.items (insert s.items id.key item) id (λ n apart. id_put_else s.items id.key item n apart) mark (without id (list_of segment s.lists))
      (none_without id (list_of segment s.lists)) is)

  pub after_replace : (t : ItemsState) (id : ItemId) (item : Item) → t ≡ replaced id item s → AreMarks (marks_after (Some id) None marks) t
  after_replace t id item now =
      subst (λ (u : ItemsState). AreMarks (marks_after (Some id) None marks) u) (sym now) (λ segment.
      subst (λ m. IsMark bounds (insert s.items id.key item) m (list_of segment (moved Hot id (item_size item) s.lists))) (sym (after_mark segment id None marks))
      (put_hot id item (passed id None (mark_of segment marks)) segment (passed_mark id segment)))

  module _ (step : IsInStep s) (id : ItemId) (fresh : item_at s id ≡ None) where
    no_card : cards_of id s.lists ≡ 0
    no_card = elim (cases_eq (cards_of id s.lists) 0) [
      | inl none ↦ none
      | inr some ↦
          (let there : IsSome (item_at s id) = (step.carded id).0 (omega (arith, some)) in
          let none : IsSome (let o : Option Item = None in o) = subst (λ (o : Option Item). IsSome o) fresh there in
          absurd (cc none))
    ]

    no_card_in : (segment : Segment) → count_by (is_of id) (list_of segment s.lists) ≡ 0
    no_card_in Hot = omega (arith, no_card)
    no_card_in Warm = omega (arith, no_card)
    no_card_in Cold = omega (arith, no_card)

    pub after_insert : (t : ItemsState) (item : Item) → IsAdded s t id item → AreMarks marks t
    after_insert t item added segment =
        subst (λ (m : ItemMap). IsMark bounds m (mark_of segment marks) (list_of segment t.lists)) (sym added.items)
        (subst (λ (l : SegmentLists). IsMark bounds (insert s.items id.key item) (mark_of segment marks) (list_of segment l)) (sym added.lists)
        (put_hot id item (mark_of segment marks) segment
        (mark_absent bounds s.items id (mark_of segment marks) (list_of segment s.lists) (no_card_in segment) (are segment))))
