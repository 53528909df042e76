-- How a proof tells values of `Items` apart.
use Rattle.std.specs.Prelude.{◌≡◌, ℕ, List, Bool, Option, None, Some, refl}
use Rattle.std.specs.Coded.{Coded, code_by, coded×, coded_ℕ, coded_bool, coded_list, coded_option}
use Rattle.std.specs.FinMap.{code}
use Rattle.flash_names.specs.declared.place.Place.{Place}
use Rattle.flash_lru.specs.declared.card.Card.{Card}
use Rattle.flash_lru.specs.Lists.{SegmentLists}
use Rattle.flash_items.specs.declared.item.Body.{Body}
use Rattle.flash_items.specs.declared.item.Body.TheVariants.{Here, Away}
use Rattle.flash_items.specs.declared.item.Item.{Item}
use Rattle.flash_items.specs.ItemsState.{Ids, ItemMap, ItemsState}

abbrev pub place_code : Coded Place
place_code =
    code_by (ℕ × (ℕ × (ℕ × ℕ)))
    (coded× coded_ℕ (coded× coded_ℕ (coded× coded_ℕ coded_ℕ)))
    (λ p. (p.label.page, (p.label.version, (p.offset, p.length))))
    (λ c. record { label = record { page = c.0; version = c.1.0 }; offset = c.1.1.0; length = c.1.1.1 })
    (λ _. refl)

-- the bytes, or the numbers of the place
abbrev pub from_body : Body → Option (List ℕ) × Place
from_body (Here value) = (Some value, record { label = record { page = 0; version = 0 }; offset = 0; length = 0 })
from_body (Away place) = (None, place)

abbrev pub body_by : Option (List ℕ) → Place → Body
body_by None place = Away place
body_by (Some value) place = Here value

abbrev pub to_body : Option (List ℕ) × Place → Body
to_body c = body_by c.0 c.1

pub back_to_body : (body : Body) → to_body (from_body body) ≡ body
back_to_body (Here value) = refl
back_to_body (Away place) = refl

abbrev pub body_code : Coded Body
body_code =
    code_by (Option (List ℕ) × Place) (coded× (coded_option (coded_list coded_ℕ)) place_code)
    from_body to_body back_to_body

abbrev pub item_code : Coded Item
item_code =
    code_by (List ℕ × (ℕ × (ℕ × (Option ℕ × (Bool × (ℕ × Body))))))
    (coded× (coded_list coded_ℕ) (coded× coded_ℕ (coded× coded_ℕ (coded× (coded_option coded_ℕ)
    (coded× coded_bool (coded× coded_ℕ body_code))))))
    (λ i. (i.key, (i.flags, (i.cas, (i.deadline, (i.fetched, (i.access, i.body)))))))
    (λ c. record {
      key = c.0;
      flags = c.1.0;
      cas = c.1.1.0;
      deadline = c.1.1.1.0;
      fetched = c.1.1.1.1.0;
      access = c.1.1.1.1.1.0;
      body = c.1.1.1.1.1.1;
    })
    (λ _. refl)

abbrev pub card_code : Coded Card
card_code =
    code_by (ℕ × (ℕ × Bool)) (coded× coded_ℕ (coded× coded_ℕ coded_bool))
    (λ c. (c.item.key, (c.size, c.active)))
    (λ p. record { item = record { key = p.0 }; size = p.1.0; active = p.1.1 })
    (λ _. refl)

abbrev pub lists_code : Coded SegmentLists
lists_code =
    code_by (List Card × (List Card × (List Card × (ℕ × ℕ))))
    (coded× (coded_list card_code) (coded× (coded_list card_code)
    (coded× (coded_list card_code) (coded× coded_ℕ coded_ℕ))))
    (λ s. (s.hot, (s.warm, (s.cold, (s.spare, s.memory)))))
    (λ p. record { hot = p.0; warm = p.1.0; cold = p.1.1.0; spare = p.1.1.1.0; memory = p.1.1.1.1 })
    (λ _. refl)

abbrev pub items_code : Coded ItemsState
items_code =
    code_by (Ids × (ItemMap × (SegmentLists × ℕ)))
    (coded× (code (coded_list coded_ℕ) coded_ℕ) (coded× (code coded_ℕ item_code) (coded× lists_code coded_ℕ)))
    (λ s. (s.ids, (s.items, (s.lists, s.spare))))
    (λ p. record { ids = p.0; items = p.1.0; lists = p.1.1.0; spare = p.1.1.1 })
    (λ _. refl)
