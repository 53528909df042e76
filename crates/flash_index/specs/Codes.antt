-- How a proof tells values of `Index` apart.
use Rattle.std.specs.Prelude.{ℕ, Bool, List, refl}
use Rattle.std.specs.Coded.{Coded, code_by, coded×, coded_ℕ, coded_bool, coded_list}
use Rattle.std.specs.FinMap.{code}
use Rattle.flash_items.specs.ItemsState.{Ids}
use Rattle.flash_items.specs.Codes.{place_code}
use Rattle.flash_machine.specs.Cache.{Items}
use Rattle.flash_machine.specs.Codes.{items_code}
use Rattle.flash_index.specs.Places.{Places}
use Rattle.flash_index.specs.KeyLists.{KeyCard, KeyLists}
use Rattle.flash_index.specs.IndexState.{IndexState}

abbrev pub card_code : Coded KeyCard
card_code =
    code_by (List ℕ × (ℕ × Bool)) (coded× (coded_list coded_ℕ) (coded× coded_ℕ coded_bool))
    (λ c. (c.key, (c.size, c.active)))
    (λ p. record { key = p.0; size = p.1.0; active = p.1.1 })
    (λ _. refl)

abbrev pub lists_code : Coded KeyLists
lists_code =
    code_by (List KeyCard × (List KeyCard × List KeyCard))
    (coded× (coded_list card_code) (coded× (coded_list card_code) (coded_list card_code)))
    (λ l. (l.hot, (l.warm, l.cold)))
    (λ p. record { hot = p.0; warm = p.1.0; cold = p.1.1 })
    (λ _. refl)

abbrev pub places_code : Coded Places
places_code = code (coded_list coded_ℕ) place_code

abbrev pub index_code : Coded IndexState
index_code =
    code_by (Items × (Places × (KeyLists × (ℕ × (Ids × ℕ)))))
    (coded× items_code (coded× places_code (coded× lists_code (coded× coded_ℕ
    (coded× (code (coded_list coded_ℕ) coded_ℕ) coded_ℕ)))))
    (λ s. (s.items, (s.places, (s.lists, (s.memory, (s.ids, s.spare))))))
    (λ p. record {
      items = p.0;
      places = p.1.0;
      lists = p.1.1.0;
      memory = p.1.1.1.0;
      ids = p.1.1.1.1.0;
      spare = p.1.1.1.1.1;
    })
    (λ _. refl)
