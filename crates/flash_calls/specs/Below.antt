-- What the laws of a store's calls rest on: the laws of heads, those of the three lists, and those of blocks.
use Rattle.flash_blocks.specs.Laws.{TheFirstIsInOrder, EachCallKeepsOrder, EachOpeningKeepsOrder, EachCallKeepsSizes}
use Rattle.flash_blocks.specs.Laws.{EachRecordStays, EachRecordIsRead, EachPutIsHeld}
use Rattle.flash_heads.specs.KnownRun.{TheFirstRunIsKnown, AKnownRunGoesOn, AKnownRunGoesOnByAMove}
use Rattle.flash_heads.specs.Kept.{AnItemInMemoryIsKnown, EachKeyHasItsHead, EachHeadIsOfAnItem}
use Rattle.flash_heads.specs.Living.{EachLiveItemIsHidden}
use Rattle.flash_index.specs.Laws.{NoItemsAreListed, EachPutIsListed, EachRemovalIsListed, EachChangeIsListed}
use Rattle.flash_index.specs.Laws.{EachResizeIsListed, EachUseIsListed, EachMoveIsListed, EachLastHasAnItem}

-- the laws of heads
pub record OfHeads : Type 0 where
  pub first : TheFirstRunIsKnown
  pub known : AKnownRunGoesOn
  pub moved : AKnownRunGoesOnByAMove
  pub memory : AnItemInMemoryIsKnown
  pub of : EachHeadIsOfAnItem
  pub head : EachKeyHasItsHead
  pub live : EachLiveItemIsHidden

-- the laws of the lists
pub record OfLists : Type 0 where
  pub none : NoItemsAreListed
  pub put : EachPutIsListed
  pub removal : EachRemovalIsListed
  pub change : EachChangeIsListed
  pub resize : EachResizeIsListed
  pub used : EachUseIsListed
  pub moves : EachMoveIsListed
  pub last : EachLastHasAnItem

-- the laws of blocks
pub record OfBlocks : Type 0 where
  pub first : TheFirstIsInOrder
  pub order : EachCallKeepsOrder
  pub opening : EachOpeningKeepsOrder
  pub sizes : EachCallKeepsSizes
  pub stays : EachRecordStays
  pub read : EachRecordIsRead
  pub put : EachPutIsHeld

-- all of these
pub record Below : Type 0 where
  pub heads : OfHeads
  pub lists : OfLists
  pub blocks : OfBlocks
