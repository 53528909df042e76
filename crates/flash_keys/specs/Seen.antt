-- What a store of keys is seen as.
use Rattle.flash_keys.specs.Classes.{Classes}
use Rattle.flash_keys.specs.declared.key_store.KeyStore.TheInside.{Inside}

-- its eight classes
abbrev pub classes_of : Inside → Classes
classes_of k = record {
  to_14 = k.to_14;
  to_22 = k.to_22;
  to_30 = k.to_30;
  to_46 = k.to_46;
  to_62 = k.to_62;
  to_94 = k.to_94;
  to_126 = k.to_126;
  to_254 = k.to_254;
}
