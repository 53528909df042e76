-- What every entry of the type is: each number fits its field, and a key has 1 to 250 bytes.
use Rattle.std.specs.Prelude.{ℕ, ℤ, ◌^◌, ◌<◌, ◌≤◌, List, length, IfSome, FitsSigned}
use Rattle.std.specs.Int.{w64}
use Rattle.hex.specs.Hex.{IsBytes}
use Rattle.flash_names.specs.declared.place.Label.{Label}
use Rattle.flash_names.specs.declared.place.Place.{Place}
use Rattle.flash_names.specs.declared.place.Id.{Id}
use Rattle.flash_entry.specs.declared.ask.Put.{Put}
use Rattle.flash_entry.specs.declared.ask.Create.{Create}
use Rattle.flash_entry.specs.declared.ask.Arith.{Arith}
use Rattle.flash_entry.specs.declared.answer.Stored.{Stored}
use Rattle.flash_entry.specs.declared.answer.Stored.TheVariants as stores
use Rattle.flash_entry.specs.declared.answer.Summed.{Summed}
use Rattle.flash_entry.specs.declared.answer.Sum.{Sum}
use Rattle.flash_entry.specs.declared.answer.Sum.TheVariants as sums
use Rattle.flash_entry.specs.declared.answer.Tally.{Tally}
use Rattle.flash_entry.specs.declared.entry.Done.{Done}
use Rattle.flash_entry.specs.declared.entry.Done.TheVariants as deeds
use Rattle.flash_entry.specs.declared.entry.Residence.{Residence}
use Rattle.flash_entry.specs.declared.entry.Residence.TheVariants as residences
use Rattle.flash_entry.specs.declared.entry.Close.{Close}
use Rattle.flash_entry.specs.declared.entry.Close.TheVariants as closes
use Rattle.flash_entry.specs.declared.entry.Entry.{Entry}
use Rattle.flash_entry.specs.declared.entry.Entry.TheVariants as entries

-- a number of 64 bits
abbrev pub IsNumber : ℕ → Type 0
IsNumber n = n < 2 ^ 64

-- a number of 32 bits
abbrev pub IsNarrow : ℕ → Type 0
IsNarrow n = n < 2 ^ 32

-- a signed number of 64 bits
abbrev pub IsSigned : ℤ → Type 0
IsSigned n = FitsSigned w64 n

-- 1 to 250 bytes
pub record IsKey (key : List ℕ) : Type 0 where
  pub bytes : IsBytes key
  pub some : 1 ≤ length key
  pub fits : length key ≤ 250

pub record IsId (id : Id) : Type 0 where
  pub pass : IsNarrow id.pass
  pub seq : IsNumber id.seq

pub record IsLabel (label : Label) : Type 0 where
  pub page : IsNarrow label.page
  pub version : IsNumber label.version

pub record IsPlace (place : Place) : Type 0 where
  pub label : IsLabel place.label
  pub offset : IsNarrow place.offset
  pub length : IsNarrow place.length

pub record IsPut (put : Put) : Type 0 where
  pub key : IsKey put.key
  pub flags : IsNarrow put.flags
  pub exptime : IsSigned put.exptime
  pub compare : IfSome put.compare IsNumber
  pub value : IsBytes put.value

pub record IsCreate (create : Create) : Type 0 where
  pub exptime : IsSigned create.exptime
  pub start : IsNumber create.start

pub record IsArith (ask : Arith) : Type 0 where
  pub key : IsKey ask.key
  pub delta : IsNumber ask.delta
  pub compare : IfSome ask.compare IsNumber
  pub renew : IfSome ask.renew IsSigned
  pub create : IfSome ask.create IsCreate

pub record IsSummed (summed : Summed) : Type 0 where
  pub number : IsNumber summed.number
  pub cas : IsNumber summed.cas
  pub left : IsSigned summed.left

pub record IsTally (tally : Tally) : Type 0 where
  pub items : IsNumber tally.items
  pub load : IsNumber tally.load
  pub last_cas : IsNumber tally.last_cas
  pub now : IsNumber tally.now
  pub free_pages : IsNumber tally.free_pages

abbrev pub IsStored : Stored → Type 0
IsStored (stores.Stored cas) = IsNumber cas
IsStored _ = Unit {0}

abbrev pub IsSum : Sum → Type 0
IsSum (sums.Now summed) = IsSummed summed
IsSum (sums.Created summed) = IsSummed summed
IsSum _ = Unit {0}

abbrev pub IsDone : Done → Type 0
IsDone (deeds.Store put answer) = IsPut put × IsStored answer
IsDone (deeds.Delete key compare answer) = IsKey key × IfSome compare IsNumber
IsDone (deeds.Sum ask answer) = IsArith ask × IsSum answer
IsDone (deeds.Touch key exptime answer) = IsKey key × IsSigned exptime
IsDone (deeds.Flush delay) = IsSigned delay
IsDone (deeds.Stats tally) = IsTally tally

abbrev pub IsResidence : Residence → Type 0
IsResidence residences.Nothing = Unit {0}
IsResidence (residences.Here cas) = IsNumber cas
IsResidence (residences.Away cas label) = IsNumber cas × IsLabel label

abbrev pub IsClose : Close → Type 0
IsClose (closes.Hit flags cas value) = IsNarrow flags × IsNumber cas × IsBytes value
IsClose (closes.Lost cause) = Unit {0}

abbrev pub IsEntry : Entry → Type 0
IsEntry (entries.Clock moment) = IsNumber moment
IsEntry (entries.Did id done) = IsId id × IsDone done
IsEntry (entries.Looked id key look residence) =
    IsId id × IsKey key × IfSome look.renew IsSigned × IsResidence residence
IsEntry (entries.FromBuffer id place) = IsId id × IsPlace place
IsEntry (entries.ReadBegan id place reader) = IsId id × IsPlace place × IsNarrow reader
IsEntry (entries.ReadEnded id bytes) = IsId id × IfSome bytes IsBytes
IsEntry (entries.Closed id close) = IsId id × IsClose close
IsEntry (entries.Moved key cas label) = IsKey key × IsNumber cas × IsLabel label
IsEntry (entries.Recached key cas) = IsKey key × IsNumber cas
IsEntry (entries.Dropped key cause) = IsKey key
IsEntry (entries.WriteBegan place) = IsPlace place
IsEntry (entries.WriteEnded place bytes) = IsPlace place × IfSome bytes IsBytes
IsEntry (entries.Opened label) = IsLabel label
IsEntry (entries.Ended label cause) = IsLabel label
IsEntry (entries.Freed label) = IsLabel label
