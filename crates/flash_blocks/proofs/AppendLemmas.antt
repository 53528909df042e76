-- A record that is appended to a bucket's open block, and a page that is opened for a bucket.
use Rattle.std.proofs.Common.{◌≡◌, ℕ, ◌+◌, ◌*◌, ◌<◌, ◌≤◌, ◌++◌, Bool, true, false, cond, List, length, get_or, set, Option, Some, None, IsSome, refl, sym, ap, ◌∙◌, subst, arith, length-append}
use Rattle.std.proofs.lemmas.Bool.{leb-true}
use Rattle.std.proofs.lemmas.Bool.Decides.{nat_tests}
use Rattle.std.proofs.lemmas.List.{get_or-set_same, length-set}
use Rattle.flash_names.specs.declared.place.Label.{Label}
use Rattle.flash_names.specs.Labels.{same_label}
use Rattle.flash_record.specs.Record.{record_bytes}
use Rattle.flash_record.proofs.Offsets.{record_bytes_length}
use Rattle.flash_pages.specs.declared.page_row.PageRow.{PageRow}
use Rattle.flash_pages.specs.declared.page_row.Bucket.{Bucket}
use Rattle.flash_pages.specs.declared.page_row.State.{State}
use Rattle.flash_pages.specs.declared.page_row.State.TheVariants.{Free, Open, Full, Ended}
use Rattle.flash_pages.specs.declared.pages.Opened.{Opened}
use Rattle.flash_pages.specs.declared.pages.Opened.TheVariants.{Page}
use Rattle.flash_pages.specs.PageTable.{PageTable, row_of, IsAt, blank_row}
use Rattle.flash_pages.specs.Opening.{next_opening, with_page_opened as page_opened, open_row, WasFree}
use Rattle.flash_pages.specs.Calls.{table_after as pages_after, adds_live, CanAdd}
use Rattle.flash_pages.specs.States.{is_open, is_in_use}
use Rattle.flash_pages.proofs.LawLemmas.{Above, above, opened_free}
use Rattle.flash_buffers.specs.declared.buffers.BufferId.{BufferId}
use Rattle.flash_buffers.specs.Block.{Block, fits_in, parts_in, block_with_record}
use Rattle.flash_buffers.specs.BufferTable.{BufferTable, block_of, IsOpen}
use Rattle.flash_buffers.proofs.ReadLemmas.{same_self, label_is}
use Rattle.flash_blocks.specs.declared.open_page.OpenPage.{OpenPage}
use Rattle.flash_blocks.specs.BlockTable.{BlockTable, open_page, with_open_page, bytes_used}
use Rattle.flash_blocks.specs.Calls.{length_of}
use Rattle.flash_blocks.specs.Sound.{HasSizes, IsPageBlock, IsOpenBlock, HasOpenBlock, IsOpenPage, IsSound}
use Rattle.flash_blocks.proofs.PageLemmas.{KeepsOpen, set_keeps, opened_keeps, none}
use Rattle.flash_blocks.proofs.SoundLemmas.{KeepsPage, open_block_of, page_stays, page_sound, page_apart, page_over, block_over, other_of, with_page}
use Rattle.flash_blocks.proofs.StepLemmas.{AreSound, page_of_parts, other_block, set_keeps_page, set_blocks}

in_use : (state : State) → is_open state ≡ true → is_in_use state ≡ true
in_use Free is = absurd (cc is)
in_use Open is = refl
in_use Full is = absurd (cc is)
in_use Ended is = absurd (cc is)

-- the pages of other labels are kept where one more record of this page is live
added_keeps : (t : PageTable) (label : Label) (bytes : ℕ) → IsAt is_open t label → KeepsOpen (λ other. same_label other label) t (pages_after (adds_live label bytes) t)
added_keeps t label bytes at =
    set_keeps (λ other. same_label other label) t label.page _ t.last_version (omega arith) (λ other same differ there.
    absurd (
    let row : row_of t label ≡ row_of t other = ap (λ (n : ℕ). get_or t.rows n blank_row) same in
    let version : other.version ≡ label.version = sym there.version ∙ ap (λ (r : PageRow). r.version) (sym row) ∙ at.version in
    grind (arith, nat_tests, same, version, differ)))

-- the block of the page has one record more
abbrev more : Block → List ℕ → Block
more block bytes = record block { records = block.records ++ bytes }

-- what is known where a record is appended to a page's open block
pub record Appends (pages : PageTable) (buffers : BufferTable) (label : Label) (used : ℕ) (id : BufferId) (key : List ℕ) (flags cas : ℕ) (value : List ℕ) : Type 0 where
  pub block : Block
  pub is : block_of buffers id.number ≡ Some block
  pub own : IsOpenBlock buffers.size (page_of_parts label used (Some id)) block
  pub unsealed : IsOpen buffers id.number
  pub fits : length block.records + length_of key value ≤ buffers.size
  pub after : block_of (record buffers { blocks = set buffers.blocks id.number (block_with_record buffers.size key flags cas value (block_of buffers id.number)) }) id.number ≡ Some (more block (record_bytes (parts_in key flags cas value block)))
  pub new : block_with_record buffers.size key flags cas value (block_of buffers id.number) ≡ Some (more block (record_bytes (parts_in key flags cas value block)))

pub appends_of : (pages : PageTable) (buffers : BufferTable) (label : Label) (used : ℕ) (id : BufferId) (key : List ℕ) (flags cas : ℕ) (value : List ℕ) → IsOpenPage pages buffers (page_of_parts label used (Some id)) → ((block : Block) → block_of buffers id.number ≡ Some block → fits_in buffers.size (length_of key value) block ≡ true) → Appends pages buffers label used id key flags cas value
appends_of pages buffers label used id key flags cas value is room =
    let has : HasOpenBlock buffers (page_of_parts label used (Some id)) id = is.block id refl in
    let mine = open_block_of buffers (page_of_parts label used (Some id)) id has in
    let block : Block = mine.0 in
    let fits : fits_in buffers.size (length_of key value) block ≡ true = room block mine.1 in
    let new : block_with_record buffers.size key flags cas value (block_of buffers id.number) ≡ Some (more block (record_bytes (parts_in key flags cas value block))) =
    ap (λ (b : Option Block). block_with_record buffers.size key flags cas value b) mine.1 ∙ ap (λ (yes : Bool). Some (cond yes (more block (record_bytes (parts_in key flags cas value block))) block)) fits in
    record {
      block = block;
      is = mine.1;
      own = mine.2;
      unsealed = has.unsealed;
      fits = leb-true _ _ fits;
      after = get_or-set_same buffers.blocks id.number _ None has.unsealed.inside ∙ new;
      new = new;
    }

-- the buffers with the record
abbrev pub appended : BufferTable → ℕ → List ℕ → ℕ → ℕ → List ℕ → BufferTable
appended buffers n key flags cas value = record buffers { blocks = set buffers.blocks n (block_with_record buffers.size key flags cas value (block_of buffers n)) }

longer : (block : Block) (key : List ℕ) (flags cas : ℕ) (value : List ℕ) → length (block.records ++ record_bytes (parts_in key flags cas value block)) ≡ length block.records + length_of key value
longer block key flags cas value = omega (arith, length-append block.records (record_bytes (parts_in key flags cas value block)), record_bytes_length (parts_in key flags cas value block))

appended_own : (pages : PageTable) (buffers : BufferTable) (label : Label) (used : ℕ) (id : BufferId) (key : List ℕ) (flags cas : ℕ) (value : List ℕ) → Appends pages buffers label used id key flags cas value → IsOpenPage pages buffers (page_of_parts label used (Some id)) → IsOpenPage (pages_after (adds_live label (length_of key value)) pages) (appended buffers id.number key flags cas value) (page_of_parts label used (Some id))
appended_own pages buffers label used id key flags cas value has is =
    let n : ℕ = length_of key value in
    let row : PageRow = row_of pages label in
    let new : PageRow = record row { live = row.live + 1; live_bytes = row.live_bytes + n } in
    let there : get_or (set pages.rows label.page new) label.page blank_row ≡ new = get_or-set_same pages.rows label.page new blank_row is.at.inside in
    let block : Block = has.block in
    let put : bytes_used (block_of buffers id.number) ≡ length block.records = ap (λ (b : Option Block). bytes_used b) has.is in
    let put_after : bytes_used (block_of (appended buffers id.number key flags cas value) id.number) ≡ length block.records + n = ap (λ (b : Option Block). bytes_used b) has.after ∙ longer block key flags cas value in
    record {
      at = record {
        inside = omega (arith, is.at.inside, length-set pages.rows label.page new);
        version = ap (λ (r : PageRow). r.version) there ∙ is.at.version;
        state = subst (λ (r : PageRow). is_open r.state ≡ true) (sym there) is.at.state;
      };
      given = is.given;
      within = is.within;
      block = λ other at. (let same : id ≡ other = cc in subst (HasOpenBlock (appended buffers id.number key flags cas value) (page_of_parts label used (Some id))) same (record {
        unsealed = record {
          inside = omega (arith, has.unsealed.inside, length-set buffers.blocks id.number (block_with_record buffers.size key flags cas value (block_of buffers id.number)));
          taken = subst (λ (b : Option Block). IsSome b) (sym has.after) refl;
          unsealed = has.unsealed.unsealed;
        };
        block = λ one is_one. (let same_block : more block (record_bytes (parts_in key flags cas value block)) ≡ one = (let after = has.after in cc) in
            subst (λ (b : Block). IsOpenBlock buffers.size (page_of_parts label used (Some id)) b) same_block (record { label = has.own.label; offset = has.own.offset }));
      }));
      behind = λ number other one is_one own. is.behind number other one (sym (other_block buffers id.number number _ other) ∙ is_one) own;
      live = omega (arith, is.live, put, put_after, ap (λ (r : PageRow). r.live) there);
      live_bytes = omega (arith, is.live_bytes, put, put_after, ap (λ (r : PageRow). r.live_bytes) there);
    }

-- the live records of an open page can be counted
pub can_add : (pages : PageTable) (buffers : BufferTable) (label : Label) (used : ℕ) (id : BufferId) (key : List ℕ) (flags cas : ℕ) (value : List ℕ) → HasSizes pages.page_size buffers.size → used * buffers.size + buffers.size ≤ pages.page_size → Appends pages buffers label used id key flags cas value → IsOpenPage pages buffers (page_of_parts label used (Some id)) → CanAdd pages label (length_of key value)
can_add pages buffers label used id key flags cas value sizes within has is =
    let put : bytes_used (block_of buffers id.number) ≡ length has.block.records = ap (λ (b : Option Block). bytes_used b) has.is in
    record {
      at = record { inside = is.at.inside; version = is.at.version; state = in_use (row_of pages label).state is.at.state };
      room = omega (arith, is.live, put, has.fits, within, sizes.short);
      within = omega (arith, is.live_bytes, put, has.fits, within);
    }

appended_others : (pages : PageTable) (buffers : BufferTable) (label other : Label) (used : ℕ) (id : BufferId) (key : List ℕ) (flags cas : ℕ) (value : List ℕ) → Appends pages buffers label used id key flags cas value → same_label other label ≡ false → KeepsPage buffers (appended buffers id.number key flags cas value) other
appended_others pages buffers label other used id key flags cas value has differ =
    let not_mine : (block : Block) → block.label ≡ label → block.label ≡ other → ⊥ = λ block mine own. (
    let one : label ≡ other = sym mine ∙ own in
    let yes : same_label other label ≡ true = subst (λ (l : Label). same_label other l ≡ true) (sym one) (same_self other) in cc) in
    set_keeps_page buffers id.number (block_with_record buffers.size key flags cas value (block_of buffers id.number)) other
    (λ block is own. (let same : more has.block (record_bytes (parts_in key flags cas value has.block)) ≡ block = (let new = has.new in cc) in
    not_mine block (ap (λ (b : Block). b.label) (sym same) ∙ has.own.label) own))
    (λ block is own. (let same : has.block ≡ block = (let was = has.is in cc) in not_mine block (ap (λ (b : Block). b.label) (sym same) ∙ has.own.label) own))

appended_blocks : (pages : PageTable) (buffers : BufferTable) (label : Label) (used : ℕ) (id : BufferId) (key : List ℕ) (flags cas : ℕ) (value : List ℕ) → Appends pages buffers label used id key flags cas value → AreSound pages buffers → AreSound pages (appended buffers id.number key flags cas value)
appended_blocks pages buffers label used id key flags cas value has blocks =
    let old : IsPageBlock pages buffers.size has.block = blocks id.number has.block has.is in
    set_blocks pages buffers id.number (block_with_record buffers.size key flags cas value (block_of buffers id.number)) (λ block there. (
    let same : more has.block (record_bytes (parts_in key flags cas value has.block)) ≡ block = (let new = has.new in cc) in
    subst (IsPageBlock pages buffers.size) same (record {
      at = old.at;
      given = old.given;
      aligned = old.aligned;
      within = old.within;
      full = omega (arith, has.fits, longer has.block key flags cas value);
    }))) blocks

-- the pages of other labels and that of the record's are Open still
added_open : (t : PageTable) (label : Label) (bytes : ℕ) (other : Label) → IsAt is_open t label → IsAt is_open t other → IsAt is_open (pages_after (adds_live label bytes) t) other
added_open t label bytes other at there = either (same_label other label) refl where
  either : (same : Bool) → same_label other label ≡ same → IsAt is_open (pages_after (adds_live label bytes) t) other
  either true is = (
      let one : other ≡ label = label_is other label is in
      let row : PageRow = row_of t label in
      let new : PageRow = record row { live = row.live + 1; live_bytes = row.live_bytes + bytes } in
      let put : get_or (set t.rows label.page new) label.page blank_row ≡ new = get_or-set_same t.rows label.page new blank_row at.inside in
      subst (IsAt is_open (pages_after (adds_live label bytes) t)) (sym one) (record {
        inside = omega (arith, at.inside, length-set t.rows label.page new);
        version = ap (λ (r : PageRow). r.version) put ∙ at.version;
        state = subst (λ (r : PageRow). is_open r.state ≡ true) (sym put) at.state;
      }))
  either false differ = ((added_keeps t label bytes at).kept other differ there).at

-- the record is in the bucket's open block, and counted
pub appended_sound : (t : BlockTable) (bucket : Bucket) (label : Label) (used : ℕ) (id : BufferId) (key : List ℕ) (flags cas : ℕ) (value : List ℕ) → IsSound t → open_page t bucket ≡ Some (page_of_parts label used (Some id)) → Appends t.pages t.buffers label used id key flags cas value
    → IsSound (record (with_open_page t bucket (Some (page_of_parts label used (Some id)))) { pages = pages_after (adds_live label (length_of key value)) t.pages; buffers = appended t.buffers id.number key flags cas value })
appended_sound t bucket label used id key flags cas value sound is has =
    let page : OpenPage = page_of_parts label used (Some id) in
    let own : IsOpenPage t.pages t.buffers page = page_sound t bucket sound page is in
    let pages : PageTable = pages_after (adds_live label (length_of key value)) t.pages in
    let keeps : KeepsOpen (λ other. same_label other label) t.pages pages = added_keeps t.pages label (length_of key value) own.at in
    with_page t bucket pages (appended t.buffers id.number key flags cas value) page
    sound.sizes
    (appended_own t.pages t.buffers label used id key flags cas value has own)
    (λ other there. (
    let differ : same_label other.label label ≡ false = page_apart t bucket page other sound is there in
    let stays : IsOpenPage t.pages (appended t.buffers id.number key flags cas value) other = page_stays t.pages t.buffers (appended t.buffers id.number key flags cas value) other (appended_others t.pages t.buffers label other.label used id key flags cas value has differ) (page_sound t (other_of bucket) sound other there) in
    (page_over (λ l. same_label l label) t.pages pages (appended t.buffers id.number key flags cas value) other keeps differ stays, differ)))
    (λ number block there. (
    let good : IsPageBlock t.pages t.buffers.size block = appended_blocks t.pages t.buffers label used id key flags cas value has sound.blocks number block there in
    record {
      at = added_open t.pages label (length_of key value) block.label own.at good.at;
      given = good.given;
      aligned = good.aligned;
      within = good.within;
      full = good.full;
    }))

-- labels of different versions differ
new_label : (one other : Label) (last : ℕ) → one.version ≤ last → last < other.version → same_label one other ≡ false
new_label one other last low high = grind (arith, nat_tests, low, high)

opened_high : (t : PageTable) (bucket : Bucket) (label : Label) → next_opening t bucket ≡ Page label → t.last_version < label.version
unfolding Above
opened_high t bucket label is = subst (Above t.last_version) is (above t bucket)

opened_own : (t : PageTable) (buffers : BufferTable) (bucket : Bucket) (label : Label) → label.page < length t.rows → t.last_version < label.version → AreSound t buffers → IsOpenPage (page_opened t bucket (Page label)) buffers (page_of_parts label 0 None)
opened_own t buffers bucket label inside high blocks =
    let new : PageRow = open_row bucket label.version in
    let put : get_or (set t.rows label.page new) label.page blank_row ≡ new = get_or-set_same t.rows label.page new blank_row inside in
    record {
      at = record {
        inside = omega (arith, inside, length-set t.rows label.page new);
        version = ap (λ (r : PageRow). r.version) put;
        state = subst (λ (r : PageRow). is_open r.state ≡ true) (sym put) refl;
      };
      given = omega arith;
      within = omega arith;
      block = λ id at. absurd (cc at);
      behind = λ number other block there own. absurd (
          let low : block.label.version ≤ t.last_version = (blocks number block there).given in
          omega (arith, low, high, ap (λ (l : Label). l.version) own));
      live = omega (arith, ap (λ (r : PageRow). r.live) put);
      live_bytes = omega (arith, ap (λ (r : PageRow). r.live_bytes) put);
    }

-- a page is opened for the bucket
pub opened_sound : (t : BlockTable) (bucket : Bucket) (label : Label) → IsSound t → next_opening t.pages bucket ≡ Page label → IsSound (record (with_open_page t bucket (Some (page_of_parts label 0 None))) { pages = page_opened t.pages bucket (Page label); buffers = t.buffers })
opened_sound t bucket label sound is =
    let inside : label.page < length t.pages.rows = (subst (WasFree t.pages) is (opened_free t.pages bucket)).0 in
    let high : t.pages.last_version < label.version = opened_high t.pages bucket label is in
    let new : PageTable = page_opened t.pages bucket (Page label) in
    let keeps : KeepsOpen none t.pages new = subst (λ (o : Opened). KeepsOpen none t.pages (page_opened t.pages bucket o)) is (opened_keeps t.pages bucket) in
    with_page t bucket new t.buffers (page_of_parts label 0 None)
    sound.sizes
    (opened_own t.pages t.buffers bucket label inside high sound.blocks)
    (λ other there. (
    let was : IsOpenPage t.pages t.buffers other = page_sound t (other_of bucket) sound other there in
    (page_over none t.pages new t.buffers other keeps refl was, new_label other.label label t.pages.last_version was.given high)))
    (λ number block there. block_over none t.pages new t.buffers.size block keeps refl (sound.blocks number block there))
