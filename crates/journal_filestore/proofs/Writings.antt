-- WRITE, as its transaction makes it.
use Rattle.std.proofs.Common.{ℕ, ◌≡◌, ◌≢◌, ◌<◌, ◌≤◌, ◌+◌, ◌-◌, ◌*◌, ◌/◌, min, max, Bool, true, false, ◌&&◌, nat_lt, List, [], ◌∷◌, ◌++◌, length, take, drop, replicate, slice_range, Ok, Err, refl, sym, ap, subst, ◌∙◌, arith}
use Rattle.std.proofs.lemmas.Bool.{eq-eqb, ne_eqb, lt-ltb, le-ltb, cond-true, cond-false, not_from_true, not_from_false}
use Rattle.std.proofs.lemmas.List.{drop_all, append-nil, length-append, length-replicate, length-take-le, length-drop}
use Rattle.journal_world.specs.declared.layout.TheConstants.{BLOCK_BYTES}
use Rattle.journal_world.specs.declared.moment.TheConstants.{MAX_NANOS}
use Rattle.journal_world.specs.Addresses.{Shape}
use Rattle.journal_world.specs.Maps.{Map}
use Rattle.journal_twophase.specs.Transactions.{TxnState}
use Rattle.journal_tail.specs.declared.limits.TheConstants.{MAX_UPDATES}
use Rattle.journal_inode.specs.declared.version.FormatVersion.{FormatVersion}
use Rattle.journal_inode.specs.declared.node.Time.{Time}
use Rattle.journal_inode.specs.declared.node.FileNode.{FileNode}
use Rattle.journal_inode.specs.declared.node.Node.TheVariants.{File}
use Rattle.journal_inode.specs.declared.node.TheConstants.{MORE_BLOCKS}
use Rattle.journal_inode.specs.Nodes.{Fits}
use Rattle.journal_inode.specs.Versions.{most_bytes, extra_count}
use Rattle.journal_inode.specs.Sound.{file_blocks, held, content, IsSoundFile, HasSoundFiles}
use Rattle.journal_inode.proofs.Blocks.{more_fits, length-blocks}
use Rattle.journal_file_types.specs.declared.reply.Attributes.{Attributes}
use Rattle.journal_file_types.specs.declared.status.Status.TheVariants.{Invalid, TooBig, NoSpace}
use Rattle.journal_filestore.specs.Files.{FileData, Files, files_of}
use Rattle.journal_filestore.specs.Operations.{attributes, attributes_of_node, changed, placed, with_data, lacks_blocks, write_case}
use Rattle.journal_filestore.specs.Operations.FileTarget.{file}
use Rattle.journal_filestore.specs.Handles.{data_of}
use Rattle.journal_filestore.specs.Doing.{LearnsThat, WritesEach, AreClear, AreFresh, file_written, Makes}
use Rattle.journal_filestore.specs.Changes.{FileBecomes, HasChanged}
use Rattle.journal_filestore.proofs.Doings.{Tells-nothing, Makes-after}
use Rattle.journal_filestore.proofs.Placing.{length-placed}
use Rattle.journal_filestore.proofs.Lasting.{Becomes, Makes-each, length-file_written}
use Rattle.journal_filestore.proofs.Numbering.{last_fits}
use Rattle.journal_filestore.proofs.Writing.{written, length-piece, length-middle, Puts-written}
use Rattle.journal_filestore.proofs.Answering.{attributes-data}

-- blocks are needed that are not handed out
pub lacks : (version : FormatVersion) (old new : ℕ) → extra_count version old < extra_count version new → lacks_blocks version false old new ≡ true
lacks version old new more = ap (λ t. t && true) (lt-ltb (extra_count version old) (extra_count version new) more)

-- with room none are lacked
pub has_room : (version : FormatVersion) (old new : ℕ) → lacks_blocks version true old new ≡ false
has_room version old new = by_test (nat_lt (extra_count version old) (extra_count version new))
  where
    by_test : (t : Bool) → (t && false) ≡ false
    by_test true = refl
    by_test false = refl

-- the cases of WRITE at a file
module _ (version : FormatVersion) (room : Bool) (offset count : ℕ) (bs : List ℕ) (now : Time) where
  pub write-invalid : (F : Files) (i : ℕ) (d : FileData) → count ≢ length bs → write_case version room offset count bs now F (file i d) ≡ (Err Invalid, F)
  write-invalid F i d ne = cond-true _ _ _ (not_from_false _ (ne_eqb count (length bs) ne))

  pub write-nothing : (m : Map) (i : ℕ) (f : FileNode) (before : Attributes) → IsSoundFile version m f
      → before ≡ attributes_of_node i f → count ≡ length bs → count ≡ 0
      → write_case version room offset count bs now (files_of version m) (file i (data_of version m f)) ≡ (Ok (record { before = before; after = before }), files_of version m)
  write-nothing m i f before sound was same none =
      cond-false _ _ _ (not_from_true _ (eq-eqb count (length bs) same))
      ∙ cond-true _ _ _ (eq-eqb count 0 none)
      ∙ ap (λ x. (Ok (record { before = x; after = x }), files_of version m)) (attributes-data m i f sound ∙ sym was)

  pub write-too_big : (F : Files) (i : ℕ) (d : FileData) → count ≡ length bs → count ≢ 0 → most_bytes version < offset + count
      → write_case version room offset count bs now F (file i d) ≡ (Err TooBig, F)
  write-too_big F i d same some past =
      cond-false _ _ _ (not_from_true _ (eq-eqb count (length bs) same))
      ∙ cond-false _ _ _ (ne_eqb count 0 some)
      ∙ cond-true _ _ _ (lt-ltb (most_bytes version) (offset + count) past)

-- it needs more blocks than are handed out
pub write-no_space : (version : FormatVersion) (offset count : ℕ) (bs : List ℕ) (now : Time) (F : Files) (i : ℕ) (d : FileData) → count ≡ length bs → count ≢ 0 → offset + count ≤ most_bytes version
    → extra_count version (length d.bytes) < extra_count version (max (length d.bytes) (offset + count)) → write_case version false offset count bs now F (file i d) ≡ (Err NoSpace, F)
write-no_space version offset count bs now F i d same some fits more =
    cond-false _ _ _ (not_from_true _ (eq-eqb count (length bs) same))
    ∙ cond-false _ _ _ (ne_eqb count 0 some)
    ∙ cond-false _ _ _ (le-ltb (most_bytes version) (offset + count) fits)
    ∙ cond-true _ _ _ (lacks version (length d.bytes) (max (length d.bytes) (offset + count)) more)

pub write-done : (version : FormatVersion) (offset count : ℕ) (bs : List ℕ) (now : Time) (F : Files) (i : ℕ) (d : FileData) → count ≡ length bs → count ≢ 0 → offset + count ≤ most_bytes version
    → write_case version true offset count bs now F (file i d) ≡ changed F i d (record { bytes = placed d.bytes offset bs; mtime = now })
write-done version offset count bs now F i d same some fits =
    cond-false _ _ _ (not_from_true _ (eq-eqb count (length bs) same))
    ∙ cond-false _ _ _ (ne_eqb count 0 some)
    ∙ cond-false _ _ _ (le-ltb (most_bytes version) (offset + count) fits)
    ∙ cond-false _ _ _ (has_room version (length d.bytes) (max (length d.bytes) (offset + count)))

-- the file as it is then
abbrev pub placed_data : FormatVersion → Map → FileNode → ℕ → List ℕ → Time → FileData
placed_data version m f offset bs now = record { bytes = placed (content version m f) offset bs; mtime = now }

-- blocks that the data fill are the data
pub with_data-whole : (old bs : List ℕ) (offset : ℕ) → offset ≡ 0 → length bs ≡ length old → bs ≡ with_data old offset bs
with_data-whole old bs offset first fills =
    sym (ap (λ rest. bs ++ rest) (drop_all (0 + length bs) old (omega (arith, fills))) ∙ append-nil bs)
    ∙ ap (λ o. with_data old o bs) (sym first)

module _ (version : FormatVersion) (layout : Shape) (i offset : ℕ) (bs : List ℕ) (now : Time) (f g : FileNode) (fresh bytes : List ℕ) (first after : ℕ) (t0 t1 t2 : TxnState) (P : Map → Type 0) where
  abbrev pub numbers : List ℕ
  numbers = g.block ∷ g.more

  -- what is made of the file
  pub Makes-write : t0.writes ≡ [] → LearnsThat version layout t0 t1 P → WritesEach layout t1 t2 (file_written i g fresh (slice_range numbers first after) bytes)
      → g ≡ written version f fresh offset bs now → Fits (File g) → length f.more ≡ MORE_BLOCKS → f.size ≤ most_bytes version → 0 < length bs → offset + length bs ≤ most_bytes version → now.nanos ≤ MAX_NANOS
      → AreFresh (extra_count version g.size - extra_count version f.size) fresh
      → first ≡ min (extra_count version f.size + 1) (offset / BLOCK_BYTES) → after ≡ (offset + length bs - 1) / BLOCK_BYTES + 1
      → length (slice_range numbers first after) ≡ after - first → length bytes ≡ BLOCK_BYTES * length (slice_range numbers first after)
      → ((m : Map) → P m → length (held m (slice_range numbers first (min (1 + extra_count version f.size) after))) ≡ BLOCK_BYTES * length (slice_range numbers first (min (1 + extra_count version f.size) after))
      → bytes ≡ with_data (held m (slice_range numbers first (min (1 + extra_count version f.size) after))
      ++ replicate (BLOCK_BYTES * length (slice_range numbers first after) - BLOCK_BYTES * length (slice_range numbers first (min (1 + extra_count version f.size) after))) 0) (offset - BLOCK_BYTES * first) bs)
      → Makes version layout t0 t2 (λ m n. AreClear m fresh → FileBecomes version m n i f (placed (content version m f) offset bs) now)
  Makes-write none told wrote is fits many small some ends timed new_ones first_is after_is span whole placing =
      Makes-each layout t0 t1 t2 P _ (file_written i g fresh (slice_range numbers first after) bytes) none told wrote
      few shows
    where
      node : FileNode
      node = written version f fresh offset bs now

      few : length (file_written i g fresh (slice_range numbers first after) bytes) ≤ MAX_UPDATES
      few =
          let grown : extra_count version g.size ≤ MORE_BLOCKS = more_fits version g.size (subst (λ k. k ≤ most_bytes version) (sym (ap (λ x. x.size) is)) (omega (arith, small, ends))) in
          let last : (offset + length bs - 1) / BLOCK_BYTES ≤ extra_count version (max f.size (offset + length bs)) = last_fits version f.size (offset + length bs) (omega (arith, some)) ends in
          let same : extra_count version g.size ≡ extra_count version (max f.size (offset + length bs)) = ap (λ x. extra_count version x.size) is in
          omega (arith, length-file_written i g fresh (slice_range numbers first after) bytes, new_ones.count, span, after_is, grown, last, same)

      had_count : length (file_blocks version f) ≡ 1 + extra_count version f.size
      had_count = length-blocks version f many small

      fits_node : Fits (File node)
      fits_node = subst (λ x. Fits (File x)) is fits

      new_node : AreFresh (extra_count version node.size - extra_count version f.size) fresh
      new_node = subst (λ x. AreFresh (extra_count version x.size - extra_count version f.size) fresh) is new_ones

      part : FileNode → ℕ → List ℕ
      part x had = slice_range (x.block ∷ x.more) first (min had after)

      shows : (m n : Map) → HasSoundFiles version m → P m → Becomes m n (file_written i g fresh (slice_range numbers first after) bytes)
          → AreClear m fresh → FileBecomes version m n i f (placed (content version m f) offset bs) now
      shows m n sound p becomes clear number here =
          Puts-written version m n i f fresh bs bytes offset first after now number sound here many fits_node some ends timed new_node clear first_is after_is
          (subst (λ x. length bytes ≡ BLOCK_BYTES * length (slice_range (x.block ∷ x.more) first after)) is whole)
          (subst (are node) (sym had_count) (subst (λ x. are x (1 + extra_count version f.size)) is (placing m p length_part)))
          (subst (λ x. Becomes m n (file_written i x fresh (slice_range (x.block ∷ x.more) first after) bytes)) is becomes)
        where
          are : FileNode → ℕ → Type 0
          are x had = bytes ≡ with_data (held m (part x had) ++ replicate (BLOCK_BYTES * length (slice_range (x.block ∷ x.more) first after) - BLOCK_BYTES * length (part x had)) 0) (offset - BLOCK_BYTES * first) bs

          length_part : length (held m (part g (1 + extra_count version f.size))) ≡ BLOCK_BYTES * length (part g (1 + extra_count version f.size))
          length_part =
              subst (λ x. length (held m (part x (1 + extra_count version f.size))) ≡ BLOCK_BYTES * length (part x (1 + extra_count version f.size))) (sym is)
              (subst (λ had. length (held m (part node had)) ≡ BLOCK_BYTES * length (part node had)) had_count
              (length-middle version m n i f fresh bs bytes offset first after now number sound here many fits_node some ends timed new_node clear first_is after_is))

length-with_data : (old bs : List ℕ) (offset : ℕ) → offset + length bs ≤ length old → length (with_data old offset bs) ≡ length old
length-with_data old bs offset fits =
    let all : length (with_data old offset bs) ≡ length (take offset old ++ bs) + length (drop (offset + length bs) old) = length-append (take offset old ++ bs) (drop (offset + length bs) old) in
    let front : length (take offset old ++ bs) ≡ length (take offset old) + length bs = length-append (take offset old) bs in
    let first : length (take offset old) ≡ offset = length-take-le offset old (omega (arith, fits)) in
    let rest : length (drop (offset + length bs) old) ≡ length old - (offset + length bs) = length-drop (offset + length bs) old in
    omega (arith, all, front, first, rest, fits)

module _ (version : FormatVersion) (layout : Shape) (i offset : ℕ) (bs : List ℕ) (now : Time) (f g : FileNode) (fresh : List ℕ) (first after : ℕ) (t0 t1 t2 : TxnState) (none : t0.writes ≡ []) (is : g ≡ written version f fresh offset bs now) (fits : Fits (File g))
    (many : length f.more ≡ MORE_BLOCKS) (small : f.size ≤ most_bytes version) (some : 0 < length bs) (ends : offset + length bs ≤ most_bytes version) (timed : now.nanos ≤ MAX_NANOS)
    (new_ones : AreFresh (extra_count version g.size - extra_count version f.size) fresh) (first_is : first ≡ min (extra_count version f.size + 1) (offset / BLOCK_BYTES)) (after_is : after ≡ (offset + length bs - 1) / BLOCK_BYTES + 1) where
  after_low : after ≤ 1 + MORE_BLOCKS
  after_low =
      let last : (offset + length bs - 1) / BLOCK_BYTES ≤ extra_count version (max f.size (offset + length bs)) = last_fits version f.size (offset + length bs) (omega (arith, some)) ends in
      let enough : extra_count version (max f.size (offset + length bs)) ≤ MORE_BLOCKS = more_fits version (max f.size (offset + length bs)) (omega (arith, small, ends)) in
      omega (arith, last, enough, after_is)

  piece_length : (to : ℕ) → to ≤ after → length (slice_range (g.block ∷ g.more) first to) ≡ to - first
  piece_length to low = length-piece (g.block ∷ g.more) first to (let whole : length g.more ≡ MORE_BLOCKS = fits.4 in omega (arith, low, after_low, whole))

  span : length (slice_range (g.block ∷ g.more) first after) ≡ after - first
  span = piece_length after (omega arith)

  part_length : length (slice_range (g.block ∷ g.more) first (min (1 + extra_count version f.size) after)) ≡ min (1 + extra_count version f.size) after - first
  part_length = piece_length (min (1 + extra_count version f.size) after) (omega arith)

  -- the bytes fill all blocks that change
  pub Makes-write_whole : WritesEach layout t0 t2 (file_written i g fresh (slice_range (g.block ∷ g.more) first after) bs) → length bs ≡ BLOCK_BYTES * length (slice_range (g.block ∷ g.more) first after)
      → Makes version layout t0 t2 (λ m n. AreClear m fresh → FileBecomes version m n i f (placed (content version m f) offset bs) now)
  Makes-write_whole wrote fills =
      Makes-write version layout i offset bs now f g fresh bs first after t0 t0 t2 _ none (Tells-nothing layout t0) wrote is fits many small some ends timed new_ones first_is after_is span fills
      (λ m nothing part_whole.
      with_data-whole _ bs (offset - BLOCK_BYTES * first) (omega (arith, fills, span, first_is, after_is, some))
      (fills ∙ sym (length-append (held m middle) (replicate {A = ℕ} zeros 0) ∙ ap (λ k. length (held m middle) + k) (length-replicate {A = ℕ} zeros 0) ∙ (omega (arith, part_whole, part_length, span)))))
    where
      middle : List ℕ
      middle = slice_range (g.block ∷ g.more) first (min (1 + extra_count version f.size) after)

      zeros : ℕ
      zeros = BLOCK_BYTES * length (slice_range (g.block ∷ g.more) first after) - BLOCK_BYTES * length middle

  -- what they do not fill was read
  pub Makes-write_read : (middle buffer bytes : List ℕ) → middle ≡ slice_range (g.block ∷ g.more) first (min (1 + extra_count version f.size) after)
      → LearnsThat version layout t0 t1 (λ m. buffer ≡ held m middle ++ replicate (BLOCK_BYTES * length (slice_range (g.block ∷ g.more) first after) - BLOCK_BYTES * length middle) 0)
      → length buffer ≡ BLOCK_BYTES * length (slice_range (g.block ∷ g.more) first after) → bytes ≡ with_data buffer (offset - BLOCK_BYTES * first) bs
      → WritesEach layout t1 t2 (file_written i g fresh (slice_range (g.block ∷ g.more) first after) bytes)
      → Makes version layout t0 t2 (λ m n. AreClear m fresh → FileBecomes version m n i f (placed (content version m f) offset bs) now)
  Makes-write_read middle buffer bytes middle_is told whole are wrote =
      Makes-write version layout i offset bs now f g fresh bytes first after t0 t1 t2 _ none told wrote is fits many small some ends timed new_ones first_is after_is span
      (ap length are ∙ length-with_data buffer bs (offset - BLOCK_BYTES * first) (omega (arith, whole, span, first_is, after_is, some)) ∙ whole)
      (λ m read part_whole.
      are ∙ ap (λ b. with_data b (offset - BLOCK_BYTES * first) bs)
      (read ∙ ap (λ xs. held m xs ++ replicate (BLOCK_BYTES * length (slice_range (g.block ∷ g.more) first after) - BLOCK_BYTES * length xs) 0) middle_is))

-- the file's attributes then
pub attributes-written : (version : FormatVersion) (m : Map) (i offset : ℕ) (bs : List ℕ) (now : Time) (f g : FileNode) (after : Attributes) → IsSoundFile version m f
    → attributes_of_node i g ≡ record { number = i; size = max f.size (offset + length bs); mtime = now } → after ≡ attributes_of_node i g → after ≡ attributes i (placed_data version m f offset bs now)
attributes-written version m i offset bs now f g after sound is told =
    told ∙ is
    ∙ ap (λ x. record { number = i; size = max x (offset + length bs); mtime = now }) (sym sound.whole)
    ∙ ap (λ x. record { number = i; size = x; mtime = now }) (sym (length-placed (content version m f) offset bs))

-- the file has changed, whose new blocks were found free before
pub HasChanged-written : (version : FormatVersion) (layout : Shape) (i offset : ℕ) (bs : List ℕ) (now : Time) (f g : FileNode) (fresh : List ℕ) (took : Bool) (t0 t1 t2 : TxnState) → took ≡ true
    → LearnsThat version layout t0 t1 (λ m. took ≡ true → AreClear m fresh)
    → Makes version layout t1 t2 (λ m n. AreClear m fresh → FileBecomes version m n i f (placed (content version m f) offset bs) now)
    → g ≡ written version f fresh offset bs now
    → HasChanged version layout t0 t2 i f (max f.size (offset + length bs)) now (λ m. placed (content version m f) offset bs) g
HasChanged-written version layout i offset bs now f g fresh took t0 t1 t2 is_taken told made is = record {
  attributes = ap (attributes_of_node i) is;
  generation = ap (λ x. x.generation) is;
  makes = Makes-after layout t0 t1 t2 _ _ _ told made (λ m n clear becomes. becomes (clear is_taken));
}
