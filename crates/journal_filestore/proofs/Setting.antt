-- What is asked for of a file is set.
use Rattle.std.proofs.Common.{ℕ, suc, ◌≡◌, ◌<◌, ◌≤◌, ◌+◌, ◌-◌, ◌*◌, ◌⊎◌, inl, inr, Bool, true, false, List, [], ◌∷◌, ◌++◌, length, take, replicate, slice_range, get_or, Option, Some, None, refl, sym, ap, subst, ◌∙◌, arith, rules, add-one, length-append}
use Rattle.std.specs.Prelude.{unwrap_or}
use Rattle.std.proofs.Math.Seq.{take-suc}
use Rattle.std.proofs.lemmas.Bool.{ltb-false}
use Rattle.std.proofs.lemmas.List.{same_lists, places, append-nil, length-take-le, length-replicate}
use Rattle.journal_world.specs.declared.layout.TheConstants.{BLOCK_BYTES}
use Rattle.journal_world.specs.declared.moment.TheConstants.{MAX_NANOS}
use Rattle.journal_world.specs.Addresses.{Shape}
use Rattle.journal_world.specs.Maps.{Map}
use Rattle.journal_twophase.specs.Transactions.{TxnState}
use Rattle.journal_tail.specs.declared.limits.TheConstants.{MAX_UPDATES}
use Rattle.journal_inode.specs.declared.version.FormatVersion.{FormatVersion}
use Rattle.journal_inode.specs.declared.node.Time.{Time}
use Rattle.journal_inode.specs.declared.node.FileNode.{FileNode}
use Rattle.journal_inode.specs.declared.node.Node.TheVariants.{File}
use Rattle.journal_inode.specs.declared.node.TheConstants.{MORE_BLOCKS}
use Rattle.journal_inode.specs.declared.place.TheConstants.{INODES}
use Rattle.journal_inode.specs.Places.{object}
use Rattle.journal_inode.specs.Places.Object.{block}
use Rattle.journal_inode.specs.Nodes.{Fits}
use Rattle.journal_inode.specs.Versions.{most_bytes, extra_count, room_of}
use Rattle.journal_inode.specs.Sound.{node_at, file_blocks, held, content, IsSoundFile, HasSoundFiles}
use Rattle.journal_inode.proofs.Blocks.{more_fits, room_enough, length-blocks, length-held}
use Rattle.journal_file_types.specs.declared.settings.NewTime.{NewTime}
use Rattle.journal_file_types.specs.declared.settings.NewTime.TheVariants.{Leave, Server, Client}
use Rattle.journal_filestore.specs.Files.{is_file_number}
use Rattle.journal_filestore.specs.Operations.{time_after, is_no_time, is_too_big, attributes_of_node}
use Rattle.journal_filestore.specs.Doing.{LearnsThat, WritesEach, AreClear, AreFresh, bits_written, file_written, Puts}
use Rattle.journal_filestore.specs.Changes.{with_blocks, LacksBlocks, HasChanged, ChangesFile}
use Rattle.journal_filestore.proofs.Doings.{Tells-like, Makes-like}
use Rattle.journal_filestore.proofs.FilesReplaced.{IsFileNumber-test}
use Rattle.journal_filestore.proofs.Among.{Among, among_left, among_right, all_among, all_from, distinct_pairs, held_append}
use Rattle.journal_filestore.proofs.Lasting.{Becomes, Makes-each, WritesEach-append, length-bits, length-file_written}
use Rattle.journal_filestore.proofs.Numbering.{more_rises, size_in_block, blocks_more, absent_more, length-kept, stored-zeros}
use Rattle.journal_filestore.proofs.Spreading.{cut_off, more_zeros}
use Rattle.journal_filestore.proofs.Changing.{HadBlocks, HadBlocks-file, Puts-changed}

-- the time that a file has then is a time
pub time_after-timed : (size : Option ℕ) (t : NewTime) (now old : Time) → is_no_time t ≡ false → now.nanos ≤ MAX_NANOS → old.nanos ≤ MAX_NANOS → (time_after size t now old).nanos ≤ MAX_NANOS
time_after-timed size (Client t) now old is in_second was = ltb-false MAX_NANOS t.nanos is
time_after-timed size Server now old is in_second was = in_second
time_after-timed (Some s) Leave now old is in_second was = in_second
time_after-timed None Leave now old is in_second was = was

-- a size that is not too big
pub size_fits : (version : FormatVersion) (size : Option ℕ) (old : ℕ) → is_too_big version size ≡ false → old ≤ most_bytes version → unwrap_or size old ≤ most_bytes version
size_fits version None old is was = was
size_fits version (Some size) old is was = ltb-false (most_bytes version) size is

-- what is said of a file's bytes may be said otherwise
pub HasChanged-like : {version : FormatVersion} (layout : Shape) (old new : TxnState) (i : ℕ) (f : FileNode) (size : ℕ) (mtime : Time) (p q : Map → List ℕ) (g : FileNode)
    → ((m : Map) → IsSoundFile version m f → p m ≡ q m) → HasChanged version layout old new i f size mtime p g → HasChanged version layout old new i f size mtime q g
HasChanged-like {version} layout old new i f size mtime p q g like has = record {
  attributes = has.attributes;
  generation = has.generation;
  makes = Makes-like layout old new _ _
      (λ m n sound becomes number here.
      subst (λ x. Puts version m n i (record { generation = f.generation; file = Some (record { bytes = x; mtime = mtime }) }))
      (like m (sound.files i f (IsFileNumber-test i number).to here)) (becomes number here))
      has.makes;
}

pub ChangesFile-like : {version : FormatVersion} (layout : Shape) (old new : TxnState) (i : ℕ) (f : FileNode) (size : ℕ) (mtime : Time) (p q : Map → List ℕ) (g : Option FileNode)
    → ((m : Map) → IsSoundFile version m f → p m ≡ q m) → ChangesFile version layout old new i f size mtime p g → ChangesFile version layout old new i f size mtime q g
ChangesFile-like layout old new i f size mtime p q None like lacks = lacks
ChangesFile-like layout old new i f size mtime p q (Some g) like has = HasChanged-like layout old new i f size mtime p q g like has

-- what became of it, where it is known whether blocks were handed out
pub lacks_of : (version : FormatVersion) (layout : Shape) (old new : TxnState) (i : ℕ) (f : FileNode) (size : ℕ) (mtime : Time) (bytes : Map → List ℕ) (o : Option FileNode)
    → ChangesFile version layout old new i f size mtime bytes o → o ≡ None → LacksBlocks version layout old new f.size size
lacks_of version layout old new i f size mtime bytes None changes is = changes
lacks_of version layout old new i f size mtime bytes (Some g) changes is = absurd (let e : Some g ≡ None = is in cc)

pub changed_of : (version : FormatVersion) (layout : Shape) (old new : TxnState) (i : ℕ) (f : FileNode) (size : ℕ) (mtime : Time) (bytes : Map → List ℕ) (o : Option FileNode) (g : FileNode)
    → ChangesFile version layout old new i f size mtime bytes o → o ≡ Some g → HasChanged version layout old new i f size mtime bytes g
changed_of version layout old new i f size mtime bytes None g changes is = absurd (let e : None ≡ Some g = is in cc)
changed_of version layout old new i f size mtime bytes (Some h) g changes is =
    subst (HasChanged version layout old new i f size mtime bytes) (let e : Some h ≡ Some g = is in let same : h ≡ g = cc in same) changes

-- blocks are asked for and not handed out
pub lacks_taken : (version : FormatVersion) (layout : Shape) (old new : TxnState) (took : Bool) (from to count : ℕ) (P : Map → Type 0) → took ≡ false → (took ≡ false → 0 < count) → count ≡ extra_count version to - extra_count version from
    → LearnsThat version layout old new P → LacksBlocks version layout old new from to
lacks_taken version layout old new took from to count P none short count_is told = record {
  needed = let some : 0 < count = short none in omega (arith, some, count_is);
  told = Tells-like layout old new P _ (λ m sound p. tt) told;
}

-- A file gets zeros behind its bytes
module _ (version : FormatVersion) (m n : Map) (i : ℕ) (f : FileNode) (fresh bytes : List ℕ) (size : ℕ) (mtime : Time) (number : is_file_number i ≡ true) (sound : HasSoundFiles version m) (is_file : node_at m i ≡ File f)
    (many : length f.more ≡ MORE_BLOCKS) (fits : Fits (File (with_blocks f (extra_count version f.size) fresh size mtime))) (more : f.size ≤ size) (small : size ≤ most_bytes version) (timed : f.mtime.nanos ≤ MAX_NANOS → mtime.nanos ≤ MAX_NANOS)
    (new_ones : AreFresh (extra_count version size - extra_count version f.size) fresh) (clear : AreClear m fresh) (zeros_are : bytes ≡ replicate (BLOCK_BYTES * length fresh) 0) where
  Puts-grown : Becomes m n (file_written i (with_blocks f (extra_count version f.size) fresh size mtime) fresh fresh bytes)
      → Puts version m n i (record { generation = f.generation; file = Some (record { bytes = content version m f ++ replicate (size - f.size) 0; mtime = mtime }) })
  Puts-grown is =
      Puts-changed version m n i node p bl [] fresh bl fresh [] bytes number sound
      (subst (HadBlocks version m i) (sym (append-nil bl)) (HadBlocks-file version m i f low sound is_file)) (distinct_pairs fresh new_ones.distinct) new_ones.bits clear
      (blocks_more version node (take (extra_count version f.size) f.more) fresh refl kept_size) (sym (append-nil (bl ++ fresh))) (λ b has. stays b has)
      (ap length zeros_are ∙ length-replicate {A = ℕ} (BLOCK_BYTES * length fresh) 0) is
      (record {
        born = old.born;
        size = size_is;
        small = subst (λ k. k ≤ most_bytes version) size_is small;
        timed = timed old.timed;
        absent = absent_more version node (take (extra_count version f.size) f.more) fresh refl kept_size;
        fits = fits;
      })
      holds
    where
      node : FileNode
      node = with_blocks f (extra_count version f.size) fresh size mtime

      bl : List ℕ
      bl = file_blocks version f

      p : List ℕ
      p = content version m f ++ replicate (size - f.size) 0

      low : i < INODES
      low = (IsFileNumber-test i number).to

      old : IsSoundFile version m f
      old = sound.files i f low is_file

      more_size : extra_count version f.size + length fresh ≡ extra_count version size
      more_size = let rises : extra_count version f.size ≤ extra_count version size = more_rises version f.size size more in omega (arith, rises, new_ones.count)

      kept_size : length (take (extra_count version f.size) f.more) + length fresh ≡ extra_count version size
      kept_size = ap (λ k. k + length fresh) (length-kept version f f.size many old.small) ∙ more_size

      size_is : size ≡ length p
      size_is =
          let both : length p ≡ length (content version m f) + length (replicate {A = ℕ} (size - f.size) 0) = length-append (content version m f) (replicate (size - f.size) 0) in
          omega (arith, both, old.whole, length-replicate {A = ℕ} (size - f.size) 0, more)

      stays : (b : ℕ) → Among bl b ⊎ Among [] b → Among bl b
      stays b (inl has) = has
      stays b (inr none) = absurd none

      holds : held m bl ++ bytes ++ [] ≡ p ++ replicate (room_of version size - length p) 0
      holds =
          ap (λ v. v ++ bytes ++ []) (stored-zeros version m f old)
          ∙ ap (λ v. (content version m f ++ replicate (room_of version f.size - length (content version m f)) 0) ++ v ++ []) zeros_are
          ∙ more_zeros (content version m f) (room_of version f.size) (BLOCK_BYTES * length fresh) size
          (subst (λ k. k ≤ room_of version f.size) (sym old.whole) (room_enough version f.size old.small)) (subst (λ k. k ≤ size) (sym old.whole) more)
          (let room : size ≤ room_of version size = room_enough version size small in omega (arith, room, more_size))
          ∙ ap (λ k. (content version m f ++ replicate (size - k) 0) ++ replicate (room_of version f.size + BLOCK_BYTES * length fresh - length (content version m f ++ replicate (size - k) 0)) 0) old.whole
          ∙ ap (λ k. p ++ replicate (k - length p) 0) (omega (arith, more_size))

pub Makes-grown : (version : FormatVersion) (layout : Shape) (i : ℕ) (f g : FileNode) (fresh bytes : List ℕ) (size : ℕ) (mtime : Time) (t0 t1 t2 : TxnState) (took : Bool) → t0.writes ≡ [] → took ≡ true
    → LearnsThat version layout t0 t1 (λ m. took ≡ true → AreClear m fresh) → WritesEach layout t1 t2 (file_written i g fresh fresh bytes)
    → g ≡ with_blocks f (extra_count version f.size) fresh size mtime → Fits (File g) → length f.more ≡ MORE_BLOCKS → f.size ≤ size → size ≤ most_bytes version → (f.mtime.nanos ≤ MAX_NANOS → mtime.nanos ≤ MAX_NANOS)
    → AreFresh (extra_count version size - extra_count version f.size) fresh → bytes ≡ replicate (BLOCK_BYTES * length fresh) 0
    → HasChanged version layout t0 t2 i f size mtime (λ m. content version m f ++ replicate (size - f.size) 0) g
Makes-grown version layout i f g fresh bytes size mtime t0 t1 t2 took none is_taken told wrote is fits many more small timed new_ones zeros_are = record {
  attributes = ap (attributes_of_node i) is;
  generation = ap (λ x. x.generation) is;
  makes = Makes-each layout t0 t1 t2 _ _ (file_written i g fresh fresh bytes) none told wrote few
      (λ m n sound clear becomes number here.
      Puts-grown version m n i f fresh bytes size mtime number sound here many (subst (λ x. Fits (File x)) is fits) more small timed new_ones (clear is_taken) zeros_are
      (subst (λ x. Becomes m n (file_written i x fresh fresh bytes)) is becomes));
}
  where
    few : length (file_written i g fresh fresh bytes) ≤ MAX_UPDATES
    few = omega (arith, length-file_written i g fresh fresh bytes, new_ones.count, more_fits version size small)

-- the first numbers, and a piece behind them
front_and_piece : (xs : List ℕ) (a b : ℕ) → a ≤ b → take a xs ++ slice_range xs a b ≡ take b xs
front_and_piece xs a b less = same_lists _ _ (search (rules, places)) (λ i d h. grind (arith, places))

front_of_front : (xs : List ℕ) (a b : ℕ) → a ≤ b → take a (take b xs) ≡ take a xs
front_of_front xs a b less = same_lists _ _ (search (rules, places)) (λ i d h. grind (arith, places))

-- A file is cut off, and gives blocks up
module _ (version : FormatVersion) (m n : Map) (i : ℕ) (f : FileNode) (b : ℕ) (cut v bytes : List ℕ) (size : ℕ) (mtime : Time) (number : is_file_number i ≡ true) (sound : HasSoundFiles version m) (is_file : node_at m i ≡ File f)
    (many : length f.more ≡ MORE_BLOCKS) (fits : Fits (File (with_blocks f (extra_count version size) [] size mtime))) (less : size < f.size) (timed : f.mtime.nanos ≤ MAX_NANOS → mtime.nanos ≤ MAX_NANOS)
    (b_is : get_or (f.block ∷ f.more) (extra_count version size) b ≡ b) (cut_is : cut ≡ slice_range (f.block ∷ f.more) (extra_count version size + 1) (extra_count version f.size + 1))
    (v_is : object m (block b) ≡ v) (bytes_are : bytes ≡ take (size - BLOCK_BYTES * extra_count version size) v ++ replicate (length v - (size - BLOCK_BYTES * extra_count version size)) 0) where
  Puts-shrunk : Becomes m n (bits_written 0 cut ++ file_written i (with_blocks f (extra_count version size) [] size mtime) [] (b ∷ []) bytes)
      → Puts version m n i (record { generation = f.generation; file = Some (record { bytes = take size (content version m f); mtime = mtime }) })
  Puts-shrunk is =
      Puts-changed version m n i node p kept cut [] (take last bl) (b ∷ []) [] bytes number sound
      (subst (HadBlocks version m i) all_are (HadBlocks-file version m i f low sound is_file)) tt tt tt
      blocks_are refl stays whole is
      (record {
        born = old.born;
        size = size_is;
        small = subst (λ k. k ≤ most_bytes version) size_is small;
        timed = timed old.timed;
        absent = absent_more version node (take last f.more) [] refl kept_size;
        fits = fits;
      })
      holds
    where
      node : FileNode
      node = with_blocks f (extra_count version size) [] size mtime

      last : ℕ
      last = extra_count version size

      bl : List ℕ
      bl = file_blocks version f

      numbers : List ℕ
      numbers = f.block ∷ f.more

      p : List ℕ
      p = take size (content version m f)

      kept : List ℕ
      kept = take last bl ++ b ∷ []

      low : i < INODES
      low = (IsFileNumber-test i number).to

      old : IsSoundFile version m f
      old = sound.files i f low is_file

      small : size ≤ most_bytes version
      small = omega (arith, less, old.small)

      rises : last ≤ extra_count version f.size
      rises = more_rises version size f.size (omega (arith, less))

      kept_size : length (take last f.more) + 0 ≡ last
      kept_size = let kept_length : length (take last f.more) ≡ last = length-kept version f size many small in omega (arith, kept_length)

      -- the blocks that stay
      first_are : f.block ∷ take last f.more ≡ kept
      first_are =
          take-suc numbers last b (let enough : last ≤ MORE_BLOCKS = more_fits version size small in omega (arith, many, enough))
          ∙ ap (λ x. take last numbers ++ x ∷ []) b_is
          ∙ ap (λ xs. xs ++ b ∷ []) (sym (front_of_front numbers last (suc (extra_count version f.size)) (omega (arith, rises))))

      all_are : bl ≡ kept ++ cut
      all_are =
          sym (ap (λ k. take k numbers) (add-one (extra_count version f.size)))
          ∙ sym (front_and_piece numbers (last + 1) (extra_count version f.size + 1) (omega (arith, rises)))
          ∙ ap (λ xs. take (last + 1) numbers ++ xs) (sym cut_is)
          ∙ ap (λ k. take k numbers ++ cut) (add-one last)
          ∙ ap (λ xs. xs ++ cut) first_are

      blocks_are : file_blocks version node ≡ kept ++ []
      blocks_are =
          blocks_more version node (take last f.more) [] refl kept_size
          ∙ ap (λ xs. f.block ∷ xs) (append-nil (take last f.more))
          ∙ first_are
          ∙ sym (append-nil kept)

      stays : (c : ℕ) → Among (take last bl) c ⊎ Among [] c → Among kept c
      stays c (inl has) = among_left (take last bl) (b ∷ []) c has
      stays c (inr none) = absurd none

      in_old : (c : ℕ) → Among kept c → Among bl c
      in_old c has = subst (λ cs. Among cs c) (sym all_are) (among_left kept cut c has)

      sized : (c : ℕ) → Among kept c → length (object m (block c)) ≡ BLOCK_BYTES
      sized c has = all_among (λ x. length (object m (block x)) ≡ BLOCK_BYTES) bl c old.sized (in_old c has)

      one : length (object m (block b)) ≡ BLOCK_BYTES
      one = sized b (among_right (take last bl) (b ∷ []) b (inl refl))

      size_is : size ≡ length p
      size_is = sym (length-take-le size (content version m f) (subst (λ k. size ≤ k) (sym old.whole) (omega (arith, less))))

      in_block : (BLOCK_BYTES * last ≤ size) × (size ≤ BLOCK_BYTES * last + BLOCK_BYTES)
      in_block = size_in_block version size small

      whole : length bytes ≡ BLOCK_BYTES * 1
      whole =
          ap length bytes_are ∙ length-append (take (size - BLOCK_BYTES * last) v) (replicate (length v - (size - BLOCK_BYTES * last)) 0)
          ∙ ap (λ k. k + length (replicate {A = ℕ} (length v - (size - BLOCK_BYTES * last)) 0)) (length-take-le (size - BLOCK_BYTES * last) v (omega (arith, length_v, in_block.1)))
          ∙ ap (λ k. size - BLOCK_BYTES * last + k) (length-replicate {A = ℕ} (length v - (size - BLOCK_BYTES * last)) 0)
          ∙ (omega (arith, length_v, in_block.1))
        where
          length_v : length v ≡ BLOCK_BYTES
          length_v = ap length (sym v_is) ∙ one

      before : length (held m (take last bl)) ≡ BLOCK_BYTES * last
      before =
          length-held m (take last bl) (all_from (λ x. length (object m (block x)) ≡ BLOCK_BYTES) (take last bl) (λ c has. sized c (among_left (take last bl) (b ∷ []) c has)))
          ∙ ap (λ k. BLOCK_BYTES * k) (length-take-le last bl (omega (arith, length-blocks version f many old.small, rises)))

      stored_is : held m (take last bl) ++ object m (block b) ++ held m cut ≡ content version m f ++ replicate (room_of version f.size - length (content version m f)) 0
      stored_is =
          ap (λ x. x ++ held m cut) (sym (held_append m (take last bl) (b ∷ [])))
          ∙ sym (held_append m kept cut)
          ∙ ap (held m) (sym all_are)
          ∙ stored-zeros version m f old

      holds : held m (take last bl) ++ bytes ++ [] ≡ p ++ replicate (room_of version size - length p) 0
      holds =
          ap (λ x. held m (take last bl) ++ x ++ []) (bytes_are ∙ ap (λ x. take (size - BLOCK_BYTES * last) x ++ replicate (length x - (size - BLOCK_BYTES * last)) 0) (sym v_is))
          ∙ cut_off (held m (take last bl)) (object m (block b)) (held m cut) (content version m f) (BLOCK_BYTES * last) (room_of version f.size - length (content version m f)) BLOCK_BYTES size
          before one in_block.0 in_block.1 (subst (λ k. size ≤ k) (sym old.whole) (omega (arith, less))) stored_is
          ∙ ap (λ k. p ++ replicate (k - length p) 0) (let e : BLOCK_BYTES * last + BLOCK_BYTES ≡ room_of version size = omega arith in e)

pub Makes-shrunk : (version : FormatVersion) (layout : Shape) (i : ℕ) (f g : FileNode) (b : ℕ) (cut v bytes : List ℕ) (size : ℕ) (mtime : Time) (t0 t1 t2 t3 : TxnState) → t0.writes ≡ []
    → LearnsThat version layout t0 t1 (λ m. object m (block b) ≡ v) → WritesEach layout t1 t2 (bits_written 0 cut) → WritesEach layout t2 t3 (file_written i g [] (b ∷ []) bytes)
    → g ≡ with_blocks f (extra_count version size) [] size mtime → Fits (File g) → length f.more ≡ MORE_BLOCKS → size < f.size → f.size ≤ most_bytes version → (f.mtime.nanos ≤ MAX_NANOS → mtime.nanos ≤ MAX_NANOS)
    → get_or (f.block ∷ f.more) (extra_count version size) b ≡ b → cut ≡ slice_range (f.block ∷ f.more) (extra_count version size + 1) (extra_count version f.size + 1)
    → length cut ≤ MORE_BLOCKS
    → bytes ≡ take (size - BLOCK_BYTES * extra_count version size) v ++ replicate (length v - (size - BLOCK_BYTES * extra_count version size)) 0
    → HasChanged version layout t0 t3 i f size mtime (λ m. take size (content version m f)) g
Makes-shrunk version layout i f g b cut v bytes size mtime t0 t1 t2 t3 none told wrote_bits wrote_file is fits many less small timed b_is cut_is cut_few bytes_are = record {
  attributes = ap (attributes_of_node i) is;
  generation = ap (λ x. x.generation) is;
  makes = Makes-each layout t0 t1 t3 _ _ (bits_written 0 cut ++ file_written i g [] (b ∷ []) bytes) none told
      (WritesEach-append layout t1 t2 t3 (bits_written 0 cut) (file_written i g [] (b ∷ []) bytes) wrote_bits wrote_file) few
      (λ m n sound v_is becomes number here.
      Puts-shrunk version m n i f b cut v bytes size mtime number sound here many (subst (λ x. Fits (File x)) is fits) less timed b_is cut_is v_is bytes_are
      (subst (λ x. Becomes m n (bits_written 0 cut ++ file_written i x [] (b ∷ []) bytes)) is becomes));
}
  where
    few : length (bits_written 0 cut ++ file_written i g [] (b ∷ []) bytes) ≤ MAX_UPDATES
    few =
        let both : length (bits_written 0 cut ++ file_written i g [] (b ∷ []) bytes) ≡ length (bits_written 0 cut) + length (file_written i g [] (b ∷ []) bytes) = length-append (bits_written 0 cut) (file_written i g [] (b ∷ []) bytes) in
        omega (arith, both, length-bits 0 cut, length-file_written i g [] (b ∷ []) bytes, cut_few)
