-- Bytes are placed in a file.
use Rattle.std.proofs.Common.{ℕ, ◌≡◌, ◌<◌, ◌≤◌, ◌+◌, ◌-◌, ◌*◌, ◌/◌, ◌⊎◌, inl, inr, min, max, true, List, [], ◌∷◌, ◌++◌, length, take, drop, replicate, slice_range, Some, refl, sym, ap, subst, ◌∙◌, arith, append_assoc, length-append}
use Rattle.std.proofs.lemmas.Bool.{cases_eq}
use Rattle.std.proofs.lemmas.List.{append-nil, drop_all, take-append-le, take-append-drop, length-take-le, length-drop}
use Rattle.journal_world.specs.declared.layout.TheConstants.{BLOCK_BYTES}
use Rattle.journal_world.specs.declared.moment.TheConstants.{MAX_NANOS}
use Rattle.journal_world.specs.Maps.{Map}
use Rattle.journal_inode.specs.declared.version.FormatVersion.{FormatVersion}
use Rattle.journal_inode.specs.declared.node.Time.{Time}
use Rattle.journal_inode.specs.declared.node.FileNode.{FileNode}
use Rattle.journal_inode.specs.declared.node.Node.TheVariants.{File}
use Rattle.journal_inode.specs.declared.node.TheConstants.{MORE_BLOCKS}
use Rattle.journal_inode.specs.declared.place.TheConstants.{INODES}
use Rattle.journal_inode.specs.Places.{object}
use Rattle.journal_inode.specs.Places.Object.{block}
use Rattle.journal_inode.specs.Nodes.{Fits}
use Rattle.journal_inode.specs.Versions.{most_bytes, extra_count, room_of}
use Rattle.journal_inode.specs.Sound.{node_at, file_blocks, held, content, IsSoundFile, HasSoundFiles}
use Rattle.journal_inode.proofs.Blocks.{room_enough, length-blocks, length-held}
use Rattle.journal_filestore.specs.Files.{is_file_number}
use Rattle.journal_filestore.specs.Operations.{placed, with_data}
use Rattle.journal_filestore.specs.Doing.{AreClear, AreFresh, file_written, Puts}
use Rattle.journal_filestore.specs.Changes.{extra_blocks_of, with_blocks}
use Rattle.journal_filestore.proofs.FilesReplaced.{IsFileNumber-test}
use Rattle.journal_filestore.proofs.Placing.{length-placed}
use Rattle.journal_filestore.proofs.Among.{Among, among_left, among_right, all_among, all_from, distinct_pairs, held_append}
use Rattle.journal_filestore.proofs.Lasting.{no_length, Becomes}
use Rattle.journal_filestore.proofs.Numbering.{more_rises, last_fits, last_is, blocks_more, absent_more, length-kept, stored-zeros}
use Rattle.journal_filestore.proofs.Spreading.{in_three, piece_of_front, piece_to_end, spread-placed}
use Rattle.journal_filestore.proofs.Changing.{HadBlocks, HadBlocks-file, Puts-changed}

-- the file after bytes were written to it, which has these blocks more
abbrev pub written : FormatVersion → FileNode → List ℕ → ℕ → List ℕ → Time → FileNode
written version f fresh offset bs now = with_blocks f (extra_count version f.size) fresh (max f.size (offset + length bs)) now

-- Old blocks and new ones, of which those from one place to another are overwritten: those before,
-- in the middle and behind
pub record AreSpread (old fresh rest : List ℕ) (first after : ℕ) : Type 0 where
  pub parts : old ++ fresh ≡ take first old ++ slice_range (old ++ fresh ++ rest) first after ++ drop after old
  pub before : old ≡ take first old ++ slice_range (old ++ fresh ++ rest) first (min (length old) after) ++ drop after old
  pub last : (drop after old ≡ []) ⊎ (length fresh ≡ 0)
  pub span : length (slice_range (old ++ fresh ++ rest) first after) ≡ after - first
  pub count : length (slice_range (old ++ fresh ++ rest) first (min (length old) after)) + length fresh ≡ after - first

pub length-piece : (xs : List ℕ) (from to : ℕ) → to ≤ length xs → length (slice_range xs from to) ≡ to - from
length-piece xs from to fits = length-take-le (to - from) (drop from xs) (subst (λ k. to - from ≤ k) (sym (length-drop from xs)) (omega (arith, fits)))

-- no new ones
AreSpread-old : (old fresh rest : List ℕ) (first after : ℕ) → fresh ≡ [] → first ≤ after → after ≤ length old → AreSpread old fresh rest first after
AreSpread-old old fresh rest first after none less fits = record {
  parts = ap (λ xs. old ++ xs) none ∙ append-nil old ∙ sym (in_three old first after less fits) ∙ ap (λ xs. take first old ++ xs ++ drop after old) (sym piece);
  before = sym (in_three old first after less fits) ∙ ap (λ xs. take first old ++ xs ++ drop after old) (sym (ap (slice_range (old ++ fresh ++ rest) first) least ∙ piece));
  last = inr (ap length none);
  span = ap length piece ∙ length-piece old first after fits;
  count = ap (λ k. length (slice_range (old ++ fresh ++ rest) first k) + length fresh) least ∙ ap (λ k. length (slice_range (old ++ fresh ++ rest) first after) + k) (ap length none)
      ∙ (let part : length (slice_range (old ++ fresh ++ rest) first after) ≡ after - first = ap length piece ∙ length-piece old first after fits in omega (arith, part));
}
  where
    piece : slice_range (old ++ fresh ++ rest) first after ≡ slice_range old first after
    piece = ap (λ xs. slice_range xs first after) (append_assoc old fresh rest) ∙ piece_of_front old (fresh ++ rest) first after fits

    least : min (length old) after ≡ after
    least = omega (arith, fits)

-- they reach the last new one
AreSpread-new : (old fresh rest : List ℕ) (first after : ℕ) → first ≤ length old → after ≡ length old + length fresh → AreSpread old fresh rest first after
AreSpread-new old fresh rest first after less is = record {
  parts = sym (take-append-drop first (old ++ fresh))
      ∙ ap (λ xs. xs ++ drop first (old ++ fresh)) (take-append-le first old fresh less)
      ∙ sym (append-nil (take first old ++ drop first (old ++ fresh)))
      ∙ ap (λ xs. take first old ++ drop first (old ++ fresh) ++ xs) (sym none)
      ∙ ap (λ xs. take first old ++ xs ++ drop after old) (sym whole);
  before = sym (take-append-drop first old)
      ∙ sym (append-nil (take first old ++ drop first old))
      ∙ ap (λ xs. take first old ++ drop first old ++ xs) (sym none)
      ∙ ap (λ xs. take first old ++ xs ++ drop after old) (sym (ap (slice_range (old ++ fresh ++ rest) first) least ∙ part));
  last = inl none;
  span = length-piece (old ++ fresh ++ rest) first after fits_all;
  count = ap (λ k. length (slice_range (old ++ fresh ++ rest) first k) + length fresh) least
      ∙ (let piece : length (slice_range (old ++ fresh ++ rest) first (length old)) ≡ length old - first = ap length part ∙ length-drop first old in omega (arith, piece, less, is));
}
  where
    none : drop after old ≡ []
    none = drop_all after old (omega (arith, is))

    least : min (length old) after ≡ length old
    least = omega (arith, is)

    both : length (old ++ fresh) ≡ length old + length fresh
    both = length-append old fresh

    fits_all : after ≤ length (old ++ fresh ++ rest)
    fits_all = let all : length (old ++ fresh ++ rest) ≡ length (old ++ fresh) + length rest = length-append (old ++ fresh) rest in omega (arith, all, both, is)

    whole : slice_range (old ++ fresh ++ rest) first after ≡ drop first (old ++ fresh)
    whole = piece_of_front (old ++ fresh) rest first after (omega (arith, both, is)) ∙ piece_to_end (old ++ fresh) first after (omega (arith, both, less)) (omega (arith, both, is))

    part : slice_range (old ++ fresh ++ rest) first (length old) ≡ drop first old
    part =
        ap (λ xs. slice_range xs first (length old)) (append_assoc old fresh rest)
        ∙ piece_of_front old (fresh ++ rest) first (length old) (omega arith) ∙ piece_to_end old first (length old) less refl

module _ (version : FormatVersion) (m n : Map) (i : ℕ) (f : FileNode) (fresh bs bytes : List ℕ) (offset first after : ℕ) (now : Time) (number : is_file_number i ≡ true) (sound : HasSoundFiles version m) (is_file : node_at m i ≡ File f)
    (many : length f.more ≡ MORE_BLOCKS) (fits : Fits (File (written version f fresh offset bs now))) (some : 0 < length bs) (small_end : offset + length bs ≤ most_bytes version) (timed : now.nanos ≤ MAX_NANOS)
    (new_ones : AreFresh (extra_count version (max f.size (offset + length bs)) - extra_count version f.size) fresh) (clear : AreClear m fresh)
    (first_is : first ≡ min (extra_count version f.size + 1) (offset / BLOCK_BYTES)) (after_is : after ≡ (offset + length bs - 1) / BLOCK_BYTES + 1) where
  low : i < INODES
  low = (IsFileNumber-test i number).to

  old : IsSoundFile version m f
  old = sound.files i f low is_file

  abbrev pub bl : List ℕ
  bl = file_blocks version f

  abbrev pub numbers : List ℕ
  numbers = f.block ∷ extra_blocks_of (take (extra_count version f.size) f.more) fresh

  had_count : length bl ≡ 1 + extra_count version f.size
  had_count = length-blocks version f many old.small

  more_size : extra_count version f.size + length fresh ≡ extra_count version (max f.size (offset + length bs))
  more_size =
      let rises : extra_count version f.size ≤ extra_count version (max f.size (offset + length bs)) = more_rises version f.size (max f.size (offset + length bs)) (omega arith) in
      omega (arith, rises, new_ones.count)

  abbrev pub rest : List ℕ
  rest = replicate (MORE_BLOCKS - (length (take (extra_count version f.size) f.more) + length fresh)) 0

  are_spread : AreSpread bl fresh rest first after
  are_spread = by_fresh (cases_eq (length fresh) 0)
    where
      end_fits : (offset + length bs - 1) / BLOCK_BYTES ≤ extra_count version (max f.size (offset + length bs))
      end_fits = last_fits version f.size (offset + length bs) (omega (arith, some)) small_end

      by_fresh : (length fresh ≡ 0) ⊎ (length fresh ≡ 0 → ⊥) → AreSpread bl fresh rest first after
      by_fresh (inl none) = AreSpread-old bl fresh rest first after (no_length fresh none) (omega (arith, first_is, after_is, some)) (omega (arith, had_count, after_is, end_fits, more_size, none))
      by_fresh (inr new) =
          let last : extra_count version (max f.size (offset + length bs)) ≡ (offset + length bs - 1) / BLOCK_BYTES =
          last_is version f.size (offset + length bs) (omega (arith, some)) (omega (arith, more_size, λ (none : length fresh ≡ 0). new none)) in
          AreSpread-new bl fresh rest first after (omega (arith, first_is, had_count)) (omega (arith, had_count, after_is, last, more_size))

  abbrev pub changed : List ℕ
  changed = slice_range numbers first after

  -- the old ones of them
  abbrev pub middle : List ℕ
  middle = slice_range numbers first (min (length bl) after)

  in_old : (b : ℕ) → Among (take first bl) b ⊎ Among (drop after bl) b → Among bl b
  in_old b (inl has) = subst (λ cs. Among cs b) (sym are_spread.before) (among_left (take first bl ++ middle) (drop after bl) b (among_left (take first bl) middle b has))
  in_old b (inr has) = subst (λ cs. Among cs b) (sym are_spread.before) (among_right (take first bl ++ middle) (drop after bl) b has)

  middle_old : (b : ℕ) → Among middle b → Among bl b
  middle_old b has = subst (λ cs. Among cs b) (sym are_spread.before) (among_left (take first bl ++ middle) (drop after bl) b (among_right (take first bl) middle b has))

  length-blocks_held : (cs : List ℕ) → ((b : ℕ) → Among cs b → Among bl b) → length (held m cs) ≡ BLOCK_BYTES * length cs
  length-blocks_held cs among = length-held m cs (all_from (λ b. length (object m (block b)) ≡ BLOCK_BYTES) cs (λ b has. all_among (λ c. length (object m (block c)) ≡ BLOCK_BYTES) bl b old.sized (among b has)))

  pub length-middle : length (held m middle) ≡ BLOCK_BYTES * length middle
  length-middle = length-blocks_held middle middle_old

  first_low : first ≤ length bl
  first_low = omega (arith, first_is, had_count)

  length-before : length (held m (take first bl)) ≡ BLOCK_BYTES * first
  length-before = length-blocks_held (take first bl) (λ b has. in_old b (inl has)) ∙ ap (λ k. BLOCK_BYTES * k) (length-take-le first bl first_low)

  -- how many bytes are written, and of how many blocks
  changed_count : length changed ≡ after - first
  changed_count = are_spread.span

  fresh_count : length middle + length fresh ≡ after - first
  fresh_count = are_spread.count

  holds : bytes ≡ with_data (held m middle ++ replicate (BLOCK_BYTES * length changed - BLOCK_BYTES * length middle) 0) (offset - BLOCK_BYTES * first) bs
      → held m (take first bl) ++ bytes ++ held m (drop after bl)
      ≡ placed (content version m f) offset bs ++ replicate (room_of version (max f.size (offset + length bs)) - length (placed (content version m f) offset bs)) 0
  holds are =
      spread-placed (held m (take first bl)) (held m middle) (held m (drop after bl)) (content version m f) bs bytes (BLOCK_BYTES * first) (room_of version f.size) (BLOCK_BYTES * length fresh) offset
      length-before stored_is (subst (λ k. k ≤ room_of version f.size) (sym old.whole) (room_enough version f.size old.small)) (behind are_spread.last)
      (omega (arith, first_is)) (omega (arith, first_is, after_is, some, fresh_count, length-middle))
      (let end_fits : (offset + length bs - 1) / BLOCK_BYTES ≤ extra_count version (max f.size (offset + length bs)) = last_fits version f.size (offset + length bs) (omega (arith, some)) small_end in omega (arith, end_fits, more_size, some))
      (are ∙ ap (λ k. with_data (held m middle ++ replicate k 0) (offset - BLOCK_BYTES * first) bs) (omega (arith, changed_count, fresh_count)))
      ∙ ap (λ k. placed (content version m f) offset bs ++ replicate (k - length (placed (content version m f) offset bs)) 0) (omega (arith, more_size))
    where
      stored_is : held m (take first bl) ++ held m middle ++ held m (drop after bl) ≡ content version m f ++ replicate (room_of version f.size - length (content version m f)) 0
      stored_is =
          ap (λ v. v ++ held m (drop after bl)) (sym (held_append m (take first bl) middle))
          ∙ sym (held_append m (take first bl ++ middle) (drop after bl))
          ∙ ap (held m) (sym are_spread.before)
          ∙ stored-zeros version m f old

      behind : (drop after bl ≡ []) ⊎ (length fresh ≡ 0) → (held m (drop after bl) ≡ []) ⊎ (BLOCK_BYTES * length fresh ≡ 0)
      behind (inl none) = inl (ap (held m) none)
      behind (inr none) = inr (omega (arith, none))

  -- WRITE
  pub Puts-written : length bytes ≡ BLOCK_BYTES * length (slice_range numbers first after)
      → bytes ≡ with_data (held m (slice_range numbers first (min (length bl) after)) ++ replicate (BLOCK_BYTES * length (slice_range numbers first after) - BLOCK_BYTES * length (slice_range numbers first (min (length bl) after))) 0) (offset - BLOCK_BYTES * first) bs
      → Becomes m n (file_written i (written version f fresh offset bs now) fresh (slice_range numbers first after) bytes)
      → Puts version m n i (record { generation = f.generation; file = Some (record { bytes = placed (content version m f) offset bs; mtime = now }) })
  Puts-written whole are is =
      Puts-changed version m n i (written version f fresh offset bs now) (placed (content version m f) offset bs) bl [] fresh (take first bl) changed (drop after bl) bytes number sound
      (subst (HadBlocks version m i) (sym (append-nil bl)) (HadBlocks-file version m i f low sound is_file)) (distinct_pairs fresh new_ones.distinct) new_ones.bits clear
      (blocks_more version (written version f fresh offset bs now) (take (extra_count version f.size) f.more) fresh refl kept_size) are_spread.parts in_old whole is
      (record {
        born = old.born;
        size = size;
        small = subst (λ k. k ≤ most_bytes version) size (omega (arith, old.small, small_end));
        timed = timed;
        absent = absent_more version (written version f fresh offset bs now) (take (extra_count version f.size) f.more) fresh refl kept_size;
        fits = fits;
      })
      (holds are)
    where
      kept_size : length (take (extra_count version f.size) f.more) + length fresh ≡ extra_count version (max f.size (offset + length bs))
      kept_size = ap (λ k. k + length fresh) (length-kept version f f.size many old.small) ∙ more_size

      size : max f.size (offset + length bs) ≡ length (placed (content version m f) offset bs)
      size = ap (λ x. max x (offset + length bs)) (sym old.whole) ∙ sym (length-placed (content version m f) offset bs)
