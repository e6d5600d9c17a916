-- READ, as its transaction makes it.
use Rattle.std.proofs.Common.{ℕ, ◌≡◌, ◌≢◌, ◌<◌, ◌≤◌, ◌+◌, ◌-◌, ◌*◌, ◌/◌, min, nat_le, List, [], ◌∷◌, ◌++◌, length, take, drop, slice_range, Ok, refl, sym, ap, subst, ◌∙◌, arith, rules}
use Rattle.std.specs.List.{AllByRecursion}
use Rattle.std.proofs.lemmas.List.{same_lists, places, length-take-le, length-drop}
use Rattle.journal_world.specs.declared.layout.TheConstants.{BLOCK_BYTES}
use Rattle.journal_world.specs.Addresses.{Shape}
use Rattle.journal_world.specs.Maps.{Map}
use Rattle.journal_inode.specs.declared.version.FormatVersion.{FormatVersion}
use Rattle.journal_inode.specs.declared.version.FormatVersion.TheVariants.{One, Two}
use Rattle.journal_inode.specs.declared.node.FileNode.{FileNode}
use Rattle.journal_inode.specs.declared.node.TheConstants.{MORE_BLOCKS}
use Rattle.journal_twophase.specs.Transactions.{TxnState}
use Rattle.journal_inode.specs.Places.{object}
use Rattle.journal_inode.specs.Places.Object.{block}
use Rattle.journal_inode.specs.Versions.{most_bytes, extra_count}
use Rattle.journal_inode.specs.Sound.{file_blocks, held, stored, content, IsSoundFile}
use Rattle.journal_inode.proofs.Blocks.{length-blocks, length-held}
use Rattle.journal_file_types.specs.declared.portion.TheConstants.{READ_BYTES}
use Rattle.journal_file_types.specs.declared.reply.Attributes.{Attributes}
use Rattle.journal_filestore.specs.Files.{files_of}
use Rattle.journal_file_types.specs.Portions.{PortionState}
use Rattle.journal_filestore.specs.Operations.{attributes_of_node, portion, portion_length, read_case}
use Rattle.journal_filestore.specs.Operations.FileTarget.{file}
use Rattle.journal_filestore.specs.Handles.{data_of}
use Rattle.journal_filestore.specs.Doing.{LearnsThat, Leads, Makes}
use Rattle.journal_filestore.proofs.Doings.{Makes-told}
use Rattle.journal_filestore.proofs.Answering.{attributes-data}
use Rattle.journal_filestore.proofs.Among.{Among, among_left, among_right, all_among, all_from, held_append}
use Rattle.journal_filestore.proofs.Numbering.{byte_in_block}
use Rattle.journal_filestore.proofs.Spreading.{in_three, piece_of_front, piece_of_middle}

-- how many bytes are read, in one way for both versions
pub length_is : (version : FormatVersion) (size offset count : ℕ) → size ≤ most_bytes version → min (min count READ_BYTES) (size - offset) ≡ portion_length version count (size - offset)
length_is One size offset count small = omega (arith, small)
length_is Two size offset count small = refl

-- a portion of a beginning is one of the whole
range_of_front : (b : List ℕ) (s from to : ℕ) → to ≤ s → slice_range (take s b) from to ≡ slice_range b from to
range_of_front b s from to within = same_lists _ _ (search (rules, places)) (λ i d h. grind (arith, places))

nothing : (c : List ℕ) (from n : ℕ) → n ≡ 0 → slice_range c from (from + n) ≡ []
nothing c from n none = same_lists _ _ (search (rules, places)) (λ i d h. grind (arith, places))

-- what is answered of a sound file
pub read-portion : (version : FormatVersion) (m : Map) (i offset count : ℕ) (f : FileNode) (p : PortionState) (n : ℕ) → IsSoundFile version m f → n ≡ portion_length version count (f.size - offset)
    → p.file ≡ attributes_of_node i f → p.bytes ≡ slice_range (content version m f) offset (offset + n) → p.is_end ≡ nat_le f.size (offset + n)
    → read_case version offset count (files_of version m) (file i (data_of version m f)) ≡ (Ok p, files_of version m)
read-portion version m i offset count f p n sound is told bytes ends =
    ap (λ k. (Ok (portion offset (portion_length version count (k - offset)) i (data_of version m f)), files_of version m)) sound.whole
    ∙ ap (λ k. (Ok (portion offset k i (data_of version m f)), files_of version m)) (sym is)
    ∙ ap (λ x. (Ok (record { file = x; bytes = slice_range (content version m f) offset (offset + n); is_end = nat_le (length (content version m f)) (offset + n) }), files_of version m))
    (attributes-data m i f sound ∙ sym told)
    ∙ ap (λ x. (Ok (record { file = p.file; bytes = x; is_end = nat_le (length (content version m f)) (offset + n) }), files_of version m)) (sym bytes)
    ∙ ap (λ x. (Ok (record { file = p.file; bytes = p.bytes; is_end = x }), files_of version m)) (ap (λ k. nat_le k (offset + n)) sound.whole ∙ sym ends)

-- its bytes, from those of the file's blocks that they lie in
bytes-blocks : (version : FormatVersion) (m : Map) (f : FileNode) (offset n first after : ℕ) → IsSoundFile version m f → length f.more ≡ MORE_BLOCKS → 0 < n → offset + n ≤ f.size
    → first ≡ offset / BLOCK_BYTES → after ≡ (offset + n - 1) / BLOCK_BYTES + 1
    → slice_range (held m (slice_range (f.block ∷ f.more) first after)) (offset - BLOCK_BYTES * first) (offset - BLOCK_BYTES * first + n) ≡ slice_range (content version m f) offset (offset + n)
bytes-blocks version m f offset n first after sound many some within first_is after_is =
    piece_of_middle (held m (take first bl)) (held m middle) (held m (drop after bl)) (BLOCK_BYTES * first) (offset - BLOCK_BYTES * first) (offset - BLOCK_BYTES * first + n)
    before_length (omega (arith, middle_length, first_is, after_is, some))
    ∙ ap (λ v. slice_range v (BLOCK_BYTES * first + (offset - BLOCK_BYTES * first)) (BLOCK_BYTES * first + (offset - BLOCK_BYTES * first + n))) all_held
    ∙ ap (λ k. slice_range (stored version m f) k (BLOCK_BYTES * first + (offset - BLOCK_BYTES * first + n))) (let e : BLOCK_BYTES * first + (offset - BLOCK_BYTES * first) ≡ offset = omega (arith, first_is) in e)
    ∙ ap (λ k. slice_range (stored version m f) offset k) (let e : BLOCK_BYTES * first + (offset - BLOCK_BYTES * first + n) ≡ offset + n = omega (arith, first_is) in e)
    ∙ sym (range_of_front (stored version m f) f.size offset (offset + n) within)
  where
    bl : List ℕ
    bl = file_blocks version f

    middle : List ℕ
    middle = slice_range (f.block ∷ f.more) first after

    count : length bl ≡ 1 + extra_count version f.size
    count = length-blocks version f many sound.small

    after_low : after ≤ length bl
    after_low = let last : (offset + n - 1) / BLOCK_BYTES ≤ extra_count version f.size = byte_in_block version f.size (offset + n) (omega (arith, some)) within sound.small in omega (arith, count, after_is, last)

    first_low : first ≤ after
    first_low = omega (arith, first_is, after_is, some)

    numbers_are : f.block ∷ f.more ≡ bl ++ drop (extra_count version f.size) f.more
    numbers_are = ap (λ xs. f.block ∷ xs) (whole_list (extra_count version f.size) f.more)
      where
        whole_list : (k : ℕ) (xs : List ℕ) → xs ≡ take k xs ++ drop k xs
        whole_list k xs = same_lists _ _ (search (rules, places)) (λ i d h. grind (arith, places))

    middle_is : middle ≡ slice_range bl first after
    middle_is = ap (λ xs. slice_range xs first after) numbers_are ∙ piece_of_front bl (drop (extra_count version f.size) f.more) first after after_low

    parts : take first bl ++ middle ++ drop after bl ≡ bl
    parts = ap (λ xs. take first bl ++ xs ++ drop after bl) middle_is ∙ in_three bl first after first_low after_low

    all_held : held m (take first bl) ++ held m middle ++ held m (drop after bl) ≡ stored version m f
    all_held =
        ap (λ v. v ++ held m (drop after bl)) (sym (held_append m (take first bl) middle))
        ∙ sym (held_append m (take first bl ++ middle) (drop after bl))
        ∙ ap (held m) parts

    sized : (cs : List ℕ) → ((b : ℕ) → Among cs b → Among (take first bl ++ middle) b) → length (held m cs) ≡ BLOCK_BYTES * length cs
    sized cs among = length-held m cs (all_from (λ b. length (object m (block b)) ≡ BLOCK_BYTES) cs
        (λ b has. all_among (λ c. length (object m (block c)) ≡ BLOCK_BYTES) (take first bl ++ middle ++ drop after bl) b all_sized (among_left (take first bl ++ middle) (drop after bl) b (among b has))))
      where
        all_sized : AllByRecursion (λ c. length (object m (block c)) ≡ BLOCK_BYTES) (take first bl ++ middle ++ drop after bl)
        all_sized = subst (AllByRecursion (λ c. length (object m (block c)) ≡ BLOCK_BYTES)) (sym parts) sound.sized

    before_length : length (held m (take first bl)) ≡ BLOCK_BYTES * first
    before_length = sized (take first bl) (λ b has. among_left (take first bl) middle b has) ∙ ap (λ k. BLOCK_BYTES * k) (length-take-le first bl (omega (arith, first_low, after_low)))

    middle_length : length (held m middle) ≡ BLOCK_BYTES * (after - first)
    middle_length =
        sized middle (λ b has. among_right (take first bl) middle b has)
        ∙ ap (λ k. BLOCK_BYTES * k) (ap length middle_is ∙ length-take-le (after - first) (drop first bl) (let left : length (drop first bl) ≡ length bl - first = length-drop first bl in omega (arith, left, after_low)))

-- or none
pub bytes-none : (version : FormatVersion) (m : Map) (f : FileNode) (offset n : ℕ) → n ≡ 0 → slice_range {X = ℕ} [] 0 0 ≡ slice_range (content version m f) offset (offset + n)
bytes-none version m f offset n none = sym (nothing (content version m f) offset n none)

-- the blocks were read, which changes nothing
pub Makes-read : (version : FormatVersion) (layout : Shape) (i offset count : ℕ) (f : FileNode) (p : PortionState) (told : Attributes) (n first after : ℕ) (bytes : List ℕ) (t0 t1 : TxnState) → t0.writes ≡ []
    → LearnsThat version layout t0 t1 (λ m. held m (slice_range (f.block ∷ f.more) first after) ≡ bytes) → n ≡ portion_length version count (f.size - offset) → n ≢ 0 → offset + n ≤ f.size → length f.more ≡ MORE_BLOCKS
    → first ≡ offset / BLOCK_BYTES → after ≡ (offset + n - 1) / BLOCK_BYTES + 1 → told ≡ attributes_of_node i f
    → p ≡ record { file = told; bytes = slice_range bytes (offset - BLOCK_BYTES * first) (offset - BLOCK_BYTES * first + n); is_end = nat_le f.size (offset + n) }
    → Makes version layout t0 t1 (λ m after. IsSoundFile version m f → Leads version after (Ok p) (read_case version offset count (files_of version m) (file i (data_of version m f))))
Makes-read version layout i offset count f p told n first after bytes t0 t1 fresh read length_told some within many first_is after_is told_is portion_is =
    Makes-told layout t0 t1 _ _ fresh read
    (λ m sound here whole. (
      sound,
      sym (read-portion version m i offset count f p n whole length_told (ap (λ x. x.file) portion_is ∙ told_is)
          (ap (λ x. x.bytes) portion_is
          ∙ ap (λ v. slice_range v (offset - BLOCK_BYTES * first) (offset - BLOCK_BYTES * first + n)) (sym here)
          ∙ bytes-blocks version m f offset n first after whole many (omega (arith, λ (is : n ≡ 0). some is)) within first_is after_is)
          (ap (λ x. x.is_end) portion_is)),
    ))
