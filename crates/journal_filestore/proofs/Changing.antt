-- An inode is replaced, with some of its blocks given up and new ones taken.
use Rattle.std.proofs.Common.{ℕ, ◌≡◌, ◌<◌, ◌≤◌, ◌+◌, ◌-◌, ◌*◌, ◌⊎◌, inl, inr, true, cond, List, [], ◌∷◌, ◌++◌, length, drop, replicate, Option, Some, None, refl, sym, ap, subst, ◌∙◌, arith}
use Rattle.std.specs.Prelude.{unwrap_or}
use Rattle.std.specs.List.{AllByRecursion}
use Rattle.std.proofs.lemmas.Bool.{eq-eqb, ne_eqb}
use Rattle.journal_world.specs.declared.layout.TheConstants.{BLOCK_BYTES, FIRST_DATA, BLOCK_BITS}
use Rattle.journal_world.specs.declared.moment.TheConstants.{MAX_NANOS}
use Rattle.journal_world.specs.Addresses.{Value, Shape}
use Rattle.journal_world.specs.Maps.{Map}
use Rattle.journal_inode.specs.declared.version.FormatVersion.{FormatVersion}
use Rattle.journal_inode.specs.declared.node.FileNode.{FileNode}
use Rattle.journal_inode.specs.declared.node.Node.{Node}
use Rattle.journal_inode.specs.declared.node.Node.TheVariants.{Free, File}
use Rattle.journal_inode.specs.declared.node.TheConstants.{MORE_BLOCKS}
use Rattle.journal_inode.specs.declared.place.TheConstants.{INODES}
use Rattle.journal_inode.specs.Places.{Object, IsOnDisk, object}
use Rattle.journal_inode.specs.Places.Object.{superblock, bit, inode, block}
use Rattle.journal_inode.specs.Nodes.{inode_bytes, Fits}
use Rattle.journal_inode.specs.Versions.{most_bytes, extra_count, room_of}
use Rattle.journal_inode.specs.Sound.{node_at, file_blocks, held, stored, IsAmong, HasBlock, IsTaken, IsDataBlock, IsBit, IsSoundFile, HasSoundFiles}
use Rattle.journal_filestore.specs.Files.{is_file_number}
use Rattle.journal_filestore.specs.Doing.{Write, HasBit, AreClear, bits_written, blocks_written, Puts}
use Rattle.journal_filestore.proofs.Overwrites.{or_else}
use Rattle.journal_filestore.proofs.Replacing.{Replaces, held_others}
use Rattle.journal_filestore.proofs.FilesReplaced.{IsFileNumber-test}
use Rattle.journal_filestore.proofs.Becoming.{Puts-becomes}
use Rattle.journal_filestore.proofs.Among.{Among, Distinct, among_is, is_among, among_left, among_right, among_either, cases_Among, all_among, all_from, distinct_pairs, pairs_distinct, distinct_append, distinct_left, distinct_right, distinct_apart, held_append}
use Rattle.journal_filestore.proofs.Lasting.{last_written, last_append, Becomes, bits_hit, bits_miss, bits_superblock, bits_inode, bits_block, blocks_superblock, blocks_inode, blocks_bit, blocks_miss, blocks_hold}

-- The inode at this number has these blocks
pub record HadBlocks (version : FormatVersion) (m : Map) (i : ℕ) (bs : List ℕ) : Type 0 where
  pub has : (b : ℕ) → HasBlock version (node_at m i) b → Among bs b
  pub its : (b : ℕ) → Among bs b → HasBlock version (node_at m i) b
  pub on_disk : (b : ℕ) → Among bs b → IsDataBlock m.layout.blocks b
  pub whole : (b : ℕ) → Among bs b → length (object m (block b)) ≡ BLOCK_BYTES
  pub distinct : Distinct bs

-- a clear bit's block is free
pub clear_is_free : (version : FormatVersion) (m : Map) (b : ℕ) → HasSoundFiles version m → HasBit b → object m (bit (b - FIRST_DATA)) ≡ 0 ∷ [] → IsTaken version m b → ⊥
clear_is_free version m b sound has clear taken =
    let from : FIRST_DATA ≤ b = has.0 in
    let to : b < FIRST_DATA + BLOCK_BITS = has.1 in
    by_bit (omega (arith, from)) (sound.bits (b - FIRST_DATA) (omega (arith, from, to)))
  where
    by_bit : FIRST_DATA + (b - FIRST_DATA) ≡ b → IsBit (object m (bit (b - FIRST_DATA))) (IsTaken version m (FIRST_DATA + (b - FIRST_DATA))) → ⊥
    by_bit same (inl set) = let e : 0 ∷ [] ≡ 1 ∷ [] = sym clear ∙ set.0 in absurd (cc)
    by_bit same (inr free) = free.1 (subst (IsTaken version m) (sym same) taken)

-- so it is on the disk
free_on_disk : (version : FormatVersion) (m : Map) (b : ℕ) → (IsTaken version m b → ⊥) → b < m.layout.blocks
free_on_disk version m b free = omega (arith, λ (past : m.layout.blocks ≤ b). free (inl past))

pub HadBlocks-file : (version : FormatVersion) (m : Map) (i : ℕ) (f : FileNode) → i < INODES → HasSoundFiles version m → node_at m i ≡ File f → HadBlocks version m i (file_blocks version f)
HadBlocks-file version m i f low sound is = record {
  has = λ b has. is_among (file_blocks version f) b (subst (λ x. HasBlock version x b) is has);
  its = λ b has. subst (λ x. HasBlock version x b) (sym is) (among_is (file_blocks version f) b has);
  on_disk = λ b has. all_among (IsDataBlock m.layout.blocks) (file_blocks version f) b old.on_disk has;
  whole = λ b has. all_among (λ c. length (object m (block c)) ≡ BLOCK_BYTES) (file_blocks version f) b old.sized has;
  distinct = distinct_pairs (file_blocks version f) (sound.distinct i f low is);
}
  where
    old : IsSoundFile version m f
    old = sound.files i f low is

pub HadBlocks-free : (version : FormatVersion) (m : Map) (i g : ℕ) → node_at m i ≡ Free g → HadBlocks version m i []
HadBlocks-free version m i g is = record {
  has = λ b has. subst (λ x. HasBlock version x b) is has;
  its = λ b none. absurd none;
  on_disk = λ b none. absurd none;
  whole = λ b none. absurd none;
  distinct = tt;
}

-- what is written where an inode is replaced: the bits of blocks that it gives up, those of new
-- ones, what blocks hold, and itself
abbrev pub all_written : ℕ → Node → List ℕ → List ℕ → List ℕ → List ℕ → List Write
all_written i new cut fresh bs bytes = bits_written 0 cut ++ (bits_written 1 fresh ++ (blocks_written bs bytes ++ (inode i, inode_bytes new) ∷ []))

-- the last of four
abbrev last_of : Option Value → Option Value → Option Value → Option Value → Option Value
last_of a b c d = or_else (or_else (or_else a b) c) d

last_of-is : (a x b y c z d w : Option Value) → a ≡ x → b ≡ y → c ≡ z → d ≡ w → last_of a b c d ≡ last_of x y z w
last_of-is a x b y c z d w first second third fourth =
    ap (λ p. last_of p b c d) first ∙ ap (λ p. last_of x p c d) second ∙ ap (λ p. last_of x y p d) third ∙ ap (λ p. last_of x y z p) fourth

module _ (version : FormatVersion) (m n : Map) (i : ℕ) (new : Node) (kept cut fresh bs bytes : List ℕ) (low : i < INODES) (sound : HasSoundFiles version m) (had : HadBlocks version m i (kept ++ cut))
    (fresh_bits : (b : ℕ) → Among fresh b → HasBit b) (clear : (b : ℕ) → Among fresh b → object m (bit (b - FIRST_DATA)) ≡ 0 ∷ [])
    (has_new : (b : ℕ) → HasBlock version new b → Among (kept ++ fresh) b) (its_new : (b : ℕ) → Among (kept ++ fresh) b → HasBlock version new b)
    (bs_new : (b : ℕ) → Among bs b → Among (kept ++ fresh) b) (is : Becomes m n (all_written i new cut fresh bs bytes)) where
  abbrev node_last : Object → Option Value
  node_last o = last_written ((inode i, inode_bytes new) ∷ []) o

  object_is : (o : Object) (a b c d : Option Value) → IsOnDisk m.layout.blocks o → node_last o ≡ a → last_written (blocks_written bs bytes) o ≡ b → last_written (bits_written 1 fresh) o ≡ c
      → last_written (bits_written 0 cut) o ≡ d → object n o ≡ unwrap_or (last_of a b c d) (object m o)
  object_is o a b c d here node_is blocks_is fresh_is cut_is =
      is.objects o here
      ∙ ap (λ p. unwrap_or p (object m o))
      (last_append (bits_written 0 cut) _ o
      ∙ ap (λ p. or_else p (last_written (bits_written 0 cut) o))
      (last_append (bits_written 1 fresh) _ o
      ∙ ap (λ p. or_else p (last_written (bits_written 1 fresh) o)) (last_append (blocks_written bs bytes) _ o))
      ∙ last_of-is (node_last o) a _ b _ c _ d node_is blocks_is fresh_is cut_is)

  free_fresh : (b : ℕ) → Among fresh b → IsTaken version m b → ⊥
  free_fresh b has = clear_is_free version m b sound (fresh_bits b has) (clear b has)

  -- a new block is none that the inode had
  pub fresh_apart : (b : ℕ) → Among fresh b → Among (kept ++ cut) b → ⊥
  fresh_apart b has old = free_fresh b has (inr (i, low, had.its b old))

  pub fresh_on_disk : (b : ℕ) → Among fresh b → IsDataBlock m.layout.blocks b
  fresh_on_disk b has = ((fresh_bits b has).0, free_on_disk version m b (free_fresh b has))

  -- a data block that is not written stays
  pub block_stays : (b : ℕ) → IsDataBlock m.layout.blocks b → (Among bs b → ⊥) → object n (block b) ≡ object m (block b)
  block_stays b range lacks =
      object_is (block b) None None None None range refl (blocks_miss bs bytes b lacks) (bits_block 1 fresh b) (bits_block 0 cut b)

  -- one that is holds what was written last
  pub block_last : (b : ℕ) → IsDataBlock m.layout.blocks b → object n (block b) ≡ unwrap_or (last_written (blocks_written bs bytes) (block b)) (object m (block b))
  block_last b range =
      object_is (block b) None (last_written (blocks_written bs bytes) (block b)) None None range refl refl (bits_block 1 fresh b) (bits_block 0 cut b)
      ∙ ap (λ p. unwrap_or p (object m (block b))) (plain (last_written (blocks_written bs bytes) (block b)))
    where
      plain : (p : Option Value) → last_of None p None None ≡ p
      plain None = refl
      plain (Some v) = refl

  bit_is : (k : ℕ) (c d : Option Value) → k < BLOCK_BITS → last_written (bits_written 1 fresh) (bit k) ≡ c → last_written (bits_written 0 cut) (bit k) ≡ d
      → object n (bit k) ≡ unwrap_or (or_else c d) (object m (bit k))
  bit_is k c d below fresh_is cut_is = object_is (bit k) None None c d below refl (blocks_bit bs bytes k) fresh_is cut_is

  fresh_from : (b : ℕ) → Among fresh b → FIRST_DATA ≤ b
  fresh_from b has = (fresh_bits b has).0

  cut_from : (b : ℕ) → Among cut b → FIRST_DATA ≤ b
  cut_from b has = (had.on_disk b (among_right kept cut b has)).0

  -- a new block's bit is set, one that is given up has its bit cleared, and other bits stay
  bit_fresh : (k : ℕ) → k < BLOCK_BITS → Among fresh (FIRST_DATA + k) → object n (bit k) ≡ 1 ∷ []
  bit_fresh k below has = bit_is k (Some (1 ∷ [])) (last_written (bits_written 0 cut) (bit k)) below (bits_hit 1 fresh k has) refl

  bit_cut : (k : ℕ) → k < BLOCK_BITS → Among cut (FIRST_DATA + k) → object n (bit k) ≡ 0 ∷ []
  bit_cut k below has =
      bit_is k None (Some (0 ∷ [])) below (bits_miss 1 fresh k fresh_from (λ new_one. fresh_apart (FIRST_DATA + k) new_one (among_right kept cut (FIRST_DATA + k) has))) (bits_hit 0 cut k has)

  bit_other : (k : ℕ) → k < BLOCK_BITS → (Among fresh (FIRST_DATA + k) → ⊥) → (Among cut (FIRST_DATA + k) → ⊥) → object n (bit k) ≡ object m (bit k)
  bit_other k below no_fresh no_cut = bit_is k None None below (bits_miss 1 fresh k fresh_from no_fresh) (bits_miss 0 cut k cut_from no_cut)

  old_cases : (b : ℕ) → HasBlock version (node_at m i) b → Among kept b ⊎ Among cut b
  old_cases b has = among_either kept cut b (had.has b has)

  new_cases : (b : ℕ) → HasBlock version new b → Among kept b ⊎ Among fresh b
  new_cases b has = among_either kept fresh b (has_new b has)

  pub Replaces-changed : Fits new → Replaces version m n i new
  Replaces-changed fits = record {
    layout = is.layout;
    begins = object_is superblock None None None None tt refl (blocks_superblock bs bytes) (bits_superblock 1 fresh) (bits_superblock 0 cut);
    here = object_is (inode i) (Some (inode_bytes new)) None None None low (ap (λ t. cond t (Some (inode_bytes new)) None) (eq-eqb i i refl)) (blocks_inode bs bytes i) (bits_inode 1 fresh i) (bits_inode 0 cut i);
    fits = fits;
    others = λ j below ne.
        object_is (inode j) None None None None below (ap (λ t. cond t (Some (inode_bytes new)) None) (ne_eqb j i ne)) (blocks_inode bs bytes j) (bits_inode 1 fresh j) (bits_inode 0 cut j);
    free_or_own = λ b has. own_or_free b (new_cases b has);
    other_blocks = λ b from to lacks. block_stays b (from, to) (λ has. lacks (its_new b (bs_new b has)));
    bits = λ k below. record {
      set = λ lacked has. bit_fresh k below (must_be_fresh (FIRST_DATA + k) lacked (new_cases (FIRST_DATA + k) has));
      cleared = λ old lacks. bit_cut k below (must_be_cut (FIRST_DATA + k) lacks (old_cases (FIRST_DATA + k) old));
      kept = λ old has. bit_other k below (λ new_one. fresh_apart (FIRST_DATA + k) new_one (had.has (FIRST_DATA + k) old)) (λ gone. both (FIRST_DATA + k) gone (new_cases (FIRST_DATA + k) has));
      others = λ lacked lacks. bit_other k below (λ new_one. lacks (its_new (FIRST_DATA + k) (among_right kept fresh (FIRST_DATA + k) new_one))) (λ gone. lacked (had.its (FIRST_DATA + k) (among_right kept cut (FIRST_DATA + k) gone)));
    };
  }
    where
      own_or_free : (b : ℕ) → Among kept b ⊎ Among fresh b → HasBlock version (node_at m i) b ⊎ (IsTaken version m b → ⊥)
      own_or_free b (inl own) = inl (had.its b (among_left kept cut b own))
      own_or_free b (inr new_one) = inr (free_fresh b new_one)

      must_be_fresh : (b : ℕ) → (HasBlock version (node_at m i) b → ⊥) → Among kept b ⊎ Among fresh b → Among fresh b
      must_be_fresh b lacked (inl own) = absurd (lacked (had.its b (among_left kept cut b own)))
      must_be_fresh b lacked (inr new_one) = new_one

      must_be_cut : (b : ℕ) → (HasBlock version new b → ⊥) → Among kept b ⊎ Among cut b → Among cut b
      must_be_cut b lacks (inl own) = absurd (lacks (its_new b (among_left kept fresh b own)))
      must_be_cut b lacks (inr gone) = gone

      both : (b : ℕ) → Among cut b → Among kept b ⊎ Among fresh b → ⊥
      both b gone (inl own) = distinct_apart kept cut had.distinct b own gone
      both b gone (inr new_one) = fresh_apart b new_one (among_right kept cut b gone)

-- A file's bytes, size and time, as its inode has them
pub record IsNodeOf (version : FormatVersion) (g : FileNode) (p : List ℕ) : Type 0 where
  pub born : 1 ≤ g.generation
  pub size : g.size ≡ length p
  pub small : length p ≤ most_bytes version
  pub timed : g.mtime.nanos ≤ MAX_NANOS
  pub absent : drop (extra_count version g.size) g.more ≡ replicate (MORE_BLOCKS - extra_count version g.size) 0
  pub fits : Fits (File g)

-- The file at number i becomes g, whose blocks are kept ones and new ones, in which these bytes are
-- written to some in the middle
pub Puts-changed : (version : FormatVersion) (m n : Map) (i : ℕ) (g : FileNode) (p kept cut fresh xs bs ys bytes : List ℕ) → is_file_number i ≡ true → HasSoundFiles version m
    → HadBlocks version m i (kept ++ cut) → Distinct fresh → AllByRecursion HasBit fresh → AreClear m fresh
    → file_blocks version g ≡ kept ++ fresh → kept ++ fresh ≡ xs ++ bs ++ ys → ((b : ℕ) → Among xs b ⊎ Among ys b → Among kept b)
    → length bytes ≡ BLOCK_BYTES * length bs → Becomes m n (all_written i (File g) cut fresh bs bytes) → IsNodeOf version g p
    → held m xs ++ bytes ++ held m ys ≡ p ++ replicate (room_of version g.size - length p) 0
    → Puts version m n i (record { generation = g.generation; file = Some (record { bytes = p; mtime = g.mtime }) })
Puts-changed version m n i g p kept cut fresh xs bs ys bytes number sound had apart bits clear blocks_are parts stay whole is node holds =
    Puts-becomes version m n i g p number sound
    (Replaces-changed version m n i (File g) kept cut fresh bs bytes low sound had fresh_bits clear_bits has_new its_new bs_new is node.fits)
    (record {
      born = node.born;
      size = node.size;
      small = node.small;
      timed = node.timed;
      on_disk = subst (AllByRecursion (IsDataBlock n.layout.blocks)) (sym blocks_are) (all_from (IsDataBlock n.layout.blocks) (kept ++ fresh) (λ b has. subst (λ (s : Shape). IsDataBlock s.blocks b) (sym is.layout) (range b has)));
      distinct = pairs_distinct (file_blocks version g) (subst Distinct (sym blocks_are) all_distinct);
      absent = node.absent;
      sized = subst (AllByRecursion (λ b. length (object n (block b)) ≡ BLOCK_BYTES)) (sym blocks_are) (all_from (λ b. length (object n (block b)) ≡ BLOCK_BYTES) (kept ++ fresh) (λ b has. sized b (cases_Among bs b) has));
      held_bytes = held_bytes;
    })
  where
    low : i < INODES
    low = (IsFileNumber-test i number).to

    fresh_bits : (b : ℕ) → Among fresh b → HasBit b
    fresh_bits b has = all_among HasBit fresh b bits has

    clear_bits : (b : ℕ) → Among fresh b → object m (bit (b - FIRST_DATA)) ≡ 0 ∷ []
    clear_bits b has = all_among (λ c. object m (bit (c - FIRST_DATA)) ≡ 0 ∷ []) fresh b clear has

    has_new : (b : ℕ) → IsAmong (file_blocks version g) b → Among (kept ++ fresh) b
    has_new b has = subst (λ cs. Among cs b) blocks_are (is_among (file_blocks version g) b has)

    its_new : (b : ℕ) → Among (kept ++ fresh) b → IsAmong (file_blocks version g) b
    its_new b has = among_is (file_blocks version g) b (subst (λ cs. Among cs b) (sym blocks_are) has)

    bs_new : (b : ℕ) → Among bs b → Among (kept ++ fresh) b
    bs_new b has = subst (λ cs. Among cs b) (sym parts) (among_left (xs ++ bs) ys b (among_right xs bs b has))

    fresh_old : (b : ℕ) → Among fresh b → Among (kept ++ cut) b → ⊥
    fresh_old = fresh_apart version m n i (File g) kept cut fresh bs bytes low sound had fresh_bits clear_bits has_new its_new bs_new is

    all_distinct : Distinct (kept ++ fresh)
    all_distinct = distinct_append kept fresh (distinct_left kept cut had.distinct) apart (λ b own new_one. fresh_old b new_one (among_left kept cut b own))

    in_parts : Distinct (xs ++ bs ++ ys)
    in_parts = subst Distinct parts all_distinct

    range : (b : ℕ) → Among (kept ++ fresh) b → IsDataBlock m.layout.blocks b
    range b has = by_either (among_either kept fresh b has)
      where
        by_either : Among kept b ⊎ Among fresh b → IsDataBlock m.layout.blocks b
        by_either (inl own) = had.on_disk b (among_left kept cut b own)
        by_either (inr new_one) = fresh_on_disk version m n i (File g) kept cut fresh bs bytes low sound had fresh_bits clear_bits has_new its_new bs_new is b new_one

    stays : (b : ℕ) → Among (kept ++ fresh) b → (Among bs b → ⊥) → object n (block b) ≡ object m (block b)
    stays b has lacks = block_stays version m n i (File g) kept cut fresh bs bytes low sound had fresh_bits clear_bits has_new its_new bs_new is b (range b has) lacks

    written : (held n bs ≡ bytes) × AllByRecursion (λ b. length (object n (block b)) ≡ BLOCK_BYTES) bs
    written = blocks_hold n bs bytes (λ b. object m (block b)) (distinct_right xs bs (distinct_left (xs ++ bs) ys in_parts)) whole
        (λ b has. block_last version m n i (File g) kept cut fresh bs bytes low sound had fresh_bits clear_bits has_new its_new bs_new is b (range b (bs_new b has)))

    left : (b : ℕ) → Among xs b → object n (block b) ≡ object m (block b)
    left b has = stays b (among_left kept fresh b (stay b (inl has))) (λ in_bs. distinct_apart xs bs (distinct_left (xs ++ bs) ys in_parts) b has in_bs)

    right : (b : ℕ) → Among ys b → object n (block b) ≡ object m (block b)
    right b has = stays b (among_left kept fresh b (stay b (inr has))) (λ in_bs. distinct_apart (xs ++ bs) ys in_parts b (among_right xs bs b in_bs) has)

    sized : (b : ℕ) → Among bs b ⊎ (Among bs b → ⊥) → Among (kept ++ fresh) b → length (object n (block b)) ≡ BLOCK_BYTES
    sized b (inl in_bs) has = all_among (λ c. length (object n (block c)) ≡ BLOCK_BYTES) bs b written.1 in_bs
    sized b (inr lacks) has = ap length (stays b has lacks) ∙ had.whole b (among_left kept cut b (must_be_kept (among_either (xs ++ bs) ys b (subst (λ cs. Among cs b) parts has))))
      where
        by_front : Among xs b ⊎ Among bs b → Among kept b
        by_front (inl in_xs) = stay b (inl in_xs)
        by_front (inr in_bs) = absurd (lacks in_bs)

        must_be_kept : Among (xs ++ bs) b ⊎ Among ys b → Among kept b
        must_be_kept (inl in_front) = by_front (among_either xs bs b in_front)
        must_be_kept (inr in_ys) = stay b (inr in_ys)

    held_bytes : stored version n g ≡ p ++ replicate (room_of version g.size - length p) 0
    held_bytes =
        ap (held n) (blocks_are ∙ parts)
        ∙ held_append n (xs ++ bs) ys
        ∙ ap (λ v. v ++ held n ys) (held_append n xs bs)
        ∙ ap (λ v. v ++ held n bs ++ held n ys) (held_others m n xs (λ b has. left b (is_among xs b has)))
        ∙ ap (λ v. held m xs ++ v ++ held n ys) written.0
        ∙ ap (λ v. held m xs ++ bytes ++ v) (held_others m n ys (λ b has. right b (is_among ys b has)))
        ∙ holds
