-- An inode is read from its bytes as it was written.
use Rattle.std.proofs.Common.{ℕ, ◌≡◌, ◌<◌, ◌≤◌, Option, Some, None, ◌+◌, ◌-◌, ◌*◌, ◌^◌, ◌==◌, cond, List, [], ◌∷◌, ◌++◌, length, map, get_or, suc, replicate, refl, sym, ap, ◌∙◌, append_assoc, length-append, arith}
use Rattle.std.specs.Prelude.{flat_map, slice_range}
use Rattle.std.specs.Int.{w32, w64, to_le_bytes, from_le_bytes}
use Rattle.std.specs.List.{range_with_len}
use Rattle.std.proofs.lemmas.Nat.{from_le_bytes-to_le_bytes_2, from_le_bytes-to_le_bytes_4, from_le_bytes-to_le_bytes_8}
use Rattle.std.proofs.lemmas.List.{get_or_push, length-replicate}
use Rattle.journal_tree.specs.Fit.{IsOptionalLong}
use Rattle.journal_tree.specs.declared.time.Time.{Time}
use Rattle.journal_tree.specs.declared.reply.Attributes.{Attributes}
use Rattle.journal_tree.specs.declared.reply.Kind.{Kind}
use Rattle.journal_tree.specs.declared.reply.Kind.TheVariants.{Directory, File, Link}
use Rattle.journal_treestore.specs.declared.inode.TheConstants.{DIRECT_BLOCKS}
use Rattle.journal_treestore.specs.declared.inode.Head.{Head}
use Rattle.journal_treestore.specs.declared.inode.Inode.{Inode}
use Rattle.journal_treestore.specs.declared.inode.Inode.TheVariants.{Free, Used}
use Rattle.journal_treestore.specs.Bytes.{half_at, word_at, long_at}
use Rattle.journal_treestore.specs.Inodes.{kind_byte, front_bytes, verifier_bytes, verifier_flag, rest_bytes, verifier_at, front_of, no_time, no_blocks, inode_bytes, blocks_at, head_from, inode_from, name_from, HasRoom, InodeHasRoom}
use Rattle.journal_treestore.proofs.Pieces.{slice_behind}
use Rattle.journal_treestore.proofs.Splicing.{length-bytes_of}
use Rattle.journal_treestore.proofs.Whole.{length-verifier}

-- ── the numbers before the blocks, with anything behind them ──

module _ (k l m g s o gr d p : ℕ) (t u : Time) (rest : List ℕ) where
  abbrev front : List ℕ
  front = front_bytes k l m g s o gr d p t u

  kind_read : get_or (front_bytes k l m g s o gr d p t u ++ rest) 0 0 ≡ k
  unfolding front_bytes
  kind_read = refl

  length_read : get_or (front_bytes k l m g s o gr d p t u ++ rest) 1 0 ≡ l
  unfolding front_bytes
  length_read = refl

  mode_read : m < 2 ^ 16 → half_at (front_bytes k l m g s o gr d p t u ++ rest) 2 ≡ m
  unfolding front_bytes half_at
  mode_read fits = from_le_bytes-to_le_bytes_2 m fits

  generation_read : g < 2 ^ 32 → word_at (front_bytes k l m g s o gr d p t u ++ rest) 4 ≡ g
  unfolding front_bytes word_at
  generation_read fits = from_le_bytes-to_le_bytes_4 g fits

  size_read : s < 2 ^ 64 → long_at (front_bytes k l m g s o gr d p t u ++ rest) 8 ≡ s
  unfolding front_bytes long_at
  size_read fits = from_le_bytes-to_le_bytes_8 s fits

  owner_read : o < 2 ^ 32 → word_at (front_bytes k l m g s o gr d p t u ++ rest) 16 ≡ o
  unfolding front_bytes word_at
  owner_read fits = from_le_bytes-to_le_bytes_4 o fits

  group_read : gr < 2 ^ 32 → word_at (front_bytes k l m g s o gr d p t u ++ rest) 20 ≡ gr
  unfolding front_bytes word_at
  group_read fits = from_le_bytes-to_le_bytes_4 gr fits

  directory_read : d < 2 ^ 32 → word_at (front_bytes k l m g s o gr d p t u ++ rest) 24 ≡ d
  unfolding front_bytes word_at
  directory_read fits = from_le_bytes-to_le_bytes_4 d fits

  place_read : p < 2 ^ 32 → word_at (front_bytes k l m g s o gr d p t u ++ rest) 28 ≡ p
  unfolding front_bytes word_at
  place_read fits = from_le_bytes-to_le_bytes_4 p fits

  mtime_secs : t.secs < 2 ^ 32 → word_at (front_bytes k l m g s o gr d p t u ++ rest) 32 ≡ t.secs
  unfolding front_bytes word_at
  mtime_secs fits = from_le_bytes-to_le_bytes_4 t.secs fits

  mtime_nanos : t.nanos < 2 ^ 32 → word_at (front_bytes k l m g s o gr d p t u ++ rest) 36 ≡ t.nanos
  unfolding front_bytes word_at
  mtime_nanos fits = from_le_bytes-to_le_bytes_4 t.nanos fits

  ctime_secs : u.secs < 2 ^ 32 → word_at (front_bytes k l m g s o gr d p t u ++ rest) 40 ≡ u.secs
  unfolding front_bytes word_at
  ctime_secs fits = from_le_bytes-to_le_bytes_4 u.secs fits

  ctime_nanos : u.nanos < 2 ^ 32 → word_at (front_bytes k l m g s o gr d p t u ++ rest) 44 ≡ u.nanos
  unfolding front_bytes word_at
  ctime_nanos fits = from_le_bytes-to_le_bytes_4 u.nanos fits

length-front : (k l m g s o gr d p : ℕ) (t u : Time) → length (front_bytes k l m g s o gr d p t u) ≡ 48
unfolding front_bytes
length-front k l m g s o gr d p t u = refl

-- ── the blocks ──

-- the number in 4 bytes that stand behind others
word_read : (front rest : List ℕ) (n at : ℕ) → length front ≡ at → n < 2 ^ 32 → word_at (front ++ (to_le_bytes w32 n ++ rest)) at ≡ n
unfolding word_at
word_read front rest n at is fits =
    ap (from_le_bytes w32) (slice_behind front (to_le_bytes w32 n) rest at (at + 4) is refl)
    ∙ from_le_bytes-to_le_bytes_4 n fits

-- numbers of 4 bytes each, one behind another
words_read : (ns : List ℕ) (front rest v : List ℕ) (from j : ℕ) → v ≡ front ++ (flat_map (to_le_bytes w32) ns ++ rest) → length front ≡ from + 4 * j → ((k : ℕ) → get_or ns k 0 < 2 ^ 32)
    → map (λ k. word_at v (from + 4 * k)) (range_with_len j (length ns)) ≡ ns
words_read [] front rest v from j is at fits = refl
words_read (n ∷ ns) front rest v from j is at fits =
    ap (λ x. x ∷ map (λ k. word_at v (from + 4 * k)) (range_with_len (j + 1) (length ns)))
    (ap (λ x. word_at x (from + 4 * j)) first ∙ word_read front (flat_map (to_le_bytes w32) ns ++ rest) n (from + 4 * j) at (fits 0))
    ∙ ap (λ xs. n ∷ xs) (words_read ns (front ++ to_le_bytes w32 n) rest v from (j + 1)
    (first ∙ sym (append_assoc front (to_le_bytes w32 n) (flat_map (to_le_bytes w32) ns ++ rest)))
    (length-append front (to_le_bytes w32 n) ∙ (let four : length (to_le_bytes w32 n) ≡ 4 = refl in omega (arith, at, four)))
    (λ k. fits (suc k)))
  where
    first : v ≡ front ++ (to_le_bytes w32 n ++ (flat_map (to_le_bytes w32) ns ++ rest))
    first = is ∙ ap (λ x. front ++ x) (append_assoc (to_le_bytes w32 n) (flat_map (to_le_bytes w32) ns) rest)

-- what stands behind the front, from left to right
regrouped : (front b z v n r t : List ℕ) → front ++ (b ++ z ++ v ++ n ++ r ++ t) ≡ front ++ (b ++ (z ++ (v ++ (n ++ (r ++ t)))))
regrouped front b z v n r t =
    ap (λ x. front ++ x) (
    append_assoc (b ++ z ++ v ++ n) r t
    ∙ append_assoc (b ++ z ++ v) n (r ++ t)
    ∙ append_assoc (b ++ z) v (n ++ (r ++ t))
    ∙ append_assoc b z (v ++ (n ++ (r ++ t))))

module _ (front blocks : List ℕ) (index : ℕ) (verifier : Option ℕ) (name : List ℕ) (at : length front ≡ 48) (many : length blocks ≡ DIRECT_BLOCKS) where
  abbrev b : List ℕ
  b = flat_map (to_le_bytes w32) blocks ++ to_le_bytes w32 index

  abbrev z : List ℕ
  z = replicate 4 0

  abbrev v : List ℕ
  v = verifier_bytes verifier

  abbrev r : List ℕ
  r = replicate (255 - length name) 0

  abbrev t : List ℕ
  t = verifier_flag verifier ∷ []

  grouped : front ++ rest_bytes blocks index verifier name ≡ front ++ (b ++ (z ++ (v ++ (name ++ (r ++ t)))))
  grouped = regrouped front b z v name r t

  blocks_read : ((j : ℕ) → get_or blocks j 0 < 2 ^ 32) → blocks_at (front ++ rest_bytes blocks index verifier name) ≡ blocks
  blocks_read fits =
      ap (λ n. map (λ j. word_at (front ++ rest_bytes blocks index verifier name) (48 + 4 * j)) (range_with_len 0 n)) (sym many)
      ∙ words_read blocks front (to_le_bytes w32 index ++ (z ++ (v ++ (name ++ (r ++ t))))) (front ++ rest_bytes blocks index verifier name) 48 0
      (grouped ∙ ap (λ x. front ++ x) (append_assoc (flat_map (to_le_bytes w32) blocks) (to_le_bytes w32 index) (z ++ (v ++ (name ++ (r ++ t)))))) at fits

  -- ── the index block ──

  before_index : length (front ++ flat_map (to_le_bytes w32) blocks) ≡ 240
  before_index = let bs = length-bytes_of blocks in length-append front (flat_map (to_le_bytes w32) blocks) ∙ omega (arith, at, many, bs)

  length-numbers : length b ≡ 196
  length-numbers =
      let bs = length-bytes_of blocks in
      let four : length (to_le_bytes w32 index) ≡ 4 = refl in
      length-append (flat_map (to_le_bytes w32) blocks) (to_le_bytes w32 index) ∙ omega (arith, many, bs, four)

  index_read : index < 2 ^ 32 → word_at (front ++ rest_bytes blocks index verifier name) 240 ≡ index
  index_read fits =
      ap (λ x. word_at x 240) (
      grouped
      ∙ ap (λ x. front ++ x) (append_assoc (flat_map (to_le_bytes w32) blocks) (to_le_bytes w32 index) (z ++ (v ++ (name ++ (r ++ t)))))
      ∙ sym (append_assoc front (flat_map (to_le_bytes w32) blocks) (to_le_bytes w32 index ++ (z ++ (v ++ (name ++ (r ++ t)))))))
      ∙ word_read (front ++ flat_map (to_le_bytes w32) blocks) (z ++ (v ++ (name ++ (r ++ t)))) index 240 before_index fits

  -- ── the verifier ──

  before_verifier : length (front ++ b ++ z) ≡ 248
  before_verifier =
      let bs = length-numbers in
      let zs : length z ≡ 4 = refl in
      length-append (front ++ b) z ∙ ap (λ n. n + length z) (length-append front b) ∙ omega (arith, at, bs, zs)

  behind_zeros : front ++ rest_bytes blocks index verifier name ≡ (front ++ b ++ z) ++ (v ++ (name ++ (r ++ t)))
  behind_zeros = grouped ∙ sym (append_assoc (front ++ b) z (v ++ (name ++ (r ++ t))) ∙ append_assoc front b (z ++ (v ++ (name ++ (r ++ t)))))

  before_name : length (front ++ b ++ z ++ v) ≡ 256
  before_name = let l = length-verifier verifier in length-append (front ++ b ++ z) v ∙ omega (arith, before_verifier, l)

  behind_verifier : front ++ rest_bytes blocks index verifier name ≡ (front ++ b ++ z ++ v) ++ (name ++ (r ++ t))
  behind_verifier = behind_zeros ∙ sym (append_assoc (front ++ b ++ z) v (name ++ (r ++ t)))

  flag_read : length name ≤ 255 → get_or (front ++ rest_bytes blocks index verifier name) 511 0 ≡ verifier_flag verifier
  flag_read few =
      ap (λ x. get_or x 511 0) (behind_verifier ∙ sym (append_assoc (front ++ b ++ z ++ v ++ name) r t ∙ append_assoc (front ++ b ++ z ++ v) name (r ++ t)))
      ∙ get_or_push (front ++ b ++ z ++ v ++ name ++ r) (verifier_flag verifier) 0 511 before_flag
    where
      before_flag : length (front ++ b ++ z ++ v ++ name ++ r) ≡ 511
      before_flag =
          let l = length-replicate {A = ℕ} (255 - length name) 0 in
          length-append (front ++ b ++ z ++ v ++ name) r ∙ ap (λ n. n + length r) (length-append (front ++ b ++ z ++ v) name) ∙ omega (arith, before_name, few, l)

  -- ── the name ──

  name_behind : slice_range (front ++ rest_bytes blocks index verifier name) 256 (256 + length name) ≡ name
  name_behind = ap (λ x. slice_range x 256 (256 + length name)) behind_verifier ∙ slice_behind (front ++ b ++ z ++ v) name (r ++ t) 256 (256 + length name) before_name refl

-- a verifier, if there is one
verifier_by : (v : List ℕ) (flag : ℕ) → get_or v 511 0 ≡ flag → verifier_at v ≡ cond (flag == 1) (Some (long_at v 248)) None
unfolding verifier_at
verifier_by v flag is = ap (λ n. cond (n == 1) (Some (long_at v 248)) None) is

eight_read : (front blocks : List ℕ) (index n : ℕ) (name : List ℕ) → length front ≡ 48 → length blocks ≡ DIRECT_BLOCKS → n < 2 ^ 64 → long_at (front ++ rest_bytes blocks index (Some n) name) 248 ≡ n
unfolding long_at
eight_read front blocks index n name at many fits =
    ap (λ x. from_le_bytes w64 (slice_range x 248 256)) (behind_zeros front blocks index (Some n) name at many)
    ∙ ap (from_le_bytes w64) (slice_behind (front ++ (flat_map (to_le_bytes w32) blocks ++ to_le_bytes w32 index) ++ replicate 4 0) (to_le_bytes w64 n) (name ++ (replicate (255 - length name) 0 ++ (1 ∷ []))) 248 256 (before_verifier front blocks index (Some n) name at many) refl)
    ∙ from_le_bytes-to_le_bytes_8 n fits

verifier_read : (front blocks : List ℕ) (index : ℕ) (verifier : Option ℕ) (name : List ℕ) → length front ≡ 48 → length blocks ≡ DIRECT_BLOCKS → length name ≤ 255 → IsOptionalLong verifier
    → verifier_at (front ++ rest_bytes blocks index verifier name) ≡ verifier
verifier_read front blocks index None name at many few fits = verifier_by (front ++ rest_bytes blocks index None name) 0 (flag_read front blocks index None name at many few)
verifier_read front blocks index (Some n) name at many few fits =
    verifier_by (front ++ rest_bytes blocks index (Some n) name) 1 (flag_read front blocks index (Some n) name at many few) ∙ ap Some (eight_read front blocks index n name at many fits)

pub name_read : (h : Head) (name : List ℕ) → length h.blocks ≡ DIRECT_BLOCKS → name_from (inode_bytes (Used h) name) ≡ name
unfolding name_from
name_read h name many =
    ap (λ n. slice_range (inode_bytes (Used h) name) 256 (256 + n))
    (length_read (kind_byte h.kind) (length name) h.attributes.mode h.generation h.size h.attributes.owner h.attributes.group h.directory h.place h.attributes.mtime h.attributes.ctime (rest_bytes h.blocks h.index h.attributes.verifier name))
    ∙ name_behind (front_of (kind_byte h.kind) (length name) h) h.blocks h.index h.attributes.verifier name
    (length-front (kind_byte h.kind) (length name) h.attributes.mode h.generation h.size h.attributes.owner h.attributes.group h.directory h.place h.attributes.mtime h.attributes.ctime) many

-- ── the whole inode ──

head_read : (h : Head) (kind many : ℕ) (name : List ℕ) → HasRoom h → length name ≤ 255 → head_from h.kind (front_of kind many h ++ rest_bytes h.blocks h.index h.attributes.verifier name) ≡ h
head_read h kind many name room few = λ i. record {
  kind = h.kind;
  generation = generation_read kind many a.mode h.generation h.size a.owner a.group h.directory h.place a.mtime a.ctime rest room.generation i;
  attributes = record {
    mode = mode_read kind many a.mode h.generation h.size a.owner a.group h.directory h.place a.mtime a.ctime rest room.mode i;
    owner = owner_read kind many a.mode h.generation h.size a.owner a.group h.directory h.place a.mtime a.ctime rest room.owner i;
    group = group_read kind many a.mode h.generation h.size a.owner a.group h.directory h.place a.mtime a.ctime rest room.group i;
    mtime = record {
      secs = mtime_secs kind many a.mode h.generation h.size a.owner a.group h.directory h.place a.mtime a.ctime rest room.mtime.0 i;
      nanos = mtime_nanos kind many a.mode h.generation h.size a.owner a.group h.directory h.place a.mtime a.ctime rest room.mtime.1 i;
    };
    ctime = record {
      secs = ctime_secs kind many a.mode h.generation h.size a.owner a.group h.directory h.place a.mtime a.ctime rest room.ctime.0 i;
      nanos = ctime_nanos kind many a.mode h.generation h.size a.owner a.group h.directory h.place a.mtime a.ctime rest room.ctime.1 i;
    };
    verifier = verifier_read (front_of kind many h) h.blocks h.index a.verifier name long room.count few room.verifier i;
  };
  directory = directory_read kind many a.mode h.generation h.size a.owner a.group h.directory h.place a.mtime a.ctime rest room.directory i;
  place = place_read kind many a.mode h.generation h.size a.owner a.group h.directory h.place a.mtime a.ctime rest room.place i;
  size = size_read kind many a.mode h.generation h.size a.owner a.group h.directory h.place a.mtime a.ctime rest room.size i;
  blocks = blocks_read (front_of kind many h) h.blocks h.index a.verifier name long room.count room.blocks i;
  index = index_read (front_of kind many h) h.blocks h.index a.verifier name long room.count room.index i;
}
  where
    a : Attributes
    a = h.attributes

    rest : List ℕ
    rest = rest_bytes h.blocks h.index h.attributes.verifier name

    long : length (front_of kind many h) ≡ 48
    long = length-front kind many a.mode h.generation h.size a.owner a.group h.directory h.place a.mtime a.ctime

-- what the kind says of the rest
abbrev inode_by : ℕ → List ℕ → Inode
inode_by k v = cond (k == 1) (Used (head_from Directory v)) (cond (k == 2) (Used (head_from File v)) (cond (k == 3) (Used (head_from Link v)) (Free (word_at v 4))))

by_kind : (k : ℕ) (v : List ℕ) → get_or v 0 0 ≡ k → inode_from v ≡ inode_by k v
unfolding inode_from
by_kind k v is = ap (λ n. inode_by n v) is

-- what is written is read
pub inode_read : (x : Inode) (name : List ℕ) → InodeHasRoom x → length name ≤ 255 → inode_from (inode_bytes x name) ≡ x
inode_read (Free g) name fits few =
    by_kind 0 (inode_bytes (Free g) name) (kind_read 0 0 0 g 0 0 0 0 0 no_time no_time (rest_bytes no_blocks 0 None []))
    ∙ ap Free (generation_read 0 0 0 g 0 0 0 0 0 no_time no_time (rest_bytes no_blocks 0 None []) fits)
inode_read (Used h) name room few = by h.kind refl
  where
    byte : (k : ℕ) → kind_byte h.kind ≡ k → get_or (inode_bytes (Used h) name) 0 0 ≡ k
    byte k is = kind_read (kind_byte h.kind) (length name) h.attributes.mode h.generation h.size h.attributes.owner h.attributes.group h.directory h.place h.attributes.mtime h.attributes.ctime (rest_bytes h.blocks h.index h.attributes.verifier name) ∙ is

    by : (k : Kind) → h.kind ≡ k → inode_from (inode_bytes (Used h) name) ≡ Used h
    by Directory is =
        by_kind 1 (inode_bytes (Used h) name) (byte 1 (ap kind_byte is))
        ∙ ap (λ k. Used (head_from k (inode_bytes (Used h) name))) (sym is) ∙ ap Used (head_read h (kind_byte h.kind) (length name) name room few)
    by File is =
        by_kind 2 (inode_bytes (Used h) name) (byte 2 (ap kind_byte is))
        ∙ ap (λ k. Used (head_from k (inode_bytes (Used h) name))) (sym is) ∙ ap Used (head_read h (kind_byte h.kind) (length name) name room few)
    by Link is =
        by_kind 3 (inode_bytes (Used h) name) (byte 3 (ap kind_byte is))
        ∙ ap (λ k. Used (head_from k (inode_bytes (Used h) name))) (sym is) ∙ ap Used (head_read h (kind_byte h.kind) (length name) name room few)

-- what is read of the bytes that were written of an inode is that inode
pub read-written : (v : List ℕ) (read x : Inode) (name : List ℕ) → read ≡ inode_from v → InodeHasRoom x → length name ≤ 255 → v ≡ inode_bytes x name → read ≡ x
read-written v read x name is room few at = is ∙ ap inode_from at ∙ inode_read x name room few
