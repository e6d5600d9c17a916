-- An inode is read from its bytes as it was written.
use Rattle.std.proofs.Common.{ℕ, ◌≡◌, ◌<◌, ◌+◌, ◌-◌, ◌*◌, ◌^◌, ◌==◌, cond, List, [], ◌∷◌, ◌++◌, length, map, take, drop, get_or, suc, replicate, refl, sym, ap, ◌∙◌, append_assoc, length-append, lit<, arith}
use Rattle.std.specs.Prelude.{flat_map}
use Rattle.std.specs.Int.{w32, w64, to_le_bytes, from_le_bytes}
use Rattle.std.specs.List.{range_with_len}
use Rattle.std.proofs.lemmas.List.{take_at, drop_at}
use Rattle.std.proofs.lemmas.Nat.{from_le_bytes-to_le_bytes_4, from_le_bytes-to_le_bytes_8}
use Rattle.journal_world.specs.Addresses.{Value}
use Rattle.journal_inode.specs.declared.node.TheConstants.{MORE_BLOCKS}
use Rattle.journal_inode.specs.declared.node.Time.{Time}
use Rattle.journal_inode.specs.declared.node.Node.{Node}
use Rattle.journal_inode.specs.declared.node.Node.TheVariants.{Free, Root, File}
use Rattle.journal_inode.specs.Nodes.{no_time, no_more, bytes_of_fields, inode_bytes, file_from, word_at, long_at, more_at, time_at, node_of, IsTime, Fits}

kind_read : (k g s b : ℕ) (t : Time) (more : List ℕ) → k < 2 ^ 32 → word_at (bytes_of_fields k g s b t more) 0 ≡ k
unfolding bytes_of_fields word_at
kind_read k g s b t more fits = from_le_bytes-to_le_bytes_4 k fits

generation_read : (k g s b : ℕ) (t : Time) (more : List ℕ) → g < 2 ^ 32 → word_at (bytes_of_fields k g s b t more) 4 ≡ g
unfolding bytes_of_fields word_at
generation_read k g s b t more fits = from_le_bytes-to_le_bytes_4 g fits

size_read : (k g s b : ℕ) (t : Time) (more : List ℕ) → s < 2 ^ 64 → long_at (bytes_of_fields k g s b t more) 8 ≡ s
unfolding bytes_of_fields long_at
size_read k g s b t more fits = from_le_bytes-to_le_bytes_8 s fits

block_read : (k g s b : ℕ) (t : Time) (more : List ℕ) → b < 2 ^ 64 → long_at (bytes_of_fields k g s b t more) 16 ≡ b
unfolding bytes_of_fields long_at
block_read k g s b t more fits = from_le_bytes-to_le_bytes_8 b fits

time_read : (k g s b : ℕ) (t : Time) (more : List ℕ) → IsTime t → time_at (bytes_of_fields k g s b t more) 24 ≡ t
unfolding bytes_of_fields word_at
time_read k g s b t more fits =
    ap (λ n. record { secs = n; nanos = from_le_bytes w32 (to_le_bytes w32 t.nanos) }) (from_le_bytes-to_le_bytes_4 t.secs fits.0)
    ∙ ap (λ n. record { secs = t.secs; nanos = n }) (from_le_bytes-to_le_bytes_4 t.nanos fits.1)

-- the number in 8 bytes that stand behind others
long_read : (front rest : Value) (n at : ℕ) → length front ≡ at → n < 2 ^ 64 → long_at (front ++ (to_le_bytes w64 n ++ rest)) at ≡ n
unfolding long_at
long_read front rest n at is fits =
    ap (λ k. from_le_bytes w64 (take k (drop at (front ++ (to_le_bytes w64 n ++ rest))))) (let eight : at + 8 - at ≡ 8 = omega arith in eight)
    ∙ ap (λ v. from_le_bytes w64 (take 8 v)) (drop_at front (to_le_bytes w64 n ++ rest) at is)
    ∙ ap (from_le_bytes w64) (take_at (to_le_bytes w64 n) rest 8 refl)
    ∙ from_le_bytes-to_le_bytes_8 n fits

-- numbers of 8 bytes each, one behind another
longs_read : (ns : List ℕ) (front rest v : Value) (from j : ℕ) → v ≡ front ++ (flat_map (to_le_bytes w64) ns ++ rest) → length front ≡ from + 8 * j → ((k : ℕ) → get_or ns k 0 < 2 ^ 64)
    → map (λ k. long_at v (from + 8 * k)) (range_with_len j (length ns)) ≡ ns
longs_read [] front rest v from j is at fits = refl
longs_read (n ∷ ns) front rest v from j is at fits =
    ap (λ x. x ∷ map (λ k. long_at v (from + 8 * k)) (range_with_len (j + 1) (length ns)))
    (ap (λ x. long_at x (from + 8 * j)) first ∙ long_read front (flat_map (to_le_bytes w64) ns ++ rest) n (from + 8 * j) at (fits 0))
    ∙ ap (λ xs. n ∷ xs) (longs_read ns (front ++ to_le_bytes w64 n) rest v from (j + 1)
    (first ∙ sym (append_assoc front (to_le_bytes w64 n) (flat_map (to_le_bytes w64) ns ++ rest)))
    (length-append front (to_le_bytes w64 n) ∙ (let eight : length (to_le_bytes w64 n) ≡ 8 = refl in omega (arith, at, eight)))
    (λ k. fits (suc k)))
  where
    first : v ≡ front ++ (to_le_bytes w64 n ++ (flat_map (to_le_bytes w64) ns ++ rest))
    first = is ∙ ap (λ x. front ++ x) (append_assoc (to_le_bytes w64 n) (flat_map (to_le_bytes w64) ns) rest)

more_read : (k g s b : ℕ) (t : Time) (more : List ℕ) → length more ≡ MORE_BLOCKS → ((k : ℕ) → get_or more k 0 < 2 ^ 64) → more_at (bytes_of_fields k g s b t more) ≡ more
unfolding bytes_of_fields
more_read k g s b t more many fits =
    ap (λ n. map (λ j. long_at (bytes_of_fields k g s b t more) (32 + 8 * j)) (range_with_len 0 n)) (sym many)
    ∙ longs_read more front (replicate 8 0) (bytes_of_fields k g s b t more) 32 0 (append_assoc front (flat_map (to_le_bytes w64) more) (replicate 8 0)) refl fits
  where
    front : Value
    front = to_le_bytes w32 k ++ to_le_bytes w32 g ++ to_le_bytes w64 s ++ to_le_bytes w64 b ++ to_le_bytes w32 t.secs ++ to_le_bytes w32 t.nanos

-- what the kind says of the rest
abbrev node_by : ℕ → Value → Node
node_by k v = cond (k == 2) (File (file_from v)) (cond (k == 1) (Root (time_at v 24)) (Free (word_at v 4)))

by_kind : (k : ℕ) (v : Value) → word_at v 0 ≡ k → node_of v ≡ node_by k v
unfolding node_of
by_kind k v is = ap (λ n. node_by n v) is

-- what is written is read
pub node_of-bytes_of : (n : Node) → Fits n → node_of (inode_bytes n) ≡ n
unfolding node_of
node_of-bytes_of (Free g) fits =
    by_kind 0 (bytes_of_fields 0 g 0 0 no_time no_more) (kind_read 0 g 0 0 no_time no_more (lit< tt)) ∙ ap Free (generation_read 0 g 0 0 no_time no_more fits)
node_of-bytes_of (Root t) fits =
    by_kind 1 (bytes_of_fields 1 1 0 0 t no_more) (kind_read 1 1 0 0 t no_more (lit< tt)) ∙ ap Root (time_read 1 1 0 0 t no_more fits)
node_of-bytes_of (File f) fits =
    by_kind 2 (inode_bytes (File f)) (kind_read 2 f.generation f.size f.block f.mtime f.more (lit< tt))
    ∙ ap (λ g. File (record { generation = g; size = long_at (inode_bytes (File f)) 8; block = long_at (inode_bytes (File f)) 16; more = more_at (inode_bytes (File f)); mtime = time_at (inode_bytes (File f)) 24 })) (generation_read 2 f.generation f.size f.block f.mtime f.more fits.0)
    ∙ ap (λ s. File (record { generation = f.generation; size = s; block = long_at (inode_bytes (File f)) 16; more = more_at (inode_bytes (File f)); mtime = time_at (inode_bytes (File f)) 24 })) (size_read 2 f.generation f.size f.block f.mtime f.more fits.1)
    ∙ ap (λ b. File (record { generation = f.generation; size = f.size; block = b; more = more_at (inode_bytes (File f)); mtime = time_at (inode_bytes (File f)) 24 })) (block_read 2 f.generation f.size f.block f.mtime f.more fits.2)
    ∙ ap (λ t. File (record { generation = f.generation; size = f.size; block = f.block; more = more_at (inode_bytes (File f)); mtime = t })) (time_read 2 f.generation f.size f.block f.mtime f.more fits.3)
    ∙ ap (λ m. File (record { generation = f.generation; size = f.size; block = f.block; more = m; mtime = f.mtime })) (more_read 2 f.generation f.size f.block f.mtime f.more fits.4 fits.5)

-- what is read of the bytes that were written of an inode is that inode
pub read-written : (v : Value) (read n : Node) → read ≡ node_of v → Fits n → v ≡ inode_bytes n → read ≡ n
read-written v read n is fits at = is ∙ ap node_of at ∙ node_of-bytes_of n fits

-- it writes the same bytes
pub written-read : (v : Value) (read n : Node) → read ≡ node_of v → Fits n → v ≡ inode_bytes n → inode_bytes read ≡ v
written-read v read n is fits at = ap inode_bytes (read-written v read n is fits at) ∙ sym at
