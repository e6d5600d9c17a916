-- What the blocks of a file hold, block by block.
use Rattle.std.proofs.Common.{ℕ, zero, suc, ◌≡◌, ◌<◌, ◌≤◌, ◌+◌, ◌-◌, ◌*◌, ◌⊎◌, inl, inr, Bool, List, [], ◌∷◌, ◌++◌, length, take, drop, refl, sym, ap, subst, ◌∙◌, length-append, add-one, arith, rules}
use Rattle.std.specs.Prelude.{◌↔◌, IsTrue, Contains, slice_index, slice_index_or, slice_range}
use Rattle.std.specs.List.{AllByRecursion}
use Rattle.std.proofs.lemmas.List.{same_lists, places, length-take-le, length-drop}
use Rattle.std.proofs.lemmas.List.Elements.{All-nil, All-cons, All-head, All-tail, All-append}
use Rattle.journal_world.specs.declared.layout.TheConstants.{BLOCK_BYTES}
use Rattle.journal_world.specs.declared.moment.TheConstants.{MAX_NANOS}
use Rattle.journal_world.specs.Maps.{Map, are_objects}
use Rattle.journal_world.proofs.ObjectsOfMaps.{value_at-object}
use Rattle.journal_inode.specs.declared.version.FormatVersion.{FormatVersion}
use Rattle.journal_inode.specs.declared.version.FormatVersion.TheVariants.{One, Two}
use Rattle.journal_inode.specs.declared.node.FileNode.{FileNode}
use Rattle.journal_inode.specs.declared.node.TheConstants.{MORE_BLOCKS}
use Rattle.journal_inode.specs.Places.{addr_of, HasFiles, object}
use Rattle.journal_inode.specs.Places.Object.{block}
use Rattle.journal_inode.specs.SameFiles.{IsOnDisk-is_valid}
use Rattle.journal_inode.specs.Versions.{most_bytes, extra_count, room_of}
use Rattle.journal_inode.specs.Sound.{file_blocks, held, stored, IsAmong, IsDataBlock, IsSoundFile}
use Rattle.journal_inode.specs.Admitting.{AllZero, IsSoundBlock, AreSoundBlocks}
use Rattle.journal_inode.proofs.Tails.{length-block, zeros, zeros-AllZero, padded-AllZero, AllZero-padded}

-- a block is among these where the list contains it
pub among : (bs : List ℕ) (b : ℕ) → Contains bs b → IsAmong bs b
among [] b has = let low : has.0 < 0 = has.1 in omega (arith, low)
among (x ∷ []) b has = only has.0 has.1 has.2
  where
    only : (k : ℕ) → k < 1 → slice_index_or (x ∷ []) k b ≡ b → x ≡ b
    only zero low is = is
    only (suc k) low is = absurd (omega (arith, low))
among (x ∷ y ∷ ys) b has = by_place (λ k low is. among (y ∷ ys) b (k, low, is)) has.0 has.1 has.2
  where
    by_place : ((k : ℕ) → k < suc (length ys) → slice_index_or (y ∷ ys) k b ≡ b → IsAmong (y ∷ ys) b)
        → (k : ℕ) → k < suc (suc (length ys)) → slice_index_or (x ∷ y ∷ ys) k b ≡ b → (x ≡ b) ⊎ IsAmong (y ∷ ys) b
    by_place rest zero low is = inl is
    by_place rest (suc k) low is = inr (rest k (omega (arith, low)) is)

pub contained : (bs : List ℕ) (b : ℕ) → IsAmong bs b → Contains bs b
contained [] b has = absurd has
contained (x ∷ []) b has = (0, omega arith, has)
contained (x ∷ y ∷ ys) b (inl is) = (0, omega arith, is)
contained (x ∷ y ∷ ys) b (inr has) = let rest = contained (y ∷ ys) b has in (suc rest.0, (let low : rest.0 < length (y ∷ ys) = rest.1 in omega (arith, low)), rest.2)

drop_append : (xs ys : List ℕ) (n k : ℕ) → length xs ≡ k → drop n (xs ++ ys) ≡ drop n xs ++ drop (n - k) ys
drop_append xs ys n k whole = same_lists _ _ (search (rules, places)) (λ i d h. grind (arith, places))

drop_none : (n : ℕ) → drop {A = ℕ} n [] ≡ []
drop_none zero = refl
drop_none (suc n) = refl

drop_past : (v : List ℕ) (n : ℕ) → length v ≤ n → drop n v ≡ []
drop_past [] n past = drop_none n
drop_past (x ∷ v) zero past = absurd (omega arith)
drop_past (x ∷ v) (suc n) past = drop_past v n (omega arith)

parts : (xs ys : List ℕ) → AllZero (xs ++ ys) → AllZero xs × AllZero ys
parts [] ys all = (All-nil (λ (y : ℕ). y ≡ 0), all)
parts (x ∷ xs) ys all =
    let rest = parts xs ys (All-tail (λ (y : ℕ). y ≡ 0) x (xs ++ ys) all) in
    (All-cons (λ (y : ℕ). y ≡ 0) x xs (All-head (λ (y : ℕ). y ≡ 0) x (xs ++ ys) all) rest.0, rest.1)

-- a block whose number is within bounds is sound where the bytes from a size on are zero
pub block_decides : (m : Map) (b size : ℕ) (v tail : List ℕ) (t : Bool) → object m (block b) ≡ v → length v ≡ BLOCK_BYTES → IsDataBlock m.layout.blocks b → tail ≡ drop size v
    → (IsTrue t ↔ AllZero tail) → IsTrue t ↔ IsSoundBlock m size b
block_decides m b size v tail t here whole range is_tail decides = (
  (λ is. record { on_disk = range; sized = ap length here ∙ whole; padded = subst AllZero (same ∙ sym (ap (drop size) here)) (decides.0 is) }),
  (λ sound. decides.1 (subst AllZero (ap (drop size) here ∙ sym same) sound.padded)),
)
  where
    same : tail ≡ drop size v
    same = is_tail

-- a block that the file goes past has no such bytes
pub block_full : (m : Map) (b size : ℕ) → HasFiles m.layout → IsTrue (are_objects m.layout m.pairs) → IsDataBlock m.layout.blocks b → BLOCK_BYTES ≤ size
    → IsSoundBlock m size b
block_full m b size has objects range past =
    let whole : length (object m (block b)) ≡ BLOCK_BYTES =
    length-block m.layout b (object m (block b)) has range.0 range.1
    (value_at-object m (addr_of (block b)) (IsOnDisk-is_valid m.layout (block b) has range) objects) in
    record { on_disk = range; sized = whole; padded = subst AllZero (sym (drop_past (object m (block b)) size (omega (arith, whole, past)))) (All-nil (λ (y : ℕ). y ≡ 0)) }

abbrev AreWhole : Map → List ℕ → Type 0
AreWhole m bs = AllByRecursion (λ b. length (object m (block b)) ≡ BLOCK_BYTES) bs

-- whole blocks hold so many bytes
pub length-held : (m : Map) (bs : List ℕ) → AreWhole m bs → length (held m bs) ≡ BLOCK_BYTES * length bs
length-held m [] whole = refl
length-held m (b ∷ []) whole = whole.0
length-held m (b ∷ c ∷ bs) whole =
    let rest : length (held m (c ∷ bs)) ≡ BLOCK_BYTES * length (c ∷ bs) = length-held m (c ∷ bs) whole.1 in
    let first : length (object m (block b)) ≡ BLOCK_BYTES = whole.0 in
    length-append (object m (block b)) (held m (c ∷ bs)) ∙ (omega (arith, rest, first))

-- the first of two lists is a piece of them, and a piece of the second is one further on
first_piece : (xs ys : List ℕ) (k : ℕ) → length xs ≡ k → slice_range (xs ++ ys) 0 k ≡ xs
first_piece xs ys k whole = same_lists _ _ (search (rules, places)) (λ i d h. grind (arith, places))

later_piece : (xs ys : List ℕ) (k from to : ℕ) → length xs ≡ k → slice_range (xs ++ ys) (k + from) (k + to) ≡ slice_range ys from to
later_piece xs ys k from to whole = same_lists _ _ (search (rules, places)) (λ i d h. grind (arith, places))

whole_piece : (xs : List ℕ) (k : ℕ) → length xs ≡ k → slice_range xs 0 k ≡ xs
whole_piece xs k whole = same_lists _ _ (search (rules, places)) (λ i d h. grind (arith, places))

-- what one of them holds is that piece
pub held_at : (m : Map) (bs : List ℕ) (j : ℕ) → AreWhole m bs → j < length bs
    → slice_range (held m bs) (BLOCK_BYTES * j) (BLOCK_BYTES * j + BLOCK_BYTES) ≡ object m (block (slice_index bs j))
held_at m [] j whole low = absurd (omega (arith, low))
held_at m (b ∷ []) zero whole low = whole_piece (object m (block b)) BLOCK_BYTES whole.0
held_at m (b ∷ []) (suc j) whole low = absurd (omega (arith, low))
held_at m (b ∷ c ∷ bs) zero whole low = first_piece (object m (block b)) (held m (c ∷ bs)) BLOCK_BYTES whole.0
held_at m (b ∷ c ∷ bs) (suc j) whole low =
    ap (λ from. slice_range (held m (b ∷ c ∷ bs)) from (from + BLOCK_BYTES)) (let next : BLOCK_BYTES * suc j ≡ BLOCK_BYTES + BLOCK_BYTES * j = omega arith in next)
    ∙ ap (slice_range (held m (b ∷ c ∷ bs)) (BLOCK_BYTES + BLOCK_BYTES * j)) (let last : BLOCK_BYTES + BLOCK_BYTES * j + BLOCK_BYTES ≡ BLOCK_BYTES + (BLOCK_BYTES * j + BLOCK_BYTES) = omega arith in last)
    ∙ later_piece (object m (block b)) (held m (c ∷ bs)) BLOCK_BYTES (BLOCK_BYTES * j) (BLOCK_BYTES * j + BLOCK_BYTES) whole.0
    ∙ held_at m (c ∷ bs) j whole.1 (omega (arith, low))

-- what is said of each block is said of all that they hold
blocks_to : (m : Map) (bs : List ℕ) (size : ℕ) → AreSoundBlocks m size bs → AllByRecursion (IsDataBlock m.layout.blocks) bs × AreWhole m bs × AllZero (drop size (held m bs))
blocks_to m [] size sound = (tt, tt, subst AllZero (sym (drop_none size)) (All-nil (λ (y : ℕ). y ≡ 0)))
blocks_to m (b ∷ []) size sound = ((sound.0.on_disk, tt), (sound.0.sized, tt), sound.0.padded)
blocks_to m (b ∷ c ∷ bs) size sound =
    let rest = blocks_to m (c ∷ bs) (size - BLOCK_BYTES) sound.1 in (
      (sound.0.on_disk, rest.0),
      (sound.0.sized, rest.1),
      subst AllZero (sym (drop_append (object m (block b)) (held m (c ∷ bs)) size BLOCK_BYTES sound.0.sized))
          (All-append (λ (y : ℕ). y ≡ 0) (drop size (object m (block b))) (drop (size - BLOCK_BYTES) (held m (c ∷ bs))) sound.0.padded rest.2),
    )

blocks_from : (m : Map) (bs : List ℕ) (size : ℕ) → AllByRecursion (IsDataBlock m.layout.blocks) bs → AreWhole m bs → AllZero (drop size (held m bs)) → AreSoundBlocks m size bs
blocks_from m [] size range whole rest_is = tt
blocks_from m (b ∷ []) size range whole rest_is = (record { on_disk = range.0; sized = whole.0; padded = rest_is }, tt)
blocks_from m (b ∷ c ∷ bs) size range whole rest_is =
    let both = parts (drop size (object m (block b))) (drop (size - BLOCK_BYTES) (held m (c ∷ bs)))
    (subst AllZero (drop_append (object m (block b)) (held m (c ∷ bs)) size BLOCK_BYTES whole.0) rest_is) in
    (record { on_disk = range.0; sized = whole.0; padded = both.0 }, blocks_from m (c ∷ bs) (size - BLOCK_BYTES) range.1 whole.1 both.1)

-- the further blocks have room in the inode, and all blocks have room for the bytes
pub more_fits : (version : FormatVersion) (size : ℕ) → size ≤ most_bytes version → extra_count version size ≤ MORE_BLOCKS
more_fits One size small = omega arith
more_fits Two size small = omega (arith, small)

pub room_enough : (version : FormatVersion) (size : ℕ) → size ≤ most_bytes version → size ≤ room_of version size
room_enough One size small = small
room_enough Two size small = omega (arith, small)

pub length-blocks : (version : FormatVersion) (f : FileNode) → length f.more ≡ MORE_BLOCKS → f.size ≤ most_bytes version → length (file_blocks version f) ≡ 1 + extra_count version f.size
length-blocks version f whole small =
    let fits : extra_count version f.size ≤ length f.more = subst (λ n. extra_count version f.size ≤ n) (sym whole) (more_fits version f.size small) in
    let more : length (take (extra_count version f.size) f.more) ≡ extra_count version f.size = length-take-le (extra_count version f.size) f.more fits in
    omega (arith, more)

-- the blocks of a file are the first of the numbers that its inode has
pub first_blocks : (version : FormatVersion) (f : FileNode) (more : ℕ) (numbers : List ℕ) → more ≡ extra_count version f.size → numbers ≡ f.block ∷ f.more → take (more + 1) numbers ≡ file_blocks version f
first_blocks version f more numbers count are =
    ap (λ n. take n numbers) (add-one more) ∙ ap (take (suc more)) are ∙ ap (λ n. f.block ∷ take n f.more) count

-- a file whose numbers are within bounds is sound where its blocks are
pub file_decides : (version : FormatVersion) (m : Map) (f : FileNode) (t : Bool) → 1 ≤ f.generation → f.size ≤ most_bytes version → f.mtime.nanos ≤ MAX_NANOS
    → length f.more ≡ MORE_BLOCKS → AllZero (drop (extra_count version f.size) f.more)
    → (IsTrue t ↔ AreSoundBlocks m f.size (file_blocks version f)) → IsTrue t ↔ IsSoundFile version m f
file_decides version m f t born small timed many absent decides = (
  (λ is. let told = blocks_to m (file_blocks version f) f.size (decides.0 is) in made told.0 told.1 told.2),
  (λ sound. decides.1 (blocks_from m (file_blocks version f) f.size sound.on_disk sound.sized
      (AllZero-padded (stored version m f) (room_of version f.size - f.size) f.size sound.whole sound.padded))),
)
  where
    left : length (drop (extra_count version f.size) f.more) ≡ MORE_BLOCKS - extra_count version f.size
    left = length-drop (extra_count version f.size) f.more ∙ ap (λ n. n - extra_count version f.size) many

    made : AllByRecursion (IsDataBlock m.layout.blocks) (file_blocks version f) → AreWhole m (file_blocks version f) → AllZero (drop f.size (stored version m f)) → IsSoundFile version m f
    made range whole rest_is = record {
      born = born;
      small = small;
      on_disk = range;
      absent = zeros-AllZero _ absent ∙ ap zeros left;
      timed = timed;
      sized = whole;
      whole = length-take-le f.size (stored version m f) (subst (λ n. f.size ≤ n) (sym room) (room_enough version f.size small));
      padded = padded-AllZero (stored version m f) (room_of version f.size) f.size room (room_enough version f.size small) rest_is;
    }
      where
        room : length (stored version m f) ≡ room_of version f.size
        room = length-held m (file_blocks version f) whole ∙ ap (λ n. BLOCK_BYTES * n) (length-blocks version f many small)
