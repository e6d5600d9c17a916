-- Many objects are read or overwritten, one after another.
use Rattle.std.proofs.Common.{ℕ, zero, suc, ◌≡◌, ◌≢◌, ◌<◌, ◌≤◌, ◌+◌, ◌-◌, ◌*◌, ◌/◌, Bool, true, false, ◌==◌, ◌||◌, inl, inr, List, [], ◌∷◌, ◌++◌, length, take, drop, get_or, slice_range, refl, sym, ap, subst, ◌∙◌, arith, add-one, rules}
use Rattle.std.specs.List.{AllByRecursion, list_any}
use Rattle.std.specs.List.Sorted.{IsStrictlyIncreasing}
use Rattle.std.proofs.Math.Seq.{take-suc}
use Rattle.std.proofs.lemmas.Bool.{eq-eqb, ne_eqb, false≢true}
use Rattle.std.proofs.lemmas.List.{same_lists, places, take_all, length-take-le}
use Rattle.journal_world.specs.declared.layout.TheConstants.{BLOCK_BYTES, FIRST_DATA}
use Rattle.journal_world.specs.Addresses.{is_same, Shape}
use Rattle.journal_world.specs.Maps.{value_among}
use Rattle.journal_twophase.specs.Transactions.{TxnState}
use Rattle.journal_inode.specs.declared.version.FormatVersion.{FormatVersion}
use Rattle.journal_inode.specs.declared.place.TheConstants.{INODES}
use Rattle.journal_inode.specs.Places.{Object, addr_of, object}
use Rattle.journal_inode.specs.Places.Object.{bit, inode, block}
use Rattle.journal_inode.specs.Sound.{held}
use Rattle.journal_filestore.specs.Doing.{IsNotYetRead, ReadsOnly, HasReadNoBlocks, HasReadNoData, HasBit, AreFresh, LearnsThat, WritesObject, WritesEach, bits_written, blocks_written}
use Rattle.journal_filestore.proofs.Overwrites.{apart_blocks}
use Rattle.journal_filestore.proofs.Doings.{Tells-both, Tells-like}
use Rattle.journal_filestore.proofs.Among.{Among, Distinct, pairs_distinct, rising_distinct, held_append}
use Rattle.journal_filestore.proofs.Lasting.{WritesEach-append, WritesEach-one}

-- an object that lies elsewhere than the one that was read is not read yet
still_unread : (old new : TxnState) (o p : Object) → ReadsOnly old new p → is_same (addr_of o) (addr_of p) ≡ false → IsNotYetRead old o → IsNotYetRead new o
still_unread old new o p only other unread = only (addr_of o) other ∙ unread

block_block : (a b : ℕ) → a ≢ b → is_same (addr_of (block a)) (addr_of (block b)) ≡ false
block_block a b ne = apart_blocks a b _ ne

block_bit : (b k : ℕ) → FIRST_DATA ≤ b → is_same (addr_of (block b)) (addr_of (bit k)) ≡ false
block_bit b k from = apart_blocks b 514 _ (omega (arith, from))

bit_bit : (k j : ℕ) → k ≢ j → is_same (addr_of (bit k)) (addr_of (bit j)) ≡ false
bit_bit k j ne = ne_eqb k j ne

block_inode : (b i : ℕ) → FIRST_DATA ≤ b → i < INODES → is_same (addr_of (block b)) (addr_of (inode i)) ≡ false
block_inode b i from low = apart_blocks b (515 + i / 32) _ (omega (arith, from, low))

bit_inode : (k i : ℕ) → is_same (addr_of (bit k)) (addr_of (inode i)) ≡ false
bit_inode k i = apart_blocks 514 (515 + i / 32) _ (omega arith)

-- who read nothing read no data
pub NoData-none : (t : TxnState) → t.reads ≡ [] → HasReadNoData t
NoData-none t none = ((λ b from. ap (λ rs. value_among rs (addr_of (block b))) none), (λ k low. ap (λ rs. value_among rs (addr_of (bit k))) none))

-- nor who then read an inode
pub NoData-inode : (old new : TxnState) (i : ℕ) → i < INODES → ReadsOnly old new (inode i) → HasReadNoData old → HasReadNoData new
NoData-inode old new i low only none = (
  (λ b from. still_unread old new (block b) (inode i) only (block_inode b i from low) (none.0 b from)),
  (λ k below. still_unread old new (bit k) (inode i) only (bit_inode k i) (none.1 k below)),
)

-- the block is not among those that were read
abbrev pub NotAmongRead : TxnState → List ℕ → Type 0
NotAmongRead t bs = (b : ℕ) → FIRST_DATA ≤ b → list_any (λ y. y == b) bs ≡ false → IsNotYetRead t (block b)

abbrev pub NotAmongBits : TxnState → List ℕ → Type 0
NotAmongBits t bs = (b : ℕ) → HasBit b → list_any (λ y. y == b) bs ≡ false → IsNotYetRead t (bit (b - FIRST_DATA))

or_parts : (a b : Bool) → (a || b) ≡ false → (a ≡ false) × (b ≡ false)
or_parts true b is = absurd (false≢true (sym is))
or_parts false b is = (refl, is)

any_push : (bs : List ℕ) (x b : ℕ) → list_any (λ y. y == b) (bs ++ x ∷ []) ≡ false → (list_any (λ y. y == b) bs ≡ false) × (b ≢ x)
any_push [] x b none = (refl, λ same. false≢true (sym (or_parts (x == b) false none).0 ∙ eq-eqb x b (sym same)))
any_push (y ∷ ys) x b none =
    let both = or_parts (y == b) (list_any (λ z. z == b) (ys ++ x ∷ [])) none in
    let rest = any_push ys x b both.1 in
    (ap (λ t. t || list_any (λ z. z == b) ys) both.0 ∙ rest.0, rest.1)

more_taken : (bs : List ℕ) (k : ℕ) → k < length bs → take (k + 1) bs ≡ take k bs ++ get_or bs k 0 ∷ []
more_taken bs k low = ap (λ j. take j bs) (add-one k) ∙ take-suc bs k 0 low

-- one more block was read
pub NotAmong-more : (old new : TxnState) (bs : List ℕ) (k : ℕ) → k < length bs → NotAmongRead old (take k bs) → ReadsOnly old new (block (get_or bs k 0)) → NotAmongRead new (take (k + 1) bs)
NotAmong-more old new bs k low before only b from none =
    let parts = any_push (take k bs) (get_or bs k 0) b (ap (list_any (λ y. y == b)) (sym (more_taken bs k low)) ∙ none) in
    still_unread old new (block b) (block (get_or bs k 0)) only (block_block b (get_or bs k 0) parts.1) (before b from parts.0)

pub NotAmong-bit : (old new : TxnState) (bs : List ℕ) (k : ℕ) → k < length bs → HasBit (get_or bs k 0) → NotAmongBits old (take k bs) → ReadsOnly old new (bit (get_or bs k 0 - FIRST_DATA)) → NotAmongBits new (take (k + 1) bs)
NotAmong-bit old new bs k low its before only b has none =
    let parts = any_push (take k bs) (get_or bs k 0) b (ap (list_any (λ y. y == b)) (sym (more_taken bs k low)) ∙ none) in
    still_unread old new (bit (b - FIRST_DATA)) (bit (get_or bs k 0 - FIRST_DATA)) only
    (bit_bit _ _ (λ same. parts.1 (let from : FIRST_DATA ≤ b = has.0 in let its_from : FIRST_DATA ≤ get_or bs k 0 = its.0 in omega (arith, same, from, its_from)))) (before b has parts.0)

pub NoBlocks-bit : (old new : TxnState) (k : ℕ) → ReadsOnly old new (bit k) → HasReadNoBlocks old → HasReadNoBlocks new
NoBlocks-bit old new k only none b from = still_unread old new (block b) (bit k) only (block_bit b k from) (none b from)

-- a block that is none of those before it
pub distinct_place : (bs : List ℕ) (k : ℕ) → Distinct bs → k < length bs → list_any (λ y. y == get_or bs k 0) (take k bs) ≡ false
distinct_place [] k each low = absurd (omega (arith, low))
distinct_place (x ∷ xs) zero each low = refl
distinct_place (x ∷ xs) (suc k) each low =
    ap (λ t. t || list_any (λ y. y == get_or xs k 0) (take k xs)) (ne_eqb x (get_or xs k 0) (λ same. each.0 (subst (Among xs) (sym same) (at xs k (omega (arith, low))))))
    ∙ distinct_place xs k each.1 (omega (arith, low))
  where
    at : (ys : List ℕ) (j : ℕ) → j < length ys → Among ys (get_or ys j 0)
    at [] j low = absurd (omega (arith, low))
    at (y ∷ ys) zero low = inl refl
    at (y ∷ ys) (suc j) low = inr (at ys j (omega (arith, low)))

-- what blocks hold of which the first was read, and then one more
pub Tells-first : {version : FormatVersion} (layout : Shape) (old new : TxnState) (bs : List ℕ) (v : List ℕ) → 0 < length bs → LearnsThat version layout old new (λ m. object m (block (get_or bs 0 0)) ≡ v)
    → LearnsThat version layout old new (λ m. held m (take 1 bs) ≡ v)
Tells-first layout old new [] v some told = absurd (omega (arith, some))
Tells-first layout old new (x ∷ xs) v some told = told

pub Tells-next : {version : FormatVersion} (layout : Shape) (t0 t1 t2 : TxnState) (bs bytes v : List ℕ) (k : ℕ) → k < length bs → LearnsThat version layout t0 t1 (λ m. held m (take k bs) ≡ bytes)
    → LearnsThat version layout t1 t2 (λ m. object m (block (get_or bs k 0)) ≡ v) → LearnsThat version layout t0 t2 (λ m. held m (take (k + 1) bs) ≡ bytes ++ v)
Tells-next layout t0 t1 t2 bs bytes v k low before told =
    Tells-like layout t0 t2 _ _
    (λ m sound both.
    ap (held m) (more_taken bs k low) ∙ held_append m (take k bs) (get_or bs k 0 ∷ []) ∙ ap (λ x. x ++ object m (block (get_or bs k 0))) both.0 ∙ ap (λ x. bytes ++ x) both.1)
    (Tells-both layout t0 t1 t2 _ _ before told)

pub Tells-whole : {version : FormatVersion} (layout : Shape) (old new : TxnState) (bs bytes : List ℕ) (k : ℕ) → length bs ≤ k → LearnsThat version layout old new (λ m. held m (take k bs) ≡ bytes) → LearnsThat version layout old new (λ m. held m bs ≡ bytes)
Tells-whole layout old new bs bytes k all told = Tells-like layout old new _ _ (λ m sound is. ap (held m) (sym (take_all k bs all)) ∙ is) told

all_push : (P : ℕ → Type 0) (bs : List ℕ) (x : ℕ) → AllByRecursion P bs → P x → AllByRecursion P (bs ++ x ∷ [])
all_push P [] x all one = (one, tt)
all_push P (y ∷ ys) x all one = (all.0, all_push P ys x all.1 one)

pub all_more : (P : ℕ → Type 0) (bs : List ℕ) (k : ℕ) → k < length bs → AllByRecursion P (take k bs) → P (get_or bs k 0) → AllByRecursion P (take (k + 1) bs)
all_more P bs k low all one = subst (AllByRecursion P) (sym (more_taken bs k low)) (all_push P (take k bs) (get_or bs k 0) all one)

pub all_whole : (P : ℕ → Type 0) (bs : List ℕ) (k : ℕ) → length bs ≤ k → AllByRecursion P (take k bs) → AllByRecursion P bs
all_whole P bs k whole all = subst (AllByRecursion P) (take_all k bs whole) all

-- one more bit is written
bits_push : (v : ℕ) (bs : List ℕ) (x : ℕ) → bits_written v (bs ++ x ∷ []) ≡ bits_written v bs ++ (bit (x - FIRST_DATA), v ∷ []) ∷ []
bits_push v [] x = refl
bits_push v (b ∷ bs) x = ap (λ ws. (bit (b - FIRST_DATA), v ∷ []) ∷ ws) (bits_push v bs x)

pub bits_more : (layout : Shape) (old middle new : TxnState) (v : ℕ) (bs : List ℕ) (k : ℕ) → k < length bs → WritesEach layout old middle (bits_written v (take k bs)) → WritesObject layout middle new (bit (get_or bs k 0 - FIRST_DATA)) (v ∷ [])
    → WritesEach layout old new (bits_written v (take (k + 1) bs))
bits_more layout old middle new v bs k low before wrote =
    subst (WritesEach layout old new) (sym (ap (bits_written v) (more_taken bs k low) ∙ bits_push v (take k bs) (get_or bs k 0)))
    (WritesEach-append layout old middle new (bits_written v (take k bs)) ((bit (get_or bs k 0 - FIRST_DATA), v ∷ []) ∷ []) before (WritesEach-one layout middle new (bit (get_or bs k 0 - FIRST_DATA)) (v ∷ []) wrote))

pub bits_whole : (layout : Shape) (old new : TxnState) (v : ℕ) (bs : List ℕ) (k : ℕ) → length bs ≤ k → WritesEach layout old new (bits_written v (take k bs)) → WritesEach layout old new (bits_written v bs)
bits_whole layout old new v bs k whole wrote = subst (λ cs. WritesEach layout old new (bits_written v cs)) (take_all k bs whole) wrote

drop_twice : (a b : ℕ) (xs : List ℕ) → drop b (drop a xs) ≡ drop (a + b) xs
drop_twice a b xs = same_lists _ _ (search (rules, places)) (λ i d h. grind (arith, places))

piece_behind : (bytes : List ℕ) (k : ℕ) → take BLOCK_BYTES (drop k (drop BLOCK_BYTES bytes)) ≡ take BLOCK_BYTES (drop (BLOCK_BYTES + k) bytes)
piece_behind bytes k = ap (take BLOCK_BYTES) (drop_twice BLOCK_BYTES k bytes)

-- and one more block
blocks_push : (bs : List ℕ) (x : ℕ) (bytes : List ℕ) → blocks_written (bs ++ x ∷ []) bytes ≡ blocks_written bs bytes ++ (block x, take BLOCK_BYTES (drop (BLOCK_BYTES * length bs) bytes)) ∷ []
blocks_push [] x bytes = refl
blocks_push (b ∷ bs) x bytes =
    ap (λ ws. (block b, take BLOCK_BYTES bytes) ∷ ws)
    (blocks_push bs x (drop BLOCK_BYTES bytes)
    ∙ ap (λ v. blocks_written bs (drop BLOCK_BYTES bytes) ++ (block x, v) ∷ [])
    (piece_behind bytes (BLOCK_BYTES * length bs) ∙ ap (λ k. take BLOCK_BYTES (drop k bytes)) (let e : BLOCK_BYTES + BLOCK_BYTES * length bs ≡ BLOCK_BYTES * suc (length bs) = omega arith in e)))

pub blocks_more : (layout : Shape) (old middle new : TxnState) (bs bytes v : List ℕ) (k : ℕ) → k < length bs → v ≡ slice_range bytes (k * BLOCK_BYTES) (k * BLOCK_BYTES + BLOCK_BYTES)
    → WritesEach layout old middle (blocks_written (take k bs) bytes) → WritesObject layout middle new (block (get_or bs k 0)) v → WritesEach layout old new (blocks_written (take (k + 1) bs) bytes)
blocks_more layout old middle new bs bytes v k low is before wrote =
    subst (WritesEach layout old new) (sym (ap (λ cs. blocks_written cs bytes) (more_taken bs k low) ∙ blocks_push (take k bs) (get_or bs k 0) bytes))
    (WritesEach-append layout old middle new (blocks_written (take k bs) bytes) ((block (get_or bs k 0), piece) ∷ []) before
    (WritesEach-one layout middle new (block (get_or bs k 0)) piece (subst (WritesObject layout middle new (block (get_or bs k 0))) (is ∙ same) wrote)))
  where
    piece : List ℕ
    piece = take BLOCK_BYTES (drop (BLOCK_BYTES * length (take k bs)) bytes)

    same : slice_range bytes (k * BLOCK_BYTES) (k * BLOCK_BYTES + BLOCK_BYTES) ≡ piece
    same =
        ap (λ n. take n (drop (k * BLOCK_BYTES) bytes)) (let e : k * BLOCK_BYTES + BLOCK_BYTES - k * BLOCK_BYTES ≡ BLOCK_BYTES = omega arith in e)
        ∙ ap (λ n. take BLOCK_BYTES (drop n bytes)) (let front : length (take k bs) ≡ k = length-take-le k bs (omega (arith, low)) in omega (arith, front))

pub blocks_whole : (layout : Shape) (old new : TxnState) (bs bytes : List ℕ) (k : ℕ) → length bs ≤ k → WritesEach layout old new (blocks_written (take k bs) bytes) → WritesEach layout old new (blocks_written bs bytes)
blocks_whole layout old new bs bytes k whole wrote = subst (λ cs. WritesEach layout old new (blocks_written cs bytes)) (take_all k bs whole) wrote

-- blocks that were taken
pub AreFresh-taken : (bs : List ℕ) (n : ℕ) → length bs ≡ n → IsStrictlyIncreasing bs → AllByRecursion HasBit bs → AreFresh n bs
AreFresh-taken bs n count rising bits = record { count = count; distinct = pairs_distinct bs (rising_distinct bs rising); bits = bits }
