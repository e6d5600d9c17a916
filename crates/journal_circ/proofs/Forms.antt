-- The two forms of a log.
use Rattle.std.proofs.Common.{◌≡◌, ◌<◌, ◌≤◌, ◌+◌, ◌-◌, ◌/◌, ◌%◌, ◌^◌, ℕ, false, zero, suc, refl, ap, ◌∙◌, arith, ◌==◌, ◌&&◌, if◌then◌else◌, List}
use Rattle.std.proofs.lemmas.Bool.{lt-leb}
use Rattle.journal_block.specs.Block.{Bytes, u64_at}
use Rattle.journal_block.specs.Updates.{Content}
use Rattle.journal_disk.specs.Disks.{block_at}
use Rattle.journal_circ.specs.Log.{log_block, address, is_sealed, begin_of, count_in, tag_in, tag_of, with_tag, are_there, sealed_end, end_by, end_in, home_by, bytes_by}

-- a plain block 0
pub is_plain : (h : Bytes) → u64_at h 0 < 2 ^ 63 → is_sealed h ≡ false
is_plain h lt = lt-leb (2 ^ 63) (u64_at h 0) lt

pub plain_end : (h : Bytes) (f : Content) → is_sealed h ≡ false → end_by h f ≡ u64_at h 0
plain_end h f plain = λ i. if plain i then sealed_end h f else u64_at h 0

pub plain_home : (h : Bytes) (q : ℕ) → is_sealed h ≡ false → home_by h q ≡ address h q
plain_home h q plain = λ i. if plain i then address h q % 2 ^ 40 else address h q

pub plain_bytes : (h : Bytes) (f : Content) (q : ℕ) → is_sealed h ≡ false → bytes_by h f q ≡ f (log_block q)
plain_bytes h f q plain = λ i. if plain i then with_tag (f (log_block q)) (address h q / 2 ^ 56) else f (log_block q)

-- The update of a position, where its word and its log block are the same

pub form_home : (h h2 : Bytes) (q : ℕ) → is_sealed h2 ≡ is_sealed h → address h2 q ≡ address h q → home_by h2 q ≡ home_by h q
form_home h h2 q form word = λ i. if form i then word i % 2 ^ 40 else word i

pub form_bytes : (h h2 : Bytes) (f g : Content) (q : ℕ) → is_sealed h2 ≡ is_sealed h → address h2 q ≡ address h q → g (log_block q) ≡ f (log_block q)
    → bytes_by h2 g q ≡ bytes_by h f q
form_bytes h h2 f g q form word same = λ i. if form i then with_tag (same i) (word i / 2 ^ 56) else same i

-- positions that are the same have the same answer
pub there_same : (want have have2 : ℕ → ℕ) (from n : ℕ) → ((q : ℕ) → from ≤ q → q < from + n → have2 q ≡ have q)
    → are_there want have2 from n ≡ are_there want have from n
there_same want have have2 from zero same = refl
there_same want have have2 from (suc n) same =
    (λ i. (same from (omega arith) (omega arith) i == want from) && there_same want have have2 (suc from) n (λ q ge lt. same q (omega arith) (omega arith)) i)

-- the end is the same where the log blocks are
pub end_same : (h : Bytes) (f g : Content) → ((q : ℕ) → g (log_block q) ≡ f (log_block q)) → end_by h g ≡ end_by h f
end_same h f g same = λ i. if is_sealed h
    then (if there_same (tag_in h) (λ q. tag_of (f (log_block q))) (λ q. tag_of (g (log_block q))) (begin_of h) (count_in h (begin_of h)) (λ q ge lt. ap tag_of (same q)) i
    then begin_of h + count_in h (begin_of h) else begin_of h)
    else u64_at h 0

pub end_as : (h : Bytes) (f : Content) (image : List Bytes) → block_at image 0 ≡ h → ((q : ℕ) → block_at image (log_block q) ≡ f (log_block q)) → end_in image ≡ end_by h f
end_as h f image zero_block same = (λ i. end_by (zero_block i) (block_at image)) ∙ end_same h f (block_at image) same
