-- Laws of every disk: its reads, its images and its moments, from event to event.
use Rattle.std.proofs.Common.{◌≡◌, ◌≢◌, ◌⊎◌, inl, inr, ⊎_elim, ◌<◌, ℕ, zero, suc, List, [], ◌∷◌, ◌++◌, Bool, cond, length, map, set, refl, sym, ap, ◌∙◌, arith, length-append, length-set, subst, Contains}
use Rattle.std.specs.List.{range_with_len}
use Rattle.std.proofs.lemmas.List.{get_or-set_same, get_or-set_other}
use Rattle.std.proofs.lemmas.List.FromFn.{length-map-range_with_len, get_or-map-range_with_len}
use Rattle.std.proofs.lemmas.Bool.{eq-eqb, cases_eq, ne_eqb}
use Rattle.journal_block.specs.Block.{Bytes}
use Rattle.journal_disk.specs.Disks.{DiskEvent, write, barrier, Past, block_at, newest, pending_in, pending_of, stable_of, synced_of, read_of, IsSettled, IsKeptAt, LostNone, past_after, MayHaveHappened}
use Rattle.journal_disk.specs.Images.{MayLeave, IsImage, EveryImage, reading, LosesWrites, IsRewritten, IsOldOrWritten}
use Rattle.journal_disk.specs.Moments.{Extends, LeavesOnly}

-- Pending writes and reads

pub pending_written : (older : List DiskEvent) (b c : ℕ) (bytes : Bytes) → b ≡ c
    → pending_in (write c bytes ∷ older) b ≡ bytes ∷ pending_in older b
pending_written older b c bytes here =
    ap (λ (t : Bool). cond t (bytes ∷ pending_in older b) (pending_in older b)) (eq-eqb b c here)

pub pending_other : (older : List DiskEvent) (b c : ℕ) (bytes : Bytes) → b ≢ c
    → pending_in (write c bytes ∷ older) b ≡ pending_in older b
pending_other older b c bytes other =
    ap (λ (t : Bool). cond t (bytes ∷ pending_in older b) (pending_in older b)) (ne_eqb b c other)

pub read_written : (p : Past) (b : ℕ) (bytes : Bytes) → read_of (past_after (write b bytes) p) b ≡ bytes
read_written p b bytes = ap (λ (ws : List Bytes). newest ws (synced_of p b)) (pending_written p.events b b bytes refl)

pub read_other : (p : Past) (b c : ℕ) (bytes : Bytes) → b ≢ c
    → read_of (past_after (write c bytes) p) b ≡ read_of p b
read_other p b c bytes other =
    ap (λ (ws : List Bytes). newest ws (synced_of p b)) (pending_other p.events b c bytes other)

-- a write that may have happened leaves the other blocks as they read
pub others_read : (p q : Past) (b c : ℕ) (bytes : Bytes) → MayHaveHappened (write c bytes) p q → b ≢ c
    → read_of q b ≡ read_of p b
others_read p q b c bytes happened other = ⊎_elim
    (λ none. ap (λ (r : Past). read_of r b) none)
    (λ one. ap (λ (r : Past). read_of r b) one ∙ read_other p b c bytes other)
    happened

-- The disk as it reads

-- the newest of some writes is the block that they overwrite, or one of them
pub newest_cases : (writes : List Bytes) (block : Bytes)
    → (newest writes block ≡ block) ⊎ Contains writes (newest writes block)
newest_cases [] block = inl refl
newest_cases (bytes ∷ older) block = inr (0, omega arith, refl)

-- a crash may leave what a read gives
pub may_leave_read : (p : Past) (b : ℕ) → MayLeave p b (read_of p b)
may_leave_read p b = inr (inr refl)

pub reading-at : (p : Past) (b : ℕ) → b < p.size → block_at (reading p) b ≡ read_of p b
reading-at p b lt = get_or-map-range_with_len (read_of p) 0 p.size b b [] lt (omega arith)

-- the disk as it reads is one of its images
pub reading_is_image : (p : Past) → IsImage p (reading p)
reading_is_image p = record {
  size = length-map-range_with_len (read_of p) 0 p.size;
  each = λ b lt. subst (MayLeave p b) (sym (reading-at p b lt)) (may_leave_read p b);
}

-- each block stable is an image too
stables_at : (p : Past) (b : ℕ) → b < p.size → block_at (map (stable_of p) (range_with_len 0 p.size)) b ≡ stable_of p b
stables_at p b lt = get_or-map-range_with_len (stable_of p) 0 p.size b b [] lt (omega arith)

stables_are_image : (p : Past) → IsImage p (map (stable_of p) (range_with_len 0 p.size))
stables_are_image p = record {
  size = length-map-range_with_len (stable_of p) 0 p.size;
  each = λ b lt. subst (MayLeave p b) (sym (stables_at p b lt)) (inl refl);
}

-- a block that is as it reads in each image is kept
pub kept_by_images : (p : Past) (b : ℕ) → b < p.size → EveryImage p (λ image. block_at image b ≡ read_of p b) → IsKeptAt p b
kept_by_images p b lt agrees none = sym (stables_at p b lt) ∙ agrees (map (stable_of p) (range_with_len 0 p.size)) (stables_are_image p)

-- Images after a write

contains_cons : (x y : Bytes) (ys : List Bytes) → Contains (y ∷ ys) x → (x ≡ y) ⊎ Contains ys x
contains_cons x y ys (zero, lt, is) = inl (sym is)
contains_cons x y ys (suc k, lt, is) = inr (k, omega arith, is)

-- after a write a crash may leave of a block what was written to it, or what it might have left
-- before
pub may_leave_after_write : (p : Past) (b c : ℕ) (bytes x : Bytes) → MayLeave (past_after (write c bytes) p) b x
    → ((b ≡ c) × (x ≡ bytes)) ⊎ MayLeave p b x
may_leave_after_write p b c bytes x left = ⊎_elim
    (λ stable. inr (inl stable))
    (λ rest. ⊎_elim
    (λ among. ⊎_elim
    (λ (here : b ≡ c). ⊎_elim (λ this. inl (here, this)) (λ older. inr (inr (inl older)))
    (contains_cons x bytes (pending_of p b) (subst (λ (ws : List Bytes). Contains ws x) (pending_written p.events b c bytes here) among)))
    (λ (other : b ≢ c). inr (inr (inl (subst (λ (ws : List Bytes). Contains ws x) (pending_other p.events b c bytes other) among))))
    (cases_eq b c))
    (λ (reads : x ≡ read_of (past_after (write c bytes) p) b). ⊎_elim
    (λ (here : b ≡ c). inl (here, reads ∙ ap (λ (ws : List Bytes). newest ws (synced_of p b)) (pending_written p.events b c bytes here)))
    (λ (other : b ≢ c). inr (inr (inr (reads ∙ read_other p b c bytes other))))
    (cases_eq b c))
    rest)
    left

module _ (p : Past) (c : ℕ) (bytes : Bytes) (lt : c < p.size) (image : List Bytes) (is : IsImage (past_after (write c bytes) p) image) where
  -- the image as it was before the write
  before : List Bytes
  before = set image c (read_of p c)

  before-at : (b : ℕ) → b < p.size → MayLeave p b (block_at before b)
  unfolding before
  before-at b b_lt = ⊎_elim
      (λ (here : b ≡ c). subst (λ (n : ℕ). MayLeave p n (block_at before n)) (sym here)
      (let within : c < length image = omega (arith, is.size) in
      subst (MayLeave p c) (sym (get_or-set_same image c (read_of p c) [] within)) (may_leave_read p c)))
      (λ (other : b ≢ c). subst (MayLeave p b) (sym (get_or-set_other image c b (read_of p c) [] other))
      (⊎_elim (λ this. absurd (other this.0)) (λ kept. kept) (may_leave_after_write p b c bytes (block_at image b) (is.each b b_lt))))
      (cases_eq b c)

  written : block_at image c ≡ bytes → IsOldOrWritten p c bytes image
  unfolding before
  written here = record {
    old = before;
    was = record { size = length-set image c (read_of p c) ∙ is.size; each = before-at };
    size = sym (length-set image c (read_of p c));
    here = inr here;
    others = λ b other. sym (get_or-set_other image c b (read_of p c) [] other);
  }

  kept-at : MayLeave p c (block_at image c) → (b : ℕ) → b < p.size → MayLeave p b (block_at image b)
  kept-at kept b b_lt = ⊎_elim
      (λ this. subst (λ (n : ℕ). MayLeave p n (block_at image n)) (sym this.0) kept)
      (λ left. left)
      (may_leave_after_write p b c bytes (block_at image b) (is.each b b_lt))

  not_written : MayLeave p c (block_at image c) → IsOldOrWritten p c bytes image
  not_written kept = record {
    old = image;
    was = record { size = is.size; each = kept-at kept };
    size = refl;
    here = inl refl;
    others = λ b other. refl;
  }

-- an image after a write is one from before it, with the block as it was there or as written
pub images_after_write : (p : Past) (c : ℕ) (bytes : Bytes) → c < p.size
    → EveryImage (past_after (write c bytes) p) (IsOldOrWritten p c bytes)
images_after_write p c bytes lt image is = ⊎_elim
    (λ here. written p c bytes lt image is here.1)
    (not_written p c bytes lt image is)
    (may_leave_after_write p c c bytes (block_at image c) (is.each c lt))

-- so is an image from before it
pub old_or_written : (p : Past) (c : ℕ) (bytes : Bytes) → EveryImage p (IsOldOrWritten p c bytes)
old_or_written p c bytes image is =
    record { old = image; was = is; size = refl; here = inl refl; others = λ b other. refl }

-- Images after a barrier

-- where no write is pending, an image has each block as it reads
pub settled_reads : (p : Past) → IsSettled p
    → EveryImage p (λ image. (b : ℕ) → b < p.size → block_at image b ≡ read_of p b)
settled_reads p settled image is b lt = ⊎_elim
    (λ stable. stable ∙ (settled b lt).1)
    (λ rest. ⊎_elim (λ among. nothing (subst (λ (ws : List Bytes). Contains ws (block_at image b)) none among)) (λ reads. reads) rest)
    (is.each b lt)
  where
    none : pending_of p b ≡ []
    none = (settled b lt).0

    nothing : Contains [] (block_at image b) → block_at image b ≡ read_of p b
    nothing among = absurd (omega (arith, among.1))

-- Where no write is lost

-- the newest of some writes is the newest over whatever block, where one over none is
newest_same : (writes : List Bytes) (x y : Bytes) → (writes ≡ [] → x ≡ y) → newest writes x ≡ newest writes y
newest_same [] x y same = same refl
newest_same (bytes ∷ older) x y same = refl

-- a kept block stays kept after a write of any block, and after a barrier
pub kept_after_write : (p : Past) (b c : ℕ) (bytes : Bytes) → IsKeptAt p b → IsKeptAt (past_after (write c bytes) p) b
kept_after_write p b c bytes kept none = ⊎_elim
    (λ (here : b ≡ c). let impossible : ⊥ = some (sym (pending_written p.events b c bytes here) ∙ none) in absurd impossible)
    (λ (other : b ≢ c). kept (sym (pending_other p.events b c bytes other) ∙ none) ∙ sym (read_other p b c bytes other))
    (cases_eq b c)
  where
    some : bytes ∷ pending_of p b ≡ [] → ⊥
    some is = cc

pub kept_after_barrier : (p : Past) (b : ℕ) → IsKeptAt p b → IsKeptAt (past_after barrier p) b
kept_after_barrier p b kept none = newest_same (pending_of p b) (stable_of p b) (synced_of p b)
    (λ (nothing : pending_of p b ≡ []). kept nothing ∙ ap (λ (ws : List Bytes). newest ws (synced_of p b)) nothing)

-- a block that is written is kept, whatever was lost of it
pub kept_by_write : (p : Past) (c : ℕ) (bytes : Bytes) → IsKeptAt (past_after (write c bytes) p) c
kept_by_write p c bytes none = let impossible : ⊥ = some (sym (pending_written p.events c c bytes refl) ∙ none) in absurd impossible
  where
    some : bytes ∷ pending_of p c ≡ [] → ⊥
    some is = cc

pub settled_after_barrier : (p : Past) → LostNone p → IsSettled (past_after barrier p)
settled_after_barrier p kept b lt = (refl, kept_after_barrier p b (kept b lt) refl)

-- no event loses a write
pub lost_none_after : (e : DiskEvent) (p q : Past) → MayHaveHappened e p q → LostNone p → LostNone q
lost_none_after e p q happened kept = ⊎_elim
    (λ (none : q ≡ p). subst LostNone (sym none) kept)
    (λ (one : q ≡ past_after e p). subst LostNone (sym one) (by_event e))
    happened
  where
    by_event : (x : DiskEvent) → LostNone (past_after x p)
    by_event (write c bytes) b lt = kept_after_write p b c bytes (kept b lt)
    by_event barrier b lt = kept_after_barrier p b (kept b lt)

pub settled_lost_none : (p : Past) → IsSettled p → LostNone p
settled_lost_none p settled b lt none = (settled b lt).1

-- an image after a barrier was one before it
pub images_after_barrier : (p : Past) → EveryImage (past_after barrier p) (IsImage p)
images_after_barrier p image is = record {
  size = is.size;
  each = λ b lt. left b (is.each b lt);
}
  where
    nothing : {x : Bytes} → Contains [] x → ⊥
    nothing among = omega (arith, among.1)

    left : (b : ℕ) → MayLeave (past_after barrier p) b (block_at image b) → MayLeave p b (block_at image b)
    left b may = ⊎_elim
        (λ stable. ⊎_elim (λ none. inl (stable ∙ none)) (λ some. inr (inl (subst (Contains (pending_of p b)) (sym stable) some))) (newest_cases (pending_of p b) (stable_of p b)))
        (λ rest. ⊎_elim (λ among. absurd (nothing among)) (λ reads. inr (inr reads)) rest)
        may

-- Writes that were lost

-- to write a block as it reads adds no image
pub images_after_rewrite : (p : Past) (c : ℕ) → EveryImage (past_after (write c (read_of p c)) p) (IsImage p)
images_after_rewrite p c image is = record { size = is.size; each = λ b lt. left b (is.each b lt) }
  where
    left : (b : ℕ) → MayLeave (past_after (write c (read_of p c)) p) b (block_at image b) → MayLeave p b (block_at image b)
    left b may = ⊎_elim
        (λ this. inr (inr (this.1 ∙ ap (read_of p) (sym this.0))))
        (λ old. old)
        (may_leave_after_write p b c (read_of p c) (block_at image b) may)

-- nor does it change what a read gives
pub reads_after_rewrite : (p : Past) (b c : ℕ) → read_of (past_after (write c (read_of p c)) p) b ≡ read_of p b
reads_after_rewrite p b c = ⊎_elim
    (λ (here : b ≡ c). ap (read_of (past_after (write c (read_of p c)) p)) here ∙ read_written p c (read_of p c) ∙ ap (read_of p) (sym here))
    (λ (other : b ≢ c). read_other p b c (read_of p c) other)
    (cases_eq b c)

pub rewritten_none : (p : Past) → IsRewritten p p
rewritten_none p = record { size = refl; reads = λ b. refl; images = λ image is. is; kept = λ b kept. kept }

pub rewritten_both : {p q r : Past} → IsRewritten p q → IsRewritten q r → IsRewritten p r
rewritten_both one two = record {
  size = two.size ∙ one.size;
  reads = λ b. two.reads b ∙ one.reads b;
  images = λ image is. one.images image (two.images image is);
  kept = λ b kept. two.kept b (one.kept b kept);
}

-- a block that is written as it reads, or may have been
pub rewritten : (p q : Past) (c : ℕ) → MayHaveHappened (write c (read_of p c)) p q → IsRewritten p q
rewritten p q c happened = ⊎_elim
    (λ (none : q ≡ p). subst (IsRewritten p) (sym none) (rewritten_none p))
    (λ (one : q ≡ past_after (write c (read_of p c)) p). subst (IsRewritten p) (sym one) (record {
      size = refl;
      reads = λ b. reads_after_rewrite p b c;
      images = images_after_rewrite p c;
      kept = λ b kept. kept_after_write p b c (read_of p c) kept;
    }))
    happened

-- a barrier, or what may have been one
pub rewritten_synced : (p q : Past) → MayHaveHappened barrier p q → IsRewritten p q
rewritten_synced p q happened = ⊎_elim
    (λ (none : q ≡ p). subst (IsRewritten p) (sym none) (rewritten_none p))
    (λ (one : q ≡ past_after barrier p). subst (IsRewritten p) (sym one) (record {
      size = refl;
      reads = λ b. refl;
      images = images_after_barrier p;
      kept = λ b kept. kept_after_barrier p b kept;
    }))
    happened

-- a failed barrier adds no image, and changes nothing that a read gives
pub reads_after_loss : (old new : Past) → LosesWrites old new → (b : ℕ) → b < old.size → read_of new b ≡ read_of old b
reads_after_loss old new loss b lt = ap (λ (p : Past). read_of p b) loss.is ∙ reading-at old b lt

pub images_after_loss : (old new : Past) → LosesWrites old new → EveryImage new (IsImage old)
images_after_loss old new loss image is = record { size = is.size ∙ same_size; each = λ b lt. left b lt (is.each b (omega (arith, same_size, lt))) }
  where
    same_size : new.size ≡ old.size
    same_size = ap (λ (p : Past). p.size) loss.is

    none : (b : ℕ) → pending_of new b ≡ []
    none b = ap (λ (p : Past). pending_of p b) loss.is

    nothing : {x : Bytes} → Contains [] x → ⊥
    nothing among = omega (arith, among.1)

    left : (b : ℕ) → b < old.size → MayLeave new b (block_at image b) → MayLeave old b (block_at image b)
    left b lt may = ⊎_elim
        (λ stable. subst (MayLeave old b) (sym (stable ∙ ap (λ (p : Past). stable_of p b) loss.is)) (loss.device.each b lt))
        (λ rest. ⊎_elim
        (λ among. absurd (nothing (subst (λ (ws : List Bytes). Contains ws (block_at image b)) (none b) among)))
        (λ reads. inr (inr (reads ∙ reads_after_loss old new loss b lt)))
        rest)
        may

-- Moments

same_length : {p q : Past} → p ≡ q → length p.events ≡ length q.events
same_length same = ap (λ (r : Past). length r.events) same

-- a fact of every image before an event that may have happened, and after it, holds at each moment
pub leaves_by : (e : DiskEvent) (p q : Past) (Q : List Bytes → Type 0)
    → MayHaveHappened e p q → EveryImage p Q → EveryImage q Q → LeavesOnly p q Q
leaves_by e p q Q happened old new = ⊎_elim
    (λ (none : q ≡ p). record { extends = record { since = []; grown = none }; each = λ m from to. at_none none m from.since to.since from.grown to.grown })
    (λ (one : q ≡ past_after e p). record { extends = record { since = e ∷ []; grown = one }; each = λ m from to. at_one one m from.since to.since from.grown to.grown })
    happened
  where
    at_none : q ≡ p → (m : Past) (early late : List DiskEvent)
        → m ≡ record p { events = early ++ p.events } → q ≡ record m { events = late ++ m.events } → EveryImage m Q
    at_none none m [] late from to = subst (λ (r : Past). EveryImage r Q) (sym from) old
    at_none none m (x ∷ early) late from to =
        absurd (omega (arith, same_length none, same_length from, same_length to, length-append late m.events, length-append early p.events))

    at_one : q ≡ past_after e p → (m : Past) (early late : List DiskEvent)
        → m ≡ record p { events = early ++ p.events } → q ≡ record m { events = late ++ m.events } → EveryImage m Q
    at_one one m [] late from to = subst (λ (r : Past). EveryImage r Q) (sym from) old
    at_one one m (x ∷ early) [] from to = subst (λ (r : Past). EveryImage r Q) to new
    at_one one m (x ∷ early) (y ∷ late) from to =
        absurd (omega (arith, same_length one, same_length from, same_length to, length-append late m.events, length-append early p.events))

-- where nothing happened, as at a read
pub leaves_none : (p q : Past) (Q : List Bytes → Type 0) → q ≡ p → EveryImage p Q → LeavesOnly p q Q
leaves_none p q Q none all = leaves_by barrier p q Q (inl none) all (subst (λ (r : Past). EveryImage r Q) (sym none) all)

-- a fact of each moment holds at the last one
pub leaves_now : (p q : Past) (Q : List Bytes → Type 0) → LeavesOnly p q Q → EveryImage q Q
leaves_now p q Q leaves = leaves.each q leaves.extends (record { since = []; grown = refl })

-- at each moment of a write, done or failed, an image has the block as it was or as written
pub leaves_by_write : (p q : Past) (c : ℕ) (bytes : Bytes) → c < p.size → MayHaveHappened (write c bytes) p q
    → LeavesOnly p q (IsOldOrWritten p c bytes)
leaves_by_write p q c bytes lt happened = leaves_by (write c bytes) p q Q happened (old_or_written p c bytes) (⊎_elim
    (λ none. subst (λ (r : Past). EveryImage r Q) (sym none) (old_or_written p c bytes))
    (λ one. subst (λ (r : Past). EveryImage r Q) (sym one) (images_after_write p c bytes lt))
    happened)
  where
    Q : List Bytes → Type 0
    Q = IsOldOrWritten p c bytes

-- at each moment of a barrier, done or failed, an image is one from before it
pub leaves_by_barrier : (p q : Past) → MayHaveHappened barrier p q → LeavesOnly p q (IsImage p)
leaves_by_barrier p q happened = leaves_by barrier p q (IsImage p) happened (λ image is. is) (⊎_elim
    (λ none. subst (λ (r : Past). EveryImage r (IsImage p)) (sym none) (λ image is. is))
    (λ one. subst (λ (r : Past). EveryImage r (IsImage p)) (sym one) (images_after_barrier p))
    happened)

-- of two pasts that extend one, where one has all the events of the other, it extends it
extends : (a p q : Past) (since : List DiskEvent) → Extends a p → Extends a q → q.events ≡ since ++ p.events → Extends p q
extends a p q since to_p to_q same = record {
  since = since;
  grown = to_q.grown ∙ (λ i. record (sym to_p.grown i) { events = (sym (ap (λ (r : Past). r.events) to_q.grown) ∙ same) i });
}

-- a fact of each image may be weakened
pub leaves_also : (a b : Past) (Q R : List Bytes → Type 0) → LeavesOnly a b Q
    → ((image : List Bytes) → Q image → R image) → LeavesOnly a b R
leaves_also a b Q R leaves weaker = record {
  extends = leaves.extends;
  each = λ m from to image is. weaker image (leaves.each m from to image is);
}
