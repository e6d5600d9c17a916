-- A run of holds by hand, of which nothing is assumed but a value of a block: a session begins, its
-- transaction overwrites a block and is committed, the group is logged and marked, a wait ends, all
-- crashes, and the disk is opened again. So what the law says of runs is said of some. The blocks
-- of this disk are shorter than 4096 bytes, for which no definition of the law asks.
use Rattle.std.proofs.Common.{◌≡◌, ◌≢◌, ◌⊎◌, inl, inr, ⊎_elim, ◌<◌, ◌≤◌, ◌+◌, ◌-◌, ◌^◌, ◌==◌, ◌&&◌, ℕ, zero, suc, nat_le, nat_lt, Bool, true, false, cond, IsTrue, List, [], ◌∷◌, length, drop, Contains, All, Option, Some, None, Ok, refl, sym, ap, subst, ◌∙◌, arith, lit<, lit≤}
use Rattle.std.proofs.lemmas.Bool.{false≢true}
use Rattle.std.proofs.lemmas.Bool.Decides.{nat_tests}
use Rattle.std.proofs.lemmas.List.Elements.{All-cons}
use mathlib.Core.List.{IsPrefix}
use Rattle.journal_world.specs.declared.address.Addr.{Addr}
use Rattle.journal_world.specs.declared.address.Kind.TheVariants.{Block}
use Rattle.journal_world.specs.Addresses.{Value, Shape, kind_among, is_valid, is_value_of, starts_object, zeros_of}
use Rattle.journal_world.specs.Files.{region}
use Rattle.journal_world.specs.Maps.{Map, Pair, Transaction, SameMap, value_at, is_object}
use Rattle.journal_world.specs.Histories.{Entry, opened, is_trusted, count, floor, at, latest}
use Rattle.journal_world.specs.Histories.Entry.{opening, commit, stable}
use Rattle.journal_world.proofs.SameMaps.{SameMap-refl}
use Rattle.journal_world.proofs.Prefixes.{IsPrefix-refl}
use Rattle.journal_block.specs.declared.update.Update.{Update}
use Rattle.journal_block.specs.Block.{Bytes, u64_at, u64_bytes, with_bytes}
use Rattle.journal_block.specs.Updates.{Content, updated, with_updates, updates_block}
use Rattle.journal_object.specs.Objects.{object_of}
use Rattle.journal_disk.specs.Disks.{DiskEvent, write, barrier, Past, DiskState, Keeps, MayHaveHappened, block_at, pending_of, stable_of, read_of, past_from, past_after}
use Rattle.journal_disk.specs.Images.{MayLeave, IsImage, EveryImage, reading}
use Rattle.journal_disk.specs.Moments.{Extends, LeavesOnly}
use Rattle.journal_disk.specs.Laws.{reading-at, reading_is_image, may_leave_after_write, leaves_by, leaves_none}
use Rattle.journal_circ.specs.Log.{with_end, end_by, end_in, start_in, home_by, log_in, logged_update, updates_from, DescribesLog}
use Rattle.journal_circ.specs.StandsFor.{StandsFor}
use Rattle.journal_circ.specs.Ring.{Ring}
use Rattle.journal_memlog.specs.Logs.{LogState, next_position}
use Rattle.journal_wal.specs.declared.step.GroupStep.TheVariants.{Put, Logged}
use Rattle.journal_wal.specs.Wal.{WalState, Logging, log_blocks, log_end, log_sync, install_none, blocks_now, blocks_logged, blocks_cut, log_steps, KeepsBlocks, LogsOn, EndsGroup}
use Rattle.journal_wal.specs.Groups.{TakesGroup}
use Rattle.journal_tail.specs.declared.tail.CutPoint.{CutPoint}
use Rattle.journal_tail.specs.Homes.{SameBlocks}
use Rattle.journal_tail.specs.Maps.{object_or_zeros, HasObjects, map_of}
use Rattle.journal_tail.specs.MapLaws.{map_of-layout}
use Rattle.journal_tail.specs.Tails.{TailState, empty_tail, updates_from as updates_after}
use Rattle.journal_tail.specs.ObjectTails.{known_object}
use Rattle.journal_tail.proofs.MapsOfBlocks.{law_of, HasObjects-map_of, map_of-is}
use Rattle.journal_tail.proofs.Stored.{whole_off}
use Rattle.journal_objlog.specs.Maps.{OpensAs}
use Rattle.journal_objlog.specs.ObjectLogs.{end_of}
use Rattle.journal_history.specs.Tokens.{SessionState, next_transaction}
use Rattle.journal_parts.specs.declared.step.LogStep.TheVariants.{Cut, Marked}
use Rattle.journal_memory.specs.Transactions.{TransactionState, begun}
use Rattle.journal_memory.specs.Updates.{IsLastSince, HaveAllSince, IsOrNone, AreObjectsOf}
use Rattle.journal_memory.specs.Volatiles.{VolatileState, IsCutOf, IsVolatile}
use Rattle.journal_memory.specs.VolatileHolds.{CommitsInMemory, BeginsSession}
use Rattle.journal_parts.specs.Durables.{DurableState, IsDurable, Leaves, Crashes, IsLoggedAt, begun_durable}
use Rattle.journal_parts.specs.Pairs.{Tied, IsMarkDue}
use Rattle.journal_parts.specs.Holds.{MakesGroupCall, MarksOrCuts}
use Rattle.journal_core.specs.Outcomes.{Answer, HoldsImage}
use Rattle.journal_core.specs.Outcomes.Answer.{nothing, committed, marked, waited, crashed, reopened}
use Rattle.journal_core.specs.TwoLocks.{Event, Parts, Mount, Machine, mounted, with_session, with_begun, with_slot, with_transaction, with_volatile, with_durable, with_parts, ended, BeginsApart, Run}
use Rattle.journal_core.specs.TwoLocks.Event.{joins, begins, takes, overwrites, logs, marks_or_cuts, waits, crashes, opens}
use Rattle.journal_core.specs.TwoLocks.Event.{commits as finishes}
use Rattle.journal_core.specs.TwoLocks.Machine.{up, down}

-- 514 blocks, of which the last is the only one that holds objects: it is one
abbrev layout : Shape
layout = record { blocks = 514; regions = region 513 Block ∷ []; slots = 1 }

abbrev home : Addr
home = record { block = 513; off = 0 }

is_home : (a : Addr) → IsTrue (is_valid layout a) → a ≡ home
is_home a valid = by_tests (nat_le 513 a.block) (nat_lt a.block 514) refl refl valid
  where
    by_tests : (b c : Bool) → nat_le 513 a.block ≡ b → nat_lt a.block 514 ≡ c → IsTrue (starts_object (cond (b && c) (cond b (Some Block) None) None) a.off) → a ≡ home
    by_tests false c above below starts = absurd (false≢true starts)
    by_tests true false above below starts = absurd (false≢true starts)
    by_tests true true above below starts =
        let block : a.block ≡ 513 = grind (arith, nat_tests, above, below) in
        let off : a.off ≡ 0 = whole_off (Some Block) a.off refl starts in
        λ i. record { block = block i; off = off i }

-- block 0 of an empty log, once the first position has its address, and with the end after it
abbrev blank : Bytes
blank = 0 ∷ 0 ∷ 0 ∷ 0 ∷ 0 ∷ 0 ∷ 0 ∷ 0 ∷ 0 ∷ 0 ∷ 0 ∷ 0 ∷ 0 ∷ 0 ∷ 0 ∷ 0 ∷ []

abbrev addressed : Bytes
addressed = 0 ∷ 0 ∷ 0 ∷ 0 ∷ 0 ∷ 0 ∷ 0 ∷ 0 ∷ 1 ∷ 2 ∷ 0 ∷ 0 ∷ 0 ∷ 0 ∷ 0 ∷ 0 ∷ []

abbrev full : Bytes
full = with_end addressed 1

blank_end : (f : Content) → end_by blank f ≡ 0
unfolding u64_at
blank_end f = refl

full_end : (f : Content) → end_by full f ≡ 1
unfolding u64_at u64_bytes with_bytes
full_end f = refl

no_start : u64_at [] 0 ≡ 0
unfolding u64_at
no_start = refl

full_home : home_by full 0 ≡ 513
unfolding u64_at u64_bytes with_bytes
full_home = refl

full_log : (f : Content) → updates_from full f 0 1 ≡ record { block = 513; bytes = f 2 } ∷ []
unfolding u64_at u64_bytes with_bytes
full_log f = refl

-- An image with an empty log and no object, and one with the log's only update
pub record IsBlank (image : List Bytes) : Type 0 where
  pub size : length image ≡ 514
  pub header : block_at image 0 ≡ blank
  pub start : block_at image 1 ≡ []
  pub home : block_at image 513 ≡ []

pub record IsFull (value : Value) (image : List Bytes) : Type 0 where
  pub size : length image ≡ 514
  pub header : block_at image 0 ≡ full
  pub start : block_at image 1 ≡ []
  pub logged : block_at image 2 ≡ value

describes_blank : (h : Bytes) (s e n : ℕ) → h ≡ blank → s ≡ 0 → e ≡ 0 → n ≡ 514 → DescribesLog h s e n
describes_blank h s e n header start end size = record {
  narrow = λ sealed. omega (arith, size);
  ordered = omega (arith, start, end);
  fits = omega (arith, start, end);
  small = omega (arith, end);
  addresses = λ p ge lt. absurd (omega (arith, ge, lt, end));
}

describes_full : (h : Bytes) (s e n : ℕ) → h ≡ full → s ≡ 0 → e ≡ 1 → n ≡ 514 → DescribesLog h s e n
describes_full h s e n header start end size = record {
  narrow = λ sealed. omega (arith, size);
  ordered = omega (arith, start, end);
  fits = omega (arith, start, end);
  small = omega (arith, end);
  addresses = λ p ge lt.
      let first : p ≡ 0 = omega (arith, lt, end) in
      let at_home : home_by h p ≡ 513 = ap (λ (x : Bytes). home_by x p) header ∙ ap (home_by full) first ∙ full_home in
      (omega (arith, at_home), omega (arith, at_home, size));
}

start_of_image : (image : List Bytes) → block_at image 1 ≡ [] → start_in image ≡ 0
start_of_image image start = ap (λ (b : Bytes). u64_at b 0) start ∙ no_start

stands_blank : (c : Content) (image : List Bytes) → IsBlank image → c 513 ≡ [] → StandsFor 514 c image
stands_blank c image is empty = record {
  size = is.size;
  well_formed = describes_blank (block_at image 0) (start_in image) (end_in image) (length image) is.header (start_of_image image is.start) end is.size;
  each = λ b from to. let here : b ≡ 513 = omega (arith, from, to) in
      subst (λ (n : ℕ). with_updates (block_at image) (log_in image) n ≡ c n) (sym here)
      (ap (λ (us : List Update). updated us 513 (block_at image 513)) none ∙ is.home ∙ sym empty);
}
  where
    end : end_in image ≡ 0
    end = ap (λ (h : Bytes). end_by h (block_at image)) is.header ∙ blank_end (block_at image)

    none : log_in image ≡ []
    none = λ i. updates_from (is.header i) (block_at image) (start_of_image image is.start i) (end i - start_of_image image is.start i)

stands_full : (v : Value) (c : Content) (image : List Bytes) → IsFull v image → c 513 ≡ v → StandsFor 514 c image
stands_full v c image is whole = record {
  size = is.size;
  well_formed = describes_full (block_at image 0) (start_in image) (end_in image) (length image) is.header (start_of_image image is.start) end is.size;
  each = λ b from to. let here : b ≡ 513 = omega (arith, from, to) in
      subst (λ (n : ℕ). with_updates (block_at image) (log_in image) n ≡ c n) (sym here)
      (ap (λ (us : List Update). updated us 513 (block_at image 513)) (one ∙ full_log (block_at image)) ∙ is.logged ∙ sym whole);
}
  where
    end : end_in image ≡ 1
    end = ap (λ (h : Bytes). end_by h (block_at image)) is.header ∙ full_end (block_at image)

    one : log_in image ≡ updates_from full (block_at image) 0 1
    one = λ i. updates_from (is.header i) (block_at image) (start_of_image image is.start i) (end i - start_of_image image is.start i)

-- of a block that has nothing pending, an image has what it holds
settled_by : (p : Past) (b : ℕ) (x y : Bytes) → MayLeave p b y → stable_of p b ≡ x → pending_of p b ≡ [] → read_of p b ≡ x → y ≡ x
settled_by p b x y may kept none reads = ⊎_elim
    (λ is_stable. is_stable ∙ kept)
    (λ rest. ⊎_elim (λ among. absurd (nothing_in (subst (λ (ws : List Bytes). Contains ws y) none among))) (λ is_read. is_read ∙ reads) rest)
    may
  where
    nothing_in : Contains [] y → ⊥
    nothing_in among = omega (arith, among.1)

only_home : (f g : Content) → f 513 ≡ g 513 → SameBlocks 514 f g
only_home f g same b from to = let here : b ≡ 513 = omega (arith, from, to) in subst (λ (n : ℕ). f n ≡ g n) (sym here) same

-- no value at all, and no commit
abbrev empty : Map
empty = record { layout = layout; pairs = [] }

abbrev begun_history : List Entry
begun_history = opening empty true ∷ []

has_zeros : (c : Content) → c 513 ≡ [] → HasObjects c empty
unfolding object_of
has_zeros c none = record { values = λ a valid. subst (λ (b : Addr). value_at empty b ≡ object_or_zeros layout (c b.block) b) (sym (is_home a valid)) (zeros ∙ ap (λ (b : Bytes). object_or_zeros layout b home) (sym none)) }
  where
    zeros : value_at empty home ≡ object_or_zeros layout [] home
    zeros = refl

abbrev no_updates : List Update
no_updates = []

abbrev any : Map → Type 0
any m = Unit {0}

module _ (v : Value) (is_value : is_value_of Block v ≡ true) where
  abbrev update : Update
  update = record { block = 513; bytes = v }

  abbrev filled : Map
  filled = record { layout = layout; pairs = (home, v) ∷ [] }

  whole : object_or_zeros layout v home ≡ v
  unfolding object_of
  whole = ap (λ (b : Bool). cond b v (zeros_of Block)) is_value

  has_value : (c : Content) → c 513 ≡ v → HasObjects c filled
  has_value c is = record { values = λ a valid. subst (λ (b : Addr). value_at filled b ≡ object_or_zeros layout (c b.block) b) (sym (is_home a valid)) (sym (ap (λ (b : Bytes). object_or_zeros layout b home) is ∙ whole)) }

  -- the session's transaction
  abbrev joined_session : SessionState
  joined_session = record { number = 0; mine = begun_history; seen = begun_history }

  abbrev drafted : TransactionState
  drafted = record { reads = []; writes = (home, v) ∷ []; seen = begun_history }

  abbrev t : Transaction
  t = next_transaction joined_session [] ((home, v) ∷ [])

  abbrev history : List Entry
  history = opening empty true ∷ commit t ∷ []

  abbrev marked_history : List Entry
  marked_history = opening empty true ∷ commit t ∷ stable 1 ∷ []

  abbrev after_commit : SessionState
  after_commit = record { number = 0; mine = history; seen = history }

  -- the disk, device call by device call
  abbrev past_0 : Past
  past_0 = past_from 514 (blank ∷ [])

  abbrev past_1 : Past
  past_1 = past_after (write 2 v) past_0

  abbrev past_2 : Past
  past_2 = past_after barrier past_1

  abbrev past_3 : Past
  past_3 = past_after (write 0 full) past_2

  abbrev past_4 : Past
  past_4 = past_after barrier past_3

  abbrev disk_with : Past → DiskState
  disk_with past = record { past = past; honest = true; failures = 0 }

  abbrev MayBe : List Bytes → Type 0
  MayBe image = IsBlank image ⊎ IsFull v image

  blank_before : (p : Past) (image : List Bytes) → IsImage p image → p ≡ past_0 ⊎ (p ≡ past_1 ⊎ p ≡ past_2) → IsBlank image
  blank_before p image is which = ⊎_elim
      (λ (here : p ≡ past_0). let it : IsImage past_0 image = subst (λ (q : Past). IsImage q image) here is in record {
        size = it.size;
        header = settled_by past_0 0 blank (block_at image 0) (it.each 0 (lit< tt)) refl refl refl;
        start = settled_by past_0 1 [] (block_at image 1) (it.each 1 (lit< tt)) refl refl refl;
        home = settled_by past_0 513 [] (block_at image 513) (it.each 513 (lit< tt)) refl refl refl;
      })
      (⊎_elim
      (λ (here : p ≡ past_1). let it : IsImage past_1 image = subst (λ (q : Past). IsImage q image) here is in record {
        size = it.size;
        header = settled_by past_1 0 blank (block_at image 0) (it.each 0 (lit< tt)) refl refl refl;
        start = settled_by past_1 1 [] (block_at image 1) (it.each 1 (lit< tt)) refl refl refl;
        home = settled_by past_1 513 [] (block_at image 513) (it.each 513 (lit< tt)) refl refl refl;
      })
      (λ (here : p ≡ past_2). let it : IsImage past_2 image = subst (λ (q : Past). IsImage q image) here is in record {
        size = it.size;
        header = settled_by past_2 0 blank (block_at image 0) (it.each 0 (lit< tt)) refl refl refl;
        start = settled_by past_2 1 [] (block_at image 1) (it.each 1 (lit< tt)) refl refl refl;
        home = settled_by past_2 513 [] (block_at image 513) (it.each 513 (lit< tt)) refl refl refl;
      }))
      which

  images_0 : (image : List Bytes) → IsImage past_0 image → MayBe image
  images_0 image is = inl (blank_before past_0 image is (inl refl))

  images_1 : (image : List Bytes) → IsImage past_1 image → MayBe image
  images_1 image is = inl (blank_before past_1 image is (inr (inl refl)))

  images_2 : (image : List Bytes) → IsImage past_2 image → MayBe image
  images_2 image is = inl (blank_before past_2 image is (inr (inr refl)))

  images_3 : (image : List Bytes) → IsImage past_3 image → MayBe image
  images_3 image is = ⊎_elim
      (λ this. inr (record {
        size = is.size;
        header = this.1;
        start = settled_by past_3 1 [] (block_at image 1) (is.each 1 (lit< tt)) refl refl refl;
        logged = settled_by past_3 2 v (block_at image 2) (is.each 2 (lit< tt)) refl refl refl;
      }))
      (λ old. inl (record {
        size = is.size;
        header = settled_by past_2 0 blank (block_at image 0) old refl refl refl;
        start = settled_by past_3 1 [] (block_at image 1) (is.each 1 (lit< tt)) refl refl refl;
        home = settled_by past_3 513 [] (block_at image 513) (is.each 513 (lit< tt)) refl refl refl;
      }))
      (may_leave_after_write past_2 0 0 full (block_at image 0) (is.each 0 (lit< tt)))

  images_4 : (image : List Bytes) → IsImage past_4 image → IsFull v image
  images_4 image is = record {
    size = is.size;
    header = settled_by past_4 0 full (block_at image 0) (is.each 0 (lit< tt)) refl refl refl;
    start = settled_by past_4 1 [] (block_at image 1) (is.each 1 (lit< tt)) refl refl refl;
    logged = settled_by past_4 2 v (block_at image 2) (is.each 2 (lit< tt)) refl refl refl;
  }

  -- what an image opens as
  opens_blank : (image : List Bytes) → IsBlank image → OpensAs empty image
  opens_blank image is = record { content = λ b. []; stands = stands_blank (λ b. []) image is refl; objects = has_zeros (λ b. []) refl }

  opens_full : (image : List Bytes) → IsFull v image → OpensAs filled image
  opens_full image is = record { content = λ b. v; stands = stands_full v (λ b. v) image is refl; objects = has_value (λ b. v) refl }

  opens_content : (c : Content) (image : List Bytes) → StandsFor 514 c image → OpensAs (map_of layout c) image
  opens_content c image stands = record {
    content = c;
    stands = subst (λ (n : Shape). StandsFor n.blocks c image) (sym (map_of-layout layout c)) stands;
    objects = HasObjects-map_of layout (law_of layout) c;
  }

  -- the log, where nothing is cut, where the group is in flight, and where it is logged
  abbrev ring_of : Past → Bytes → ℕ → Ring
  ring_of past header next = record {
    disk = disk_with past;
    header = header;
    tags = [];
    label = [];
    sealed = false;
    extent = record { start = 0; freed = 0; end = 0; coming = 0; stable = 0; homes = false };
    next = next;
    faulted = false;
  }

  abbrev log_of : ℕ → LogState
  log_of logged = record { blocks = 514; start = 0; logged = logged; cut = 1; updates = update ∷ []; room = 0 }

  abbrev opened_wal : WalState
  opened_wal = record {
    ring = ring_of past_0 blank 0;
    log = record { blocks = 514; start = 0; logged = 0; cut = 0; updates = []; room = 0 };
    logging = log_blocks;
    installing = install_none;
  }

  abbrev flying : Past → Bytes → ℕ → Logging → WalState
  flying past header next logging = record { ring = ring_of past header next; log = log_of 0; logging = logging; installing = install_none }

  abbrev resting : Past → WalState
  resting past = record { ring = ring_of past addressed 1; log = log_of 1; logging = log_blocks; installing = install_none }

  abbrev flies : Past → Bytes → ℕ → Logging → DurableState
  flies past header next logging = record { objects = flying past header next logging; front = history; marked = 0; logged = 0; coming = 1 }

  abbrev rests : Past → List Entry → ℕ → ℕ → DurableState
  rests past front mark logged = record { objects = resting past; front = front; marked = mark; logged = logged; coming = logged }

  opened_durable : IsDurable layout (begun_durable opened_wal begun_history)
  opened_durable = record {
    size = refl;
    begun = λ same. absurd cc;
    on_disk = refl;
    trusted = refl;
    floored = lit≤ tt;
    marked_to_logged = lit≤ tt;
    logged_to_coming = lit≤ tt;
    coming_to_count = lit≤ tt;
    tail = refl;
    ends = lit≤ tt;
    next = refl;
    idle = λ fine steps. refl;
    rest = λ cut. refl;
    maps = λ honest. record { logged = same (blocks_logged opened_wal) refl; coming = same (blocks_cut opened_wal) refl };
    images = λ honest image is. inl (opens_content (blocks_logged opened_wal) image (stands_blank (blocks_logged opened_wal) image (blank_before past_0 image is (inl refl)) refl));
  }
    where
      same : (c : Content) → c 513 ≡ [] → SameMap (map_of layout c) empty
      same c none = map_of-is layout (law_of layout) c empty refl (has_zeros c none)

  flying_durable : (past : Past) (header : Bytes) (next : ℕ) (logging : Logging) → past.size ≡ 514 → (log_steps (flying past header next logging) ≡ 0 → ⊥) → read_of past 513 ≡ []
      → ((image : List Bytes) → IsImage past image → MayBe image) → IsDurable layout (flies past header next logging)
  flying_durable past header next logging size moves none images = record {
    size = size;
    begun = λ same. absurd cc;
    on_disk = refl;
    trusted = refl;
    floored = lit≤ tt;
    marked_to_logged = lit≤ tt;
    logged_to_coming = lit≤ tt;
    coming_to_count = lit≤ tt;
    tail = refl;
    ends = lit≤ tt;
    next = refl;
    idle = λ fine steps. absurd (moves steps);
    rest = λ cut. absurd (omega (arith, cut));
    maps = λ honest. record {
      logged = map_of-is layout (law_of layout) (blocks_logged w) empty refl (has_zeros (blocks_logged w) none);
      coming = map_of-is layout (law_of layout) (blocks_cut w) filled refl (has_value (blocks_cut w) refl);
    };
    images = λ honest image is. ⊎_elim
        (λ blank_image. inl (opens_content (blocks_logged w) image (stands_blank (blocks_logged w) image blank_image none)))
        (λ full_image. inr (opens_content (blocks_cut w) image (stands_full v (blocks_cut w) image full_image refl)))
        (images image is);
  }
    where
      w : WalState
      w = flying past header next logging

  resting_durable : (past : Past) (front : List Entry) (mark logged : ℕ) → past.size ≡ 514 → ((image : List Bytes) → IsImage past image → IsFull v image)
      → front ≢ [] → (opened front).layout ≡ layout → is_trusted front ≡ true → floor front ≤ mark → mark ≤ logged → logged ≤ count front → at front logged ≡ filled
      → IsDurable layout (rests past front mark logged)
  resting_durable past front mark logged size images begun on_disk trusted floored marks counted is_filled = record {
    size = size;
    begun = begun;
    on_disk = on_disk;
    trusted = trusted;
    floored = floored;
    marked_to_logged = marks;
    logged_to_coming = omega arith;
    coming_to_count = counted;
    tail = refl;
    ends = lit≤ tt;
    next = refl;
    idle = λ fine steps. refl;
    rest = λ cut. refl;
    maps = λ honest. record { logged = same (blocks_logged (resting past)) refl; coming = same (blocks_cut (resting past)) refl };
    images = λ honest image is. inl (opens_content (blocks_logged (resting past)) image (stands_full v (blocks_logged (resting past)) image (images image is) refl));
  }
    where
      same : (c : Content) → c 513 ≡ v → SameMap (map_of layout c) (at front logged)
      same c is = subst (SameMap (map_of layout c)) (sym is_filled) (map_of-is layout (law_of layout) c filled refl (has_value c is))

  -- what a crash leaves
  leaves_flying : (past : Past) (header : Bytes) (next : ℕ) (logging : Logging) (image : List Bytes) → MayBe image → Leaves (flies past header next logging) image
  leaves_flying past header next logging image may = ⊎_elim
      (λ is. record { commits = 0; marked = lit≤ tt; coming = lit≤ tt; map = empty; opens = opens_blank image is; same = SameMap-refl empty })
      (λ is. record { commits = 1; marked = lit≤ tt; coming = lit≤ tt; map = filled; opens = opens_full image is; same = SameMap-refl filled })
      may

  leaves_resting : (past : Past) (mark : ℕ) (front : List Entry) → mark ≤ 1 → at front 1 ≡ filled → (image : List Bytes) → IsFull v image → Leaves (rests past front mark 1) image
  leaves_resting past mark front below is_filled image is = record {
    commits = 1;
    marked = below;
    coming = lit≤ tt;
    map = filled;
    opens = opens_full image is;
    same = subst (SameMap filled) (sym is_filled) (SameMap-refl filled);
  }

  leaves_opened : (image : List Bytes) → IsBlank image → Leaves (begun_durable opened_wal begun_history) image
  leaves_opened image is = record { commits = 0; marked = lit≤ tt; coming = lit≤ tt; map = empty; opens = opens_blank image is; same = SameMap-refl empty }

  crashes_at : (e : DiskEvent) (old new : DurableState) (past : Past) → old.objects.ring.disk ≡ disk_with past → new.objects.ring.disk ≡ disk_with (past_after e past)
      → EveryImage past (Leaves old) → EveryImage (past_after e past) (Leaves old) → EveryImage (past_after e past) (Leaves new) → Crashes old new
  crashes_at e old new past at_old at_new before within behind = record {
    keeps = subst (λ (d : DiskState). Keeps d new.objects.ring.disk) (sym at_old) (subst (Keeps (disk_with past)) (sym at_new) (record { size = refl; honest = refl; failures = lit≤ tt }));
    moments = λ honest. subst (λ (d : DiskState). LeavesOnly d.past new.objects.ring.disk.past (Leaves old)) (sym at_old)
        (subst (λ (d : DiskState). LeavesOnly past d.past (Leaves old)) (sym at_new) (leaves_by e past (past_after e past) (Leaves old) (inr refl) before within));
    images = λ honest. subst (λ (d : DiskState). EveryImage d.past (Leaves new)) (sym at_new) behind;
  }

  crashes_still : (old new : DurableState) (past : Past) → old.objects.ring.disk ≡ disk_with past → new.objects.ring.disk ≡ disk_with past
      → EveryImage past (Leaves old) → EveryImage past (Leaves new) → Crashes old new
  crashes_still old new past at_old at_new before behind = record {
    keeps = subst (λ (d : DiskState). Keeps d new.objects.ring.disk) (sym at_old) (subst (Keeps (disk_with past)) (sym at_new) (record { size = refl; honest = refl; failures = lit≤ tt }));
    moments = λ honest. subst (λ (d : DiskState). LeavesOnly d.past new.objects.ring.disk.past (Leaves old)) (sym at_old)
        (subst (λ (d : DiskState). LeavesOnly past d.past (Leaves old)) (sym at_new) (leaves_none past past (Leaves old) refl before));
    images = λ honest. subst (λ (d : DiskState). EveryImage d.past (Leaves new)) (sym at_new) behind;
  }

  -- the states of the disk's part
  abbrev durable_0 : DurableState
  durable_0 = begun_durable opened_wal begun_history

  abbrev durable_1 : DurableState
  durable_1 = flies past_0 blank 0 log_blocks

  abbrev durable_2 : DurableState
  durable_2 = flies past_1 addressed 1 log_blocks

  abbrev durable_3 : DurableState
  durable_3 = flies past_2 addressed 1 log_end

  abbrev durable_4 : DurableState
  durable_4 = flies past_3 addressed 1 log_sync

  abbrev durable_5 : DurableState
  durable_5 = rests past_4 history 0 1

  abbrev durable_6 : DurableState
  durable_6 = rests past_4 marked_history 1 1

  is_durable_1 : IsDurable layout durable_1
  is_durable_1 = flying_durable past_0 blank 0 log_blocks refl (λ steps. omega (arith, steps)) refl images_0

  is_durable_2 : IsDurable layout durable_2
  is_durable_2 = flying_durable past_1 addressed 1 log_blocks refl (λ steps. omega (arith, steps)) refl images_1

  is_durable_3 : IsDurable layout durable_3
  is_durable_3 = flying_durable past_2 addressed 1 log_end refl (λ steps. omega (arith, steps)) refl images_2

  is_durable_4 : IsDurable layout durable_4
  is_durable_4 = flying_durable past_3 addressed 1 log_sync refl (λ steps. omega (arith, steps)) refl images_3

  is_durable_5 : IsDurable layout durable_5
  is_durable_5 = resting_durable past_4 history 0 1 refl images_4 (λ same. absurd cc) refl refl (lit≤ tt) (lit≤ tt) (lit≤ tt) refl

  is_durable_6 : IsDurable layout durable_6
  is_durable_6 = resting_durable past_4 marked_history 1 1 refl images_4 (λ same. absurd cc) refl refl (lit≤ tt) (lit≤ tt) (lit≤ tt) refl

  -- the group's steps
  logs_on : (old new : DurableState) → LogsOn old.objects new.objects → old.objects.ring.faulted ≡ false → new.objects.ring.faulted ≡ false
      → new ≡ record old { objects = new.objects } → IsDurable layout new → Crashes old new → MakesGroupCall layout old Put new
  logs_on old new on fine still others kept crash = record { did = (on, others); fine = (fine, still); kept = kept; crash = crash }

  call_1 : MakesGroupCall layout durable_1 Put durable_2
  call_1 = logs_on durable_1 durable_2 (record {
    steps = refl;
    left = lit< tt;
    log = refl;
    blocks = λ honest. record {
      now = only_home (blocks_now durable_2.objects) (blocks_now durable_1.objects) refl;
      cut = only_home (blocks_cut durable_2.objects) (blocks_cut durable_1.objects) refl;
      logged = only_home (blocks_logged durable_2.objects) (blocks_logged durable_1.objects) refl;
    };
    call = λ honest. refl;
    installing = refl;
  }) refl refl refl is_durable_2 (crashes_at (write 2 v) durable_1 durable_2 past_0 refl refl
      (λ image is. leaves_flying past_0 blank 0 log_blocks image (images_0 image is))
      (λ image is. leaves_flying past_0 blank 0 log_blocks image (images_1 image is))
      (λ image is. leaves_flying past_1 addressed 1 log_blocks image (images_1 image is)))

  call_2 : MakesGroupCall layout durable_2 Put durable_3
  call_2 = logs_on durable_2 durable_3 (record {
    steps = refl;
    left = lit< tt;
    log = refl;
    blocks = λ honest. record {
      now = only_home (blocks_now durable_3.objects) (blocks_now durable_2.objects) refl;
      cut = only_home (blocks_cut durable_3.objects) (blocks_cut durable_2.objects) refl;
      logged = only_home (blocks_logged durable_3.objects) (blocks_logged durable_2.objects) refl;
    };
    call = λ honest. refl;
    installing = refl;
  }) refl refl refl is_durable_3 (crashes_at barrier durable_2 durable_3 past_1 refl refl
      (λ image is. leaves_flying past_1 addressed 1 log_blocks image (images_1 image is))
      (λ image is. leaves_flying past_1 addressed 1 log_blocks image (images_2 image is))
      (λ image is. leaves_flying past_2 addressed 1 log_end image (images_2 image is)))

  call_3 : MakesGroupCall layout durable_3 Put durable_4
  call_3 = logs_on durable_3 durable_4 (record {
    steps = refl;
    left = lit< tt;
    log = refl;
    blocks = λ honest. record {
      now = only_home (blocks_now durable_4.objects) (blocks_now durable_3.objects) refl;
      cut = only_home (blocks_cut durable_4.objects) (blocks_cut durable_3.objects) refl;
      logged = only_home (blocks_logged durable_4.objects) (blocks_logged durable_3.objects) refl;
    };
    call = λ honest. refl;
    installing = refl;
  }) refl refl refl is_durable_4 (crashes_at (write 0 full) durable_3 durable_4 past_2 refl refl
      (λ image is. leaves_flying past_2 addressed 1 log_end image (images_2 image is))
      (λ image is. leaves_flying past_2 addressed 1 log_end image (images_3 image is))
      (λ image is. leaves_flying past_3 addressed 1 log_sync image (images_3 image is)))

  call_4 : MakesGroupCall layout durable_4 Logged durable_5
  call_4 = record {
    did = (
      record {
        last = refl;
        steps = refl;
        end = refl;
        now = λ honest. only_home (blocks_now durable_5.objects) (blocks_now durable_4.objects) refl;
        cut = λ honest. only_home (blocks_cut durable_5.objects) (blocks_cut durable_4.objects) refl;
        logged = λ honest. only_home (blocks_logged durable_5.objects) (blocks_cut durable_4.objects) refl;
        call = λ honest. refl;
        installing = refl;
      },
      refl,
    );
    fine = (refl, refl);
    kept = is_durable_5;
    crash = crashes_at barrier durable_4 durable_5 past_3 refl refl
        (λ image is. leaves_flying past_3 addressed 1 log_sync image (images_3 image is))
        (λ image is. leaves_flying past_3 addressed 1 log_sync image (inr (images_4 image is)))
        (λ image is. leaves_resting past_4 0 history (lit≤ tt) refl image (images_4 image is));
  }

  -- the states of memory's part
  abbrev tail_of : List Update → ℕ → List CutPoint → TailState
  tail_of updates cut cuts = record {
    log = record { blocks = 514; start = 0; logged = 0; cut = cut; updates = updates; room = 0 };
    trimmed = 0;
    cuts = cuts;
    cache = [];
  }

  abbrev volatile_of : List Entry → ℕ → ℕ → TailState → VolatileState
  volatile_of history cut next tail = record { ledger = record { history = history; cut = cut; next = next; closed = false }; tail = tail; faulted = false }

  abbrev first_cut : List CutPoint
  first_cut = record { end = 1; commits = 1 } ∷ []

  abbrev volatile_0 : ℕ → VolatileState
  volatile_0 next = volatile_of begun_history 0 next (tail_of [] 0 [])

  abbrev volatile_1 : VolatileState
  volatile_1 = volatile_of history 0 1 (tail_of (update ∷ []) 0 [])

  abbrev volatile_2 : List Entry → VolatileState
  volatile_2 front = volatile_of front 1 1 (tail_of (update ∷ []) 1 first_cut)

  -- updates that are none, and the one of the home block
  since_none : (h : List Entry) (c : ℕ) → ((n : ℕ) → c ≤ n → n ≤ count h → (a : Addr) → value_at (at h n) a ≡ value_at (latest h) a) → HaveAllSince layout h c []
  since_none h c same = record { last = λ a valid n from to. same n from to a }

  since_one : (h : List Entry) (c : ℕ) → value_at (latest h) home ≡ v → HaveAllSince layout h c (update ∷ [])
  since_one h c is = record { last = λ a valid. subst (λ (b : Addr). IsLastSince h c b (known_object layout (update ∷ []) b)) (sym (is_home a valid)) (whole ∙ sym is) }

  known_none : (m : Map) → AreObjectsOf layout m []
  known_none m = record { values = λ a valid. tt }

  known_one : (m : Map) → value_at m home ≡ v → AreObjectsOf layout m (update ∷ [])
  known_one m is = record { values = λ a valid. subst (λ (b : Addr). IsOrNone (value_at m b) (known_object layout (update ∷ []) b)) (sym (is_home a valid)) (whole ∙ sym is) }

  -- All of one, and of two
  all_one : (P : CutPoint → Type 0) (c : CutPoint) → P c → All P (c ∷ [])
  all_one P c one = All-cons P c [] one (λ k d lt. absurd (omega (arith, lt)))

  opened_volatile : (m : Map) (start next : ℕ) → m.layout ≡ layout → start < 2 ^ 62 → drop (start - start) no_updates ≡ []
      → IsVolatile layout (volatile_of (opening m true ∷ []) 0 next (empty_tail 514 start 0))
  opened_volatile m start next on_disk small none = record {
    size = refl;
    begun = λ same. absurd cc;
    on_disk = on_disk;
    made = lit≤ tt;
    cut_to_next = omega arith;
    small = omega (arith, small);
    cuts = all_one (IsCutOf x) c (record { above = omega arith; below = omega arith; earlier = lit≤ tt });
    updates = λ trusted. record {
      since = all_one (λ (q : CutPoint). HaveAllSince layout h q.commits (updates_after x.tail.log q.end)) c (subst (HaveAllSince layout h 0) (sym none) (since_none h 0 same));
      since_last = subst (HaveAllSince layout h 0) (sym none) (since_none h 0 same);
    };
    known = λ trusted. known_none (latest h);
  }
    where
      h : List Entry
      h = opening m true ∷ []

      x : VolatileState
      x = volatile_of h 0 next (empty_tail 514 start 0)

      c : CutPoint
      c = record { end = start; commits = 0 }

      same : (n : ℕ) → 0 ≤ n → n ≤ 0 → (a : Addr) → value_at (at h n) a ≡ value_at (latest h) a
      same n from to a = let none : n ≡ 0 = omega (arith, to) in subst (λ (k : ℕ). value_at (at h k) a ≡ value_at (latest h) a) (sym none) refl

  is_volatile_1 : IsVolatile layout volatile_1
  is_volatile_1 = record {
    size = refl;
    begun = λ same. absurd cc;
    on_disk = refl;
    made = lit≤ tt;
    cut_to_next = lit≤ tt;
    small = lit< tt;
    cuts = all_one (IsCutOf volatile_1) (record { end = 0; commits = 0 }) (record { above = lit≤ tt; below = lit≤ tt; earlier = lit≤ tt });
    updates = λ trusted. record {
      since = all_one (λ (q : CutPoint). HaveAllSince layout history q.commits (updates_after volatile_1.tail.log q.end)) (record { end = 0; commits = 0 }) (since_one history 0 refl);
      since_last = since_one history 0 refl;
    };
    known = λ trusted. known_one (latest history) refl;
  }

  is_volatile_2 : (front : List Entry) → front ≢ [] → (opened front).layout ≡ layout → count front ≡ 1 → value_at (latest front) home ≡ v
      → ((n : ℕ) → 1 ≤ n → n ≤ count front → (a : Addr) → value_at (at front n) a ≡ value_at (latest front) a) → IsVolatile layout (volatile_2 front)
  is_volatile_2 front begun on_disk counted is same = record {
    size = refl;
    begun = begun;
    on_disk = on_disk;
    made = omega (arith, counted);
    cut_to_next = lit≤ tt;
    small = lit< tt;
    cuts = All-cons (IsCutOf (volatile_2 front)) (record { end = 0; commits = 0 }) first_cut (record { above = lit≤ tt; below = lit≤ tt; earlier = lit≤ tt })
        (all_one (IsCutOf (volatile_2 front)) (record { end = 1; commits = 1 }) (record { above = lit≤ tt; below = lit≤ tt; earlier = lit≤ tt }));
    updates = λ trusted. record {
      since = All-cons (λ (q : CutPoint). HaveAllSince layout front q.commits (updates_after (volatile_2 front).tail.log q.end)) (record { end = 0; commits = 0 }) first_cut (since_one front 0 is)
          (all_one (λ (q : CutPoint). HaveAllSince layout front q.commits (updates_after (volatile_2 front).tail.log q.end)) (record { end = 1; commits = 1 }) (since_none front 1 same));
      since_last = since_none front 1 same;
    };
    known = λ trusted. known_one (latest front) is;
  }

  same_after : (front : List Entry) → count front ≡ 1 → ((a : Addr) → value_at (at front 1) a ≡ value_at (latest front) a)
      → (n : ℕ) → 1 ≤ n → n ≤ count front → (a : Addr) → value_at (at front n) a ≡ value_at (latest front) a
  same_after front counted last n from to a =
      let one : n ≡ 1 = omega (arith, from, to, counted) in subst (λ (k : ℕ). value_at (at front k) a ≡ value_at (latest front) a) (sym one) (last a)

  cut_volatile : IsVolatile layout (volatile_2 history)
  cut_volatile = is_volatile_2 history (λ same. absurd cc) refl refl refl (same_after history refl (λ a. refl))

  marked_volatile : IsVolatile layout (volatile_2 marked_history)
  marked_volatile = is_volatile_2 marked_history (λ same. absurd cc) refl refl refl (same_after marked_history refl (λ a. refl))

  -- what ties the two parts
  tied_cut : Tied (volatile_2 history) durable_1
  tied_cut = record {
    begins = IsPrefix-refl history;
    marked = refl;
    trimmed = lit≤ tt;
    cut = refl;
    position = refl;
    logged = All-cons (λ (c : CutPoint). c.end ≤ 0 → c.commits ≤ 0) (record { end = 0; commits = 0 }) first_cut (λ below. lit≤ tt)
        (all_one (λ (c : CutPoint). c.end ≤ 0 → c.commits ≤ 0) (record { end = 1; commits = 1 }) (λ below. absurd (omega (arith, below))));
  }

  tied_marked : Tied (volatile_2 marked_history) durable_6
  tied_marked = record {
    begins = IsPrefix-refl marked_history;
    marked = refl;
    trimmed = lit≤ tt;
    cut = refl;
    position = refl;
    logged = All-cons (λ (c : CutPoint). c.end ≤ 1 → c.commits ≤ 1) (record { end = 0; commits = 0 }) first_cut (λ below. lit≤ tt)
        (all_one (λ (c : CutPoint). c.end ≤ 1 → c.commits ≤ 1) (record { end = 1; commits = 1 }) (λ below. lit≤ tt));
  }

  tied_opened : (w : WalState) (m : Map) (start : ℕ) → end_of w ≡ start → next_position w.log ≡ start
      → Tied (volatile_of (opening m true ∷ []) 0 0 (empty_tail 514 start 0)) (begun_durable w (opening m true ∷ []))
  tied_opened w m start ends next = record {
    begins = IsPrefix-refl (opening m true ∷ []);
    marked = refl;
    trimmed = lit≤ tt;
    cut = refl;
    position = sym next;
    logged = all_one (λ (c : CutPoint). c.end ≤ end_of w → c.commits ≤ 0) (record { end = start; commits = 0 }) (λ below. lit≤ tt);
  }

  -- the commit, the cut and the mark
  commits_it : CommitsInMemory layout (volatile_0 1) joined_session drafted volatile_1 after_commit
  commits_it = record {
    can = record {
      may = record {
        running = (refl, refl);
        seen = record { shown = IsPrefix-refl begun_history; later = IsPrefix-refl begun_history };
        own = refl;
        unmoved = λ k d lt. absurd (omega (arith, lt));
        unfenced = refl;
      };
      writes = record {
        few = lit≤ tt;
        unworn = λ worn. ⊎_elim (λ long. omega (arith, long)) (λ rest. ⊎_elim (λ late. omega (arith, late)) (λ far. omega (arith, far)) rest) worn;
        room = λ over. omega (arith, over);
      };
    };
    committed = record {
      committed = record { added = refl; session = refl; later = IsPrefix-refl begun_history; one_more = refl };
      logs = record { updates = update ∷ []; named = λ b. refl; number = refl; appends = refl };
      others = refl;
    };
    agrees = λ trusted k d lt. absurd (omega (arith, lt));
    kept = is_volatile_1;
  }

  cuts_it : MarksOrCuts layout volatile_1 durable_0 Cut (volatile_2 history) durable_1
  cuts_it = record {
    did = (
      λ (due : IsMarkDue volatile_1 durable_0). let more = due.more in omega (arith, more),
      record {
        due = record { logged = lit≤ tt; fits = record { rest = refl; some = lit< tt; fits = lit≤ tt } };
        volatile = refl;
        group = record {
          taken = record {
            disk = refl;
            log = refl;
            steps = refl;
            tail = refl;
            now = only_home (blocks_now durable_1.objects) (with_updates (blocks_now durable_0.objects) (update ∷ [])) refl;
            cut = only_home (blocks_cut durable_1.objects) (with_updates (blocks_now durable_0.objects) (update ∷ [])) refl;
            logged = only_home (blocks_logged durable_1.objects) (blocks_logged durable_0.objects) refl;
            installing = refl;
          };
          others = refl;
        };
      },
    );
    volatile = cut_volatile;
    durable = is_durable_1;
    tied = λ was. tied_cut;
    crash = crashes_still durable_0 durable_1 past_0 refl refl
        (λ image is. leaves_opened image (blank_before past_0 image is (inl refl)))
        (λ image is. leaves_flying past_0 blank 0 log_blocks image (images_0 image is));
  }

  marks_it : MarksOrCuts layout (volatile_2 history) durable_5 (Marked 1) (volatile_2 marked_history) durable_6
  marks_it = record {
    did = inl (refl, record { due = record { cut = refl; more = lit< tt }; volatile = refl; durable = refl });
    volatile = marked_volatile;
    durable = is_durable_6;
    tied = λ was. tied_marked;
    crash = crashes_still durable_5 durable_6 past_4 refl refl
        (λ image is. leaves_resting past_4 0 history (lit≤ tt) refl image (images_4 image is))
        (λ image is. leaves_resting past_4 1 marked_history (lit≤ tt) refl image (images_4 image is));
  }

  crashes_it : Crashes durable_6 durable_6
  crashes_it = crashes_still durable_6 durable_6 past_4 refl refl
      (λ image is. leaves_resting past_4 1 marked_history (lit≤ tt) refl image (images_4 image is))
      (λ image is. leaves_resting past_4 1 marked_history (lit≤ tt) refl image (images_4 image is))

  -- the disk that is opened, and the one that is opened again, which reads as the crash left it
  abbrev start : Parts
  start = record { volatile = volatile_0 0; durable = durable_0 }

  begins_first : BeginsApart any layout (disk_with past_0) start
  begins_first = record {
    begins = record {
      map = empty;
      size = refl;
      on_disk = refl;
      objects = refl;
      holds = λ honest image is. opens_blank image (blank_before past_0 image is (inl refl));
      ruled = λ honest. tt;
      history = refl;
      keeps = record { size = refl; honest = refl; failures = lit≤ tt };
      past = λ honest. refl;
      rest = record { fine = refl; logging = refl; installing = refl; tail = refl; cut = refl; next = refl; small = lit< tt };
      tail = refl;
      cut = refl;
      logged = refl;
      next = refl;
      running = (refl, refl);
    };
    between = record {
      volatile = opened_volatile empty 0 0 refl (lit< tt) refl;
      durable = opened_durable;
      tied = tied_opened opened_wal empty 0 refl refl;
      noted = λ fault. absurd (false≢true fault);
    };
  }

  abbrev image : List Bytes
  image = reading past_4

  abbrev past_again : Past
  past_again = past_from 514 image

  images_again : (other : List Bytes) → IsImage past_again other → IsFull v other
  images_again other is = record {
    size = is.size;
    header = same 0 (lit< tt);
    start = same 1 (lit< tt);
    logged = same 2 (lit< tt);
  }
    where
      same : (b : ℕ) → b < 514 → block_at other b ≡ read_of past_4 b
      same b lt = settled_by past_again b (read_of past_4 b) (block_at other b) (is.each b lt) (reading-at past_4 b lt) refl (reading-at past_4 b lt)

  abbrev again : Parts
  again = record {
    volatile = volatile_of (opening filled true ∷ []) 0 0 (empty_tail 514 1 0);
    durable = begun_durable (resting past_again) (opening filled true ∷ []);
  }

  again_durable : IsDurable layout again.durable
  again_durable = record {
    size = refl;
    begun = λ same. absurd cc;
    on_disk = refl;
    trusted = refl;
    floored = lit≤ tt;
    marked_to_logged = lit≤ tt;
    logged_to_coming = lit≤ tt;
    coming_to_count = lit≤ tt;
    tail = refl;
    ends = lit≤ tt;
    next = refl;
    idle = λ fine steps. refl;
    rest = λ cut. refl;
    maps = λ honest. record { logged = same (blocks_logged (resting past_again)) refl; coming = same (blocks_cut (resting past_again)) refl };
    images = λ honest other is.
        inl (opens_content (blocks_logged (resting past_again)) other (stands_full v (blocks_logged (resting past_again)) other (images_again other is) refl));
  }
    where
      same : (c : Content) → c 513 ≡ v → SameMap (map_of layout c) filled
      same c is = map_of-is layout (law_of layout) c filled refl (has_value c is)

  filled_object : is_object layout (home, v) ≡ true
  filled_object = is_value

  begins_again : BeginsApart any layout (disk_with past_again) again
  begins_again = record {
    begins = record {
      map = filled;
      size = refl;
      on_disk = refl;
      objects = ap (λ (b : Bool). b && true) filled_object;
      holds = λ honest other is. opens_full other (images_again other is);
      ruled = λ honest. tt;
      history = refl;
      keeps = record { size = refl; honest = refl; failures = lit≤ tt };
      past = λ honest. refl;
      rest = record { fine = refl; logging = refl; installing = refl; tail = refl; cut = refl; next = refl; small = lit< tt };
      tail = refl;
      cut = refl;
      logged = refl;
      next = refl;
      running = (refl, refl);
    };
    between = record {
      volatile = opened_volatile filled 1 0 refl (lit< tt) refl;
      durable = again_durable;
      tied = tied_opened (resting past_again) filled 1 refl refl;
      noted = λ fault. absurd (false≢true fault);
    };
  }

  holds_image : HoldsImage (disk_with past_again) image
  holds_image = record {
    honest = refl;
    settled = λ b lt. (refl, refl);
    is_image = record { size = (reading_is_image past_4).size; each = λ b lt. inl refl };
  }

  -- the mount before each event
  abbrev mount_0 : Mount
  mount_0 = record { parts = start; sessions = λ number. None; transactions = λ actor. None; began = λ actor. []; holders = λ slot. None; fetched = λ actor. [] }

  abbrev mount_1 : Mount
  mount_1 = with_session (with_volatile mount_0 (volatile_0 1)) 0 joined_session

  abbrev mount_2 : Mount
  mount_2 = with_begun (with_session mount_1 0 joined_session) 0 begun_history

  abbrev mount_3 : Mount
  mount_3 = with_slot mount_2 0 0

  abbrev mount_4 : Mount
  mount_4 = with_transaction mount_3 0 (Some drafted)

  abbrev mount_5 : Mount
  mount_5 = ended (with_session (with_volatile mount_4 volatile_1) 0 after_commit) 0

  abbrev mount_6 : Mount
  mount_6 = with_parts mount_5 (volatile_2 history) durable_1

  abbrev mount_7 : Mount
  mount_7 = with_durable (with_durable (with_durable (with_durable mount_6 durable_2) durable_3) durable_4) durable_5

  abbrev mount_8 : Mount
  mount_8 = with_parts mount_7 (volatile_2 marked_history) durable_6

  abbrev seen_marked : SessionState
  seen_marked = record { number = 0; mine = history; seen = marked_history }

  abbrev mount_9 : Mount
  mount_9 = with_session mount_8 0 seen_marked

  pub is_run : Run any (mounted start)
      (joins ∷ begins 0 0 ∷ takes 0 0 ∷ overwrites 0 home v ∷ finishes 0 0 ∷ marks_or_cuts ∷ logs ∷ logs ∷ logs ∷ logs ∷ marks_or_cuts ∷ waits 0 1 ∷ crashes image ∷ opens ∷ [])
      (nothing ∷ nothing ∷ nothing ∷ nothing ∷ committed t ∷ nothing ∷ nothing ∷ nothing ∷ nothing ∷ nothing ∷ marked 1 ∷ waited 1 ∷ crashed ∷ reopened ∷ [])
      (mounted again)
  is_run = (
    up mount_1,
    (refl, (Ok joined_session, (volatile_0 1, record { is = refl; fresh = refl; unfenced = refl; others = refl }, refl))),
    (
      up mount_2,
      (refl, (joined_session, record { number = refl; mine = refl; seen = IsPrefix-refl begun_history }, IsPrefix-refl begun_history, refl)),
      (
        up mount_3,
        (refl, refl),
        (
          up mount_4,
          (refl, inr (filled_object, (drafted, record { writes = λ a. refl; objects = λ n olds object. ap (λ (b : Bool). b && true) object; others = refl }, refl))),
          (
            up mount_5,
            (after_commit, (volatile_1, refl, commits_it, refl)),
            (
              up mount_6,
              (Ok Cut, (volatile_2 history, (durable_1, cuts_it, refl, refl))),
              (
                up (with_durable mount_6 durable_2),
                (refl, (Ok Put, (durable_2, call_1, refl))),
                (
                  up (with_durable (with_durable mount_6 durable_2) durable_3),
                  (refl, (Ok Put, (durable_3, call_2, refl))),
                  (
                    up (with_durable (with_durable (with_durable mount_6 durable_2) durable_3) durable_4),
                    (refl, (Ok Put, (durable_4, call_3, refl))),
                    (
                      up mount_7,
                      (refl, (Ok Logged, (durable_5, call_4, refl))),
                      (
                        up mount_8,
                        (volatile_2 marked_history, (durable_6, marks_it, refl)),
                        (
                          up mount_9,
                          (refl, (seen_marked, (lit≤ tt, record { shown = refl; exact = refl; extends = record { number = refl; mine = refl; seen = (stable 1 ∷ [], refl) } }), refl)),
                          (
                            down layout image,
                            (refl, (durable_6, crashes_it, record { moment = past_4; since = record { since = []; grown = refl }; until = record { since = []; grown = refl }; is_image = reading_is_image past_4 }, refl)),
                            (
                              mounted again,
                              (disk_with past_again, holds_image, (again, begins_again, refl)),
                              refl,
                            ),
                          ),
                        ),
                      ),
                    ),
                  ),
                ),
              ),
            ),
          ),
        ),
      ),
    ),
  )
