-- A node is set: its inode, and the blocks in which a file ends that grows, or whose numbers go
-- where it gets smaller.
use Rattle.std.proofs.Common.{◌≡◌, ◌≢◌, ℕ, ◌+◌, ◌-◌, ◌*◌, ◌/◌, ◌%◌, ◌<◌, ◌≤◌, Bool, true, false, cond, eqb, List, ◌++◌, length, get_or, replicate, Option, Some, None, refl, sym, ap, subst, ◌⊎◌, inl, inr, ◌∙◌, arith, length-append}
use Rattle.std.specs.Prelude.{nat_le, nat_lt, unwrap_or}
use Rattle.std.proofs.lemmas.Bool.{cases_eq, cases_lt, eq-eqb, ne_eqb, eqb-true, leb-true, le-leb, lt-leb, ltb-true, ltb-false, false≢true}
use Rattle.std.proofs.lemmas.List.{length-take-le, length-replicate, get_or_append_left, get_or-append-add, get_or-take, get_or-replicate, ext_get_or}
use Rattle.journal_tree.specs.declared.limits.TheConstants.{MOST_FILE_BLOCKS}
use Rattle.journal_tree.specs.declared.time.Time.{Time}
use Rattle.journal_tree.specs.declared.reply.Kind.{Kind}
use Rattle.journal_tree.specs.declared.reply.Kind.TheVariants.{Directory, File, Link}
use Rattle.journal_tree.specs.declared.settings.Settings.{Settings}
use Rattle.journal_tree.specs.declared.caller.Caller.{Caller}
use Rattle.journal_tree.specs.Times.{IsTime}
use Rattle.journal_tree.specs.Trees.Body.{directory, file, link}
use Rattle.journal_tree.specs.Fit.{IsFitBody}
use Rattle.journal_tree.specs.Attributes.{resized, resized_body, set_attributes, with_settings, is_too_big}
use Rattle.journal_tree.specs.Calls.{kind_of}
use Rattle.journal_treestore.specs.declared.inode.Head.{Head}
use Rattle.journal_treestore.specs.Inodes.{name_from}
use Rattle.journal_treestore.specs.Views.{Held, View, with_inode, held_of, number_in, index_block, block_at, begin_at, bytes_in, content, body_of, node_of, directory_block, entry_in, entry_by}
use Rattle.journal_treestore.specs.Views.Seen.{used}
use Rattle.journal_treestore.specs.Sound.{IsSoundInode, IsSoundView}
use Rattle.journal_treestore.proofs.Viewing.{inode-node}
use Rattle.journal_treestore.proofs.Changing.{one_owner, directory-frame, inode-same, inode-other}
use Rattle.journal_treestore.proofs.Indexing.{PlaceOf, place_kind, at-direct, at-indexed, at-index, at-leaf, at-none, no-index, begin-content, begin-index, begin-leaf, first-after, same-blocks, block_at-frame}
use Rattle.journal_treecalls.specs.declared.node.Record.{Record}
use Rattle.journal_treecalls.specs.declared.setting.Tail.{Tail}
use Rattle.journal_treecalls.specs.declared.setting.Tails.{Tails}
use Rattle.journal_treecalls.specs.declared.setting.Tails.TheVariants.{NoTail, OneTail, TwoTails}
use Rattle.journal_treecalls.specs.Targets.{held}
use Rattle.journal_treecalls.specs.Fetches.{file_blocks, file_index, number_at, last_leaf}
use Rattle.journal_treecalls.specs.Sizes.{IsSetHead, cut_one, grown_tails, last_numbers, kept_tails, cut_tails, tails_of, cleared, with_set}
use Rattle.journal_treecalls.proofs.Cases.{length-content}
use Rattle.journal_treecalls.proofs.Holding.{byte_at, in-some, in-none, content-at}
use Rattle.journal_treecalls.proofs.Numbers.{file-named}
use Rattle.journal_treecalls.proofs.Zeroing.{cleared-long, cleared-front, cleared-back, number-front, number-back}
use Rattle.journal_treestore.specs.Steps.{IsNodeStep}

-- ── bytes and places ──

-- the bytes of another size, byte by byte
resized-long : (bytes : List ℕ) (size : Option ℕ) → length (resized bytes size) ≡ unwrap_or size (length bytes)
resized-long bytes None = refl
resized-long bytes (Some m) = length-take-le m (bytes ++ replicate m 0) (let a = length-append bytes (replicate {A = ℕ} m 0) in let b = length-replicate {A = ℕ} m 0 in omega (arith, a, b))

resized-front : (bytes : List ℕ) (size : Option ℕ) (i : ℕ) → i < unwrap_or size (length bytes) → i < length bytes → get_or (resized bytes size) i 0 ≡ get_or bytes i 0
resized-front bytes None i low inside = refl
resized-front bytes (Some m) i low inside = get_or-take m (bytes ++ replicate m 0) i 0 low ∙ get_or_append_left bytes (replicate m 0) 0 i inside

resized-back : (bytes : List ℕ) (size : Option ℕ) (i : ℕ) → i < unwrap_or size (length bytes) → length bytes ≤ i → get_or (resized bytes size) i 0 ≡ 0
resized-back bytes None i low past = absurd (omega (arith, low, past))
resized-back bytes (Some m) i low past =
    get_or-take m (bytes ++ replicate m 0) i 0 low
    ∙ ap (λ k. get_or (bytes ++ replicate m 0) k 0) (let e : i ≡ length bytes + (i - length bytes) = omega (arith, past) in e)
    ∙ get_or-append-add bytes (replicate m 0) (i - length bytes) 0
    ∙ get_or-replicate {A = ℕ} m (i - length bytes) 0 0 (omega (arith, low, past))

-- the bytes of a block, where one has these
abbrev if_block : ℕ → ℕ → List ℕ → List ℕ → List ℕ
if_block x b v w = cond (eqb x b) v w

-- other bytes in the blocks of a disk
abbrev with_bytes : View → (ℕ → List ℕ) → View
with_bytes V B = record { numbers = V.numbers; first_data = V.first_data; data_blocks = V.data_blocks; inode = V.inode; owner = V.owner; block = B }

-- the blocks of an inode are those of the bytes
bytes-blocks : (V : View) (B : ℕ → List ℕ) (n : ℕ) (x : Held) (h : Held) → block_at (with_inode (with_bytes V B) n (used x)) h ≡ block_at (with_bytes V B) h
unfolding block_at
bytes-blocks V B n x h = refl

bytes-same : (V : View) (h : Held) → block_at (with_bytes V V.block) h ≡ block_at V h
unfolding block_at
bytes-same V h = refl

-- ── the step ──

module _ (V : View) (n : ℕ) (r : Record) (k : Head) (c : Caller) (s : Settings) (now : Time) (sound : IsSoundView V) (is : V.inode n ≡ used (held r)) (set : IsSetHead c s now r.head k) (unsized : r.head.kind ≢ File → s.size ≡ None) (fits : is_too_big s.size ≡ false) where
  abbrev H : Held
  H = held r

  abbrev K : Held
  K = held_of k (name_from r.bytes)

  old : IsSoundInode V n H
  old = sound.inodes n (held r) is

  ctime : IsTime r.head.attributes.ctime
  ctime = (sound.fit.nodes n (node_of V (held r)) (inode-node V n (held r) is)).ctime

  -- what is no file keeps its size
  same-size : r.head.kind ≢ File → k.size ≡ r.head.size
  same-size other = set.size ∙ ap (λ o. unwrap_or o r.head.size) (unsized other)

  not-file : (kind : Kind) → r.head.kind ≡ kind → kind ≢ File → r.head.kind ≢ File
  not-file kind is other e = other (sym is ∙ e)

  was-small : r.head.size ≤ 4295163904
  was-small = by r.head.kind (sound.fit.nodes n (node_of V (held r)) (inode-node V n (held r) is)).body
    where
      by : (kind : Kind) → IsFitBody (body_of V kind H) → r.head.size ≤ 4295163904
      by Directory f = let p = f.0 in omega (arith, p)
      by File f = subst (λ l. l ≤ 4295163904) (length-content V n (held r) old) f
      by Link f = let l = subst (λ l. l ≤ 4095) (length-content V n (held r) old) f in omega (arith, l)

  now-small : k.size ≤ 4295163904
  now-small = subst (λ m. m ≤ 4295163904) (sym set.size) (by s.size fits)
    where
      by : (o : Option ℕ) → is_too_big o ≡ false → unwrap_or o r.head.size ≤ 4295163904
      by None f = was-small
      by (Some m) f = ltb-false 4295163904 m f

  home-is : K.home ≡ H.home
  home-is = λ z. record { directory = set.directory z; place = set.place z; name = name_from r.bytes }

  whole-is : k.kind ≡ Directory → (blocks : ℕ) × (k.size ≡ 4096 * blocks)
  whole-is d = let e = sym set.kind ∙ d in let w = old.whole e in (w.0, same-size (not-file Directory e (λ n. absurd (cc (n)))) ∙ w.1)

  -- the first blocks, and the block with the numbers of the index blocks
  cut-off : (j : ℕ) → k.size ≤ 4096 * j → get_or k.blocks j 0 ≡ 0
  cut-off j far = set.blocks j ∙ ap (λ t. cond t 0 (get_or r.head.blocks j 0)) (le-leb k.size (4096 * j) far)

  kept-before : (j : ℕ) → 4096 * j < k.size → get_or k.blocks j 0 ≡ get_or r.head.blocks j 0
  kept-before j before = set.blocks j ∙ ap (λ t. cond t 0 (get_or r.head.blocks j 0)) (lt-leb k.size (4096 * j) before)

  zero-cut : (t : Bool) → ◌≡◌ {A = ℕ} (cond t 0 0) 0
  zero-cut true = refl
  zero-cut false = refl

  no-first : (j : ℕ) → 48 ≤ j → get_or k.blocks j 0 ≡ 0
  no-first j past = set.blocks j ∙ ap (λ b. cut_one b k.size j) (old.first j past) ∙ zero-cut (nat_le k.size (4096 * j))

  index-off : k.size ≤ 196608 → k.index ≡ 0
  index-off low = set.index ∙ ap (λ t. cond t 0 r.head.index) (le-leb k.size 196608 low)

  index-kept : 196608 < k.size → k.index ≡ r.head.index
  index-kept high = set.index ∙ ap (λ t. cond t 0 r.head.index) (lt-leb k.size 196608 high)

  index-none : r.head.index ≡ 0 → k.index ≡ 0
  index-none none = set.index ∙ ap (λ b. cut_one b k.size 48) none ∙ zero-cut (nat_le k.size 196608)

  -- what the inode has at a place then
  abbrev cut : ℕ → ℕ
  cut p = cond (nat_le k.size (begin_at p)) 0 (block_at V H p)

  cut-after : (p : ℕ) → k.size ≤ begin_at p → cut p ≡ 0
  cut-after p far = ap (λ t. cond t 0 (block_at V H p)) (le-leb k.size (begin_at p) far)

  cut-before : (p : ℕ) → begin_at p < k.size → cut p ≡ block_at V H p
  cut-before p before = ap (λ t. cond t 0 (block_at V H p)) (lt-leb k.size (begin_at p) before)

  cut-none : (p : ℕ) → block_at V H p ≡ 0 → cut p ≡ 0
  cut-none p none = ap (λ b. cond (nat_le k.size (begin_at p)) 0 b) none ∙ zero-cut (nat_le k.size (begin_at p))

  cut-some : (p : ℕ) → cut p ≢ 0 → cut p ≡ block_at V H p
  cut-some p some = by (cases_lt (begin_at p) k.size)
    where
      by : (begin_at p < k.size) ⊎ (k.size ≤ begin_at p) → cut p ≡ block_at V H p
      by (inl before) = cut-before p before
      by (inr far) = absurd (some (cut-after p far))

  -- where nothing is cut off, it has what it had
  cut-all : r.head.size ≤ k.size → (p : ℕ) → cut p ≡ block_at V H p
  cut-all grows p = by (cases_lt (begin_at p) k.size)
    where
      by : (begin_at p < k.size) ⊎ (k.size ≤ begin_at p) → cut p ≡ block_at V H p
      by (inl before) = cut-before p before
      by (inr far) = cut-after p far ∙ sym (old.after p (omega (arith, grows, far)))

  -- what is held is what was asked for, where each byte is
  module _ (W : View) (sound_is : IsSoundInode W n K) (front : (i : ℕ) → i < k.size → i < r.head.size → byte_at W K i ≡ byte_at V H i) (back : (i : ℕ) → i < k.size → r.head.size ≤ i → byte_at W K i ≡ 0) where
    bytes-are : content W K ≡ resized (content V H) s.size
    bytes-are = ext_get_or 0 (content W K) (resized (content V H) s.size) (long ∙ sym size-is) (λ i low. by i (let l = long in omega (arith, low, l)) (cases_lt i r.head.size))
      where
        long : length (content W K) ≡ k.size
        long = length-content W n K sound_is

        was-long : length (content V H) ≡ r.head.size
        was-long = length-content V n H old

        size-is : length (resized (content V H) s.size) ≡ k.size
        size-is = resized-long (content V H) s.size ∙ ap (unwrap_or s.size) was-long ∙ sym set.size

        below : (i : ℕ) → i < k.size → i < unwrap_or s.size (length (content V H))
        below i low = subst (λ m. i < m) (set.size ∙ ap (unwrap_or s.size) (sym was-long)) low

        by : (i : ℕ) → i < k.size → (i < r.head.size) ⊎ (r.head.size ≤ i) → get_or (content W K) i 0 ≡ get_or (resized (content V H) s.size) i 0
        by i low (inl inside) =
            content-at W n K sound_is i low ∙ front i low inside ∙ sym (content-at V n H old i inside)
            ∙ sym (resized-front (content V H) s.size i (below i low) (let l = was-long in omega (arith, l, inside)))
        by i low (inr past) =
            content-at W n K sound_is i low ∙ back i low past
            ∙ sym (resized-back (content V H) s.size i (below i low) (let l = was-long in omega (arith, l, past)))

    body-is : (kind : Kind) → r.head.kind ≡ kind → body_of W kind K ≡ resized_body (body_of V kind H) s.size
    body-is Directory d = ap (λ m. directory (m / 8)) (same-size (not-file Directory d (λ n. absurd (cc (n)))))
    body-is File f = ap file bytes-are
    body-is Link l = ap link (bytes-are ∙ ap (resized (content V H)) (unsized (not-file Link l (λ n. absurd (cc (n))))))

    kind-is : (kind : Kind) → kind_of (body_of V kind H) ≡ kind
    kind-is Directory = refl
    kind-is File = refl
    kind-is Link = refl

    pub node-set : node_of W K ≡ with_settings c s (node_of V H) now
    node-set = λ z. record {
      attributes = (set.attributes ctime ∙ ap (λ kind. set_attributes c s kind r.head.attributes now) (sym (kind-is r.head.kind))) z;
      home = home-is z;
      body = (ap (λ kind. body_of W kind K) set.kind ∙ body-is r.head.kind refl) z;
    }

  -- ── blocks with other bytes ──

  -- The blocks of a disk have these bytes. Those that the inode does not have are as they were, its
  -- own stay whole, and it has those before its end
  module _ (B : ℕ → List ℕ) (others : (x : ℕ) → ((p : ℕ) → block_at V H p ≢ 0 → block_at V H p ≢ x) → B x ≡ V.block x) (sized : (p : ℕ) → block_at V H p ≢ 0 → length (B (block_at V H p)) ≡ 4096)
      (plain : r.head.kind ≢ File → (x : ℕ) → B x ≡ V.block x) (places : (p : ℕ) → block_at (with_bytes V B) K p ≡ cut p) where
    abbrev W : View
    W = with_inode (with_bytes V B) n (used K)

    has : (p : ℕ) → block_at W K p ≡ cut p
    has p = ap (λ f. f p) (bytes-blocks V B n K K) ∙ places p

    kept : (p : ℕ) → block_at W K p ≢ 0 → block_at W K p ≡ block_at V H p
    kept p some = has p ∙ cut-some p (λ z. some (has p ∙ z))

    was : (p : ℕ) → block_at W K p ≢ 0 → block_at V H p ≢ 0
    was p some z = some (kept p some ∙ z)

    sound-set : IsSoundInode W n K
    sound-set = record {
      owned = λ p some. ap V.owner (kept p some) ∙ old.owned p (was p some);
      there = λ p some. subst (λ b. (V.first_data ≤ b) × (b < V.first_data + V.data_blocks)) (sym (kept p some)) (old.there p (was p some));
      after = λ p far. has p ∙ cut-after p far;
      sized = λ p some. ap (λ b. length (B b)) (kept p some) ∙ sized p (was p some);
      whole = whole-is;
      first = no-first;
    }

    same-block : r.head.kind ≡ Directory → (j : ℕ) → directory_block W K j ≡ directory_block V H j
    same-block d j = directory-frame V W K H j (has j ∙ cut-all (let e = same-size (not-file Directory d (λ n. absurd (cc (n)))) in omega (arith, e)) j)

    entries-set : (kind : Kind) → r.head.kind ≡ kind → (place : ℕ) → entry_by W kind K place ≡ entry_by V kind H place
    entries-set Directory d place =
        ap (λ b. entry_in W b (place % 512)) (same-block d (place / 512))
        ∙ ap (λ f. entry_in (with_bytes V f) (directory_block V H (place / 512)) (place % 512)) same
      where
        same : B ≡ V.block
        same = λ z. λ x. plain (not-file Directory d (λ n. absurd (cc (n)))) x z
    entries-set File f place = refl
    entries-set Link l place = refl

    apart : (i : ℕ) (g : Held) (q : ℕ) → i ≢ n → V.inode i ≡ used g → block_at V g q ≢ 0 → B (block_at V g q) ≡ V.block (block_at V g q)
    apart i g q other at some = others (block_at V g q) (λ p there same. other (sym (one_owner V n i H g p q old (sound.inodes i g at) there same).0))

    pub step-set : IsNodeStep V W n H K
    step-set = record {
      form = record { numbers = refl; first_data = refl; data_blocks = refl };
      is = is;
      new = inode-same (with_bytes V B) n (used K);
      others = λ i other. inode-other (with_bytes V B) n i (used K) other;
      blocks = apart;
      owners = λ i g q other at some. refl;
      sound = sound-set;
      home = home-is;
      generation = set.generation;
      entries = λ place. ap (λ kind. entry_by W kind K place) set.kind ∙ entries-set r.head.kind refl place;
    }

    -- a byte before its end
    byte-is : (i : ℕ) → i < k.size → byte_at W K i ≡ get_or (bytes_in W (block_at V H (i / 4096))) (i % 4096) 0
    byte-is i low = ap (λ b. get_or (bytes_in W b) (i % 4096) 0) (has (i / 4096) ∙ cut-before (i / 4096) (
        subst (λ b. b < k.size) (sym (begin-content (i / 4096) (let m = now-small in omega (arith, low, m)))) (omega (arith, low))))

    module _ (front : (i : ℕ) → i < k.size → i < r.head.size → block_at V H (i / 4096) ≢ 0 → get_or (B (block_at V H (i / 4096))) (i % 4096) 0 ≡ get_or (V.block (block_at V H (i / 4096))) (i % 4096) 0)
        (back : (i : ℕ) → i < k.size → r.head.size ≤ i → block_at V H (i / 4096) ≢ 0 → get_or (B (block_at V H (i / 4096))) (i % 4096) 0 ≡ 0) where
      pub bytes-set : node_of W K ≡ with_settings c s (node_of V H) now
      bytes-set = node-set W sound-set
          (λ i low inside. byte-is i low ∙ one i low inside (cases_eq (block_at V H (i / 4096)) 0))
          (λ i low far. byte-is i low ∙ other i low far (cases_eq (block_at V H (i / 4096)) 0))
        where
          one : (i : ℕ) → i < k.size → i < r.head.size → (block_at V H (i / 4096) ≡ 0) ⊎ (block_at V H (i / 4096) ≡ 0 → ⊥) → get_or (bytes_in W (block_at V H (i / 4096))) (i % 4096) 0 ≡ byte_at V H i
          one i low inside (inl none) = in-none W (block_at V H (i / 4096)) (i % 4096) none (omega arith) ∙ sym (in-none V (block_at V H (i / 4096)) (i % 4096) none (omega arith))
          one i low inside (inr some) = in-some W (block_at V H (i / 4096)) (i % 4096) some ∙ front i low inside some ∙ sym (in-some V (block_at V H (i / 4096)) (i % 4096) some)

          other : (i : ℕ) → i < k.size → r.head.size ≤ i → (block_at V H (i / 4096) ≡ 0) ⊎ (block_at V H (i / 4096) ≡ 0 → ⊥) → get_or (bytes_in W (block_at V H (i / 4096))) (i % 4096) 0 ≡ 0
          other i low far (inl none) = in-none W (block_at V H (i / 4096)) (i % 4096) none (omega arith)
          other i low far (inr some) = in-some W (block_at V H (i / 4096)) (i % 4096) some ∙ back i low far some

  -- ── no block is cleared ──

  abbrev Done : Tails → Type 0
  Done t = IsNodeStep V (with_set V n r k t) n H K × (node_of (with_set V n r k t) K ≡ with_settings c s (node_of V H) now)

  -- a file that does not get smaller has the blocks that it had
  same-index : r.head.size ≤ k.size → k.index ≡ r.head.index
  same-index grows = by (cases_lt 196608 k.size)
    where
      by : (196608 < k.size) ⊎ (k.size ≤ 196608) → k.index ≡ r.head.index
      by (inl high) = index-kept high
      by (inr low) = index-off low ∙ sym (sym (at-index V H) ∙ old.after 2147483648 (subst (λ b. r.head.size ≤ b) (sym begin-index) (omega (arith, grows, low))))

  same-numbers : r.head.size ≤ k.size → (j : ℕ) → get_or k.blocks j 0 ≡ get_or r.head.blocks j 0
  same-numbers grows j = by (cases_lt (4096 * j) k.size)
    where
      by : (4096 * j < k.size) ⊎ (k.size ≤ 4096 * j) → get_or k.blocks j 0 ≡ get_or r.head.blocks j 0
      by (inl before) = kept-before j before
      by (inr far) = cut-off j far ∙ sym (first-after V n H old j (omega (arith, grows, far)))

  grown-places : (B : ℕ → List ℕ) → r.head.size ≤ k.size → ((p : ℕ) → block_at (with_bytes V B) H p ≡ block_at V H p) → (p : ℕ) → block_at (with_bytes V B) K p ≡ cut p
  grown-places B grows frame p =
      same-blocks (with_bytes V B) K H (λ z. λ j. same-numbers grows j z) (same-index grows) p
      ∙ frame p
      ∙ sym (cut-all grows p)

  -- it ends where it has no block
  last-none : MOST_FILE_BLOCKS ≤ r.head.size / 4096 → block_at V H (r.head.size / 4096) ≡ 0
  last-none past = old.after (r.head.size / 4096) (subst (λ b. r.head.size ≤ b) (sym (begin-content (r.head.size / 4096) (let w = was-small in omega (arith, w)))) (let w = was-small in omega (arith, w, past)))

  after-end : (i : ℕ) → r.head.size ≤ i → i < k.size → block_at V H (i / 4096) ≢ 0 → (i / 4096 ≡ r.head.size / 4096) × (4096 * (r.head.size / 4096) < r.head.size)
  after-end i far low some = by (cases_lt (4096 * (i / 4096)) r.head.size)
    where
      by : (4096 * (i / 4096) < r.head.size) ⊎ (r.head.size ≤ 4096 * (i / 4096)) → (i / 4096 ≡ r.head.size / 4096) × (4096 * (r.head.size / 4096) < r.head.size)
      by (inl before) = (let e : i / 4096 ≡ r.head.size / 4096 = omega (arith, before, far) in e, omega (arith, before, far))
      by (inr past) = absurd (some (old.after (i / 4096) (subst (λ b. r.head.size ≤ b) (sym (begin-content (i / 4096) (let m = now-small in omega (arith, low, m)))) past)))

  plain-bytes : (places : (p : ℕ) → block_at (with_bytes V V.block) K p ≡ cut p) → ((i : ℕ) → i < k.size → r.head.size ≤ i → block_at V H (i / 4096) ≢ 0 → get_or (V.block (block_at V H (i / 4096))) (i % 4096) 0 ≡ 0) → Done NoTail
  plain-bytes places back = (
    step-set V.block (λ x other. refl) (λ p some. old.sized p some) (λ other x. refl) places,
    bytes-set V.block (λ x other. refl) (λ p some. old.sized p some) (λ other x. refl) places (λ i low inside some. refl) back,
  )

  done-same : r.head.size ≡ k.size → Done NoTail
  done-same same = plain-bytes (grown-places V.block (omega (arith, same)) (λ p. ap (λ f. f p) (bytes-same V H))) (λ i low far some. absurd (omega (arith, same, low, far)))

  done-hole : r.head.size < k.size → block_at V H (r.head.size / 4096) ≡ 0 → Done NoTail
  done-hole grows none = plain-bytes (grown-places V.block (omega (arith, grows)) (λ p. ap (λ f. f p) (bytes-same V H))) (λ i low far some. absurd (some (ap (block_at V H) (after-end i far low some).0 ∙ none)))

  -- a file that gets smaller, and has no index blocks then
  done-small : k.size < r.head.size → k.index ≡ 0 → ((p : ℕ) → 48 ≤ p → cut p ≡ 0) → Done NoTail
  done-small smaller none zero = plain-bytes places (λ i low far some. absurd (omega (arith, smaller, low, far)))
    where
      by : (p : ℕ) → (p < 48) ⊎ (48 ≤ p) → get_or k.blocks p 0 ≡ cut p
      by p (inr past) = no-first p past ∙ sym (zero p past)
      by p (inl low) = cases (cases_lt (4096 * p) k.size)
        where
          cases : (4096 * p < k.size) ⊎ (k.size ≤ 4096 * p) → get_or k.blocks p 0 ≡ cut p
          cases (inl before) = kept-before p before ∙ sym (cut-before p (subst (λ b. b < k.size) (sym (begin-content p (omega (arith, low)))) before) ∙ at-direct V H p low)
          cases (inr far) = cut-off p far ∙ sym (cut-after p (subst (λ b. k.size ≤ b) (sym (begin-content p (omega (arith, low)))) far))

      places : (p : ℕ) → block_at (with_bytes V V.block) K p ≡ cut p
      places p = no-index (with_bytes V V.block) K none no-first p ∙ by p (cases_lt p 48)

  done-direct : k.size < r.head.size → r.head.index ≡ 0 → Done NoTail
  done-direct smaller none = done-small smaller (index-none none) (λ p past. cut-none p (no-index V H none old.first p ∙ old.first p past))

  done-low : k.size < r.head.size → k.size ≤ 196608 → Done NoTail
  done-low smaller low = done-small smaller (index-off low) (λ p past. by p past (place_kind p))
    where
      by : (p : ℕ) → 48 ≤ p → PlaceOf p → cut p ≡ 0
      by p past (PlaceOf.direct_place less) = absurd (omega (arith, past, less))
      by p past (PlaceOf.content_place i j a b e) = cut-after p (subst (λ b. k.size ≤ b) (sym (begin-content p (omega (arith, a, b, e)))) (omega (arith, low, past)))
      by p past (PlaceOf.index_place e) = cut-after p (subst (λ b. k.size ≤ b) (sym (ap begin_at e ∙ begin-index)) low)
      by p past (PlaceOf.leaf_place i a e) = cut-after p (subst (λ b. k.size ≤ b) (sym (ap begin_at e ∙ begin-leaf i)) (omega (arith, low)))
      by p past (PlaceOf.no_place a b d) = cut-none p (at-none V H p a b d)

  -- ── the block in which it ends is cleared ──

  module _ (grows : r.head.size < k.size) (some : block_at V H (r.head.size / 4096) ≢ 0) where
    abbrev b : ℕ
    b = block_at V H (r.head.size / 4096)

    abbrev v : List ℕ
    v = V.block (block_at V H (r.head.size / 4096))

    abbrev B1 : ℕ → List ℕ
    B1 x = if_block x (block_at V H (r.head.size / 4096)) (cleared (V.block (block_at V H (r.head.size / 4096))) (r.head.size % 4096)) (V.block x)

    a_file : r.head.kind ≡ File
    a_file = by r.head.kind refl
      where
        by : (kind : Kind) → r.head.kind ≡ kind → kind ≡ File
        by Directory d = absurd (let e = same-size (not-file Directory d (λ n. absurd (cc (n)))) in let g = grows in omega (arith, e, g))
        by Link l = absurd (let e = same-size (not-file Link l (λ n. absurd (cc (n)))) in let g = grows in omega (arith, e, g))
        by File f = refl

    long : length v ≡ 4096
    long = old.sized (r.head.size / 4096) some

    here : B1 b ≡ cleared v (r.head.size % 4096)
    here = ap (λ t. cond t (cleared v (r.head.size % 4096)) v) (eq-eqb b b refl)

    elsewhere : (x : ℕ) → x ≢ b → B1 x ≡ V.block x
    elsewhere x other = ap (λ t. cond t (cleared v (r.head.size % 4096)) (V.block x)) (ne_eqb x b other)

    one_place : (p : ℕ) → block_at V H p ≡ b → p ≡ r.head.size / 4096
    one_place p same = sym (one_owner V n n H H (r.head.size / 4096) p old old some (sym same)).1

    others-cleared : (x : ℕ) → ((p : ℕ) → block_at V H p ≢ 0 → block_at V H p ≢ x) → B1 x ≡ V.block x
    others-cleared x apart = elsewhere x (λ e. apart (r.head.size / 4096) some (sym e))

    sized-cleared : (p : ℕ) → block_at V H p ≢ 0 → length (B1 (block_at V H p)) ≡ 4096
    sized-cleared p there = by (cases_eq (block_at V H p) b)
      where
        by : (block_at V H p ≡ b) ⊎ (block_at V H p ≡ b → ⊥) → length (B1 (block_at V H p)) ≡ 4096
        by (inl same) = ap (λ x. length (B1 x)) same ∙ ap length here ∙ cleared-long v (r.head.size % 4096) long (omega arith)
        by (inr other) = ap length (elsewhere (block_at V H p) other) ∙ old.sized p there

    places-cleared : (p : ℕ) → block_at (with_bytes V B1) K p ≡ cut p
    places-cleared = grown-places B1 (omega (arith, grows)) (block_at-frame V (with_bytes V B1) H (λ p high there. elsewhere (block_at V H p) (λ same. absurd (let e = one_place p same in let w = was-small in omega (arith, e, w, high)))))

    front-cleared : (i : ℕ) → i < k.size → i < r.head.size → block_at V H (i / 4096) ≢ 0 → get_or (B1 (block_at V H (i / 4096))) (i % 4096) 0 ≡ get_or (V.block (block_at V H (i / 4096))) (i % 4096) 0
    front-cleared i low inside there = by (cases_eq (block_at V H (i / 4096)) b)
      where
        by : (block_at V H (i / 4096) ≡ b) ⊎ (block_at V H (i / 4096) ≡ b → ⊥) → get_or (B1 (block_at V H (i / 4096))) (i % 4096) 0 ≡ get_or (V.block (block_at V H (i / 4096))) (i % 4096) 0
        by (inr other) = ap (λ v. get_or v (i % 4096) 0) (elsewhere (block_at V H (i / 4096)) other)
        by (inl same) =
            ap (λ x. get_or (B1 x) (i % 4096) 0) same
            ∙ ap (λ v. get_or v (i % 4096) 0) here
            ∙ cleared-front v (r.head.size % 4096) (i % 4096) long (omega arith) (let e = one_place (i / 4096) same in omega (arith, e, inside))
            ∙ ap (λ x. get_or (V.block x) (i % 4096) 0) (sym same)

    back-cleared : (i : ℕ) → i < k.size → r.head.size ≤ i → block_at V H (i / 4096) ≢ 0 → get_or (B1 (block_at V H (i / 4096))) (i % 4096) 0 ≡ 0
    back-cleared i low far there =
        ap (λ j. get_or (B1 (block_at V H j)) (i % 4096) 0) (after-end i far low there).0
        ∙ ap (λ v. get_or v (i % 4096) 0) here
        ∙ cleared-back v (r.head.size % 4096) (i % 4096) long (omega arith) (let e = (after-end i far low there).0 in omega (arith, e, far)) (omega arith)

    not-plain : r.head.kind ≢ File → (x : ℕ) → B1 x ≡ V.block x
    not-plain other x = absurd (other a_file)

    done-tail : Done (OneTail (record { block = block_at V H (r.head.size / 4096); from = r.head.size % 4096 }))
    done-tail = (
      step-set B1 others-cleared sized-cleared not-plain places-cleared,
      bytes-set B1 others-cleared sized-cleared not-plain places-cleared front-cleared back-cleared,
    )

  -- ── index blocks are cleared ──

  module _ (smaller : k.size < r.head.size) (some : r.head.index ≢ 0) (high : last_leaf k.size ≢ 0) where
    abbrev L : ℕ
    L = last_leaf k.size

    abbrev leaf : ℕ
    leaf = index_block V H (L - 1)

    abbrev N : ℕ
    N = last_numbers L k.size

    small-file : r.head.kind ≡ File
    small-file = by r.head.kind refl
      where
        by : (kind : Kind) → r.head.kind ≡ kind → kind ≡ File
        by Directory d = absurd (let e = same-size (not-file Directory d (λ n. absurd (cc (n)))) in omega (arith, e, smaller))
        by Link l = absurd (let e = same-size (not-file Link l (λ n. absurd (cc (n)))) in omega (arith, e, smaller))
        by File f = refl

    -- how the numbers stand to the size
    few-leaves : (0 < L) × (L ≤ 1024)
    few-leaves = (omega (arith, high), omega arith)

    few-numbers : 4 * N ≤ 4096
    few-numbers = let m = now-small in omega (arith, m)

    above : 196608 < k.size
    above = let m = now-small in omega (arith, m, high)

    keeps-index : k.index ≡ r.head.index
    keeps-index = index-kept above

    root_at : block_at V H 2147483648 ≡ r.head.index
    root_at = at-index V H

    leaf_at : block_at V H (2147483649 + (L - 1)) ≡ leaf
    leaf_at = at-leaf V H (L - 1) (let f = few-leaves.1 in let g = few-leaves.0 in omega (arith, f, g))

    root-long : length (V.block r.head.index) ≡ 4096
    root-long = ap (λ b. length (V.block b)) (sym root_at) ∙ old.sized 2147483648 (λ z. some (sym root_at ∙ z))

    leaf-long : leaf ≢ 0 → length (V.block leaf) ≡ 4096
    leaf-long there = ap (λ b. length (V.block b)) (sym leaf_at) ∙ old.sized (2147483649 + (L - 1)) (λ z. there (sym leaf_at ∙ z))

    -- it has each block at one place
    not_root : (p : ℕ) → p ≢ 2147483648 → block_at V H p ≢ 0 → block_at V H p ≢ r.head.index
    not_root p other there same = other (one_owner V n n H H p 2147483648 old old there (same ∙ sym root_at)).1

    not_leaf : (p : ℕ) → p ≢ 2147483649 + (L - 1) → block_at V H p ≢ 0 → block_at V H p ≢ leaf
    not_leaf p other there same = other (one_owner V n n H H p (2147483649 + (L - 1)) old old there (same ∙ sym leaf_at)).1

    -- the bytes of these two are cleared
    module _ (B : ℕ → List ℕ) (root-is : B r.head.index ≡ cleared (V.block r.head.index) (4 * L)) (leaf-is : leaf ≢ 0 → B leaf ≡ cleared (V.block leaf) (4 * N))
        (rest-is : (x : ℕ) → x ≢ r.head.index → (leaf ≢ 0 → x ≢ leaf) → B x ≡ V.block x) where
      abbrev U : View
      U = with_bytes V B

      others-cut : (x : ℕ) → ((p : ℕ) → block_at V H p ≢ 0 → block_at V H p ≢ x) → B x ≡ V.block x
      others-cut x apart = rest-is x (λ e. apart 2147483648 (λ z. some (sym root_at ∙ z)) (root_at ∙ sym e)) (λ there e. apart (2147483649 + (L - 1)) (λ z. there (sym leaf_at ∙ z)) (leaf_at ∙ sym e))

      content-same : (p : ℕ) → p < 2147483648 → block_at V H p ≢ 0 → B (block_at V H p) ≡ V.block (block_at V H p)
      content-same p low there = rest-is (block_at V H p) (not_root p (λ e. absurd (omega (arith, e, low))) there) (λ leaf_there. not_leaf p (λ e. absurd (omega (arith, e, low))) there)

      sized-cut : (p : ℕ) → block_at V H p ≢ 0 → length (B (block_at V H p)) ≡ 4096
      sized-cut p there = by (cases_eq (block_at V H p) r.head.index) (cases_eq (block_at V H p) leaf)
        where
          by : (block_at V H p ≡ r.head.index) ⊎ (block_at V H p ≡ r.head.index → ⊥) → (block_at V H p ≡ leaf) ⊎ (block_at V H p ≡ leaf → ⊥) → length (B (block_at V H p)) ≡ 4096
          by (inl same) _ = ap (λ b. length (B b)) same ∙ ap length root-is ∙ cleared-long (V.block r.head.index) (4 * L) root-long (let f = few-leaves.1 in omega (arith, f))
          by (inr other) (inl same) = ap (λ b. length (B b)) same ∙ ap length (leaf-is (λ z. there (same ∙ z))) ∙ cleared-long (V.block leaf) (4 * N) (leaf-long (λ z. there (same ∙ z))) few-numbers
          by (inr other) (inr apart) = ap length (rest-is (block_at V H p) other (λ t. apart)) ∙ old.sized p there

      root-number : (i : ℕ) → index_block U K i ≡ number_at (cleared (V.block r.head.index) (4 * L)) i
      root-number i =
          ap (λ b. number_in U b i) keeps-index
          ∙ ap (λ t. cond t 0 (number_at (B r.head.index) i)) (ne_eqb r.head.index 0 some)
          ∙ ap (λ v. number_at v i) root-is

      root-before : (i : ℕ) → i < L → index_block U K i ≡ index_block V H i
      root-before i low =
          root-number i
          ∙ number-front (V.block r.head.index) (4 * L) i root-long (let f = few-leaves.1 in omega (arith, f)) (omega (arith, low))
          ∙ sym (ap (λ t. cond t 0 (number_at (V.block r.head.index) i)) (ne_eqb r.head.index 0 some))

      root-after : (i : ℕ) → L ≤ i → i < 1024 → index_block U K i ≡ 0
      root-after i past low = root-number i ∙ number-back (V.block r.head.index) (4 * L) i root-long (let f = few-leaves.1 in omega (arith, f)) (omega (arith, past)) low

      -- a number in an index block that it keeps
      leaf-number : (i j : ℕ) → i < L → j < 1024 → (index_block V H i ≡ 0) ⊎ (index_block V H i ≡ 0 → ⊥) → (i ≡ L - 1) ⊎ (i ≡ L - 1 → ⊥) → number_in U (index_block U K i) j ≡ cut (48 + 1024 * i + j)
      leaf-number i j low inside (inl none) _ =
          ap (λ b. number_in U b j) (root-before i low ∙ none)
          ∙ sym (cut-none (48 + 1024 * i + j) (at-indexed V H i j (let f = few-leaves.1 in omega (arith, f, low)) inside ∙ ap (λ b. number_in V b j) none))
      leaf-number i j low inside (inr there) (inr other) =
          ap (λ b. number_in U b j) (root-before i low)
          ∙ ap (λ v. cond (eqb (index_block V H i) 0) 0 (number_at v j)) same
          ∙ sym (cut-before (48 + 1024 * i + j) (subst (λ b. b < k.size) (sym (begin-content (48 + 1024 * i + j) (let f = few-leaves.1 in omega (arith, f, low, inside)))) (let m = now-small in let o = other in omega (arith, m, low, inside, o)))
          ∙ at-indexed V H i j (let f = few-leaves.1 in omega (arith, f, low)) inside)
        where
          i_at : block_at V H (2147483649 + i) ≡ index_block V H i
          i_at = at-leaf V H i (let f = few-leaves.1 in omega (arith, f, low))

          same : B (index_block V H i) ≡ V.block (index_block V H i)
          same = rest-is (index_block V H i) (λ e. not_root (2147483649 + i) (λ e. absurd (omega (arith, e))) (λ z. there (sym i_at ∙ z)) (i_at ∙ e))
              (λ t e. not_leaf (2147483649 + i) (λ e. other (omega (arith, e))) (λ z. there (sym i_at ∙ z)) (i_at ∙ e))
      leaf-number i j low inside (inr there) (inl last) =
          ap (λ b. number_in U b j) (root-before i low ∙ ap (index_block V H) last)
          ∙ ap (λ t. cond t 0 (number_at (B leaf) j)) (ne_eqb leaf 0 leaf_there)
          ∙ ap (λ v. number_at v j) (leaf-is leaf_there)
          ∙ by (cases_lt j N)
        where
          leaf_there : leaf ≢ 0
          leaf_there z = there (ap (index_block V H) last ∙ z)

          had : block_at V H (48 + 1024 * i + j) ≡ number_at (V.block leaf) j
          had =
              at-indexed V H i j (let f = few-leaves.1 in omega (arith, f, low)) inside
              ∙ ap (λ b. number_in V b j) (ap (index_block V H) last)
              ∙ ap (λ t. cond t 0 (number_at (V.block leaf) j)) (ne_eqb leaf 0 leaf_there)

          begins : begin_at (48 + 1024 * i + j) ≡ 4096 * (48 + 1024 * i + j)
          begins = begin-content (48 + 1024 * i + j) (let f = few-leaves.1 in omega (arith, f, low, inside))

          by : (j < N) ⊎ (N ≤ j) → number_at (cleared (V.block leaf) (4 * N)) j ≡ cut (48 + 1024 * i + j)
          by (inl before) =
              number-front (V.block leaf) (4 * N) j (leaf-long leaf_there) few-numbers (omega (arith, before))
              ∙ sym (cut-before (48 + 1024 * i + j) (subst (λ b. b < k.size) (sym begins) (let m = now-small in let l = last in omega (arith, m, l, before, high))) ∙ had)
          by (inr past) =
              number-back (V.block leaf) (4 * N) j (leaf-long leaf_there) few-numbers (omega (arith, past)) inside
              ∙ sym (cut-after (48 + 1024 * i + j) (subst (λ b. k.size ≤ b) (sym begins) (let m = now-small in let l = last in omega (arith, m, l, past, high))))

      places-cut : (p : ℕ) → block_at U K p ≡ cut p
      places-cut p = by (place_kind p)
        where
          by : PlaceOf p → block_at U K p ≡ cut p
          by (PlaceOf.direct_place low) =
              at-direct U K p low
              ∙ kept-before p (let a = above in omega (arith, a, low))
              ∙ sym (cut-before p (subst (λ b. b < k.size) (sym (begin-content p (omega (arith, low)))) (let a = above in omega (arith, a, low))) ∙ at-direct V H p low)
          by (PlaceOf.content_place i j low inside e) = ap (block_at U K) e ∙ at-indexed U K i j low inside ∙ each i j low inside (cases_lt i L) ∙ ap cut (sym e)
            where
              each : (i j : ℕ) → i < 1024 → j < 1024 → (i < L) ⊎ (L ≤ i) → number_in U (index_block U K i) j ≡ cut (48 + 1024 * i + j)
              each i j low inside (inl before) = leaf-number i j before inside (cases_eq (index_block V H i) 0) (cases_eq i (L - 1))
              each i j low inside (inr past) =
                  ap (λ b. number_in U b j) (root-after i past low)
                  ∙ sym (cut-after (48 + 1024 * i + j) (subst (λ b. k.size ≤ b) (sym (begin-content (48 + 1024 * i + j) (omega (arith, low, inside)))) (let m = now-small in omega (arith, m, past))))
          by (PlaceOf.index_place e) =
              ap (block_at U K) e
              ∙ at-index U K
              ∙ keeps-index
              ∙ sym (ap cut e ∙ cut-before 2147483648 (subst (λ b. b < k.size) (sym begin-index) above) ∙ root_at)
          by (PlaceOf.leaf_place i low e) = ap (block_at U K) e ∙ at-leaf U K i low ∙ each (cases_lt i L) ∙ ap cut (sym e)
            where
              each : (i < L) ⊎ (L ≤ i) → index_block U K i ≡ cut (2147483649 + i)
              each (inl before) = root-before i before ∙ sym (cut-before (2147483649 + i) (subst (λ b. b < k.size) (sym (begin-leaf i)) (let m = now-small in omega (arith, m, before))) ∙ at-leaf V H i low)
              each (inr past) = root-after i past low ∙ sym (cut-after (2147483649 + i) (subst (λ b. k.size ≤ b) (sym (begin-leaf i)) (let m = now-small in omega (arith, m, past))))
          by (PlaceOf.no_place a b d) = at-none U K p a b d ∙ sym (cut-none p (at-none V H p a b d))

      front-cut : (i : ℕ) → i < k.size → i < r.head.size → block_at V H (i / 4096) ≢ 0 → get_or (B (block_at V H (i / 4096))) (i % 4096) 0 ≡ get_or (V.block (block_at V H (i / 4096))) (i % 4096) 0
      front-cut i low inside there = ap (λ v. get_or v (i % 4096) 0) (content-same (i / 4096) (let m = now-small in omega (arith, low, m)) there)

      back-cut : (i : ℕ) → i < k.size → r.head.size ≤ i → block_at V H (i / 4096) ≢ 0 → get_or (B (block_at V H (i / 4096))) (i % 4096) 0 ≡ 0
      back-cut i low far there = absurd (omega (arith, low, far, smaller))

      not-plain-cut : r.head.kind ≢ File → (x : ℕ) → B x ≡ V.block x
      not-plain-cut other x = absurd (other small-file)

      done-bytes : IsNodeStep V (with_inode (with_bytes V B) n (used K)) n H K × (node_of (with_inode (with_bytes V B) n (used K)) K ≡ with_settings c s (node_of V H) now)
      done-bytes = (
        step-set B others-cut sized-cut not-plain-cut places-cut,
        bytes-set B others-cut sized-cut not-plain-cut places-cut front-cut back-cut,
      )

    abbrev root-tail : Tail
    root-tail = record { block = r.head.index; from = 4 * L }

    abbrev leaf-tail : Tail
    leaf-tail = record { block = leaf; from = 4 * N }

    abbrev BR : ℕ → List ℕ
    BR x = if_block x r.head.index (cleared (V.block r.head.index) (4 * L)) (V.block x)

    abbrev BL : ℕ → List ℕ
    BL x = if_block x leaf (cleared (V.block leaf) (4 * N)) (BR x)

    done-root : leaf ≡ 0 → Done (OneTail root-tail)
    done-root none = done-bytes BR
        (ap (λ t. cond t (cleared (V.block r.head.index) (4 * L)) (V.block r.head.index)) (eq-eqb r.head.index r.head.index refl))
        (λ there. absurd (there none))
        (λ x other _. ap (λ t. cond t (cleared (V.block r.head.index) (4 * L)) (V.block x)) (ne_eqb x r.head.index other))

    done-both : leaf ≢ 0 → Done (TwoTails root-tail leaf-tail)
    done-both there = done-bytes BL
        (ap (λ t. cond t (cleared (V.block leaf) (4 * N)) (BR r.head.index)) (ne_eqb r.head.index leaf apart)
        ∙ ap (λ t. cond t (cleared (V.block r.head.index) (4 * L)) (V.block r.head.index)) (eq-eqb r.head.index r.head.index refl))
        (λ _. ap (λ t. cond t (cleared (V.block leaf) (4 * N)) (BR leaf)) (eq-eqb leaf leaf refl))
        (λ x other far.
        ap (λ t. cond t (cleared (V.block leaf) (4 * N)) (BR x)) (ne_eqb x leaf (far there))
        ∙ ap (λ t. cond t (cleared (V.block r.head.index) (4 * L)) (V.block x)) (ne_eqb x r.head.index other))
      where
        apart : r.head.index ≢ leaf
        apart e = not_leaf 2147483648 (λ e. absurd (omega (arith, e))) (λ z. some (sym root_at ∙ z)) (root_at ∙ e)

  -- ── each of them ──

  pub set-step : Done (tails_of V r.head k.size)
  set-step = by (nat_lt r.head.size k.size) (nat_lt k.size r.head.size) refl refl
    where
      last-block : file_blocks V r.head (r.head.size / 4096) ≡ block_at V H (r.head.size / 4096)
      last-block = sym (file-named V r.head (name_from r.bytes) (r.head.size / 4096))

      grown : r.head.size < k.size → (a b : Bool) → nat_le MOST_FILE_BLOCKS (r.head.size / 4096) ≡ a → eqb (file_blocks V r.head (r.head.size / 4096)) 0 ≡ b
          → Done (cond a NoTail (cond b NoTail (OneTail (record { block = file_blocks V r.head (r.head.size / 4096); from = r.head.size % 4096 }))))
      grown grows true b far e = done-hole grows (last-none (leb-true MOST_FILE_BLOCKS (r.head.size / 4096) far))
      grown grows false true far e = done-hole grows (sym last-block ∙ eqb-true (file_blocks V r.head (r.head.size / 4096)) 0 e)
      grown grows false false far e = subst (λ b. Done (OneTail (record { block = b; from = r.head.size % 4096 }))) (sym last-block)
          (done-tail grows (λ z. false≢true (sym e ∙ eq-eqb (file_blocks V r.head (r.head.size / 4096)) 0 (last-block ∙ z))))

      kept-parts : k.size < r.head.size → r.head.index ≢ 0 → last_leaf k.size ≢ 0 → (b : Bool) → eqb (file_index V r.head (last_leaf k.size - 1)) 0 ≡ b
          → Done (cond b (OneTail (record { block = r.head.index; from = 4 * last_leaf k.size })) (TwoTails (record { block = r.head.index; from = 4 * last_leaf k.size }) (record { block = file_index V r.head (last_leaf k.size - 1); from = 4 * last_numbers (last_leaf k.size) k.size })))
      kept-parts smaller some high true e = done-root smaller some high (eqb-true (file_index V r.head (last_leaf k.size - 1)) 0 e)
      kept-parts smaller some high false e = done-both smaller some high (λ z. false≢true (sym e ∙ eq-eqb (file_index V r.head (last_leaf k.size - 1)) 0 z))

      shrunk : k.size < r.head.size → (a b : Bool) → eqb r.head.index 0 ≡ a → eqb (last_leaf k.size) 0 ≡ b → Done (cond a NoTail (cond b NoTail (kept_tails V r.head (last_leaf k.size) k.size)))
      shrunk smaller true b none e = done-direct smaller (eqb-true r.head.index 0 none)
      shrunk smaller false true some e = done-low smaller (let m = now-small in let z = eqb-true (last_leaf k.size) 0 e in omega (arith, m, z))
      shrunk smaller false false some e = kept-parts smaller (λ z. false≢true (sym some ∙ eq-eqb r.head.index 0 z)) (λ z. false≢true (sym e ∙ eq-eqb (last_leaf k.size) 0 z)) (eqb (file_index V r.head (last_leaf k.size - 1)) 0) refl

      by : (a b : Bool) → nat_lt r.head.size k.size ≡ a → nat_lt k.size r.head.size ≡ b → Done (cond a (grown_tails V r.head) (cond b (cut_tails V r.head k.size) NoTail))
      by true b grows _ = grown (ltb-true r.head.size k.size grows) (nat_le MOST_FILE_BLOCKS (r.head.size / 4096)) (eqb (file_blocks V r.head (r.head.size / 4096)) 0) refl refl
      by false true _ smaller = shrunk (ltb-true k.size r.head.size smaller) (eqb r.head.index 0) (eqb (last_leaf k.size) 0) refl refl
      by false false more less = done-same (let a = ltb-false r.head.size k.size more in let b = ltb-false k.size r.head.size less in let e : r.head.size ≡ k.size = omega (arith, a, b) in e)
