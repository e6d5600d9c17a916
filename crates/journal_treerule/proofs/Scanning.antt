-- The description and the inodes are looked at, one after another.
use Rattle.std.proofs.Common.{ℕ, ◌≡◌, ◌≢◌, ◌<◌, ◌≤◌, ◌+◌, ◌*◌, ◌-◌, Bool, true, false, List, Option, Some, None, length, get_or, refl, sym, ap, subst, ◌⊎◌, inl, inr, ◌∙◌, arith, get_or-set_same, get_or-set_other}
use Rattle.std.specs.Prelude.{◌↔◌, ◌^◌, IsTrue, MatchOption, slice_set}
use Rattle.std.proofs.lemmas.Bool.{cases_eq, cases_lt, false≢true}
use Rattle.std.proofs.lemmas.List.{length-set, get_or_past}
use Rattle.journal_world.specs.Maps.{Map}
use Rattle.journal_treestore.specs.declared.description.Description.{Description}
use Rattle.journal_treestore.specs.declared.inode.TheConstants.{DIRECT_BLOCKS, INDEX_NUMBERS, INDEX_PLACE, FIRST_INDEX_PLACE}
use Rattle.journal_treestore.specs.declared.inode.Inode.{Inode}
use Rattle.journal_treestore.specs.declared.inode.Inode.TheVariants.{Free, Used}
use Rattle.journal_treestore.specs.declared.inode.Head.{Head}
use Rattle.journal_treestore.specs.declared.owner.Owner.{Owner}
use Rattle.journal_treestore.specs.declared.place.Cut.{Cut}
use Rattle.journal_treestore.specs.Descriptions.{description_bytes}
use Rattle.journal_treestore.specs.Inodes.{inode_from, name_from}
use Rattle.journal_treestore.specs.Places.{first_data, IsCut}
use Rattle.journal_treestore.specs.Views.{Held, View, begin_at, held_of, seen}
use Rattle.journal_treestore.specs.Views.Seen.{free, used}
use Rattle.journal_treestore.proofs.Shaping.{has_data, few_base}
use Rattle.journal_treecalls.specs.Disks.{inode_seen}
use Rattle.journal_treeobjects.specs.Maps.{description_of, view_of}
use Rattle.journal_treerule.specs.Parts.{IsDescriptionOf, IsInPlace, IsWithinBounds, IsSoundBlock, IsNode, IsRightInode, AreInodesRight, is_used, AreInUse, IsFirstSound, IsNumberSound, IsSoundIndexBlock, IsIndexBlockSound, IsSoundIndex, AreAllSound, IsScanned, ArePassed}
use Rattle.journal_treerule.proofs.BlockParts.{all-blocks, in-parts}

-- what was found of the map that is there now, of that before
pub at-before : (P : Map → Type 0) (before now : Map) (trusted still : Bool) → now ≡ before → still ≡ trusted → (IsTrue still → P now) → IsTrue trusted → P before
at-before P before now trusted still same_map same_trust found trust = subst P same_map (found (subst IsTrue (sym same_trust) trust))

-- a test that fails refuses what needs it
pub refuses : {P Q : Type 0} (b : Bool) → (IsTrue b ↔ P) → b ≡ false → (Q → P) → IsTrue false ↔ Q
refuses b test fails needs = ((λ no. absurd (false≢true no)), (λ q. absurd (false≢true (sym fails ∙ test.1 (needs q)))))

pub fails-test : {P : Type 0} (b : Bool) → (IsTrue b ↔ P) → b ≡ false → P → ⊥
fails-test b test fails p = false≢true (sym fails ∙ test.1 p)

-- what a test of order says where it fails
pub not-below : (n m : ℕ) (b : Bool) → (IsTrue b ↔ (n < m)) → b ≡ false → m ≤ n
not-below n m b test fails = by (cases_lt n m)
  where
    by : (n < m) ⊎ (m ≤ n) → m ≤ n
    by (inl low) = absurd (fails-test b test fails low)
    by (inr high) = high

pub not-within : (n m : ℕ) (b : Bool) → (IsTrue b ↔ (n ≤ m)) → b ≡ false → m < n
not-within n m b test fails = by (cases_lt m n)
  where
    by : (m < n) ⊎ (n ≤ m) → m < n
    by (inl low) = low
    by (inr high) = absurd (fails-test b test fails high)

pub needs-placed : (V : View) (n : ℕ) (h : Held) → IsNode V n h → IsInPlace n h
needs-placed V n h node = node.placed

pub needs-bounds : (V : View) (n : ℕ) (h : Held) → IsNode V n h → IsWithinBounds h
needs-bounds V n h node = node.within

-- the block of the description decides whether it is there
pub described-decides : (c : Cut) (v : List ℕ) (found wanted : Description) (b : Bool) → IsCut c → found.disk < 2 ^ 64 → wanted ≡ description_of c found.disk
    → ((d : Description) → d.blocks < 2 ^ 64 → d.numbers < 2 ^ 64 → d.disk < 2 ^ 64 → v ≡ description_bytes d → found ≡ d)
    → (IsTrue b ↔ (v ≡ description_bytes wanted)) → IsTrue b ↔ IsDescriptionOf c v
described-decides c v found wanted b cut small is read_back decides = (
  (λ yes. record { disk = found.disk; small = small; written = decides.0 yes ∙ ap description_bytes is }),
  (λ d. decides.1 (d.written ∙ ap (λ k. description_bytes (description_of c k)) (sym (same d)) ∙ ap description_bytes (sym is))),
)
  where
    blocks_fit : (n : ℕ) → n ≤ 4294967296 → n < 2 ^ 64
    blocks_fit n few = omega (arith, few)

    numbers_fit : (n : ℕ) → n ≤ 134217728 → n < 2 ^ 64
    numbers_fit n few = omega (arith, few)

    same : (d : IsDescriptionOf c v) → found.disk ≡ d.disk
    same d = ap (λ (x : Description). x.disk) (read_back (description_of c d.disk) (blocks_fit c.base (few_base c cut)) (numbers_fit c.numbers cut.few_numbers) d.small d.written)

-- ── what the bytes of an inode show ──

pub seen-free : (value bytes : List ℕ) (x : Inode) (g : ℕ) → bytes ≡ value → x ≡ inode_from bytes → x ≡ Free g → inode_seen value ≡ free g
seen-free value bytes x g same read is = ap (λ i. seen i (name_from value)) (ap inode_from (sym same) ∙ sym read ∙ is)

pub seen-used : (value bytes name : List ℕ) (x : Inode) (head : Head) → bytes ≡ value → x ≡ inode_from bytes → x ≡ Used head → name ≡ name_from bytes → inode_seen value ≡ used (held_of head name)
seen-used value bytes name x head same read is named = ap (λ i. seen i (name_from value)) (ap inode_from (sym same) ∙ sym read ∙ is) ∙ ap (λ n. seen (Used head) n) (sym (named ∙ ap name_from same))

-- the same with the name that is in the bytes
pub shown-used : (value bytes : List ℕ) (x : Inode) (head : Head) → bytes ≡ value → x ≡ inode_from bytes → x ≡ Used head → inode_seen value ≡ used (held_of head (name_from value))
shown-used value bytes x head same read is = seen-used value bytes (name_from value) x head same read is (ap name_from (sym same))

-- ── all inodes ──

abbrev pub IsAnswer : View → ℕ → Option Bool → Type 0
IsAnswer V n found = MatchOption found (IsRightInode V n (V.inode n) → ⊥) (λ in_use. IsRightInode V n (V.inode n) × (in_use ≡ is_used (V.inode n)))

module _ (c : Cut) (before now : Map) (trusted still failed fails : Bool) (n : ℕ) (table : List Bool) (scanned : IsScanned c before now trusted still failed fails n table) (found : Option Bool)
    (answer : IsTrue still → IsAnswer (view_of c now) n found) where
  abbrev V : View
  V = view_of c before

  pub scanned-more : (after : Map) (later failing in_use : Bool) → n < c.numbers → after ≡ now → later ≡ still → (IsTrue fails → IsTrue failing) → found ≡ Some in_use
      → IsScanned c before after trusted later failed failing (n + 1) (slice_set table n in_use)
  scanned-more after later failing in_use low same_map same_trust stays is = record {
    same_map = same_map ∙ scanned.same_map;
    same_trust = same_trust ∙ scanned.same_trust;
    stays_failed = λ f. stays (scanned.stays_failed f);
    long = length-set table n in_use ∙ scanned.long;
    right = λ trust i below. right trust i below (cases_eq i n);
    in_use = λ trust i below. uses trust i below (cases_eq i n);
  }
    where
      here : IsTrue trusted → IsRightInode V n (V.inode n) × (in_use ≡ is_used (V.inode n))
      here trust = subst (IsAnswer V n) is (at-before (λ m. IsAnswer (view_of c m) n found) before now trusted still scanned.same_map scanned.same_trust answer trust)

      right : IsTrue trusted → (i : ℕ) → i < n + 1 → (i ≡ n) ⊎ (i ≡ n → ⊥) → IsRightInode V i (V.inode i)
      right trust i below (inl e) = subst (λ k. IsRightInode V k (V.inode k)) (sym e) (here trust).0
      right trust i below (inr ne) = scanned.right trust i (omega (arith, below, ne))

      uses : IsTrue trusted → (i : ℕ) → i < n + 1 → (i ≡ n) ⊎ (i ≡ n → ⊥) → get_or (slice_set table n in_use) i false ≡ is_used (V.inode i)
      uses trust i below (inl e) =
          ap (λ k. get_or (slice_set table n in_use) k false) e
          ∙ get_or-set_same table n in_use false (let l = scanned.long in omega (arith, low, l))
          ∙ (here trust).1
          ∙ ap (λ k. is_used (V.inode k)) (sym e)
      uses trust i below (inr ne) = get_or-set_other table n i in_use false ne ∙ scanned.in_use trust i (omega (arith, below, ne))

  pub scanned-fails : n < c.numbers → found ≡ None → IsTrue trusted → AreInodesRight (view_of c before) c.numbers → ⊥
  scanned-fails low is trust all =
      let wrong : IsRightInode V n (V.inode n) → ⊥
      = subst (IsAnswer V n) is (at-before (λ m. IsAnswer (view_of c m) n found) before now trusted still scanned.same_map scanned.same_trust answer trust) in
      wrong (all n low)

pub scanned-all : (c : Cut) (before now : Map) (trusted still failed fails : Bool) (n : ℕ) (table : List Bool) → IsScanned c before now trusted still failed fails n table → n ≡ c.numbers
    → IsTrue trusted → AreInodesRight (view_of c before) c.numbers × AreInUse (view_of c before) c.numbers table
scanned-all c before now trusted still failed fails n table scanned all trust = (
  subst (AreInodesRight (view_of c before)) all (scanned.right trust),
  subst (λ k. AreInUse (view_of c before) k table) all (scanned.in_use trust),
)

-- ── one inode ──

pub free-fails : (V : View) (n g : ℕ) (b : Bool) → V.inode n ≡ free g → (IsTrue b ↔ IsRightInode V n (free g)) → b ≡ false → IsRightInode V n (V.inode n) → ⊥
free-fails V n g b is test fails right = fails-test b test fails (subst (IsRightInode V n) is right)

pub free-passes : (V : View) (n g : ℕ) (b : Bool) → V.inode n ≡ free g → (IsTrue b ↔ IsRightInode V n (free g)) → b ≡ true → IsRightInode V n (V.inode n) × (false ≡ is_used (V.inode n))
free-passes V n g b is test passes = (subst (IsRightInode V n) (sym is) (test.0 passes), sym (ap is_used is))

pub used-fails : (V : View) (n : ℕ) (h : Held) (b : Bool) → V.inode n ≡ used h → (IsTrue b ↔ IsNode V n h) → b ≡ false → IsRightInode V n (V.inode n) → ⊥
used-fails V n h b is test fails right = fails-test b test fails (subst (IsRightInode V n) is right)

pub used-passes : (V : View) (n : ℕ) (h : Held) (b : Bool) → V.inode n ≡ used h → (IsTrue b ↔ IsNode V n h) → b ≡ true → IsRightInode V n (V.inode n) × (true ≡ is_used (V.inode n))
used-passes V n h b is test passes = (subst (IsRightInode V n) (sym is) (test.0 passes), sym (ap is_used is))

pub node-parts : (V : View) (n : ℕ) (head : Head) (name : List ℕ) (b : Bool) → IsInPlace n (held_of head name) → IsWithinBounds (held_of head name) → length head.blocks ≡ DIRECT_BLOCKS → (IsTrue b ↔ AreAllSound V n head)
    → IsTrue b ↔ IsNode V n (held_of head name)
node-parts V n head name b placed within whole decides = (
  (λ yes. record { placed = placed; within = within; first = none; blocks = all-blocks V n head name (decides.0 yes) }),
  (λ node. decides.1 (in-parts V n head name node.blocks)),
)
  where
    none : (j : ℕ) → DIRECT_BLOCKS ≤ j → get_or head.blocks j 0 ≡ 0
    none j far = get_or_past head.blocks j 0 (omega (arith, whole, far))

-- ── its blocks ──

-- some blocks are looked at, one after another
module _ (P : Map → ℕ → Type 0) (before now : Map) (trusted still failed fails : Bool) (to : ℕ) (passed : ArePassed before now trusted still failed fails P to) (b : Bool) (answer : IsTrue still → IsTrue b ↔ P now to) where
  passes-here : IsTrue trusted → IsTrue b ↔ P before to
  passes-here = at-before (λ m. IsTrue b ↔ P m to) before now trusted still passed.same_map passed.same_trust answer

  pub passed-more : (after : Map) (later failing : Bool) → after ≡ now → later ≡ still → (IsTrue fails → IsTrue failing) → b ≡ true → ArePassed before after trusted later failed failing P (to + 1)
  passed-more after later failing same_map same_trust stays is = record {
    same_map = same_map ∙ passed.same_map;
    same_trust = same_trust ∙ passed.same_trust;
    stays_failed = λ f. stays (passed.stays_failed f);
    sound = λ trust k low. sound trust k low (cases_eq k to);
  }
    where
      sound : IsTrue trusted → (k : ℕ) → k < to + 1 → (k ≡ to) ⊎ (k ≡ to → ⊥) → P before k
      sound trust k low (inl e) = subst (P before) (sym e) ((passes-here trust).0 is)
      sound trust k low (inr ne) = passed.sound trust k (omega (arith, low, ne))

  pub passed-fails : (most : ℕ) → to < most → b ≡ false → IsTrue trusted → IsTrue false ↔ ((k : ℕ) → k < most → P before k)
  passed-fails most low is trust = refuses b (passes-here trust) is (λ all. all to low)

pub passed-all : (P : Map → ℕ → Type 0) (before now : Map) (trusted still failed fails : Bool) (to most : ℕ) → ArePassed before now trusted still failed fails P to → most ≤ to → IsTrue trusted
    → IsTrue true ↔ ((k : ℕ) → k < most → P before k)
passed-all P before now trusted still failed fails to most passed over trust = ((λ _ k low. passed.sound trust k (omega (arith, over, low))), (λ _. refl))

-- a number that was read from bytes
pub of-number : (Q : ℕ → Type 0) (T : Type 0) (b : Bool) (block w : ℕ) → block ≡ w → (T → IsTrue b ↔ (block ≢ 0 → Q block)) → T → IsTrue b ↔ (w ≢ 0 → Q w)
of-number Q T b block w is answer t = subst (λ x. IsTrue b ↔ (x ≢ 0 → Q x)) is (answer t)

-- what was found
pub found-none : {X : Type 0} (A : Type 0) (B : X → Type 0) (o : Option X) → o ≡ None → MatchOption o A B → A
found-none A B o is found = subst (λ o. MatchOption o A B) is found

pub found-some : {X : Type 0} (A : Type 0) (B : X → Type 0) (o : Option X) (x : X) → o ≡ Some x → MatchOption o A B → B x
found-some A B o x is found = subst (λ o. MatchOption o A B) is found

module _ (V : View) (n size : ℕ) where
  -- the first blocks, and the index
  pub first-fails : (h : Head) (b : Bool) → (IsTrue b ↔ ((j : ℕ) → j < DIRECT_BLOCKS → IsFirstSound V n h.size h.blocks j)) → b ≡ false → IsTrue false ↔ AreAllSound V n h
  first-fails h b test fails = refuses b test fails (λ all. all.first)

  pub index-decides : (h : Head) (b : Bool) → ((j : ℕ) → j < DIRECT_BLOCKS → IsFirstSound V n h.size h.blocks j) → (IsTrue b ↔ (h.index ≢ 0 → IsSoundIndex V n h.size h.index)) → IsTrue b ↔ AreAllSound V n h
  index-decides h b first test = ((λ yes. record { first = first; further = test.0 yes }), (λ all. test.1 all.further))

  -- the block with the numbers of the index blocks, and these
  pub no-index-passes : (block : ℕ) → block ≡ 0 → IsTrue true ↔ (block ≢ 0 → IsSoundIndex V n size block)
  no-index-passes block none = ((λ _ some. absurd (some none)), (λ _. refl))

  pub index-fails : (block : ℕ) → block ≢ 0 → (IsSoundBlock V size (record { number = n; place = INDEX_PLACE }) block → ⊥) → IsTrue false ↔ (block ≢ 0 → IsSoundIndex V n size block)
  index-fails block some not = ((λ no. absurd (false≢true no)), (λ all. absurd (not (all some).sound)))

  pub blocks-decide : (block : ℕ) (bytes : List ℕ) (b : Bool) → block ≢ 0 → IsSoundBlock V size (record { number = n; place = INDEX_PLACE }) block → V.block block ≡ bytes
      → (IsTrue b ↔ ((i : ℕ) → i < INDEX_NUMBERS → IsIndexBlockSound V n size bytes i)) → IsTrue b ↔ (block ≢ 0 → IsSoundIndex V n size block)
  blocks-decide block bytes b some sound is test = (
    (λ yes _. record { sound = sound; blocks = subst (λ v. (i : ℕ) → i < INDEX_NUMBERS → IsIndexBlockSound V n size v i) (sym is) (test.0 yes) }),
    (λ all. test.1 (subst (λ v. (i : ℕ) → i < INDEX_NUMBERS → IsIndexBlockSound V n size v i) is (all some).blocks)),
  )

  -- one index block, and its numbers
  module _ (i : ℕ) where
    abbrev first : Owner
    first = record { number = n; place = DIRECT_BLOCKS + INDEX_NUMBERS * i }

    pub no-index-block-passes : (block : ℕ) → block ≡ 0 → IsTrue true ↔ (block ≢ 0 → IsSoundIndexBlock V n size i block)
    no-index-block-passes block none = ((λ _ some. absurd (some none)), (λ _. refl))

    pub index-block-fails : (block : ℕ) → block ≢ 0 → (IsSoundBlock V size (record { number = n; place = FIRST_INDEX_PLACE + i }) block → ⊥) → IsTrue false ↔ (block ≢ 0 → IsSoundIndexBlock V n size i block)
    index-block-fails block some not = ((λ no. absurd (false≢true no)), (λ all. absurd (not (all some).sound)))

    pub numbers-decide : (block : ℕ) (bytes : List ℕ) (b : Bool) → block ≢ 0 → IsSoundBlock V size (record { number = n; place = FIRST_INDEX_PLACE + i }) block → V.block block ≡ bytes
        → (IsTrue b ↔ ((k : ℕ) → k < INDEX_NUMBERS → IsNumberSound V size (record { number = n; place = DIRECT_BLOCKS + INDEX_NUMBERS * i }) bytes k)) → IsTrue b ↔ (block ≢ 0 → IsSoundIndexBlock V n size i block)
    numbers-decide block bytes b some sound is test = (
      (λ yes _. record { sound = sound; numbers = subst (λ v. (k : ℕ) → k < INDEX_NUMBERS → IsNumberSound V size first v k) (sym is) (test.0 yes) }),
      (λ all. test.1 (subst (λ v. (k : ℕ) → k < INDEX_NUMBERS → IsNumberSound V size first v k) is (all some).numbers)),
    )

-- one block, by its record
all_below : (f b k : ℕ) → f < b → k < b → k < f + (b - f)
all_below f b k low below = omega (arith, low, below)

below_all : (f b k : ℕ) → f < b → k < f + (b - f) → k < b
below_all f b k low below = omega (arith, low, below)

module _ (c : Cut) (m : Map) (size : ℕ) (o : Owner) (block : ℕ) (cut : IsCut c) where
  pub no-block-passes : block ≡ 0 → IsTrue true ↔ (block ≢ 0 → IsSoundBlock (view_of c m) size o block)
  no-block-passes none = ((λ _ some. absurd (some none)), (λ _. refl))

  pub behind-fails : (b : Bool) → (IsTrue b ↔ (begin_at o.place < size)) → b ≡ false → block ≢ 0 → IsTrue false ↔ (block ≢ 0 → IsSoundBlock (view_of c m) size o block)
  behind-fails b test fails some = refuses b test fails (λ sound. (sound some).inside)

  pub elsewhere-fails : (b : Bool) → (IsTrue b ↔ ((first_data c ≤ block) × (block < c.blocks))) → b ≡ false → block ≢ 0 → IsTrue false ↔ (block ≢ 0 → IsSoundBlock (view_of c m) size o block)
  elsewhere-fails b test fails some = refuses b test fails (λ sound. ((sound some).first, below_all (first_data c) c.blocks block (has_data c cut) (sound some).last))

  pub block-passes : (b : Bool) → (IsTrue b ↔ (block ≢ 0 → IsSoundBlock (view_of c m) size o block)) → b ≡ true → block ≢ 0 → IsSoundBlock (view_of c m) size o block
  block-passes b test is some = test.0 is some

  pub block-fails : (b : Bool) → block ≢ 0 → (IsTrue b ↔ (block ≢ 0 → IsSoundBlock (view_of c m) size o block)) → b ≡ false → IsSoundBlock (view_of c m) size o block → ⊥
  block-fails b some test is sound = fails-test b test is (λ _. sound)

  pub record-decides : (found : Owner) (b : Bool) → begin_at o.place < size → (first_data c ≤ block) × (block < c.blocks) → block ≢ 0 → (view_of c m).owner block ≡ found → (IsTrue b ↔ (found ≡ o)) → IsTrue b ↔ (block ≢ 0 → IsSoundBlock (view_of c m) size o block)
  record-decides found b inside there some is test = (
    (λ yes _. record { inside = inside; first = there.0; last = all_below (first_data c) c.blocks block (has_data c cut) there.1; owned = is ∙ test.0 yes }),
    (λ sound. test.1 (sym is ∙ (sound some).owned)),
  )
