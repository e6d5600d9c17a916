-- One more inode is looked at.
use Rattle.std.proofs.Common.{ℕ, ◌≡◌, ◌<◌, ◌≤◌, ◌+◌, ◌-◌, ◌⊎◌, inl, inr, Bool, true, false, List, Some, length, sym, ap, subst, ◌∙◌, arith}
use Rattle.std.specs.Prelude.{◌↔◌, IsTrue, Option, IfSome, MatchOption, Contains, slice_get}
use Rattle.std.proofs.lemmas.Bool.{cases_eq}
use Rattle.std.proofs.lemmas.List.Elements.{All-contains, All-contains_itself, All-from_recursion, All-weaker}
use Rattle.journal_world.specs.declared.layout.TheConstants.{FIRST_DATA}
use Rattle.journal_world.specs.Maps.{Map}
use Rattle.journal_inode.specs.declared.version.FormatVersion.{FormatVersion}
use Rattle.journal_inode.specs.declared.node.FileNode.{FileNode}
use Rattle.journal_inode.specs.declared.node.Node.{Node}
use Rattle.journal_inode.specs.declared.node.Node.TheVariants.{Free, Root, File}
use Rattle.journal_inode.specs.declared.place.TheConstants.{INODES}
use Rattle.journal_inode.specs.Sound.{node_at, file_blocks, HasBlock, IsDataBlock, RepeatsNoBlock}
use Rattle.journal_inode.specs.Admitting.{IsSoundInode, AreSoundBelow, IsOwnedBelow, AreOwners, HasDataBlocks, IsUnmarked, Claims, IsScanned}
use Rattle.journal_inode.proofs.Marking.{place_of, true-false, within_cases}
use Rattle.journal_inode.proofs.Blocks.{among, contained}

module _ (version : FormatVersion) where
  -- below n + 1 is below n, or n
  cases_below : {P : Type 0} (i n : ℕ) → i < n + 1 → (i < n → P) → (i ≡ n → P) → P
  cases_below {P} i n low p q = by_eq (cases_eq i n)
    where
      by_eq : (i ≡ n) ⊎ (i ≡ n → ⊥) → P
      by_eq (inl is) = q is
      by_eq (inr ne) = p (omega (arith, low, ne))

  has_same : (m : Map) (i j b : ℕ) → i ≡ j → HasBlock version (node_at m i) b → HasBlock version (node_at m j) b
  has_same m i j b is = subst (λ k. HasBlock version (node_at m k) b) is

  AreSoundBelow-more : (m : Map) (n : ℕ) → AreSoundBelow version m n → IsSoundInode version m n → ((f : FileNode) → node_at m n ≡ File f → RepeatsNoBlock version f)
      → ((i b : ℕ) → i < n → HasBlock version (node_at m i) b → HasBlock version (node_at m n) b → ⊥) → AreSoundBelow version m (n + 1)
  AreSoundBelow-more m n below next distinct alone = record {
    each = λ i low. cases_below i n low (below.each i) (λ is. subst (IsSoundInode version m) (sym is) next);
    apart = λ i j b low_i low_j has_i has_j.
        cases_below i n low_i
        (λ first. cases_below j n low_j
        (λ second. below.apart i j b first second has_i has_j)
        (λ is. absurd (alone i b first has_i (has_same m j n b is has_j))))
        (λ is. cases_below j n low_j
        (λ second. absurd (alone j b second has_j (has_same m i n b is has_i)))
        (λ too. is ∙ sym too));
    distinct = λ i f low is. cases_below i n low (λ first. below.distinct i f first is) (λ here. distinct f (ap (node_at m) (sym here) ∙ is));
  }

  -- what the table says of a block
  owned_at : (m : Map) (n b : ℕ) (owners : List Bool) → FIRST_DATA ≤ b → AreOwners version m n owners → (slice_get owners (b - FIRST_DATA) ≡ Some true) ↔ IsOwnedBelow version m n b
  owned_at m n b owners from owned =
      subst (λ x. (slice_get owners (b - FIRST_DATA) ≡ Some true) ↔ IsOwnedBelow version m n x) (place_of b from) (owned (b - FIRST_DATA))

  -- an inode with a block that is owned already, or that it has twice
  pub claimed_twice : (m : Map) (n blocks : ℕ) (node : Node) (old new : List Bool) → node_at m n ≡ node → FIRST_DATA + length old ≡ blocks → HasDataBlocks version blocks node → AreOwners version m n old
      → Claims version node old new false → n < INODES → AreSoundBelow version m INODES → ⊥
  claimed_twice m n blocks (File f) old new is whole in_range owned claims low below =
      claims (All-weaker (Contains (file_blocks version f)) (IsUnmarked old) free (file_blocks version f) (All-contains_itself (file_blocks version f))) (below.distinct n f low is)
    where
      free : (b : ℕ) → Contains (file_blocks version f) b → IsUnmarked old b
      free b has = by_case (within_cases old (b - FIRST_DATA) (omega (arith, range.0, range.1, whole)))
        where
          range : IsDataBlock blocks b
          range = All-contains (IsDataBlock blocks) (file_blocks version f) b (All-from_recursion (IsDataBlock blocks) (file_blocks version f) in_range.1) has

          by_case : (slice_get old (b - FIRST_DATA) ≡ Some true) ⊎ (slice_get old (b - FIRST_DATA) ≡ Some false) → IsUnmarked old b
          by_case (inr clear) = clear
          by_case (inl set) =
              let other : IsOwnedBelow version m n b = (owned_at m n b old range.0 owned).0 set in
              let mine : HasBlock version (node_at m n) b = subst (λ x. HasBlock version x b) (sym is) (among (file_blocks version f) b has) in
              let first : other.0 < n = other.1 in
              let same : other.0 ≡ n = below.apart other.0 n b (omega (arith, first, low)) low other.2 mine in
              absurd (omega (arith, first, same))
  claimed_twice m n blocks (Free g) old new is whole in_range owned claims low below = absurd (cc (claims.0))
  claimed_twice m n blocks (Root t) old new is whole in_range owned claims low below = absurd (cc (claims.0))

  is_no_file : (m : Map) (n : ℕ) (node : Node) → node_at m n ≡ node → ((f : FileNode) → node ≡ File f → ⊥) → (f : FileNode) → node_at m n ≡ File f → RepeatsNoBlock version f
  is_no_file m n node is other f file = absurd (other f (sym is ∙ file))

  -- an inode without blocks
  unclaimed : (m : Map) (n : ℕ) (node : Node) (old new : List Bool) → node_at m n ≡ node → ((f : FileNode) → node ≡ File f → ⊥) → ((b : ℕ) → HasBlock version node b → ⊥)
      → AreSoundBelow version m n → IsSoundInode version m n → AreOwners version m n old → new ≡ old → AreSoundBelow version m (n + 1) × AreOwners version m (n + 1) new
  unclaimed m n node old new is other none below next owned same = (
    AreSoundBelow-more m n below next (is_no_file m n node is other) (λ i b first has mine. lacks b mine),
    λ k. (
      (λ set. let o = (owned k).0 (ap (λ x. slice_get x k) (sym same) ∙ set) in (o.0, (let low : o.0 < n = o.1 in omega arith), o.2)),
      (λ owner. ap (λ x. slice_get x k) same ∙ (owned k).1 (cases_below owner.0 n owner.1
          (λ low. (owner.0, low, owner.2))
          (λ eq. absurd (lacks (FIRST_DATA + k) (has_same m owner.0 n (FIRST_DATA + k) eq owner.2))))),
    ),
  )
    where
      lacks : (b : ℕ) → HasBlock version (node_at m n) b → ⊥
      lacks b has = none b (subst (λ x. HasBlock version x b) is has)

  -- an inode whose blocks were free
  pub claimed_once : (m : Map) (n blocks : ℕ) (node : Node) (old new : List Bool) → node_at m n ≡ node → HasDataBlocks version blocks node → AreSoundBelow version m n → IsSoundInode version m n → AreOwners version m n old
      → Claims version node old new true → AreSoundBelow version m (n + 1) × AreOwners version m (n + 1) new
  claimed_once m n blocks (File f) old new is in_range below next owned marks =
      (AreSoundBelow-more m n below next distinct alone, λ k. (to k, from k))
    where
      distinct : (g : FileNode) → node_at m n ≡ File g → RepeatsNoBlock version g
      distinct g file = subst (RepeatsNoBlock version) (same_file f g (sym is ∙ file)) marks.distinct
        where
          same_file : (f g : FileNode) → File f ≡ File g → f ≡ g
          same_file f g same = cc

      -- the block is one of the inode's
      mine : (b : ℕ) → HasBlock version (node_at m n) b → Contains (file_blocks version f) b
      mine b has = contained (file_blocks version f) b (subst (λ x. HasBlock version x b) is has)

      alone : (i b : ℕ) → i < n → HasBlock version (node_at m i) b → HasBlock version (node_at m n) b → ⊥
      alone i b first has own =
          let range : IsDataBlock blocks b = All-contains (IsDataBlock blocks) (file_blocks version f) b (All-from_recursion (IsDataBlock blocks) (file_blocks version f) in_range.1) (mine b own) in
          true-false ((owned_at m n b old range.0 owned).1 (i, first, has)) (All-contains (IsUnmarked old) (file_blocks version f) b marks.unmarked (mine b own))

      to : (k : ℕ) → slice_get new k ≡ Some true → IsOwnedBelow version m (n + 1) (FIRST_DATA + k)
      to k set = by_either ((marks.marked k).0 set)
        where
          by_either : (slice_get old k ≡ Some true) ⊎ Contains (file_blocks version f) (FIRST_DATA + k) → IsOwnedBelow version m (n + 1) (FIRST_DATA + k)
          by_either (inl was) = let o = (owned k).0 was in (o.0, (let low : o.0 < n = o.1 in omega (arith, low)), o.2)
          by_either (inr has) = (n, omega arith, subst (λ x. HasBlock version x (FIRST_DATA + k)) (sym is) (among (file_blocks version f) (FIRST_DATA + k) has))

      from : (k : ℕ) → IsOwnedBelow version m (n + 1) (FIRST_DATA + k) → slice_get new k ≡ Some true
      from k owner = (marks.marked k).1 (cases_below owner.0 n owner.1
          (λ low. inl ((owned k).1 (owner.0, low, owner.2)))
          (λ eq. inr (mine (FIRST_DATA + k) (has_same m owner.0 n (FIRST_DATA + k) eq owner.2))))
  claimed_once m n blocks (Free g) old new is in_range below next owned claims =
      unclaimed m n (Free g) old new is (λ f same. let no : ⊥ = cc in no) (λ b has. has) below next owned claims.1
  claimed_once m n blocks (Root t) old new is in_range below next owned claims =
      unclaimed m n (Root t) old new is (λ f same. let no : ⊥ = cc in no) (λ b has. has) below next owned claims.1

  -- what was found of the inode, at the map that was there before
  found_at : (before now : Map) (n : ℕ) (found : Option Node) (node : Node) → now ≡ before → found ≡ Some node
      → MatchOption found (IsSoundInode version now n → ⊥) (λ x. (node_at now n ≡ x) × IsSoundInode version now n) → (node_at before n ≡ node) × IsSoundInode version before n
  found_at before now n found node same is sound =
      subst (λ m. (node_at m n ≡ node) × IsSoundInode version m n) same
      (subst (λ o. MatchOption o (IsSoundInode version now n → ⊥) (λ x. (node_at now n ≡ x) × IsSoundInode version now n)) is sound)

  range_at : (before now : Map) (found : Option Node) (node : Node) → now ≡ before → found ≡ Some node → IfSome found (HasDataBlocks version now.layout.blocks) → HasDataBlocks version before.layout.blocks node
  range_at before now found node same is range = subst (λ m. HasDataBlocks version m.layout.blocks node) same (subst (λ o. IfSome o (HasDataBlocks version now.layout.blocks)) is range)

  -- One more inode is sound, and its block was free
  pub scanned_more : (before now after : Map) (trusted still later failed fails failing : Bool) (n : ℕ) (old new : List Bool) (found : Option Node) (node : Node)
      → IsScanned version before now trusted still failed fails n old → after ≡ now → later ≡ still → (IsTrue fails → IsTrue failing)
      → (IsTrue still → MatchOption found (IsSoundInode version now n → ⊥) (λ x. (node_at now n ≡ x) × IsSoundInode version now n)) → found ≡ Some node
      → IfSome found (HasDataBlocks version now.layout.blocks) → Claims version node old new true → length new ≡ length old
      → IsScanned version before after trusted later failed failing (n + 1) new
  scanned_more before now after trusted still later failed fails failing n old new found node scanned same_map same_trust stays sound is range claims same_length = record {
    same_map = same_map ∙ scanned.same_map;
    same_trust = same_trust ∙ scanned.same_trust;
    stays_failed = λ f. stays (scanned.stays_failed f);
    whole = ap (λ x. FIRST_DATA + x) same_length ∙ scanned.whole;
    below = λ trust. (both trust).0;
    owned = λ trust. (both trust).1;
  }
    where
      both : IsTrue trusted → AreSoundBelow version before (n + 1) × AreOwners version before (n + 1) new
      both trust =
          let here = found_at before now n found node scanned.same_map is (sound (subst IsTrue (sym scanned.same_trust) trust)) in
          claimed_once before n before.layout.blocks node old new here.0 (range_at before now found node scanned.same_map is range) (scanned.below trust) here.1 (scanned.owned trust) claims

  -- The inode's block is another's too
  pub scanned_twice : (before now : Map) (trusted still failed fails : Bool) (n : ℕ) (old new : List Bool) (found : Option Node) (node : Node)
      → IsScanned version before now trusted still failed fails n old
      → (IsTrue still → MatchOption found (IsSoundInode version now n → ⊥) (λ x. (node_at now n ≡ x) × IsSoundInode version now n)) → found ≡ Some node
      → IfSome found (HasDataBlocks version now.layout.blocks) → Claims version node old new false → n < INODES
      → IsTrue trusted → AreSoundBelow version before INODES → ⊥
  scanned_twice before now trusted still failed fails n old new found node scanned sound is range claims low trust =
      let here = found_at before now n found node scanned.same_map is (sound (subst IsTrue (sym scanned.same_trust) trust)) in
      claimed_twice before n before.layout.blocks node old new here.0 scanned.whole (range_at before now found node scanned.same_map is range) (scanned.owned trust) claims low

  -- All inodes were looked at
  pub scanned_all : (before now : Map) (trusted still failed fails : Bool) (n : ℕ) (owners : List Bool) → IsScanned version before now trusted still failed fails n owners → n ≡ INODES
      → IsTrue trusted → AreSoundBelow version before INODES × AreOwners version before INODES owners
  scanned_all before now trusted still failed fails n owners scanned all trust =
      (subst (AreSoundBelow version before) all (scanned.below trust), subst (λ x. AreOwners version before x owners) all (scanned.owned trust))
