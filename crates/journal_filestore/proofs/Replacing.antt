-- version inode of a sound map is replaced: what has to hold for the map to stay sound.
use Rattle.std.proofs.Common.{ℕ, zero, suc, ◌≡◌, ◌≢◌, ◌<◌, ◌≤◌, ◌+◌, ◌⊎◌, inl, inr, List, [], ◌∷◌, ◌++◌, length, refl, sym, ap, subst, ◌∙◌, arith}
use Rattle.std.specs.List.{AllByRecursion}
use Rattle.std.proofs.lemmas.Bool.{cases_eq}
use Rattle.journal_world.specs.declared.layout.TheConstants.{BLOCK_BYTES, FIRST_DATA, BLOCK_BITS}
use Rattle.journal_world.specs.Addresses.{Value, Shape}
use Rattle.journal_world.specs.Maps.{Map}
use Rattle.journal_inode.specs.declared.version.FormatVersion.{FormatVersion}
use Rattle.journal_inode.specs.declared.node.FileNode.{FileNode}
use Rattle.journal_inode.specs.declared.node.Node.{Node}
use Rattle.journal_inode.specs.declared.node.Node.TheVariants.{Free, Root, File}
use Rattle.journal_inode.specs.declared.place.TheConstants.{INODES}
use Rattle.journal_inode.specs.Places.{HasFiles, object}
use Rattle.journal_inode.specs.Places.Object.{superblock, bit, inode, block}
use Rattle.journal_inode.specs.Nodes.{inode_bytes, node_of, Fits}
use Rattle.journal_inode.specs.SameFiles.{IsSoundFile-held}
use Rattle.journal_inode.specs.Sound.{superblock_of, node_at, file_blocks, held, stored, IsAmong, HasBlock, IsTaken, IsDataBlock, IsInPlace, IsSoundFile, RepeatsNoBlock, IsBit, HasSoundFiles}
use Rattle.journal_inode.proofs.Fields.{node_of-bytes_of}

-- What becomes of a bit, where the old inode has its block or not, and the new one has it or not
pub record BitStep (old new : Type 0) (v w : Value) : Type 0 where
  pub set : (old → ⊥) → new → w ≡ 1 ∷ []
  pub cleared : old → (new → ⊥) → w ≡ 0 ∷ []
  pub kept : old → new → w ≡ v
  pub others : (old → ⊥) → (new → ⊥) → w ≡ v

-- it is known whether a block is one of these
pub cases_IsAmong : (bs : List ℕ) (b : ℕ) → IsAmong bs b ⊎ (IsAmong bs b → ⊥)
cases_IsAmong [] b = inr (λ h. h)
cases_IsAmong (x ∷ []) b = cases_eq x b
cases_IsAmong (x ∷ y ∷ ys) b = by_both (cases_eq x b) (cases_IsAmong (y ∷ ys) b)
  where
    by_both : (x ≡ b) ⊎ (x ≡ b → ⊥) → IsAmong (y ∷ ys) b ⊎ (IsAmong (y ∷ ys) b → ⊥) → ((x ≡ b) ⊎ IsAmong (y ∷ ys) b) ⊎ ((x ≡ b) ⊎ IsAmong (y ∷ ys) b → ⊥)
    by_both (inl is) rest = inl (inl is)
    by_both (inr ne) (inl has) = inl (inr has)
    by_both (inr ne) (inr lacks) = inr (λ either. by_either either)
      where
        by_either : (x ≡ b) ⊎ IsAmong (y ∷ ys) b → ⊥
        by_either (inl is) = ne is
        by_either (inr has) = lacks has

-- what holds of each holds of one of them
pub holds_among : (P : ℕ → Type 0) (bs : List ℕ) (b : ℕ) → AllByRecursion P bs → IsAmong bs b → P b
holds_among P [] b all has = absurd has
holds_among P (x ∷ []) b all has = subst P has all.0
holds_among P (x ∷ y ∷ ys) b all (inl is) = subst P is all.0
holds_among P (x ∷ y ∷ ys) b all (inr has) = holds_among P (y ∷ ys) b all.1 has

-- blocks that stay hold what they held
pub held_others : (m n : Map) (bs : List ℕ) → ((b : ℕ) → IsAmong bs b → object n (block b) ≡ object m (block b)) → held n bs ≡ held m bs
held_others m n [] same = refl
held_others m n (b ∷ []) same = same b refl
held_others m n (b ∷ c ∷ bs) same =
    ap (λ v. v ++ held n (c ∷ bs)) (same b (inl refl)) ∙ ap (λ v. object m (block b) ++ v) (held_others m n (c ∷ bs) (λ x has. same x (inr has)))

-- and are as long
pub sized_others : (m n : Map) (bs : List ℕ) → ((b : ℕ) → IsAmong bs b → object n (block b) ≡ object m (block b))
    → AllByRecursion (λ b. length (object m (block b)) ≡ BLOCK_BYTES) bs → AllByRecursion (λ b. length (object n (block b)) ≡ BLOCK_BYTES) bs
sized_others m n [] same sized = tt
sized_others m n (b ∷ []) same sized = (ap length (same b refl) ∙ sized.0, tt)
sized_others m n (b ∷ c ∷ bs) same sized = (ap length (same b (inl refl)) ∙ sized.0, sized_others m n (c ∷ bs) (λ x has. same x (inr has)) sized.1)

module _ (version : FormatVersion) where
  -- The map n is m with inode i replaced, by one that has some of the old one's blocks and some
  -- that were free, and with the bits of these blocks
  pub record Replaces (m n : Map) (i : ℕ) (new : Node) : Type 0 where
    pub layout : n.layout ≡ m.layout
    pub begins : object n superblock ≡ object m superblock
    pub here : object n (inode i) ≡ inode_bytes new
    pub fits : Fits new
    pub others : (j : ℕ) → j < INODES → j ≢ i → object n (inode j) ≡ object m (inode j)
    pub free_or_own : (b : ℕ) → HasBlock version new b → HasBlock version (node_at m i) b ⊎ (IsTaken version m b → ⊥)
    pub other_blocks : (b : ℕ) → FIRST_DATA ≤ b → b < m.layout.blocks → (HasBlock version new b → ⊥) → object n (block b) ≡ object m (block b)
    pub bits : (k : ℕ) → k < BLOCK_BITS → BitStep (HasBlock version (node_at m i) (FIRST_DATA + k)) (HasBlock version new (FIRST_DATA + k)) (object m (bit k)) (object n (bit k))

  -- The new inode may stand there
  pub record IsSoundNode (n : Map) (i : ℕ) (new : Node) : Type 0 where
    pub placed : IsInPlace i new
    pub file : (f : FileNode) → new ≡ File f → IsSoundFile version n f
    pub distinct : (f : FileNode) → new ≡ File f → RepeatsNoBlock version f

  pub cases_HasBlock : (n : Node) (b : ℕ) → HasBlock version n b ⊎ (HasBlock version n b → ⊥)
  cases_HasBlock (File f) b = cases_IsAmong (file_blocks version f) b
  cases_HasBlock (Free g) b = inr (λ h. h)
  cases_HasBlock (Root t) b = inr (λ h. h)

  -- only a file has blocks
  file_with : (n : Node) (b : ℕ) → HasBlock version n b → (f : FileNode) × (n ≡ File f) × IsAmong (file_blocks version f) b
  file_with (File f) b has = (f, refl, has)
  file_with (Free g) b has = absurd has
  file_with (Root t) b has = absurd has

  pub node_at-replaced : (m n : Map) (i : ℕ) (new : Node) → Replaces m n i new → node_at n i ≡ new
  node_at-replaced m n i new r = ap node_of r.here ∙ node_of-bytes_of new r.fits

  pub node_at-other : (m n : Map) (i : ℕ) (new : Node) → Replaces m n i new → (j : ℕ) → j < INODES → j ≢ i → node_at n j ≡ node_at m j
  node_at-other m n i new r j low ne = ap node_of (r.others j low ne)

  -- the new inode's blocks are no other file's
  pub alone : (m n : Map) (i : ℕ) (new : Node) → i < INODES → HasSoundFiles version m → Replaces m n i new
      → (j b : ℕ) → j < INODES → j ≢ i → HasBlock version (node_at m j) b → HasBlock version new b → ⊥
  alone m n i new low sound r j b below ne has new_has = by_cases (r.free_or_own b new_has)
    where
      by_cases : HasBlock version (node_at m i) b ⊎ (IsTaken version m b → ⊥) → ⊥
      by_cases (inl own) = ne (sound.apart j i b below low has own)
      by_cases (inr free) = free (inr (j, below, has))

  -- the blocks of another file stay
  block-other : (m n : Map) (i : ℕ) (new : Node) → i < INODES → HasSoundFiles version m → Replaces m n i new
      → (j : ℕ) (f : FileNode) → j < INODES → j ≢ i → node_at m j ≡ File f → (b : ℕ) → IsAmong (file_blocks version f) b → object n (block b) ≡ object m (block b)
  block-other m n i new low sound r j f below ne is_file b has =
      let range : IsDataBlock m.layout.blocks b = holds_among (IsDataBlock m.layout.blocks) (file_blocks version f) b (sound.files j f below is_file).on_disk has in
      r.other_blocks b range.0 range.1
      (alone m n i new low sound r j b below ne (subst (λ x. HasBlock version x b) (sym is_file) has))

  -- so what it stores stays
  pub stored-other : (m n : Map) (i : ℕ) (new : Node) → i < INODES → HasSoundFiles version m → Replaces m n i new
      → (j : ℕ) (f : FileNode) → j < INODES → j ≢ i → node_at m j ≡ File f → stored version n f ≡ stored version m f
  stored-other m n i new low sound r j f below ne is_file =
      held_others m n (file_blocks version f) (block-other m n i new low sound r j f below ne is_file)

  -- The rule is kept where one inode is replaced
  pub Sound-replaced : (m n : Map) (i : ℕ) (new : Node) → i < INODES → HasSoundFiles version m → Replaces m n i new → IsSoundNode n i new → HasSoundFiles version n
  Sound-replaced m n i new low sound r fine = record {
    cut = subst HasFiles (sym r.layout) sound.cut;
    begins = r.begins ∙ sound.begins ∙ ap (λ (s : Shape). superblock_of version s.blocks) (sym r.layout);
    written = λ j below. by_number j below (cases_eq j i)
        (λ is. ap (λ k. object n (inode k)) is ∙ r.here ∙ ap inode_bytes (sym (here j is)))
        (λ ne. r.others j below ne ∙ sound.written j below ∙ ap inode_bytes (sym (there j below ne)));
    placed = λ j below. by_number j below (cases_eq j i)
        (λ is. subst (λ k. IsInPlace k (node_at n k)) (sym is) (subst (IsInPlace i) (sym (node_at-replaced m n i new r)) fine.placed))
        (λ ne. subst (IsInPlace j) (sym (there j below ne)) (sound.placed j below));
    files = λ j f below is_file. by_number j below (cases_eq j i)
        (λ is. fine.file f (sym (here j is) ∙ is_file))
        (λ ne. old_file j f below ne (sym (there j below ne) ∙ is_file));
    apart = λ j k b below_j below_k has_j has_k. by_number j below_j (cases_eq j i)
        (λ j_is. by_number k below_k (cases_eq k i)
        (λ k_is. j_is ∙ sym k_is)
        (λ k_ne. absurd (alone m n i new low sound r k b below_k k_ne (has_there k b below_k k_ne has_k) (has_here j b j_is has_j))))
        (λ j_ne. by_number k below_k (cases_eq k i)
        (λ k_is. absurd (alone m n i new low sound r j b below_j j_ne (has_there j b below_j j_ne has_j) (has_here k b k_is has_k)))
        (λ k_ne. sound.apart j k b below_j below_k (has_there j b below_j j_ne has_j) (has_there k b below_k k_ne has_k)));
    distinct = λ j f below is_file. by_number j below (cases_eq j i)
        (λ is. fine.distinct f (sym (here j is) ∙ is_file))
        (λ ne. sound.distinct j f below (sym (there j below ne) ∙ is_file));
    bits = λ k below. by_blocks k (r.bits k below) (sound.bits k below)
        (cases_HasBlock (node_at m i) (FIRST_DATA + k)) (cases_HasBlock new (FIRST_DATA + k));
  }
    where
      here : (j : ℕ) → j ≡ i → node_at n j ≡ new
      here j is = ap (node_at n) is ∙ node_at-replaced m n i new r

      there : (j : ℕ) → j < INODES → j ≢ i → node_at n j ≡ node_at m j
      there = node_at-other m n i new r

      by_number : {P : Type 0} (j : ℕ) → j < INODES → (j ≡ i) ⊎ (j ≡ i → ⊥) → (j ≡ i → P) → ((j ≡ i → ⊥) → P) → P
      by_number j below (inl is) p q = p is
      by_number j below (inr ne) p q = q ne

      has_here : (j b : ℕ) → j ≡ i → HasBlock version (node_at n j) b → HasBlock version new b
      has_here j b is = subst (λ x. HasBlock version x b) (here j is)

      has_there : (j b : ℕ) → j < INODES → (j ≡ i → ⊥) → HasBlock version (node_at n j) b → HasBlock version (node_at m j) b
      has_there j b below ne = subst (λ x. HasBlock version x b) (there j below ne)

      -- a block of the new inode is taken now
      taken_now : (b : ℕ) → HasBlock version new b → IsTaken version n b
      taken_now b has = inr (i, low, subst (λ x. HasBlock version x b) (sym (node_at-replaced m n i new r)) has)

      -- a block that the new inode does not have was taken before
      taken_before : (b : ℕ) → (HasBlock version new b → ⊥) → IsTaken version n b → IsTaken version m b
      taken_before b lacks (inl past) = inl (subst (λ (s : Shape). s.blocks ≤ b) r.layout past)
      taken_before b lacks (inr t) = by_number t.0 t.1 (cases_eq t.0 i)
          (λ is. absurd (lacks (has_here t.0 b is t.2)))
          (λ ne. inr (t.0, t.1, has_there t.0 b t.1 ne t.2))

      -- a block that the old inode does not have is still taken
      taken_still : (b : ℕ) → (HasBlock version (node_at m i) b → ⊥) → IsTaken version m b → IsTaken version n b
      taken_still b lacks (inl past) = inl (subst (λ (s : Shape). s.blocks ≤ b) (sym r.layout) past)
      taken_still b lacks (inr t) = by_number t.0 t.1 (cases_eq t.0 i)
          (λ is. absurd (lacks (subst (λ x. HasBlock version (node_at m x) b) is t.2)))
          (λ ne. inr (t.0, t.1, subst (λ x. HasBlock version x b) (sym (there t.0 t.1 ne)) t.2))

      -- a block that the old inode gives up is free now
      freed : (b : ℕ) → HasBlock version (node_at m i) b → (HasBlock version new b → ⊥) → IsTaken version n b → ⊥
      freed b had lacks (inl past) =
          let f = file_with (node_at m i) b had in
          let range : IsDataBlock m.layout.blocks b = holds_among (IsDataBlock m.layout.blocks) (file_blocks version f.0) b (sound.files i f.0 low f.1).on_disk f.2 in
          omega (arith, past, range.1, ap (λ (s : Shape). s.blocks) r.layout)
      freed b had lacks (inr t) = by_number t.0 t.1 (cases_eq t.0 i)
          (λ is. lacks (has_here t.0 b is t.2))
          (λ ne. ne (sound.apart t.0 i b t.1 low (has_there t.0 b t.1 ne t.2) had))

      by_blocks : (k : ℕ) → BitStep (HasBlock version (node_at m i) (FIRST_DATA + k)) (HasBlock version new (FIRST_DATA + k)) (object m (bit k)) (object n (bit k))
          → IsBit (object m (bit k)) (IsTaken version m (FIRST_DATA + k))
          → HasBlock version (node_at m i) (FIRST_DATA + k) ⊎ (HasBlock version (node_at m i) (FIRST_DATA + k) → ⊥)
          → HasBlock version new (FIRST_DATA + k) ⊎ (HasBlock version new (FIRST_DATA + k) → ⊥)
          → IsBit (object n (bit k)) (IsTaken version n (FIRST_DATA + k))
      by_blocks k step (inl was) (inl had) (inl has) = inl (step.kept had has ∙ was.0, taken_now _ has)
      by_blocks k step (inr was) (inl had) (inl has) = absurd (was.1 (inr (i, low, had)))
      by_blocks k step was (inl had) (inr lacks) = inr (step.cleared had lacks, freed _ had lacks)
      by_blocks k step was (inr had) (inl has) = inl (step.set had has, taken_now _ has)
      by_blocks k step (inl was) (inr had) (inr lacks) = inl (step.others had lacks ∙ was.0, taken_still _ had was.1)
      by_blocks k step (inr was) (inr had) (inr lacks) = inr (step.others had lacks ∙ was.0, λ t. was.1 (taken_before _ lacks t))

      old_file : (j : ℕ) (f : FileNode) → j < INODES → (j ≡ i → ⊥) → node_at m j ≡ File f → IsSoundFile version n f
      old_file j f below ne is_file =
          let old : IsSoundFile version m f = sound.files j f below is_file in
          IsSoundFile-held version m n f (sym (ap (λ (s : Shape). s.blocks) r.layout)) (stored-other m n i new low sound r j f below ne is_file)
          (sized_others m n (file_blocks version f) (block-other m n i new low sound r j f below ne is_file) old.sized) old

-- a free inode or a file may stand at the number of a file
pub IsInPlace-free : (i g : ℕ) → 2 ≤ i → IsInPlace i (Free g)
IsInPlace-free zero g from = absurd (omega arith)
IsInPlace-free (suc zero) g from = absurd (omega arith)
IsInPlace-free (suc (suc i)) g from = tt

pub IsInPlace-file : (i : ℕ) (f : FileNode) → 2 ≤ i → IsInPlace i (File f)
IsInPlace-file zero f from = absurd (omega arith)
IsInPlace-file (suc zero) f from = absurd (omega arith)
IsInPlace-file (suc (suc i)) f from = tt
