-- The inodes of a sound disk are right, each by itself; and what right inodes say of their nodes.
use Rattle.std.proofs.Common.{ℕ, zero, suc, ◌≡◌, ◌≢◌, ◌<◌, ◌≤◌, ◌+◌, ◌*◌, ◌/◌, ◌%◌, cond, length, Some, None, refl, sym, ap, subst, ◌⊎◌, inl, inr, ◌∙◌, length-append, arith}
use Rattle.std.specs.Prelude.{option_map}
use Rattle.std.proofs.lemmas.Bool.{cases_eq, cases_lt, eq-eqb, ne_eqb}
use Rattle.std.proofs.lemmas.List.{length-take-le}
use Rattle.journal_tree.specs.declared.limits.TheConstants.{ROOT, MOST_BYTES, MOST_LINK}
use Rattle.journal_tree.specs.declared.reply.Kind.{Kind}
use Rattle.journal_tree.specs.declared.reply.Kind.TheVariants.{Directory, File, Link}
use Rattle.journal_tree.specs.Trees.{Home, root_home, places_of}
use Rattle.journal_tree.specs.Rule.{Stem, stem_of, stems}
use Rattle.journal_tree.specs.Fit.{IsFit, IsFitBody}
use Rattle.journal_tree.proofs.Changing.{stem_from_node}
use Rattle.journal_treestore.specs.Views.{Held, Seen, View, block_at, begin_at, zero_block, bytes_in, bytes_of, content, body_of, node_of, slot_of, tree_of}
use Rattle.journal_treestore.specs.Views.Seen.{free, used}
use Rattle.journal_treestore.specs.Sound.{IsSoundInode, IsSoundView}
use Rattle.journal_treestore.proofs.Indexing.{at-index, begin-index}
use Rattle.journal_treestore.proofs.Recording.{zero-long}
use Rattle.journal_treestore.proofs.Viewing.{inode-node, used_some}
use Rattle.journal_treerule.specs.Parts.{IsRootHome, IsInPlace, IsSizeOf, IsIndexOf, IsWithinBounds, IsSoundBlock, AreBlocksSound, IsNode, IsRightInode, AreInodesRight}
use Rattle.journal_treerule.proofs.Disks.{IsDisk}

-- ── how many bytes a file has ──

block-long : (V : View) (b : ℕ) → (b ≡ 0) ⊎ (b ≡ 0 → ⊥) → (b ≢ 0 → length (V.block b) ≡ 4096) → length (bytes_in V b) ≡ 4096
block-long V b (inl none) sized = ap (λ t. length (cond t zero_block (V.block b))) (eq-eqb b 0 none) ∙ zero-long
block-long V b (inr some) sized = ap (λ t. length (cond t zero_block (V.block b))) (ne_eqb b 0 some) ∙ sized some

length-bytes_of : (V : View) (n : ℕ) (h : Held) → IsSoundInode V n h → (k : ℕ) → length (bytes_of V (block_at V h) k) ≡ 4096 * k
length-bytes_of V n h s zero = refl
length-bytes_of V n h s (suc k) =
    let rest = length-bytes_of V n h s k in
    let one = block-long V (block_at V h k) (cases_eq (block_at V h k) 0) (s.sized k) in
    length-append (bytes_of V (block_at V h) k) (bytes_in V (block_at V h k)) ∙ omega (arith, rest, one)

pub length-content : (V : View) (n : ℕ) (h : Held) → IsSoundInode V n h → length (content V h) ≡ h.size
length-content V n h s = length-take-le h.size (bytes_of V (block_at V h) ((h.size + 4095) / 4096)) (let l = length-bytes_of V n h s ((h.size + 4095) / 4096) in omega (arith, l))

-- ── from the rule ──

whole-size : (size blocks : ℕ) → size ≡ 4096 * blocks → size % 4096 ≡ 0
whole-size size blocks is = omega (arith, is)

few-places : (size blocks : ℕ) → size ≡ 4096 * blocks → size / 8 ≤ 198656 → size ≤ 1589248
few-places size blocks is few = omega (arith, is, few)

size-of : (V : View) (n : ℕ) (h : Held) (kind : Kind) → IsSoundInode V n h → (kind ≡ Directory → (blocks : ℕ) × (h.size ≡ 4096 * blocks)) → IsFitBody (body_of V kind h) → IsSizeOf kind h.size
size-of V n h Directory s whole fit = let w = whole refl in (whole-size h.size w.0 w.1, few-places h.size w.0 w.1 fit.0)
size-of V n h File s whole fit = subst (λ (k : ℕ). k ≤ MOST_BYTES) (length-content V n h s) fit
size-of V n h Link s whole fit = subst (λ (k : ℕ). k ≤ MOST_LINK) (length-content V n h s) fit

-- a link is too short for an index block
index-of : (V : View) (n : ℕ) (h : Held) (kind : Kind) → IsSoundInode V n h → IsSizeOf kind h.size → IsIndexOf kind h.index
index-of V n h Directory s sized = tt
index-of V n h File s sized = tt
index-of V n h Link s sized = sym (at-index V h) ∙ s.after 2147483648 (subst (λ b. h.size ≤ b) (sym begin-index) (omega (arith, sized)))

-- what has places is a directory
pub kind_of_places : (V : View) (h : Held) (kind : Kind) (p : ℕ) → places_of (body_of V kind h) ≡ Some p → kind ≡ Directory
kind_of_places V h Directory p is = refl
kind_of_places V h File p is = absurd (let e : None ≡ Some p = is in cc)
kind_of_places V h Link p is = absurd (let e : None ≡ Some p = is in cc)

block-inside : (size at : ℕ) → (at < size) ⊎ (size ≤ at) → (size ≤ at → ⊥) → at < size
block-inside size at (inl low) not = low
block-inside size at (inr after) not = absurd (not after)

module _ (V : View) (sound : IsSoundView V) where
  module _ (n : ℕ) (h : Held) (is : V.inode n ≡ used h) where
    node : ((tree_of V).at n).node ≡ Some (node_of V h)
    node = inode-node V n h is

    s : IsSoundInode V n h
    s = sound.inodes n h is

    fit : IsFit (node_of V h)
    fit = sound.fit.nodes n (node_of V h) node

    root_stem : n ≡ ROOT → stem_of (node_of V h) ≡ record { home = root_home; places = Some sound.tree.root.places }
    root_stem e =
        let q : Some (stem_of (node_of V h)) ≡ Some (record { home = root_home; places = Some sound.tree.root.places })
        = sym (stem_from_node (tree_of V) n (node_of V h) node) ∙ ap (stems (tree_of V)) e ∙ sound.tree.root.is in
        cc

    pub root_home_is : n ≡ ROOT → IsRootHome h.home
    root_home_is e =
        let home : h.home ≡ root_home = ap (λ (t : Stem). t.home) (root_stem e) in
        record {
          directory = ap (λ (t : Home). t.directory) home;
          place = ap (λ (t : Home). t.place) home;
          name = ap (λ (t : Home). t.name) home;
        }

    placed : IsInPlace n h
    placed = record {
      some = used_some V sound n h is;
      kind = λ e. kind_of_places V h h.kind sound.tree.root.places (ap (λ (t : Stem). t.places) (root_stem e));
      home = root_home_is;
    }

    generation : ((tree_of V).at n).generation ≡ h.generation
    generation = ap (λ (y : Seen). (slot_of V y).generation) is

    sized : IsSizeOf h.kind h.size
    sized = size-of V n h h.kind s s.whole fit.body

    within : IsWithinBounds h
    within = record {
      home = fit.home;
      place = fit.place;
      sized = sized;
      indexed = index-of V n h h.kind s sized;
      attributes = record { mode = fit.mode; owner = fit.owner; group = fit.group; mtime = fit.mtime; ctime = fit.ctime; verifier = fit.verifier };
      born = let b = sound.fit.born n (node_of V h) node in omega (arith, b, generation);
      young = let y = sound.fit.young n in omega (arith, y, generation);
    }

    blocks : AreBlocksSound V n h.size (block_at V h)
    blocks p some = record {
      inside = block-inside h.size (begin_at p) (cases_lt (begin_at p) h.size) (λ after. some (s.after p after));
      first = (s.there p some).0;
      last = (s.there p some).1;
      owned = s.owned p some;
    }

    right-node : IsNode V n h
    right-node = record { placed = placed; within = within; first = s.first; blocks = blocks }

  right-inode : (n : ℕ) (x : Seen) → V.inode n ≡ x → IsRightInode V n x
  right-inode n (free g) is = (
    (λ e. absurd (let none : None ≡ Some (record { home = root_home; places = Some sound.tree.root.places }) = sym (ap (λ (y : Seen). option_map stem_of (slot_of V y).node) is) ∙ ap (stems (tree_of V)) e ∙ sound.tree.root.is in cc)),
    (let y = sound.fit.young n in let e : ((tree_of V).at n).generation ≡ g = ap (λ (y : Seen). (slot_of V y).generation) is in omega (arith, y, e)),
  )
  right-inode n (used h) is = right-node n h is

  -- the inodes of a sound disk are right
  pub inodes-right : AreInodesRight V V.numbers
  inodes-right n low = right-inode n (V.inode n) refl

-- ── the first blocks of a right inode ──

-- a block of a right inode, by its place
pub sound-at : (V : View) (n : ℕ) (h : Held) → IsNode V n h → (p b : ℕ) → block_at V h p ≡ b → b ≢ 0 → IsSoundBlock V h.size (record { number = n; place = p }) b
sound-at V n h right p b is some = subst (IsSoundBlock V h.size (record { number = n; place = p })) is (right.blocks p (λ z. some (sym is ∙ z)))

-- a directory has no more than the most entries
pub directory-size : (h : Held) → IsWithinBounds h → h.kind ≡ Directory → h.size ≤ 1589248
directory-size h within kind = let sized : IsSizeOf Directory h.size = subst (λ k. IsSizeOf k h.size) kind within.sized in sized.1

-- ── to the rule ──

module _ (V : View) (disk : IsDisk V) (n : ℕ) (h : Held) (right : IsNode V n h) where
  after : (p : ℕ) → h.size ≤ begin_at p → (block_at V h p ≡ 0) ⊎ (block_at V h p ≡ 0 → ⊥) → block_at V h p ≡ 0
  after p far (inl none) = none
  after p far (inr some) = absurd (let low = (right.blocks p some).inside in omega (arith, low, far))

  whole : (kind : Kind) (size : ℕ) → IsSizeOf kind size → kind ≡ Directory → (blocks : ℕ) × (size ≡ 4096 * blocks)
  whole Directory size is e = (size / 4096, (let w = is.0 in omega (arith, w)))
  whole File size is e = absurd (cc e)
  whole Link size is e = absurd (cc e)

  pub sound-inode : IsSoundInode V n h
  sound-inode = record {
    owned = λ p some. (right.blocks p some).owned;
    there = λ p some. ((right.blocks p some).first, (right.blocks p some).last);
    after = λ p far. after p far (cases_eq (block_at V h p) 0);
    sized = λ p some. disk.sized (block_at V h p) (right.blocks p some).first (right.blocks p some).last;
    whole = whole h.kind h.size right.within.sized;
    first = right.first;
  }

  few_of_bytes : (size : ℕ) → size ≤ 1589248 → size / 8 ≤ 198656
  few_of_bytes size few = omega (arith, few)

  places : (size blocks : ℕ) → size ≡ 4096 * blocks → size / 8 ≡ 512 * blocks
  places size blocks is = omega (arith, is)

  body : (kind : Kind) → kind ≡ h.kind → IsFitBody (body_of V kind h)
  body Directory is = let w = whole h.kind h.size right.within.sized (sym is) in let sized : IsSizeOf Directory h.size = subst (λ kind. IsSizeOf kind h.size) (sym is) right.within.sized in (few_of_bytes h.size sized.1, (w.0, places h.size w.0 w.1))
  body File is = let few : h.size ≤ MOST_BYTES = subst (λ kind. IsSizeOf kind h.size) (sym is) right.within.sized in subst (λ (k : ℕ). k ≤ MOST_BYTES) (sym (length-content V n h sound-inode)) few
  body Link is = let few : h.size ≤ MOST_LINK = subst (λ kind. IsSizeOf kind h.size) (sym is) right.within.sized in subst (λ (k : ℕ). k ≤ MOST_LINK) (sym (length-content V n h sound-inode)) few

  pub fit-node : IsFit (node_of V h)
  fit-node = record {
    home = right.within.home;
    place = right.within.place;
    body = body h.kind refl;
    mode = right.within.attributes.mode;
    owner = right.within.attributes.owner;
    group = right.within.attributes.group;
    mtime = right.within.attributes.mtime;
    ctime = right.within.attributes.ctime;
    verifier = right.within.attributes.verifier;
  }
