-- The map that the blocks of a new disk are has its tree.
use Rattle.std.proofs.Common.{ℕ, ◌≡◌, ◌≢◌, ◌<◌, ◌+◌, ◌*◌, ◌/◌, ◌%◌, ◌==◌, ◌⊎◌, inl, inr, Bool, true, false, cond, nat_lt, refl, sym, ap, subst, ◌∙◌, arith}
use Rattle.std.specs.Prelude.{slice_range}
use Rattle.std.proofs.lemmas.Bool.{cases_eq, eq-eqb, ne_eqb, ltb-true, ltb-false}
use Rattle.journal_world.specs.declared.address.Kind.TheVariants.{Block}
use Rattle.journal_world.specs.Addresses.{zeros_of}
use Rattle.journal_world.specs.Maps.{Map}
use Rattle.journal_block.specs.Block.{Bytes}
use Rattle.journal_object.specs.Objects.{IsMapOf}
use Rattle.journal_tree.specs.declared.limits.TheConstants.{ROOT}
use Rattle.journal_treestore.specs.Descriptions.{description_bytes}
use Rattle.journal_treestore.specs.Owners.{no_owner, owner_from}
use Rattle.journal_treestore.specs.Places.{first_inodes, first_data, data_blocks, shape_of}
use Rattle.journal_treestore.specs.Places.Object.{the_description, owner_of, inode_of}
use Rattle.journal_treestore.specs.Views.{View, tree_of}
use Rattle.journal_treestore.specs.Views.Seen.{free, used}
use Rattle.journal_treestore.specs.Sound.{IsSoundView}
use Rattle.journal_treecalls.specs.Disks.{inode_seen}
use Rattle.journal_treeobjects.specs.Maps.{object, inode_at, owner_at, block_at, view_of, description_of}
use Rattle.journal_treeform.specs.declared.new_tree.NewTree.{NewTree}
use Rattle.journal_treeform.specs.NewDisks.{root_block, new_block, IsPossible, IsNewMap, NewDisksAreSound}
use Rattle.journal_treeform.proofs.Zeros.{zeros, zero-part, zero-owner, zero-inode}
use Rattle.journal_treeform.proofs.Roots.{root-here, others-here, root-seen}
use Rattle.journal_treeform.proofs.Sounding.{root_held, new_inode, new_view, tree-is, is-sound}
use Rattle.journal_treeform.proofs.Reading.{description-read, owner-read, inode-read}

-- which block is chosen by the two tests
abbrev choose : NewTree → Bool → Bool → Bytes
choose t a b = cond a (description_bytes (description_of t.cut t.disk)) (cond b (root_block t) (zeros_of Block))

new-root : (t : NewTree) → new_block t (first_inodes t.cut) ≡ root_block t
new-root t = λ z. choose t (ne_eqb (first_inodes t.cut) 513 (omega arith) z) (eq-eqb (first_inodes t.cut) (first_inodes t.cut) refl z)

pub new-zeros : (t : NewTree) (b : ℕ) → b ≢ 513 → b ≢ first_inodes t.cut → new_block t b ≡ zeros_of Block
new-zeros t b other apart = λ z. choose t (ne_eqb b 513 other z) (ne_eqb b (first_inodes t.cut) apart z)

module _ (t : NewTree) (p : IsPossible t) (content : ℕ → Bytes) (m : Map) (new : (b : ℕ) → b < t.cut.blocks → content b ≡ new_block t b) (layout : m.layout ≡ shape_of t.cut) (is : IsMapOf content m) where
  -- ── the blocks ──

  described : content 513 ≡ description_bytes (description_of t.cut t.disk)
  described = new 513 (omega (arith, p.cut.enough, p.cut.room.later))

  root-block : content (first_inodes t.cut) ≡ root_block t
  root-block = new (first_inodes t.cut) (omega (arith, p.cut.some_data, p.cut.room.later)) ∙ new-root t

  zeros-at : (b : ℕ) → b < t.cut.blocks → b ≢ 513 → b ≢ first_inodes t.cut → content b ≡ zeros_of Block
  zeros-at b low other apart = new b low ∙ new-zeros t b other apart

  -- ── the inodes ──

  root-inode : inode_seen (object t.cut m (inode_of ROOT)) ≡ used (root_held t)
  root-inode =
      ap inode_seen
      (inode-read t.cut p.cut m content layout is ROOT p.cut.rooted
      ∙ ap (λ b. slice_range (content b) 512 1024) (let e : first_inodes t.cut + 0 ≡ first_inodes t.cut = omega arith in e)
      ∙ ap (λ v. slice_range v 512 1024) root-block
      ∙ root-here t)
      ∙ root-seen t p

  other-inode : (n : ℕ) → n < t.cut.numbers → n ≢ ROOT → inode_seen (object t.cut m (inode_of n)) ≡ free 0
  other-inode n low other = ap inode_seen (inode-read t.cut p.cut m content layout is n low ∙ by (cases_eq (n / 8) 0)) ∙ zero-inode
    where
      by : (n / 8 ≡ 0) ⊎ (n / 8 ≡ 0 → ⊥) → slice_range (content (first_inodes t.cut + n / 8)) (n % 8 * 512) (n % 8 * 512 + 512) ≡ zeros 512
      by (inl first) =
          ap (λ b. slice_range (content b) (n % 8 * 512) (n % 8 * 512 + 512)) (let e : first_inodes t.cut + n / 8 ≡ first_inodes t.cut = omega (arith, first) in e)
          ∙ ap (λ v. slice_range v (n % 8 * 512) (n % 8 * 512 + 512)) root-block
          ∙ others-here t (n % 8) (omega arith) (omega (arith, first, other))
      by (inr later) =
          ap (λ v. slice_range v (n % 8 * 512) (n % 8 * 512 + 512))
          (zeros-at (first_inodes t.cut + n / 8) (omega (arith, low, p.cut.some_data, p.cut.room.later)) (omega arith) (omega (arith, later)))
          ∙ zero-part 512 (n % 8 * 512) (omega arith)

  inode-is : (n : ℕ) → inode_at t.cut m n ≡ new_inode t n
  inode-is n = by (nat_lt n t.cut.numbers) refl (cases_eq n ROOT)
    where
      by : (b : Bool) → nat_lt n t.cut.numbers ≡ b → (n ≡ ROOT) ⊎ (n ≡ ROOT → ⊥) → cond b (inode_seen (object t.cut m (inode_of n))) (free 0) ≡ cond (n == ROOT) (used (root_held t)) (free 0)
      by true low (inl root) =
          ap (λ k. inode_seen (object t.cut m (inode_of k))) root ∙ root-inode ∙ sym (ap (λ b. cond b (used (root_held t)) (free 0)) (eq-eqb n ROOT root))
      by true low (inr other) = other-inode n (ltb-true n t.cut.numbers low) other ∙ sym (ap (λ b. cond b (used (root_held t)) (free 0)) (ne_eqb n ROOT other))
      by false high (inl root) = absurd (let past = ltb-false n t.cut.numbers high in let rooted = p.cut.rooted in omega (arith, past, root, rooted))
      by false high (inr other) = sym (ap (λ b. cond b (used (root_held t)) (free 0)) (ne_eqb n ROOT other))

  -- ── the records of who has a block ──

  -- no block came later
  from-start : (b : ℕ) → b < t.cut.blocks → b < t.cut.base
  from-start b low = omega (arith, low, p.cut.room.records, p.new)

  owner-is : (b : ℕ) → owner_at t.cut m b ≡ no_owner
  owner-is b = by (nat_lt b t.cut.blocks) refl
    where
      by : (u : Bool) → nat_lt b t.cut.blocks ≡ u → cond u (owner_from (object t.cut m (owner_of b))) no_owner ≡ no_owner
      by false high = refl
      by true here =
          let low = ltb-true b t.cut.blocks here in
          ap owner_from
          (owner-read t.cut p.cut m content layout is b (from-start b low) low
          ∙ ap (λ v. slice_range v (b % 512 * 8) (b % 512 * 8 + 8)) (zeros-at (514 + b / 512) (omega (arith, low, p.cut.some_data, p.cut.room.later)) (omega arith) (let first = from-start b low in omega (arith, first)))
          ∙ zero-part 8 (b % 512 * 8) (omega arith))
          ∙ zero-owner

  -- ── the disk ──

  abbrev V : View
  V = new_view t (block_at t.cut m)

  view-is : view_of t.cut m ≡ V
  view-is = λ z. record {
    numbers = t.cut.numbers;
    first_data = first_data t.cut;
    data_blocks = data_blocks t.cut;
    inode = λ n. inode-is n z;
    owner = λ b. owner-is b z;
    block = block_at t.cut m;
  }

  pub made-map : IsNewMap t m
  made-map = record {
    sound = record {
      cut = p.cut;
      whole = p.whole;
      layout = layout;
      disk = t.disk;
      small = p.disk;
      described = says;
      sound = subst IsSoundView (sym view-is) (is-sound t p (block_at t.cut m));
    };
    described = says;
    tree = ap tree_of view-is ∙ tree-is t p (block_at t.cut m);
  }
    where
      says : object t.cut m the_description ≡ description_bytes (description_of t.cut t.disk)
      says = description-read t.cut p.cut m content layout is ∙ described

pub new-disks : NewDisksAreSound
new-disks t content m p new layout is = made-map t p content m new layout is
