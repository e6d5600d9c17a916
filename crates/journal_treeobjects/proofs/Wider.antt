-- A map that has each object of a disk with a tree, and more blocks, is a disk with the same nodes.
use Rattle.std.proofs.Common.{ℕ, ◌≡◌, ◌<◌, ◌≤◌, ◌+◌, ◌-◌, Bool, true, false, cond, nat_lt, nat_le, [], refl, sym, ap, ◌∙◌, arith}
use Rattle.std.proofs.lemmas.Bool.{ltb-true, lt-ltb, le-leb, and_from}
use Rattle.journal_world.specs.Maps.{Map}
use Rattle.journal_treestore.specs.declared.place.TheConstants.{MOST_DISK_BLOCKS}
use Rattle.journal_treestore.specs.declared.place.Cut.{Cut}
use Rattle.journal_treestore.specs.Owners.{no_owner, owner_from}
use Rattle.journal_treestore.specs.Descriptions.{description_bytes}
use Rattle.journal_treestore.specs.Places.{first_data}
use Rattle.journal_treestore.specs.Places.Object.{the_description, owner_of, inode_of, data_block}
use Rattle.journal_treestore.specs.Views.Seen.{free}
use Rattle.journal_treestore.specs.Growths.{IsGrownView}
use Rattle.journal_treestore.proofs.Shaping.{has_data, few_blocks}
use Rattle.journal_treestore.proofs.Staying.{growth-keeps}
use Rattle.journal_treecalls.specs.Disks.{inode_seen}
use Rattle.journal_treeobjects.specs.Maps.{object, inode_at, owner_at, block_at, view_of, description_of, HasSoundTree}
use Rattle.journal_treeobjects.specs.GrownMaps.{IsGrownMap, KeepsTree, GrownMapsKeepTheTree}

data-end : (f b k : ℕ) → f < b → k < f + (b - f) → k < b
data-end f b k low inside = omega (arith, low, inside)

more-data : (f g b e : ℕ) → g ≡ f → b ≤ e → b - f ≤ e - g
more-data f g b e same more = omega (arith, same, more)

few-data : (f b most : ℕ) → f < b → b ≤ most → f + (b - f) ≤ most
few-data f b most low few = omega (arith, low, few)

module _ (c d : Cut) (m n : Map) (has : HasSoundTree c m) (g : IsGrownMap c d m n) where
  same-data : first_data d ≡ first_data c
  same-data = λ z. first_data (record { size = c.size; blocks = c.blocks; numbers = g.wider.numbers z; base = g.wider.base z })

  same-inode : (i : ℕ) → inode_at d n i ≡ inode_at c m i
  same-inode i = ap (λ k. cond (nat_lt i k) (inode_seen (object d n (inode_of i))) (free 0)) g.wider.numbers ∙ by (nat_lt i c.numbers) refl
    where
      by : (b : Bool) → nat_lt i c.numbers ≡ b → cond b (inode_seen (object d n (inode_of i))) (free 0) ≡ cond b (inode_seen (object c m (inode_of i))) (free 0)
      by true low = ap inode_seen (g.objects (inode_of i) (ltb-true i c.numbers low))
      by false _ = refl

  owner-there : (e : Cut) (l : Map) (b : ℕ) → b < e.blocks → owner_at e l b ≡ owner_from (object e l (owner_of b))
  owner-there e l b low = ap (λ t. cond t (owner_from (object e l (owner_of b))) no_owner) (lt-ltb b e.blocks low)

  same-owner : (b : ℕ) → b < c.blocks → owner_at d n b ≡ owner_at c m b
  same-owner b low = owner-there d n b (omega (arith, low, g.wider.blocks)) ∙ ap owner_from (g.objects (owner_of b) low) ∙ sym (owner-there c m b low)

  block-there : (e : Cut) (l : Map) (b : ℕ) → first_data e ≤ b → b < e.blocks → block_at e l b ≡ object e l (data_block b)
  block-there e l b from low =
      ap (λ t. cond t (object e l (data_block b)) []) (and_from (nat_le (first_data e) b) (nat_lt b e.blocks) (le-leb (first_data e) b from) (lt-ltb b e.blocks low))

  same-block : (b : ℕ) → first_data c ≤ b → b < c.blocks → block_at d n b ≡ block_at c m b
  same-block b from low =
      block-there d n b (let e = same-data in omega (arith, e, from)) (omega (arith, low, g.wider.blocks))
      ∙ g.objects (data_block b) (from, low)
      ∙ sym (block-there c m b from low)

  grown-view : IsGrownView (view_of c m) (view_of d n)
  grown-view = record {
    numbers = g.wider.numbers;
    first_data = same-data;
    more = more-data (first_data c) (first_data d) c.blocks d.blocks same-data g.wider.blocks;
    few = few-data (first_data d) d.blocks MOST_DISK_BLOCKS (has_data d g.wider.cut) (few_blocks d g.wider.cut);
    inodes = same-inode;
    owners = λ b low. same-owner b (data-end (first_data c) c.blocks b (has_data c has.cut) low);
    blocks = λ b from low. same-block b from (data-end (first_data c) c.blocks b (has_data c has.cut) low);
  }

  same-description : description_of c has.disk ≡ description_of d has.disk
  same-description = λ z. record { blocks = sym g.wider.base z; numbers = sym g.wider.numbers z; disk = has.disk }

  pub keeps : KeepsTree c d m n
  keeps = let kept = growth-keeps (view_of c m) (view_of d n) has.sound grown-view in record {
    sound = record {
      cut = g.wider.cut;
      whole = let e = g.wider.numbers in let was = has.whole in omega (arith, e, was);
      layout = g.layout;
      disk = has.disk;
      small = has.small;
      described = g.objects the_description tt ∙ has.described ∙ ap description_bytes same-description;
      sound = kept.0;
    };
    tree = kept.1;
  }

pub grown-maps : GrownMapsKeepTheTree
grown-maps c d m n has g = keeps c d m n has g
