-- What a read tells of the disks that there may be.
use Rattle.std.proofs.Common.{ℕ, ◌≡◌, ◌<◌, cond, nat_lt, nat_le, [], Some, sym, ap, subst, ◌∙◌}
use Rattle.std.proofs.lemmas.Bool.{lt-ltb, le-leb, and_from}
use Rattle.journal_world.specs.declared.address.Addr.{Addr}
use Rattle.journal_world.specs.Addresses.{Value}
use Rattle.journal_world.specs.Maps.{value_among, value_at}
use Rattle.journal_treestore.specs.Owners.{no_owner, owner_from}
use Rattle.journal_treestore.specs.Places.{Object, first_data, addr_of, IsOnDisk}
use Rattle.journal_treestore.specs.Places.Object.{owner_of, inode_of, data_block}
use Rattle.journal_treestore.specs.Views.{View}
use Rattle.journal_treestore.specs.Views.Seen.{free}
use Rattle.journal_treecalls.specs.Disks.{inode_seen, Learns}
use Rattle.journal_treeobjects.specs.Maps.{object, view_of, HasSoundTree}
use Rattle.journal_treeobjects.specs.States.{TreeState, may_be, Keeps}

module _ (old new : TreeState) (k : Keeps old new) where
  -- where more was read, there are fewer disks
  abbrev pub before : (V : View) → may_be new V → may_be old V
  before V m = record {
    map = m.map;
    sound = subst (λ c. HasSoundTree c m.map) k.cut m.sound;
    gives = λ a v is. m.gives a v (k.before a v is);
    is = ap (λ c. view_of c m.map) (sym k.cut) ∙ m.is;
  }

  module _ (a : Addr) (v : Value) (found : value_among new.kept a ≡ Some v) where
    value : (o : Object) → a ≡ addr_of old.cut o → (V : View) (m : may_be new V) → object old.cut m.map o ≡ v
    value o at V m = ap (value_at m.map) (sym at) ∙ m.gives a v found

    pub learns-inode : (n : ℕ) → a ≡ addr_of old.cut (inode_of n) → n < old.cut.numbers → Learns (may_be old) (may_be new) (λ V. V.inode n ≡ inode_seen v)
    learns-inode n at low = record {
      before = before;
      now = λ V m.
          ap (λ (W : View). W.inode n) (sym (before V m).is)
          ∙ ap (λ b. cond b (inode_seen (object old.cut m.map (inode_of n))) (free 0)) (lt-ltb n old.cut.numbers low)
          ∙ ap inode_seen (value (inode_of n) at V m);
    }

    pub learns-owner : (b : ℕ) → a ≡ addr_of old.cut (owner_of b) → b < old.cut.blocks → Learns (may_be old) (may_be new) (λ V. V.owner b ≡ owner_from v)
    learns-owner b at low = record {
      before = before;
      now = λ V m.
          ap (λ (W : View). W.owner b) (sym (before V m).is)
          ∙ ap (λ t. cond t (owner_from (object old.cut m.map (owner_of b))) no_owner) (lt-ltb b old.cut.blocks low)
          ∙ ap owner_from (value (owner_of b) at V m);
    }

    pub learns-block : (b : ℕ) → a ≡ addr_of old.cut (data_block b) → IsOnDisk old.cut (data_block b) → Learns (may_be old) (may_be new) (λ V. V.block b ≡ v)
    learns-block b at here = record {
      before = before;
      now = λ V m.
          ap (λ (W : View). W.block b) (sym (before V m).is)
          ∙ ap (λ t. cond t (object old.cut m.map (data_block b)) []) (and_from (nat_le (first_data old.cut) b) (nat_lt b old.cut.blocks) (le-leb (first_data old.cut) b here.0) (lt-ltb b old.cut.blocks here.1))
          ∙ value (data_block b) at V m;
    }

-- a disk may have been read as before, where no more was
pub same-disks : (old new : TreeState) → new.cut ≡ old.cut → new.kept ≡ old.kept → (V : View) → may_be new V → may_be old V
same-disks old new cut kept V m = record {
  map = m.map;
  sound = subst (λ c. HasSoundTree c m.map) cut m.sound;
  gives = λ a v is. m.gives a v (ap (λ ps. value_among ps a) kept ∙ is);
  is = ap (λ c. view_of c m.map) (sym cut) ∙ m.is;
}
