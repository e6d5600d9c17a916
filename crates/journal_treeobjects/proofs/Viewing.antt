-- The disk of a map, object by object.
use Rattle.std.proofs.Common.{ℕ, ◌≡◌, Bool, true, false, cond, nat_lt, nat_le, ◌&&◌, ◌==◌, IsTrue, [], refl, ap, ◌∙◌}
use Rattle.std.proofs.lemmas.Bool.{ltb-true, leb-true, lt-ltb, le-leb, eqb-true, and_from, and_parts, false≢true}
use Rattle.journal_world.specs.Addresses.{Value}
use Rattle.journal_world.specs.Maps.{Map}
use Rattle.journal_treestore.specs.declared.place.Cut.{Cut}
use Rattle.journal_treestore.specs.Owners.{no_owner, owner_from}
use Rattle.journal_treestore.specs.Places.{Object, first_data, data_blocks, IsOnDisk, is_same_object}
use Rattle.journal_treestore.specs.Places.Object.{owner_of, inode_of, data_block}
use Rattle.journal_treestore.specs.Views.Seen.{free}
use Rattle.journal_treecalls.specs.Disks.{Write, inode_seen, with_write}
use Rattle.journal_treecalls.specs.Disks.Write.{inode_write, owner_write, block_write}
use Rattle.journal_treeobjects.specs.Maps.{object, inode_at, owner_at, block_at, view_of}
use Rattle.journal_treeobjects.specs.Effects.{object_of, value_of}

-- what is guarded is the same where it is asked for
guarded : {A : Type 0} (f : Value → A) (z : A) (b : Bool) (x y : Value) → (IsTrue b → x ≡ y) → cond b (f x) z ≡ cond b (f y) z
guarded f z true x y same = ap f (same refl)
guarded f z false x y same = refl

-- and what is overwritten there is what is overwritten
changed : {A : Type 0} (f : Value → A) (z : A) (b hit : Bool) (v x y : Value) → (IsTrue b → y ≡ cond hit v x) → (IsTrue hit → IsTrue b) → cond b (f y) z ≡ cond hit (f v) (cond b (f x) z)
changed f z true true v x y is here = ap f (is refl)
changed f z true false v x y is here = ap f (is refl)
changed f z false true v x y is here = absurd (false≢true (here refl))
changed f z false false v x y is here = refl

module _ (c : Cut) where
  inside : (b : ℕ) → IsTrue (nat_le (first_data c) b && nat_lt b c.blocks) → IsOnDisk c (data_block b)
  inside b is =
      let p : IsTrue (nat_le (first_data c) b) × IsTrue (nat_lt b c.blocks) = and_parts (nat_le (first_data c) b) (nat_lt b c.blocks) is in
      (leb-true (first_data c) b p.0, ltb-true b c.blocks p.1)

  -- what the maps give objects decides what their disks have
  pub inode-kept : (m n : Map) (i : ℕ) → (IsOnDisk c (inode_of i) → object c n (inode_of i) ≡ object c m (inode_of i)) → inode_at c n i ≡ inode_at c m i
  inode-kept m n i same = guarded inode_seen (free 0) (nat_lt i c.numbers) (object c n (inode_of i)) (object c m (inode_of i)) (λ low. same (ltb-true i c.numbers low))

  pub owner-kept : (m n : Map) (b : ℕ) → (IsOnDisk c (owner_of b) → object c n (owner_of b) ≡ object c m (owner_of b)) → owner_at c n b ≡ owner_at c m b
  owner-kept m n b same = guarded owner_from no_owner (nat_lt b c.blocks) (object c n (owner_of b)) (object c m (owner_of b)) (λ low. same (ltb-true b c.blocks low))

  pub block-kept : (m n : Map) (b : ℕ) → (IsOnDisk c (data_block b) → object c n (data_block b) ≡ object c m (data_block b)) → block_at c n b ≡ block_at c m b
  block-kept m n b same = guarded (λ v. v) [] (nat_le (first_data c) b && nat_lt b c.blocks) (object c n (data_block b)) (object c m (data_block b)) (λ here. same (inside b here))

  -- maps that give each object one value are one disk
  pub view-same : (m n : Map) → ((o : Object) → IsOnDisk c o → object c n o ≡ object c m o) → view_of c n ≡ view_of c m
  view-same m n same = λ z. record {
    numbers = c.numbers;
    first_data = first_data c;
    data_blocks = data_blocks c;
    inode = λ i. inode-kept m n i (same (inode_of i)) z;
    owner = λ b. owner-kept m n b (same (owner_of b)) z;
    block = λ b. block-kept m n b (same (data_block b)) z;
  }

  -- the objects of n are those of m, but for one
  abbrev pub IsOverwritten : Map → Map → Object → Value → Type 0
  IsOverwritten m n w v = (o : Object) → IsOnDisk c o → object c n o ≡ cond (is_same_object o w) v (object c m o)

  -- then its disk is overwritten so
  pub view-step : (m n : Map) (w : Write) → IsOnDisk c (object_of w) → IsOverwritten m n (object_of w) (value_of w) → view_of c n ≡ with_write (view_of c m) w
  view-step m n (inode_write k v) here is = λ z. record {
    numbers = c.numbers;
    first_data = first_data c;
    data_blocks = data_blocks c;
    inode = λ i. by i z;
    owner = λ b. owner-kept m n b (is (owner_of b)) z;
    block = λ b. block-kept m n b (is (data_block b)) z;
  }
    where
      by : (i : ℕ) → inode_at c n i ≡ cond (i == k) (inode_seen v) (inode_at c m i)
      by i = changed inode_seen (free 0) (nat_lt i c.numbers) (i == k) v (object c m (inode_of i)) (object c n (inode_of i)) (λ low. is (inode_of i) (ltb-true i c.numbers low))
          (λ same. ap (λ j. nat_lt j c.numbers) (eqb-true i k same) ∙ lt-ltb k c.numbers here)
  view-step m n (owner_write k v) here is = λ z. record {
    numbers = c.numbers;
    first_data = first_data c;
    data_blocks = data_blocks c;
    inode = λ i. inode-kept m n i (is (inode_of i)) z;
    owner = λ b. by b z;
    block = λ b. block-kept m n b (is (data_block b)) z;
  }
    where
      by : (b : ℕ) → owner_at c n b ≡ cond (b == k) (owner_from v) (owner_at c m b)
      by b = changed owner_from no_owner (nat_lt b c.blocks) (b == k) v (object c m (owner_of b)) (object c n (owner_of b)) (λ low. is (owner_of b) (ltb-true b c.blocks low))
          (λ same. ap (λ j. nat_lt j c.blocks) (eqb-true b k same) ∙ lt-ltb k c.blocks here)
  view-step m n (block_write k v) here is = λ z. record {
    numbers = c.numbers;
    first_data = first_data c;
    data_blocks = data_blocks c;
    inode = λ i. inode-kept m n i (is (inode_of i)) z;
    owner = λ b. owner-kept m n b (is (owner_of b)) z;
    block = λ b. by b z;
  }
    where
      on : IsTrue (nat_le (first_data c) k && nat_lt k c.blocks)
      on = and_from (nat_le (first_data c) k) (nat_lt k c.blocks) (le-leb (first_data c) k here.0) (lt-ltb k c.blocks here.1)

      by : (b : ℕ) → block_at c n b ≡ cond (b == k) v (block_at c m b)
      by b = changed (λ v. v) [] (nat_le (first_data c) b && nat_lt b c.blocks) (b == k) v (object c m (data_block b)) (object c n (data_block b)) (λ low. is (data_block b) (inside b low))
          (λ same. ap (λ j. nat_le (first_data c) j && nat_lt j c.blocks) (eqb-true b k same) ∙ on)
