-- Each object has an address of its own, which the layout knows.
use Rattle.std.proofs.Common.{ℕ, ◌≡◌, ◌<◌, ◌≤◌, ◌+◌, ◌-◌, ◌*◌, ◌/◌, ◌%◌, refl, sym, ap, ◌∙◌, arith}
use Rattle.std.specs.Prelude.{Option}
use Rattle.journal_world.specs.declared.address.Addr.{Addr}
use Rattle.journal_world.specs.declared.address.Kind.{Kind}
use Rattle.journal_world.specs.Addresses.{starts_object}
use Rattle.journal_treestore.specs.declared.place.Cut.{Cut}
use Rattle.journal_treestore.specs.Places.{first_inodes, addr_of, IsCut, PlacesAreObjects, PlacesAreApart}
use Rattle.journal_treestore.specs.Places.Object.{the_description, owner_of, inode_of, data_block}
use Rattle.journal_treestore.proofs.Shaping.{OwnerPlace, owner_place, kind-description, kind-owner, kind-inode, kind-data, starts-inode, starts-block, starts-owner}

pub on_disk-valid : PlacesAreObjects
on_disk-valid c the_description cut here = ap (λ (k : Option Kind). starts_object k 0) (kind-description c cut) ∙ starts-block
on_disk-valid c (owner_of b) cut here = ap (λ (k : Option Kind). starts_object k (addr_of c (owner_of b)).off) (kind-owner c cut b here) ∙ starts-owner c b
on_disk-valid c (inode_of n) cut here = ap (λ (k : Option Kind). starts_object k (addr_of c (inode_of n)).off) (kind-inode c cut n here) ∙ starts-inode n
on_disk-valid c (data_block b) cut here = ap (λ (k : Option Kind). starts_object k 0) (kind-data c cut b here.0 here.1) ∙ starts-block

block_is : (a b : Addr) → a ≡ b → a.block ≡ b.block
block_is a b same = ap (λ (a : Addr). a.block) same

off_is : (a b : Addr) → a ≡ b → a.off ≡ b.off
off_is a b same = ap (λ (a : Addr). a.off) same

one_record : (f size i j : ℕ) → size ≡ 8 → f + i / 8 ≡ f + j / 8 → i % 8 * 4096 ≡ j % 8 * 4096 → i ≡ j
one_record f size i j is block off = omega (arith, block, off)

one_owner_record : (f i j : ℕ) → f + i / 512 ≡ f + j / 512 → i % 512 * 64 ≡ j % 512 * 64 → i ≡ j
one_owner_record f i j block off = omega (arith, block, off)

-- ── the record of who has a block ──

module _ (c : Cut) (cut : IsCut c) where
  -- it lies before the inodes or after the data, and after the description
  owner-apart : (i k : ℕ) → i < c.blocks → (addr_of c (owner_of i)).block ≡ k → k ≡ 513 → ⊥
  owner-apart i k low same at = by (owner_place c i)
    where
      by : OwnerPlace c i → ⊥
      by (OwnerPlace.front first is) = let b = block_is (addr_of c (owner_of i)) _ is in omega (arith, b, same, at)
      by (OwnerPlace.back from is) = let b = block_is (addr_of c (owner_of i)) _ is in omega (arith, b, same, at, cut.some_data, cut.room.later)

  owner-no_other : (i k : ℕ) → i < c.blocks → (addr_of c (owner_of i)).block ≡ k → first_inodes c ≤ k → k < c.blocks → ⊥
  owner-no_other i k low same from inside = by (owner_place c i)
    where
      by : OwnerPlace c i → ⊥
      by (OwnerPlace.front first is) = let b = block_is (addr_of c (owner_of i)) _ is in omega (arith, b, same, from, first)
      by (OwnerPlace.back later is) = let b = block_is (addr_of c (owner_of i)) _ is in omega (arith, b, same, inside)

  -- and each block has its own
  one-owner : (i j : ℕ) → i < c.blocks → j < c.blocks → addr_of c (owner_of i) ≡ addr_of c (owner_of j) → i ≡ j
  one-owner i j low_i low_j same = by (owner_place c i) (owner_place c j)
    where
      by : OwnerPlace c i → OwnerPlace c j → i ≡ j
      by (OwnerPlace.front x is_x) (OwnerPlace.front y is_y) =
          let e = sym is_x ∙ same ∙ is_y in one_owner_record 514 i j (ap (λ (a : Addr). a.block) e) (ap (λ (a : Addr). a.off) e)
      by (OwnerPlace.front x is_x) (OwnerPlace.back y is_y) =
          let e = ap (λ (a : Addr). a.block) (sym is_x ∙ same ∙ is_y) in absurd (omega (arith, e, x, cut.some_data, cut.room.later))
      by (OwnerPlace.back x is_x) (OwnerPlace.front y is_y) =
          let e = ap (λ (a : Addr). a.block) (sym is_x ∙ same ∙ is_y) in absurd (omega (arith, e, y, cut.some_data, cut.room.later))
      by (OwnerPlace.back x is_x) (OwnerPlace.back y is_y) =
          let e = sym is_x ∙ same ∙ is_y in
          let one = one_owner_record c.blocks (i - c.base) (j - c.base) (ap (λ (a : Addr). a.block) e) (ap (λ (a : Addr). a.off) e) in
          omega (arith, one, x, y)

pub places-apart : PlacesAreApart
places-apart c the_description the_description cut x y same = refl
places-apart c the_description (owner_of j) cut x y same = absurd (owner-apart c cut j 513 y (sym (block_is (addr_of c the_description) (addr_of c (owner_of j)) same)) refl)
places-apart c the_description (inode_of j) cut x y same = let b = block_is (addr_of c the_description) (addr_of c (inode_of j)) same in absurd (omega (arith, b))
places-apart c the_description (data_block j) cut x y same = let b = block_is (addr_of c the_description) (addr_of c (data_block j)) same in let low = y.0 in absurd (omega (arith, b, low))
places-apart c (owner_of i) the_description cut x y same = absurd (owner-apart c cut i 513 x (block_is (addr_of c (owner_of i)) (addr_of c the_description) same) refl)
places-apart c (owner_of i) (owner_of j) cut x y same = ap owner_of (one-owner c cut i j x y same)
places-apart c (owner_of i) (inode_of j) cut x y same = absurd (owner-no_other c cut i (first_inodes c + j / 8) x (block_is (addr_of c (owner_of i)) (addr_of c (inode_of j)) same) (omega arith) (omega (arith, y, cut.some_data, cut.room.later)))
places-apart c (owner_of i) (data_block j) cut x y same = let low = y.0 in absurd (owner-no_other c cut i j x (block_is (addr_of c (owner_of i)) (addr_of c (data_block j)) same) (omega (arith, low)) y.1)
places-apart c (inode_of i) the_description cut x y same = let b = block_is (addr_of c (inode_of i)) (addr_of c the_description) same in absurd (omega (arith, b))
places-apart c (inode_of i) (owner_of j) cut x y same = absurd (owner-no_other c cut j (first_inodes c + i / 8) y (sym (block_is (addr_of c (inode_of i)) (addr_of c (owner_of j)) same)) (omega arith) (omega (arith, x, cut.some_data, cut.room.later)))
places-apart c (inode_of i) (inode_of j) cut x y same = ap inode_of (one_record (first_inodes c) 8 i j refl (block_is (addr_of c (inode_of i)) (addr_of c (inode_of j)) same) (off_is (addr_of c (inode_of i)) (addr_of c (inode_of j)) same))
places-apart c (inode_of i) (data_block j) cut x y same = let b = block_is (addr_of c (inode_of i)) (addr_of c (data_block j)) same in let low = y.0 in absurd (omega (arith, b, x, low))
places-apart c (data_block i) the_description cut x y same = let b = block_is (addr_of c (data_block i)) (addr_of c the_description) same in let low = x.0 in absurd (omega (arith, b, low))
places-apart c (data_block i) (owner_of j) cut x y same = let low = x.0 in absurd (owner-no_other c cut j i y (sym (block_is (addr_of c (data_block i)) (addr_of c (owner_of j)) same)) (omega (arith, low)) x.1)
places-apart c (data_block i) (inode_of j) cut x y same = let b = block_is (addr_of c (data_block i)) (addr_of c (inode_of j)) same in let low = x.0 in absurd (omega (arith, b, y, low))
places-apart c (data_block i) (data_block j) cut x y same = ap data_block (block_is (addr_of c (data_block i)) (addr_of c (data_block j)) same)
