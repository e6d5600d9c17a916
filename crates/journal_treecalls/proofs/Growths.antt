-- A directory gets a block: what is written for it is one step of its inode.
use Rattle.std.proofs.Common.{◌≡◌, ◌≢◌, ℕ, zero, suc, ◌+◌, ◌-◌, ◌*◌, ◌/◌, ◌%◌, ◌<◌, ◌≤◌, max, Bool, true, false, cond, eqb, List, [], length, take, Option, Some, None, refl, sym, ap, subst, ◌⊎◌, inl, inr, ◌∙◌, arith}
use Rattle.std.specs.Prelude.{◌==◌, nat_lt, nat_le}
use Rattle.std.proofs.lemmas.Bool.{cases_eq, cases_lt, eq-eqb, ne_eqb, eqb-true, lt-ltb, le-ltb}
use Rattle.std.proofs.Math.Seq.{take-length}
use Rattle.journal_tree.specs.declared.reply.Kind.TheVariants.{Directory}
use Rattle.journal_tree.specs.Fit.{IsFitBody}
use Rattle.journal_treestore.specs.declared.owner.Owner.{Owner}
use Rattle.journal_treestore.specs.Entries.{entry_from, no_entry}
use Rattle.journal_treestore.specs.Inodes.{name_from}
use Rattle.journal_treestore.specs.Positions.{IsPosition}
use Rattle.journal_treestore.specs.Views.{Held, View, zero_block, with_inode, with_owner, with_block, held_of, block_at, body_of, node_of, directory_block, entry_in, entry_by, entry_of}
use Rattle.journal_treestore.specs.Views.Seen.{used}
use Rattle.journal_treestore.specs.Sound.{IsSoundInode, IsSoundView}
use Rattle.journal_treestore.specs.Steps.{IsUnowned, IsNodeStep, IsGrowth}
use Rattle.journal_treestore.proofs.Recording.{zero-long, zero-entries}
use Rattle.journal_treestore.proofs.Indexing.{begin-content, same-named}
use Rattle.journal_treestore.proofs.Viewing.{inode-node}
use Rattle.journal_treestore.proofs.Changing.{directory-frame, inode-same}
use Rattle.journal_treestore.proofs.Spare.{nobody_has}
use Rattle.journal_treestore.proofs.Stepping.{block-kept}
use Rattle.journal_treecalls.specs.declared.node.Record.{Record}
use Rattle.journal_treecalls.specs.declared.setting.Tail.{Tail}
use Rattle.journal_treecalls.specs.declared.reach.Reach.{Reach}
use Rattle.journal_treecalls.specs.declared.growth.Growth.{Growth}
use Rattle.journal_treecalls.specs.declared.room.NewPlace.{NewPlace}
use Rattle.journal_treecalls.specs.Disks.{Learns}
use Rattle.journal_treecalls.specs.Targets.{held}
use Rattle.journal_treecalls.specs.Blocks.{IsFreeBlock, IsThis, owner_of}
use Rattle.journal_treecalls.specs.Fetches.{is_in, file_blocks}
use Rattle.journal_treecalls.specs.Reaches.{reach_count, reach_place, reached_number, numbered}
use Rattle.journal_treecalls.specs.Overlays.{begin_of, gap_of, with_gap, Laying, lay, lay_at, laid, laying_at, piece_at}
use Rattle.journal_treecalls.specs.Rooms.{HasGrowth, grown_head, with_growth, further_number}
use Rattle.journal_treecalls.specs.Symlinks.{IsUnreached, IsApart, IsApartUnless, IsOther}
use Rattle.journal_treecalls.proofs.Learning.{learns-as}
use Rattle.journal_treecalls.proofs.Laying.{laid-none, laid-more, owner-unlaid}
use Rattle.journal_treecalls.proofs.Overlaying.{in-parts, IsAt, IsOverlay, IsIndexed, unreached, place-some, apart, apart-own, rows-apart, fresh-or, block-stays, block-at, blocks-are, step-grown}
use Rattle.journal_treecalls.proofs.Rows.{piece-content, piece-index, kept-content, row-overlays, row-indexed}

-- ── the order of writes ──

-- one block after another
cond-order : (s t : Bool) (v w x : List ℕ) → (s ≡ true → t ≡ true → ⊥) → cond s v (cond t w x) ≡ cond t w (cond s v x)
cond-order true true v w x apart = absurd (apart refl refl)
cond-order true false v w x apart = refl
cond-order false true v w x apart = refl
cond-order false false v w x apart = refl

-- the same block twice
cond-twice : (s : Bool) (v w x : List ℕ) → cond s v x ≡ cond s v (cond s w x)
cond-twice true v w x = refl
cond-twice false v w x = refl

both : (i b x : ℕ) → b ≢ x → eqb i b ≡ true → eqb i x ≡ true → ⊥
both i b x apart one two = apart (sym (eqb-true i b one) ∙ eqb-true i x two)

with_block-order : (U : View) (b x : ℕ) (v w : List ℕ) → b ≢ x → with_block (with_block U x w) b v ≡ with_block (with_block U b v) x w
with_block-order U b x v w apart = λ z. record {
  numbers = U.numbers;
  first_data = U.first_data;
  data_blocks = U.data_blocks;
  inode = U.inode;
  owner = U.owner;
  block = λ i. cond-order (eqb i b) (eqb i x) v w (U.block i) (both i b x apart) z;
}

with_block-twice : (U : View) (b : ℕ) (v w : List ℕ) → with_block U b v ≡ with_block (with_block U b w) b v
with_block-twice U b v w = λ z. record {
  numbers = U.numbers;
  first_data = U.first_data;
  data_blocks = U.data_blocks;
  inode = U.inode;
  owner = U.owner;
  block = λ i. cond-twice (eqb i b) v w (U.block i) z;
}

-- a block that is put somewhere, and another
lay-order : (U : View) (n x : ℕ) (w : List ℕ) (l : Laying) → (l.stays ≡ false → l.block ≢ x) → lay_at (with_block U x w) n l ≡ with_block (lay_at U n l) x w
lay-order U n x w l apart = by l.stays (eqb l.was 0) apart
  where
    by : (t u : Bool) → (t ≡ false → l.block ≢ x)
        → cond t (with_block U x w) (cond u (with_owner (with_block (with_block U x w) l.block l.bytes) l.block (owner_of n l.place)) (with_block (with_block U x w) l.block l.bytes))
        ≡ with_block (cond t U (cond u (with_owner (with_block U l.block l.bytes) l.block (owner_of n l.place)) (with_block U l.block l.bytes))) x w
    by true u apart = refl
    by false true apart = ap (λ X. with_owner X l.block (owner_of n l.place)) (with_block-order U l.block x l.bytes w (apart refl))
    by false false apart = with_block-order U l.block x l.bytes w (apart refl)

pub laid-order : (U : View) (n x : ℕ) (w : List ℕ) (row : ℕ → Laying) (m : ℕ) → ((i : ℕ) → i < m → (row i).stays ≡ false → (row i).block ≢ x) → laid (with_block U x w) n row m ≡ with_block (laid U n row m) x w
laid-order U n x w row zero apart = laid-none (with_block U x w) n row ∙ ap (λ X. with_block X x w) (sym (laid-none U n row))
laid-order U n x w row (suc m) apart =
    laid-more (with_block U x w) n row m
    ∙ ap (λ X. lay_at X n (row m)) (laid-order U n x w row m (λ i low. apart i (omega (arith, low))))
    ∙ lay-order (laid U n row m) n x w (row m) (apart m (omega arith))
    ∙ ap (λ X. with_block X x w) (sym (laid-more U n row m))

-- a block that is written with other bytes
lay-bytes : (U : View) (n was b p : ℕ) (v w : List ℕ) → lay U n was b p v ≡ with_block (lay U n was b p w) b v
lay-bytes U n was b p v w = by (eqb was 0)
  where
    by : (t : Bool) → cond t (with_owner (with_block U b v) b (owner_of n p)) (with_block U b v) ≡ with_block (cond t (with_owner (with_block U b w) b (owner_of n p)) (with_block U b w)) b v
    by true = ap (λ X. with_owner X b (owner_of n p)) (with_block-twice U b v w)
    by false = with_block-twice U b v w

-- Two rows are one but for the bytes of the first block
record AreLike (one two : ℕ → Laying) (m : ℕ) : Type 0 where
  writes : (one 0).stays ≡ false
  writes_too : (two 0).stays ≡ false
  was : (one 0).was ≡ (two 0).was
  block : (one 0).block ≡ (two 0).block
  place : (one 0).place ≡ (two 0).place
  others : (i : ℕ) → i < m → i ≢ 0 → one i ≡ two i
  apart : (i : ℕ) → i < m → i ≢ 0 → (two i).block ≢ (two 0).block

laid-bytes : (U : View) (n : ℕ) (one two : ℕ → Laying) (m : ℕ) → 0 < m → AreLike one two m → laid U n one m ≡ with_block (laid U n two m) (two 0).block (one 0).bytes
laid-bytes U n one two zero some like = absurd (omega (arith, some))
laid-bytes U n one two (suc zero) some like =
    laid-more U n one 0
    ∙ ap (λ X. lay_at X n (one 0)) (laid-none U n one)
    ∙ ap (λ t. cond t U (lay U n (one 0).was (one 0).block (one 0).place (one 0).bytes)) like.writes
    ∙ (λ z. lay U n (like.was z) (like.block z) (like.place z) (one 0).bytes)
    ∙ lay-bytes U n (two 0).was (two 0).block (two 0).place (one 0).bytes (two 0).bytes
    ∙ ap (λ X. with_block X (two 0).block (one 0).bytes) (sym (
    laid-more U n two 0
    ∙ ap (λ X. lay_at X n (two 0)) (laid-none U n two)
    ∙ ap (λ t. cond t U (lay U n (two 0).was (two 0).block (two 0).place (two 0).bytes)) like.writes_too))
laid-bytes U n one two (suc (suc m)) some like =
    laid-more U n one (suc m)
    ∙ (λ z. lay_at (laid-bytes U n one two (suc m) (omega arith) before z) n (like.others (suc m) (omega arith) (λ e. absurd (omega (arith, e))) z))
    ∙ lay-order (laid U n two (suc m)) n (two 0).block (one 0).bytes (two (suc m)) (λ _. like.apart (suc m) (omega arith) (λ e. absurd (omega (arith, e))))
    ∙ ap (λ X. with_block X (two 0).block (one 0).bytes) (sym (laid-more U n two (suc m)))
  where
    before : AreLike one two (suc m)
    before = record {
      writes = like.writes;
      writes_too = like.writes_too;
      was = like.was;
      block = like.block;
      place = like.place;
      others = λ i low. like.others i (omega (arith, low));
      apart = λ i low. like.apart i (omega (arith, low));
    }

-- ── the step ──

-- block j of a directory, if it is low
low-block : (X : View) (h : Held) (p : ℕ) → p < 388 → directory_block X h p ≡ block_at X h p
low-block X h p low = ap (λ t. cond t (block_at X h p) 0) (lt-ltb p 388 low)

module _ (V : View) (d : ℕ) (r : Record) (tag : ℕ) (g : Growth) (sound : IsSoundView V) (is : V.inode d ≡ used (held r)) (kind : r.head.kind ≡ Directory) (has : HasGrowth V r.head tag g) where
  abbrev K : Held
  K = held_of (grown_head r.head g) (name_from r.bytes)

  abbrev O : ℕ → ℕ
  O = block_at V (held r)

  abbrev N : ℕ → ℕ
  N = numbered (block_at V (held r)) g.change.reach g.change.new

  abbrev row : ℕ → Laying
  row = laying_at g.change zero_block

  abbrev count : ℕ
  count = reach_count g.change.reach

  few : g.j < 388
  few = has.block.few

  own : IsSoundInode V d (held r)
  own = sound.inodes d (held r) is

  whole : (blocks : ℕ) × (r.head.size ≡ 4096 * blocks)
  whole = own.whole kind

  to-is : 4096 * (g.j + 1) ≡ 4096 * g.j + length zero_block
  to-is = let z = zero-long in omega (arith, z)

  some : 0 < length zero_block
  some = let z = zero-long in omega (arith, z)

  fits : 4096 * g.j + length zero_block ≤ 4295163904
  fits = let z = zero-long in let f = few in omega (arith, z, f)

  small : r.head.size ≤ 4295163904
  small =
      let p = (subst IsFitBody (ap (λ k. body_of V k (held r)) kind) (sound.fit.nodes d (node_of V (held r)) (inode-node V d (held r) is)).body).0 in
      omega (arith, p)

  block-is : g.change.reach.block ≡ g.j
  block-is = let e = ap (λ (r : Reach). r.block) has.change.reach in omega (arith, e)

  blocks-is : g.change.reach.blocks ≡ 1
  blocks-is = let e = ap (λ (r : Reach). r.blocks) has.change.reach in omega (arith, e)

  count-some : 0 < reach_count g.change.reach
  count-some = by (g.change.reach.leaves == 0)
    where
      by : (t : Bool) → 0 < cond t g.change.reach.blocks (g.change.reach.blocks + g.change.reach.leaves + 1)
      by true = let b = blocks-is in omega (arith, b)
      by false = omega arith

  long-for : (E : List ℕ) → length E ≡ 4096 → length E ≡ 4096 * ((4096 * (g.j + 1) + 4095) / 4096) - begin_of (4096 * g.j)
  long-for E e = omega (arith, e)

  pub overlays : IsOverlay V (held r) (numbered (block_at V (held r)) g.change.reach g.change.new) (laying_at g.change zero_block) (reach_count g.change.reach) (4096 * g.j) (4096 * g.j + length zero_block) zero_block
  overlays = subst (λ to. IsOverlay V (held r) (numbered (block_at V (held r)) g.change.reach g.change.new) (laying_at g.change zero_block) (reach_count g.change.reach) (4096 * g.j) to zero_block) to-is
      (row-overlays V r (grown_head r.head g) (4096 * g.j) (4096 * (g.j + 1)) g.change zero_block (omega arith) (let f = few in omega (arith, f)) has.change (long-for zero_block zero-long) refl refl)

  indexed : IsIndexed V (held r) (numbered (block_at V (held r)) g.change.reach g.change.new) (laying_at g.change zero_block) (reach_count g.change.reach) (grown_head r.head g)
  indexed = row-indexed V r (grown_head r.head g) (4096 * g.j) (4096 * (g.j + 1)) g.change zero_block (omega arith) (let f = few in omega (arith, f)) has.change (long-for zero_block zero-long) refl refl

  size-is : (grown_head r.head g).size ≡ max r.head.size (4096 * g.j + length zero_block)
  size-is = ap (max r.head.size) to-is

  -- ── nothing is cleared ──

  blank : file_blocks V r.head (r.head.size / 4096) ≡ 0
  blank =
      same-named V r.head [] (name_from r.bytes) (r.head.size / 4096)
      ∙ own.after (r.head.size / 4096) (
      let w = whole in let e = w.1 in
      let b = begin-content (r.head.size / 4096) (let s = small in omega (arith, s)) in
      omega (arith, e, b))

  no-gap : gap_of V r.head (4096 * g.j) ≡ None
  no-gap = by (nat_le (4096 * g.j / 4096) (r.head.size / 4096))
    where
      by : (t : Bool) → cond {A = Option Tail} t None (cond (eqb (file_blocks V r.head (r.head.size / 4096)) 0) None (Some (record { block = file_blocks V r.head (r.head.size / 4096); from = r.head.size % 4096 }))) ≡ None
      by true = refl
      by false = ap (λ t. cond {A = Option Tail} t None (Some (record { block = file_blocks V r.head (r.head.size / 4096); from = r.head.size % 4096 }))) (eq-eqb (file_blocks V r.head (r.head.size / 4096)) 0 blank)

  -- the disk before the inode is written, and after it
  abbrev W0 : View
  W0 = with_inode (laid (with_gap V (gap_of V r.head (4096 * g.j))) d (laying_at g.change zero_block) (reach_count g.change.reach)) d (used (held_of (grown_head r.head g) (name_from r.bytes)))

  abbrev W1 : View
  W1 = with_inode (with_growth V d g zero_block) d (used (held_of (grown_head r.head g) (name_from r.bytes)))

  same-view : with_inode (laid (with_gap V (gap_of V r.head (4096 * g.j))) d (laying_at g.change zero_block) (reach_count g.change.reach)) d (used (held_of (grown_head r.head g) (name_from r.bytes)))
      ≡ with_inode (with_growth V d g zero_block) d (used (held_of (grown_head r.head g) (name_from r.bytes)))
  same-view = ap (λ o. with_inode (laid (with_gap V o) d (laying_at g.change zero_block) (reach_count g.change.reach)) d (used (held_of (grown_head r.head g) (name_from r.bytes)))) no-gap

  -- ── the numbers of its blocks ──

  numbers-at : (p : ℕ) → block_at W0 (held_of (grown_head r.head g) (name_from r.bytes)) p ≡ numbered (block_at V (held r)) g.change.reach g.change.new p
  numbers-at p = blocks-are V d r (grown_head r.head g) (4096 * g.j) zero_block zero_block N row count sound is some fits small overlays indexed p

  pub numbers-grown : (p : ℕ) → block_at (with_inode (with_growth V d g zero_block) d (used (held_of (grown_head r.head g) (name_from r.bytes)))) (held_of (grown_head r.head g) (name_from r.bytes)) p ≡ numbered (block_at V (held r)) g.change.reach g.change.new p
  numbers-grown = subst (λ (W : View). (p : ℕ) → block_at W (held_of (grown_head r.head g) (name_from r.bytes)) p ≡ numbered (block_at V (held r)) g.change.reach g.change.new p) same-view numbers-at

  pub numbers-kept : (p : ℕ) → block_at V (held r) p ≢ 0 → numbered (block_at V (held r)) g.change.reach g.change.new p ≡ block_at V (held r) p
  numbers-kept p had = overlays.kept p (λ i low same. had)

  -- the directory had none there
  none-before : directory_block V (held r) g.j ≡ 0
  none-before = directory-frame V V (held r) (held_of r.head []) g.j (same-named V r.head (name_from r.bytes) [] g.j) ∙ has.block.none

  -- block 0 of those that are reached is the one that it gets
  first-place : reach_place g.change.reach 0 ≡ g.j
  first-place =
      ap (λ t. cond t (g.change.reach.block + 0) (cond (nat_lt 0 (g.change.reach.blocks + g.change.reach.leaves)) (2147483649 + (g.change.reach.leaf + (0 - g.change.reach.blocks))) 2147483648))
      (lt-ltb 0 g.change.reach.blocks (let b = blocks-is in omega (arith, b)))
      ∙ (let b = block-is in omega (arith, b))

  pub further-is : further_number g ≡ numbered (block_at V (held r)) g.change.reach g.change.new g.j
  further-is = overlays.block 0 count-some ∙ ap N first-place

  pub further-some : further_number g ≢ 0
  further-some e = place-some V d r (grown_head r.head g) (4096 * g.j) zero_block zero_block N row count sound is some fits small overlays 0 count-some (sym (overlays.block 0 count-some) ∙ e)

  bytes-first : (E : List ℕ) → length E ≡ 4096 → piece_at g.change E 0 ≡ E
  bytes-first E e =
      piece-content g.change E 0 (let b = blocks-is in omega (arith, b))
      ∙ ap (λ n. take n E) (let q : 4096 * 0 + 4096 - 4096 * 0 ≡ length E = omega (arith, e) in q)
      ∙ take-length E

  zeros-at : W0.block (numbered (block_at V (held r)) g.change.reach g.change.new g.j) ≡ zero_block
  zeros-at =
      ap (λ p. W0.block (N p)) (sym first-place)
      ∙ block-at V d r (grown_head r.head g) (4096 * g.j) zero_block zero_block N row count sound is some fits small overlays 0 count-some
      ∙ bytes-first zero_block zero-long

  pub zeros-grown : (with_growth V d g zero_block).block (further_number g) ≡ zero_block
  zeros-grown = ap (with_growth V d g zero_block).block further-is ∙ subst (λ (W : View). W.block (numbered (block_at V (held r)) g.change.reach g.change.new g.j) ≡ zero_block) same-view zeros-at

  -- ── its entries ──

  -- no other block of entries is reached
  out-at : (p : ℕ) → p < 388 → p ≢ g.j → (m : ℕ) → m < reach_count g.change.reach → reach_place g.change.reach m ≢ p
  out-at p low other = overlays.out p (by (is_in (4096 * g.j) (4096 * g.j + length zero_block) p) refl) (omega (arith, low))
    where
      by : (t : Bool) → is_in (4096 * g.j) (4096 * g.j + length zero_block) p ≡ t → is_in (4096 * g.j) (4096 * g.j + length zero_block) p ≡ false
      by false t = t
      by true t = let q = in-parts (4096 * g.j) (4096 * g.j + length zero_block) p t in let a = q.0 in let b = q.1 in let z = zero-long in absurd (other (omega (arith, a, b, z)))

  entry-is : (p q : ℕ) → q < 512 → entry_in W0 (directory_block W0 (held_of (grown_head r.head g) (name_from r.bytes)) p) q ≡ entry_in V (directory_block V (held r) p) q
  entry-is p q inside = by (cases_lt p 388) (cases_eq p g.j)
    where
      by : (p < 388) ⊎ (388 ≤ p) → (p ≡ g.j) ⊎ (p ≡ g.j → ⊥) → entry_in W0 (directory_block W0 K p) q ≡ entry_in V (directory_block V (held r) p) q
      by (inr far) _ =
          ap (λ t. entry_in W0 (cond t (block_at W0 K p) 0) q) (le-ltb p 388 far)
          ∙ sym (ap (λ t. entry_in V (cond t (block_at V (held r) p) 0) q) (le-ltb p 388 far))
      by (inl low) (inl same) =
          ap (λ b. entry_in W0 b q) (low-block W0 K p low ∙ numbers-at p ∙ ap N same)
          ∙ ap (λ t. cond t no_entry (entry_from (W0.block (N g.j)) q)) (ne_eqb (N g.j) 0 (λ e. further-some (further-is ∙ e)))
          ∙ ap (λ v. entry_from v q) zeros-at
          ∙ zero-entries q inside
          ∙ sym (ap (λ b. entry_in V b q) (ap (directory_block V (held r)) same ∙ none-before))
      by (inl low) (inr other) =
          ap (λ b. entry_in W0 b q) (low-block W0 K p low ∙ numbers-at p ∙ unreached V d r (grown_head r.head g) (4096 * g.j) zero_block zero_block N row count sound is some fits small overlays p (out-at p low other))
          ∙ at (cases_eq (O p) 0)
          ∙ sym (ap (λ b. entry_in V b q) (low-block V (held r) p low))
        where
          at : (O p ≡ 0) ⊎ (O p ≡ 0 → ⊥) → entry_in W0 (O p) q ≡ entry_in V (O p) q
          at (inl none) = ap (λ t. cond t no_entry (entry_from (W0.block (O p)) q)) (eq-eqb (O p) 0 none) ∙ sym (ap (λ t. cond t no_entry (entry_from (V.block (O p)) q)) (eq-eqb (O p) 0 none))
          at (inr there) = ap (λ v. cond (eqb (O p) 0) no_entry (entry_from v q))
              (block-stays V d r (grown_head r.head g) (4096 * g.j) zero_block zero_block N row count sound is some fits small overlays p (out-at p low other) there
              (λ e. there (ap O e ∙ sym (same-named V r.head [] (name_from r.bytes) (r.head.size / 4096)) ∙ blank)))

  entries-same : (place : ℕ) → entry_of W0 (used (held_of (grown_head r.head g) (name_from r.bytes))) place ≡ entry_of V (used (held r)) place
  entries-same place =
      ap (λ k. entry_by W0 k K place) kind
      ∙ entry-is (place / 512) (place % 512) (omega arith)
      ∙ sym (ap (λ k. entry_by V k (held r) place) kind)

  -- ── it is one step ──

  whole-grown : (grown_head r.head g).kind ≡ Directory → (blocks : ℕ) × ((grown_head r.head g).size ≡ 4096 * blocks)
  whole-grown _ = by (cases_lt r.head.size (4096 * (g.j + 1)))
    where
      by : (r.head.size < 4096 * (g.j + 1)) ⊎ (4096 * (g.j + 1) ≤ r.head.size) → (blocks : ℕ) × (max r.head.size (4096 * (g.j + 1)) ≡ 4096 * blocks)
      by (inl less) = (g.j + 1, omega (arith, less))
      by (inr more) = (whole.0, let e = whole.1 in omega (arith, more, e))

  step : IsNodeStep V (with_inode (with_growth V d g zero_block) d (used (held_of (grown_head r.head g) (name_from r.bytes)))) d (held r) (held_of (grown_head r.head g) (name_from r.bytes))
  step = subst (λ W. IsNodeStep V W d (held r) (held_of (grown_head r.head g) (name_from r.bytes))) same-view
      (step-grown V d r (grown_head r.head g) (4096 * g.j) zero_block zero_block N row count sound is some fits small overlays indexed size-is whole-grown refl refl entries-same)

  pub growth-step : IsGrowth V (with_inode (with_growth V d g zero_block) d (used (held_of (grown_head r.head g) (name_from r.bytes)))) d (held r) (held_of (grown_head r.head g) (name_from r.bytes)) g.j
  growth-step = record {
    step = step;
    kind = kind;
    still = kind;
    attributes = refl;
    few = few;
    size = refl;
    kept = λ p had. numbers-grown p ∙ numbers-kept p had;
  }

  -- where an entry may be put then
  pub growth-position : (q : ℕ) → q < 512 → IsPosition (with_inode (with_growth V d g zero_block) d (used (held_of (grown_head r.head g) (name_from r.bytes)))) (held_of (grown_head r.head g) (name_from r.bytes)) (record { j = g.j; q = q; b = further_number g })
  growth-position q low = record {
    is = low-block W1 K g.j few ∙ numbers-grown g.j ∙ sym further-is;
    some = further-some;
    low = low;
  }

  -- ── other bytes are written into the block ──

  pub growth-bytes : (E : List ℕ) → length E ≡ 4096 → with_growth V d g E ≡ with_block (with_growth V d g zero_block) (further_number g) E
  growth-bytes E e =
      laid-bytes V d (laying_at g.change E) (laying_at g.change zero_block) (reach_count g.change.reach) count-some like
      ∙ ap (with_block (with_growth V d g zero_block) (further_number g)) (bytes-first E e)
    where
      like : AreLike (laying_at g.change E) (laying_at g.change zero_block) (reach_count g.change.reach)
      like = record {
        writes = sym (kept-content g.change 0 (let b = blocks-is in omega (arith, b)));
        writes_too = sym (kept-content g.change 0 (let b = blocks-is in omega (arith, b)));
        was = refl;
        block = refl;
        place = refl;
        others = λ i low past z. record {
          stays = (row i).stays;
          was = (row i).was;
          block = (row i).block;
          place = (row i).place;
          bytes = (piece-index g.change E i (let b = blocks-is in omega (arith, b, past)) ∙ sym (piece-index g.change zero_block i (let b = blocks-is in omega (arith, b, past)))) z;
        };
        apart = λ i low past. rows-apart V d r (grown_head r.head g) (4096 * g.j) zero_block zero_block N row count sound is some fits small overlays i 0 low count-some (λ e. past (sym e));
      }

  -- ── what is apart from it ──

  -- no block of entries or of bytes that a node has is written
  pub growth-apart : (i : ℕ) (x : Held) (p : ℕ) → V.inode i ≡ used x → block_at V x p ≢ 0 → p < 2147483648 → (m : ℕ) → m < reach_count g.change.reach → reached_number g.change.reach g.change.new m ≢ block_at V x p
  growth-apart i x p at there low m inside e = by (cases_eq i d)
    where
      here : block_at V x p ≡ N (reach_place g.change.reach m)
      here = sym e ∙ overlays.block m inside

      -- the directory has none of its own there but the index blocks
      apart-here : x ≡ held r → ⊥
      apart-here same = place (cases_eq (reach_place g.change.reach m) p)
        where
          had : O p ≢ 0
          had z = there (ap (λ x. block_at V x p) same ∙ z)

          own-is : N p ≡ N (reach_place g.change.reach m)
          own-is = numbers-kept p had ∙ sym (ap (λ x. block_at V x p) same) ∙ here

          place : (reach_place g.change.reach m ≡ p) ⊎ (reach_place g.change.reach m ≡ p → ⊥) → ⊥
          place (inr other) = apart-own V d r (grown_head r.head g) (4096 * g.j) zero_block zero_block N row count sound is some fits small overlays p m inside other (λ z. had (sym (numbers-kept p had) ∙ z)) own-is
          place (inl same_place) = at-block (is_in (4096 * g.j) (4096 * g.j + length zero_block) p) refl
            where
              at-block : (t : Bool) → is_in (4096 * g.j) (4096 * g.j + length zero_block) p ≡ t → ⊥
              at-block false out = overlays.out p out low m inside same_place
              at-block true in_it =
                  let q = in-parts (4096 * g.j) (4096 * g.j + length zero_block) p in_it in let a = q.0 in let b = q.1 in let z = zero-long in
                  had (ap O (let s : p ≡ g.j = omega (arith, a, b, z) in s) ∙ sym (low-block V (held r) g.j few) ∙ none-before)

      by : (i ≡ d) ⊎ (i ≡ d → ⊥) → ⊥
      by (inr other) = apart V d r (grown_head r.head g) (4096 * g.j) zero_block zero_block N row count sound is some fits small overlays i x p m other at there inside here
      by (inl same) = apart-here (let q : used x ≡ used (held r) = sym at ∙ ap V.inode same ∙ is in cc)

  -- a block that nobody has, and that the directory does not get, stays so
  pub growth-unowned : (b : ℕ) → b ≢ 0 → IsUnowned V b → IsUnreached g b → IsUnowned (with_inode (with_growth V d g zero_block) d (used (held_of (grown_head r.head g) (name_from r.bytes)))) b
  growth-unowned b b_some unowned unreached_is = record { not_at = λ h at. subst (λ (o : Owner). block_at W1 h o.place ≢ b) (sym same) (by h (sym (ap (λ (o : Owner). W1.inode o.number) same) ∙ at) (cases_eq (V.owner b).number d)) }
    where
      same : (with_growth V d g zero_block).owner b ≡ V.owner b
      same = owner-unlaid V d row b count (λ m low _ _ e. unreached_is m low (sym e))

      never : (p : ℕ) → N p ≢ b
      never p = at (fresh-or V d r (grown_head r.head g) (4096 * g.j) zero_block zero_block N row count sound is some fits small overlays p)
        where
          at : ((f : IsAt row count p) × (block_at V (held r) p ≡ 0)) ⊎ (N p ≡ block_at V (held r) p) → N p ≢ b
          at (inl f) = λ e. unreached_is f.0.i f.0.low (overlays.block f.0.i f.0.low ∙ ap N f.0.is ∙ e)
          at (inr kept) = λ e. nobody_has V b sound b_some unowned d (held r) p is (sym kept ∙ e)

      by : (h : Held) → W1.inode (V.owner b).number ≡ used h → ((V.owner b).number ≡ d) ⊎ ((V.owner b).number ≡ d → ⊥) → block_at W1 h (V.owner b).place ≢ b
      by h at (inl here) = λ e. never (V.owner b).place (sym (numbers-grown (V.owner b).place) ∙ ap (λ h. block_at W1 h (V.owner b).place) q ∙ e)
        where
          q : K ≡ h
          q = let u : used K ≡ used h = sym (inode-same (with_growth V d g zero_block) d (used K)) ∙ ap W1.inode (sym here) ∙ at in cc
      by h at (inr other) = λ e. unowned.not_at h before (sym (block-kept V W1 d (held r) K sound step (V.owner b).number h other before (V.owner b).place) ∙ e)
        where
          before : V.inode (V.owner b).number ≡ used h
          before = sym (step.others (V.owner b).number other) ∙ at

-- ── a block that it does not get ──

pub other-free : (old new : View → Type 0) (p : NewPlace) (b : ℕ) (taken : Bool) (o : Option ℕ) → IsApartUnless p b taken → taken ≡ false → IsThis b o → Learns old new (λ V. IsFreeBlock V o) → Learns old new (λ V. IsOther V p o)
other-free old new p b taken o apart not_taken same l = learns-as old new _ _ l (λ V m free. by V o same free)
  where
    by : (V : View) (o : Option ℕ) → IsThis b o → IsFreeBlock V o → IsOther V p o
    by V None same free = tt
    by V (Some f) same free = record { free = free; apart = subst (IsApart p) (sym same) (subst (IsApartUnless p b) not_taken apart) }
