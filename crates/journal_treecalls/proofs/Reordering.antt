-- Entries are put before a directory gets a block, or after it.
use Rattle.std.proofs.Common.{◌≡◌, ◌≢◌, ℕ, ◌+◌, ◌<◌, Bool, true, false, cond, eqb, List, Option, Some, None, refl, sym, ap, ◌∙◌, arith}
use Rattle.std.specs.Prelude.{◌==◌}
use Rattle.journal_tree.specs.declared.reply.Kind.TheVariants.{Directory}
use Rattle.journal_treestore.specs.declared.entry.Entry.{Entry}
use Rattle.journal_treestore.specs.Entries.{with_entry, no_entry}
use Rattle.journal_treestore.specs.Positions.{Position, IsPosition, with_put, with_puts}
use Rattle.journal_treestore.specs.Views.{Held, Seen, View, zero_block, with_inode, with_block}
use Rattle.journal_treestore.specs.Views.Seen.{used}
use Rattle.journal_treestore.specs.Sound.{IsSoundView}
use Rattle.journal_treestore.specs.Moves.{without_second}
use Rattle.journal_treestore.proofs.Recording.{zero-long, length-with}
use Rattle.journal_treestore.proofs.Changing.{position-at, IsSomePosition}
use Rattle.journal_treestore.proofs.Merging.{put-order}
use Rattle.journal_treecalls.specs.declared.node.Record.{Record}
use Rattle.journal_treecalls.specs.declared.reach.Reach.{Reach}
use Rattle.journal_treecalls.specs.declared.growth.Growth.{Growth}
use Rattle.journal_treecalls.specs.Targets.{held}
use Rattle.journal_treecalls.specs.Reaches.{reach_count, reached_number}
use Rattle.journal_treecalls.specs.Overlays.{laying_at}
use Rattle.journal_treecalls.specs.Rooms.{HasGrowth, with_growth, further_number}
use Rattle.journal_treecalls.specs.Moves.{with_first, with_new_name}
use Rattle.journal_treecalls.proofs.Laying.{block-unlaid}
use Rattle.journal_treecalls.proofs.Growths.{laid-order, growth-bytes, zeros-grown, growth-apart}

-- ── inodes ──

-- an inode that is written twice
pub inode-twice : (U : View) (d : ℕ) (x y : Seen) → with_inode (with_inode U d x) d y ≡ with_inode U d y
inode-twice U d x y = λ z. record { numbers = U.numbers; first_data = U.first_data; data_blocks = U.data_blocks; inode = λ i. by (eqb i d) (U.inode i) z; owner = U.owner; block = U.block }
  where
    by : (t : Bool) (v : Seen) → cond t y (cond t x v) ≡ cond t y v
    by true v = refl
    by false v = refl

-- and with another one between
pub inode-around : (U : View) (d e : ℕ) (x a y : Seen) → with_inode (with_inode (with_inode U e x) d a) e y ≡ with_inode (with_inode U d a) e y
inode-around U d e x a y = λ z. record { numbers = U.numbers; first_data = U.first_data; data_blocks = U.data_blocks; inode = λ i. by (eqb i e) (eqb i d) (U.inode i) z; owner = U.owner; block = U.block }
  where
    by : (t s : Bool) (v : Seen) → cond t y (cond s a (cond t x v)) ≡ cond t y (cond s a v)
    by true s v = refl
    by false s v = refl

-- entries are put before an inode is written, or after it
pub puts-inode : (U : View) (d : ℕ) (x : Seen) (at : Position) (more : Option Position) (e : Entry) → with_puts (with_inode U d x) at more e ≡ with_inode (with_puts U at more e) d x
puts-inode U d x at None e = refl
puts-inode U d x at (Some p) e = refl

pub without-inode : (U : View) (d : ℕ) (x : Seen) (old : Option Position) → without_second (with_inode U d x) old ≡ with_inode (without_second U old) d x
without-inode U d x None = refl
without-inode U d x (Some p) = refl

pub named-inode : (U : View) (d : ℕ) (x : Seen) (at : Position) (old more : Option Position) (e : Entry) → with_new_name (with_inode U d x) at old more e ≡ with_inode (with_new_name U at old more e) d x
named-inode U d x at old more e = ap (λ W. with_puts W at more e) (without-inode U d x old) ∙ puts-inode (without_second U old) d x at more e

-- ── a block that the directory gets ──

-- A block is none of those that are written for it
abbrev pub IsFar : Growth → ℕ → Type 0
IsFar g b = (m : ℕ) → m < reach_count g.change.reach → reached_number g.change.reach g.change.new m ≢ b

abbrev pub AreFar : Growth → Option Position → Type 0
AreFar g None = Unit {0}
AreFar g (Some p) = IsFar g p.b

put-growth : (U : View) (d : ℕ) (g : Growth) (E : List ℕ) (b q : ℕ) (e : Entry) → IsFar g b → with_growth (with_put U b q e) d g E ≡ with_put (with_growth U d g E) b q e
put-growth U d g E b q e far =
    laid-order U d b (with_entry (U.block b) q e) (laying_at g.change E) (reach_count g.change.reach) (λ m low _. far m low)
    ∙ ap (λ v. with_block (with_growth U d g E) b (with_entry v q e)) (sym (block-unlaid U d (laying_at g.change E) b (reach_count g.change.reach) (λ m low _ same. far m low (sym same))))

module _ (V : View) (d : ℕ) (r : Record) (tag : ℕ) (g : Growth) (sound : IsSoundView V) (is : V.inode d ≡ used (held r)) (kind : r.head.kind ≡ Directory) (has : HasGrowth V r.head tag g) where
  -- the block of a position is none of them
  pub far-position : (i : ℕ) (h : Held) (p : Position) → V.inode i ≡ used h → IsPosition V h p → IsFar g p.b
  far-position i h p at position = λ m low same.
      let own = position-at V h p position in
      growth-apart V d r tag g sound is kind has i h p.j at (λ z. position.some (sym own.0 ∙ z)) (let l = own.1 in omega (arith, l)) m low (same ∙ sym own.0)

  pub far-positions : (i : ℕ) (h : Held) (o : Option Position) → V.inode i ≡ used h → IsSomePosition V h o → AreFar g o
  far-positions i h None at position = tt
  far-positions i h (Some p) at position = far-position i h p at position

  count-some : 0 < reach_count g.change.reach
  count-some = by (g.change.reach.leaves == 0)
    where
      blocks : g.change.reach.blocks ≡ 1
      blocks = let e = ap (λ (r : Reach). r.blocks) has.change.reach in omega (arith, e)

      by : (t : Bool) → 0 < cond t g.change.reach.blocks (g.change.reach.blocks + g.change.reach.leaves + 1)
      by true = let b = blocks in omega (arith, b)
      by false = omega arith

  first-is : (e : Entry) → with_growth V d g (with_entry zero_block 0 e) ≡ with_put (with_growth V d g zero_block) (further_number g) 0 e
  first-is e =
      growth-bytes V d r tag g sound is kind has (with_entry zero_block 0 e) (length-with zero_block 0 e zero-long (omega arith))
      ∙ ap (λ v. with_block (with_growth V d g zero_block) (further_number g) (with_entry v 0 e)) (sym (zeros-grown V d r tag g sound is kind has))

  -- an entry that is put before it
  one-first : (b q : ℕ) (f e : Entry) → IsFar g b → with_growth (with_put V b q f) d g (with_entry zero_block 0 e) ≡ with_put (with_put (with_growth V d g zero_block) b q f) (further_number g) 0 e
  one-first b q f e far =
      put-growth V d g (with_entry zero_block 0 e) b q f far
      ∙ ap (λ W. with_put W b q f) (first-is e)
      ∙ put-order (with_growth V d g zero_block) (further_number g) 0 b q e f (far 0 count-some)

  -- and two
  two-first : (b q : ℕ) (f : Entry) (c p : ℕ) (k e : Entry) → IsFar g b → IsFar g c
      → with_growth (with_put (with_put V b q f) c p k) d g (with_entry zero_block 0 e) ≡ with_put (with_put (with_put (with_growth V d g zero_block) b q f) c p k) (further_number g) 0 e
  two-first b q f c p k e far far_too =
      put-growth (with_put V b q f) d g (with_entry zero_block 0 e) c p k far_too
      ∙ ap (λ W. with_put W c p k) (one-first b q f e far)
      ∙ put-order (with_put (with_growth V d g zero_block) b q f) (further_number g) 0 c p e k (far_too 0 count-some)

  pub puts-first : (at : Position) (old : Option Position) (f e : Entry) → IsFar g at.b → AreFar g old
      → with_first (with_puts V at old f) d g e ≡ with_puts (with_puts (with_growth V d g zero_block) at old f) (record { j = g.j; q = 0; b = further_number g }) None e
  puts-first at None f e far far_too = one-first at.b at.q f e far
  puts-first at (Some p) f e far far_too = two-first at.b at.q f p.b p.q f e far far_too

  pub named-first : (at : Position) (old : Option Position) (e : Entry) → IsFar g at.b → AreFar g old
      → with_first (with_new_name V at old None e) d g e ≡ with_new_name (with_growth V d g zero_block) at old (Some (record { j = g.j; q = 0; b = further_number g })) e
  named-first at None e far far_too = one-first at.b at.q e e far
  named-first at (Some p) e far far_too = two-first p.b p.q no_entry at.b at.q e e far_too far
