-- A search of a directory goes on, and what it comes to.
use Rattle.std.proofs.Common.{◌≡◌, ◌≢◌, ℕ, ◌+◌, ◌-◌, ◌*◌, ◌/◌, ◌%◌, ◌<◌, cond, List, [], Option, Some, None, refl, sym, ap, subst, ◌⊎◌, inl, inr, ◌∙◌, arith}
use Rattle.std.proofs.lemmas.Bool.{cases_eq, eq-eqb, ne_eqb}
use Rattle.journal_tree.specs.declared.reply.Kind.TheVariants.{Directory}
use Rattle.journal_tree.specs.Trees.{find}
use Rattle.journal_treestore.specs.declared.entry.Entry.{Entry}
use Rattle.journal_treestore.specs.declared.inode.Head.{Head}
use Rattle.journal_treestore.specs.Bytes.{word_at}
use Rattle.journal_treestore.specs.Entries.{entry_from, tag_of, no_entry}
use Rattle.journal_treestore.specs.Inodes.{name_from}
use Rattle.journal_treestore.specs.Levels.{level_block, IsBlockFor}
use Rattle.journal_treestore.specs.Levels.IsBlockFor.{any_name, in_level}
use Rattle.journal_treestore.specs.Views.{Held, View, held_of, number_in, directory_block, tree_of, entry_in, entry_by, entry_of, entry_at}
use Rattle.journal_treestore.specs.Views.Seen.{used}
use Rattle.journal_treestore.specs.Sound.{IsSoundView}
use Rattle.journal_treestore.proofs.Leveling.{level-past, level-low}
use Rattle.journal_treestore.proofs.Indexing.{directory-first, directory-level, same-named}
use Rattle.journal_treestore.proofs.Changing.{directory-frame}
use Rattle.journal_treestore.proofs.Viewing.{finds, misses}
use Rattle.journal_treecalls.specs.declared.node.Record.{Record}
use Rattle.journal_treecalls.specs.declared.search.Hit.{Hit}
use Rattle.journal_treecalls.specs.Fetches.{number_at, file_index}
use Rattle.journal_treecalls.specs.Targets.{held, HitsBlock, direct_block, IsFirstHit, HitsFirst, level_number, HitsNumbers, block_of, HitsLevels, IsHit, Hits}

-- ── the blocks of a directory, by its numbers ──

module _ (V : View) (h : Head) where
  pub direct-is : (j : ℕ) → j < 48 → direct_block h.blocks j ≡ block_of V h j
  direct-is j low = λ z. record { j = j; number = sym (directory-first V (held_of h []) j low) z }

  pub level-is : (tag level : ℕ) → level < 4 → directory_block V (held_of h []) (level_block tag level) ≡ number_in V (file_index V h 0) (level_block tag level - 48)
  level-is tag level low = directory-level V (held_of h []) (level_block tag level) (level-past tag level) (level-low tag level low)

  pub number-is : (tag level leaf : ℕ) (v : List ℕ) → level < 4 → file_index V h 0 ≡ leaf → leaf ≢ 0 → V.block leaf ≡ v → level_number v tag level ≡ block_of V h (level_block tag level)
  number-is tag level leaf v low is some same = λ z. record {
    j = level_block tag level;
    number = sym (
        level-is tag level low
        ∙ ap (λ b. number_in V b (level_block tag level - 48)) is
        ∙ ap (λ t. cond t 0 (word_at (V.block leaf) (4 * (level_block tag level - 48)))) (ne_eqb leaf 0 some)
        ∙ ap (λ v. number_at v (level_block tag level - 48)) same) z;
  }

  module _ (tag : ℕ) (name : List ℕ) where
    -- by the numbers in index block 0
    pub levels-by : (leaf : ℕ) (v : List ℕ) (o : Option Hit) → file_index V h 0 ≡ leaf → leaf ≢ 0 → V.block leaf ≡ v → HitsNumbers V v tag name o → HitsLevels V h tag name o
    levels-by leaf v None is some same none = λ level low. subst (λ b. HitsBlock V b tag name None) (number-is tag level leaf v low is some same) (none level low)
    levels-by leaf v (Some hit) is some same found = record {
      level = found.level;
      low = found.low;
      is = subst (λ b. HitsBlock V b tag name (Some hit)) (number-is tag found.level leaf v found.low is some same) found.is;
    }

    -- where there is none, a directory has no levels
    pub levels-none : (leaf : ℕ) → file_index V h 0 ≡ leaf → leaf ≡ 0 → HitsLevels V h tag name None
    levels-none leaf is none level low some = absurd (some (
        level-is tag level low
        ∙ ap (λ b. number_in V b (level_block tag level - 48)) is
        ∙ ap (λ t. cond t 0 (word_at (V.block leaf) (4 * (level_block tag level - 48)))) (eq-eqb leaf 0 none)))

  module _ (name : List ℕ) where
    -- all blocks in which the name may lie
    pub hits-first : (hit : Hit) → IsFirstHit V h.blocks name hit → IsHit V h name hit
    hits-first hit found = record {
      j = found.j;
      block = any_name found.low;
      is = subst (λ b. HitsBlock V b (tag_of name) name (Some hit)) (direct-is found.j found.low) found.is;
    }

    pub hits-all : (o : Option Hit) → HitsFirst V h.blocks (tag_of name) name None → HitsLevels V h (tag_of name) name o → Hits V h name o
    hits-all (Some hit) first found = record { j = level_block (tag_of name) found.level; block = in_level found.level found.low refl; is = found.is }
    hits-all None first none = λ j block. by j block
      where
        by : (j : ℕ) → IsBlockFor (tag_of name) j → HitsBlock V (block_of V h j) (tag_of name) name None
        by j (any_name low) = subst (λ b. HitsBlock V b (tag_of name) name None) (direct-is j low) (first j low)
        by j (in_level level low is) = subst (λ j. HitsBlock V (block_of V h j) (tag_of name) name None) (sym is) (none level low)

-- ── what it comes to ──

-- the entry at a place of a directory's block
pub entry-there : (V : View) (d : ℕ) (x : Held) (j q : ℕ) → V.inode d ≡ used x → x.kind ≡ Directory → directory_block V x j ≢ 0 → q < 512 → entry_at V d (512 * j + q) ≡ entry_from (V.block (directory_block V x j)) q
entry-there V d x j q is kind some low =
    ap (λ y. entry_of V y (512 * j + q)) is
    ∙ ap (λ kind. entry_by V kind x (512 * j + q)) kind
    ∙ ap (λ l. entry_in V (directory_block V x l) ((512 * j + q) % 512)) (let e : (512 * j + q) / 512 ≡ j = omega (arith, low) in e)
    ∙ ap (λ l. entry_in V (directory_block V x j) l) (let e : (512 * j + q) % 512 ≡ q = omega (arith, low) in e)
    ∙ ap (λ t. cond t no_entry (entry_from (V.block (directory_block V x j)) q)) (ne_eqb (directory_block V x j) 0 some)

module _ (V : View) (d : ℕ) (r : Record) (name : List ℕ) (sound : IsSoundView V) (is : V.inode d ≡ used (held r)) (kind : r.head.kind ≡ Directory) where
  -- its blocks, whatever its name
  pub own : (j : ℕ) → directory_block V (held r) j ≡ (block_of V r.head j).number
  own j = directory-frame V V (held r) (held_of r.head []) j (same-named V r.head (name_from r.bytes) [] j)

  pub entry-of-block : (j q : ℕ) → (block_of V r.head j).number ≢ 0 → q < 512 → entry_at V d (512 * j + q) ≡ entry_from (V.block (block_of V r.head j).number) q
  entry-of-block j q some low =
      entry-there V d (held r) j q is kind (λ e. some (sym (own j) ∙ e)) low
      ∙ ap (λ b. entry_from (V.block b) q) (own j)

  -- a hit is the node that the directory has under the name
  pub hit-found : (hit : Hit) → Hits V r.head name (Some hit) → find (tree_of V) d name ≡ Some hit.number
  hit-found hit h =
      finds V sound d (512 * h.j + h.is.inside.at) name (held_of hit.head name) (λ e. h.is.inside.is.some (sym number ∙ e)) (ap V.inode number ∙ h.is.inside.is.inode) refl
      ∙ ap Some number
    where
      number : (entry_at V d (512 * h.j + h.is.inside.at)).number ≡ hit.number
      number = ap (λ (e : Entry). e.number) (entry-of-block h.j h.is.inside.at h.is.there h.is.inside.low) ∙ h.is.inside.is.entry

  -- no hit, and it has none
  pub hit-missed : Hits V r.head name None → find (tree_of V) d name ≡ None
  hit-missed none = misses V sound d name (held r) is kind miss
    where
      miss : (place : ℕ) (g : Held) → place < r.head.size / 8 → IsBlockFor (tag_of name) (place / 512) → (entry_at V d place).number ≢ 0 → (entry_at V d place).tag ≡ tag_of name
          → V.inode (entry_at V d place).number ≡ used g → g.home.name ≢ name
      miss place g inside block some tag at = by (cases_eq (directory_block V (held_of r.head []) (place / 512)) 0)
        where
          place_is : 512 * (place / 512) + place % 512 ≡ place
          place_is = omega arith

          low : place % 512 < 512
          low = omega arith

          entry_is : directory_block V (held_of r.head []) (place / 512) ≢ 0 → entry_at V d place ≡ entry_from (V.block (directory_block V (held_of r.head []) (place / 512))) (place % 512)
          entry_is there = ap (entry_at V d) (sym place_is) ∙ entry-of-block (place / 512) (place % 512) there low

          hole : directory_block V (held_of r.head []) (place / 512) ≡ 0 → (entry_at V d place).number ≡ 0
          hole empty = ap (λ (e : Entry). e.number) (
              ap (λ y. entry_of V y place) is
              ∙ ap (λ kind. entry_by V kind (held r) place) kind
              ∙ ap (λ b. entry_in V b (place % 512)) (own (place / 512) ∙ empty))

          by : (directory_block V (held_of r.head []) (place / 512) ≡ 0) ⊎ (directory_block V (held_of r.head []) (place / 512) ≡ 0 → ⊥) → g.home.name ≢ name
          by (inl empty) = absurd (some (hole empty))
          by (inr there) =
              none (place / 512) block there (place % 512) low
              (λ e. some (ap (λ (e : Entry). e.number) (entry_is there) ∙ e))
              (sym (ap (λ (e : Entry). e.tag) (entry_is there)) ∙ tag)
              g
              (ap V.inode (sym (ap (λ (e : Entry). e.number) (entry_is there))) ∙ at)
