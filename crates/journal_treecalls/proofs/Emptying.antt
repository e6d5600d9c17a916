-- Whether a directory has entries, by what was read of it.
use Rattle.std.proofs.Common.{◌≡◌, ◌≢◌, ℕ, ◌+◌, ◌*◌, ◌/◌, ◌%◌, ◌<◌, ◌≤◌, true, false, List, [], Option, Some, None, refl, sym, ap, subst, ◌⊎◌, inl, inr, ◌∙◌, arith}
use Rattle.std.specs.Prelude.{is_some}
use Rattle.std.proofs.lemmas.Bool.{cases_eq, cases_lt, eqb-true}
use Rattle.journal_tree.specs.declared.reply.Kind.TheVariants.{Directory}
use Rattle.journal_tree.specs.Trees.{Home, Node, hangs_in, find_any}
use Rattle.journal_tree.proofs.Finding.{found_node, find_any-none}
use Rattle.journal_tree.proofs.Hanging.{low}
use Rattle.journal_treestore.specs.declared.entry.Entry.{Entry}
use Rattle.journal_treestore.specs.declared.inode.Head.{Head}
use Rattle.journal_treestore.specs.Entries.{no_entry, entry_from}
use Rattle.journal_treestore.specs.Views.{Held, Seen, View, held_of, directory_block, node_of, tree_of, entry_in, entry_by, entry_of, entry_at, home_in, homes}
use Rattle.journal_treestore.specs.Views.Seen.{free, used}
use Rattle.journal_treestore.specs.Sound.{entry_for, IsEntryOf, IsSoundView}
use Rattle.journal_treestore.proofs.Indexing.{directory-after, same-named}
use Rattle.journal_treestore.proofs.Changing.{at-directory, directory-frame}
use Rattle.journal_treestore.proofs.Viewing.{node-inode, inode-node, used_some, entry_of_node}
use Rattle.journal_treecalls.specs.declared.seats.BlockNumbers.{BlockNumbers}
use Rattle.journal_treecalls.specs.Targets.{block_of}
use Rattle.journal_treecalls.specs.Seats.{number_of, HasBlocks, block_count}
use Rattle.journal_treecalls.specs.Directories.{IsEntryIn, IsEntryOfBlock, HasNoneInBlocks, IsEntryOfBlocks, HasNone, HasEntry}
use Rattle.journal_treecalls.specs.Disks.{Learns}
use Rattle.journal_treecalls.proofs.Learning.{learns-as, learns-then}
use Rattle.journal_treecalls.proofs.Searching.{entry-there}

-- ── what is learned of a block ──

pub no-entry-block : (may : View → Type 0) (b : ℕ) → b ≡ 0 → Learns may may (λ V. IsEntryOfBlock V b None)
no-entry-block may b none = record { before = λ V m. m; now = λ V m some. absurd (some none) }

pub entry-block : (old new : View → Type 0) (b : ℕ) (v w : List ℕ) (o : Option ℕ) → Learns old new (λ V. V.block b ≡ v) → w ≡ v → b ≢ 0 → IsEntryIn w o → Learns old new (λ V. IsEntryOfBlock V b o)
entry-block old new b v w o l same some entry = learns-as old new _ _ l (λ V m at. by V o (subst (λ v. IsEntryIn v o) (same ∙ sym at) entry))
  where
    by : (V : View) (o : Option ℕ) → IsEntryIn (V.block b) o → IsEntryOfBlock V b o
    by V None e = λ _. e
    by V (Some m) e = (some, e)

-- no entry of the first blocks, by their numbers
pub none-begin : (may : View → Type 0) (b : BlockNumbers) → Learns may may (λ V. HasNoneInBlocks V b 0)
none-begin may b = record { before = λ V m. m; now = λ V m j low. absurd (omega (arith, low)) }

module _ (first old new : View → Type 0) (b : BlockNumbers) (j count number : ℕ) (o : Option ℕ) (is : number ≡ number_of b j) (before : Learns first old (λ V. HasNoneInBlocks V b j)) (one : Learns old new (λ V. IsEntryOfBlock V number o)) where
  pub none-more : o ≡ None → Learns first new (λ V. HasNoneInBlocks V b (j + 1))
  none-more bare = learns-then first old new _ _ before one _ (λ V m none here i low. by V none (subst (λ n. IsEntryOfBlock V n None) is (subst (IsEntryOfBlock V number) bare here)) i (cases_eq i j) low)
    where
      by : (V : View) → HasNoneInBlocks V b j → IsEntryOfBlock V (number_of b j) None → (i : ℕ) → (i ≡ j) ⊎ (i ≡ j → ⊥) → i < j + 1 → IsEntryOfBlock V (number_of b i) None
      by V none here i (inl same) low = subst (λ i. IsEntryOfBlock V (number_of b i) None) (sym same) here
      by V none here i (inr other) low = none i (omega (arith, other, low))

  pub one-found : (m : ℕ) → o ≡ Some m → Learns first new (λ V. IsEntryOfBlocks V b count (Some m))
  one-found m some = learns-then first old new _ _ before one _ (λ V m2 none here. record { j = j; is = subst (λ n. IsEntryOfBlock V n (Some m)) is (subst (IsEntryOfBlock V number) some here) })

-- and in all its blocks
pub entry-of : (first old new : View → Type 0) (h : Head) (b : BlockNumbers) (count : ℕ) (o : Option ℕ) → count ≡ block_count h → Learns first old (λ V. HasBlocks V h b) → Learns old new (λ V. IsEntryOfBlocks V b count o) → Learns first new (λ V. Rattle.journal_treecalls.specs.Directories.IsEntryOf V h o)
entry-of first old new h b count o count_is l k = learns-then first old new _ _ l k _ (λ V m has found. by V has o found)
  where
    by : (V : View) → HasBlocks V h b → (o : Option ℕ) → IsEntryOfBlocks V b count o → Rattle.journal_treecalls.specs.Directories.IsEntryOf V h o
    by V has None none = λ j low. subst (λ n. IsEntryOfBlock V n None) (has j) (none j (subst (λ n. j < n) (sym count_is) low))
    by V has (Some m) e = record { j = e.j; is = subst (λ n. IsEntryOfBlock V n (Some m)) (has e.j) e.is }

-- ── what it says of the tree ──

-- its blocks, whatever its name
pub own-blocks : (V : View) (h : Head) (name : List ℕ) (j : ℕ) → directory_block V (held_of h name) j ≡ (block_of V h j).number
own-blocks V h name j = directory-frame V V (held_of h name) (held_of h []) j (same-named V h name [] j)

home-inode : (V : View) (m : ℕ) (home : Home) → homes V m ≡ Some home → (g : Held) × (V.inode m ≡ used g) × (g.home ≡ home)
home-inode V m home is = by (V.inode m) refl
  where
    by : (x : Seen) → V.inode m ≡ x → (g : Held) × (V.inode m ≡ used g) × (g.home ≡ home)
    by (free f) at = absurd (cc (sym (ap home_in at) ∙ is))
    by (used g) at = let e : Some g.home ≡ Some home = sym (ap home_in at) ∙ is in (g, at, cc)

module _ (V : View) (sound : IsSoundView V) (n : ℕ) (g : Held) (is : V.inode n ≡ used g) where
  -- where no place has an entry, nothing hangs
  pub nothing-hangs : ((place : ℕ) → (entry_at V n place).number ≡ 0) → is_some (find_any (tree_of V) n) ≡ false
  nothing-hangs bare = by (find_any (tree_of V) n) refl
    where
      impossible : (m : ℕ) → find_any (tree_of V) n ≡ Some m → ⊥
      impossible m at = used_some V sound m inode.0 inode.1 (sym (ap (λ (e : Entry). e.number) e) ∙ bare inode.0.home.place)
        where
          f : (x : Node) × (((tree_of V).at m).node ≡ Some x) × (hangs_in n x ≡ true) × (m < V.numbers)
          f = found_node (hangs_in n) (tree_of V) m at

          inode : (h : Held) × (V.inode m ≡ used h) × (node_of V h ≡ f.0)
          inode = node-inode V m f.0 f.1

          directory : inode.0.home.directory ≡ n
          directory = ap (λ (x : Node). x.home.directory) inode.2 ∙ eqb-true f.0.home.directory n f.2

          e : entry_at V n inode.0.home.place ≡ entry_for m inode.0.home
          e = entry_of_node V sound n m g inode.0 is inode.1 directory

      by : (f : Option ℕ) → find_any (tree_of V) n ≡ f → is_some f ≡ false
      by None at = refl
      by (Some m) at = absurd (impossible m at)

  -- where one has, something does
  pub something-hangs : (place : ℕ) → (entry_at V n place).number ≢ 0 → is_some (find_any (tree_of V) n) ≡ true
  something-hangs place some = by (find_any (tree_of V) n) refl
    where
      o : IsEntryOf (homes V) sound.hung.second n place (entry_at V n place)
      o = sound.hung.back n place some

      inode : (h : Held) × (V.inode (entry_at V n place).number ≡ used h) × (h.home ≡ o.home)
      inode = home-inode V (entry_at V n place).number o.home o.is

      node : ((tree_of V).at (entry_at V n place).number).node ≡ Some (node_of V inode.0)
      node = inode-node V (entry_at V n place).number inode.0 inode.1

      directory : inode.0.home.directory ≡ n
      directory = ap (λ (h : Home). h.directory) inode.2 ∙ o.directory

      by : (f : Option ℕ) → find_any (tree_of V) n ≡ f → is_some f ≡ true
      by None at = absurd (find_any-none (tree_of V) n (entry_at V n place).number (node_of V inode.0) at (low (tree_of V) (entry_at V n place).number (node_of V inode.0) sound.tree node) node directory)
      by (Some k) at = refl

  module _ (kind : g.kind ≡ Directory) (h : Head) (size : h.size ≡ g.size) (blocks : (j : ℕ) → directory_block V g j ≡ (block_of V h j).number) where
    -- the entry of a place lies in a block, or is none
    hole : (place : ℕ) → directory_block V g (place / 512) ≡ 0 → entry_at V n place ≡ no_entry
    hole place empty =
        ap (λ y. entry_of V y place) is
        ∙ ap (λ kind. entry_by V kind g place) kind
        ∙ ap (λ b. entry_in V b (place % 512)) empty

    there : (place : ℕ) → directory_block V g (place / 512) ≢ 0 → entry_at V n place ≡ entry_from (V.block (directory_block V g (place / 512))) (place % 512)
    there place some =
        ap (entry_at V n) (let e : place ≡ 512 * (place / 512) + place % 512 = omega arith in e)
        ∙ entry-there V n g (place / 512) (place % 512) is kind some (omega arith)

    -- a block that is there is counted
    counted : (j : ℕ) → directory_block V g j ≢ 0 → j < block_count h
    counted j some = by (cases_lt (4096 * j) g.size)
      where
        low : j < 388
        low = (at-directory V g j some).1

        whole : (blocks : ℕ) × (g.size ≡ 4096 * blocks)
        whole = (sound.inodes n g is).whole kind

        by : (4096 * j < g.size) ⊎ (g.size ≤ 4096 * j) → j < block_count h
        by (inl before) = let l = low in let w = whole.1 in omega (arith, before, l, w, size)
        by (inr after) = absurd (some (directory-after V n g (sound.inodes n g is) j after))

    -- no block has an entry
    pub all-bare : HasNone V h → (place : ℕ) → (entry_at V n place).number ≡ 0
    all-bare none place = by (cases_eq (directory_block V g (place / 512)) 0)
      where
        by : (directory_block V g (place / 512) ≡ 0) ⊎ (directory_block V g (place / 512) ≡ 0 → ⊥) → (entry_at V n place).number ≡ 0
        by (inl empty) = ap (λ (e : Entry). e.number) (hole place empty)
        by (inr some) =
            ap (λ (e : Entry). e.number) (there place some)
            ∙ ap (λ b. (entry_from (V.block b) (place % 512)).number) (blocks (place / 512))
            ∙ none (place / 512) (counted (place / 512) some) (λ z. some (blocks (place / 512) ∙ z)) (place % 512) (omega arith)

    -- and the bytes of its places are zero
    pub all-blank : HasNone V h → (place : ℕ) → entry_of V (used g) place ≡ no_entry
    all-blank none place = sym (ap (λ y. entry_of V y place) is) ∙ sound.hung.blank n place (all-bare none place)

    -- one has
    pub one-hangs : (m : ℕ) → HasEntry V h m → is_some (find_any (tree_of V) n) ≡ true
    one-hangs m e = something-hangs (512 * e.j + e.is.1.at) (λ z. e.is.1.some (sym e.is.1.is ∙ sym entry ∙ z))
      where
        some : directory_block V g e.j ≢ 0
        some z = e.is.0 (sym (blocks e.j) ∙ z)

        entry : (entry_at V n (512 * e.j + e.is.1.at)).number ≡ (entry_from (V.block (block_of V h e.j).number) e.is.1.at).number
        entry =
            ap (λ (x : Entry). x.number) (entry-there V n g e.j e.is.1.at is kind some e.is.1.low)
            ∙ ap (λ b. (entry_from (V.block b) e.is.1.at).number) (blocks e.j)
