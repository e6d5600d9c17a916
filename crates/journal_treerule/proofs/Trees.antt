-- A disk whose inodes are right, whose directories' entries are sound, and of which all that is in
-- use is reached, is sound; and what a sound disk says of these.
use Rattle.std.proofs.Common.{ℕ, ◌≡◌, ◌≢◌, ◌<◌, ◌≤◌, ◌+◌, ◌*◌, ◌/◌, ◌%◌, Bool, true, false, cond, List, [], Option, Some, None, refl, sym, ap, subst, ◌⊎◌, inl, inr, ◌∙◌, arith}
use Rattle.std.specs.Prelude.{option_map}
use Rattle.std.proofs.lemmas.Bool.{cases_eq, cases_lt, le-ltb}
use Rattle.journal_tree.specs.declared.limits.TheConstants.{ROOT, MOST_PLACES}
use Rattle.journal_tree.specs.declared.reply.Kind.{Kind}
use Rattle.journal_tree.specs.declared.reply.Kind.TheVariants.{Directory, File, Link}
use Rattle.journal_tree.specs.Trees.{Home, Node, root_home, places_of}
use Rattle.journal_tree.specs.Rule.{Stem, stem_of, stems, HasTree, IsBelow}
use Rattle.journal_tree.specs.Fit.{IsFit, HasFit}
use Rattle.journal_tree.specs.Links.{Links, IsReached, IsWithin, HangsAt, IsLinked}
use Rattle.journal_tree.specs.Links.IsReached.{the_root, by_entry}
use Rattle.journal_tree.proofs.Changing.{stem_from_node, node_from_stem}
use Rattle.journal_tree.proofs.Linking.{links-are-trees}
use Rattle.journal_treestore.specs.declared.entry.Entry.{Entry}
use Rattle.journal_treestore.specs.Entries.{no_entry, tag_of}
use Rattle.journal_treestore.specs.Levels.{IsBlockFor}
use Rattle.journal_treestore.specs.Views.{Held, Seen, View, block_at, directory_block, body_of, node_of, slot_of, tree_of, entry_in, entry_by, entry_of, entry_at, home_in, homes}
use Rattle.journal_treestore.specs.Views.Seen.{free, used}
use Rattle.journal_treestore.specs.Sound.{entry_for, IsEntryOf, IsSecondEntry, HasSecond, IsHung, IsSoundInode, IsSoundView}
use Rattle.journal_treestore.proofs.Indexing.{directory-after}
use Rattle.journal_treestore.proofs.Viewing.{node-inode, inode-node}
use Rattle.journal_treerule.specs.Parts.{IsNode, IsRightInode, AreInodesRight, IsRootHome, is_used}
use Rattle.journal_treerule.specs.Directories.{is_of_directory, is_directory, IsSecondPlace, IsEntryIn, own_entries, second_entries, IsSoundDirectory}
use Rattle.journal_treerule.specs.Walks.{number_at, links_of}
use Rattle.journal_treerule.proofs.Disks.{IsDisk}
use Rattle.journal_treerule.proofs.Seconds.{IsOwnNumber, own-number, find_second, second_at, second-is, IsFound, found-is, found-none, found-one, cases_block}
use Rattle.journal_treerule.proofs.RightInodes.{sound-inode, fit-node, directory-size}

-- ── inodes, homes and kinds ──

-- what has a home is in use
pub home-used : (V : View) (n : ℕ) (home : Home) → homes V n ≡ Some home → (h : Held) × (V.inode n ≡ used h) × (h.home ≡ home)
home-used V n home is = by (V.inode n) refl
  where
    by : (x : Seen) → V.inode n ≡ x → (h : Held) × (V.inode n ≡ used h) × (h.home ≡ home)
    by (free g) at = absurd (let e : None ≡ Some home = sym (ap home_in at) ∙ is in cc)
    by (used h) at = let e : Some h.home ≡ Some home = sym (ap home_in at) ∙ is in (h, at, cc)

pub used-is : (V : View) (n : ℕ) → is_used (V.inode n) ≡ true → (h : Held) × (V.inode n ≡ used h)
used-is V n is = by (V.inode n) refl
  where
    by : (x : Seen) → V.inode n ≡ x → (h : Held) × (V.inode n ≡ used h)
    by (free g) at = absurd (let e : false ≡ true = sym (ap is_used at) ∙ is in cc)
    by (used h) at = (h, at)

pub directory-is : (kind : Kind) → is_of_directory kind ≡ true → kind ≡ Directory
directory-is Directory is = refl
directory-is File is = absurd (let e : false ≡ true = is in cc)
directory-is Link is = absurd (let e : false ≡ true = is in cc)

pub is-directory : (V : View) (d : ℕ) (h : Held) → V.inode d ≡ used h → h.kind ≡ Directory → is_directory (V.inode d) ≡ true
is-directory V d h is kind = ap is_directory is ∙ ap is_of_directory kind

-- A directory, by its inode
pub record IsDirectoryAt (V : View) (d : ℕ) : Type 0 where
  pub held : Held
  pub is : V.inode d ≡ used held
  pub kind : held.kind ≡ Directory

-- what has an entry is a directory. Else there is none
pub entry-of-directory : (V : View) (d place : ℕ) → IsDirectoryAt V d ⊎ (entry_at V d place ≡ no_entry)
entry-of-directory V d place = by (V.inode d) refl
  where
    by_kind : (h : Held) → V.inode d ≡ used h → (kind : Kind) → h.kind ≡ kind → IsDirectoryAt V d ⊎ (entry_at V d place ≡ no_entry)
    by_kind h at Directory kind = inl (record { held = h; is = at; kind = kind })
    by_kind h at File kind = inr (ap (λ x. entry_of V x place) at ∙ ap (λ k. entry_by V k h place) kind)
    by_kind h at Link kind = inr (ap (λ x. entry_of V x place) at ∙ ap (λ k. entry_by V k h place) kind)

    by : (x : Seen) → V.inode d ≡ x → IsDirectoryAt V d ⊎ (entry_at V d place ≡ no_entry)
    by (free g) at = inr (ap (λ x. entry_of V x place) at)
    by (used h) at = by_kind h at h.kind refl

pub entry-in-block : (V : View) (d : ℕ) (x : IsDirectoryAt V d) (place : ℕ) → entry_at V d place ≡ entry_in V (directory_block V x.held (place / 512)) (place % 512)
entry-in-block V d x place = ap (λ y. entry_of V y place) x.is ∙ ap (λ k. entry_by V k x.held place) x.kind

pub no-number : (e : Entry) → e ≡ no_entry → e.number ≡ 0
no-number e is = ap (λ (e : Entry). e.number) is

inside_directory : (place size blocks : ℕ) → 4096 * (place / 512) < size → size ≡ 4096 * blocks → place < size / 8
inside_directory place size blocks low whole = omega (arith, low, whole)

few_places : (place size : ℕ) → place < size / 8 → size ≤ 1589248 → place < 198656
few_places place size low few = omega (arith, low, few)

-- a directory has no entry past the most places
pub none-far : (V : View) (d place : ℕ) → MOST_PLACES ≤ place → entry_at V d place ≡ no_entry
none-far V d place far = by (entry-of-directory V d place)
  where
    by : IsDirectoryAt V d ⊎ (entry_at V d place ≡ no_entry) → entry_at V d place ≡ no_entry
    by (inl x) = entry-in-block V d x place ∙ ap (λ t. entry_in V (cond t (block_at V x.held (place / 512)) 0) (place % 512)) (le-ltb (place / 512) 388 (omega (arith, far)))
    by (inr none) = none

module _ (V : View) (disk : IsDisk V) (right : AreInodesRight V V.numbers) where
  -- what is in use has a number of the disk, and is right
  pub low-number : (n : ℕ) (h : Held) → V.inode n ≡ used h → n < V.numbers
  low-number n h is = by (cases_lt n V.numbers)
    where
      by : (n < V.numbers) ⊎ (V.numbers ≤ n) → n < V.numbers
      by (inl low) = low
      by (inr high) = absurd (let e : free 0 ≡ used h = sym (disk.beyond n high) ∙ is in cc)

  pub right-node : (n : ℕ) (h : Held) → V.inode n ≡ used h → IsNode V n h
  right-node n h is = subst (IsRightInode V n) is (right n (low-number n h is))

  pub root-used : (h : Held) × (V.inode ROOT ≡ used h)
  root-used = by (V.inode ROOT) refl
    where
      by : (x : Seen) → V.inode ROOT ≡ x → (h : Held) × (V.inode ROOT ≡ used h)
      by (free g) at = absurd ((subst (IsRightInode V ROOT) at (right ROOT disk.rooted)).0 refl)
      by (used h) at = (h, at)

  pub zero-unused : (h : Held) → V.inode 0 ≡ used h → ⊥
  zero-unused h is = (right-node 0 h is).placed.some refl

  -- An entry lies within its directory
  pub record HasEntry (d place : ℕ) : Type 0 where
    pub directory : IsDirectoryAt V d
    pub inside : place < directory.held.size / 8
    pub few : place < MOST_PLACES

  pub has-entry : (d place : ℕ) → (entry_at V d place).number ≢ 0 → HasEntry d place
  has-entry d place some = by (entry-of-directory V d place)
    where
      by_size : (x : IsDirectoryAt V d) → (4096 * (place / 512) < x.held.size) ⊎ (x.held.size ≤ 4096 * (place / 512)) → HasEntry d place
      by_size x (inl inside) =
          let node = right-node d x.held x.is in
          let w = (sound-inode V disk d x.held node).whole x.kind in
          let low = inside_directory place x.held.size w.0 inside w.1 in
          record { directory = x; inside = low; few = few_places place x.held.size low (directory-size x.held node.within x.kind) }
      by_size x (inr after) =
          let s = sound-inode V disk d x.held (right-node d x.held x.is) in
          absurd (some (no-number (entry_at V d place) (entry-in-block V d x place ∙ ap (λ b. entry_in V b (place % 512)) (directory-after V d x.held s (place / 512) after))))

      by : IsDirectoryAt V d ⊎ (entry_at V d place ≡ no_entry) → HasEntry d place
      by (inl x) = by_size x (cases_lt (4096 * (place / 512)) x.held.size)
      by (inr none) = absurd (some (no-number (entry_at V d place) none))

  module _ (directories : (d : ℕ) → is_directory (V.inode d) ≡ true → IsSoundDirectory V d) (reached : (n : ℕ) → is_used (V.inode n) ≡ true → IsReached (links_of V) n) where
    -- what a directory with an entry is
    sound-there : (d place : ℕ) → HasEntry d place → IsSoundDirectory V d
    sound-there d place has = directories d (is-directory V d has.directory.held has.directory.is has.directory.kind)

    entry-in : (d place : ℕ) → (entry_at V d place).number ≢ 0 → IsEntryIn (homes V) d place (entry_at V d place)
    entry-in d place some = let has = has-entry d place some in ((sound-there d place has).entries.each place has.few).back some

    blank : (d place : ℕ) → (entry_at V d place).number ≡ 0 → entry_at V d place ≡ no_entry
    blank d place none = by (cases_lt place MOST_PLACES)
      where
        by_directory : place < MOST_PLACES → IsDirectoryAt V d ⊎ (entry_at V d place ≡ no_entry) → entry_at V d place ≡ no_entry
        by_directory low (inl x) = ((directories d (is-directory V d x.held x.is x.kind)).entries.each place low).blank none
        by_directory low (inr is) = is

        by : (place < MOST_PLACES) ⊎ (MOST_PLACES ≤ place) → entry_at V d place ≡ no_entry
        by (inl low) = by_directory low (entry-of-directory V d place)
        by (inr far) = none-far V d place far

    -- an entry of a node, by its number and home
    entry-is : (d place n : ℕ) (home : Home) → (entry_at V d place).number ≡ n → n ≢ 0 → homes V n ≡ Some home → (home.directory ≡ d) × (entry_at V d place ≡ entry_for n home)
    entry-is d place n home number some is = (ap (λ (h : Home). h.directory) home_is ∙ o.directory, (λ z. record { number = number z; tag = tag z }))
      where
        o : IsEntryIn (homes V) d place (entry_at V d place)
        o = entry-in d place (λ e. some (sym number ∙ e))

        home_is : home ≡ o.home
        home_is = let e : Some home ≡ Some o.home = sym is ∙ ap (homes V) (sym number) ∙ o.is in cc

        tag : (entry_at V d place).tag ≡ tag_of home.name
        tag = o.tag ∙ ap tag_of (sym (ap (λ (h : Home). h.name) home_is))

    hung : (n : ℕ) (home : Home) → homes V n ≡ Some home → n ≢ ROOT → entry_at V home.directory home.place ≡ entry_for n home
    hung n home is other = let u = home-used V n home is in by n (reached n (ap is_used u.1)) is other
      where
        by : (n : ℕ) → IsReached (links_of V) n → homes V n ≡ Some home → n ≢ ROOT → entry_at V home.directory home.place ≡ entry_for n home
        by _ the_root is other = absurd (other refl)
        by _ (by_entry d place n up stands) is other =
            ap (λ (k : ℕ). entry_at V k home.place) there.0 ∙ ap (entry_at V d) (ap (λ (h : Home). h.place) home_is ∙ own.at) ∙ there.1
          where
            own : IsOwnNumber V d place n
            own = own-number V d place n stands

            there : (home.directory ≡ d) × (entry_at V d place ≡ entry_for n home)
            there = entry-is d place n home own.number own.some is

            home_is : home ≡ own.home
            home_is = let e : Some home ≡ Some own.home = sym is ∙ own.is in cc

    stem-used : (n : ℕ) (s : Stem) → stems (tree_of V) n ≡ Some s → (h : Held) × (V.inode n ≡ used h) × (stem_of (node_of V h) ≡ s)
    stem-used n s is =
        let x = node_from_stem (tree_of V) n s is in
        let h = node-inode V n x.0 x.1 in
        (h.0, h.1, ap stem_of h.2 ∙ x.2)

    stem-is : (n : ℕ) (h : Held) → V.inode n ≡ used h → stems (tree_of V) n ≡ Some (stem_of (node_of V h))
    stem-is n h is = stem_from_node (tree_of V) n (node_of V h) (inode-node V n h is)

    root-stem : (h : Held) → V.inode ROOT ≡ used h → stem_of (node_of V h) ≡ record { home = record { directory = 0; place = 0; name = [] }; places = Some (h.size / 8) }
    root-stem h is =
        let node = right-node ROOT h is in
        let home = node.placed.home refl in
        λ z. record {
          home = record { directory = home.directory z; place = home.place z; name = home.name z };
          places = places_of (body_of V (node.placed.kind refl z) h);
        }

    zero : (x : Seen) → V.inode 0 ≡ x → stems (tree_of V) 0 ≡ None
    zero (free g) at = ap (λ (y : Seen). option_map stem_of (slot_of V y).node) at
    zero (used h) at = absurd (zero-unused h at)

    within : (d place n : ℕ) → number_at V d place ≡ Some n → IsWithin (links_of V) d place
    within d place n stands =
        let own = own-number V d place n stands in
        let has = has-entry d place (λ e. own.some (sym own.number ∙ e)) in
        let h = has.directory.held in
        (stem_of (node_of V h), h.size / 8, stem-is d h has.directory.is, ap (λ kind. places_of (body_of V kind h)) has.directory.kind, has.inside)

    hangs : (d place n : ℕ) → number_at V d place ≡ Some n → HangsAt (links_of V) n d place
    hangs d place n stands =
        let own = own-number V d place n stands in
        let there = entry-is d place n own.home own.number own.some own.is in
        let u = home-used V n own.home own.is in (
          stem_of (node_of V u.0),
          stem-is n u.0 u.1,
          ap (λ (h : Home). h.directory) u.2 ∙ there.0,
          ap (λ (h : Home). h.place) u.2 ∙ own.at,
        )

    -- the entry of a node that is not the root, at the place of its home
    name-at : (n : ℕ) (h : Held) → V.inode n ≡ used h → n ≢ ROOT → (entry_at V h.home.directory h.home.place).number ≡ n
    name-at n h is other = ap (λ (e : Entry). e.number) (hung n h.home (ap home_in is) other)

    has-name : (n : ℕ) (h : Held) → V.inode n ≡ used h → n ≢ ROOT → own_entries V h.home.directory h.home.place h.home.name
    has-name n h is other = record {
      names = record {
        some = λ e. (right-node n h is).placed.some (sym (name-at n h is other) ∙ e);
        home = h.home;
        is = ap (homes V) (name-at n h is other) ∙ ap home_in is;
        named = refl;
      };
      at = refl;
    }

    -- no node but the root hangs in directory 0
    not-in-zero : (n : ℕ) (h : Held) → V.inode n ≡ used h → n ≢ ROOT → h.home.directory ≡ 0 → ⊥
    not-in-zero n h is other none =
        let has = has-entry h.home.directory h.home.place (has-name n h is other).names.some in
        zero-unused has.directory.held (ap V.inode (sym none) ∙ has.directory.is)

    apart : (i j : ℕ) (g h : Held) → V.inode i ≡ used g → V.inode j ≡ used h → g.home.directory ≡ h.home.directory → g.home.name ≡ h.home.name → i ≡ j
    apart i j g h is at directory name = by (cases_eq i ROOT) (cases_eq j ROOT)
      where
        root-in-zero : (n : ℕ) (x : Held) → V.inode n ≡ used x → n ≡ ROOT → x.home.directory ≡ 0
        root-in-zero n x is e = ((right-node n x is).placed.home e).directory

        both : i ≢ ROOT → j ≢ ROOT → i ≡ j
        both other_i other_j =
            let in_i = has-name i g is other_i in
            let in_j : own_entries V g.home.directory h.home.place g.home.name
            = subst (λ (n : List ℕ). own_entries V g.home.directory h.home.place n) (sym name)
            (subst (λ (d : ℕ). own_entries V d h.home.place h.home.name) (sym directory) (has-name j h at other_j)) in
            let has_i = has-entry g.home.directory g.home.place in_i.names.some in
            let has_j = has-entry g.home.directory h.home.place in_j.names.some in
            let e = (sound-there g.home.directory g.home.place has_i).entries in
            let same = e.apart g.home.place h.home.place g.home.name has_i.few has_j.few in_i in_j in
            sym (name-at i g is other_i)
            ∙ ap (λ (p : ℕ). (entry_at V g.home.directory p).number) same
            ∙ ap (λ (d : ℕ). (entry_at V d h.home.place).number) directory
            ∙ name-at j h at other_j

        by : (i ≡ ROOT) ⊎ (i ≡ ROOT → ⊥) → (j ≡ ROOT) ⊎ (j ≡ ROOT → ⊥) → i ≡ j
        by (inl a) (inl b) = a ∙ sym b
        by (inl a) (inr b) = absurd (not-in-zero j h at b (sym directory ∙ root-in-zero i g is a))
        by (inr a) (inl b) = absurd (not-in-zero i g is a (directory ∙ root-in-zero j h at b))
        by (inr a) (inr b) = both a b

    -- ── second entries ──

    -- each entry is at its node's home, or it is the second one
    back : (d place : ℕ) → (entry_at V d place).number ≢ 0 → IsEntryOf (homes V) (second_at V) d place (entry_at V d place)
    back d place some = record { home = o.home; is = o.is; directory = o.directory; at = by o.at; tag = o.tag }
      where
        o : IsEntryIn (homes V) d place (entry_at V d place)
        o = entry-in d place some

        has : HasEntry d place
        has = has-entry d place some

        n : ℕ
        n = (entry_at V d place).number

        -- a further entry of the node is a second one of its name
        other : (q : ℕ) → (entry_at V d q).number ≡ n → q ≢ o.home.place → second_entries V d q o.home.name
        other q number apart = record {
          names = record { some = λ e. some (sym number ∙ e); home = o.home; is = ap (homes V) number ∙ o.is; named = refl };
          other = λ e. apart (sym e);
        }

        by : (o.home.place ≡ place) ⊎ IsSecondPlace o.home place → (o.home.place ≡ place) ⊎ (second_at V n ≡ Some place)
        by (inl at) = inl at
        by (inr second) = inr (
            second-is V n o.home o.is
            ∙ ap (λ (k : ℕ). find_second V k n o.home.place MOST_PLACES) o.directory
            ∙ found-one V d n o.home.place MOST_PLACES place has.few refl elsewhere
            (λ q low number apart. (sound-there d place has).entries.once q place o.home.name low has.few (other q number apart) (other place refl elsewhere))
            )
          where
            elsewhere : place ≢ o.home.place
            elsewhere e = second.needed (subst (λ p. IsBlockFor (tag_of o.home.name) (p / 512)) e second.block)

    -- a node that needs a second entry has it
    seconds : (n : ℕ) (home : Home) → homes V n ≡ Some home → n ≢ ROOT → HasSecond (entry_at V) n home (second_at V n)
    seconds n home is below = subst (HasSecond (entry_at V) n home) (sym (second-is V n home is)) (by (find_second V home.directory n home.place MOST_PLACES) refl)
      where
        u : (h : Held) × (V.inode n ≡ used h) × (h.home ≡ home)
        u = home-used V n home is

        some : n ≢ 0
        some e = (right-node n u.0 u.1).placed.some e

        number : (entry_at V home.directory home.place).number ≡ n
        number = ap (λ (e : Entry). e.number) (hung n home is below)

        own : own_entries V home.directory home.place home.name
        own = record { names = record { some = λ e. some (sym number ∙ e); home = home; is = ap (homes V) number ∙ is; named = refl }; at = refl }

        has : HasEntry home.directory home.place
        has = has-entry home.directory home.place own.names.some

        -- another entry of its name is one of the node
        same : (q : ℕ) → (x : second_entries V home.directory q home.name) → (entry_at V home.directory q).number ≡ n
        same q x =
            apart j n v.0 u.0 v.1 u.1
            (ap (λ (h : Home). h.directory) (v.2 ∙ home_is) ∙ o.directory ∙ sym (ap (λ (h : Home). h.directory) u.2))
            (ap (λ (h : Home). h.name) v.2 ∙ x.names.named ∙ sym (ap (λ (h : Home). h.name) u.2))
          where
            j : ℕ
            j = (entry_at V home.directory q).number

            o : IsEntryIn (homes V) home.directory q (entry_at V home.directory q)
            o = entry-in home.directory q x.names.some

            v : (h : Held) × (V.inode j ≡ used h) × (h.home ≡ x.names.home)
            v = home-used V j x.names.home x.names.is

            home_is : x.names.home ≡ o.home
            home_is = let e : Some x.names.home ≡ Some o.home = sym x.names.is ∙ o.is in cc

        lacking : find_second V home.directory n home.place MOST_PLACES ≡ None → (IsBlockFor (tag_of home.name) (home.place / 512) → ⊥) → ⊥
        lacking none needed =
            let x = (sound-there home.directory home.place has).seconds home.name (record { place = home.place; low = has.few; here = record { own = own; needed = needed } }) in
            found-none V home.directory n home.place MOST_PLACES none x.place x.low (same x.place x.here)
            (λ e. x.here.other (ap (λ (h : Home). h.place) (home-is x.place x.here) ∙ sym e))
          where
            home-is : (q : ℕ) → (x : second_entries V home.directory q home.name) → x.names.home ≡ home
            home-is q x = let e : Some x.names.home ≡ Some home = sym x.names.is ∙ ap (homes V) (same q x) ∙ is in cc

        by_block : find_second V home.directory n home.place MOST_PLACES ≡ None → IsBlockFor (tag_of home.name) (home.place / 512) ⊎ (IsBlockFor (tag_of home.name) (home.place / 512) → ⊥) → IsBlockFor (tag_of home.name) (home.place / 512)
        by_block none (inl block) = block
        by_block none (inr needed) = absurd (lacking none needed)

        by : (o : Option ℕ) → find_second V home.directory n home.place MOST_PLACES ≡ o → HasSecond (entry_at V) n home o
        by None none = by_block none (cases_block (tag_of home.name) (home.place / 512))
        by (Some p) found = by_place (o.at)
          where
            f : IsFound V home.directory n home.place MOST_PLACES p
            f = found-is V home.directory n home.place MOST_PLACES p found

            o : IsEntryIn (homes V) home.directory p (entry_at V home.directory p)
            o = entry-in home.directory p (λ e. some (sym f.number ∙ e))

            home_is : o.home ≡ home
            home_is = let e : Some o.home ≡ Some home = sym o.is ∙ ap (homes V) f.number ∙ is in cc

            by_place : (o.home.place ≡ p) ⊎ IsSecondPlace o.home p → IsSecondEntry (entry_at V) n home p
            by_place (inl at) = absurd (f.apart (sym at ∙ ap (λ (h : Home). h.place) home_is))
            by_place (inr second) =
                let s : IsSecondPlace home p = subst (λ h. IsSecondPlace h p) home_is second in
                record { block = s.block; is = (entry-is home.directory p n home f.number some is).1; needed = s.needed }

    linked : IsLinked (links_of V)
    linked = record {
      places = root-used.0.size / 8;
      root = stem-is ROOT root-used.0 root-used.1 ∙ ap Some (root-stem root-used.0 root-used.1);
      zero = zero (V.inode 0) refl;
      bounded = λ n s is. let u = stem-used n s is in low-number n u.0 u.1;
      within = within;
      back = hangs;
      apart = λ i j s t is at directory name.
          let g = stem-used i s is in
          let h = stem-used j t at in
          apart i j g.0 h.0 g.1 h.1
          (ap (λ (s : Stem). s.home.directory) g.2 ∙ directory ∙ sym (ap (λ (s : Stem). s.home.directory) h.2))
          (ap (λ (s : Stem). s.home.name) g.2 ∙ name ∙ sym (ap (λ (s : Stem). s.home.name) h.2));
      reached = λ n s is. let u = stem-used n s is in reached n (ap is_used u.1);
    }

    fit : HasFit (tree_of V)
    fit = record {
      nodes = λ n x is. let h = node-inode V n x is in subst IsFit h.2 (fit-node V disk n h.0 (right-node n h.0 h.1));
      born = λ n x is. let h = node-inode V n x is in let e : ((tree_of V).at n).generation ≡ h.0.generation = ap (λ (y : Seen). (slot_of V y).generation) h.1 in
          let b = (right-node n h.0 h.1).within.born in omega (arith, b, e);
      young = λ n. young n (V.inode n) refl (cases_lt n V.numbers);
    }
      where
        young : (n : ℕ) (x : Seen) → V.inode n ≡ x → (n < V.numbers) ⊎ (V.numbers ≤ n) → ((tree_of V).at n).generation ≤ 4294967295
        young n (free g) at (inl low) =
            let e : ((tree_of V).at n).generation ≡ g = ap (λ (y : Seen). (slot_of V y).generation) at in
            let r = (subst (IsRightInode V n) at (right n low)).1 in
            omega (arith, e, r)
        young n (free g) at (inr high) =
            let e : ((tree_of V).at n).generation ≡ 0 = ap (λ (y : Seen). (slot_of V y).generation) (disk.beyond n high) in omega (arith, e)
        young n (used h) at where_ =
            let e : ((tree_of V).at n).generation ≡ h.generation = ap (λ (y : Seen). (slot_of V y).generation) at in
            let y = (right-node n h at).within.young in
            omega (arith, e, y)

    pub sound-disk : IsSoundView V
    sound-disk = record {
      few_numbers = disk.numbers;
      few_blocks = disk.blocks;
      no_data = disk.first;
      tree = links-are-trees (links_of V) linked;
      fit = fit;
      inodes = λ n h is. sound-inode V disk n h (right-node n h is);
      hung = record { second = second_at V; back = back; hung = hung; seconds = seconds; blank = blank };
    }
