-- A walk that is over decides whether the disk is sound.
use Rattle.std.proofs.Common.{ℕ, ◌≡◌, ◌≢◌, ◌<◌, ◌≤◌, ◌+◌, ◌/◌, Bool, true, false, List, length, get_or, Option, Some, None, refl, sym, ap, subst, ◌⊎◌, inl, inr, ◌∙◌, arith}
use Rattle.std.specs.Prelude.{◌↔◌, Contains, IsTrue}
use Rattle.std.proofs.lemmas.Bool.{cases_eq, cases_lt, false≢true}
use Rattle.std.proofs.lemmas.List.{get_or_default}
use Rattle.journal_tree.specs.declared.limits.TheConstants.{ROOT, MOST_PLACES}
use Rattle.journal_tree.specs.declared.reply.Kind.TheVariants.{Directory}
use Rattle.journal_tree.specs.Trees.{Home, Node}
use Rattle.journal_tree.specs.Rule.{Stem, stem_of, stems, IsBelow}
use Rattle.journal_tree.specs.Rule.IsBelow.{itself, parent}
use Rattle.journal_tree.specs.Links.{IsReached}
use Rattle.journal_tree.proofs.Changing.{stem_from_node, node_from_stem}
use Rattle.journal_tree.proofs.Hanging.{one_name}
use Rattle.journal_treestore.specs.declared.entry.Entry.{Entry}
use Rattle.journal_treestore.specs.Views.{Held, Seen, View, node_of, tree_of, entry_of, entry_at, homes, home_in}
use Rattle.journal_treestore.specs.Views.Seen.{free, used}
use Rattle.journal_treestore.specs.Entries.{no_entry, tag_of}
use Rattle.journal_treestore.specs.Levels.{IsBlockFor}
use Rattle.journal_treestore.specs.Sound.{IsEntryOf, IsSecondEntry, HasSecond, IsSoundView}
use Rattle.journal_treestore.proofs.Viewing.{node-inode, inode-node, used_some}
use Rattle.journal_treerule.specs.Parts.{is_used, AreInodesRight}
use Rattle.journal_treerule.specs.Directories.{is_directory, IsSecondPlace, IsEntryIn, IsSoundEntry, HasNameOf, own_entries, needing_entries, second_entries, IsOneBelow, IsSoundDirectory}
use Rattle.journal_treerule.specs.Walks.{links_of, IsMet, IsReadThrough, HasMet, IsWalked}
use Rattle.journal_treerule.proofs.Disks.{IsDisk}
use Rattle.journal_treerule.proofs.RightInodes.{kind_of_places, root_home_is}
use Rattle.journal_treerule.proofs.Trees.{home-used, used-is, is-directory, no-number, none-far, sound-disk}

-- ── a sound disk ──

module _ (V : View) (sound : IsSoundView V) where
  -- the root has no entry
  not-root : (d place : ℕ) → (some : (entry_at V d place).number ≢ 0) → (entry_at V d place).number ≢ ROOT
  not-root d place some is = some (no-number (entry_at V d place) (entry-of-zero (V.inode 0) refl))
    where
      o : IsEntryOf (homes V) sound.hung.second d place (entry_at V d place)
      o = sound.hung.back d place some

      u : (h : Held) × (V.inode (entry_at V d place).number ≡ used h) × (h.home ≡ o.home)
      u = home-used V (entry_at V d place).number o.home o.is

      zero : 0 ≡ d
      zero = sym (root_home_is V sound (entry_at V d place).number u.0 u.1 is).directory ∙ ap (λ (h : Home). h.directory) u.2 ∙ o.directory

      entry-of-zero : (x : Seen) → V.inode 0 ≡ x → entry_at V d place ≡ no_entry
      entry-of-zero (free g) at = ap (λ (k : ℕ). entry_at V k place) (sym zero) ∙ ap (λ x. entry_of V x place) at
      entry-of-zero (used h) at = absurd (used_some V sound 0 h at refl)

  -- where the second entry of a node is
  second-there : (d place : ℕ) → (some : (entry_at V d place).number ≢ 0) → (home : Home) → homes V (entry_at V d place).number ≡ Some home → HasSecond (entry_at V) (entry_at V d place).number home (sound.hung.second (entry_at V d place).number)
  second-there d place some home is = sound.hung.seconds (entry_at V d place).number home is (not-root d place some)

  -- two entries of a name are of one node
  one-number : (d p q : ℕ) (name : List ℕ) → HasNameOf (homes V) (entry_at V d p) name → HasNameOf (homes V) (entry_at V d q) name → (entry_at V d p).number ≡ (entry_at V d q).number
  one-number d p q name a b =
      one_name (tree_of V) i j (node_of V g.0) (node_of V h.0) sound.tree (inode-node V i g.0 g.1) (inode-node V j h.0 h.1)
      (ap (λ (x : Home). x.directory) (g.2 ∙ home_a) ∙ o.directory ∙ sym (ap (λ (x : Home). x.directory) (h.2 ∙ home_b) ∙ t.directory))
      (ap (λ (x : Home). x.name) g.2 ∙ a.named ∙ sym (ap (λ (x : Home). x.name) h.2 ∙ b.named))
    where
      i : ℕ
      i = (entry_at V d p).number

      j : ℕ
      j = (entry_at V d q).number

      o : IsEntryOf (homes V) sound.hung.second d p (entry_at V d p)
      o = sound.hung.back d p a.some

      t : IsEntryOf (homes V) sound.hung.second d q (entry_at V d q)
      t = sound.hung.back d q b.some

      home_a : a.home ≡ o.home
      home_a = let e : Some a.home ≡ Some o.home = sym a.is ∙ o.is in cc

      home_b : b.home ≡ t.home
      home_b = let e : Some b.home ≡ Some t.home = sym b.is ∙ t.is in cc

      g : (h : Held) × (V.inode i ≡ used h) × (h.home ≡ a.home)
      g = home-used V i a.home a.is

      h : (h : Held) × (V.inode j ≡ used h) × (h.home ≡ b.home)
      h = home-used V j b.home b.is

  -- its second entry is at the place that the rule has for it
  second-place : (d p : ℕ) (name : List ℕ) → second_entries V d p name → sound.hung.second (entry_at V d p).number ≡ Some p
  second-place d p name x = by o.at
    where
      o : IsEntryOf (homes V) sound.hung.second d p (entry_at V d p)
      o = sound.hung.back d p x.names.some

      home_is : x.names.home ≡ o.home
      home_is = let e : Some x.names.home ≡ Some o.home = sym x.names.is ∙ o.is in cc

      by : (o.home.place ≡ p) ⊎ (sound.hung.second (entry_at V d p).number ≡ Some p) → sound.hung.second (entry_at V d p).number ≡ Some p
      by (inl at) = absurd (x.other (ap (λ (h : Home). h.place) home_is ∙ at))
      by (inr second) = second

  entry-sound : (d place : ℕ) → IsSoundEntry (homes V) d place (entry_at V d place)
  entry-sound d place = record { blank = sound.hung.blank d place; back = back }
    where
      back : (entry_at V d place).number ≢ 0 → IsEntryIn (homes V) d place (entry_at V d place)
      back some = record { home = o.home; is = o.is; directory = o.directory; at = by o.at; tag = o.tag }
        where
          o : IsEntryOf (homes V) sound.hung.second d place (entry_at V d place)
          o = sound.hung.back d place some

          by : (o.home.place ≡ place) ⊎ (sound.hung.second (entry_at V d place).number ≡ Some place) → (o.home.place ≡ place) ⊎ IsSecondPlace o.home place
          by (inl at) = inl at
          by (inr second) =
              let s : IsSecondEntry (entry_at V) (entry_at V d place).number o.home place
              = subst (HasSecond (entry_at V) (entry_at V d place).number o.home) second (second-there d place some o.home o.is) in
              inr (record { block = s.block; needed = s.needed })

  -- its directories are sound
  pub directory-sound : (d : ℕ) → IsSoundDirectory V d
  directory-sound d = record {
    entries = record {
      each = λ place low. entry-sound d place;
      apart = λ p q name low_p low_q a b. sym a.at ∙ ap (λ (h : Home). h.place) (one_home p q name a.names b.names) ∙ b.at;
      once = λ p q name low_p low_q a b. once p q name a b;
    };
    seconds = λ name x. has name x;
  }
    where
      one_home : (p q : ℕ) (name : List ℕ) → (a : HasNameOf (homes V) (entry_at V d p) name) → (b : HasNameOf (homes V) (entry_at V d q) name) → a.home ≡ b.home
      one_home p q name a b = let e : Some a.home ≡ Some b.home = sym a.is ∙ ap (homes V) (one-number d p q name a b) ∙ b.is in cc

      once : (p q : ℕ) (name : List ℕ) → second_entries V d p name → second_entries V d q name → p ≡ q
      once p q name a b = let e : Some p ≡ Some q = sym (second-place d p name a) ∙ ap sound.hung.second (one-number d p q name a.names b.names) ∙ second-place d q name b in cc

      has : (name : List ℕ) → IsOneBelow (needing_entries V d) MOST_PLACES name → IsOneBelow (second_entries V d) MOST_PLACES name
      has name x = by (sound.hung.second n) (second-there d x.place own.names.some own.names.home own.names.is)
        where
          own : own_entries V d x.place name
          own = x.here.own

          n : ℕ
          n = (entry_at V d x.place).number

          directory : own.names.home.directory ≡ d
          directory =
              let o = sound.hung.back d x.place own.names.some in
              let e : Some own.names.home ≡ Some o.home = sym own.names.is ∙ o.is in
              let q : own.names.home ≡ o.home = cc in
              ap (λ (h : Home). h.directory) q ∙ o.directory

          by : (o : Option ℕ) → HasSecond (entry_at V) n own.names.home o → IsOneBelow (second_entries V d) MOST_PLACES name
          by None block = absurd (x.here.needed (subst (λ (p : ℕ). IsBlockFor (tag_of name) (p / 512)) own.at (subst (λ (t : List ℕ). IsBlockFor (tag_of t) (own.names.home.place / 512)) own.names.named block)))
          by (Some q) s = record { place = q; low = low (cases_lt q MOST_PLACES); here = there }
            where
              number : (entry_at V d q).number ≡ n
              number = ap (λ (k : ℕ). (entry_at V k q).number) (sym directory) ∙ ap (λ (e : Entry). e.number) s.is

              low : (q < MOST_PLACES) ⊎ (MOST_PLACES ≤ q) → q < MOST_PLACES
              low (inl inside) = inside
              low (inr far) = absurd (own.names.some (sym number ∙ no-number (entry_at V d q) (none-far V d q far)))

              there : second_entries V d q name
              there = record {
                names = record { some = λ e. own.names.some (sym number ∙ e); home = own.names.home; is = ap (homes V) number ∙ own.names.is; named = own.names.named };
                other = λ e. s.needed (subst (λ (p : ℕ). IsBlockFor (tag_of own.names.home.name) (p / 512)) (sym e) s.block);
              }

-- ── a walk that is over ──

module _ (V : View) (disk : IsDisk V) (right : AreInodesRight V V.numbers) (ws : List Bool) (q : List ℕ) (done : ℕ) (w : IsWalked V ws q done) (over : length q ≤ done) where
  -- a directory that does not wait any more was read
  was-read : (d : ℕ) → is_used (V.inode d) ≡ true → is_directory (V.inode d) ≡ true → get_or ws d false ≡ false → IsReadThrough V ws d
  was-read d is dir clear =
      let has = (w.met.met d is clear).queued dir in
      let inside : has.0 < length q = has.1 in
      subst (IsReadThrough V ws) (get_or_default q has.0 0 d inside ∙ has.2) (w.read has.0 (omega (arith, inside, over)) inside)

  directory-used : (d : ℕ) → is_directory (V.inode d) ≡ true → is_used (V.inode d) ≡ true
  directory-used d dir = by (V.inode d) refl
    where
      by : (x : Seen) → V.inode d ≡ x → is_used (V.inode d) ≡ true
      by (free g) at = absurd (false≢true (sym (ap is_directory at) ∙ dir))
      by (used h) at = ap is_used at

  -- nothing waits: the disk is sound
  pub walk-decides : ((n : ℕ) → get_or ws n false ≡ false) → IsSoundView V
  walk-decides none = sound-disk V disk right
      (λ d dir. (was-read d (directory-used d dir) dir (none d)).sound)
      (λ n is. (w.met.met n is (none n)).reached)

  -- and of a sound disk nothing waits
  module _ (sound : IsSoundView V) where
    -- the stem of a directory is that of an inode of a directory
    directory-of : (d places : ℕ) (t : Stem) → stems (tree_of V) d ≡ Some t → t.places ≡ Some places → (is_used (V.inode d) ≡ true) × (is_directory (V.inode d) ≡ true)
    directory-of d places t is has =
        let x = node_from_stem (tree_of V) d t is in
        let h = node-inode V d x.0 x.1 in
        let kind : h.0.kind ≡ Directory = kind_of_places V h.0 h.0.kind places (ap (λ (y : Node). (stem_of y).places) h.2 ∙ ap (λ (s : Stem). s.places) x.2 ∙ has) in
        (ap is_used h.1, is-directory V d h.0 h.1 kind)

    below : (n : ℕ) → IsBelow (stems (tree_of V)) ROOT n → get_or ws n false ≡ false
    below _ itself = w.root
    below _ (parent n s is up) = by (cases_eq n ROOT) (below s.home.directory up)
      where
        by : (n ≡ ROOT) ⊎ (n ≡ ROOT → ⊥) → get_or ws s.home.directory false ≡ false → get_or ws n false ≡ false
        by (inl e) clear = ap (λ k. get_or ws k false) e ∙ w.root
        by (inr other) clear =
            let has = sound.tree.hangs n s is other in
            let dir = directory-of s.home.directory has.1 has.0 has.2 has.3 in
            let read = was-read s.home.directory dir.0 dir.1 clear in
            let x = node_from_stem (tree_of V) n s is in
            let h = node-inode V n x.0 x.1 in
            let home : h.0.home ≡ s.home = ap (λ (y : Node). y.home) h.2 ∙ ap (λ (t : Stem). t.home) x.2 in
            let number : (entry_at V s.home.directory s.home.place).number ≡ n
            = ap (λ (e : Entry). e.number) (sound.hung.hung n s.home (ap home_in h.1 ∙ ap Some home) other) in
            let few : s.home.place < MOST_PLACES = subst (λ (t : Home). t.place < MOST_PLACES) (ap (λ (t : Stem). t.home) x.2) (sound.fit.nodes n x.0 x.1).place in
            ap (λ k. get_or ws k false) (sym number)
            ∙ read.met s.home.place s.home.name few (record {
              names = record { some = λ e. used_some V sound n h.0 h.1 (sym number ∙ e); home = s.home; is = ap (homes V) number ∙ ap home_in h.1 ∙ ap Some home; named = refl };
              at = refl;
            })

    pub none-waits : (n : ℕ) → get_or ws n false ≡ false
    none-waits n = by (get_or ws n false) refl
      where
        by : (b : Bool) → get_or ws n false ≡ b → get_or ws n false ≡ false
        by false is = is
        by true is =
            let h = used-is V n (w.met.waits n is) in
            below n (sound.tree.leads n (stem_of (node_of V h.0)) (stem_from_node (tree_of V) n (node_of V h.0) (inode-node V n h.0 h.1)))

-- a walk that is over answers whether nothing waits
pub walk-answers : (V : View) → IsDisk V → AreInodesRight V V.numbers → (ws : List Bool) (q : List ℕ) (done : ℕ) → IsWalked V ws q done → length q ≤ done → (b : Bool) → (IsTrue b ↔ ((n : ℕ) → get_or ws n false ≡ false)) → IsTrue b ↔ IsSoundView V
walk-answers V disk right ws q done w over b answer = (
  (λ is. walk-decides V disk right ws q done w over (answer.0 is)),
  (λ sound. answer.1 (none-waits V disk right ws q done w over sound)),
)
