-- Each step of a call: its knowledge after it.
use Rattle.std.proofs.Common.{◌≡◌, ◌≢◌, ℕ, ◌≤◌, Bool, true, false, cond, List, [], Option, Some, None, Ok, Err, refl, sym, ap, subst, ◌∙◌}
use Rattle.std.specs.Prelude.{Result, IfOk, ◌==◌, not}
use Rattle.std.proofs.lemmas.Bool.{eqb-true, eqb-false, eq-eqb, and_parts, false≢true}
use Rattle.journal_tree.specs.declared.time.Time.{Time}
use Rattle.journal_tree.specs.declared.reply.Found.{Found}
use Rattle.journal_tree.specs.declared.reply.Handle.{Handle}
use Rattle.journal_tree.specs.declared.reply.Told.{Told}
use Rattle.journal_tree.specs.declared.reply.Kind.{Kind}
use Rattle.journal_tree.specs.declared.reply.Kind.TheVariants.{Directory, File, Link}
use Rattle.journal_tree.specs.declared.caller.Caller.{Caller}
use Rattle.journal_tree.specs.declared.name.NameKind.{NameKind}
use Rattle.journal_tree.specs.declared.name.NameKind.TheVariants.{Dot, DotDot, NoName, LongName, Name}
use Rattle.journal_tree.specs.declared.status.Status.{Status}
use Rattle.journal_tree.specs.declared.status.Status.TheVariants.{NoEntry, Stale, Invalid, NameTooLong}
use Rattle.journal_tree.specs.Rights.{may_search}
use Rattle.journal_tree.specs.Calls.{refused, told, name_kind, on_found, some_node}
use Rattle.journal_tree.specs.Names.{found, lookup_name}
use Rattle.journal_tree.specs.Op.Call.{getattr, access, lookup}
use Rattle.journal_tree.specs.Op.Reply.{got, accessed, found as found_reply}
use Rattle.journal_treestore.specs.declared.entry.Entry.{Entry}
use Rattle.journal_treestore.specs.declared.inode.Head.{Head}
use Rattle.journal_treestore.specs.declared.inode.Inode.{Inode}
use Rattle.journal_treestore.specs.declared.inode.Inode.TheVariants.{Free, Used}
use Rattle.journal_treestore.specs.Entries.{entry_from, tag_of}
use Rattle.journal_treestore.specs.Inodes.{inode_from, name_from}
use Rattle.journal_treestore.specs.Views.{Held, Seen, View, held_of, seen, node_of, slot_of, tree_of}
use Rattle.journal_treestore.specs.Views.Seen.{free, used}
use Rattle.journal_treestore.specs.Sound.{IsSoundView}
use Rattle.journal_treestore.proofs.Viewing.{inode-node}
use Rattle.journal_treecalls.specs.declared.node.Record.{Record}
use Rattle.journal_treecalls.specs.declared.search.Hit.{Hit}
use Rattle.journal_treecalls.specs.declared.search.DirectoryBlock.{DirectoryBlock}
use Rattle.journal_treecalls.specs.Fetches.{file_index}
use Rattle.journal_treecalls.specs.declared.attributes.AccessReply.{AccessReply}
use Rattle.journal_treecalls.specs.Disks.{Write, inode_seen, Learns, Does}
use Rattle.journal_treecalls.specs.Targets.{held, IsInode, IsNode, IsTarget, current_of, told_of, IsDirectoryFor, directory_by, directory_of, NamedBy, HasName, IsHitOf, IsHitAt, has_tag, HitsIn, HitsBlock, HitsFirst, HitsNumbers, HitsLevels, Hits}
use Rattle.journal_treecalls.specs.Targets.IsUnsearched.{stale, other_kind, no_right}
use Rattle.journal_treecalls.specs.Replies.{access_of, access_told, found_of, number_above, LooksUp, LooksUpParent, LooksUpName}
use Rattle.journal_treecalls.proofs.Learning.{learns-as, learns-then, does-reads}
use Rattle.journal_treecalls.proofs.Cases.{target-free, target-old, target-high, told-is}
use Rattle.journal_treecalls.proofs.Reading.{getattr-gone, getattr-node, access-gone, access-node, lookup-unsearched, lookup-searched}
use Rattle.journal_treecalls.proofs.Searching.{levels-by, levels-none, hits-first, hits-all, hit-found, hit-missed}

-- each disk that may be there is sound
abbrev pub AreSound : (View → Type 0) → Type 0
AreSound may = (V : View) → may V → IsSoundView V

pub IfOk-like : {A B : Type 0} (r : Result A B) (P Q : A → Type 0) → ((x : A) → P x → Q x) → IfOk r P → IfOk r Q
IfOk-like (Ok x) P Q f p = f x p
IfOk-like (Err e) P Q f p = p

pub IfOk-both : {A B : Type 0} (r : Result A B) (P Q R : A → Type 0) → ((x : A) → P x → Q x → R x) → IfOk r P → IfOk r Q → IfOk r R
IfOk-both (Ok x) P Q R f p q = f x p q
IfOk-both (Err e) P Q R f p q = p

module _ (old new : View → Type 0) where
  -- ── an inode ──

  abbrev Reads : ℕ → List ℕ → Type 0
  Reads n bytes = Learns old new (λ V. V.inode n ≡ inode_seen bytes)

  pub inode-is : (n : ℕ) (bytes : List ℕ) (x : Inode) → Reads n bytes → x ≡ inode_from bytes → Learns old new (λ V. IsInode V n x)
  inode-is n bytes x l is = learns-as old new _ _ l (λ V m at. (name_from bytes, at ∙ ap (λ x. seen x (name_from bytes)) (sym is)))

  used-is : (V : View) (n : ℕ) (bytes : List ℕ) (x : Inode) (head : Head) → V.inode n ≡ inode_seen bytes → x ≡ inode_from bytes → x ≡ Used head → V.inode n ≡ used (held_of head (name_from bytes))
  used-is V n bytes x head at is kind = at ∙ ap (λ x. seen x (name_from bytes)) (sym is ∙ kind)

  free-is : (V : View) (n : ℕ) (bytes : List ℕ) (x : Inode) (g : ℕ) → V.inode n ≡ inode_seen bytes → x ≡ inode_from bytes → x ≡ Free g → V.inode n ≡ free g
  free-is V n bytes x g at is kind = at ∙ ap (λ x. seen x (name_from bytes)) (sym is ∙ kind)

  -- ── the node of a handle ──

  pub node-used : (h : Handle) (bytes : List ℕ) (x : Inode) (head : Head) (found : Option Record) → Reads h.number bytes → x ≡ inode_from bytes → x ≡ Used head → found ≡ current_of head bytes h
      → Learns old new (λ V. IsTarget V h found)
  node-used h bytes x head found l is kind current = learns-as old new _ _ l (λ V m at. subst (IsTarget V h) (sym current) (by V (used-is V h.number bytes x head at is kind) (head.generation == h.generation) refl))
    where
      by : (V : View) → V.inode h.number ≡ used (held_of head (name_from bytes)) → (b : Bool) → (head.generation == h.generation) ≡ b → IsTarget V h (cond b (Some (record { head = head; bytes = bytes })) None)
      by V at true same = record { is = at; current = eqb-true head.generation h.generation same }
      by V at false other = target-old V h (held_of head (name_from bytes)) at (eqb-false head.generation h.generation other)

  pub node-free : (h : Handle) (bytes : List ℕ) (x : Inode) (g : ℕ) → Reads h.number bytes → x ≡ inode_from bytes → x ≡ Free g → Learns old new (λ V. IsTarget V h None)
  node-free h bytes x g l is kind = learns-as old new _ _ l (λ V m at. target-free V h g (free-is V h.number bytes x g at is kind))

  -- ── a directory that is searched ──

  pub directory-for : (V : View) (c : Caller) (h : Handle) (r : Record) → IsNode V h r → (k : Kind) (b : Bool) → r.head.kind ≡ k → may_search c r.head.attributes ≡ b → IsDirectoryFor V c h (directory_by k b r)
  directory-for V c h r n File b kind may = other_kind r n (λ e. absurd (cc (sym kind ∙ e)))
  directory-for V c h r n Link b kind may = other_kind r n (λ e. absurd (cc (sym kind ∙ e)))
  directory-for V c h r n Directory true kind may = record { node = n; kind = kind; may = may }
  directory-for V c h r n Directory false kind may = no_right r n kind may

  module _ (h : Handle) (found : Option Record) (l : Learns old new (λ V. IsTarget V h found)) where
    pub searched-none : (c : Caller) → found ≡ None → Learns old new (λ V. IsDirectoryFor V c h (Err Stale))
    searched-none c is = learns-as old new _ _ l (λ V m t. stale (subst (IsTarget V h) is t))

    pub searched-some : (c : Caller) (r : Record) (result : Result Record Status) → found ≡ Some r → result ≡ directory_of c r → Learns old new (λ V. IsDirectoryFor V c h result)
    searched-some c r result is by = learns-as old new _ _ l (λ V m t. subst (IsDirectoryFor V c h) (sym by) (directory-for V c h r (subst (IsTarget V h) is t) r.head.kind (may_search c r.head.attributes) refl refl))

    -- ── GETATTR and ACCESS ──

    module _ (ws : List Write) (none : ws ≡ []) (sound : AreSound new) (c : Caller) (now : Time) where
      pub getattr-none : found ≡ None → Does new ws (getattr h) c now (got (Err Stale))
      getattr-none is = does-reads new ws (getattr h) c now (got (Err Stale)) none sound (λ V m. getattr-gone V h c now (subst (IsTarget V h) is (l.now V m)))

      pub getattr-some : (r : Record) (t : Told) → found ≡ Some r → t ≡ told_of h.number r.head → Does new ws (getattr h) c now (got (Ok t))
      getattr-some r t is tells = subst (λ t. Does new ws (getattr h) c now (got (Ok t))) (sym tells)
          (does-reads new ws (getattr h) c now (got (Ok (told_of h.number r.head))) none sound (λ V m. getattr-node V h c now r (sound V m) (subst (IsTarget V h) is (l.now V m))))

      pub access-none : (asked : ℕ) → found ≡ None → Does new ws (access h asked) c now (accessed (access_told (Err Stale)))
      access-none asked is = does-reads new ws (access h asked) c now (accessed (Err Stale)) none sound (λ V m. access-gone V h c now asked (subst (IsTarget V h) is (l.now V m)))

      pub access-some : (asked : ℕ) (r : Record) (t : AccessReply) → found ≡ Some r → t ≡ access_of c h.number r.head asked → Does new ws (access h asked) c now (accessed (access_told (Ok t)))
      access-some asked r t is tells = subst (λ t. Does new ws (access h asked) c now (accessed (access_told (Ok t)))) (sym tells)
          (does-reads new ws (access h asked) c now (accessed (access_told (Ok (access_of c h.number r.head asked)))) none sound (λ V m. access-node V h c now asked r (sound V m) (subst (IsTarget V h) is (l.now V m))))
      -- the number is that of no inode

pub node-high : (may : View → Type 0) → AreSound may → (h : Handle) (count number : ℕ) → ((V : View) → may V → V.numbers ≡ count) → number ≡ h.number → count ≤ number → Learns may may (λ V. IsTarget V h None)
node-high may sound h count number counts is high = record {
  before = λ V m. m;
  now = λ V m. target-high V h (sound V m) (subst (λ n. n ≤ h.number) (sym (counts V m)) (subst (λ k. count ≤ k) is high));
}

-- ── LOOKUP ──

module _ (old new : View → Type 0) (sound : AreSound new) (d : ℕ) (r : Record) where
  told-directory : (V : View) → IsSoundView V → V.inode d ≡ used (held r) → told d (node_of V (held r)) ≡ told_of d r.head
  told-directory V s is = told-is V d (held r) (s.inodes d (held r) is)

  -- a node that is there is told
  found-is : (V : View) (n : ℕ) (x : Held) (head : Head) (own : List ℕ) → IsSoundView V → V.inode d ≡ used (held r) → V.inode n ≡ used (held_of head own)
      → found (tree_of V) d (node_of V (held r)) n (node_of V (held_of head own)) ≡ (Ok (found_of d r.head n head), tree_of V)
  found-is V n x head own s is at = λ i. (
    Ok (record {
      generation = (slot_of V (at i)).generation;
      node = told-is V n (held_of head own) (s.inodes n (held_of head own) at) i;
      directory = told-directory V s is i;
    }),
    tree_of V,
  )

  pub parent-used : (above : ℕ) (x : Inode) (head : Head) (reply : Found) → Learns old new (λ V. IsInode V above x) → x ≡ Used head → above ≡ number_above d r → reply ≡ found_of d r.head above head
      → Learns old new (λ V. LooksUpParent V d r (Ok reply))
  parent-used above x head reply l kind is tells = learns-as old new _ _ l (λ V m at is_d dir.
      let here : V.inode above ≡ used (held_of head at.0) = at.1 ∙ ap (λ x. seen x at.0) kind in
      ap (λ n. on_found (tree_of V) (Some n) (refused NoEntry (tree_of V)) (found (tree_of V) d (node_of V (held r)))) (sym is)
      ∙ ap (λ o. some_node o (refused NoEntry (tree_of V)) (found (tree_of V) d (node_of V (held r)) above)) (inode-node V above (held_of head at.0) here)
      ∙ found-is V above (held_of head at.0) head at.0 (sound V m) is_d here
      ∙ ap (λ t. (Ok t, tree_of V)) (sym tells))

  pub parent-free : (above : ℕ) (x : Inode) (g : ℕ) → Learns old new (λ V. IsInode V above x) → x ≡ Free g → above ≡ number_above d r → Learns old new (λ V. LooksUpParent V d r (Err NoEntry))
  parent-free above x g l kind is = learns-as old new _ _ l (λ V m at is_d dir.
      ap (λ n. on_found (tree_of V) (Some n) (refused NoEntry (tree_of V)) (found (tree_of V) d (node_of V (held r)))) (sym is)
      ∙ ap (λ (y : Seen). some_node (slot_of V y).node (refused NoEntry (tree_of V)) (found (tree_of V) d (node_of V (held r)) above)) (at.1 ∙ ap (λ x. seen x at.0) kind))

  module _ (name : List ℕ) where
    pub name-hit : (o : Option Hit) (hit : Hit) (reply : Found) → Learns old new (λ V. Hits V r.head name o) → o ≡ Some hit → reply ≡ found_of d r.head hit.number hit.head → Learns old new (λ V. LooksUpName V d r name (Ok reply))
    name-hit o hit reply l is tells = learns-as old new _ _ l (λ V m h is_d dir.
        let it = subst (Hits V r.head name) is h in
        ap (λ o. on_found (tree_of V) o (refused NoEntry (tree_of V)) (found (tree_of V) d (node_of V (held r)))) (hit-found V d r name (sound V m) is_d dir hit it)
        ∙ ap (λ o. some_node o (refused NoEntry (tree_of V)) (found (tree_of V) d (node_of V (held r)) hit.number)) (inode-node V hit.number (held_of hit.head name) it.is.inside.is.inode)
        ∙ found-is V hit.number (held_of hit.head name) hit.head name (sound V m) is_d it.is.inside.is.inode
        ∙ ap (λ t. (Ok t, tree_of V)) (sym tells))

    pub name-missed : (o : Option Hit) → Learns old new (λ V. Hits V r.head name o) → o ≡ None → Learns old new (λ V. LooksUpName V d r name (Err NoEntry))
    name-missed o l is = learns-as old new _ _ l (λ V m h is_d dir.
        ap (λ o. on_found (tree_of V) o (refused NoEntry (tree_of V)) (found (tree_of V) d (node_of V (held r)))) (hit-missed V d r name (sound V m) is_d dir (subst (Hits V r.head name) is h)))

    -- by the kind of the name
    module _ (kind : NameKind) (kind_is : kind ≡ name_kind name) where
      by-kind : (V : View) (k : NameKind) → kind ≡ k → lookup_name (tree_of V) d (node_of V (held r)) (name_kind name) name ≡ lookup_name (tree_of V) d (node_of V (held r)) k name
      by-kind V k is = ap (λ k. lookup_name (tree_of V) d (node_of V (held r)) k name) (sym kind_is ∙ is)

      pub in-name : (reply : Result Found Status) → kind ≡ Name → Learns old new (λ V. LooksUpName V d r name reply) → Learns old new (λ V. LooksUp V d r name reply)
      in-name reply is l = learns-as old new _ _ l (λ V m f is_d dir. by-kind V Name is ∙ f is_d dir)

      pub in-parent : (reply : Result Found Status) → kind ≡ DotDot → Learns old new (λ V. LooksUpParent V d r reply) → Learns old new (λ V. LooksUp V d r name reply)
      in-parent reply is l = learns-as old new _ _ l (λ V m f is_d dir. by-kind V DotDot is ∙ f is_d dir)

      module _ (same : (V : View) → new V → old V) where
        pub in-dot : (reply : Found) → kind ≡ Dot → reply ≡ found_of d r.head d r.head → Learns old new (λ V. LooksUp V d r name (Ok reply))
        in-dot reply is tells = record {
          before = same;
          now = λ V m is_d dir.
              by-kind V Dot is ∙ found-is V d (held r) r.head (name_from r.bytes) (sound V m) is_d is_d ∙ ap (λ t. (Ok t, tree_of V)) (sym tells);
        }

        pub in-none : kind ≡ NoName → Learns old new (λ V. LooksUp V d r name (Err Invalid))
        in-none is = record { before = same; now = λ V m is_d dir. by-kind V NoName is }

        pub in-long : kind ≡ LongName → Learns old new (λ V. LooksUp V d r name (Err NameTooLong))
        in-long is = record { before = same; now = λ V m is_d dir. by-kind V LongName is }

module _ (first old new : View → Type 0) (sound : AreSound new) (ws : List Write) (none : ws ≡ []) (h : Handle) (name : List ℕ) (c : Caller) (now : Time) (found : Result Record Status)
    (l : Learns first old (λ V. IsDirectoryFor V c h found)) where
  pub lookup-err : (status : Status) → found ≡ Err status → ((V : View) → new V → old V) → Does new ws (lookup h name) c now (found_reply (Err status))
  lookup-err status is same = does-reads new ws (lookup h name) c now (found_reply (Err status)) none sound (λ V m. lookup-unsearched V h c now name status (subst (IsDirectoryFor V c h) is (l.now V (same V m))))

  pub lookup-ok : (r : Record) (reply : Result Found Status) → found ≡ Ok r → Learns old new (λ V. LooksUp V h.number r name reply) → Does new ws (lookup h name) c now (found_reply reply)
  lookup-ok r reply is k = does-reads new ws (lookup h name) c now (found_reply reply) none sound (λ V m. lookup-searched V h c now name r reply (subst (IsDirectoryFor V c h) is (l.now V (k.before V m))) (λ is_d dir. k.now V m is_d dir))

-- ── a search ──

module _ (old new : View → Type 0) where
  pub named-used : (n : ℕ) (name bytes : List ℕ) (x : Inode) (head : Head) (o : Option Head) → Learns old new (λ V. V.inode n ≡ inode_seen bytes) → x ≡ inode_from bytes → x ≡ Used head → NamedBy bytes name head o
      → Learns old new (λ V. HasName V n name o)
  named-used n name bytes x head o l is kind named = learns-as old new _ _ l (λ V m at. by V (at ∙ ap (λ x. seen x (name_from bytes)) (sym is ∙ kind)) o named)
    where
      by : (V : View) → V.inode n ≡ used (held_of head (name_from bytes)) → (o : Option Head) → NamedBy bytes name head o → HasName V n name o
      by V at (Some g) named = at ∙ (λ i. used (held_of (sym named.0 i) (named.1 i)))
      by V at None named = λ g here e. let s : used (held_of head (name_from bytes)) ≡ used g = sym at ∙ here in let q : held_of head (name_from bytes) ≡ g = cc in named (ap (λ (g : Held). g.home.name) q ∙ e)

  pub named-free : (n : ℕ) (name bytes : List ℕ) (x : Inode) (f : ℕ) → Learns old new (λ V. V.inode n ≡ inode_seen bytes) → x ≡ inode_from bytes → x ≡ Free f → Learns old new (λ V. HasName V n name None)
  named-free n name bytes x f l is kind = learns-as old new _ _ l (λ V m at g here. absurd (cc (sym here ∙ at ∙ ap (λ x. seen x (name_from bytes)) (sym is ∙ kind))))

  module _ (b : DirectoryBlock) (v : List ℕ) (tag : ℕ) (name : List ℕ) (at : ℕ) (e : Entry) (e_is : e ≡ entry_from v at) where
    pub hit-some : (o : Option Head) (head : Head) (hit : Hit) → Learns old new (λ V. HasName V e.number name o) → has_tag e tag ≡ true → o ≡ Some head → hit ≡ record { number = e.number; head = head; j = b.j; block = b.number; at = at }
        → Learns old new (λ V. IsHitAt V b v tag name at (Some hit))
    hit-some o head hit l tagged is made = learns-as old new _ _ l (λ V m n. subst (IsHitOf V b v name at) (sym made) (record {
      which = refl;
      block = refl;
      place = refl;
      entry = ap (λ (e : Entry). e.number) (sym e_is);
      some = some;
      inode = subst (HasName V e.number name) is n;
    }))
      where
        some : e.number ≢ 0
        some z = false≢true (sym (ap not (eq-eqb e.number 0 z)) ∙ (and_parts (not (e.number == 0)) (e.tag == tag) tagged).0)

    pub hit-none : (o : Option Head) → Learns old new (λ V. HasName V e.number name o) → o ≡ None → Learns old new (λ V. IsHitAt V b v tag name at None)
    hit-none o l is = learns-as old new _ _ l (λ V m n some same g here. subst (HasName V e.number name) is n g (ap (λ (e : Entry). V.inode e.number) e_is ∙ here))

  pub block-hits : (b : DirectoryBlock) (tag : ℕ) (name v w : List ℕ) (o : Option Hit) (last : View → Type 0) → b.number ≢ 0 → w ≡ v → Learns old new (λ V. V.block b.number ≡ v) → Learns new last (λ V. HitsIn V b w tag name o) → Learns old last (λ V. HitsBlock V b tag name o)
  block-hits b tag name v w (Some hit) last there same l k = learns-then old new last _ _ l k _ (λ V m is hits. record { there = there; inside = subst (λ v. HitsIn V b v tag name (Some hit)) (same ∙ sym is) hits })
  block-hits b tag name v w None last there same l k = learns-then old new last _ _ l k _ (λ V m is hits some. subst (λ v. HitsIn V b v tag name None) (same ∙ sym is) hits)

-- not tagged
pub hit-untagged : (may : View → Type 0) (b : DirectoryBlock) (v : List ℕ) (tag : ℕ) (name : List ℕ) (at : ℕ) (e : Entry) → e ≡ entry_from v at → has_tag e tag ≡ false → Learns may may (λ V. IsHitAt V b v tag name at None)
hit-untagged may b v tag name at e e_is not_tagged = record {
  before = λ V m. m;
  now = λ V m some same g here. absurd (false≢true (sym not_tagged ∙ tagged (λ z. some (ap (λ (e : Entry). e.number) (sym e_is) ∙ z)) (ap (λ (e : Entry). e.tag) e_is ∙ same)));
}
  where
    tagged : e.number ≢ 0 → e.tag ≡ tag → has_tag e tag ≡ true
    tagged some same = Rattle.std.proofs.lemmas.Bool.and_from (not (e.number == 0)) (e.tag == tag) (ap not (Rattle.std.proofs.lemmas.Bool.ne_eqb e.number 0 some)) (eq-eqb e.tag tag same)

pub no-block : (may : View → Type 0) (b : DirectoryBlock) (tag : ℕ) (name : List ℕ) → b.number ≡ 0 → Learns may may (λ V. HitsBlock V b tag name None)
no-block may b tag name none = record { before = λ V m. m; now = λ V m some. absurd (some none) }

-- ── loops ──

-- ── the first blocks, and then the levels ──

module _ (first old : View → Type 0) (h : Head) (tag : ℕ) (name : List ℕ) (o : Option Hit) (tag_is : tag ≡ tag_of name) (direct : Learns first old (λ V. HitsFirst V h.blocks tag name o)) where
  pub find-hit : (hit : Hit) → o ≡ Some hit → Learns first old (λ V. Hits V h name (Some hit))
  find-hit hit is = learns-as first old _ _ direct (λ V m here. hits-first V h name hit (subst (HitsFirst V h.blocks tag name) is here))

  pub find-rest : (new : View → Type 0) (p : Option Hit) → o ≡ None → Learns old new (λ V. HitsLevels V h tag name p) → Learns first new (λ V. Hits V h name p)
  find-rest new p is above = learns-then first old new _ _ direct above _ (λ V m here levels.
      hits-all V h name p (subst (λ t. HitsFirst V h.blocks t name None) tag_is (subst (HitsFirst V h.blocks tag name) is here)) (subst (λ t. HitsLevels V h t name p) tag_is levels))

-- by the numbers in the first index block
module _ (first old : View → Type 0) (h : Head) (tag leaf : ℕ) (name : List ℕ) (index : Learns first old (λ V. file_index V h 0 ≡ leaf)) where
  pub above-none : leaf ≡ 0 → Learns first old (λ V. HitsLevels V h tag name None)
  above-none none = learns-as first old _ _ index (λ V m is. levels-none V h tag name leaf is none)

  pub above-some : (new last : View → Type 0) (v w : List ℕ) (o : Option Hit) → leaf ≢ 0 → w ≡ v → Learns old new (λ V. V.block leaf ≡ v) → Learns new last (λ V. HitsNumbers V w tag name o) → Learns first last (λ V. HitsLevels V h tag name o)
  above-some new last v w o some same block numbers =
      learns-then first old last _ _ index (learns-then old new last _ _ block numbers (λ V. (V.block leaf ≡ v) × HitsNumbers V w tag name o) (λ V m is here. (is, here))) _
      (λ V m is both. levels-by V h tag name leaf v o is some both.0 (subst (λ v. HitsNumbers V v tag name o) same both.1))
