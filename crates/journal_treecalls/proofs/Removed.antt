-- Each step of REMOVE: its knowledge, and its writes.
use Rattle.std.proofs.Common.{◌≡◌, ℕ, List, [], ◌∷◌, ◌/◌, ◌%◌, Bool, true, false, cond, Option, Some, None, Ok, Err, refl, sym, ap, subst, ◌∙◌}
use Rattle.std.specs.Prelude.{Result, option_map}
use Rattle.journal_tree.specs.declared.time.Time.{Time}
use Rattle.journal_tree.specs.declared.reply.Changed.{Changed}
use Rattle.journal_tree.specs.declared.reply.Handle.{Handle}
use Rattle.journal_tree.specs.declared.name.NameKind.{NameKind}
use Rattle.journal_tree.specs.declared.caller.Caller.{Caller}
use Rattle.journal_tree.specs.declared.status.Status.{Status}
use Rattle.journal_tree.specs.declared.status.Status.TheVariants.{NoEntry, IsDirectory}
use Rattle.journal_tree.specs.Times.{IsTime}
use Rattle.journal_tree.specs.Calls.{name_kind}
use Rattle.journal_tree.specs.Fit.{IsCaller}
use Rattle.journal_tree.specs.Op.{Op}
use Rattle.journal_tree.specs.Op.Call.{remove}
use Rattle.journal_tree.specs.Op.Reply.{removed}
use Rattle.journal_treestore.specs.declared.inode.Head.{Head}
use Rattle.journal_treestore.specs.Entries.{with_entry, no_entry}
use Rattle.journal_treestore.specs.Inodes.{name_from}
use Rattle.journal_treestore.specs.Views.{View, with_inode, with_block, held_of, node_of, tree_of}
use Rattle.journal_treestore.specs.Views.Seen.{free, used}
use Rattle.journal_treestore.specs.Sound.{IsSoundView}
use Rattle.journal_treestore.specs.Steps.{with_moment}
use Rattle.journal_treestore.proofs.Viewing.{inode-node}
use Rattle.journal_treecalls.specs.declared.node.Record.{Record}
use Rattle.journal_treecalls.specs.declared.search.Hit.{Hit}
use Rattle.journal_treecalls.specs.declared.seats.BlockNumbers.{BlockNumbers}
use Rattle.journal_treecalls.specs.declared.seats.EntryPlace.{EntryPlace}
use Rattle.journal_treecalls.specs.declared.seats.EntryPlaces.{EntryPlaces}
use Rattle.journal_treecalls.specs.declared.named.Named.{Named}
use Rattle.journal_treecalls.specs.Disks.{Write, inode_seen, written, Learns, Does}
use Rattle.journal_treecalls.specs.Disks.Write.{inode_write, block_write}
use Rattle.journal_treecalls.specs.Targets.{held, IsDirectoryFor, Hits}
use Rattle.journal_treecalls.specs.Seats.{HasBlocks, is_at_home, home_place, second_place, places_of, position_of, home_position, second_position}
use Rattle.journal_treecalls.specs.Names.{name_status, IsNamed, IsNameFor, IsFoundIn, IsUnrefused, HasKind, removal_status, moved, without_entries, without_hit, ClearsEntries, TakesOut, RemovesHit, IsRemoval, Removes}
use Rattle.journal_treecalls.specs.Names.IsUnnamed.{unsearched, no_name}
use Rattle.journal_treecalls.specs.Names.IsRemoval.{missed, kept, taken}
use Rattle.journal_treecalls.proofs.Learning.{learns-as, learns-then, does-reads}
use Rattle.journal_treecalls.proofs.Learned.{AreSound}
use Rattle.journal_treecalls.proofs.ByName.{is-name}
use Rattle.journal_treecalls.proofs.Removing.{remove-unnamed, remove-missed, remove-refused, remove-done, remove-sound}

-- ── a name that is looked for ──

pub found-refused : (may : View → Type 0) (r : Record) (name : List ℕ) (o : Option Status) (status : Status) → o ≡ Some status → Learns may may (λ V. IsFoundIn V r name o (Err status))
found-refused may r name o status is = record { before = λ V m. m; now = λ V m. is }

pub found-hit : (old new : View → Type 0) (r : Record) (name : List ℕ) (o : Option Status) (hit : Option Hit) → Learns old new (λ V. Hits V r.head name hit) → o ≡ None
    → Learns old new (λ V. IsFoundIn V r name o (Ok (record { directory = r; hit = hit })))
found-hit old new r name o hit l is = learns-as old new _ _ l (λ V m h. record { directory = refl; unrefused = is; hits = h })

module _ (first old : View → Type 0) (c : Caller) (h : Handle) (name : List ℕ) (a b : Status) (found : Result Record Status) (l : Learns first old (λ V. IsDirectoryFor V c h found)) where
  pub name-err : (status : Status) → found ≡ Err status → Learns first old (λ V. IsNameFor V c h name a b (Err status))
  name-err status is = learns-as first old _ _ l (λ V m d. unsearched (subst (IsDirectoryFor V c h) is d))

  pub name-ok : (new : View → Type 0) (r : Record) (kind : NameKind) (o : Option Status) (result : Result Named Status) → found ≡ Ok r → kind ≡ name_kind name → o ≡ name_status kind a b
      → Learns old new (λ V. IsFoundIn V r name o result) → Learns first new (λ V. IsNameFor V c h name a b result)
  name-ok new r kind o result is kind_is status_is k = learns-then first old new _ _ l k _ (λ V m d f. by V (subst (IsDirectoryFor V c h) is d) result f)
    where
      by : (V : View) → Rattle.journal_treecalls.specs.Targets.IsSearched V c h r → (result : Result Named Status) → IsFoundIn V r name o result → IsNameFor V c h name a b result
      by V s (Ok n) f = record {
        searched = subst (Rattle.journal_treecalls.specs.Targets.IsSearched V c h) (sym f.directory) s;
        named = sym kind_is ∙ is-name kind a b (sym status_is ∙ f.unrefused);
        hits = subst (λ (d : Record). Hits V d.head name n.hit) (sym f.directory) f.hits;
      }
      by V s (Err status) f = no_name r s (ap (λ k. name_status k a b) (sym kind_is) ∙ sym status_is ∙ f)

pub kind-ok : (name : List ℕ) (kind : NameKind) (a b : Status) (o : Option Status) → kind ≡ name_kind name → o ≡ name_status kind a b → (result : Result Named Status) → IsUnrefused o result → HasKind name result
kind-ok name kind a b o kind_is status_is (Ok n) none = sym kind_is ∙ is-name kind a b (sym status_is ∙ none)
kind-ok name kind a b o kind_is status_is (Err status) none = tt

-- ── the writes ──

-- one entry goes
pub clears-one : (first old new : View → Type 0) (before ws : List Write) (p : EntryPlaces) (v w : List ℕ) → p.second ≡ None → before ≡ [] → ws ≡ block_write p.home.block w ∷ before
    → Learns first old (λ V. V.block p.home.block ≡ v) → w ≡ with_entry v p.home.at no_entry → ((V : View) → new V → old V) → ClearsEntries first new ws p
clears-one first old new before ws p v w one none is l put same = record {
  same = λ V m. l.before V (same V m);
  is = λ V m.
      ap (λ ws. written ws V) (is ∙ ap (λ ws. block_write p.home.block w ∷ ws) none)
      ∙ ap (with_block V p.home.block) (put ∙ ap (λ v. with_entry v p.home.at no_entry) (sym (l.now V (same V m))))
      ∙ ap (λ o. without_entries V (position_of p.home) (option_map position_of o)) (sym one);
}

-- and so does another
pub clears-two : (first old mid new : View → Type 0) (before one ws : List Write) (p : EntryPlaces) (q : EntryPlace) (v w x y : List ℕ) → p.second ≡ Some q → before ≡ [] → one ≡ block_write p.home.block w ∷ before → ws ≡ block_write q.block y ∷ one
    → Learns first old (λ V. V.block p.home.block ≡ v) → w ≡ with_entry v p.home.at no_entry → Learns old mid (λ V. V.block q.block ≡ x) → y ≡ with_entry x q.at no_entry → ((V : View) → new V → mid V) → ClearsEntries first new ws p
clears-two first old mid new before one ws p q v w x y two none one_is is l put k other same = record {
  same = λ V m. l.before V (k.before V (same V m));
  is = λ V m.
      ap (λ ws. written ws V) (is ∙ ap (λ ws. block_write q.block y ∷ ws) (one_is ∙ ap (λ ws. block_write p.home.block w ∷ ws) none))
      ∙ (λ i. with_block (with_block V p.home.block (home V m i)) q.block (second V m i))
      ∙ ap (λ o. without_entries V (position_of p.home) (option_map position_of o)) (sym two);
}
  where
    home : (V : View) → new V → w ≡ with_entry (V.block p.home.block) p.home.at no_entry
    home V m = put ∙ ap (λ v. with_entry v p.home.at no_entry) (sym (l.now V (k.before V (same V m))))

    second : (V : View) → new V → y ≡ with_entry (V.block q.block) q.at no_entry
    second V m = other ∙ ap (λ v. with_entry v q.at no_entry) (sym (k.now V (same V m)))

-- the places of a hit on a disk
home-at : (V : View) (r : Record) (hit : Hit) (numbers : BlockNumbers) → HasBlocks V r.head numbers → position_of (home_place numbers hit) ≡ home_position V r.head hit
home-at V r hit numbers has = λ z. record { j = hit.head.place / 512; q = hit.head.place % 512; b = has (hit.head.place / 512) z }

second-at : (hit : Hit) → option_map position_of (second_place hit) ≡ second_position hit
second-at hit = by (is_at_home hit)
  where
    by : (b : Bool) → option_map position_of (cond b None (Some (record { j = hit.j; block = hit.block; at = hit.at }))) ≡ cond b None (Some (record { j = hit.j; q = hit.at; b = hit.block }))
    by true = refl
    by false = refl

pub without-hit : (before one ws : List Write) (V : View) (d : ℕ) (r : Record) (hit : Hit) (now : Time) (numbers : BlockNumbers) (p : EntryPlaces) (db fb : List ℕ) (head : Head)
    → HasBlocks V r.head numbers → p ≡ places_of numbers hit → written before V ≡ without_entries V (position_of p.home) (option_map position_of p.second)
    → one ≡ inode_write d db ∷ before → ws ≡ inode_write hit.number fb ∷ one → head ≡ moved r.head now
    → inode_seen db ≡ used (held_of head (name_from r.bytes)) → inode_seen fb ≡ free hit.head.generation → written ws V ≡ without_hit V d r hit now
without-hit before one ws V d r hit now numbers p db fb head has places cleared one_is is head_is shown is_free =
    ap (λ ws. written ws V) (is ∙ ap (λ ws. inode_write hit.number fb ∷ ws) one_is)
    ∙ (λ i. with_inode (with_inode (entries i) d (new i)) hit.number (is_free i))
  where
    entries : written before V ≡ without_entries V (home_position V r.head hit) (second_position hit)
    entries =
        cleared
        ∙ ap (λ (p : EntryPlaces). without_entries V (position_of p.home) (option_map position_of p.second)) places
        ∙ (λ i. without_entries V (home-at V r hit numbers has i) (second-at hit i))

    new : inode_seen db ≡ used (with_moment (held r) now)
    new = shown ∙ ap (λ (x : Head). used (held_of x (name_from r.bytes))) head_is

-- from what was found to what was removed
pub removes-missed : (old new : View → Type 0) (ws : List Write) (c : Caller) (d : ℕ) (n : Named) (now : Time) → ((V : View) → new V → old V) → ws ≡ [] → n.hit ≡ None → Removes old new ws c d n now (Err NoEntry)
removes-missed old new ws c d n now same none is = record { same = same; is = λ time V m. missed is (ap (λ ws. written ws V) none) }

pub removes-hit : (old new : View → Type 0) (ws : List Write) (c : Caller) (d : ℕ) (n : Named) (hit : Hit) (now : Time) (reply : Result Changed Status) → n.hit ≡ Some hit → RemovesHit old new ws c d n.directory hit now reply → Removes old new ws c d n now reply
removes-hit old new ws c d n hit now (Ok changed) here r = record { same = r.same; is = λ time V m. let f = r.is time V m in taken hit changed here f.0 f.1.0 f.1.1 }
removes-hit old new ws c d n hit now (Err status) here r = record { same = r.same; is = λ time V m. let f = r.is time V m in kept hit status here f.0 f.1 }

pub hit-kept : (may : View → Type 0) (ws : List Write) (c : Caller) (d : ℕ) (r : Record) (hit : Hit) (now : Time) (o : Option Status) (status : Status) → ws ≡ [] → o ≡ removal_status c r.head hit.head → o ≡ Some status → RemovesHit may may ws c d r hit now (Err status)
hit-kept may ws c d r hit now o status none is why = record { same = λ V m. m; is = λ time V m. (sym is ∙ why, ap (λ ws. written ws V) none) }

pub hit-taken : (old new : View → Type 0) (ws : List Write) (c : Caller) (d : ℕ) (r : Record) (hit : Hit) (now : Time) (o : Option Status) (changed : Changed) → o ≡ removal_status c r.head hit.head → o ≡ None → TakesOut old new ws d r hit now changed → RemovesHit old new ws c d r hit now (Ok changed)
hit-taken old new ws c d r hit now o changed is on t = record { same = t.same; is = λ time V m. (sym is ∙ on, (t.written_is time V m, t.told time)) }

-- ── REMOVE ──

module _ (first old new : View → Type 0) (sound : AreSound new) (ws : List Write) (h : Handle) (name : List ℕ) (c : Caller) (now : Time) (found : Result Named Status)
    (l : Learns first old (λ V. IsNameFor V c h name IsDirectory IsDirectory found)) where
  pub remove-err : (status : Status) → ws ≡ [] → found ≡ Err status → ((V : View) → new V → old V) → Does new ws (remove h name) c now (removed (Err status))
  remove-err status none is same = does-reads new ws (remove h name) c now (removed (Err status)) none sound (λ V m.
      remove-unnamed V h c name now status (subst (IsNameFor V c h name IsDirectory IsDirectory) is (l.now V (same V m))))

  module _ (n : Named) (is : found ≡ Ok n) (caller : IsCaller c) (time : IsTime now) (reply : Result Changed Status)
      (removal : Removes old new ws c h.number n now reply) where
    named : (V : View) → new V → IsNamed V c h name n
    named V m = subst (IsNameFor V c h name IsDirectory IsDirectory) is (l.now V (removal.same V m))

    ctime : (V : View) → new V → IsTime n.directory.head.attributes.ctime
    ctime V m = ((sound V m).fit.nodes h.number (node_of V (held n.directory)) (inode-node V h.number (held n.directory) (named V m).searched.node.is)).ctime

    op : (V : View) → new V → (W : View) (reply : Result Changed Status) → IsRemoval V W c h.number n now reply → Op (remove h name) c now (tree_of V) (removed reply) (tree_of W)
    op V m W _ (missed none stays) = subst (λ W. Op (remove h name) c now (tree_of V) (removed (Err NoEntry)) (tree_of W)) (sym stays) (remove-missed V h c name now n (sound V m) (named V m) none)
    op V m W _ (kept hit status here why stays) = subst (λ W. Op (remove h name) c now (tree_of V) (removed (Err status)) (tree_of W)) (sym stays) (remove-refused V h c name now n (sound V m) (named V m) hit here status why)
    op V m W _ (taken hit changed here on goes tells) = subst (λ t. Op (remove h name) c now (tree_of V) (removed (Ok t)) (tree_of W)) (sym tells) (remove-done V h c name now n (sound V m) (named V m) hit here on W goes)

    stays-sound : (V : View) → new V → (W : View) (reply : Result Changed Status) → IsRemoval V W c h.number n now reply → IsSoundView W
    stays-sound V m W _ (missed none stays) = subst IsSoundView (sym stays) (sound V m)
    stays-sound V m W _ (kept hit status here why stays) = subst IsSoundView (sym stays) (sound V m)
    stays-sound V m W _ (taken hit changed here on goes tells) = remove-sound V h c name now n (sound V m) (named V m) hit here on W goes caller time

    pub remove-ok : Does new ws (remove h name) c now (removed reply)
    remove-ok = record {
      op = λ V m. op V m (written ws V) reply (removal.is (ctime V m) V m);
      sound = λ V m. stays-sound V m (written ws V) reply (removal.is (ctime V m) V m);
    }
