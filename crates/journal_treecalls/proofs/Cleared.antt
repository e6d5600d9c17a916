-- Each step of RMDIR: its knowledge, and its writes.
use Rattle.std.proofs.Common.{◌≡◌, ℕ, List, [], Option, Some, None, Ok, Err, sym, ap, subst, ◌∙◌}
use Rattle.std.specs.Prelude.{Result}
use Rattle.journal_tree.specs.declared.time.Time.{Time}
use Rattle.journal_tree.specs.declared.reply.Changed.{Changed}
use Rattle.journal_tree.specs.declared.reply.Handle.{Handle}
use Rattle.journal_tree.specs.declared.caller.Caller.{Caller}
use Rattle.journal_tree.specs.declared.status.Status.{Status}
use Rattle.journal_tree.specs.declared.status.Status.TheVariants.{Exists, Invalid, NoEntry, NotEmpty}
use Rattle.journal_tree.specs.Times.{IsTime}
use Rattle.journal_tree.specs.Fit.{IsCaller}
use Rattle.journal_tree.specs.Op.{Op}
use Rattle.journal_tree.specs.Op.Call.{rmdir}
use Rattle.journal_tree.specs.Op.Reply.{removed}
use Rattle.journal_treestore.specs.Views.{View, node_of, tree_of}
use Rattle.journal_treestore.specs.Sound.{IsSoundView}
use Rattle.journal_treestore.proofs.Viewing.{inode-node}
use Rattle.journal_treecalls.specs.declared.node.Record.{Record}
use Rattle.journal_treecalls.specs.declared.search.Hit.{Hit}
use Rattle.journal_treecalls.specs.declared.named.Named.{Named}
use Rattle.journal_treecalls.specs.Disks.{Write, written, Learns, Does}
use Rattle.journal_treecalls.specs.Targets.{held}
use Rattle.journal_treecalls.specs.Names.{IsNamed, IsNameFor, TakesOut}
use Rattle.journal_treecalls.specs.Directories.{IsEntryOf, rmdir_status, RemovesBare, RemovesDirectoryHit, IsRmdir, RemovesDirectory}
use Rattle.journal_treecalls.specs.Directories.IsBareRemoval.{full, taken}
use Rattle.journal_treecalls.specs.Directories.IsDirectoryRemoval.{kept, tried}
use Rattle.journal_treecalls.specs.Directories.IsRmdir.{missed, found as there}
use Rattle.journal_treecalls.proofs.Learning.{does-reads}
use Rattle.journal_treecalls.proofs.Learned.{AreSound}
use Rattle.journal_treecalls.proofs.Clearing.{rmdir-unnamed, rmdir-missed, rmdir-refused, rmdir-full, rmdir-done, rmdir-sound}

module _ (first old : View → Type 0) (d : ℕ) (r : Record) (hit : Hit) (now : Time) (o : Option ℕ) (l : Learns first old (λ V. IsEntryOf V hit.head o)) where
  pub bare-full : (ws : List Write) (m : ℕ) → ws ≡ [] → o ≡ Some m → RemovesBare first old ws d r hit now (Err NotEmpty)
  bare-full ws m none is = record { same = l.before; is = λ time V m2. full m (subst (IsEntryOf V hit.head) is (l.now V m2)) (ap (λ ws. written ws V) none) }

  pub bare-taken : (new : View → Type 0) (ws : List Write) (changed : Changed) → o ≡ None → TakesOut old new ws d r hit now changed → RemovesBare first new ws d r hit now (Ok changed)
  bare-taken new ws changed is t = record {
    same = λ V m. l.before V (t.same V m);
    is = λ time V m. taken changed (subst (IsEntryOf V hit.head) is (l.now V (t.same V m))) (t.written_is time V m) (t.told time);
  }

pub dir-kept : (may : View → Type 0) (ws : List Write) (c : Caller) (d : ℕ) (r : Record) (hit : Hit) (now : Time) (o : Option Status) (status : Status) → ws ≡ [] → o ≡ rmdir_status c r.head hit.head → o ≡ Some status → RemovesDirectoryHit may may ws c d r hit now (Err status)
dir-kept may ws c d r hit now o status none is why = record { same = λ V m. m; is = λ time V m. kept status (sym is ∙ why) (ap (λ ws. written ws V) none) }

pub dir-tried : (old new : View → Type 0) (ws : List Write) (c : Caller) (d : ℕ) (r : Record) (hit : Hit) (now : Time) (o : Option Status) (reply : Result Changed Status) → o ≡ rmdir_status c r.head hit.head → o ≡ None → RemovesBare old new ws d r hit now reply → RemovesDirectoryHit old new ws c d r hit now reply
dir-tried old new ws c d r hit now o reply is on k = record { same = k.same; is = λ time V m. tried reply (sym is ∙ on) (k.is time V m) }

pub rmdir-gone : (may : View → Type 0) (ws : List Write) (c : Caller) (d : ℕ) (n : Named) (now : Time) → ws ≡ [] → n.hit ≡ None → RemovesDirectory may may ws c d n now (Err NoEntry)
rmdir-gone may ws c d n now none is = record { same = λ V m. m; is = λ time V m. missed is (ap (λ ws. written ws V) none) }

pub rmdir-there : (old new : View → Type 0) (ws : List Write) (c : Caller) (d : ℕ) (n : Named) (hit : Hit) (now : Time) (reply : Result Changed Status) → n.hit ≡ Some hit → RemovesDirectoryHit old new ws c d n.directory hit now reply → RemovesDirectory old new ws c d n now reply
rmdir-there old new ws c d n hit now reply here k = record { same = k.same; is = λ time V m. there hit reply here (k.is time V m) }

-- ── RMDIR ──

module _ (first old new : View → Type 0) (sound : AreSound new) (ws : List Write) (h : Handle) (name : List ℕ) (c : Caller) (now : Time) (found : Result Named Status)
    (l : Learns first old (λ V. IsNameFor V c h name Invalid Exists found)) where
  pub rmdir-err : (status : Status) → ws ≡ [] → found ≡ Err status → ((V : View) → new V → old V) → Does new ws (rmdir h name) c now (removed (Err status))
  rmdir-err status none is same = does-reads new ws (rmdir h name) c now (removed (Err status)) none sound (λ V m.
      rmdir-unnamed V h c name now status (subst (IsNameFor V c h name Invalid Exists) is (l.now V (same V m))))

  module _ (n : Named) (is : found ≡ Ok n) (caller : IsCaller c) (time : IsTime now) (reply : Result Changed Status)
      (removal : RemovesDirectory old new ws c h.number n now reply) where
    named : (V : View) → new V → IsNamed V c h name n
    named V m = subst (IsNameFor V c h name Invalid Exists) is (l.now V (removal.same V m))

    ctime : (V : View) → new V → IsTime n.directory.head.attributes.ctime
    ctime V m = ((sound V m).fit.nodes h.number (node_of V (held n.directory)) (inode-node V h.number (held n.directory) (named V m).searched.node.is)).ctime

    op : (V : View) → new V → (W : View) (reply : Result Changed Status) → IsRmdir V W c h.number n now reply → Op (rmdir h name) c now (tree_of V) (removed reply) (tree_of W)
    op V m W _ (missed none stays) = subst (λ W. Op (rmdir h name) c now (tree_of V) (removed (Err NoEntry)) (tree_of W)) (sym stays) (rmdir-missed V h c name now n (sound V m) (named V m) none)
    op V m W _ (there hit _ here (kept status why stays)) = subst (λ W. Op (rmdir h name) c now (tree_of V) (removed (Err status)) (tree_of W)) (sym stays) (rmdir-refused V h c name now n (sound V m) (named V m) hit here status why)
    op V m W _ (there hit _ here (tried _ on (full k entry stays))) = subst (λ W. Op (rmdir h name) c now (tree_of V) (removed (Err NotEmpty)) (tree_of W)) (sym stays) (rmdir-full V h c name now n (sound V m) (named V m) hit here on k entry)
    op V m W _ (there hit _ here (tried _ on (taken changed none goes tells))) = subst (λ t. Op (rmdir h name) c now (tree_of V) (removed (Ok t)) (tree_of W)) (sym tells) (rmdir-done V h c name now n (sound V m) (named V m) hit here on none W goes)

    stays-sound : (V : View) → new V → (W : View) (reply : Result Changed Status) → IsRmdir V W c h.number n now reply → IsSoundView W
    stays-sound V m W _ (missed none stays) = subst IsSoundView (sym stays) (sound V m)
    stays-sound V m W _ (there hit _ here (kept status why stays)) = subst IsSoundView (sym stays) (sound V m)
    stays-sound V m W _ (there hit _ here (tried _ on (full k entry stays))) = subst IsSoundView (sym stays) (sound V m)
    stays-sound V m W _ (there hit _ here (tried _ on (taken changed none goes tells))) = rmdir-sound V h c name now n (sound V m) (named V m) hit here on none W goes caller time

    pub rmdir-ok : Does new ws (rmdir h name) c now (removed reply)
    rmdir-ok = record {
      op = λ V m. op V m (written ws V) reply (removal.is (ctime V m) V m);
      sound = λ V m. stays-sound V m (written ws V) reply (removal.is (ctime V m) V m);
    }
