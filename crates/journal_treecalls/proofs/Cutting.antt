-- A node that was found is taken out of its directory: the tree then, and the disk.
use Rattle.std.proofs.Common.{◌≡◌, ◌≢◌, ℕ, cond, List, Option, Some, None, Ok, refl, sym, ap, subst, ◌∙◌}
use Rattle.std.proofs.lemmas.Bool.{ne_eqb}
use Rattle.journal_tree.specs.declared.time.Time.{Time}
use Rattle.journal_tree.specs.declared.reply.Handle.{Handle}
use Rattle.journal_tree.specs.declared.reply.Kind.TheVariants.{Directory}
use Rattle.journal_tree.specs.declared.caller.Caller.{Caller}
use Rattle.journal_tree.specs.Times.{IsTime, time_of_names}
use Rattle.journal_tree.specs.Changes.{with_times, touched, cut}
use Rattle.journal_tree.specs.Calls.{told}
use Rattle.journal_tree.specs.Names.{removed}
use Rattle.journal_tree.specs.Op.{Call, Op}
use Rattle.journal_tree.specs.Op.Reply.{removed as removed_reply}
use Rattle.journal_tree.specs.Fit.{IsCaller, IsCallable}
use Rattle.journal_treestore.specs.Entries.{with_entry, no_entry}
use Rattle.journal_treestore.specs.Positions.{Position, with_put, with_puts}
use Rattle.journal_treestore.specs.Views.{View, with_inode, with_block, held_of, node_of, tree_of, entry_of}
use Rattle.journal_treestore.specs.Views.Seen.{free, used}
use Rattle.journal_treestore.specs.Sound.{IsSoundView}
use Rattle.journal_treestore.specs.Steps.{with_moment, Seat, IsSeat, cut_view, Shows}
use Rattle.journal_treestore.proofs.Removing.{cutting-shows}
use Rattle.journal_treestore.proofs.Keeping.{calls-stay-sound}
use Rattle.journal_treecalls.specs.declared.node.Record.{Record}
use Rattle.journal_treecalls.specs.declared.search.Hit.{Hit}
use Rattle.journal_treecalls.specs.Targets.{held, told_of, IsHit, IsNode}
use Rattle.journal_treecalls.specs.Seats.{home_position, second_position, seat_of}
use Rattle.journal_treecalls.specs.Names.{moved, changed_of, without_entries, without_hit}
use Rattle.journal_treecalls.proofs.Cases.{node-told}
use Rattle.journal_treecalls.proofs.Seating.{seat-is, second-apart}

-- two entries that go lie in two blocks
entries-go : (V : View) (p : Position) (o : Option Position) → ((q : Position) → o ≡ Some q → q.b ≢ p.b) → without_entries V p o ≡ with_puts V p o no_entry
entries-go V p None apart = refl
entries-go V p (Some q) apart = ap (λ v. with_block (with_put V p.b p.q no_entry) q.b (with_entry v q.q no_entry))
    (sym (ap (λ t. cond t (with_entry (V.block p.b) p.q no_entry) (V.block q.b)) (ne_eqb q.b p.b (apart q refl))))

module _ (V : View) (h : Handle) (name : List ℕ) (now : Time) (r : Record) (hit : Hit) (sound : IsSoundView V) (node : IsNode V h r) (kind : r.head.kind ≡ Directory) (hits : IsHit V r.head name hit)
    (bare : (place : ℕ) → entry_of V (used (held_of hit.head name)) place ≡ no_entry) (W : View) (goes : W ≡ without_hit V h.number r hit now) where
  abbrev seat : Seat
  seat = seat_of V h.number r hit name

  is_seat : IsSeat V seat
  is_seat = record { placed = seat-is V h.number r name hit sound node.is kind hits; bare = bare }

  -- the disk after it is what the step says
  view : W ≡ cut_view V seat now
  view =
      goes
      ∙ ap (λ V. with_inode (with_inode V h.number (used (with_moment (held r) now))) hit.number (free hit.head.generation))
      (entries-go V (home_position V r.head hit) (second_position hit) (second-apart V h.number r name hit sound node.is kind hits))

  shows : Shows (cut_view V seat now) (cut (tree_of V) h.number hit.number now)
  shows = cutting-shows V seat now sound is_seat

  told-before : told h.number (node_of V (held r)) ≡ told_of h.number r.head
  told-before = node-told V h r sound node

  told-after : told h.number (touched now (node_of V (held r))) ≡ told_of h.number (moved r.head now)
  told-after = λ i. record {
    number = h.number;
    kind = (told-before i).kind;
    size = (told-before i).size;
    attributes = with_times r.head.attributes (time_of_names r.head.attributes now);
  }

  -- the answer of a call that takes it out
  pub cut-outcome : (Ok (changed_of h.number r.head now), tree_of W) ≡ removed (tree_of V) h.number (node_of V (held r)) hit.number now
  cut-outcome =
      ap (λ W. (Ok (changed_of h.number r.head now), tree_of W)) view
      ∙ (λ i. (Ok (record { before = (sym told-before) i; after = (sym told-after) i }), shows.tree i))

  -- and the disk is sound
  pub cut-sound : (call : Call) (c : Caller) → IsCallable call → IsCaller c → IsTime now → Op call c now (tree_of V) (removed_reply (Ok (changed_of h.number r.head now))) (tree_of W) → IsSoundView W
  cut-sound call c callable caller time op = subst IsSoundView (sym view)
      (calls-stay-sound V (cut_view V seat now) (tree_of (cut_view V seat now)) call c now (removed_reply (Ok (changed_of h.number r.head now))) callable caller time sound
      (record { numbers = refl; first_data = refl; data_blocks = refl })
      (subst (λ W. Op call c now (tree_of V) (removed_reply (Ok (changed_of h.number r.head now))) (tree_of W)) view op)
      (record { tree = refl; inodes = shows.inodes; hung = shows.hung }))
