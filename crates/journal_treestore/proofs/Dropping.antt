-- A node that is replaced goes.
use Rattle.std.proofs.Common.{◌≡◌, ℕ, ◌≤◌, cond, Some, None, sym, ap, subst, ◌⊎◌, inl, inr, ◌∙◌, arith}
use Rattle.std.proofs.lemmas.Bool.{cases_eq, eq-eqb, ne_eqb}
use Rattle.journal_tree.specs.Trees.{Node, Tree, with_slot, with_node}
use Rattle.journal_tree.specs.Rule.{HasTree}
use Rattle.journal_tree.specs.Fit.{HasFit}
use Rattle.journal_tree.proofs.Changing.{HasTree-cut, same_generation}
use Rattle.journal_treestore.specs.declared.entry.Entry.{Entry}
use Rattle.journal_treestore.specs.Entries.{no_entry}
use Rattle.journal_treestore.specs.Positions.{with_puts}
use Rattle.journal_treestore.specs.Views.{Held, Seen, View, node_of, slot_of, tree_of, entry_of, entry_at, home_in, homes}
use Rattle.journal_treestore.specs.Views.Seen.{free, used}
use Rattle.journal_treestore.specs.Sound.{entry_for, IsHung, IsSoundView}
use Rattle.journal_treestore.specs.Steps.{Seat, seat_place, IsPlaced, IsSeat, Shows}
use Rattle.journal_treestore.specs.Moves.{dropped_view, DroppingShows, DroppingStaysSound}
use Rattle.journal_treestore.proofs.Hanging.{with_home, with_own, own-other}
use Rattle.journal_treestore.proofs.Viewing.{node-inode, used_some, entry_of_node}
use Rattle.journal_treestore.proofs.Changing.{tree-inode, homes-inode, entries-inode, AreInodes, inodes-inode, IsPut, places, puts, entries-puts}
use Rattle.journal_treestore.proofs.Placed.{some-position, cut-own, no_root, not_d}

-- a tree without a node is within its bounds
without-fit : (T : Tree) (n : ℕ) → HasFit T → HasFit (with_node T n None)
without-fit T n fit = record {
  nodes = λ i x at. fit.nodes i x (old i x at);
  born = λ i x at. subst (λ g. 1 ≤ g) (sym (same_generation T n i None)) (fit.born i x (old i x at));
  young = λ i. subst (λ g. g ≤ 4294967295) (sym (same_generation T n i None)) (fit.young i);
}
  where
    old : (i : ℕ) (x : Node) → ((with_node T n None).at i).node ≡ Some x → (T.at i).node ≡ Some x
    old i x at = by (cases_eq i n)
      where
        by : (i ≡ n) ⊎ (i ≡ n → ⊥) → (T.at i).node ≡ Some x
        by (inl same) = absurd (cc (sym (ap (λ b. (cond b (record { generation = (T.at n).generation; node = None }) (T.at i)).node) (eq-eqb i n same)) ∙ at))
        by (inr other) = sym (ap (λ b. (cond b (record { generation = (T.at n).generation; node = None }) (T.at i)).node) (ne_eqb i n other)) ∙ at

module _ (V : View) (sound : IsSoundView V) (s : Seat) (seat : IsSeat V s) where
  abbrev V1 : View
  V1 = with_puts V s.at s.more no_entry

  placed : IsPlaced V s
  placed = seat.placed

  pub put-dropped : IsPut V (with_puts V s.at s.more no_entry)
  put-dropped = puts V s.d s.h s.at s.more no_entry sound.inodes placed.is placed.kind placed.at (some-position V sound s placed)

  pub inodes-dropped : AreInodes (dropped_view V s)
  inodes-dropped = inodes-inode V1 s.n (free s.g.generation) put-dropped.heads (λ g is. absurd (cc (is)))

  pub tree-dropped : tree_of (dropped_view V s) ≡ with_node (tree_of V) s.n None
  tree-dropped =
      tree-inode V1 s.n (free s.g.generation)
      ∙ ap (λ T. with_slot T s.n (record { generation = s.g.generation; node = None })) put-dropped.tree
      ∙ ap (λ (y : Seen). with_slot (tree_of V) s.n (record { generation = (slot_of V y).generation; node = None })) (sym placed.node)

  entries1 : entry_at V1 ≡ with_own (entry_at V) s.d (seat_place s) (places s.more) no_entry
  entries1 = entries-puts V s.d s.h s.at s.more no_entry sound.inodes placed.is placed.kind placed.at (some-position V sound s placed) (omega arith, omega arith)

  pub entries-dropped : entry_at (dropped_view V s) ≡ with_own (entry_at V) s.d (seat_place s) (places s.more) no_entry
  entries-dropped = entries-inode V1 s.n (free s.g.generation) (λ place. sym (bare place)) ∙ entries1
    where
      bare : (place : ℕ) → entry_of V1 (V1.inode s.n) place ≡ no_entry
      bare place =
          ap (λ E. E s.n place) entries1
          ∙ own-other (entry_at V) s.d (seat_place s) (places s.more) no_entry s.n place (λ own. not_d V sound s placed own.0)
          ∙ ap (λ y. entry_of V y place) placed.node ∙ seat.bare place

  homes-dropped : homes (dropped_view V s) ≡ with_home (homes V) s.n None
  homes-dropped = homes-inode V1 s.n (free s.g.generation) ∙ ap (λ H. with_home H s.n None) (λ z. λ i. home_in (put-dropped.inode i z))

  pub hung-dropped : IsHung (homes (dropped_view V s)) (entry_at (dropped_view V s))
  hung-dropped = subst (λ H. IsHung H (entry_at (dropped_view V s))) (sym homes-dropped) (subst (IsHung (with_home (homes V) s.n None)) (sym entries-dropped) (cut-own V sound s placed))

  -- nothing hangs in it
  nothing_in : (i : ℕ) (x : Node) → ((tree_of V).at i).node ≡ Some x → x.home.directory ≡ s.n → ⊥
  nothing_in i x at directory = used_some V sound i inode.0 inode.1 (sym (ap (λ (e : Entry). e.number) (sym empty ∙ entry)))
    where
      inode : (h : Held) × (V.inode i ≡ used h) × (node_of V h ≡ x)
      inode = node-inode V i x at

      entry : entry_at V s.n inode.0.home.place ≡ entry_for i inode.0.home
      entry = entry_of_node V sound s.n i s.g inode.0 placed.node inode.1 (ap (λ (x : Node). x.home.directory) inode.2 ∙ directory)

      empty : entry_at V s.n inode.0.home.place ≡ no_entry
      empty = ap (λ y. entry_of V y inode.0.home.place) placed.node ∙ seat.bare inode.0.home.place

pub dropping-shows : DroppingShows
dropping-shows V s sound seat = record {
  tree = tree-dropped V sound s seat;
  inodes = inodes-dropped V sound s seat;
  hung = hung-dropped V sound s seat;
}

pub dropping-stays-sound : DroppingStaysSound
dropping-stays-sound V s sound seat = record {
  few_numbers = sound.few_numbers;
  few_blocks = sound.few_blocks;
  no_data = sound.no_data;
  tree = subst HasTree (sym shows.tree) (HasTree-cut (tree_of V) s.n sound.tree (no_root V sound s seat.placed) (nothing_in V sound s seat));
  fit = subst HasFit (sym shows.tree) (without-fit (tree_of V) s.n sound.fit);
  inodes = shows.inodes;
  hung = shows.hung;
}
  where
    shows : Shows (dropped_view V s) (with_node (tree_of V) s.n None)
    shows = dropping-shows V s sound seat
