-- A node is taken out of its directory.
use Rattle.std.proofs.Common.{◌≡◌, ◌≢◌, ℕ, cond, Some, None, sym, ap, subst, ◌⊎◌, inl, inr, ◌∙◌, arith}
use Rattle.std.specs.Prelude.{option_map}
use Rattle.std.proofs.lemmas.Bool.{cases_eq, eq-eqb, ne_eqb}
use Rattle.journal_tree.specs.declared.time.Time.{Time}
use Rattle.journal_tree.specs.Times.{time_of_names}
use Rattle.journal_tree.specs.Trees.{Body, Tree, with_slot, with_node}
use Rattle.journal_tree.specs.Changes.{with_times, touched, touch}
use Rattle.journal_treestore.specs.Entries.{no_entry}
use Rattle.journal_treestore.specs.Positions.{with_puts}
use Rattle.journal_treestore.specs.Views.{Seen, View, with_inode, body_of, slot_of, tree_of, entry_of, entry_at, home_in, homes}
use Rattle.journal_treestore.specs.Views.Seen.{free, used}
use Rattle.journal_treestore.specs.Sound.{IsHung, IsSoundView}
use Rattle.journal_treestore.specs.Steps.{with_moment, Seat, seat_place, IsPlaced, IsSeat, cut_view, CuttingShows}
use Rattle.journal_treestore.proofs.Hanging.{with_home, with_own, own-other}
use Rattle.journal_treestore.proofs.Changing.{tree-inode, homes-inode, entries-inode, AreInodes, inodes-inode, inode-other, IsPut, places, puts, entries-puts}
use Rattle.journal_treestore.proofs.Planting.{inode-moment, entry_by-moment, with_home-again}
use Rattle.journal_treestore.proofs.Placed.{some-position, cut-own, not_d}

module _ (V : View) (sound : IsSoundView V) (s : Seat) (seat : IsSeat V s) where
  placed : IsPlaced V s
  placed = seat.placed

  module _ (now : Time) where
    abbrev V1 : View
    V1 = with_puts V s.at s.more no_entry

    abbrev V2 : View
    V2 = with_inode V1 s.d (used (with_moment s.h now))

    abbrev V3 : View
    V3 = with_inode V2 s.n (free s.g.generation)

    apart : s.n ≢ s.d
    apart = not_d V sound s placed

    put1 : IsPut V V1
    put1 = puts V s.d s.h s.at s.more no_entry sound.inodes placed.is placed.kind placed.at (some-position V sound s placed)

    source1 : V1.inode s.d ≡ used s.h
    source1 = put1.inode s.d ∙ placed.is

    pub inodes-cut : AreInodes (cut_view V s now)
    inodes-cut = inodes-inode V2 s.n (free s.g.generation) (inodes-inode V1 s.d (used (with_moment s.h now)) put1.heads (inode-moment V1 s.d s.h now (put1.heads s.d s.h source1))) (λ g is. absurd (cc (is)))

    -- writing both inodes in the other order is the same tree
    pub tree-cut : tree_of (cut_view V s now) ≡ touch (with_node (tree_of V) s.n None) s.d now
    tree-cut = λ z. record { numbers = V.numbers; blocks = V.data_blocks; at = λ i. each i (cases_eq i s.n) (cases_eq i s.d) z }
      where
        T1 : tree_of V1 ≡ tree_of V
        T1 = put1.tree

        steps : tree_of V3 ≡ with_slot (with_slot (tree_of V) s.d (slot_of V1 (used (with_moment s.h now)))) s.n (record { generation = s.g.generation; node = None })
        steps =
            tree-inode V2 s.n (free s.g.generation)
            ∙ ap (λ T. with_slot T s.n (record { generation = s.g.generation; node = None })) (tree-inode V1 s.d (used (with_moment s.h now)) ∙ ap (λ T. with_slot T s.d (slot_of V1 (used (with_moment s.h now)))) T1)

        same_body : body_of V1 s.h.kind (with_moment s.h now) ≡ body_of V s.h.kind s.h
        same_body = ap (λ kind. body_of V1 kind (with_moment s.h now)) placed.kind ∙ sym (ap (λ kind. body_of V kind s.h) placed.kind)

        slot_d : slot_of V1 (used (with_moment s.h now)) ≡ record { generation = (slot_of V (V.inode s.d)).generation; node = option_map (touched now) (slot_of V (V.inode s.d)).node }
        slot_d =
            ap (λ (body : Body). record { generation = s.h.generation; node = Some (record { attributes = with_times s.h.attributes (time_of_names s.h.attributes now); home = s.h.home; body = body }) }) same_body
            ∙ ap (λ (y : Seen). record { generation = (slot_of V y).generation; node = option_map (touched now) (slot_of V y).node }) (sym placed.is)

        each : (i : ℕ) → (i ≡ s.n) ⊎ (i ≡ s.n → ⊥) → (i ≡ s.d) ⊎ (i ≡ s.d → ⊥) → (tree_of V3).at i ≡ (touch (with_node (tree_of V) s.n None) s.d now).at i
        each i (inl same) _ =
            ap (λ (T : Tree). T.at i) steps
            ∙ ap (λ b. cond b (record { generation = s.g.generation; node = None }) ((with_slot (tree_of V) s.d (slot_of V1 (used (with_moment s.h now)))).at i)) (eq-eqb i s.n same)
            ∙ sym (
            ap (λ b. cond b (record { generation = ((with_node (tree_of V) s.n None).at s.d).generation; node = option_map (touched now) ((with_node (tree_of V) s.n None).at s.d).node }) ((with_node (tree_of V) s.n None).at i)) (ne_eqb i s.d (λ e. apart (sym same ∙ e)))
            ∙ ap (λ b. cond b (record { generation = ((tree_of V).at s.n).generation; node = None }) ((tree_of V).at i)) (eq-eqb i s.n same)
            ∙ ap (λ (y : Seen). record { generation = (slot_of V y).generation; node = None }) placed.node)
        each i (inr other) (inl same) =
            ap (λ (T : Tree). T.at i) steps
            ∙ ap (λ b. cond b (record { generation = s.g.generation; node = None }) ((with_slot (tree_of V) s.d (slot_of V1 (used (with_moment s.h now)))).at i)) (ne_eqb i s.n other)
            ∙ ap (λ b. cond b (slot_of V1 (used (with_moment s.h now))) ((tree_of V).at i)) (eq-eqb i s.d same)
            ∙ slot_d
            ∙ sym (
            ap (λ b. cond b (record { generation = ((with_node (tree_of V) s.n None).at s.d).generation; node = option_map (touched now) ((with_node (tree_of V) s.n None).at s.d).node }) ((with_node (tree_of V) s.n None).at i)) (eq-eqb i s.d same)
            ∙ ap (λ b. record { generation = (cond b (record { generation = ((tree_of V).at s.n).generation; node = None }) ((tree_of V).at s.d)).generation; node = option_map (touched now) (cond b (record { generation = ((tree_of V).at s.n).generation; node = None }) ((tree_of V).at s.d)).node }) (ne_eqb s.d s.n (λ e. apart (sym e))))
        each i (inr other) (inr apart_d) =
            ap (λ (T : Tree). T.at i) steps
            ∙ ap (λ b. cond b (record { generation = s.g.generation; node = None }) ((with_slot (tree_of V) s.d (slot_of V1 (used (with_moment s.h now)))).at i)) (ne_eqb i s.n other)
            ∙ ap (λ b. cond b (slot_of V1 (used (with_moment s.h now))) ((tree_of V).at i)) (ne_eqb i s.d apart_d)
            ∙ sym (
            ap (λ b. cond b (record { generation = ((with_node (tree_of V) s.n None).at s.d).generation; node = option_map (touched now) ((with_node (tree_of V) s.n None).at s.d).node }) ((with_node (tree_of V) s.n None).at i)) (ne_eqb i s.d apart_d)
            ∙ ap (λ b. cond b (record { generation = ((tree_of V).at s.n).generation; node = None }) ((tree_of V).at i)) (ne_eqb i s.n other))

    pub hung-cut : IsHung (homes (cut_view V s now)) (entry_at (cut_view V s now))
    hung-cut = subst (λ H. IsHung H (entry_at V3)) (sym homes3) (subst (IsHung (with_home (homes V) s.n None)) (sym entries3) (cut-own V sound s placed))
      where
        entries1 : entry_at V1 ≡ with_own (entry_at V) s.d (seat_place s) (places s.more) no_entry
        entries1 = entries-puts V s.d s.h s.at s.more no_entry sound.inodes placed.is placed.kind placed.at (some-position V sound s placed) (omega arith, omega arith)

        entries2 : entry_at V2 ≡ entry_at V1
        entries2 = entries-inode V1 s.d (used (with_moment s.h now)) (λ place. entry_by-moment V1 s.h now s.h.kind place ∙ sym (ap (λ y. entry_of V1 y place) source1))

        node2 : V2.inode s.n ≡ used s.g
        node2 = inode-other V1 s.d s.n (used (with_moment s.h now)) apart ∙ put1.inode s.n ∙ placed.node

        bare : (place : ℕ) → entry_of V2 (used s.g) place ≡ no_entry
        bare place =
            sym (ap (λ y. entry_of V2 y place) node2)
            ∙ ap (λ E. E s.n place) (entries2 ∙ entries1)
            ∙ own-other (entry_at V) s.d (seat_place s) (places s.more) no_entry s.n place (λ own. apart own.0)
            ∙ ap (λ y. entry_of V y place) placed.node ∙ seat.bare place

        entries3 : entry_at V3 ≡ with_own (entry_at V) s.d (seat_place s) (places s.more) no_entry
        entries3 =
            entries-inode V2 s.n (free s.g.generation) (λ place. sym (ap (λ y. entry_of V2 y place) node2 ∙ bare place))
            ∙ entries2 ∙ entries1

        homes1 : homes V1 ≡ homes V
        homes1 = λ z. λ i. home_in (put1.inode i z)

        homes3 : homes V3 ≡ with_home (homes V) s.n None
        homes3 =
            homes-inode V2 s.n (free s.g.generation)
            ∙ ap (λ H. with_home H s.n None) (
            homes-inode V1 s.d (used (with_moment s.h now))
            ∙ ap (λ H. with_home H s.d (Some s.h.home)) homes1
            ∙ with_home-again (homes V) s.d (Some s.h.home) (ap home_in placed.is))

pub cutting-shows : CuttingShows
cutting-shows V s now sound seat = record {
  tree = tree-cut V sound s seat now;
  inodes = inodes-cut V sound s seat now;
  hung = hung-cut V sound s seat now;
}
