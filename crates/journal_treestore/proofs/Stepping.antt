-- One node is written: its inode, and blocks that no other node has.
use Rattle.std.proofs.Common.{◌≡◌, ◌≢◌, ℕ, ◌+◌, ◌/◌, ◌%◌, cond, eqb, length, take, Some, refl, sym, ap, subst, ◌⊎◌, inl, inr, ◌∙◌}
use Rattle.std.proofs.lemmas.Bool.{cases_eq, eq-eqb, ne_eqb}
use Rattle.journal_tree.specs.declared.reply.Kind.{Kind}
use Rattle.journal_tree.specs.declared.reply.Kind.TheVariants.{Directory, File, Link}
use Rattle.journal_tree.specs.declared.time.Time.{Time}
use Rattle.journal_tree.specs.declared.caller.Caller.{Caller}
use Rattle.journal_tree.specs.Times.{IsTime}
use Rattle.journal_tree.specs.Fit.{IsCaller, IsCallable}
use Rattle.journal_tree.specs.Op.{Call, Reply, Op}
use Rattle.journal_tree.specs.Trees.{with_node}
use Rattle.journal_tree.specs.Trees.Body.{file, link}
use Rattle.journal_treestore.specs.Entries.{no_entry, entry_from}
use Rattle.journal_treestore.specs.Views.{Held, Seen, View, block_at, bytes_of, body_of, node_of, slot_of, tree_of, directory_block, entry_in, entry_by, entry_of, entry_at, home_in, homes}
use Rattle.journal_treestore.specs.Views.Seen.{free, used}
use Rattle.journal_treestore.specs.Sound.{IsHung, IsSoundInode, IsSoundView}
use Rattle.journal_treestore.specs.Steps.{IsNodeStep, Shows}
use Rattle.journal_treestore.proofs.Indexing.{block_at-frame, bytes_of-frame, bytes_in-frame, sound-frame}
use Rattle.journal_treestore.proofs.Changing.{at-directory, directory-frame}
use Rattle.journal_treestore.proofs.Keeping.{calls-stay-sound}

module _ (V W : View) (n : ℕ) (h k : Held) (sound : IsSoundView V) (step : IsNodeStep V W n h k) where
  -- what other nodes have stays, index blocks among it
  pub block-kept : (i : ℕ) (g : Held) → i ≢ n → V.inode i ≡ used g → (p : ℕ) → block_at W g p ≡ block_at V g p
  block-kept i g other at = block_at-frame V W g (λ p _ some. step.blocks i g p other at some)

  bytes_of-kept : (i : ℕ) (g : Held) → i ≢ n → V.inode i ≡ used g → (l : ℕ) → bytes_of W (block_at W g) l ≡ bytes_of V (block_at V g) l
  bytes_of-kept i g other at l =
      bytes_of-frame V W (block_at W g) (block_at V g) (λ p. bytes_in-frame V W (block_at V g p) (block_at W g p) (block-kept i g other at p) (step.blocks i g p other at)) l

  slot-kept : (i : ℕ) → i ≢ n → (x : Seen) → V.inode i ≡ x → slot_of W x ≡ slot_of V x
  slot-kept i other (free g) at = refl
  slot-kept i other (used g) at = λ z. record { generation = g.generation; node = Some (record { attributes = g.attributes; home = g.home; body = body g.kind z }) }
    where
      body : (kind : Kind) → body_of W kind g ≡ body_of V kind g
      body Directory = refl
      body File = ap (λ v. file (take g.size v)) (bytes_of-kept i g other at ((g.size + 4095) / 4096))
      body Link = ap (λ v. link (take g.size v)) (bytes_of-kept i g other at ((g.size + 4095) / 4096))

  entry-kept : (i : ℕ) → i ≢ n → (x : Seen) → V.inode i ≡ x → (place : ℕ) → entry_of W x place ≡ entry_of V x place
  entry-kept i other (free g) at place = refl
  entry-kept i other (used g) at place = by g.kind
    where
      block-is : directory_block W g (place / 512) ≡ directory_block V g (place / 512)
      block-is = directory-frame V W g g (place / 512) (block-kept i g other at (place / 512))

      in_block : (directory_block V g (place / 512) ≡ 0) ⊎ (directory_block V g (place / 512) ≡ 0 → ⊥) → entry_in W (directory_block V g (place / 512)) (place % 512) ≡ entry_in V (directory_block V g (place / 512)) (place % 512)
      in_block (inl none) = ap (λ b. entry_in W b (place % 512)) none ∙ sym (ap (λ b. entry_in V b (place % 512)) none)
      in_block (inr some) =
          let is = (at-directory V g (place / 512) some).0 in
          ap (λ v. cond (eqb (directory_block V g (place / 512)) 0) no_entry (entry_from v (place % 512)))
          (ap W.block (sym is) ∙ step.blocks i g (place / 512) other at (λ e. some (sym is ∙ e)) ∙ ap V.block is)

      by : (kind : Kind) → entry_by W kind g place ≡ entry_by V kind g place
      by Directory = ap (λ b. entry_in W b (place % 512)) block-is ∙ in_block (cases_eq (directory_block V g (place / 512)) 0)
      by File = refl
      by Link = refl

  -- the tree has the node
  pub tree-step : tree_of W ≡ with_node (tree_of V) n (Some (node_of W k))
  tree-step = λ z. record { numbers = step.form.numbers z; blocks = step.form.data_blocks z; at = λ i. each i (cases_eq i n) z }
    where
      each : (i : ℕ) → (i ≡ n) ⊎ (i ≡ n → ⊥) → slot_of W (W.inode i) ≡ cond (eqb i n) (record { generation = (slot_of V (V.inode n)).generation; node = Some (node_of W k) }) (slot_of V (V.inode i))
      each i (inl same) =
          ap (λ i. slot_of W (W.inode i)) same
          ∙ ap (slot_of W) step.new
          ∙ (λ z. record { generation = (step.generation ∙ sym (ap (λ (y : Seen). (slot_of V y).generation) step.is)) z; node = Some (node_of W k) })
          ∙ sym (ap (λ t. cond t (record { generation = (slot_of V (V.inode n)).generation; node = Some (node_of W k) }) (slot_of V (V.inode i))) (eq-eqb i n same))
      each i (inr other) =
          ap (slot_of W) (step.others i other)
          ∙ slot-kept i other (V.inode i) refl
          ∙ sym (ap (λ t. cond t (record { generation = (slot_of V (V.inode n)).generation; node = Some (node_of W k) }) (slot_of V (V.inode i))) (ne_eqb i n other))

  -- the inodes are sound
  pub inodes-step : (i : ℕ) (g : Held) → W.inode i ≡ used g → IsSoundInode W i g
  inodes-step i g at = by (cases_eq i n)
    where
      by : (i ≡ n) ⊎ (i ≡ n → ⊥) → IsSoundInode W i g
      by (inl same) =
          let e : used k ≡ used g = sym step.new ∙ ap W.inode (sym same) ∙ at in
          let q : k ≡ g = cc in
          subst (λ i. IsSoundInode W i g) (sym same) (subst (IsSoundInode W n) q step.sound)
      by (inr other) =
          sound-frame V W i g step.form.first_data step.form.data_blocks (block-kept i g other was) (λ p. step.owners i g p other was)
          (λ p some. ap length (step.blocks i g p other was some) ∙ s.sized p some) s
        where
          was : V.inode i ≡ used g
          was = sym (step.others i other) ∙ at

          s : IsSoundInode V i g
          s = sound.inodes i g was

  -- entries and homes stay
  pub homes-step : homes W ≡ homes V
  homes-step = λ z. λ i. each i (cases_eq i n) z
    where
      each : (i : ℕ) → (i ≡ n) ⊎ (i ≡ n → ⊥) → homes W i ≡ homes V i
      each i (inl same) = ap (homes W) same ∙ ap home_in step.new ∙ ap Some step.home ∙ sym (ap (homes V) same ∙ ap home_in step.is)
      each i (inr other) = ap home_in (step.others i other)

  pub entries-step : entry_at W ≡ entry_at V
  entries-step = λ z. λ i. λ place. each i place (cases_eq i n) z
    where
      each : (i place : ℕ) → (i ≡ n) ⊎ (i ≡ n → ⊥) → entry_at W i place ≡ entry_at V i place
      each i place (inl same) =
          ap (λ i. entry_at W i place) same
          ∙ ap (λ y. entry_of W y place) step.new
          ∙ step.entries place
          ∙ sym (ap (λ i. entry_at V i place) same ∙ ap (λ y. entry_of V y place) step.is)
      each i place (inr other) = ap (λ y. entry_of W y place) (step.others i other) ∙ entry-kept i other (V.inode i) refl place

  pub shows-step : Shows W (tree_of W)
  shows-step = record {
    tree = refl;
    inodes = inodes-step;
    hung = subst (λ H. IsHung H (entry_at W)) (sym homes-step) (subst (IsHung (homes V)) (sym entries-step) sound.hung);
  }

  -- a call that writes it leaves a sound disk
  pub step-sound : (call : Call) (c : Caller) (now : Time) (reply : Reply) → IsCallable call → IsCaller c → IsTime now → Op call c now (tree_of V) reply (tree_of W) → IsSoundView W
  step-sound call c now reply callable caller time op = calls-stay-sound V W (tree_of W) call c now reply callable caller time sound step.form op shows-step
