-- Ways through the cases of a call, from what was read.
use Rattle.std.proofs.Common.{◌≡◌, ℕ, zero, suc, ◌+◌, ◌*◌, ◌/◌, ◌≤◌, cond, length, refl, sym, ap, ◌⊎◌, inl, inr, ◌∙◌, length-append, arith}
use Rattle.std.specs.Prelude.{◌==◌, ◌≢◌}
use Rattle.std.proofs.lemmas.Bool.{cases_eq, eq-eqb, ne_eqb}
use Rattle.std.proofs.lemmas.List.{length-take-le}
use Rattle.journal_tree.specs.declared.reply.Handle.{Handle}
use Rattle.journal_tree.specs.declared.reply.Kind.{Kind}
use Rattle.journal_tree.specs.declared.reply.Kind.TheVariants.{Directory, File, Link}
use Rattle.journal_tree.specs.declared.caller.Caller.{Caller}
use Rattle.journal_tree.specs.declared.status.Status.{Status}
use Rattle.journal_tree.specs.declared.status.Status.TheVariants.{NoAccess, NotDirectory, Stale}
use Rattle.journal_tree.specs.Trees.{Node, Slot, is_directory}
use Rattle.journal_tree.specs.Rights.{may_search}
use Rattle.journal_tree.specs.Calls.{Outcome, refused, told, node_or_gone, target, on_node, in_searched, kind_of, size_of}
use Rattle.journal_tree.specs.Calls.Target.{gone, at}
use Rattle.journal_tree.proofs.Hanging.{low}
use Rattle.journal_treecalls.specs.declared.node.Record.{Record}
use Rattle.journal_treestore.specs.Views.{Held, Seen, View, zero_block, block_at, bytes_in, bytes_of, content, body_of, node_of, slot_of, tree_of}
use Rattle.journal_treestore.specs.Views.Seen.{free, used}
use Rattle.journal_treestore.specs.Sound.{IsSoundInode, IsSoundView}
use Rattle.journal_treestore.proofs.Recording.{zero-long}
use Rattle.journal_treestore.proofs.Viewing.{inode-node}
use Rattle.journal_treecalls.specs.Targets.{held, IsNode, IsSearched, IsUnsearched, told_of}
use Rattle.journal_treecalls.specs.Targets.IsUnsearched.{stale, other_kind, no_right}

-- ── what a handle names ──

pub target-free : (V : View) (h : Handle) (g : ℕ) → V.inode h.number ≡ free g → target (tree_of V) h ≡ gone
target-free V h g is = ap (λ (s : Slot). node_or_gone h.number (s.generation == h.generation) s.node) (ap (slot_of V) is)

pub target-used : (V : View) (h : Handle) (x : Held) → V.inode h.number ≡ used x → target (tree_of V) h ≡ cond (x.generation == h.generation) (at h.number (node_of V x)) gone
target-used V h x is = ap (λ (s : Slot). node_or_gone h.number (s.generation == h.generation) s.node) (ap (slot_of V) is)

pub target-old : (V : View) (h : Handle) (x : Held) → V.inode h.number ≡ used x → x.generation ≢ h.generation → target (tree_of V) h ≡ gone
target-old V h x is old = target-used V h x is ∙ ap (λ b. cond b (at h.number (node_of V x)) gone) (ne_eqb x.generation h.generation old)

pub target-high : (V : View) (h : Handle) → IsSoundView V → V.numbers ≤ h.number → target (tree_of V) h ≡ gone
target-high V h sound high = by (V.inode h.number) refl
  where
    by : (y : Seen) → V.inode h.number ≡ y → target (tree_of V) h ≡ gone
    by (free g) is = target-free V h g is
    by (used x) is = absurd (let l = low (tree_of V) h.number (node_of V x) sound.tree (inode-node V h.number x is) in omega (arith, l, high))

pub target-node : (V : View) (h : Handle) (r : Record) → (n : IsNode V h r) → target (tree_of V) h ≡ at h.number (node_of V (held r))
target-node V h r n =
    target-used V h (held r) n.is
    ∙ ap (λ b. cond b (at h.number (node_of V (held r))) gone) (eq-eqb r.head.generation h.generation n.current)

-- ── what is told of a node ──

pub length-bytes_of : (V : View) (n : ℕ) (x : Held) → IsSoundInode V n x → (k : ℕ) → length (bytes_of V (block_at V x) k) ≡ 4096 * k
length-bytes_of V n x s zero = refl
length-bytes_of V n x s (suc k) =
    let rest = length-bytes_of V n x s k in
    let one = one_long (cases_eq (block_at V x k) 0) in
    length-append (bytes_of V (block_at V x) k) (bytes_in V (block_at V x k)) ∙ omega (arith, rest, one)
  where
    one_long : (block_at V x k ≡ 0) ⊎ (block_at V x k ≡ 0 → ⊥) → length (bytes_in V (block_at V x k)) ≡ 4096
    one_long (inl none) = ap (λ b. length (cond b zero_block (V.block (block_at V x k)))) (eq-eqb (block_at V x k) 0 none) ∙ zero-long
    one_long (inr some) = ap (λ b. length (cond b zero_block (V.block (block_at V x k)))) (ne_eqb (block_at V x k) 0 some) ∙ s.sized k some

pub length-content : (V : View) (n : ℕ) (x : Held) → IsSoundInode V n x → length (content V x) ≡ x.size
length-content V n x s = length-take-le x.size (bytes_of V (block_at V x) ((x.size + 4095) / 4096)) (let l = length-bytes_of V n x s ((x.size + 4095) / 4096) in omega (arith, l))

pub told-is : (V : View) (n : ℕ) (x : Held) → IsSoundInode V n x → told n (node_of V x) ≡ record { number = n; kind = x.kind; size = x.size; attributes = x.attributes }
told-is V n x s = by x.kind refl
  where
    by : (k : Kind) → x.kind ≡ k → told n (node_of V x) ≡ record { number = n; kind = x.kind; size = x.size; attributes = x.attributes }
    by Directory is = λ i. record {
      number = n;
      kind = (ap (λ k. kind_of (body_of V k x)) is ∙ sym is) i;
      size = (ap (λ k. size_of (body_of V k x)) is ∙ (let w = s.whole is in let e = w.1 in let r : 8 * (x.size / 8) ≡ x.size = omega (arith, e) in r)) i;
      attributes = x.attributes;
    }
    by File is = λ i. record {
      number = n;
      kind = (ap (λ k. kind_of (body_of V k x)) is ∙ sym is) i;
      size = (ap (λ k. size_of (body_of V k x)) is ∙ length-content V n x s) i;
      attributes = x.attributes;
    }
    by Link is = λ i. record {
      number = n;
      kind = (ap (λ k. kind_of (body_of V k x)) is ∙ sym is) i;
      size = (ap (λ k. size_of (body_of V k x)) is ∙ length-content V n x s) i;
      attributes = x.attributes;
    }

pub node-told : (V : View) (h : Handle) (r : Record) → IsSoundView V → (n : IsNode V h r) → told h.number (node_of V (held r)) ≡ told_of h.number r.head
node-told V h r sound n = told-is V h.number (held r) (sound.inodes h.number (held r) n.is)

-- ── the cases with which calls begin ──

module _ {A : Type 0} (V : View) (h : Handle) (f : ℕ → Node → Outcome A) where
  pub at-gone : target (tree_of V) h ≡ gone → on_node (tree_of V) (target (tree_of V) h) f ≡ refused Stale (tree_of V)
  at-gone is = ap (λ t. on_node (tree_of V) t f) is

  pub at-node : (r : Record) → (n : IsNode V h r) → on_node (tree_of V) (target (tree_of V) h) f ≡ f h.number (node_of V (held r))
  at-node r n = ap (λ t. on_node (tree_of V) t f) (target-node V h r n)

module _ {A : Type 0} (V : View) (h : Handle) (f : ℕ → Node → Outcome A) (c : Caller) where
  at-kind : (r : Record) → (n : IsNode V h r) → (kind : Kind) → r.head.kind ≡ kind
      → in_searched c (tree_of V) (target (tree_of V) h) f
      ≡ cond (is_directory (body_of V kind (held r))) (cond (may_search c r.head.attributes) (f h.number (node_of V (held r))) (refused NoAccess (tree_of V))) (refused NotDirectory (tree_of V))
  at-kind r n kind is =
      ap (λ t. in_searched c (tree_of V) t f) (target-node V h r n)
      ∙ ap (λ k. cond (is_directory (body_of V k (held r))) (cond (may_search c r.head.attributes) (f h.number (node_of V (held r))) (refused NoAccess (tree_of V))) (refused NotDirectory (tree_of V))) is

  pub at-searched : (r : Record) → (s : IsSearched V c h r) → in_searched c (tree_of V) (target (tree_of V) h) f ≡ f h.number (node_of V (held r))
  at-searched r s =
      at-kind r s.node Directory s.kind
      ∙ ap (λ b. cond b (f h.number (node_of V (held r))) (refused NoAccess (tree_of V))) s.may

  pub at-unsearched : (status : Status) → IsUnsearched V c h status → in_searched c (tree_of V) (target (tree_of V) h) f ≡ refused status (tree_of V)
  at-unsearched status (stale is) = ap (λ t. in_searched c (tree_of V) t f) is
  at-unsearched status (other_kind r n other) = at-kind r n r.head.kind refl ∙ by r.head.kind other
    where
      by : (kind : Kind) → kind ≢ Directory → cond (is_directory (body_of V kind (held r))) (cond (may_search c r.head.attributes) (f h.number (node_of V (held r))) (refused NoAccess (tree_of V))) (refused NotDirectory (tree_of V)) ≡ refused NotDirectory (tree_of V)
      by Directory other = absurd (other refl)
      by File other = refl
      by Link other = refl
  at-unsearched status (no_right r n is may) = at-kind r n Directory is ∙ ap (λ b. cond b (f h.number (node_of V (held r))) (refused NoAccess (tree_of V))) may
