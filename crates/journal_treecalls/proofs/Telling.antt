-- Calls that tell what one inode says.
use Rattle.std.proofs.Common.{◌≡◌, ℕ, ◌-◌, ◌*◌, ◌≤◌, Bool, true, false, cond, List, [], Option, Some, None, Ok, Err, refl, sym, ap, subst, ◌∙◌, arith}
use Rattle.std.specs.Prelude.{Result, nat_lt}
use Rattle.std.proofs.lemmas.Bool.{ltb-false}
use Rattle.journal_tree.specs.declared.limits.TheConstants.{BLOCK_BYTES, MOST_BYTES, MOST_NAME, TRANSFER_BYTES}
use Rattle.journal_tree.specs.declared.time.Time.{Time}
use Rattle.journal_tree.specs.declared.reply.Changed.{Changed}
use Rattle.journal_tree.specs.declared.reply.Free.{Free}
use Rattle.journal_tree.specs.declared.reply.Handle.{Handle}
use Rattle.journal_tree.specs.declared.reply.Kind.{Kind}
use Rattle.journal_tree.specs.declared.reply.Kind.TheVariants.{Directory, File, Link}
use Rattle.journal_tree.specs.declared.reply.Space.{Space}
use Rattle.journal_tree.specs.declared.reply.Told.{Told}
use Rattle.journal_tree.specs.declared.caller.Caller.{Caller}
use Rattle.journal_tree.specs.declared.status.Status.{Status}
use Rattle.journal_tree.specs.declared.status.Status.TheVariants.{Stale}
use Rattle.journal_tree.specs.Calls.{target, told}
use Rattle.journal_tree.specs.Calls.Target.{gone}
use Rattle.journal_tree.specs.Contents.{commit_body}
use Rattle.journal_tree.specs.Facts.{IsFree, Facts, NameFacts, PROPERTIES}
use Rattle.journal_tree.specs.Op.{Call, Reply, Op}
use Rattle.journal_tree.specs.Op.Call.{fsstat, fsinfo, pathconf, commit}
use Rattle.journal_tree.specs.Op.Reply.{space, facts, name_facts, committed}
use Rattle.journal_tree.specs.Op.Op.{answers_fsstat, answers_fsinfo, answers_pathconf, answers_commit}
use Rattle.journal_treestore.specs.Views.{View, body_of, node_of, tree_of}
use Rattle.journal_treecalls.specs.declared.node.Record.{Record}
use Rattle.journal_treecalls.specs.declared.facts.FactsReply.{FactsReply}
use Rattle.journal_treecalls.specs.declared.facts.NameFactsReply.{NameFactsReply}
use Rattle.journal_treecalls.specs.Disks.{Write, Learns, Does}
use Rattle.journal_treecalls.specs.Targets.{held, IsNode, IsTarget, told_of}
use Rattle.journal_treecalls.specs.Facts.{at_most, bounded_free, space_of, facts_of, facts_told, name_facts_of, name_facts_told, committed_by, committed_of}
use Rattle.journal_treecalls.proofs.Learning.{does-reads}
use Rattle.journal_treecalls.proofs.Learned.{AreSound}
use Rattle.journal_treecalls.proofs.Cases.{at-gone, at-node, node-told}

at_most-few : (n most : ℕ) → at_most n most ≤ most
at_most-few n most = by (nat_lt most n) refl
  where
    by : (b : Bool) → nat_lt most n ≡ b → cond b most n ≤ most
    by true is = omega arith
    by false is = ltb-false most n is

abbrev facts_by : Told → Facts
facts_by t = record { node = t; transfer = TRANSFER_BYTES; multiple = BLOCK_BYTES; file = MOST_BYTES; step_secs = 0; step_nanos = 1; properties = PROPERTIES }

abbrev name_facts_by : Told → NameFacts
name_facts_by t = record { node = t; links = 1; name = MOST_NAME; refuses_long = true; owner_restricted = true; ignores_case = false; keeps_case = true }

abbrev space_by : ℕ → ℕ → Free → Told → Space
space_by blocks numbers free t = record { node = t; total_bytes = BLOCK_BYTES * blocks; free_bytes = BLOCK_BYTES * free.blocks; total_nodes = numbers - 1; free_nodes = free.numbers }

module _ (old new : View → Type 0) (h : Handle) (found : Option Record) (l : Learns old new (λ V. IsTarget V h found)) (ws : List Write) (none : ws ≡ []) (sound : AreSound new) (c : Caller) (now : Time) where
  told-none : (call : Call) (reply : Reply) → ((V : View) → target (tree_of V) h ≡ gone → Op call c now (tree_of V) reply (tree_of V)) → found ≡ None → Does new ws call c now reply
  told-none call reply f is = does-reads new ws call c now reply none sound (λ V m. f V (subst (IsTarget V h) is (l.now V m)))

  told-some : (call : Call) (reply : Reply) (r : Record) → ((V : View) → new V → IsNode V h r → Op call c now (tree_of V) reply (tree_of V)) → found ≡ Some r → Does new ws call c now reply
  told-some call reply r f is = does-reads new ws call c now reply none sound (λ V m. f V m (subst (IsTarget V h) is (l.now V m)))

  pub fsinfo-none : found ≡ None → Does new ws (fsinfo h) c now (facts (facts_told (Err Stale)))
  fsinfo-none is = told-none (fsinfo h) (facts (Err Stale)) (λ V g. answers_fsinfo h c now (tree_of V) (tree_of V) (Err Stale) (sym (at-gone V h _ g))) is

  pub fsinfo-some : (r : Record) (t : FactsReply) → found ≡ Some r → t ≡ facts_of h.number r.head → Does new ws (fsinfo h) c now (facts (facts_told (Ok t)))
  fsinfo-some r t is tells = subst (λ t. Does new ws (fsinfo h) c now (facts (facts_told (Ok t)))) (sym tells)
      (told-some (fsinfo h) (facts (facts_told (Ok (facts_of h.number r.head)))) r (λ V m n. answers_fsinfo h c now (tree_of V) (tree_of V) (Ok (facts_by (told_of h.number r.head))) (sym (
      at-node V h (λ n x. (Ok (facts_by (told n x)), tree_of V)) r n
      ∙ ap (λ t. (Ok (facts_by t), tree_of V)) (node-told V h r (sound V m) n)))) is)

  pub pathconf-none : found ≡ None → Does new ws (pathconf h) c now (name_facts (name_facts_told (Err Stale)))
  pathconf-none is = told-none (pathconf h) (name_facts (Err Stale)) (λ V g. answers_pathconf h c now (tree_of V) (tree_of V) (Err Stale) (sym (at-gone V h _ g))) is

  pub pathconf-some : (r : Record) (t : NameFactsReply) → found ≡ Some r → t ≡ name_facts_of h.number r.head → Does new ws (pathconf h) c now (name_facts (name_facts_told (Ok t)))
  pathconf-some r t is tells = subst (λ t. Does new ws (pathconf h) c now (name_facts (name_facts_told (Ok t)))) (sym tells)
      (told-some (pathconf h) (name_facts (name_facts_told (Ok (name_facts_of h.number r.head)))) r (λ V m n. answers_pathconf h c now (tree_of V) (tree_of V) (Ok (name_facts_by (told_of h.number r.head))) (sym (
      at-node V h (λ n x. (Ok (name_facts_by (told n x)), tree_of V)) r n
      ∙ ap (λ t. (Ok (name_facts_by t), tree_of V)) (node-told V h r (sound V m) n)))) is)

  module _ (blocks numbers : ℕ) (free : Free) (all_blocks : (V : View) → old V → V.data_blocks ≡ blocks) (all_numbers : (V : View) → old V → V.numbers ≡ numbers) where
    is_free : (V : View) → new V → IsFree (tree_of V) (bounded_free blocks numbers free)
    is_free V m = record {
      blocks = subst (λ n. at_most free.blocks blocks ≤ n) (sym (all_blocks V (l.before V m))) (at_most-few free.blocks blocks);
      numbers = subst (λ n. at_most free.numbers (numbers - 1) ≤ n - 1) (sym (all_numbers V (l.before V m))) (at_most-few free.numbers (numbers - 1));
    }

    pub fsstat-none : found ≡ None → Does new ws (fsstat h) c now (space (Err Stale))
    fsstat-none is = does-reads new ws (fsstat h) c now (space (Err Stale)) none sound (λ V m. answers_fsstat h (bounded_free blocks numbers free) c now (tree_of V) (tree_of V) (Err Stale) (is_free V m) (sym (at-gone V h _ (subst (IsTarget V h) is (l.now V m)))))

    pub fsstat-some : (r : Record) (t : Told) (reply : Space) → found ≡ Some r → t ≡ told_of h.number r.head → reply ≡ space_of t blocks numbers free → Does new ws (fsstat h) c now (space (Ok reply))
    fsstat-some r t reply is tells is_reply = subst (λ reply. Does new ws (fsstat h) c now (space (Ok reply))) (sym (is_reply ∙ ap (λ t. space_of t blocks numbers free) tells))
        (told-some (fsstat h) (space (Ok (space_of (told_of h.number r.head) blocks numbers free))) r (λ V m n. answers_fsstat h (bounded_free blocks numbers free) c now (tree_of V) (tree_of V) (Ok (space_of (told_of h.number r.head) blocks numbers free)) (is_free V m) (sym (
        at-node V h (λ n x. (Ok (space_by V.data_blocks V.numbers (bounded_free blocks numbers free) (told n x)), tree_of V)) r n
        ∙ (λ i. (Ok (space_by (all_blocks V (l.before V m) i) (all_numbers V (l.before V m) i) (bounded_free blocks numbers free) (node-told V h r (sound V m) n i)), tree_of V))))) is)

  pub commit-none : found ≡ None → Does new ws (commit h) c now (committed (Err Stale))
  commit-none is = told-none (commit h) (committed (Err Stale)) (λ V g. answers_commit h c now (tree_of V) (tree_of V) (Err Stale) (sym (at-gone V h _ g))) is

  pub commit-some : (r : Record) (reply : Result Changed Status) → found ≡ Some r → reply ≡ committed_of h.number r.head → Does new ws (commit h) c now (committed reply)
  commit-some r reply is tells = subst (λ reply. Does new ws (commit h) c now (committed reply)) (sym tells)
      (told-some (commit h) (committed (committed_of h.number r.head)) r (λ V m n. answers_commit h c now (tree_of V) (tree_of V) (committed_of h.number r.head) (sym (
      at-node V h (λ n x. commit_body (tree_of V) n x x.body) r n
      ∙ by V m n r.head.kind))) is)
    where
      by : (V : View) → new V → IsNode V h r → (k : Kind) → commit_body (tree_of V) h.number (node_of V (held r)) (body_of V k (held r)) ≡ (committed_by k h.number r.head, tree_of V)
      by V m n Directory = refl
      by V m n Link = refl
      by V m n File = ap (λ (t : Told). (Ok (record { before = t; after = t }), tree_of V)) (node-told V h r (sound V m) n)
