-- READ.
use Rattle.std.proofs.Common.{◌≡◌, ℕ, ◌+◌, ◌-◌, ◌*◌, ◌/◌, ◌%◌, ◌<◌, ◌≤◌, Bool, true, false, cond, List, [], length, get_or, take, drop, Option, Some, None, Ok, Err, refl, sym, ap, subst, ◌⊎◌, inl, inr, ◌∙◌, arith}
use Rattle.std.specs.Prelude.{Result, nat_le, slice_range}
use Rattle.std.proofs.lemmas.Bool.{cases_lt, and_right, lt-leb}
use Rattle.std.proofs.lemmas.List.{ext_get_or, nil_from_length}
use Rattle.journal_tree.specs.declared.limits.TheConstants.{MOST_BYTES, MOST_FILE_BLOCKS}
use Rattle.journal_tree.specs.declared.time.Time.{Time}
use Rattle.journal_tree.specs.declared.reply.Handle.{Handle}
use Rattle.journal_tree.specs.declared.reply.Kind.{Kind}
use Rattle.journal_tree.specs.declared.reply.Kind.TheVariants.{Directory, File, Link}
use Rattle.journal_tree.specs.declared.caller.Caller.{Caller}
use Rattle.journal_tree.specs.declared.status.Status.{Status}
use Rattle.journal_tree.specs.declared.status.Status.TheVariants.{NoAccess, Stale}
use Rattle.journal_tree.specs.Fit.{IsFitBody}
use Rattle.journal_tree.specs.Rights.{may_fetch}
use Rattle.journal_tree.specs.Calls.{refused, target}
use Rattle.journal_tree.specs.Calls.Target.{gone}
use Rattle.journal_tree.specs.Contents.{portion, read_body, read_case}
use Rattle.journal_tree.specs.Op.{Op}
use Rattle.journal_tree.specs.Op.Call.{read}
use Rattle.journal_tree.specs.Op.Reply.{bytes_read}
use Rattle.journal_tree.specs.Op.Op.{answers_read}
use Rattle.journal_treestore.specs.Inodes.{name_from}
use Rattle.journal_treestore.specs.Views.{Held, View, bytes_in, content, body_of, node_of, tree_of}
use Rattle.journal_treestore.specs.Views.Seen.{used}
use Rattle.journal_treestore.specs.Sound.{IsSoundInode, IsSoundView}
use Rattle.journal_treestore.proofs.Viewing.{inode-node}
use Rattle.journal_treecalls.specs.declared.node.Record.{Record}
use Rattle.journal_treecalls.specs.declared.portion.ReadReply.{ReadReply}
use Rattle.journal_treecalls.specs.Disks.{Write, Learns, Does}
use Rattle.journal_treecalls.specs.Targets.{held, IsNode, IsTarget}
use Rattle.journal_treecalls.specs.Fetches.{is_whole, file_blocks, IsFetched}
use Rattle.journal_treecalls.specs.Portions.{reading_by, reading_status, reach_of, portion_told, no_span, HasPortion, ReadsNode}
use Rattle.journal_treecalls.specs.Portions.ReadsNode.{kept, fetches}
use Rattle.journal_treecalls.proofs.Learning.{learns-as, does-reads}
use Rattle.journal_treecalls.proofs.Learned.{AreSound}
use Rattle.journal_treecalls.proofs.Cases.{at-gone, at-node, node-told, length-content}
use Rattle.journal_treecalls.proofs.Holding.{content-at}
use Rattle.journal_treecalls.proofs.Numbers.{file-named}
use Rattle.journal_treecalls.proofs.Fetching.{range-long, range-at}

-- ── the bytes ──

-- no block lies in no bytes
none-whole : (j : ℕ) → is_whole (record { from = 0; to = 0 }) j ≡ false
none-whole j = and_right (nat_le 0 (4096 * j)) (nat_le (4096 * (j + 1)) 0) (lt-leb (4096 * (j + 1)) 0 (omega arith))

pub small-file : (V : View) (n : ℕ) (x : Held) → IsSoundView V → V.inode n ≡ used x → x.kind ≡ File → x.size ≤ MOST_BYTES
small-file V n x sound is file_is = subst (λ l. l ≤ MOST_BYTES) (length-content V n x (sound.inodes n x is))
    (subst IsFitBody (ap (λ kind. body_of V kind x) file_is) (sound.fit.nodes n (node_of V x) (inode-node V n x is)).body)

module _ (V : View) (n : ℕ) (r : Record) (offset count : ℕ) (bytes : List ℕ) (sound : IsSoundInode V n (held r)) (small : r.head.size ≤ MOST_BYTES)
    (long : length bytes ≡ reach_of r.head.size offset count - offset) (fetched : IsFetched V (file_blocks V r.head) no_span offset MOST_FILE_BLOCKS bytes) where
  abbrev reach : ℕ
  reach = reach_of r.head.size offset count

  whole : length (content V (held r)) ≡ r.head.size
  whole = length-content V n (held r) sound

  -- where some are read, they end within the file
  inside : offset < r.head.size → reach_of r.head.size offset count ≤ r.head.size
  inside before = omega (arith, before)

  each : (k : ℕ) → k < length bytes → get_or bytes k 0 ≡ get_or (content V (held r)) (offset + k) 0
  each k low =
      fetched.done k low (omega (arith, long, low, small)) (none-whole ((offset + k) / 4096))
      ∙ ap (λ b. get_or (bytes_in V b) ((offset + k) % 4096) 0) (sym (file-named V r.head (name_from r.bytes) ((offset + k) / 4096)))
      ∙ sym (content-at V n (held r) sound (offset + k) (omega (arith, long, low)))

  pub bytes-read : bytes ≡ slice_range (content V (held r)) offset (reach_of r.head.size offset count)
  bytes-read = by (cases_lt offset r.head.size)
    where
      by : (offset < r.head.size) ⊎ (r.head.size ≤ offset) → bytes ≡ slice_range (content V (held r)) offset (reach_of r.head.size offset count)
      by (inl before) = ext_get_or 0 bytes (slice_range (content V (held r)) offset reach) (long ∙ sym same) (λ k low. each k low ∙ sym (range-at (content V (held r)) offset reach k (omega (arith, long, low))))
        where
          same : length (slice_range (content V (held r)) offset reach) ≡ reach - offset
          same = range-long (content V (held r)) offset reach (let w = whole in let i = inside before in omega (arith, w, i))
      by (inr past) =
          nil_from_length bytes (long ∙ none)
          ∙ sym (ap (λ m. take m (drop offset (content V (held r)))) none)
        where
          none : reach_of r.head.size offset count - offset ≡ 0
          none = omega (arith, past)

-- ── the call ──

module _ (V : View) (h : Handle) (c : Caller) (offset count : ℕ) (now : Time) where
  pub read-gone : target (tree_of V) h ≡ gone → Op (read h offset count) c now (tree_of V) (bytes_read (Err Stale)) (tree_of V)
  read-gone g = answers_read h offset count c now (tree_of V) (tree_of V) (Err Stale) (sym (at-gone V h _ g))

  module _ (r : Record) (sound : IsSoundView V) (node : IsNode V h r) where
    at-body : read_case c offset count (tree_of V) (target (tree_of V) h) ≡ read_body c offset count (tree_of V) h.number (node_of V (held r)) (body_of V r.head.kind (held r))
    at-body = at-node V h (λ n x. read_body c offset count (tree_of V) n x x.body) r node

    pub read-refused : (status : Status) → reading_status c r.head ≡ Some status → Op (read h offset count) c now (tree_of V) (bytes_read (Err status)) (tree_of V)
    read-refused status why = answers_read h offset count c now (tree_of V) (tree_of V) (Err status) (sym (at-body ∙ by r.head.kind (may_fetch c r.head.attributes) refl why))
      where
        by : (k : Kind) (may : Bool) → may_fetch c r.head.attributes ≡ may → reading_by k may ≡ Some status → read_body c offset count (tree_of V) h.number (node_of V (held r)) (body_of V k (held r)) ≡ refused status (tree_of V)
        by Directory may m is = ap (λ s. refused s (tree_of V)) (cc)
        by Link may m is = ap (λ s. refused s (tree_of V)) (cc)
        by File true m is = absurd (cc (is))
        by File false m is =
            ap (λ b. cond b (Ok (portion offset count h.number (node_of V (held r)) (content V (held r))), tree_of V) (refused NoAccess (tree_of V))) m
            ∙ ap (λ s. refused s (tree_of V)) (cc)

    module _ (on : reading_status c r.head ≡ None) where
      passes : (k : Kind) (may : Bool) → reading_by k may ≡ None → (k ≡ File) × (may ≡ true)
      passes Directory may is = absurd (cc (is))
      passes Link may is = absurd (cc (is))
      passes File true is = (refl, refl)
      passes File false is = absurd (cc (is))

      a_file : r.head.kind ≡ File
      a_file = (passes r.head.kind (may_fetch c r.head.attributes) on).0

      may : may_fetch c r.head.attributes ≡ true
      may = (passes r.head.kind (may_fetch c r.head.attributes) on).1

      held-long : length (content V (held r)) ≡ r.head.size
      held-long = length-content V h.number (held r) (sound.inodes h.number (held r) node.is)

      pub read-done : (reply : ReadReply) → HasPortion V h.number r.head offset count reply → Op (read h offset count) c now (tree_of V) (bytes_read (portion_told (Ok reply))) (tree_of V)
      read-done reply has = answers_read h offset count c now (tree_of V) (tree_of V) (portion_told (Ok reply)) (sym (
          at-body
          ∙ ap (λ k. read_body c offset count (tree_of V) h.number (node_of V (held r)) (body_of V k (held r))) a_file
          ∙ ap (λ b. cond b (Ok (portion offset count h.number (node_of V (held r)) (content V (held r))), tree_of V) (refused NoAccess (tree_of V))) may
          ∙ (λ i. (
            Ok (record {
              file = (node-told V h r sound node ∙ sym has.file) i;
              bytes = (ap (λ m. slice_range (content V (held r)) offset (reach_of m offset count)) held-long ∙ sym (bytes-read V h.number r offset count reply.bytes.items (sound.inodes h.number (held r) node.is) (small-file V h.number (held r) sound node.is a_file) has.long has.fetched)) i;
              is_end = (ap (λ m. nat_le m (reach_of m offset count)) held-long ∙ sym has.ends) i;
            }),
            tree_of V,
          ))))

module _ (first old new : View → Type 0) (sound : AreSound new) (ws : List Write) (none : ws ≡ []) (h : Handle) (c : Caller) (offset count : ℕ) (now : Time) (found : Option Record) (l : Learns first old (λ V. IsTarget V h found)) where
  pub read-none : found ≡ None → ((V : View) → new V → old V) → Does new ws (read h offset count) c now (bytes_read (portion_told (Err Stale)))
  read-none is same = does-reads new ws (read h offset count) c now (bytes_read (Err Stale)) none sound (λ V m. read-gone V h c offset count now (subst (IsTarget V h) is (l.now V (same V m))))

  pub read-some : (r : Record) (reply : Result ReadReply Status) → found ≡ Some r → Learns old new (λ V. ReadsNode V c h.number r offset count reply) → Does new ws (read h offset count) c now (bytes_read (portion_told reply))
  read-some r reply is k = does-reads new ws (read h offset count) c now (bytes_read (portion_told reply)) none sound (λ V m. by V m (subst (IsTarget V h) is (l.now V (k.before V m))) reply (k.now V m))
    where
      by : (V : View) → new V → IsNode V h r → (reply : Result ReadReply Status) → ReadsNode V c h.number r offset count reply → Op (read h offset count) c now (tree_of V) (bytes_read (portion_told reply)) (tree_of V)
      by V m node _ (kept status why) = read-refused V h c offset count now r (sound V m) node status why
      by V m node _ (fetches reply on has) = read-done V h c offset count now r (sound V m) node on reply has

-- ── what is learned ──

pub node-kept : (old : View → Type 0) (c : Caller) (n : ℕ) (r : Record) (offset count : ℕ) (o : Option Status) (status : Status) → o ≡ reading_status c r.head → o ≡ Some status → Learns old old (λ V. ReadsNode V c n r offset count (Err status))
node-kept old c n r offset count o status is why = record { before = λ V m. m; now = λ V m. kept status (sym is ∙ why) }

pub node-read : (old new : View → Type 0) (c : Caller) (n : ℕ) (r : Record) (offset count : ℕ) (o : Option Status) (reply : ReadReply) → o ≡ reading_status c r.head → o ≡ None → Learns old new (λ V. HasPortion V n r.head offset count reply)
    → Learns old new (λ V. ReadsNode V c n r offset count (Ok reply))
node-read old new c n r offset count o reply is on l = learns-as old new _ _ l (λ V m has. fetches reply (sym is ∙ on) has)
