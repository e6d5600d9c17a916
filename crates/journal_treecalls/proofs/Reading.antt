-- The answers of calls that only read.
use Rattle.std.proofs.Common.{◌≡◌, ℕ, List, Ok, Err, refl, sym, ap, ◌∙◌}
use Rattle.std.specs.Prelude.{bit_and, Result}
use Rattle.journal_tree.specs.declared.time.Time.{Time}
use Rattle.journal_tree.specs.declared.reply.Handle.{Handle}
use Rattle.journal_tree.specs.declared.reply.Found.{Found}
use Rattle.journal_tree.specs.declared.reply.Kind.{Kind}
use Rattle.journal_tree.specs.declared.reply.Kind.TheVariants.{Directory, File, Link}
use Rattle.journal_tree.specs.declared.caller.Caller.{Caller}
use Rattle.journal_tree.specs.declared.status.Status.{Status}
use Rattle.journal_tree.specs.declared.status.Status.TheVariants.{Stale}
use Rattle.journal_tree.specs.Calls.{told, name_kind}
use Rattle.journal_tree.specs.Attributes.{granted}
use Rattle.journal_tree.specs.Names.{lookup_name}
use Rattle.journal_tree.specs.Op.{Op}
use Rattle.journal_tree.specs.Op.Call.{getattr, access, lookup}
use Rattle.journal_tree.specs.Op.Reply.{got, accessed, found}
use Rattle.journal_tree.specs.Op.Op.{answers_getattr, answers_access, answers_lookup}
use Rattle.journal_tree.specs.Calls.{target}
use Rattle.journal_tree.specs.Calls.Target.{gone}
use Rattle.journal_treecalls.specs.declared.node.Record.{Record}
use Rattle.journal_treestore.specs.Views.{Held, View, body_of, tree_of}
use Rattle.journal_treestore.specs.Sound.{IsSoundView}
use Rattle.journal_treecalls.specs.Targets.{held, IsNode, IsSearched, IsUnsearched, told_of}
use Rattle.journal_treecalls.specs.Replies.{granted_to, LooksUp}
use Rattle.journal_treecalls.proofs.Cases.{at-gone, at-node, at-searched, at-unsearched, node-told}

module _ (V : View) (h : Handle) (c : Caller) (now : Time) where
  pub getattr-gone : target (tree_of V) h ≡ gone → Op (getattr h) c now (tree_of V) (got (Err Stale)) (tree_of V)
  getattr-gone is = answers_getattr h c now (tree_of V) (tree_of V) (Err Stale) (sym (at-gone V h _ is))

  pub getattr-node : (r : Record) → IsSoundView V → IsNode V h r → Op (getattr h) c now (tree_of V) (got (Ok (told_of h.number r.head))) (tree_of V)
  getattr-node r sound n = answers_getattr h c now (tree_of V) (tree_of V) (Ok (told_of h.number r.head)) (sym (
      at-node V h (λ n x. (Ok (told n x), tree_of V)) r n
      ∙ ap (λ t. (Ok t, tree_of V)) (node-told V h r sound n)))

  pub access-gone : (asked : ℕ) → target (tree_of V) h ≡ gone → Op (access h asked) c now (tree_of V) (accessed (Err Stale)) (tree_of V)
  access-gone asked is = answers_access h asked c now (tree_of V) (tree_of V) (Err Stale) (sym (at-gone V h _ is))

  granted-is : (x : Held) (kind : Kind) → granted c x.attributes (body_of V kind x) ≡ granted_to c x.attributes kind
  granted-is x Directory = refl
  granted-is x File = refl
  granted-is x Link = refl

  pub access-node : (asked : ℕ) (r : Record) → IsSoundView V → IsNode V h r
      → Op (access h asked) c now (tree_of V) (accessed (Ok (record { node = told_of h.number r.head; rights = bit_and asked (granted_to c r.head.attributes r.head.kind) }))) (tree_of V)
  access-node asked r sound n = answers_access h asked c now (tree_of V) (tree_of V) (Ok (record { node = told_of h.number r.head; rights = bit_and asked (granted_to c r.head.attributes r.head.kind) })) (sym (
      at-node V h (λ n x. (Ok (record { node = told n x; rights = bit_and asked (granted c x.attributes x.body) }), tree_of V)) r n
      ∙ (λ i. (Ok (record { node = node-told V h r sound n i; rights = bit_and asked (granted-is (held r) r.head.kind i) }), tree_of V))))

  pub lookup-unsearched : (name : List ℕ) (status : Status) → IsUnsearched V c h status → Op (lookup h name) c now (tree_of V) (found (Err status)) (tree_of V)
  lookup-unsearched name status why = answers_lookup h name c now (tree_of V) (tree_of V) (Err status) (sym (at-unsearched V h (λ d x. lookup_name (tree_of V) d x (name_kind name) name) c status why))

  pub lookup-searched : (name : List ℕ) (r : Record) (reply : Result Found Status) → IsSearched V c h r → LooksUp V h.number r name reply → Op (lookup h name) c now (tree_of V) (found reply) (tree_of V)
  lookup-searched name r reply s looks = answers_lookup h name c now (tree_of V) (tree_of V) reply (sym (
      at-searched V h (λ d x. lookup_name (tree_of V) d x (name_kind name) name) c r s
      ∙ looks s.node.is s.kind))
