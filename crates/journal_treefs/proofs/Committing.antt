-- What an attempt at a call on a tree does on the maps of its journal.
use Rattle.std.proofs.Common.{ℕ, ◌≡◌, ◌<◌, ◌≤◌, List, length, subst, sym, ◌∙◌}
use Rattle.journal_world.specs.Addresses.{Shape}
use Rattle.journal_world.specs.Maps.{Map, Pair, SamePairs, overwritten}
use Rattle.journal_tail.specs.declared.limits.TheConstants.{MAX_UPDATES}
use Rattle.journal_tree.specs.declared.time.Time.{Time}
use Rattle.journal_tree.specs.declared.caller.Caller.{Caller}
use Rattle.journal_tree.specs.Op.{Call, Reply}
use Rattle.journal_treestore.specs.declared.place.Cut.{Cut}
use Rattle.journal_treestore.specs.Places.{shape_of, IsCut}
use Rattle.journal_treecalls.specs.Disks.{Write}
use Rattle.journal_treeobjects.specs.Maps.{IsWhole, HasSoundTree, IsTreeMap}
use Rattle.journal_treeobjects.specs.Effects.{DoesOnMaps, pairs_of}
use Rattle.journal_treeobjects.proofs.Ruling.{cut-once}
use Rattle.journal_attempts.specs.Commits.{DoesCase}
use Rattle.journal_treefs.specs.Calls.{IsCallOn}
use Rattle.journal_treefs.proofs.Few.{call-large}

module _ (R : Map → Type 0) (has_tree : (m : Map) → R m → IsTreeMap m) (layout : Shape) (c : Cut) (cut : IsCut c) (whole : IsWhole c) (is : layout ≡ shape_of c) where
  -- a map of the rule on a disk of this layout is cut so
  cut-so : (m : Map) → m.layout ≡ layout → R m → HasSoundTree c m
  cut-so m on holds =
      let t : IsTreeMap m = has_tree m holds in
      subst (λ d. HasSoundTree d m) (cut-once t.0 c t.1.cut cut t.1.whole whole (sym t.1.layout ∙ on ∙ is)) t.1

  -- a call on the tree that makes at most so many writes is one on the maps
  pub call-does : ((m : Map) → IsTreeMap m → R m) → (call : Call) (caller : Caller) (now : Time) (reply : Reply) (reads writes : List Pair) (ws : List Write) (most : ℕ) → DoesOnMaps c reads writes call caller now reply → SamePairs writes (pairs_of c ws) → length ws ≤ most
      → DoesCase R layout (HasSoundTree c) (IsCallOn c call caller now reply) (MAX_UPDATES < most) reads writes
  call-does admits call caller now reply reads writes ws most does same fits = record {
    keeps = λ m on holds agrees. admits (overwritten m writes) (c, does.sound m (cut-so m on holds) agrees);
    call_is = λ m on holds agrees. does.op m (cut-so m on holds) agrees;
    rules = cut-so;
    few = call-large c ws writes most same fits;
  }
