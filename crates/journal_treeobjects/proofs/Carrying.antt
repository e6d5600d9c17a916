-- A call on a disk is one on the maps that the disk may have been.
use Rattle.std.proofs.Common.{List, refl, sym, subst, ◌∙◌}
use Rattle.journal_world.specs.Maps.{Map, Pair, SamePairs, Agrees}
use Rattle.journal_tree.specs.declared.time.Time.{Time}
use Rattle.journal_tree.specs.declared.caller.Caller.{Caller}
use Rattle.journal_tree.specs.Op.{Call, Reply, Op}
use Rattle.journal_treestore.specs.Places.{IsCut}
use Rattle.journal_treestore.specs.Views.{View, tree_of}
use Rattle.journal_treestore.specs.Sound.{IsSoundView}
use Rattle.journal_treecalls.specs.Disks.{Does}
use Rattle.journal_treeobjects.specs.Maps.{view_of, tree_at, HasSoundTree}
use Rattle.journal_treeobjects.specs.Effects.{pairs_of, AreOnDisk, ShowsWrites, DoesOnMaps}
use Rattle.journal_treeobjects.specs.States.{TreeState, may_be}
use Rattle.journal_treeobjects.specs.Reads.{IsAmong}
use Rattle.journal_treeobjects.proofs.Keeping.{gives-agrees}
use Rattle.journal_treeobjects.proofs.Overwriting.{writes-show}

pub call-carried : (t : TreeState) (reads writes : List Pair) → IsAmong t.kept reads → IsCut t.cut → AreOnDisk t.cut t.writes → SamePairs writes (pairs_of t.cut t.writes)
    → (call : Call) (caller : Caller) (now : Time) (reply : Reply) → Does (may_be t) t.writes call caller now reply → DoesOnMaps t.cut reads writes call caller now reply
call-carried t reads writes among cut on same call caller now reply does = record {
  op = λ m sound agrees. subst (λ (V : View). Op call caller now (tree_at t.cut m) reply (tree_of V)) (sym (shown m).disk) (does.op (view_of t.cut m) (before m sound agrees));
  sound = λ m sound agrees. record {
    cut = sound.cut;
    whole = sound.whole;
    layout = sound.layout;
    disk = sound.disk;
    small = sound.small;
    described = (shown m).description ∙ sound.described;
    sound = subst IsSoundView (sym (shown m).disk) (does.sound (view_of t.cut m) (before m sound agrees));
  };
  description = λ m sound. (shown m).description;
}
  where
    shown : (m : Map) → ShowsWrites t.cut m writes t.writes
    shown m = writes-show t.cut m writes t.writes cut on same

    before : (m : Map) → HasSoundTree t.cut m → Agrees m reads → may_be t (view_of t.cut m)
    before m sound agrees = record { map = m; sound = sound; gives = λ a v is. gives-agrees m reads agrees a v (among a v is); is = refl }
