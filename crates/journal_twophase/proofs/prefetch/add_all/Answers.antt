use Rattle.std.proofs.Common.{◌≡◌, ◌∷◌, List, None, IsTrue, subst, sym}
use Rattle.std.specs.Vec.Iter.{into_iter_items}
use Rattle.journal_world.specs.Maps.{Pair, value_among, is_object}
use Rattle.journal_twophase.specs.Prefetches.{onto, IsAmong}
use Rattle.journal_twophase.proofs.Prefetching.{found_one, kept_one, first_of, rest_of}
use Rattle.journal_twophase.proofs.prefetch.add_all.Goals as goal

pub loop-pair-preserved : goal.loop-pair-preserved
loop-pair-preserved c =
    let all = c.loop-pair.invariant in
    let p : Pair = c.in-Some.pair in
    let rest = into_iter_items c.next.new.self in
    let steps : into_iter_items c.loop-pair.pair-iterator ≡ p ∷ rest = c.in-Some.ensures.steps.0 in
    let added = c.insert.ensures in
    let absent : value_among c.args.found.now p.0 ≡ None = first_of (λ (q : Pair). value_among c.args.found.now q.0 ≡ None) p _ rest steps all.absent in
    record {
      found = λ after go. all.found after
          (subst (λ (ps : List Pair). IsAmong after (onto ps c.loop-pair.found)) (sym steps)
          (found_one p c.loop-pair.found c.insert.new.self rest after c.insert.result added.ok added.err added.err_only_if_absent go));
      kept = kept_one p c.args.found.now c.loop-pair.found c.insert.new.self c.insert.result added.ok added.err absent all.kept;
      absent = rest_of (λ (q : Pair). value_among c.args.found.now q.0 ≡ None) p _ rest steps all.absent;
      objects = λ layout before each.
          let both = all.objects layout before each in (
            added.objects layout both.0 (first_of (λ (q : Pair). IsTrue (is_object layout q)) p _ rest steps both.1),
            rest_of (λ (q : Pair). IsTrue (is_object layout q)) p _ rest steps both.1,
          );
    }
