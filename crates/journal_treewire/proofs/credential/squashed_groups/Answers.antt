use Rattle.std.proofs.Common.{◌≡◌, ◌≢◌, ◌<◌, ◌∙◌, length, sym, arith, below_more, get_or-set_other, get_or-set_same}
use Rattle.std.specs.Prelude.{map}
use Rattle.std.proofs.lemmas.List.{length-set, length-map, ext_get_or, get_or-map}
use Rattle.journal_tree.specs.Callers.{squashed_number}
use Rattle.journal_treewire.proofs.credential.squashed_groups.Goals as goal

pub loop-at-preserved : goal.loop-at-preserved
loop-at-preserved c = (
  length-set c.loop-at.squashed c.loop-at.at c.squashed_number.result ∙ c.loop-at.invariant.0,
  below_more _ _
      (λ k low. let ne : k ≢ c.loop-at.at = omega (arith, low) in rw get_or-set_other (c.loop-at.invariant.1 k low))
      (let inside : c.loop-at.at < length c.loop-at.squashed = omega (arith, c.loop-at.invariant.0, c.loop-at-test.true) in rw get_or-set_same c.squashed_number.ensures),
)

pub returns : goal.returns
returns c =
    let old = c.args.all.now in
    let new = c.loop-at.squashed in
    let long : length new ≡ length (map squashed_number old) = omega (arith, c.loop-at.invariant.0, c.told-all, length-map old squashed_number) in
    ext_get_or 0 new (map squashed_number old) long
    (λ k low. c.loop-at.invariant.1 k (omega (arith, low, c.loop-at.invariant.0, c.loop-at-test.false)) ∙ sym (get_or-map squashed_number old k 0 0 (omega (arith, low, c.loop-at.invariant.0, c.told-all))))
