use Rattle.std.proofs.Common.{◌≤◌, refl, sym, subst}
use Rattle.journal_world.specs.declared.layout.TheConstants.{MIN_BLOCKS}
use Rattle.journal_script.proofs.mounted.close.Goals as goal

pub next_after-requires : goal.next_after-requires
next_after-requires g c = record {
  to_mend = (subst (λ n. MIN_BLOCKS ≤ n) (sym c.in-Ok.ensures.size) c.requires.in_range, c.in-Ok.ensures.mendable refl);
}
