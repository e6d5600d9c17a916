-- A call that shows its tree by steps leaves a sound disk.
use Rattle.std.proofs.Common.{◌≤◌, ◌+◌, sym, ap, subst, ◌∙◌}
use Rattle.journal_tree.specs.Rule.{HasTree}
use Rattle.journal_tree.specs.Fit.{HasFit}
use Rattle.journal_tree.proofs.Keeping.{keeps-trees, keeps-fit}
use Rattle.journal_treestore.specs.declared.place.TheConstants.{MOST_DISK_BLOCKS, MOST_NUMBERS}
use Rattle.journal_treestore.specs.Views.{tree_of}
use Rattle.journal_treestore.specs.Steps.{CallsStaySound}

pub calls-stay-sound : CallsStaySound
calls-stay-sound V W T call c now reply callable caller time sound form op shows = record {
  few_numbers = subst (λ n. n ≤ MOST_NUMBERS) (sym form.numbers) sound.few_numbers;
  few_blocks = subst (λ n. n ≤ MOST_DISK_BLOCKS) (sym (ap (λ n. n + W.data_blocks) form.first_data ∙ ap (λ n. V.first_data + n) form.data_blocks)) sound.few_blocks;
  no_data = subst (λ n. 1 ≤ n) (sym form.first_data) sound.no_data;
  tree = subst HasTree (sym shows.tree) (keeps-trees call c now (tree_of V) T reply sound.tree op);
  fit = subst HasFit (sym shows.tree) (keeps-fit call c now (tree_of V) T reply callable caller time sound.tree sound.fit op);
  inodes = shows.inodes;
  hung = shows.hung;
}
