use Rattle.journal_tree.proofs.Pages.{tells-pages, tells-pages-plus}
use Rattle.journal_tree.proofs.law.listings_are_pages.Goals as goal

pub returns : goal.returns
returns c = record { names = tells-pages; nodes = tells-pages-plus }
