use Rattle.std.proofs.Common.{◌≡◌, ℕ, List, map, true, subst}
use Rattle.std.specs.Prelude.{◌↔◌, IsTrue}
use Rattle.journal_treerule.specs.Directories.{has_name}
use Rattle.journal_treerule.proofs.Naming.{subset-names}
use Rattle.journal_treerule.proofs.children.Names.are_within.Goals as goal

pub returns : goal.returns
returns c =
    subst (λ names. IsTrue c.is_subset.result ↔ ((name : List ℕ) → has_name c.args.self.now name ≡ true → has_name names name ≡ true)) c.others.view_is
    (subst (λ names. IsTrue c.is_subset.result ↔ ((name : List ℕ) → has_name names name ≡ true → has_name (map (λ name. name.items) c.others.inside.set.keys) name ≡ true)) c.self.view_is
    (subset-names (λ name. name.items) c.self.inside.set.keys c.others.inside.set.keys c.is_subset.result c.is_subset.ensures))
