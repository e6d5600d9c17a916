use Rattle.std.proofs.Common.{◌≡◌, ◌||◌, rules, ap, sym, ◌∙◌, map}
use Rattle.std.specs.Prelude.{not, bytes_eq}
use Rattle.journal_treerule.specs.Directories.{has_name}
use Rattle.journal_treerule.proofs.Naming.{has-key, has-insert}
use Rattle.journal_treerule.proofs.children.Names.add.Goals as goal

pub returns-clause-added : goal.returns-clause-added
returns-clause-added c =
    let same : c.in_ok-to_vec.field-0.items ≡ c.args.name.now = search rules in
    c.in_ok-insert.ensures.added ∙ ap not (sym (has-key (λ name. name.items) c.self.inside.set.keys c.in_ok-to_vec.field-0) ∙ ap (λ names. has_name names c.in_ok-to_vec.field-0.items) c.self.view_is ∙ ap (has_name c.args.self.now) same)

pub returns-clause-names : goal.returns-clause-names
returns-clause-names c = λ other.
    let same : c.in_ok-to_vec.field-0.items ≡ c.args.name.now = search rules in
    ap (λ ks. has_name (map (λ name. name.items) ks) other) c.in_ok-insert.ensures.keys
    ∙ has-insert (λ name. name.items) c.self.inside.set.keys c.in_ok-to_vec.field-0 other
    ∙ ap (λ names. bytes_eq c.in_ok-to_vec.field-0.items other || has_name names other) c.self.view_is
    ∙ ap (λ name. bytes_eq name other || has_name c.args.self.now other) same
