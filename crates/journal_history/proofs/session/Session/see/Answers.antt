use Rattle.std.proofs.Common.{◌≡◌, ◌≤◌, ap, subst, length, ◌∙◌}
use Rattle.journal_world.specs.Histories.{commits_of}
use Rattle.journal_history.specs.Tokens.{SessionState, made}
use Rattle.journal_history.proofs.Committing.{exact_at}
use Rattle.journal_history.proofs.session.Session.see.Goals as goal

pub returns-clause-exact : goal.returns-clause-exact
returns-clause-exact g c =
    let front = c.args.front.now in
    let seen = c.see.new.self in
    let before : SessionState = record { number = c.self.inside.token.number; mine = c.self.inside.mine; seen = c.self.inside.seen } in
    subst (λ (s : SessionState). length s.seen ≤ length front → length (commits_of s.number front) ≡ made s → commits_of before.number seen ≡ commits_of before.number before.mine) c.self.view_is
    (λ less as_many.
    let whole : seen ≡ front = c.see.ensures.whole less in
    exact_at before seen c.self.invariant.own c.see.ensures.this (ap (λ h. length (commits_of before.number h)) whole ∙ as_many))
