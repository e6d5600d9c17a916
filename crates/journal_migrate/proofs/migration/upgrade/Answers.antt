use Rattle.std.proofs.Common.{◌≡◌, ◌∷◌, [], IsTrue, sym, ap, subst, ◌∙◌, rules}
use Rattle.std.proofs.lemmas.Result.{on_ok_weaker, on_err_weaker}
use Rattle.journal_world.specs.declared.refusal.Refusal.{Refusal}
use Rattle.journal_tail.proofs.Exits.{if_err}
use Rattle.journal_history.specs.Tokens.{SessionState}
use Rattle.journal_memory.specs.Causes.{CauseState}
use Rattle.journal_world.specs.Addresses.{slot_of}
use Rattle.journal_lockmap.specs.Numbers.{slots_of}
use Rattle.journal_inode.specs.Places.{addr_of}
use Rattle.journal_inode.specs.Places.Object.{superblock}
use Rattle.journal_memory.specs.SlotCounts.{AgreeWith}
use Rattle.journal_parts.specs.CoreStates.{CoreState, disk_of, next_of}
use Rattle.journal_migrate.specs.Migrations.{IsUpgradeRefusal}
use Rattle.journal_migrate.proofs.Drafting.{at_draft, keeps_rule, under, covered, apart, awaits, commit_refused}
use Rattle.journal_migrate.proofs.Bringing.{no_commit, left_committed, two_marked}
use Rattle.journal_migrate.proofs.migration.upgrade.Goals as goal

pub commit_step-requires : goal.commit_step-requires
commit_step-requires g c =
    let is_one : IsTrue c.in_ok-draft.field-0 = search rules in
    let drafts = c.in_ok-draft.ensures.drafted is_one in
    let history : c.draft.new.core.history ≡ c.session_step.new.self.history = ap (λ (k : CoreState). k.history) c.in_ok-draft.ensures.others in
    let one : slots_of c.draft.new.held ≡ slot_of g.J.Naming.layout (addr_of superblock) ∷ [] = ap slots_of c.in_ok-draft.ensures.held ∙ c.requires.held in
    record {
      rule = λ m blocks sound agrees. keeps_rule c.session_step.new.self.history c.draft.new.transaction m drafts sound agrees;
      under = under g.J.Naming.layout c.draft.new.held one c.session_step.new.self.history c.draft.new.transaction drafts (subst (λ h. AgreeWith g.J.Naming.layout h c.draft.new.held) history c.in_ok-draft.ensures.agree);
      covered = covered g.J.Naming.layout c.draft.new.held one c.session_step.new.self.history c.draft.new.transaction drafts;
      apart = apart g.J.Naming.layout c.draft.new.held one;
    }

pub returns-in_err-commit_step-clause-refusal : goal.returns-in_err-commit_step-clause-refusal
returns-in_err-commit_step-clause-refusal g c =
    let first = c.args.core.now in
    let begins = c.requires.begins.2 in
    let begun = c.in_ok-session.ensures.begun in
    let is_one : IsTrue c.in_ok-draft.field-0 = search rules in
    let draft = at_draft _ _ first c.session_step.new.self c.draft.new.core c.in_ok-session.session c.draft.new.transaction begins begun
    c.in_ok-draft.ensures.reads c.in_ok-draft.ensures.others (c.in_ok-draft.ensures.drafted is_one) in
    let refused = IsUpgradeRefusal (next_of first.objects) (disk_of first) (disk_of c.commit_step.new.self) in
    if_err c.from_residual-in_err-commit_step.result _ refused c.from_residual-in_err-commit_step.ensures.1
    (λ (e : Refusal CauseState) is. subst refused (sym is)
    (commit_refused first c.draft.new.core c.commit_step.new.self c.in_ok-session.session c.draft.new.transaction begins.map _ begins.history draft.0
    c.in_ok-draft.ensures.running draft.1
    (ap (λ (s : SessionState). s.mine) begun.is ∙ sym draft.0.history) (ap (λ (s : SessionState). s.number) begun.is ∙ begins.next)
    c.in_err-commit_step.field-0.0 c.in_err-commit_step.ensures.refusal))

pub make_stable-requires : goal.make_stable-requires
make_stable-requires g c =
    let first = c.args.core.now in
    let begins = c.requires.begins.2 in
    let is_one : IsTrue c.in_ok-draft.field-0 = search rules in
    let draft = at_draft _ _ first c.session_step.new.self c.draft.new.core c.in_ok-session.session c.draft.new.transaction begins c.in_ok-session.ensures.begun
    c.in_ok-draft.ensures.reads c.in_ok-draft.ensures.others (c.in_ok-draft.ensures.drafted is_one) in
    record {
      awaits = awaits first c.draft.new.core c.commit_step.new.self c.in_ok-session.session c.commit_step.new.session c.draft.new.transaction begins.map _ begins.history
          draft.0 draft.1 c.in_ok-commit_step.ensures.committed c.in_ok-commit_step.ensures.running;
    }

pub returns-clause-upgraded : goal.returns-clause-upgraded
returns-clause-upgraded g c =
    let first = c.args.core.now in
    let begins = c.requires.begins.2 in
    let is_one : IsTrue c.in_ok-draft.field-0 = search rules in
    let draft = at_draft _ _ first c.session_step.new.self c.draft.new.core c.in_ok-session.session c.draft.new.transaction begins c.in_ok-session.ensures.begun
    c.in_ok-draft.ensures.reads c.in_ok-draft.ensures.others (c.in_ok-draft.ensures.drafted is_one) in
    λ trusted. on_ok_weaker c.make_stable.result
    (λ marked files has. two_marked _ _ first begins c.draft.new.core c.commit_step.new.self c.in_ok-session.session c.commit_step.new.session c.draft.new.transaction
    draft.0 draft.1 c.in_ok-commit_step.ensures.committed trusted files has c.make_stable.new.core marked)
    c.make_stable.ensures.marked

pub returns-clause-left : goal.returns-clause-left
returns-clause-left g c =
    let first = c.args.core.now in
    let begins = c.requires.begins.2 in
    let is_one : IsTrue c.in_ok-draft.field-0 = search rules in
    let draft = at_draft _ _ first c.session_step.new.self c.draft.new.core c.in_ok-session.session c.draft.new.transaction begins c.in_ok-session.ensures.begun
    c.in_ok-draft.ensures.reads c.in_ok-draft.ensures.others (c.in_ok-draft.ensures.drafted is_one) in
    λ trusted. on_err_weaker c.make_stable.result
    (λ same files has. left_committed _ _ first begins c.draft.new.core c.commit_step.new.self c.in_ok-session.session c.commit_step.new.session c.draft.new.transaction
    draft.0 draft.1 c.in_ok-commit_step.ensures.committed trusted files has c.make_stable.new.core same)
    c.make_stable.ensures.same

pub returns-clause-unchanged : goal.returns-clause-unchanged
returns-clause-unchanged g c =
    let first = c.args.core.now in
    let begins = c.requires.begins.2 in
    let is_one : IsTrue c.in_ok-draft.field-0 = search rules in
    let draft = at_draft _ _ first c.session_step.new.self c.draft.new.core c.in_ok-session.session c.draft.new.transaction begins c.in_ok-session.ensures.begun
    c.in_ok-draft.ensures.reads c.in_ok-draft.ensures.others (c.in_ok-draft.ensures.drafted is_one) in
    λ trusted two. absurd (no_commit _ _ first begins c.draft.new.core c.draft.new.transaction draft.0 trusted draft.1 two)
