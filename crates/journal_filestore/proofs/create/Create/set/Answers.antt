use Rattle.std.proofs.Common.{◌≡◌, sym, ap, ◌∙◌}
use Rattle.journal_filestore.specs.Handles.{time_of}
use Rattle.journal_filestore.specs.Operations.{is_too_big}
use Rattle.journal_filestore.proofs.Setting.{lacks_of, changed_of}
use Rattle.journal_filestore.proofs.Creations.{Makes-over_exists, Makes-over_too_big, Makes-over_no_space, Makes-over}
use Rattle.journal_filestore.proofs.create.Create.set.Goals as goal

pub returns-then-is_guarded-clause-makes : goal.returns-then-is_guarded-clause-makes
returns-then-is_guarded-clause-makes g c =
    Makes-over_exists _ _ c.args.settings (time_of c.args.self.now.moment) c.args.number c.args.file c.args.root c.requires.number c.args.is_guarded c.args.txn.now c.args.txn.now c.requires.writes c.if-is_guarded.true

pub returns-then-is_too_big-clause-makes : goal.returns-then-is_too_big-clause-makes
returns-then-is_too_big-clause-makes g c =
    let big : is_too_big g.V.Version.VERSION c.args.settings.size ≡ c.is_too_big.result = sym (c.is_too_big.ensures ∙ ap (λ v. is_too_big v c.args.settings.size) c.VERSION.ensures) in
    Makes-over_too_big _ _ c.args.settings (time_of c.args.self.now.moment) c.args.number c.args.file c.args.root c.requires.number c.args.is_guarded c.args.txn.now c.args.txn.now c.requires.writes c.if-is_guarded.false
    (big ∙ c.if-is_too_big.true)

pub returns-in-None-clause-makes : goal.returns-in-None-clause-makes
returns-in-None-clause-makes g c =
    let big : is_too_big g.V.Version.VERSION c.args.settings.size ≡ c.is_too_big.result = sym (c.is_too_big.ensures ∙ ap (λ v. is_too_big v c.args.settings.size) c.VERSION.ensures) in
    Makes-over_no_space _ _ c.args.settings (time_of c.args.self.now.moment) c.args.number c.args.file c.args.root c.requires.number c.args.is_guarded _ _ c.requires.writes c.if-is_guarded.false
    (big ∙ c.if-is_too_big.false) (lacks_of g.V.Version.VERSION _ _ _ c.args.number c.args.file _ _ _ _ c.in_ok-set_file.ensures.changes c.in-None.is)

pub returns-in-Some-clause-makes : goal.returns-in-Some-clause-makes
returns-in-Some-clause-makes g c =
    let big : is_too_big g.V.Version.VERSION c.args.settings.size ≡ c.is_too_big.result = sym (c.is_too_big.ensures ∙ ap (λ v. is_too_big v c.args.settings.size) c.VERSION.ensures) in
    Makes-over _ _ c.args.settings (time_of c.args.self.now.moment) c.args.number c.args.file c.args.root c.requires.number c.args.is_guarded _ _ c.in-Some.after _ c.if-is_guarded.false
    (big ∙ c.if-is_too_big.false) c.found.ensures (changed_of g.V.Version.VERSION _ _ _ c.args.number c.args.file _ _ _ _ c.in-Some.after c.in_ok-set_file.ensures.changes c.in-Some.is)
