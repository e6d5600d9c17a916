use Rattle.std.proofs.Common.{◌≡◌, ◌∙◌, sym, ap, IsTrue}
use Rattle.journal_block.specs.declared.update.Update.{Update}
use Rattle.journal_circ.specs.Ring.{Ring}
use Rattle.journal_form.proofs.Steps.{stays_at_rest, same_read, is_logged, stays_on, leaves_end}
use Rattle.journal_form.proofs.emptying.install_update.Goals as goal

pub returns-in_err-block-clause-crash : goal.returns-in_err-block-clause-crash
returns-in_err-block-clause-crash g c honest =
    stays_at_rest c.args.circ.now c.read_logged.new.self.disk.past c.requires.rests honest (c.in_err-block.ensures.same honest)

pub put_home-requires-clause-logged : goal.put_home-requires-clause-logged
put_home-requires-clause-logged g c honest =
    let old = c.args.circ.now in
    let mid = c.read_logged.new.self in
    let was : IsTrue old.disk.honest = sym c.in_ok-block.ensures.keeps.honest ∙ honest in
    let u : Update = record { block = c.in_ok-block.block; bytes = c.read_logged.new.into } in
    is_logged old mid c.in_ok-block.ensures.ok (c.in_ok-block.ensures.same was) c.args.position u
    c.requires.from_start c.requires.before_end (c.in_ok-block.ensures.update was)

pub returns-clause-crash : goal.returns-clause-crash
returns-clause-crash g c honest =
    let old = c.args.circ.now in
    let mid = c.read_logged.new.self in
    let new = c.put_home.new.self.disk.past in
    let past = c.in_ok-block.ensures.same honest in
    let same = same_read old mid c.in_ok-block.ensures.ok past in
    let read = stays_at_rest old mid.disk.past c.requires.rests honest past in
    let now : IsTrue mid.disk.honest = c.in_ok-block.ensures.keeps.honest ∙ honest in
    let at_end : mid.extent.coming ≡ mid.extent.end =
    ap (λ (r : Ring). r.extent.coming) c.in_ok-block.ensures.ok ∙ c.requires.rests.coming ∙ sym (ap (λ (r : Ring). r.extent.end) c.in_ok-block.ensures.ok) in
    stays_on old mid same new read
    (leaves_end mid new mid.extent.coming at_end (c.put_home.ensures.crash.moments now) (c.put_home.ensures.crash.label.moments now))
