use Rattle.std.proofs.Common.{ℕ, refl, ◌≡◌, ◌<◌, ◌≤◌, ◌-◌, Some, sym, ap, subst, ◌∙◌, IsTrue}
use Rattle.std.specs.List.{slice_get}
use Rattle.journal_disk.specs.Disks.{read_of}
use Rattle.journal_circ.specs.Log.{label_of}
use Rattle.journal_circ.specs.Ring.{Ring, log_of}
use Rattle.journal_circ.proofs.Forms.{form_bytes}
use Rattle.journal_circ.proofs.Logs.{update_at_position}
use Rattle.journal_circ.proofs.Steps.{ring}
use Rattle.journal_circ.proofs.circ.Circ.read_logged.Goals as goal

pub returns-clause-update : goal.returns-clause-update
returns-clause-update g c =
    let s = c.self.inside in
    let old : Ring = ring (g.D.BlockDisk.state s.device.disk) s.header s.tags (label_of s.start_block) s.sealed s.extent s.next s.device.faulted in
    let from : s.extent.start ≤ c.args.position = subst (λ (r : Ring). r.extent.start ≤ c.args.position) (sym c.self.view_is) c.requires.from_start in
    let below : c.args.position < s.next = subst (λ (r : Ring). c.args.position < r.next) (sym c.self.view_is) c.requires.put in
    subst (λ (r : Ring). IsTrue r.disk.honest → slice_get (log_of r) (c.args.position - r.extent.start) ≡ Some (record { block = c.home_at.result; bytes = c.put_back.new.block })) c.self.view_is
    (λ honest. update_at_position old c.args.position c.home_at.result c.put_back.new.block from below
    c.home_at.ensures
    (c.put_back.ensures ∙ form_bytes s.header s.header (read_of (g.D.BlockDisk.state s.device.disk).past) (λ (_ : ℕ). c.read.new.into) c.args.position refl refl
    (c.in_ok-read.ensures.value honest ∙ ap (read_of (g.D.BlockDisk.state s.device.disk).past) c.log_block.ensures)))
