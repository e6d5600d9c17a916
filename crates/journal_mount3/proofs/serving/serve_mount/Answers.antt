use Rattle.std.proofs.Common.{ℕ, List, ap, ◌∙◌}
use Rattle.journal_mount_wire.specs.Arguments.{mount_call_of}
use Rattle.journal_mount_wire.specs.Mounts as wire
use Rattle.journal_mount3.proofs.Finding.{root_is}
use Rattle.journal_mount3.proofs.serving.serve_mount.Goals as goal

pub returns-clause-exact : goal.returns-clause-exact
returns-clause-exact c = c.answer.ensures.exact ∙ ap (λ (r : List ℕ). wire.mount_text r (mount_call_of c.args.call.now)) root_is
