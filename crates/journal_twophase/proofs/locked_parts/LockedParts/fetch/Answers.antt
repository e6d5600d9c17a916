use Rattle.std.proofs.Common.{◌≡◌, ◌<◌, List, ℕ, All, map, subst, sym, rules}
use Rattle.journal_block.specs.declared.update.Update.{Update}
use Rattle.journal_twophase.proofs.Looking.{rooms_below}
use Rattle.journal_twophase.proofs.Failing.{noted_fetch}
use Rattle.journal_twophase.proofs.locked_parts.LockedParts.fetch.Goals as goal

pub fetch-requires : goal.fetch-requires
fetch-requires g c =
    let rooms = c.in_ok-fetch_buffers.field-0.items in
    let named : map (λ (u : Update). u.block) rooms ≡ c.args.blocks.now = search rules in
    record {
      blocks = rooms_below g.J.Naming.layout.blocks rooms (subst (λ (bs : List ℕ). All (λ b. b < g.J.Naming.layout.blocks) bs) (sym named) c.requires.below);
    }

pub returns-in-Err : goal.returns-in-Err
returns-in-Err g c = record { refusal = noted_fetch _ _ _ _ c.in-Err.ensures.event.refusal c.note_fault.ensures }
