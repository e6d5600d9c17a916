use Rattle.std.proofs.Common.{◌≡◌, ◌+◌, ◌<◌, length, ap, arith}
use Rattle.journal_memlog.specs.Logs.{LogState, next_position}
use Rattle.journal_memlog.specs.Index.{updates_of}
use Rattle.journal_memlog.proofs.Entries.{indexed_added, sound_on_disk}
use Rattle.std.proofs.lemmas.List.{length-map}
use Rattle.journal_memlog.specs.declared.entry.Entry.{Entry}
use Rattle.journal_memlog.proofs.mem_log.MemLog.push_logged.Goals as goal

pub invariant_of-self-2 : goal.invariant_of-self-2
invariant_of-self-2 g c =
    let entries = c.self.inside.entries.items in
    let on : c.args.update.block < c.self.inside.blocks = omega (arith, c.requires.on_disk, ap (λ (log : LogState). log.blocks) c.self.view_is) in
    let whole : c.self.inside.cut ≡ c.self.inside.start + length (updates_of entries) =
    omega (arith, c.requires.no_tail, ap (λ (log : LogState). log.cut) c.self.view_is, ap next_position c.self.view_is) in
    indexed_added _ _ _ _ _ entries c.self.inside.heads.items c.self.invariant _
    (record { update = c.args.update; earlier = c.index-earlier.result.now }) c.in_ok-push_back.ensures.items c.bucket_of-bucket.result _ _ _ _
    c.bucket_of-bucket.ensures c.index-earlier.ensures (omega (arith, whole, length-map entries (λ (e : Entry). e.update)))
    (sound_on_disk _ _ _ _ _ entries c.self.inside.heads.items c.self.invariant c.args.update on
    (omega (arith, c.requires.below, ap next_position c.self.view_is)) whole _)

pub returns-clause-sound : goal.returns-clause-sound
returns-clause-sound g c = (invariant_of-self-2 g c).sound
