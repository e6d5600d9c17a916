use Rattle.std.proofs.Common.{◌≡◌, ◌++◌, List, append_assoc, subst, sym, ap, ◌∙◌}
use Rattle.journal_world.specs.Files.{shape}
use Rattle.journal_block.specs.declared.update.Update.{Update}
use Rattle.journal_memlog.specs.Logs.{LogState, appended}
use Rattle.journal_tail.specs.Tails.{TailState, MakeTheSame, TakesUpdates, updates_from}
use Rattle.journal_tail.specs.Homes.{AreHomes}
use Rattle.journal_tail.proofs.Tailing.{since_appended}
use Rattle.journal_tail.specs.ObjectTails.{blocks_of, known_updates, known_at, known_object, updates_with}
use Rattle.journal_tail.specs.Applying.{stored_log}
use Rattle.journal_tail.proofs.KnownObjects.{known_appended}
use Rattle.journal_tail.proofs.InPlace.{stored_appended, fresh_homes, fresh_room}
use Rattle.journal_tail.proofs.tail.Tail.apply.Goals as goal

pub store_standing-requires : goal.store_standing-requires
store_standing-requires c = c.requires.objects

pub append_reserved-requires-clause-homes : goal.append_reserved-requires-clause-homes
append_reserved-requires-clause-homes c =
    let old = c.args.self.now in let n = shape c.args.layout.now in
    subst (λ (t : TailState). AreHomes t.log.blocks c.prepared.inside.updates.items) (sym c.store_standing.ensures.stored)
    (subst (λ (us : List Update). AreHomes (blocks_of old) us) (sym c.prepared.view_is)
    (fresh_homes n old c.store_standing.ensures.sound c.args.writes.now c.args.prepared c.requires))

pub append_reserved-requires-clause-room : goal.append_reserved-requires-clause-room
append_reserved-requires-clause-room c =
    let old = c.args.self.now in let n = shape c.args.layout.now in
    subst (λ (t : TailState). TakesUpdates t.log c.prepared.inside.updates.items) (sym c.store_standing.ensures.stored)
    (subst (λ (us : List Update). TakesUpdates (stored_log n c.args.writes.now old.log) us) (sym c.prepared.view_is)
    (fresh_room n old c.store_standing.ensures.sound c.args.writes.now c.args.prepared c.requires))

pub returns-clause-log : goal.returns-clause-log
returns-clause-log c =
    let old = c.args.self.now in let n = shape c.args.layout.now in
    c.append_reserved.ensures.log
    ∙ ap (λ (us : List Update). record c.store_standing.new.self { log = appended c.store_standing.new.self.log us }) c.prepared.view_is
    ∙ ap (λ (t : TailState). record t { log = appended t.log c.args.prepared }) c.store_standing.ensures.stored
    ∙ ap (λ (l : LogState). record old { log = l }) (stored_appended n old.log c.store_standing.ensures.sound c.args.writes.now c.args.prepared)

pub returns-clause-since : goal.returns-clause-since
returns-clause-since c = λ from above below.
    let old = c.args.self.now in let n = shape c.args.layout.now in
    subst (λ (t : TailState). MakeTheSame (updates_from t.log from) (updates_from old.log from ++ updates_with n old c.args.writes.now c.args.prepared)) (sym (returns-clause-log c))
    (since_appended old.log (updates_with n old c.args.writes.now c.args.prepared) c.store_standing.ensures.sound from above below)

pub returns-clause-known : goal.returns-clause-known
returns-clause-known c = λ fetched a.
    let old = c.args.self.now in let n = shape c.args.layout.now in
    let all = updates_with n old c.args.writes.now c.args.prepared in
    subst (λ (t : TailState). known_at n fetched t a ≡ known_object n (known_updates fetched old ++ all) a) (sym (returns-clause-log c))
    (ap (λ (us : List Update). known_object n us a) (sym (append_assoc fetched old.cache (appended old.log all).updates))
    ∙ known_appended n (fetched ++ old.cache) old.log all a
    ∙ ap (λ (us : List Update). known_object n (us ++ all) a) (append_assoc fetched old.cache old.log.updates))
