use Rattle.std.proofs.Common.{refl, sym, arith}
use Rattle.journal_world.specs.Maps.{Transaction}
use Rattle.journal_world.specs.Histories.Entry.{commit}
use Rattle.journal_world.proofs.SessionCommits.{length-commits-le, length-commits_of-le}
use Rattle.journal_history.specs.Tokens.{made, next_transaction}
use Rattle.journal_history.proofs.Growth.{may_commit}
use Rattle.journal_history.proofs.Committing.{slice_get-last, count-last, receipt_for, session_after, commits_next, whole_after_commit}
use Rattle.journal_history.proofs.writer.Writer.commit.Goals as goal

pub add_after-requires-clause-may : goal.add_after-requires-clause-may
add_after-requires-clause-may g c =
    let t : Transaction = next_transaction c.args.session.now (g.T.Recorded.reads c.args.transaction.now) (g.T.Recorded.writes c.args.transaction.now) in
    let as_many = rw (← c.self.view_is) at c.requires.own in
    let asked = c.numbered-numbered.ensures in
    rw (asked.session, asked.number, asked.transaction)
    (may_commit g.R.MapRule.statement c.self.inside.front t c.self.invariant.begun (rw c.self.invariant.on_disk c.requires.read) (rw c.self.invariant.on_disk c.requires.written) (sym as_many)
    (rw (← c.self.view_is) at c.requires.unfenced) (rw (← c.self.view_is) at c.requires.agrees) (rw (← c.self.view_is) at c.requires.rule))

pub note_commit-requires-clause-room : goal.note_commit-requires-clause-room
note_commit-requires-clause-room g c =
    let room = rw (← c.self.view_is) at c.requires.room in
    let as_many = rw (← c.self.view_is) at c.requires.own in
    omega (arith, as_many, length-commits_of-le c.args.session.now.number c.self.inside.front, room)

pub note_commit-requires-clause-one_more : goal.note_commit-requires-clause-one_more
note_commit-requires-clause-one_more g c =
    let session = c.args.session.now in
    let asked = c.numbered-numbered.ensures in
    let added = rw (asked.session, asked.number, asked.transaction) at c.in_ok-front.ensures.added in
    let later = rw c.front.ensures at c.in_ok-front.ensures.later in
    let as_many = rw (← c.self.view_is) at c.requires.own in
    rw added
    (session_after session c.self.inside.front (g.T.Recorded.reads c.args.transaction.now) (g.T.Recorded.writes c.args.transaction.now) asked.own later as_many g.J.Naming.layout (made session) refl c.self.invariant.begun c.self.invariant.on_disk)

pub following-self-inside-requires : goal.following-self-inside-requires
following-self-inside-requires g c =
    let room = rw (← c.self.view_is) at c.requires.room in
    omega (arith, length-commits-le c.self.inside.front, c.self.invariant.counted, room)

pub new-requires-clause-stands : goal.new-requires-clause-stands
new-requires-clause-stands g c =
    let t : Transaction = next_transaction c.args.session.now (g.T.Recorded.reads c.args.transaction.now) (g.T.Recorded.writes c.args.transaction.now) in
    let asked = c.numbered-numbered.ensures in
    let added = rw (asked.session, asked.number, asked.transaction) at c.in_ok-front.ensures.added in
    (t, rw (added, c.len-place.ensures.length) (slice_get-last c.self.inside.front (commit t)))

pub new-requires-clause-counted : goal.new-requires-clause-counted
new-requires-clause-counted g c =
    let t : Transaction = next_transaction c.args.session.now (g.T.Recorded.reads c.args.transaction.now) (g.T.Recorded.writes c.args.transaction.now) in
    let asked = c.numbered-numbered.ensures in
    let added = rw (asked.session, asked.number, asked.transaction) at c.in_ok-front.ensures.added in
    rw (c.following-self-inside.ensures, added, c.len-place.ensures.length) (count-last c.self.inside.front t c.self.inside.commits c.self.invariant.counted)

pub invariant_of-self : goal.invariant_of-self
invariant_of-self g c =
    let t : Transaction = next_transaction c.args.session.now (g.T.Recorded.reads c.args.transaction.now) (g.T.Recorded.writes c.args.transaction.now) in
    let asked = c.numbered-numbered.ensures in
    let added = rw (asked.session, asked.number, asked.transaction) at c.in_ok-front.ensures.added in
    rw (c.following-self-inside.ensures, added)
    (whole_after_commit g.J.Naming.layout c.self.inside.front c.self.inside.commits c.self.inside.mark c.self.inside.published c.self.invariant t)

pub returns-clause-committed : goal.returns-clause-committed
returns-clause-committed g c =
    let asked = c.numbered-numbered.ensures in
    let added = rw (asked.session, asked.number, asked.transaction) at c.in_ok-front.ensures.added in
    let later = rw c.front.ensures at c.in_ok-front.ensures.later in
    let as_many = rw (← c.self.view_is) at c.requires.own in
    rw (c.note_commit.ensures.session, ← c.self.view_is)
    (commits_next c.args.session.now c.self.inside.front (g.T.Recorded.reads c.args.transaction.now) (g.T.Recorded.writes c.args.transaction.now) asked.own later as_many c.in_ok-front.front added)

pub returns-clause-receipt : goal.returns-clause-receipt
returns-clause-receipt g c =
    let t : Transaction = next_transaction c.args.session.now (g.T.Recorded.reads c.args.transaction.now) (g.T.Recorded.writes c.args.transaction.now) in
    let asked = c.numbered-numbered.ensures in
    let added = rw (asked.session, asked.number, asked.transaction) at c.in_ok-front.ensures.added in
    rw (c.new.ensures, c.following-self-inside.ensures, c.len-place.ensures.length, ← c.self.view_is)
    (receipt_for c.self.inside.front t c.self.inside.commits c.self.invariant.counted c.in_ok-front.front added)
