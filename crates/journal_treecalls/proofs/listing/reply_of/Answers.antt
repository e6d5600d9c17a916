use Rattle.std.proofs.Common.{refl, true}
use Rattle.journal_treecalls.proofs.Lining.{reply-some, reply-none}
use Rattle.journal_treecalls.proofs.listing.reply_of.Goals as goal

pub returns-in-Some : goal.returns-in-Some
returns-in-Some c = reply-some c.args.directory c.args.page c.in-Some._room (record { directory = c.args.directory; lines = c.args.page.lines; is_end = true }) c.in-Some.is refl refl refl

pub returns-in-None : goal.returns-in-None
returns-in-None c = reply-none c.args.directory c.args.page c.full_reply.result c.in-None.is c.full_reply.ensures
