use Rattle.std.proofs.Common.{ap}
use Rattle.journal_twophase.specs.Transactions.{TxnState}
use Rattle.journal_twophase.specs.Prefetches.{IsNew}
use Rattle.journal_twophase.proofs.Prefetching.{all_of_wanted, found_read, reads_only, passes_found, passes_written, adds_only}
use Rattle.journal_twophase.proofs.txn.Txn.prefetch.Goals as goal

pub add_all-requires : goal.add_all-requires
add_all-requires g c =
    let all_new = all_of_wanted (IsNew c.args.addrs.now c.args.found.now c.args.self.now.writes) c.want_all-wanted.result.items c.read_wanted-read.result.items c.want_all-wanted.ensures.all_new
    c.read_wanted-read.ensures.wanted in
    record { absent = λ k d lt. (all_new k d lt).absent }

pub returns-clause-found : goal.returns-clause-found
returns-clause-found g c =
    found_read g.J.Naming.layout c.args.addrs.now c.args.self.now c.want_all-wanted.new.self c.read_wanted-read.new.self c.read_wanted-read.result.items c.args.found.now c.add_all.new.found
    (ap (λ (t : TxnState). t.reads) c.want_all-wanted.ensures.others) c.read_wanted-read.ensures.learns c.add_all.ensures.found

pub returns-clause-asked : goal.returns-clause-asked
returns-clause-asked g c =
    reads_only g.J.Naming.layout c.args.addrs.now c.args.self.now c.want_all-wanted.new.self c.read_wanted-read.new.self c.read_wanted-read.result.items c.args.found.now c.add_all.new.found
    (ap (λ (t : TxnState). t.reads) c.want_all-wanted.ensures.others) c.read_wanted-read.ensures.learns
    (all_of_wanted (IsNew c.args.addrs.now c.args.found.now c.args.self.now.writes) c.want_all-wanted.result.items c.read_wanted-read.result.items c.want_all-wanted.ensures.all_new c.read_wanted-read.ensures.wanted)

pub returns-clause-unfound : goal.returns-clause-unfound
returns-clause-unfound g c =
    passes_found g.J.Naming.layout c.args.addrs.now c.args.self.now c.want_all-wanted.new.self c.read_wanted-read.new.self c.read_wanted-read.result.items c.args.found.now c.add_all.new.found
    (ap (λ (t : TxnState). t.reads) c.want_all-wanted.ensures.others) c.read_wanted-read.ensures.learns
    (all_of_wanted (IsNew c.args.addrs.now c.args.found.now c.args.self.now.writes) c.want_all-wanted.result.items c.read_wanted-read.result.items c.want_all-wanted.ensures.all_new c.read_wanted-read.ensures.wanted)

pub returns-clause-unwritten : goal.returns-clause-unwritten
returns-clause-unwritten g c =
    passes_written g.J.Naming.layout c.args.addrs.now c.args.self.now c.want_all-wanted.new.self c.read_wanted-read.new.self c.read_wanted-read.result.items c.args.found.now c.add_all.new.found
    (ap (λ (t : TxnState). t.reads) c.want_all-wanted.ensures.others) c.read_wanted-read.ensures.learns
    (all_of_wanted (IsNew c.args.addrs.now c.args.found.now c.args.self.now.writes) c.want_all-wanted.result.items c.read_wanted-read.result.items c.want_all-wanted.ensures.all_new c.read_wanted-read.ensures.wanted)

pub returns-clause-added : goal.returns-clause-added
returns-clause-added g c =
    adds_only g.J.Naming.layout c.args.addrs.now c.args.self.now c.want_all-wanted.new.self c.read_wanted-read.new.self c.read_wanted-read.result.items c.args.found.now c.add_all.new.found
    (ap (λ (t : TxnState). t.reads) c.want_all-wanted.ensures.others) c.read_wanted-read.ensures.learns
    (all_of_wanted (IsNew c.args.addrs.now c.args.found.now c.args.self.now.writes) c.want_all-wanted.result.items c.read_wanted-read.result.items c.want_all-wanted.ensures.all_new c.read_wanted-read.ensures.wanted) c.add_all.ensures.found c.add_all.ensures.kept
