use Rattle.std.proofs.Common.{◌≤◌, refl, arith}
use Rattle.journal_form.proofs.Steps.{stays_at_rest, stepped, brought_synced, brought_started, installed}
use Rattle.journal_form.proofs.emptying.empty.Goals as goal

pub returns-then-start-end-clause-crash : goal.returns-then-start-end-clause-crash
returns-then-start-end-clause-crash g c honest =
    stays_at_rest c.args.circ.now c.args.circ.now.disk.past c.requires.rests honest refl

pub returns-in_err-state-2-clause-crash : goal.returns-in_err-state-2-clause-crash
returns-in_err-state-2-clause-crash g c honest =
    let old = c.args.circ.now in
    let order : old.extent.start ≤ old.extent.end = omega (arith, c.start-start.ensures.start, c.start-start.ensures.order) in
    stepped old c.install_all.new.circ c.requires.rests order c.in_ok-state.ensures.home c.sync_homes.new.self honest c.in_err-state-2.ensures.crash

pub put_start-requires-clause-installed : goal.put_start-requires-clause-installed
put_start-requires-clause-installed g c =
    let old = c.args.circ.now in
    let order : old.extent.start ≤ old.extent.end = omega (arith, c.start-start.ensures.start, c.start-start.ensures.order) in
    let synced = brought_synced old c.install_all.new.circ c.requires.rests order c.in_ok-state.ensures.home c.sync_homes.new.self
    c.in_ok-state-2.ensures.ok c.in_ok-state-2.ensures.crash c.in_ok-state-2.ensures.log in
    installed old c.sync_homes.new.self c.requires.rests order synced c.end-end.result c.end-end.ensures.end

pub returns-in_err-state-3-clause-crash : goal.returns-in_err-state-3-clause-crash
returns-in_err-state-3-clause-crash g c honest =
    let old = c.args.circ.now in
    let order : old.extent.start ≤ old.extent.end = omega (arith, c.start-start.ensures.start, c.start-start.ensures.order) in
    let synced = brought_synced old c.install_all.new.circ c.requires.rests order c.in_ok-state.ensures.home c.sync_homes.new.self
    c.in_ok-state-2.ensures.ok c.in_ok-state-2.ensures.crash c.in_ok-state-2.ensures.log in
    stepped old c.sync_homes.new.self c.requires.rests order synced c.put_start.new.self honest c.in_err-state-3.ensures.crash

pub returns-in_err-sync_start-clause-crash : goal.returns-in_err-sync_start-clause-crash
returns-in_err-sync_start-clause-crash g c honest =
    let old = c.args.circ.now in
    let order : old.extent.start ≤ old.extent.end = omega (arith, c.start-start.ensures.start, c.start-start.ensures.order) in
    let synced = brought_synced old c.install_all.new.circ c.requires.rests order c.in_ok-state.ensures.home c.sync_homes.new.self
    c.in_ok-state-2.ensures.ok c.in_ok-state-2.ensures.crash c.in_ok-state-2.ensures.log in
    let started = brought_started old c.sync_homes.new.self c.requires.rests order synced c.put_start.new.self
    c.end-end.result c.in_ok-state-3.ensures.ok c.in_ok-state-3.ensures.crash c.in_ok-state-3.ensures.log in
    stepped old c.put_start.new.self c.requires.rests order started c.sync_start.new.self honest c.in_err-sync_start.ensures.crash

pub returns-clause-crash : goal.returns-clause-crash
returns-clause-crash g c honest =
    let old = c.args.circ.now in
    let order : old.extent.start ≤ old.extent.end = omega (arith, c.start-start.ensures.start, c.start-start.ensures.order) in
    let synced = brought_synced old c.install_all.new.circ c.requires.rests order c.in_ok-state.ensures.home c.sync_homes.new.self
    c.in_ok-state-2.ensures.ok c.in_ok-state-2.ensures.crash c.in_ok-state-2.ensures.log in
    let started = brought_started old c.sync_homes.new.self c.requires.rests order synced c.put_start.new.self
    c.end-end.result c.in_ok-state-3.ensures.ok c.in_ok-state-3.ensures.crash c.in_ok-state-3.ensures.log in
    stepped old c.put_start.new.self c.requires.rests order started c.sync_start.new.self honest c.in_ok-sync_start.ensures.crash
