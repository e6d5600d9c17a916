use Rattle.std.proofs.Common.{sym, ◌∙◌, arith}
use Rattle.std.proofs.lemmas.Fmt.{decimal_injective}
use Rattle.journal_command.proofs.Terms.{no_run_fits, adds_run, filled_up}
use Rattle.journal_command.proofs.value.ValueRoom.push_run.Goals as goal

pub returns-in_default-clause-none : goal.returns-in_default-clause-none
returns-in_default-clause-none c _ =
    no_run_fits c.args.high c.args.low c.args.count.now c.args.self.now.bytes.items
    (λ byte count small some most digits number fits. c.in_default.ensures' count some most number)

pub returns-in_default-2-clause-none : goal.returns-in_default-2-clause-none
returns-in_default-2-clause-none c _ =
    let no_byte = rw c.in_default.is-0 at c.byte_of.ensures in
    no_run_fits c.args.high c.args.low c.args.count.now c.args.self.now.bytes.items
    (λ byte count small some most digits number fits. no_byte byte small digits)

pub returns-then-count-len-clause-none : goal.returns-then-count-len-clause-none
returns-then-count-len-clause-none c _ =
    let found = c.in-Some-Some.ensures' in
    no_run_fits c.args.high c.args.low c.args.count.now c.args.self.now.bytes.items
    (λ byte count small some most digits number fits.
    let same = decimal_injective c.in-Some-Some.count count (omega (arith, found)) (omega arith) (sym found.2 ∙ number) in
    omega (arith, c.args.self.now.bytes.ok.0))

pub returns-clause-added : goal.returns-clause-added
returns-clause-added c ok =
    let found = c.in-Some-Some.ensures' in
    let byte = c.in-Some-Some.ensures in
    let filled = rw (sym c.is_ok.ensures.value ∙ ok) at c.resize.ensures.items in
    adds_run _ _ c.in-Some-Some.byte c.in-Some-Some.count _ _ _ byte.1 found.2 byte.0 found.0 found.1
    (filled ∙ filled_up c.args.self.now.bytes.items _ _ _ _ c.len-2.ensures c.args.self.now.bytes.ok.0)
