use Rattle.std.proofs.Common.{arith}
use Rattle.std.proofs.lemmas.Bool.Decides.{nat_tests}
use Rattle.journal_command.proofs.Terms.{no_bytes_fit, adds_bytes}
use Rattle.journal_command.proofs.value.ValueRoom.push_bytes.Goals as goal

pub returns-in_default-byte_of-clause-none : goal.returns-in_default-byte_of-clause-none
returns-in_default-byte_of-clause-none c _ =
    let long = c.in-len2-up.len_at_least in
    no_bytes_fit _ _ _ _ c.requires c.loop-rest.invariant (λ e. absurd (omega arith))
    (λ byte small digits two fits. c.in_default-byte_of.ensures byte small digits)

pub returns-then-len-eq-LONGEST-clause-none : goal.returns-then-len-eq-LONGEST-clause-none
returns-then-len-eq-LONGEST-clause-none c _ =
    let long = c.in-len2-up.len_at_least in
    no_bytes_fit _ _ _ _ c.requires c.loop-rest.invariant (λ e. absurd (omega arith))
    (λ byte small digits two fits. omega (arith, fits, c.loop-rest.self.bytes.ok.0))

pub returns-then-is_empty-clause-added : goal.returns-then-is_empty-clause-added
returns-then-is_empty-clause-added c some =
    adds_bytes _ _ _ _ c.loop-rest.invariant (grind (arith, nat_tests)) (grind (arith, nat_tests))

pub returns-then-is_empty-clause-none : goal.returns-then-is_empty-clause-none
returns-then-is_empty-clause-none c none =
    no_bytes_fit _ _ _ _ c.requires c.loop-rest.invariant (grind (arith, nat_tests))
    (λ byte small digits two fits. omega (arith, two, c.in_default.len_below))

pub returns-else-is_empty-clause-none : goal.returns-else-is_empty-clause-none
returns-else-is_empty-clause-none c _ =
    no_bytes_fit _ _ _ _ c.requires c.loop-rest.invariant (grind (arith, nat_tests))
    (λ byte small digits two fits. omega (arith, two, c.in_default.len_below))
