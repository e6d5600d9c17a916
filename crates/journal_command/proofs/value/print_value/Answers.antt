use Rattle.std.proofs.Common.{◌≡◌, ◌≢◌, ◌<◌, length, arith}
use Rattle.std.proofs.KnownBytes.{Appends-trans}
use Rattle.std.proofs.lemmas.Bool.Decides.{nat_tests}
use Rattle.std.proofs.lemmas.List.Elements.{All-from_get_or, recursion_from_All}
use Rattle.journal_command.proofs.Printing.{text_of-last, text_of-next, Spells-text_of}
use Rattle.journal_command.proofs.value.print_value.Goals as goal

pub loop-byte-preserved-in_ok-write_all : goal.loop-byte-preserved-in_ok-write_all
loop-byte-preserved-in_ok-write_all g c =
    let before = c.loop-byte.invariant in
    let some : length c.in-Some.more.now ≢ 0 = grind (arith, nat_tests) in (
      _,
      Appends-trans _ _ _ _ _ before.1 (Appends-trans _ _ _ _ _ c.in_ok-print_run.ensures c.in_ok-write_all.ensures.bytes),
      text_of-next c.args.value.now c.loop-byte.rest.now c.in-Some.more.now before.0 _ before.2 c.in-Some.ensures.0 some,
    )

pub loop-byte-preserved : goal.loop-byte-preserved
loop-byte-preserved g c =
    let before = c.loop-byte.invariant in
    let none : length c.in-Some.more.now ≡ 0 = grind (arith, nat_tests) in
    (_, Appends-trans _ _ _ _ _ before.1 c.in_ok-print_run.ensures, text_of-last c.args.value.now c.loop-byte.rest.now c.in-Some.more.now before.0 _ before.2 c.in-Some.ensures.0 none)

pub returns-clause-spells : goal.returns-clause-spells
returns-clause-spells g c some fits =
    let value = c.args.value.now in
    Spells-text_of value (recursion_from_All (λ b. b < 256) value (All-from_get_or (λ b. b < 256) value 0 (λ i h. omega (arith, c.type_inv.value i)))) some fits
