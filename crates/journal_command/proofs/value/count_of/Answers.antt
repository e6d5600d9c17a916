use Rattle.std.proofs.Common.{◌∙◌, sym, arith}
use Rattle.std.proofs.lemmas.Fmt.{decimal_injective}
use Rattle.journal_command.proofs.value.count_of.Goals as goal
use Rattle.journal_command.proofs.value.count_of.Goals.{then-count-lt1-via-then-count-lt1, then-count-lt1-via-else-count-lt1+then-count-gt-LONGEST}

pub returns-then-count-lt1 : goal.returns-then-count-lt1
returns-then-count-lt1 c count some most is =
    let found = c.in_ok-count.ensures.found in
    let same = decimal_injective c.in_ok-count.field-0 count (omega (arith, found.0)) (omega arith) (sym found.1 ∙ is) in
    elim c.then-count-lt1.branch [ then-count-lt1-via-then-count-lt1 w ↦ omega arith | then-count-lt1-via-else-count-lt1+then-count-gt-LONGEST w ↦ omega arith ]
